use Rattle.driver_laws.proofs.Lent.{each_in_one_place, lent_is_out, out_is_lent}

pub returns : Rattle.driver_laws.proofs.blocks_out_are_lent_at_the_device.Goals.returns
returns c = record { lent = out_is_lent; known = lent_is_out; once = each_in_one_place }
