use Rattle.driver_laws.proofs.Parts.{retagged_same, same_delivers, same_is_legal, same_leads, same_sends}
use Rattle.std.proofs.{Common.arith, lemmas.Grind.common_steps}

pub returns : Rattle.driver_laws.proofs.starting.history_is_retagged.Goals.returns
returns c = grind (arith, common_steps, retagged_same, same_is_legal, same_leads, same_delivers, same_sends)
