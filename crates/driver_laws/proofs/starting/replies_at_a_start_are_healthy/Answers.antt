use Rattle.driver_laws.proofs.Ground.{named_registers_reply, off_sides_are_seen_off}

pub returns : Rattle.driver_laws.proofs.starting.replies_at_a_start_are_healthy.Goals.returns
returns c = record { registers = named_registers_reply; off = off_sides_are_seen_off }
