use Rattle.ring_laws.proofs.Limits.{alone_by_entries, beginning_alone, new_is_plain, plain_is_left_alone, rest_alone}

pub returns : Rattle.ring_laws.proofs.history.queue_is_left_alone_by_entries.Goals.returns
returns c = search (plain_is_left_alone, new_is_plain, alone_by_entries, beginning_alone, rest_alone)
