use Rattle.std.proofs.Common.{◌≡◌}
use Rattle.std.specs.Prelude.{fold}
use Rattle.std.specs.List.{range_with_len}
use Rattle.register_file.specs.Mailbox.{done_reported}
use Rattle.register_file.proofs.register_file.RegisterFile.tell_resets_of.Given as goal

abbrev pub invariant-loop-v : goal.invariant-loop-v
invariant-loop-v l = l.self ≡ fold done_reported l.fn.self (range_with_len 0 l.v)
