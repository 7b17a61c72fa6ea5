use Rattle.std.proofs.Common.{◌≡◌}
use Rattle.std.specs.Prelude.{fold}
use Rattle.std.specs.List.{range_with_len}
use Rattle.register_file.specs.PoolReset.{queue_reset}
use Rattle.register_file.proofs.register_file.RegisterFile.reset_queues.Given as goal

abbrev pub invariant-loop-x : goal.invariant-loop-x
invariant-loop-x l = l.self ≡ fold queue_reset l.fn.self (range_with_len l.first l.x)
