use Rattle.std.proofs.Common.{◌≡◌, ◌+◌, ◌-◌, ◌/◌}
use Rattle.device_lock.specs.Watching.{marked, none_of, touched}
use Rattle.device_lock.proofs.alone.is_clear.Given as goal

abbrev pub invariant-loop-after : goal.invariant-loop-after
invariant-loop-after l =
    none_of (marked l.blocks) (l.at / 2048) (touched l.at l.len)
    ≡ none_of (marked l.blocks) (l.first + l.after) (touched l.at l.len - l.after)
