use Rattle.std.proofs.Common.{◌≡◌, ℕ, ◌||◌, drop}
use Rattle.device_lock.specs.Alone.{lent_by}
use Rattle.device_lock.specs.Watching.{marked}
use Rattle.device_lock.proofs.alone.lent_by.Given as goal

abbrev pub invariant-loop-entry : goal.invariant-loop-entry
invariant-loop-entry l =
    (number : ℕ)
    → (marked l.blocks number || lent_by l.pass (drop l.entry-index l.history) number) ≡ lent_by l.pass l.history number
