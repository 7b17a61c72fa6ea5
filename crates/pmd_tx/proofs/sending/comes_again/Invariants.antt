use Rattle.std.proofs.Common.{◌≡◌, ◌+◌, ◌==◌, drop}
use Rattle.std.specs.List.{list_any}
use Rattle.pmd_access.specs.Bufs.{numbers_of}
use Rattle.pmd_tx.proofs.sending.comes_again.Given as goal

abbrev pub invariant-loop-later : goal.invariant-loop-later
invariant-loop-later l = list_any (λ b. l.block == b) (drop (l.fn.number + 1) (numbers_of l.bufs))
    ≡ list_any (λ b. l.block == b) (drop l.later (numbers_of l.bufs))
