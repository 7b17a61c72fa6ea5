use Rattle.std.proofs.Common.{◌≡◌, drop}
use Rattle.pmd_access.specs.Bufs.{numbers_of}
use Rattle.pmd_tx.specs.Sends.{are_out}
use Rattle.pmd_tx.proofs.sending.are_out.Given as goal

abbrev pub invariant-loop-number : goal.invariant-loop-number
invariant-loop-number l =
    are_out l.arena (numbers_of l.bufs) ≡ are_out l.arena (drop l.number (numbers_of l.bufs))
