use Rattle.std.proofs.Common.{◌≡◌, drop}
use Rattle.std.specs.List.{list_any}
use Rattle.pmd_access.specs.Bufs.{numbers_of}
use Rattle.pmd_tx.specs.Sending.{keeps}
use Rattle.pmd_tx.proofs.ring.TransmitRing.keeps_one.Given as goal

abbrev pub invariant-loop-number : goal.invariant-loop-number
invariant-loop-number l = list_any (λ n. keeps l.self n) (numbers_of l.bufs)
    ≡ list_any (λ n. keeps l.self n) (drop l.number (numbers_of l.bufs))
