use Rattle.std.proofs.Common.{◌≡◌, drop}
use Rattle.std.specs.List.{list_any}
use Rattle.pmd_access.specs.Bufs.{numbers_of}
use Rattle.pmd_driver.specs.Halted.{is_out}
use Rattle.pmd_driver.proofs.halted.Halted.has_one.Given as goal

abbrev pub invariant-loop-number : goal.invariant-loop-number
invariant-loop-number l = list_any (λ n. is_out l.self n) (numbers_of l.bufs)
    ≡ list_any (λ n. is_out l.self n) (drop l.number (numbers_of l.bufs))
