use Rattle.std.proofs.Common.{ℕ, List, [], ap}
use Rattle.std.proofs.lemmas.Result.{on_err_weaker}
use Rattle.pmd_access.specs.Bufs.{numbers_of}
use Rattle.pmd_driver.specs.Halted.{Halted}
use Rattle.pmd_driver.specs.Running.{Running}
use Rattle.pmd_driver.specs.declared.driver.Rings.TheVariants.{Up, Down}
use Rattle.pmd_driver.proofs.Counted.{ok_later, up_kept}
use Rattle.pmd_driver.proofs.driver.Pmd.release.Goals as goal
use Rattle.pmd_driver.proofs.driver.Pmd.release.Goals.{in-Up, in-Down}

pub returns-clause-ok : goal.returns-clause-ok
returns-clause-ok c =
    rw (← c.self.view_is) (elim c.match-self.branch [
      | in-Up w ↦ rw (w.result-is, w.in-Up.is) assumption
      | in-Down w ↦ rw (w.result-is, w.in-Down.is) assumption
    ])

pub returns-clause-blocks : goal.returns-clause-blocks
returns-clause-blocks c =
    let ns : List ℕ = numbers_of c.args.packet.bufs in
    rw (← c.self.view_is) (elim c.match-self.branch [
      | in-Up w ↦
          rw (w.result-is, w.self-inside-is, w.in-Up.is)
          (ok_later w.release.result (up_kept w.in-Up.running w.release.new.self ns []) w.release.ensures.blocks)
      | in-Down w ↦
          let d = w.release-in-Down in
          rw (w.result-is, w.self-inside-is, w.in-Down.is)
          d.ensures.blocks
    ])

pub returns-clause-kept : goal.returns-clause-kept
returns-clause-kept c =
    rw (← c.self.view_is) (elim c.match-self.branch [
      | in-Up w ↦
          rw (w.result-is, w.self-inside-is, w.in-Up.is)
          (on_err_weaker w.release.result (ap (λ (r : Running). Up r)) w.release.ensures.kept)
      | in-Down w ↦
          let d = w.release-in-Down in
          rw (w.result-is, w.self-inside-is, w.in-Down.is)
          (on_err_weaker d.result (ap (λ (h : Halted). Down h)) d.ensures.kept)
    ])
