use Rattle.std.proofs.Common.{[], refl}
use Rattle.pmd_driver.specs.Driver.{Driver}
use Rattle.pmd_driver.proofs.Driving.{never_up}
use Rattle.pmd_driver.proofs.Counted.{up_kept}
use Rattle.pmd_driver.proofs.driver.Pmd.reap.Goals as goal
use Rattle.pmd_driver.proofs.driver.Pmd.reap.Goals.{in-Up, in-Down}

pub returns-clause-down : goal.returns-clause-down
returns-clause-down g c down =
    let d : Driver = record { queue = c.self.inside.queue; rings = c.self.inside.rings } in
    elim c.match-self.branch [
      | in-Up w ↦ absurd (never_up d c.args.self.now w.in-Up.running c.self.view_is w.in-Up.is down)
      | in-Down w ↦ (w.result-is, rw w.nic-is refl, rw w.self-inside-is c.self.view_is)
    ]

pub returns-clause-blocks : goal.returns-clause-blocks
returns-clause-blocks g c =
    rw (← c.self.view_is) (elim c.match-self.branch [
      | in-Up w ↦
          rw (w.self-inside-is, w.in-Up.is)
          (up_kept w.in-Up.running w.reap.new.self [] [] w.reap.ensures.blocks)
      | in-Down w ↦ rw (w.self-inside-is) (record { owns = λ n. refl; each = λ n. refl })
    ])

pub returns-clause-reaped : goal.returns-clause-reaped
returns-clause-reaped g c =
    rw (← c.self.view_is) (elim c.match-self.branch [
      | in-Up w ↦ rw (w.result-is, w.nic-is, w.self-inside-is, w.in-Up.is) assumption
      | in-Down w ↦ rw w.in-Down.is tt
    ])
