use Rattle.std.proofs.Common.{refl}
use Rattle.pmd_access.specs.Bufs.{numbers_of}
use Rattle.pmd_driver.specs.Driver.{Driver}
use Rattle.pmd_driver.proofs.Driving.{never_up}
use Rattle.pmd_rx.specs.Keeping.{numbers_in}
use Rattle.pmd_tx.specs.Sends.{returned}
use Rattle.pmd_driver.proofs.Counted.{up_kept}
use Rattle.pmd_driver.proofs.driver.Pmd.tx.Goals as goal
use Rattle.pmd_driver.proofs.driver.Pmd.tx.Goals.{in-Up, in-Down}

pub returns-clause-down : goal.returns-clause-down
returns-clause-down g c down =
    let d : Driver = record { queue = c.self.inside.queue; rings = c.self.inside.rings } in
    elim c.match-self.branch [
      | in-Up w ↦ absurd (never_up d c.args.self.now w.in-Up.running c.self.view_is w.in-Up.is down)
      | in-Down w ↦ (w.result-is, rw w.nic-is refl, rw w.self-inside-is c.self.view_is)
    ]

pub returns-clause-blocks : goal.returns-clause-blocks
returns-clause-blocks g c =
    rw (← c.self.view_is) (elim c.match-self.branch [
      | in-Up w ↦
          rw (w.result-is, w.self-inside-is, w.in-Up.is)
          (up_kept w.in-Up.running w.tx.new.self (numbers_of c.args.packet.bufs) (numbers_in (returned w.tx.result))
          w.tx.ensures.blocks)
      | in-Down w ↦ rw (w.result-is, w.self-inside-is) (record { owns = λ n. refl; each = λ n. refl })
    ])

pub returns-clause-sent : goal.returns-clause-sent
returns-clause-sent g c =
    rw (← c.self.view_is) (elim c.match-self.branch [
      | in-Up w ↦ rw (w.result-is, w.nic-is, w.self-inside-is, w.in-Up.is) assumption
      | in-Down w ↦ rw w.in-Down.is tt
    ])
