use Rattle.std.proofs.Common.{[]}
use Rattle.pmd_rx.specs.Keeping.{numbers_in}
use Rattle.pmd_driver.proofs.Counted.{fresh_down, up_kept}
use Rattle.pmd_driver.proofs.driver.Pmd.packet.Goals as goal
use Rattle.pmd_driver.proofs.driver.Pmd.packet.Goals.{in-Up, in-Down}

pub returns-clause-blocks : goal.returns-clause-blocks
returns-clause-blocks c =
    rw (← c.self.view_is) (elim c.match-self.branch [
      | in-Up w ↦
          rw (w.result-is, w.self-inside-is, w.in-Up.is)
          (up_kept w.in-Up.running w.packet.new.self [] (numbers_in w.packet.result) w.packet.ensures.blocks)
      | in-Down w ↦
          let d = w.packet-in-Down in
          rw (w.result-is, w.self-inside-is, w.in-Down.is)
          (fresh_down w.in-Down.halted d.new.self c.args.len d.result d.ensures.made d.ensures.rest)
    ])

pub returns-clause-none : goal.returns-clause-none
returns-clause-none c =
    rw (← c.self.view_is) (elim c.match-self.branch [
      | in-Up w ↦ rw (w.result-is, w.in-Up.is) w.packet.ensures.none
      | in-Down w ↦ rw (w.result-is, w.in-Down.is) w.packet-in-Down.ensures.none
    ])

pub returns-clause-made : goal.returns-clause-made
returns-clause-made c =
    rw (← c.self.view_is) (elim c.match-self.branch [
      | in-Up w ↦ rw (w.result-is, w.self-inside-is, w.in-Up.is) w.packet.ensures.made
      | in-Down w ↦ rw (w.result-is, w.self-inside-is, w.in-Down.is) w.packet-in-Down.ensures.made
    ])
