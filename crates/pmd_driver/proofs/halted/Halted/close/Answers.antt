use Rattle.std.proofs.Common.{[], refl, sym, subst}
use Rattle.pmd_access.specs.NicDevice.DmaArena.Numbers.{Numbers}
use Rattle.pmd_access.specs.Home.{AreOut}
use Rattle.pmd_driver.specs.Ends.{halted_as, held_of, received_way, sent_way, waiting_of}
use Rattle.pmd_driver.specs.Halted.{Halted}
use Rattle.pmd_driver.specs.declared.ends.Receiving.TheVariants.{Leaves}
use Rattle.pmd_driver.proofs.HaltedBlocks.{part_halted, second_half}
use Rattle.pmd_driver.proofs.Several.{free_both}
use Rattle.pmd_driver.proofs.halted.Halted.close.Goals as goal

pub close-requires-in-Ok : goal.close-requires-in-Ok
close-requires-in-Ok c =
    let r = c.self.inside.receive in
    let t = c.self.inside.transmit in
    subst (λ (a : Numbers). AreOut a (waiting_of t)) (sym c.in-Ok.ensures.home)
    (second_half c.self.inside.arena (received_way r).lent (sent_way t).lent (held_of r) (waiting_of t)
    c.self.invariant.home)

-- The driver is unchanged, except that one or both halves may be closed.
pub invariant_of-result : goal.invariant_of-result
invariant_of-result c =
    let a = c.self.inside.arena in
    let r = c.self.inside.receive in
    let t = c.self.inside.transmit in
    let h : Halted = halted_as a r t in
    part_halted h (halted_as c.close-in-Ok.new.arena (Leaves c.in-Ok.receive c.in-Ok.handed) c.in-Err-close.transmit)
    c.self.invariant (record {
      gone = held_of r;
      kept = waiting_of t;
      parts = refl;
      left_is = rw (
        c.in-Err-close.ensures.kept,
        c.in-Ok.ensures.home,
        c.in-Err-close.ensures.back,
        c.in-Ok.ensures.way,
        c.in-Ok.ensures.records,
      ) refl;
    })

pub returns-in-Ok-close-clause-closed : goal.returns-in-Ok-close-clause-closed
returns-in-Ok-close-clause-closed c =
    let a = c.self.inside.arena in
    let r = c.self.inside.receive in
    let t = c.self.inside.transmit in
    rw (
      ← c.self.view_is,
      c.in-Ok-close.ensures.home,
      c.in-Ok.ensures.home,
      c.in-Ok-close.ensures.way,
      c.in-Ok-close.ensures.records,
      c.in-Ok.ensures.way,
      c.in-Ok.ensures.records,
      free_both a (held_of r) (waiting_of t),
    ) refl

pub returns-in-Err-clause-left : goal.returns-in-Err-clause-left
returns-in-Err-clause-left c =
    rw (← c.self.view_is, c.in-Err.ensures.back, c.in-Err.ensures.kept)
    (record { gone = []; kept = _; parts = refl; left_is = refl })
