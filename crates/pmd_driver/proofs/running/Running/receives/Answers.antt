use Rattle.std.proofs.Common.{◌≡◌, ◌<◌, ℕ, false, nat_lt, sym, ◌∙◌, subst, arith}
use Rattle.pmd_access.specs.NicDevice.DmaArena.Whereabouts.{times_in_hand}
use Rattle.pmd_rx.specs.Keeping.{blocks_out}
use Rattle.pmd_driver.specs.Running.{Running}
use Rattle.pmd_driver.proofs.Several.{counts, counts_none, found, missed}
use Rattle.pmd_driver.proofs.running.Running.receives.Goals as goal

pub returns-then-has : goal.returns-then-has
returns-then-has c =
    let v = c.self.inside.receive in
    let count = c.count-number-end.ensures.count in
    let end = c.loop-number.auto.number-end in
    let test = c.loop-number-test.true in
    let some : 0 < times_in_hand (blocks_out v) c.get.result.now.number =
    subst (λ (n : ℕ). 0 < times_in_hand (blocks_out v) n) c.block.ensures.number (c.has.ensures.0 c.if-has.true) in
    rw (← c.self.view_is)
    (sym (found (λ n. nat_lt 0 (times_in_hand (blocks_out v) n)) c.args.bufs.now c.loop-number.number c.get.result.now
    (omega (arith, count, end, test)) c.get.ensures
    (counts (times_in_hand (blocks_out v) c.get.result.now.number) some)))

pub loop-number-preserved : goal.loop-number-preserved
loop-number-preserved c =
    let v = c.self.inside.receive in
    let count = c.count-number-end.ensures.count in
    let end = c.loop-number.auto.number-end in
    let test = c.loop-number-test.true in
    let here : nat_lt 0 (times_in_hand (blocks_out v) c.block.result) ≡ false =
    counts_none (times_in_hand (blocks_out v) c.block.result)
    (λ some. sym c.if-has.false ∙ c.has.ensures.1 some) in
    let away : nat_lt 0 (times_in_hand (blocks_out v) c.get.result.now.number) ≡ false =
    subst (λ (n : ℕ). nat_lt 0 (times_in_hand (blocks_out v) n) ≡ false) c.block.ensures.number here in
    missed (λ n. nat_lt 0 (times_in_hand (blocks_out c.args.self.now.receive) n)) c.args.bufs.now c.loop-number.number
    c.get.result.now (omega (arith, count, end, test)) c.get.ensures
    (subst (λ (r : Running). nat_lt 0 (times_in_hand (blocks_out r.receive) c.get.result.now.number) ≡ false)
    c.self.view_is away)
    c.loop-number.invariant
