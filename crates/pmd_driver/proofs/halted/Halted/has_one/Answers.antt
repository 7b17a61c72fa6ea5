use Rattle.std.proofs.Common.{◌≡◌, ℕ, true, false, sym, ap, ◌∙◌, arith}
use Rattle.pmd_driver.specs.Halted.{is_out}
use Rattle.pmd_driver.proofs.Several.{found, missed}
use Rattle.pmd_driver.proofs.halted.Halted.has_one.Goals as goal

pub returns-then-is_out : goal.returns-then-is_out
returns-then-is_out c =
    let h = c.args.self.now in
    let count = c.count-number-end.ensures.count in
    let end = c.loop-number.auto.number-end in
    let test = c.loop-number-test.true in
    let is : is_out h c.get.result.now.number ≡ true =
    ap (λ (n : ℕ). is_out h n) (sym c.block.ensures.number) ∙ sym c.is_out.ensures ∙ c.if-is_out.true in
    sym (found (λ n. is_out h n) c.args.bufs.now c.loop-number.number c.get.result.now
    (omega (arith, count, end, test)) c.get.ensures is)

pub loop-number-preserved : goal.loop-number-preserved
loop-number-preserved c =
    let h = c.args.self.now in
    let count = c.count-number-end.ensures.count in
    let end = c.loop-number.auto.number-end in
    let test = c.loop-number-test.true in
    let away : is_out h c.get.result.now.number ≡ false =
    ap (λ (n : ℕ). is_out h n) (sym c.block.ensures.number) ∙ sym c.is_out.ensures ∙ c.if-is_out.false in
    missed (λ n. is_out h n) c.args.bufs.now c.loop-number.number c.get.result.now
    (omega (arith, count, end, test)) c.get.ensures away c.loop-number.invariant
