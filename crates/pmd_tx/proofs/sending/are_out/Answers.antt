use Rattle.std.proofs.Common.{◌∙◌, ◌==◌, ◌&&◌, not, ◌+◌, ℕ, Bool, drop, sym, ap, arith}
use Rattle.std.specs.List.{list_any}
use Rattle.pmd_access.specs.NicDevice.DmaArena.Numbers.{is_own, is_free}
use Rattle.pmd_access.specs.Bufs.{numbers_of}
use Rattle.pmd_tx.specs.Sends.{are_out}
use Rattle.pmd_tx.proofs.Numbering.{out-left}
use Rattle.pmd_tx.proofs.sending.are_out.Goals as goal

pub returns-then-not-is_out : goal.returns-then-not-is_out
returns-then-not-is_out c =
    let a = c.args.arena.now in
    let bs = c.args.bufs.now in
    let k = c.loop-number.number in
    let rest = drop (k + 1) (numbers_of bs) in
    let count = c.count-number-end.ensures.count in
    let end = c.loop-number.auto.number-end in
    let test = c.loop-number-test.true in
    let out = λ (n : ℕ). is_own a n && not (is_free a n) && not (list_any (λ b. n == b) rest) in
    let reported = c.is_out.ensures ∙ ap out c.block-block.ensures.number in
    sym (c.loop-number.invariant
    ∙ out-left a bs k c.get.result.now (omega (arith, count, end, test)) c.get.ensures c.is_out.result reported
    ∙ ap (λ (t : Bool). t && are_out a rest) c.if-not-is_out.true)

pub loop-number-preserved : goal.loop-number-preserved
loop-number-preserved c =
    let a = c.args.arena.now in
    let bs = c.args.bufs.now in
    let k = c.loop-number.number in
    let rest = drop (k + 1) (numbers_of bs) in
    let count = c.count-number-end.ensures.count in
    let end = c.loop-number.auto.number-end in
    let test = c.loop-number-test.true in
    let out = λ (n : ℕ). is_own a n && not (is_free a n) && not (list_any (λ b. n == b) rest) in
    let reported = c.is_out.ensures ∙ ap out c.block-block.ensures.number in
    c.loop-number.invariant
    ∙ out-left a bs k c.get.result.now (omega (arith, count, end, test)) c.get.ensures c.is_out.result reported
    ∙ ap (λ (t : Bool). t && are_out a rest) c.if-not-is_out.false
