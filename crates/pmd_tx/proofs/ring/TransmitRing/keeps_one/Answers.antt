use Rattle.std.proofs.Common.{◌≡◌, ◌∙◌, ◌||◌, ◌+◌, ℕ, Bool, true, drop, sym, ap, arith}
use Rattle.std.specs.List.{list_any}
use Rattle.pmd_access.specs.Bufs.{numbers_of}
use Rattle.pmd_tx.specs.Sending.{keeps}
use Rattle.pmd_tx.proofs.Numbering.{numbers-left}
use Rattle.pmd_tx.proofs.ring.TransmitRing.keeps_one.Goals as goal

pub returns-then-keeps : goal.returns-then-keeps
returns-then-keeps c =
    let bs = c.args.bufs.now in
    let k = c.loop-number.number in
    let v = c.args.self.now in
    let rest = drop (k + 1) (numbers_of bs) in
    let count = c.count-number-end.ensures.count in
    let end = c.loop-number.auto.number-end in
    let test = c.loop-number-test.true in
    let left = numbers-left bs k c.get.result.now (omega (arith, count, end, test)) c.get.ensures in
    let is : keeps v c.get.result.now.number ≡ true =
    ap (λ (n : ℕ). keeps v n) (sym c.block.ensures.number) ∙ sym c.keeps.ensures ∙ c.if-keeps.true in
    sym (c.loop-number.invariant ∙ ap (list_any (λ n. keeps v n)) left
    ∙ ap (λ (t : Bool). t || list_any (λ n. keeps v n) rest) is)
