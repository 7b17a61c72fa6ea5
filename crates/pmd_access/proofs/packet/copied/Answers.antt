use Rattle.std.proofs.Common.{◌≡◌, ◌∙◌, ◌++◌, ◌+◌, ◌*◌, ◌-◌, ℕ, min, List, length, take, ap, sym, arith}
use Rattle.pmd_access.proofs.Copying.{copies_more, many_more}
use Rattle.pmd_access.proofs.packet.copied.Goals as goal

pub loop-number-preserved : goal.loop-number-preserved
loop-number-preserved c =
    let b = c.get.result.now in
    let k = c.loop-number.number in
    let more = c.min-more.result in
    let many = c.loop-number.invariant.many in
    let few : more ≡ min (c.args.len - min c.args.len (2048 * k)) 2048 =
    c.min-more.ensures ∙ ap (λ (n : ℕ). min (c.args.len - n) 2048) (c.len.ensures ∙ many) in
    let whole = c.bytes.ensures.whole.size in
    let old = c.loop-number.invariant.room in
    let capacity = c.in-Ok.ensures.capacity in
    let count = c.count-number-end.ensures.count in
    let test = c.loop-number-test.true in
    let end = c.loop-number.auto.number-end in
    let block : c.bytes.result.now ≡ b.bytes = c.bytes.ensures.value in
    record {
      copied = c.in-Ok.ensures.items ∙ ap (λ (xs : List ℕ). c.loop-number.bytes.items ++ take more xs) block
          ∙ copies_more c.args.len k c.args.bufs.now c.loop-number.bytes.items b more c.loop-number.invariant.copied
          (sym c.loop-number.bytes.ok.0 ∙ many) (omega (arith, count, test, end)) c.get.ensures whole few;
      many = c.in-Ok.ensures.len
          ∙ ap (λ (n : ℕ). n + length (take more c.bytes.result.now)) many
          ∙ ap (λ (xs : List ℕ). min c.args.len (2048 * k) + length (take more xs)) block
          ∙ many_more c.args.len k more b whole few;
      room = omega (arith, old, capacity);
    }
