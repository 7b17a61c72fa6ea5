use Rattle.std.proofs.Common.{◌≡◌, ◌+◌, ◌∙◌, ap, subst, All, ◌++◌, ◌∷◌, [], List, take, arith, sym}
use Rattle.std.proofs.lemmas.List.{take_all, take_more}
use Rattle.std.proofs.lemmas.List.Elements.{All-push}
use Rattle.device_lock.specs.NicDevice.DmaArena.Block.{Block, IsBlock}
use Rattle.pmd_access.proofs.bufs.bytes_in.Goals as goal

pub loop-number-preserved : goal.loop-number-preserved
loop-number-preserved c =
    let b = c.get.result.now in
    let k = c.loop-number.number in
    let count = c.count-number-end.ensures.count in
    let end = c.loop-number.auto.number-end in
    let test = c.loop-number-test.true in
    let all : take (k + 1) c.args.bufs.now ≡ take k c.args.bufs.now ++ b ∷ [] =
    take_more c.args.bufs.now k b (omega (arith, count, end, test))
    ∙ ap (λ (x : Block). take k c.args.bufs.now ++ x ∷ []) (sym c.get.ensures) in
    let sum = c.loop-number.invariant.sum in
    record {
      sum = omega (arith, sum);
      whole = rw all (All-push (λ (x : Block). IsBlock x) (take k c.args.bufs.now) b c.loop-number.invariant.whole
          c.bytes.ensures.whole);
    }

pub returns-clause-whole : goal.returns-clause-whole
returns-clause-whole c =
    let count = c.count-number-end.ensures.count in
    let end = c.loop-number.auto.number-end in
    let test = c.loop-number-test.false in
    subst (λ (l : List Block). All (λ (x : Block). IsBlock x) l)
    (take_all c.loop-number.number c.args.bufs.now (omega (arith, count, end, test)))
    c.loop-number.invariant.whole
