use Rattle.std.proofs.Common.{◌≡◌, ◌≤◌, ◌∙◌, ◌+◌, ◌*◌, ◌-◌, ◌++◌, ◌∷◌, List, ap, sym, subst, refl, length, take, drop, arith}
use Rattle.std.proofs.lemmas.List.{take_all, length-drop, length_push}
use Rattle.device_lock.specs.NicDevice.DmaArena.Block.{Block}
use Rattle.device_lock.specs.NicDevice.DmaArena.Memory.{put_bytes}
use Rattle.pmd_access.specs.Bufs.{bytes_of, numbers_of}
use Rattle.pmd_access.proofs.Writing.{writes_one, fits_after, nothing_left, numbers_one}
use Rattle.pmd_access.proofs.bufs.Bufs.write_at.Goals as goal

pub loop-written-preserved : goal.loop-written-preserved
loop-written-preserved c =
    let old = c.loop-written.invariant in
    let written = c.loop-written.self in
    let now = c.push.new.self in
    let left = c.take_first.new.self in
    let b = c.in-Some.buf in
    let at = c.loop-written.from in
    let rest = c.loop-written.rest.now in
    let start = c.min-start.result in
    let more = c.min-more.result in
    let after = take_all (length rest - more) (drop more rest) (omega (arith, length-drop more rest)) in
    let first : c.loop-written.left ≡ b ∷ left = c.in-Some.ensures.first in
    let bytes = subst (λ (bs : List Block). bytes_of written ++ put_bytes (bytes_of bs) at rest
    ≡ put_bytes (bytes_of c.args.self.now) c.args.at c.args.bytes.now) first old.bytes in
    let numbers = subst (λ (bs : List Block). numbers_of written ++ numbers_of bs ≡ numbers_of c.args.self.now) first
    old.numbers in
    let room = subst (λ (bs : List Block). at + length rest ≤ 2048 * length bs) first old.room in
    let one = ap (λ (bs : List Block). length bs) first in
    let pushed = ap (λ (bs : List Block). length bs) c.push.ensures in
    let turned = old.turned in
    let count = old.count in
    record {
      bytes = writes_one written now b c.put.new.self left at start more rest (take more rest) _ _ bytes
          c.bytes.ensures.whole.size c.min-start.ensures c.min-more.ensures refl after c.put.ensures c.push.ensures;
      numbers = numbers_one written now b c.put.new.self left _ numbers
          (ap (λ (x : Block). x.number) c.put.ensures) c.push.ensures;
      turned = omega (arith, pushed, length_push written c.put.new.self, turned);
      count = omega (arith, one, count);
      room = fits_after left b at start more rest _ room c.min-start.ensures c.min-more.ensures after;
    }

pub returns-clause-written : goal.returns-clause-written
returns-clause-written c =
    let count = c.loop-written.invariant.count in
    let all = c.count-written-end.ensures.count in
    let taken = ap (λ (bs : List Block). length bs) c.replace-left.ensures.value in
    let test = c.loop-written-test.false in
    λ done. sym (nothing_left c.loop-written.left c.loop-written.from c.loop-written.rest.now
    (bytes_of c.loop-written.self) (omega (arith, count, all, taken, test)) c.loop-written.invariant.room)
    ∙ c.loop-written.invariant.bytes
