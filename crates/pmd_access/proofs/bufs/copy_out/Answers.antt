use Rattle.std.proofs.Common.{◌≡◌, ◌+◌, ◌*◌, ◌-◌, ◌∙◌, ◌++◌, ℕ, min, List, length, take, drop, ap, arith}
use Rattle.std.proofs.Math.ListN.{drop_of_length-le}
use Rattle.std.proofs.lemmas.List.{append-nil}
use Rattle.pmd_access.specs.Bufs.{bytes_of}
use Rattle.pmd_access.proofs.Reading.{copies_one, copied_size}
use Rattle.pmd_access.proofs.bufs.copy_out.Goals as goal

pub loop-number-preserved : goal.loop-number-preserved
loop-number-preserved c =
    let old = c.args.to.now in
    let now = c.loop-number.to in
    let new = c.put.new.to in
    let bs = c.args.bufs.now in
    let b = c.get.result.now in
    let k = c.loop-number.number in
    let f = c.loop-number.filled in
    let at = c.args.at in
    let start = c.min-start.result in
    let more = c.min-more.result in
    let is = c.loop-number.invariant in
    let place = is.place in
    let many = is.many in
    let size = is.size in
    let count = c.count-number-end.ensures.count in
    let end = c.loop-number.auto.number-end in
    let test = c.loop-number-test.true in
    let room = c.requires.fits in
    let begins = c.min-start.ensures in
    let takes = c.min-more.ensures in
    let first : start ≡ min (at - 2048 * k) 2048 = begins ∙ ap (λ (n : ℕ). min n 2048) place in
    let next : more ≡ min (length old - f) (2048 - start) =
    takes ∙ ap (λ (n : ℕ). min (n - f) (2048 - start)) size in
    let all : start + more - start ≡ more = omega arith in
    let piece : take (start + more - start) (drop start c.bytes.result.now) ≡ take more (drop start b.bytes) =
    ap (λ (n : ℕ). take n (drop start c.bytes.result.now)) all
    ∙ ap (λ (xs : List ℕ). take more (drop start xs)) c.bytes.ensures.value in
    let copied : new ≡ take (f + more) (drop at (bytes_of bs)) ++ drop (f + more) old =
    copies_one bs k b at f start more old now _ new c.requires.whole (omega (arith, count, test, end)) c.get.ensures
    room many first next is.copied piece c.put.ensures in
    record {
      place = omega (arith, place, begins);
      many = omega (arith, many, first, next);
      copied = copied;
      size = copied_size bs at (f + more) old new c.requires.whole room (omega (arith, many, next)) copied;
    }

pub returns : goal.returns
returns c =
    let old = c.args.to.now in
    let wanted = drop c.args.at (bytes_of c.args.bufs.now) in
    let n = length old in
    let is = c.loop-number.invariant in
    let many = is.many in
    let count = c.count-number-end.ensures.count in
    let test = c.loop-number-test.false in
    let room = c.requires.fits in
    let all : c.loop-number.filled ≡ n = omega (arith, many, count, test, room) in
    is.copied
    ∙ ap (λ (m : ℕ). take m wanted ++ drop m old) all
    ∙ ap (λ (xs : List ℕ). take n wanted ++ xs) (drop_of_length-le old (omega arith))
    ∙ append-nil (take n wanted)
