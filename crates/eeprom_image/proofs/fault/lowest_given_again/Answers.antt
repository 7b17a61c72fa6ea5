use Rattle.std.proofs.Common.{◌≡◌, ℕ, ◌-◌, ◌+◌, ◌<◌, ◌≤◌, ◌==◌, ◌||◌, true, false, List, ◌∷◌, length, get_or, drop, sym, ap, ◌∙◌, arith}
use Rattle.std.specs.List.{list_any}
use Rattle.std.proofs.lemmas.List.{drop_more}
use Rattle.eeprom_image.specs.Fault.{lesser, indexes}
use Rattle.eeprom_image.proofs.fault.lowest_given_again.Goals as goal

drop_back : (words : List (ℕ × ℕ)) (i : ℕ) → 0 < i → i ≤ length words
    → drop (i - 1) words ≡ get_or words (i - 1) (0, 0) ∷ drop i words
drop_back words i some inside =
    let next : i - 1 + 1 ≡ i = omega arith in
    drop_more words (i - 1) (0, 0) (omega arith) ∙ ap (λ n. get_or words (i - 1) (0, 0) ∷ drop n words) next

pub loop-i-preserved-then-branch : goal.loop-i-preserved-then-branch
loop-i-preserved-then-branch c =
    let words = c.args.words.now in
    let i = c.loop-i.i in
    let index = (get_or words (i - 1) (0, 0)).0 in
    let at = drop_back words i (omega arith) (omega arith) in
    let again : list_any (λ other. other == index) (indexes (drop i words)) ≡ true =
    sym (c.loop-i.invariant.seen index) ∙ sym c.in_ok-comes_again.ensures.again ∙ c.if-branch.true in
    record {
      lowest = rw at (rw again (c.lesser-lowest.ensures ∙ ap (lesser index) c.loop-i.invariant.lowest));
      seen = λ q. rw at (c.in_ok-comes_again.ensures.seen q ∙ ap (λ b. (index == q) || b) (c.loop-i.invariant.seen q));
    }

pub loop-i-preserved : goal.loop-i-preserved
loop-i-preserved c =
    let words = c.args.words.now in
    let i = c.loop-i.i in
    let index = (get_or words (i - 1) (0, 0)).0 in
    let at = drop_back words i (omega arith) (omega arith) in
    let again : list_any (λ other. other == index) (indexes (drop i words)) ≡ false =
    sym (c.loop-i.invariant.seen index) ∙ sym c.in_ok-comes_again.ensures.again ∙ c.if-branch.false in
    record {
      lowest = rw at (rw again c.loop-i.invariant.lowest);
      seen = λ q. rw at (c.in_ok-comes_again.ensures.seen q ∙ ap (λ b. (index == q) || b) (c.loop-i.invariant.seen q));
    }
