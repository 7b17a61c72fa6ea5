use Rattle.std.proofs.Common.{◌≡◌, ◌↔◌, ◌∙◌, Bool, List, true, false, IsTrue, refl, sym}
use Rattle.std.proofs.lemmas.Bool.{true≢false}
use Rattle.pmd_driver.specs.DeviceLock.declared.entry.Entry.{Entry}
use Rattle.pmd.specs.Judged.{Clears}
use Rattle.pmd.specs.declared.verdict.Doubt.TheVariants.{Disturbed, BeganOtherwise, AskedOnBefore, LentByOthers, TooLong}
use Rattle.pmd.specs.declared.verdict.Driven.{Driven}
use Rattle.pmd.proofs.verdict.judge.Goals as goal

-- What follows if a check is true, and if it is false.

yes_of : (P : Type 0) (answer : Bool) → (IsTrue answer ↔ P) → answer ≡ true → P
yes_of P answer asked is = asked.0 is

no_of : (P : Type 0) (answer : Bool) → (IsTrue answer ↔ P) → answer ≡ false → P → ⊥
no_of P answer asked is holds = true≢false (sym (asked.1 holds) ∙ is)

pub returns-then-not-never_asked_on-clause-first : goal.returns-then-not-never_asked_on-clause-first
returns-then-not-never_asked_on-clause-first c =
    let d : Driven = c.args.driven.now in
    let h : List Entry = c.args.history.now in (
      (
        yes_of (Clears d h Disturbed) _ c.left_alone.ensures c.if-not-left_alone.false,
        yes_of (Clears d h BeganOtherwise) _ c.begins_well.ensures c.if-not-begins_well.false,
      ),
      no_of (Clears d h AskedOnBefore) _ c.never_asked_on.ensures c.if-not-never_asked_on.true,
    )

pub returns-then-not-others_lend_none-clause-first : goal.returns-then-not-others_lend_none-clause-first
returns-then-not-others_lend_none-clause-first c =
    let d : Driven = c.args.driven.now in
    let h : List Entry = c.args.history.now in (
      (
        yes_of (Clears d h Disturbed) _ c.left_alone.ensures c.if-not-left_alone.false,
        yes_of (Clears d h BeganOtherwise) _ c.begins_well.ensures c.if-not-begins_well.false,
        yes_of (Clears d h AskedOnBefore) _ c.never_asked_on.ensures c.if-not-never_asked_on.false,
      ),
      no_of (Clears d h LentByOthers) _ c.others_lend_none.ensures c.if-not-others_lend_none.true,
    )

pub returns-then-not-frames_fit-clause-first : goal.returns-then-not-frames_fit-clause-first
returns-then-not-frames_fit-clause-first c =
    let d : Driven = c.args.driven.now in
    let h : List Entry = c.args.history.now in (
      (
        yes_of (Clears d h Disturbed) _ c.left_alone.ensures c.if-not-left_alone.false,
        yes_of (Clears d h BeganOtherwise) _ c.begins_well.ensures c.if-not-begins_well.false,
        yes_of (Clears d h AskedOnBefore) _ c.never_asked_on.ensures c.if-not-never_asked_on.false,
        yes_of (Clears d h LentByOthers) _ c.others_lend_none.ensures c.if-not-others_lend_none.false,
      ),
      no_of (Clears d h TooLong) _ c.frames_fit.ensures c.if-not-frames_fit.true,
    )

pub returns-clause-clear : goal.returns-clause-clear
returns-clause-clear c =
    let d : Driven = c.args.driven.now in
    let h : List Entry = c.args.history.now in (
      λ is. (
        (
          yes_of (Clears d h Disturbed) _ c.left_alone.ensures c.if-not-left_alone.false,
          yes_of (Clears d h BeganOtherwise) _ c.begins_well.ensures c.if-not-begins_well.false,
          yes_of (Clears d h AskedOnBefore) _ c.never_asked_on.ensures c.if-not-never_asked_on.false,
          yes_of (Clears d h LentByOthers) _ c.others_lend_none.ensures c.if-not-others_lend_none.false,
        ),
        yes_of (Clears d h TooLong) _ c.frames_fit.ensures c.if-not-frames_fit.false,
      ),
      λ all. refl,
    )
