-- Lemmas about what is known just before a driver's first entry.
use Rattle.std.proofs.Common.{◌≡◌, ◌-◌, ℕ, zero, suc, inl, inr, Bool, true, false, not, ◌&&◌, List, [], ◌∷◌, ◌++◌, length, Option, Some, refl, sym, ap, ◌∙◌, subst, arith}
use Rattle.std.specs.Prelude.{◌==◌, ◌↔◌, IsTrue, IsFalse}
use Rattle.std.proofs.lemmas.Bool.{and_parts, both_ways, cases_Bool, eq-eqb, eqb-true, ne_eqb, not-true}
use Rattle.std.proofs.lemmas.List.{nil_from_length}
use Rattle.pmd_driver.specs.DeviceLock.History.{call_in, calls_of}
use Rattle.pmd_driver.specs.DeviceLock.declared.alone.Watched.{Watched}
use Rattle.pmd_driver.specs.DeviceLock.declared.entry.Call.{Call}
use Rattle.pmd_driver.specs.DeviceLock.declared.entry.Entry.{Entry}
use Rattle.pmd_driver.specs.PmdAccess.Events.{is_step}
use Rattle.pmd_driver.specs.PmdAccess.Made.{AreSteps}
use Rattle.pmd.specs.Before.{holds_of, is_first, known_before, known_through, still_left}
use Rattle.pmd.specs.Starts.{Starts}

-- The calls of a pass in a history that begins with a given entry.

calls_own : (pass : ℕ) (e : Entry) (h : List Entry) → (e.pass == pass) ≡ true
    → calls_of pass (e ∷ h) ≡ call_in e ∷ calls_of pass h
calls_own pass e h is = rw is refl

calls_other : (pass : ℕ) (e : Entry) (h : List Entry) → (e.pass == pass) ≡ false
    → calls_of pass (e ∷ h) ≡ calls_of pass h
calls_other pass e h is = rw is refl

module _ {S : Type 0} (next : S → Entry → S) (w : Watched) (test : S → Bool) where
  abbrev Passes : S → Type 0
  Passes t = test t ≡ true

  -- What is known at an entry that is the driver's first, and at any other entry.

  at_first : (t : S) (left : ℕ) (e : Entry) (es : List Entry) → is_first w left e ≡ true
      → known_before next w t left (e ∷ es) ≡ Some t
  at_first t left e es is = rw is refl

  at_other : (t : S) (left : ℕ) (e : Entry) (es : List Entry) → is_first w left e ≡ false
      → known_before next w t left (e ∷ es)
      ≡ known_before next w (next t e) (still_left w left e) es
  at_other t left e es is = rw is refl

  foreign : (left : ℕ) (e : Entry) → (e.pass == w.pass) ≡ false → is_first w left e ≡ false
  foreign left e other = rw other refl

  some_left : (left : ℕ) → (suc left == 0) ≡ false
  some_left left = ne_eqb (suc left) 0 (λ is. cc)

  later : (left : ℕ) (e : Entry) → is_first w (suc left) e ≡ false
  later left e = elim (cases_Bool (e.pass == w.pass)) as (λ _. is_first w (suc left) e ≡ false) [
    | inl own ↦ rw (own, some_left left) refl
    | inr other ↦ rw other refl
  ]

  stepping : (left : ℕ) (e : Entry) → is_step e.event ≡ true → is_first w left e ≡ false
  stepping left e is = elim (cases_Bool (e.pass == w.pass)) as (λ _. is_first w left e ≡ false) [
    | inl own ↦ elim (cases_Bool (left == 0)) as (λ _. is_first w left e ≡ false) [
      | inl none ↦ rw (own, none, is) refl
      | inr some ↦ rw (own, some) refl
    ]
    | inr other ↦ rw other refl
  ]

  past_own : (left : ℕ) (e : Entry) → (e.pass == w.pass) ≡ true → still_left w left e ≡ left - 1
  past_own left e own = rw own refl

  after_other : (left : ℕ) (e : Entry) → (e.pass == w.pass) ≡ false → still_left w left e ≡ left
  after_other left e other = rw other refl

  -- `At`: the test holds at the driver's first entry among these entries.

  abbrev At : S → List Entry → List Call → Type 0
  At t h old =
      (before : List Entry) (first : Entry) (following : List Entry) → before ++ first ∷ following ≡ h
      → first.pass ≡ w.pass → IsFalse (is_step first.event) → (steps : List Call) → AreSteps steps
      → calls_of w.pass before ≡ old ++ steps → Passes (known_through next t before)

  abbrev Tells : S → ℕ → List Entry → Type 0
  Tells t left h = holds_of test (known_before next w t left h) ≡ true

  first_is : (left : ℕ) (e : Entry) → e.pass ≡ w.pass → IsFalse (is_step e.event) → left ≡ 0
      → is_first w left e ≡ true
  first_is left e own event none = rw (eq-eqb e.pass w.pass own, eq-eqb left 0 none, event) refl

  -- `After`: the state after an entry that isn't the driver's first, with the pass's calls that must still come before
  -- that first entry.
  record After (left : ℕ) (f : Entry) (before : List Entry) : Type 0 where
    skipped : is_first w left f ≡ false
    old : List Call
    long : length old ≡ still_left w left f
    steps : List Call
    stepped : AreSteps steps
    calls : calls_of w.pass before ≡ old ++ steps

  one_past : (left : ℕ) (f : Entry) (before : List Entry) (old steps : List Call) → length old ≡ left
      → AreSteps steps → (f.pass == w.pass) ≡ true → call_in f ∷ calls_of w.pass before ≡ old ++ steps
      → After left f before
  one_past left f before [] [] long stepped mine calls = cc
  one_past left f before [] (c ∷ steps) long stepped mine calls =
      let same : c ≡ call_in f = cc in
      let none : 0 ≡ left - 1 = omega (arith, long) in record {
        skipped = stepping left f (subst (λ (d : Call). is_step d.event ≡ true) same stepped.0);
        old = [];
        long = none ∙ sym (past_own left f mine);
        steps = steps;
        stepped = stepped.1;
        calls = cc;
      }
  one_past left f before (c ∷ old) steps long stepped mine calls =
      let one : suc (left - 1) ≡ left = omega (arith, long) in
      let fewer : length old ≡ left - 1 = omega (arith, long) in record {
        skipped = subst (λ n. is_first w n f ≡ false) one (later (left - 1) f);
        old = old;
        long = fewer ∙ sym (past_own left f mine);
        steps = steps;
        stepped = stepped;
        calls = cc;
      }

  each : (t : S) (left : ℕ) (h : List Entry) → Tells t left h → (old : List Call) → length old ≡ left
      → At t h old
  each t left [] is old long [] first following all own event steps stepped calls = cc
  each t left [] is old long (b ∷ before) first following all own event steps stepped calls = cc
  each t left (f ∷ h) is [] long [] first following all own event steps stepped calls =
      let same : first ≡ f = cc in
      let here : is_first w left f ≡ true =
      subst (λ (e : Entry). is_first w left e ≡ true) same (first_is left first own event (sym long)) in
      ap (holds_of test) (sym (at_first t left f h here)) ∙ is
  each t left (f ∷ h) is (c ∷ old) long [] first following all own event steps stepped calls = cc
  each t left (f ∷ h) is old long (g ∷ before) first following all own event steps stepped calls =
      let same : g ≡ f = cc in
      let rest : before ++ first ∷ following ≡ h = cc in
      let called : calls_of w.pass (f ∷ before) ≡ old ++ steps =
      ap (λ (e : Entry). calls_of w.pass (e ∷ before)) (sym same) ∙ calls in
      let then = next t f in
      rw same
      (elim (cases_Bool (f.pass == w.pass)) as (λ _. Passes (known_through next then before)) [
        | inl mine ↦
            let x =
            one_past left f before old steps long stepped mine (sym (calls_own w.pass f before mine) ∙ called) in
            each then (still_left w left f) h (ap (holds_of test) (sym (at_other t left f h x.skipped)) ∙ is) x.old
            x.long before first following rest own event x.steps x.stepped x.calls
        | inr other ↦
            each then (still_left w left f) h
            (ap (holds_of test) (sym (at_other t left f h (foreign left f other))) ∙ is) old
            (long ∙ sym (after_other left f other)) before first following rest own event steps stepped
            (sym (calls_other w.pass f before other) ∙ called)
      ])

  -- If the test holds at that entry, it holds at each point at which the driver may start.

  abbrev AllAt : S → ℕ → List Entry → Type 0
  AllAt t left h = (old : List Call) → length old ≡ left → At t h old

  all_own : (t : S) (left : ℕ) (f : Entry) (h : List Entry) → (f.pass == w.pass) ≡ true
      → is_first w left f ≡ false → AllAt t left (f ∷ h)
      → AllAt (next t f) (still_left w left f) h
  all_own t zero f h mine skipped names old long before first following both own event steps stepped calls =
      let none : length old ≡ 0 = long ∙ past_own 0 f mine ∙ omega arith in
      let step : is_step f.event ≡ true = elim (cases_Bool (is_step f.event)) [
        | inl is ↦ is
        | inr event ↦ absurd (both_ways _ skipped (first_is 0 f (eqb-true f.pass w.pass mine) event refl))
      ] in
      names [] refl (f ∷ before) first following (ap (λ (l : List Entry). f ∷ l) both) own event (call_in f ∷ steps)
      (step, stepped)
      (calls_own w.pass f before mine
      ∙ ap (λ (l : List Call). call_in f ∷ l)
      (calls ∙ ap (λ (l : List Call). l ++ steps) (nil_from_length old none)))
  all_own t (suc left) f h mine skipped names old long before first following both own event steps stepped calls =
      let more : length old ≡ left = long ∙ past_own (suc left) f mine ∙ omega arith in
      names (call_in f ∷ old) (ap suc more) (f ∷ before) first following (ap (λ (l : List Entry). f ∷ l) both) own event
      steps stepped (calls_own w.pass f before mine ∙ ap (λ (l : List Call). call_in f ∷ l) calls)

  all_other : (t : S) (left : ℕ) (f : Entry) (h : List Entry) → (f.pass == w.pass) ≡ false
      → AllAt t left (f ∷ h) → AllAt (next t f) (still_left w left f) h
  all_other t left f h other names old long before first following both own event steps stepped calls =
      names old (long ∙ after_other left f other) (f ∷ before) first following (ap (λ (l : List Entry). f ∷ l) both) own
      event steps stepped (calls_other w.pass f before other ∙ calls)

  -- The driver's first entry belongs to its pass, comes after the pass's earlier calls, and isn't a step.
  first_says : (left : ℕ) (f : Entry) → is_first w left f ≡ true
      → (f.pass ≡ w.pass) × (left ≡ 0) × (is_step f.event ≡ false)
  first_says left f is =
      let mine = and_parts (f.pass == w.pass) ((left == 0) && not (is_step f.event)) is in
      let none = and_parts (left == 0) (not (is_step f.event)) mine.1 in
      (eqb-true f.pass w.pass mine.0, eqb-true left 0 none.0, not-true _ none.1)

  all : (t : S) (left : ℕ) (h : List Entry) → AllAt t left h → Tells t left h
  all t left [] names = refl
  all t left (f ∷ h) names =
      let then = next t f in
      elim (cases_Bool (is_first w left f)) as (λ _. Tells t left (f ∷ h)) [
        | inl here ↦
            let (own, none, event) = first_says left f here in
            ap (holds_of test) (at_first t left f h here) ∙ names [] (sym none) [] f h refl own event [] tt refl
        | inr skipped ↦
            ap (holds_of test) (at_other t left f h skipped)
            ∙ elim (cases_Bool (f.pass == w.pass)) as (λ _. Tells then (still_left w left f) h) [
              | inl mine ↦ all then (still_left w left f) h (all_own t left f h mine skipped names)
              | inr other ↦ all then (still_left w left f) h (all_other t left f h other names)
            ]
      ]

  -- The test of what is known decides whether the property holds at each point at which the driver may start.
  pub test_decides : (s : S) (from : ℕ) (h : List Entry) (o : Option S) → o ≡ known_before next w s from h
      → IsTrue (holds_of test o)
      ↔ ((old : List Call) → length old ≡ from → (x : Starts w.pass old h)
      → Passes (known_through next s x.before))
  test_decides s from h o known = (
    λ is old long x.
        each s from h (ap (holds_of test) (sym known) ∙ is) old long x.before x.first x.following x.all x.own
        x.event x.steps x.stepped x.calls,
    λ holds.
        ap (holds_of test) known
        ∙ all s from h (λ old long before first following both own event steps stepped calls.
        holds old long (record {
          before = before;
          first = first;
          following = following;
          all = both;
          own = own;
          event = event;
          steps = steps;
          stepped = stepped;
          calls = calls;
        })),
  )
