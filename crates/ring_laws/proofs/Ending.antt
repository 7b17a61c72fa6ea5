-- How a history is closed, and where a pass's entries are.
use Rattle.std.proofs.Common.{◌≡◌, ℕ, zero, suc, ◌+◌, ◌<◌, ◌&&◌, Bool, true, false, cond, eqb, List, [], ◌∷◌, get_or}
use Rattle.std.proofs.Common.{Option, Some, None, refl, ap, sym, ◌∙◌, subst, inl, inr, arith}
use Rattle.std.specs.List.{slice_get, Contains, AllPairs, All}
use Rattle.std.proofs.lemmas.Bool.{true≢false, cases_order, cases_Bool, eqb-true, eq-eqb}
use Rattle.std.proofs.lemmas.List.Elements.{All-contains}
use Rattle.std.proofs.lemmas.List.Kept.{AllPairs-cons}
use Rattle.std.proofs.lemmas.List.Recursion.{is_count_by}
use Rattle.std.proofs.lemmas.Option.{none-some, same_Some, slice_get_within}
use Rattle.device_lock.specs.Closing.{Answers, AreAll, Closes, IsMismatch, StandsIn, tag_count}
use Rattle.device_lock.specs.Pass.{IsOwn}
use Rattle.device_lock.specs.Positions.{positions_from, positions_of}
use Rattle.device_lock.specs.declared.fault.CloseFault.TheVariants.{OutOfMemory}
use Rattle.ring_laws.specs.Ending.{is_there, ClosingTells, ClosingCompares, ClosingHasAnOrder, ClosingIsCompared}
use Rattle.ring_laws.specs.Ending.{PositionsAre, PositionsAreExact}
use Rattle.ring_laws.specs.LocksPrelude.{PassValue, Entry, CloseFault, MissingPass, ForeignPass, Mismatch}

-- The number of passes with the tag, as a recursive count.
how_many : (bench tag : ℕ) → List PassValue → ℕ
how_many bench tag [] = 0
how_many bench tag (p ∷ ps) =
    cond (eqb p.bench bench && eqb p.tag tag) (1 + how_many bench tag ps) (how_many bench tag ps)

counted : (bench tag : ℕ) (ps : List PassValue) → how_many bench tag ps ≡ tag_count bench tag ps
unfolding how_many
counted bench tag ps =
    is_count_by (how_many bench tag) (λ (p : PassValue). eqb p.bench bench && eqb p.tag tag) refl (λ _ _. refl) ps

none_counted : (bench tag : ℕ) (ps : List PassValue) → is_there bench tag ps ≡ false → how_many bench tag ps ≡ 0
unfolding how_many
none_counted bench tag [] h = refl
none_counted bench tag (p ∷ ps) h = elim (cases_Bool (eqb p.bench bench && eqb p.tag tag)) [
  | inl is ↦ absurd (true≢false (sym (rw is refl) ∙ h))
  | inr isnt ↦ rw isnt (none_counted bench tag ps (sym (rw isnt refl) ∙ h))
]

some_counted : (bench tag : ℕ) (ps : List PassValue) → is_there bench tag ps ≡ true → 0 < how_many bench tag ps
unfolding how_many
some_counted bench tag [] h = absurd (true≢false (sym h))
some_counted bench tag (p ∷ ps) h = elim (cases_Bool (eqb p.bench bench && eqb p.tag tag)) [
  | inl is ↦ rw is (omega arith)
  | inr isnt ↦ rw isnt (some_counted bench tag ps (sym (rw isnt refl) ∙ h))
]

module _ (bench count : ℕ) (h : List Entry) (ps : List PassValue) where
  absent : (tag : ℕ) → is_there bench tag ps ≡ false → tag_count bench tag ps ≡ 0
  absent tag h = sym (counted bench tag ps) ∙ none_counted bench tag ps h

  present : (tag : ℕ) → is_there bench tag ps ≡ true → 0 < tag_count bench tag ps
  present tag h = omega (arith, counted bench tag ps, some_counted bench tag ps h)

  missing : (answer : Option CloseFault) → Answers bench count h ps answer → (tag : ℕ) → tag < count →
      is_there bench tag ps ≡ false → ((lower : ℕ) → lower < tag → is_there bench lower ps ≡ true) →
      answer ≡ Some (MissingPass tag)
  missing None a tag below none lowest = absurd (omega (arith, absent tag none, a.all.once tag below))
  missing (Some (MissingPass t)) a tag below none lowest = elim (cases_order t tag) [
    | inl same ↦ ap (λ n. Some (MissingPass n)) same
    | inr (inl less) ↦ absurd (omega (arith, a.absent, present t (lowest t less)))
    | inr (inr more) ↦ absurd (omega (arith, absent tag none, a.lowest tag more))
  ]
  missing (Some ForeignPass) a tag below none lowest = absurd (omega (arith, absent tag none, a.0 tag below))
  missing (Some (Mismatch t)) a tag below none lowest = absurd (omega (arith, absent tag none, a.0.once tag below))
  missing (Some OutOfMemory) a tag below none lowest = absurd a

  -- If each tag has a pass, but the passes aren't exactly the bench's passes, `ForeignPass` is reported.
  surplus : (answer : Option CloseFault) → Answers bench count h ps answer →
      ((tag : ℕ) → tag < count → is_there bench tag ps ≡ true) → (AreAll bench count ps → ⊥) →
      answer ≡ Some ForeignPass
  surplus None a all none = absurd (none a.all)
  surplus (Some (MissingPass t)) a all none = absurd (omega (arith, a.absent, present t (all t a.below)))
  surplus (Some ForeignPass) a all none = refl
  surplus (Some (Mismatch t)) a all none = absurd (none a.0)
  surplus (Some OutOfMemory) a all none = absurd a

closing_tells_one : (bench count : ℕ) (h : List Entry) (ps : List PassValue) (answer : Option CloseFault) →
    Answers bench count h ps answer → ClosingTells bench count h ps answer
closing_tells_one bench count h ps answer a = record {
  missing = missing bench count h ps answer a;
  foreign = λ all p there differs.
      surplus bench count h ps answer a all (λ are.
      differs (All-contains (IsOwn bench count) ps p are.own there).0);
  untagged = λ all p there above.
      surplus bench count h ps answer a all (λ are.
      absurd (omega (arith, above, (All-contains (IsOwn bench count) ps p are.own there).1)));
}

closing_compares : (bench count : ℕ) (h : List Entry) (ps : List PassValue) (answer : Option CloseFault) →
    Answers bench count h ps answer → ClosingCompares bench count h ps answer
closing_compares bench count h ps answer a = record {
  twice = λ all tag below two.
      surplus bench count h ps answer a all (λ are. absurd (omega (arith, two, are.once tag below)));
  noticed = λ p there differs is.
      let closes : Closes bench count h ps = subst (Answers bench count h ps) is a in
      differs (All-contains (StandsIn h) ps p closes.stand there);
  lowest = λ tag is p there below.
      let first : AreAll bench count ps × IsMismatch h ps tag = subst (Answers bench count h ps) is a in
      All-contains (λ q. q.tag ≡ p.tag → StandsIn h q) ps p (first.1.lowest p.tag below).own there refl;
}

pub closing_tells : ClosingHasAnOrder
closing_tells bench count h ps answer a = closing_tells_one bench count h ps answer a

pub closing_is_compared : ClosingIsCompared
closing_is_compared bench count h ps answer a = closing_compares bench count h ps answer a

-- A listed position, counted from `at`: the position is `at` plus `place`, and entry `place` of the history has the
-- tag.
pub record IsListed (at tag q : ℕ) (h : List Entry) : Type 0 where
  pub place : ℕ
  pub is : q ≡ at + place
  pub entry : Entry
  pub there : slice_get h place ≡ Some entry
  pub own : entry.pass ≡ tag

later : (at tag q : ℕ) (e : Entry) (h : List Entry) → IsListed (at + 1) tag q h → IsListed at tag q (e ∷ h)
later at tag q e h l = record {
  place = suc l.place;
  is = l.is ∙ omega arith;
  entry = l.entry;
  there = l.there;
  own = l.own;
}

sound_step : (at tag : ℕ) (e : Entry) (h : List Entry) →
    All (λ q. IsListed (at + 1) tag q h) (positions_from (at + 1) tag h) → (b : Bool) → eqb e.pass tag ≡ b →
    All (λ q. IsListed at tag q (e ∷ h))
    (cond b (at ∷ positions_from (at + 1) tag h) (positions_from (at + 1) tag h))
sound_step at tag e h rest true is zero d below = record {
  place = 0;
  is = omega arith;
  entry = e;
  there = refl;
  own = eqb-true e.pass tag is;
}
sound_step at tag e h rest true is (suc k) d below =
    later at tag (get_or (positions_from (at + 1) tag h) k d) e h (rest k d (omega arith))
sound_step at tag e h rest false isnt k d below =
    later at tag (get_or (positions_from (at + 1) tag h) k d) e h (rest k d below)

sound : (at tag : ℕ) (h : List Entry) → All (λ q. IsListed at tag q h) (positions_from at tag h)
sound at tag [] = λ k d below. absurd (omega arith)
sound at tag (e ∷ h) = sound_step at tag e h (sound (at + 1) tag h) (eqb e.pass tag) refl

complete_step : (at tag q : ℕ) (e : Entry) (h : List Entry) → Contains (positions_from (at + 1) tag h) q →
    (b : Bool) → Contains (cond b (at ∷ positions_from (at + 1) tag h) (positions_from (at + 1) tag h)) q
complete_step at tag q e h found true = (suc found.0, omega (arith, found.1), found.2)
complete_step at tag q e h found false = found

complete : (at tag i : ℕ) (h : List Entry) (e : Entry) → slice_get h i ≡ Some e → e.pass ≡ tag →
    Contains (positions_from at tag h) (at + i)
complete at tag i [] e there own = absurd (none-some e there)
complete at tag zero (x ∷ h) e there own =
    let same : x ≡ e = same_Some x e there in
    let is : eqb x.pass tag ≡ true = eq-eqb x.pass tag (ap (λ (y : Entry). y.pass) same ∙ own) in
    rw is (0, omega arith, omega arith)
complete at tag (suc i) (x ∷ h) e there own =
    complete_step at tag (at + suc i) x h
    (subst (Contains (positions_from (at + 1) tag h)) (omega arith) (complete (at + 1) tag i h e there own))
    (eqb x.pass tag)

ascending_step : (at tag : ℕ) (h : List Entry) → AllPairs ◌<◌ (positions_from (at + 1) tag h) → (b : Bool) →
    AllPairs ◌<◌ (cond b (at ∷ positions_from (at + 1) tag h) (positions_from (at + 1) tag h))
ascending_step at tag h rest true =
    AllPairs-cons ◌<◌ at (positions_from (at + 1) tag h)
    (λ k d below. let l = sound (at + 1) tag h k d below in omega (arith, l.is)) rest
ascending_step at tag h rest false = rest

ascending : (at tag : ℕ) (h : List Entry) → AllPairs ◌<◌ (positions_from at tag h)
ascending at tag [] = λ i j d less below. absurd (omega arith)
ascending at tag (e ∷ h) = ascending_step at tag h (ascending (at + 1) tag h) (eqb e.pass tag)

positions_are_one : (tag : ℕ) (h : List Entry) → PositionsAre tag h
positions_are_one tag h = record {
  listed = λ p e there. (
    λ found.
        let l = All-contains (λ q. IsListed 0 tag q h) (positions_of tag h) p (sound 0 tag h) found in
        let same : p ≡ l.place = l.is ∙ omega arith in
        let other : slice_get h p ≡ Some l.entry = ap (slice_get h) same ∙ l.there in
        ap (λ (y : Entry). y.pass) (same_Some e l.entry (sym there ∙ other)) ∙ l.own,
    λ own. subst (Contains (positions_of tag h)) (omega arith) (complete 0 tag p h e there own),
  );
  inside = λ p found.
      let l = All-contains (λ q. IsListed 0 tag q h) (positions_of tag h) p (sound 0 tag h) found in
      omega (arith, l.is, slice_get_within h l.place l.entry l.there);
  ascend = ascending 0 tag h;
}

pub positions_are : PositionsAreExact
positions_are tag h = positions_are_one tag h
