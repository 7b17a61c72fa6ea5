-- Lemmas about which passes close a history.
use Rattle.std.proofs.Common.{◌≡◌, ℕ, ◌<◌, ◌≤◌, ◌↔◌, List, [], ◌∷◌, inl, inr, refl, ap, subst, arith, slice_index_or, Some}
use Rattle.std.proofs.lemmas.Bool.{cases_lt}
use Rattle.std.proofs.lemmas.Grind.{common_steps}
use Rattle.device_lock.specs.declared.entry.Entry.{Entry}
use Rattle.device_lock.specs.declared.fault.CloseFault.{CloseFault}
use Rattle.device_lock.specs.declared.fault.CloseFault.TheVariants.{MissingPass, ForeignPass, Mismatch, OutOfMemory}
use Rattle.device_lock.specs.History.{AllBelow}
use Rattle.device_lock.specs.Kept.{entries_of}
use Rattle.device_lock.specs.Pass.{PassValue, IsOwn}
use Rattle.device_lock.specs.Closing.{Answers, AreAll, Closes, IsMissing, IsSurplus, TagStands}

-- If no tag at or above this number has an entry, all tags are below this number.
all_below : (count : ℕ) (h : List Entry) → AllBelow 64 h
    → ((tag : ℕ) → count ≤ tag → tag < 64 → entries_of tag h ≡ 0) → AllBelow count h
all_below count [] below none = tt
all_below count (e ∷ es) below none =
    let first : e.pass < count =
    elim (cases_lt e.pass count) [
      | inl lt ↦ lt
      | inr from ↦ let no = none e.pass from below.0 in absurd (grind (arith, common_steps, no))
    ] in
    (first, all_below count es below.1 (λ tag from lt. let no = none tag from lt in grind (arith, common_steps, no)))

-- All of the bench's passes close the history if they have its calls for each tag.
pub closes : (bench count : ℕ) (h : List Entry) (ps : List PassValue) → count ≤ 64 → AllBelow 64 h
    → AreAll bench count ps → ((tag : ℕ) → tag < 64 → TagStands h tag ps) → Closes bench count h ps
closes bench count h ps small below all stands = record {
  all = all;
  stand = λ k d lt.
      let own : IsOwn bench count (slice_index_or ps k d) = all.own k d lt in
      let tag : (slice_index_or ps k d).tag < 64 = let is = own.1 in omega (arith, is) in
      (stands (slice_index_or ps k d).tag tag).own k d lt refl;
  below = all_below count h below (λ tag from lt.
      (stands tag lt).none (λ k d within same. let own = all.own k d within in let is = own.1 in omega (arith, is)));
}

-- Only one tag can be the lowest missing tag.
missing_once : (bench count : ℕ) (ps : List PassValue) (a b : ℕ) → IsMissing bench count ps a
    → IsMissing bench count ps b → a ≡ b
missing_once bench count ps a b x y = elim (cases_lt a b) [
  | inl lt ↦ let some = y.lowest a lt in let none = x.absent in absurd (omega (arith, some, none))
  | inr le ↦
      elim (cases_lt b a) [
        | inl lt ↦ let some = x.lowest b lt in let none = y.absent in absurd (omega (arith, some, none))
        | inr ge ↦ omega arith
      ]
]

-- If all passes are present, no tag is missing.
none_missing : (bench count : ℕ) (ps : List PassValue) (tag : ℕ) → AreAll bench count ps → IsMissing bench count ps tag
    → ⊥
none_missing bench count ps tag all missing =
    let one = all.once tag missing.below in let none = missing.absent in omega (arith, one, none)

pub closed_none_missing : (bench count : ℕ) (h : List Entry) (ps : List PassValue) (tag : ℕ)
    → Closes bench count h ps → IsMissing bench count ps tag → ⊥
closed_none_missing bench count h ps tag closed = none_missing bench count ps tag closed.all

tag_in : CloseFault → ℕ
tag_in (MissingPass tag) = tag
tag_in ForeignPass = 0
tag_in (Mismatch tag) = tag
tag_in OutOfMemory = 0

-- A tag is reported as missing if and only if it is the lowest missing tag.
pub missing_exactly : (bench count : ℕ) (h : List Entry) (ps : List PassValue) (fault : CloseFault) (tag : ℕ)
    → Answers bench count h ps (Some fault) → (fault ≡ MissingPass tag) ↔ IsMissing bench count ps tag
unfolding tag_in
missing_exactly bench count h ps (MissingPass other) tag is = (
  λ same. subst (λ (n : ℕ). IsMissing bench count ps n) (ap tag_in same) is,
  λ missing. ap (λ n. MissingPass n) (missing_once bench count ps other tag is missing),
)
missing_exactly bench count h ps ForeignPass tag is = (
  λ same. absurd cc,
  λ missing.
      let some = is.0 tag missing.below in let none = missing.absent in absurd (omega (arith, some, none)),
)
missing_exactly bench count h ps (Mismatch other) tag is =
    (λ same. absurd cc, λ missing. absurd (none_missing bench count ps tag is.0 missing))
missing_exactly bench count h ps OutOfMemory tag is = absurd is

-- A surplus pass is reported if and only if a pass is surplus and no tag is missing.
pub surplus_exactly : (bench count : ℕ) (h : List Entry) (ps : List PassValue) (fault : CloseFault)
    → Answers bench count h ps (Some fault) → (fault ≡ ForeignPass) ↔ IsSurplus bench count ps
surplus_exactly bench count h ps (MissingPass tag) is = (
  λ same. absurd cc,
  λ surplus.
      let some = surplus.0 tag is.below in let none = is.absent in absurd (omega (arith, some, none)),
)
surplus_exactly bench count h ps ForeignPass is = (λ same. is, λ surplus. refl)
surplus_exactly bench count h ps (Mismatch tag) is = (λ same. absurd cc, λ surplus. absurd (surplus.1 is.0))
surplus_exactly bench count h ps OutOfMemory is = absurd is
