-- Lemmas about the first word of a text.
use Rattle.std.proofs.Common.{refl, sym, ap, ◌∙◌, ◌≡◌, ℕ, suc, ◌+◌, ◌==◌, ◌||◌, not, Bool, true, false, cond, List, [], ◌∷◌, length, take, drop, filter, inl, inr, arith}
use Rattle.std.specs.List.{position_or_len, before_first, slice_split, onto_first}
use Rattle.std.proofs.lemmas.Bool.{cases_Bool}
use Rattle.std.proofs.lemmas.List.Splits.{slice_split-cons_yes, slice_split-cons_no}

pub take_next : (n byte : ℕ) (more : List ℕ) → take (1 + n) (byte ∷ more) ≡ byte ∷ take n more
take_next n byte more = let next : 1 + n ≡ suc n = omega arith in ap (λ k. take k (byte ∷ more)) next

pub drop_next : (n byte : ℕ) (more : List ℕ) → drop (1 + n) (byte ∷ more) ≡ drop n more
drop_next n byte more = let next : 1 + n ≡ suc n = omega arith in ap (λ k. drop k (byte ∷ more)) next

pub position-yes : (test : ℕ → Bool) (byte : ℕ) (more : List ℕ) → test byte ≡ true
    → position_or_len test (byte ∷ more) ≡ 0
position-yes test byte more hit = ap (λ b. cond (not b) (1 + position_or_len test more) 0) hit

pub position-no : (test : ℕ → Bool) (byte : ℕ) (more : List ℕ) → test byte ≡ false
    → position_or_len test (byte ∷ more) ≡ 1 + position_or_len test more
position-no test byte more miss = ap (λ b. cond (not b) (1 + position_or_len test more) 0) miss

abbrev pub filled : List (List ℕ) → List (List ℕ)
filled parts = filter (λ part. not (length part == 0)) parts

-- The parts of the text before the first byte that `hash` accepts, split at each byte that `blank` accepts.
abbrev pub parts_of : (ℕ → Bool) → (ℕ → Bool) → List ℕ → List (List ℕ)
parts_of hash blank text = slice_split blank (before_first hash text)

pub parts-hash : (hash blank : ℕ → Bool) (byte : ℕ) (more : List ℕ) → hash byte ≡ true
    → parts_of hash blank (byte ∷ more) ≡ [] ∷ []
parts-hash hash blank byte more hit =
    ap (λ n. slice_split blank (take n (byte ∷ more))) (position-yes hash byte more hit)

before-next : (hash : ℕ → Bool) (byte : ℕ) (more : List ℕ) → hash byte ≡ false
    → before_first hash (byte ∷ more) ≡ byte ∷ before_first hash more
before-next hash byte more miss =
    ap (λ n. take n (byte ∷ more)) (position-no hash byte more miss) ∙ take_next (position_or_len hash more) byte more

pub parts-blank : (hash blank : ℕ → Bool) (byte : ℕ) (more : List ℕ) → hash byte ≡ false → blank byte ≡ true
    → parts_of hash blank (byte ∷ more) ≡ [] ∷ parts_of hash blank more
parts-blank hash blank byte more plain hit =
    ap (slice_split blank) (before-next hash byte more plain)
    ∙ slice_split-cons_yes blank byte (before_first hash more) hit

parts-other : (hash blank : ℕ → Bool) (byte : ℕ) (more : List ℕ) → hash byte ≡ false → blank byte ≡ false
    → parts_of hash blank (byte ∷ more) ≡ onto_first byte (parts_of hash blank more)
parts-other hash blank byte more plain miss =
    ap (slice_split blank) (before-next hash byte more plain)
    ∙ slice_split-cons_no blank byte (before_first hash more) miss

abbrev pub ends : (ℕ → Bool) → (ℕ → Bool) → ℕ → Bool
ends hash blank byte = hash byte || blank byte

abbrev pub end_in : (ℕ → Bool) → (ℕ → Bool) → List ℕ → ℕ
end_in hash blank text = position_or_len (ends hash blank) text

-- The first part ends where the first word ends. The other nonempty parts are the nonempty parts of the text from that
-- end on.
abbrev FirstPart : (ℕ → Bool) → (ℕ → Bool) → List ℕ → Type 0
FirstPart hash blank text = (others : List (List ℕ))
    × (parts_of hash blank text ≡ take (end_in hash blank text) text ∷ others)
    × (filled others ≡ filled (parts_of hash blank (drop (end_in hash blank text) text)))

first-stop : (hash blank : ℕ → Bool) (byte : ℕ) (more : List ℕ) (others : List (List ℕ))
    → ends hash blank byte ≡ true → parts_of hash blank (byte ∷ more) ≡ [] ∷ others
    → FirstPart hash blank (byte ∷ more)
first-stop hash blank byte more others stop parts =
    let none = position-yes (ends hash blank) byte more stop in (
      others,
      parts ∙ ap (λ n. take n (byte ∷ more) ∷ others) (sym none),
      sym (ap (λ n. filled (parts_of hash blank (drop n (byte ∷ more)))) none ∙ ap filled parts),
    )

first-on : (hash blank : ℕ → Bool) (byte : ℕ) (more : List ℕ) → hash byte ≡ false → blank byte ≡ false
    → FirstPart hash blank more → FirstPart hash blank (byte ∷ more)
first-on hash blank byte more plain other (others, parts, same) =
    let goes_on : ends hash blank byte ≡ false = ap (λ b. b || blank byte) plain ∙ other in
    let next = position-no (ends hash blank) byte more goes_on in
    let front : take (end_in hash blank (byte ∷ more)) (byte ∷ more) ≡ byte ∷ take (end_in hash blank more) more =
    ap (λ n. take n (byte ∷ more)) next ∙ take_next (end_in hash blank more) byte more in
    let after : drop (end_in hash blank (byte ∷ more)) (byte ∷ more) ≡ drop (end_in hash blank more) more =
    ap (λ n. drop n (byte ∷ more)) next ∙ drop_next (end_in hash blank more) byte more in (
      others,
      parts-other hash blank byte more plain other ∙ ap (onto_first byte) parts
          ∙ ap (λ first. first ∷ others) (sym front),
      same ∙ ap (λ text. filled (parts_of hash blank text)) (sym after),
    )

first-part : (hash blank : ℕ → Bool) (text : List ℕ) → FirstPart hash blank text
first-part hash blank [] = ([], refl, refl)
first-part hash blank (byte ∷ more) =
    let rest = first-part hash blank more in
    elim (cases_Bool (hash byte)) [
      | inl hit ↦
          first-stop hash blank byte more [] (ap (λ b. b || blank byte) hit) (parts-hash hash blank byte more hit)
      | inr plain ↦ elim (cases_Bool (blank byte)) [
        | inl hit ↦ first-stop hash blank byte more (parts_of hash blank more) (ap (λ b. b || blank byte) plain ∙ hit)
            (parts-blank hash blank byte more plain hit)
        | inr other ↦ first-on hash blank byte more plain other rest
      ]
    ]

-- If the text before the first word end isn't empty, it is the first word.
pub filled-some : (hash blank : ℕ → Bool) (text : List ℕ) → (length (take (end_in hash blank text) text) == 0) ≡ false
    → filled (parts_of hash blank text)
    ≡ take (end_in hash blank text) text ∷ filled (parts_of hash blank (drop (end_in hash blank text) text))
filled-some hash blank text long =
    let (others, parts, same) = first-part hash blank text in
    let first = take (end_in hash blank text) text in
    ap filled parts ∙ ap (λ b. cond (not b) (first ∷ filled others) (filled others)) long ∙ ap (λ l. first ∷ l) same
