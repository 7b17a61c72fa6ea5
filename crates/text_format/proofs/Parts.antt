-- Lemmas about splitting a text at the bytes that pass a test.
use Rattle.std.proofs.Common.{refl, arith, ◌≡◌, ℕ, not, Bool, true, false, cond, ◌<◌, get_or, List, [], ◌∷◌, length}
use Rattle.std.specs.List.{position_or_len, prefix_len, slice_split, onto_first, All}
use Rattle.std.proofs.lemmas.List.Sums.{prefix_len_passes}
use Rattle.std.proofs.lemmas.List.Splits.{slice_split_none}

not_true : (b : Bool) → not b ≡ true → b ≡ false
not_true true h = cc
not_true false h = refl

none_passes : (test : ℕ → Bool) (text : List ℕ) → position_or_len test text ≡ length text
    → All (λ byte. test byte ≡ false) text
none_passes test text none = λ k byte below.
    let before : k < prefix_len (λ b. not (test b)) text = omega arith in
    not_true (test (get_or text k byte)) (prefix_len_passes (λ b. not (test b)) text k byte before)

-- If no byte passes the test, the whole text is one part.
pub slice_split-whole : (test : ℕ → Bool) (text : List ℕ) → position_or_len test text ≡ length text
    → slice_split test text ≡ text ∷ []
slice_split-whole test text none = slice_split_none test text (none_passes test text none)

-- A split text has at least one part.
abbrev pub HasFirst : List (List ℕ) → Type 0
HasFirst parts = (first : List ℕ) × (more : List (List ℕ)) × (parts ≡ first ∷ more)

first_of : (passes : Bool) (byte : ℕ) (parts : List (List ℕ))
    → HasFirst (cond passes ([] ∷ parts) (onto_first byte parts))
first_of true byte parts = ([], parts, refl)
first_of false byte [] = (byte ∷ [], [], refl)
first_of false byte (part ∷ parts) = (byte ∷ part, parts, refl)

pub slice_split-HasFirst : (test : ℕ → Bool) (text : List ℕ) → HasFirst (slice_split test text)
slice_split-HasFirst test [] = ([], [], refl)
slice_split-HasFirst test (byte ∷ more) = first_of (test byte) byte (slice_split test more)
