-- Lemmas about the triples in a list of words, proved one triple at a time.
use Rattle.std.proofs.Common.{◌≡◌, ℕ, zero, suc, ◌-◌, ◌*◌, ◌/◌, List, [], ◌∷◌, length, take, drop, refl, arith, ap, ◌∙◌, Option, Some, None}
use Rattle.std.specs.List.{slice_get}
use Rattle.std.specs.Option.{MatchOption}
use Rattle.std.proofs.lemmas.List.{take_all, length-drop}
use Rattle.std.proofs.Math.Seq.{drop-nil}
use Rattle.eeprom_image.specs.Triples.{triples_in}

pub length-triples_in : (words : List ℕ) → length (triples_in words) ≡ length words / 3
length-triples_in [] = refl
length-triples_in (a ∷ []) = refl
length-triples_in (a ∷ b ∷ []) = refl
length-triples_in (a ∷ b ∷ c ∷ words) = let rest = length-triples_in words in omega arith

three : (index : ℕ) → 3 * suc index ≡ suc (suc (suc (3 * index)))
three index = omega arith

triples_in-drop : (words : List ℕ) (index : ℕ) → triples_in (drop (3 * index) words) ≡ drop index (triples_in words)
triples_in-drop words zero = refl
triples_in-drop [] (suc index) = ap triples_in (drop-nil (3 * suc index))
triples_in-drop (a ∷ []) (suc index) = rw (three index) (ap triples_in (drop-nil (suc (suc (3 * index)))))
triples_in-drop (a ∷ b ∷ []) (suc index) = rw (three index) (ap triples_in (drop-nil (suc (3 * index))))
triples_in-drop (a ∷ b ∷ c ∷ words) (suc index) = rw (three index) (triples_in-drop words index)

got_drop : (ts : List (ℕ × ℕ)) (index : ℕ) → slice_get (drop index ts) 0 ≡ slice_get ts index
got_drop ts zero = refl
got_drop [] (suc index) = refl
got_drop (t ∷ ts) (suc index) = got_drop ts index

yielded : (ts us : List (ℕ × ℕ)) (r : Option (ℕ × ℕ))
    → MatchOption r ((ts ≡ []) × (us ≡ [])) (λ t. ts ≡ t ∷ us) → r ≡ slice_get ts 0
yielded ts us None h = rw h.0 refl
yielded ts us (Some t) h = rw h refl

-- The first triple in the words that start at three times an index.
pub got_triple : (words : List ℕ) (index : ℕ) (us : List (ℕ × ℕ)) (r : Option (ℕ × ℕ)) (ts : List (ℕ × ℕ))
    → ts ≡ triples_in (take (length words - 3 * index) (drop (3 * index) words))
    → MatchOption r ((ts ≡ []) × (us ≡ [])) (λ t. ts ≡ t ∷ us) → r ≡ slice_get (triples_in words) index
got_triple words index us r ts is first =
    let rest = drop (3 * index) words in
    let few = length-drop (3 * index) words in
    let all = take_all (length words - 3 * index) rest (omega arith) in
    let from : ts ≡ drop index (triples_in words) = is ∙ (ap triples_in all ∙ triples_in-drop words index) in
    yielded ts us r first ∙ (ap (λ (ls : List (ℕ × ℕ)). slice_get ls 0) from ∙ got_drop (triples_in words) index)
