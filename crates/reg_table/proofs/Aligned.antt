-- All addresses of the table are multiples of 4.
use Rattle.std.proofs.Common.{◌≡◌, ℕ, ◌+◌, ◌*◌, ◌/◌, ◌%◌, Bool, true, ◌&&◌, ◌==◌, List, [], ◌∷◌, ap, ◌∙◌, refl, inl, inr, arith}
use Rattle.std.specs.List.{list_all}
use Rattle.std.proofs.lemmas.Bool.{and_parts, eqb-true}
use Rattle.std.proofs.Math.Nat.{mul_assoc}
use Rattle.reg_table.specs.declared.place.Place.{Place}
use Rattle.reg_table.specs.Run.{Run, HasPlaceAt}
use Rattle.reg_table.specs.Runs.{runs}
use Rattle.reg_table.specs.Place.{SomeRunHas, Names}

-- Whether the run's first address and its stride are multiples of 4.
abbrev pub is_aligned : Run → Bool
is_aligned r = (r.first % 4 == 0) && (r.stride % 4 == 0)

aligned_step : (first stride step a : ℕ) → first % 4 ≡ 0 → stride % 4 ≡ 0 → a ≡ first + stride * step → a % 4 ≡ 0
aligned_step first stride step a f s e =
    let whole : stride ≡ 4 * (stride / 4) = omega arith in
    let product : stride * step ≡ 4 * (stride / 4 * step) = ap (λ n. n * step) whole ∙ mul_assoc 4 (stride / 4) step in
    omega arith

aligned_run : (r : Run) (a : ℕ) (p : Place) → is_aligned r ≡ true → HasPlaceAt r a p → a % 4 ≡ 0
aligned_run r a p t i =
    let both = and_parts (r.first % 4 == 0) (r.stride % 4 == 0) t in
    aligned_step r.first r.stride i.step a (eqb-true _ _ both.0) (eqb-true _ _ both.1) i.at

aligned_runs : (rs : List Run) (a : ℕ) (p : Place) → list_all is_aligned rs ≡ true → SomeRunHas rs a p → a % 4 ≡ 0
aligned_runs [] a p t n = absurd n
aligned_runs (r ∷ rs) a p t (inl i) = aligned_run r a p (and_parts (is_aligned r) (list_all is_aligned rs) t).0 i
aligned_runs (r ∷ rs) a p t (inr n) = aligned_runs rs a p (and_parts (is_aligned r) (list_all is_aligned rs) t).1 n

table_aligned : list_all is_aligned runs ≡ true
unfolding runs
table_aligned = refl

-- An address that names a place is a multiple of 4.
pub whole_words : (a : ℕ) (p : Place) → Names a p → a % 4 ≡ 0
whole_words a p n = aligned_runs runs a p table_aligned n
