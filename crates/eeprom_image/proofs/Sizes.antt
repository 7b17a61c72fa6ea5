-- Lemmas about the nine sizes that an image may have.
use Rattle.std.proofs.Common.{Bool, nat_le, length, filter, ◌≡◌, ◌==◌, ℕ, ◌*◌, ◌^◌, ◌≤◌, inl, inr, true, List, [], ◌∷◌, refl, arith, subst, sym, ◌∙◌}
use Rattle.std.specs.List.{list_any, AllByRecursion}
use Rattle.std.proofs.lemmas.Bool.Decides.{eqb_tells}
use Rattle.std.proofs.lemmas.Bool.{cases_order}
use Rattle.std.proofs.lemmas.List.Sums.{length-filter, count_by-le-length}
use Rattle.std.proofs.Math.Pow.{pow-lt}
use Rattle.eeprom_image.specs.Image.{is_size, doublings}

-- A property of all nine sizes holds for any valid size.
of_any : (P : ℕ → Type 0) (size : ℕ) (ss : List ℕ) → list_any (λ s. size == 64 * 2 ^ s) ss ≡ true
    → AllByRecursion (λ s. P (64 * 2 ^ s)) ss → P size
of_any P size [] h all = absurd (let no : ⊥ = cc in no)
of_any P size (s ∷ ss) h all = elim (eqb_tells size (64 * 2 ^ s)) as (λ _. P size) [
  | inl (t, e) ↦ subst P (sym e) all.0
  | inr (t, e) ↦ of_any P size ss (rw t at h) all.1
]

pub doubled : (size : ℕ) → is_size size ≡ true → size ≡ 64 * 2 ^ doublings size
doubled size h =
    of_any (λ n. n ≡ 64 * 2 ^ doublings n) size (0 ∷ 1 ∷ 2 ∷ 3 ∷ 4 ∷ 5 ∷ 6 ∷ 7 ∷ 8 ∷ []) h
    (refl, (refl, (refl, (refl, (refl, (refl, (refl, (refl, (refl, tt)))))))))

few_pass : (p : ℕ → Bool) (ns : List ℕ) → length (filter p ns) ≤ length ns
few_pass p ns = rw length-filter (count_by-le-length p ns)

pub doublings-few : (size : ℕ) → doublings size ≤ 8
doublings-few size = few_pass (λ s. nat_le (64 * 2 ^ s) size) (1 ∷ 2 ∷ 3 ∷ 4 ∷ 5 ∷ 6 ∷ 7 ∷ 8 ∷ [])

same_power : (d e : ℕ) → 64 * 2 ^ d ≡ 64 * 2 ^ e → d ≡ e
same_power d e same = elim (cases_order d e) as (λ _. d ≡ e) [
  | inl is ↦ is
  | inr (inl low) ↦ let less = pow-lt low in omega arith
  | inr (inr high) ↦ let less = pow-lt high in omega arith
]

pub doublings-is : (size d : ℕ) → is_size size ≡ true → size ≡ 64 * 2 ^ d → doublings size ≡ d
doublings-is size d h is = same_power (doublings size) d (sym (doubled size h) ∙ is)
