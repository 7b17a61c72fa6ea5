-- A printed address is a single word.
use Rattle.std.proofs.Common.{◌≡◌, refl, ℕ, ◌^◌, ◌<◌, true, false, ◌==◌, List, [], ◌∷◌, ◌++◌, length, Option, Some, None, arith, inl, inr}
use Rattle.std.specs.Prelude.{decimal}
use Rattle.script_asm.specs.Prelude.{Place, RowId, is_name, place_among, row_of, runs, word_text}
use Rattle.script_asm.proofs.Prelude.{eqb_tells, nat_tests}
use Rattle.script_asm.specs.Printing.{place_text, place_first_at, target_text}
use Rattle.script_asm.proofs.Numerals.{is_tame, IsWord-word, plain-decimal}
use Rattle.script_asm.proofs.Plain.{IsWord, is_plain, list_all-weaker, both_all}
use Rattle.script_asm.proofs.RowNames.{row-IsGood, tame_plain}
use Rattle.script_asm.proofs.Addresses.{first-IsFirst}

-- A name isn't empty.
long-name : (xs : List ℕ) → is_name xs ≡ true → (length xs == 0) ≡ false
unfolding is_name
long-name [] e = cc
long-name (c ∷ cs) e = grind (arith, nat_tests)

long-more : (xs ys : List ℕ) → (length xs == 0) ≡ false → (length (xs ++ ys) == 0) ≡ false
long-more [] ys e = cc
long-more (c ∷ cs) ys e = grind (arith, nat_tests)

IsWord-name : (r : RowId) → IsWord (row_of r).name
IsWord-name r =
    let good = row-IsGood r in
    record {
      long = long-name (row_of r).name good.name;
      plain =
          list_all-weaker is_tame is_plain tame_plain (row_of r).name good.tame;
    }

IsWord-indexed : (r : RowId) (n : ℕ) → n < 65536 → IsWord ((row_of r).name ++ 91 ∷ (decimal n ++ 93 ∷ []))
IsWord-indexed r n small =
    let word = IsWord-name r in
    record {
      long = long-more (row_of r).name (91 ∷ (decimal n ++ 93 ∷ [])) word.long;
      plain = both_all is_plain (row_of r).name (91 ∷ (decimal n ++ 93 ∷ [])) word.plain
          (both_all is_plain (decimal n) (93 ∷ []) (plain-decimal n (omega arith)) refl);
    }

IsWord-place : (p : Place) → p.index < (row_of p.row).count → IsWord (place_text p)
IsWord-place p below =
    let good = row-IsGood p.row in
    let few = good.few in
    elim (eqb_tells (row_of p.row).count 1) [
      | inl (test, one) ↦ rw test (IsWord-name p.row)
      | inr (test, many) ↦ rw test (IsWord-indexed p.row p.index (omega (arith, few)))
    ]

printed_word : (a : ℕ) (place : Option Place) → place_first_at a ≡ place → a < 2 ^ 32
    → IsWord (elim place [ None ↦ word_text a | Some p ↦ place_text p ])
printed_word a None found small = IsWord-word a small
printed_word a (Some p) found small = IsWord-place p (first-IsFirst a p (place_among runs a) refl found).below

pub IsWord-target : (a : ℕ) → a < 2 ^ 32 → IsWord (target_text a)
IsWord-target a small = printed_word a (place_first_at a) refl small
