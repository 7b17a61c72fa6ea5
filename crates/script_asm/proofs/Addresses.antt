-- Printed register addresses read back.
use Rattle.std.proofs.Common.{◌≡◌, refl, ap, subst, ℕ, ◌^◌, ◌<◌, [], ◌∷◌, ◌++◌, Option, Some, None, Result, Ok, Err, unwrap_or, arith, inl, inr}
use Rattle.std.specs.Prelude.{decimal}
use Rattle.reg_table.proofs.Finding.{found-named}
use Rattle.reg_table.proofs.InRange.{named_in_range}
use Rattle.reg_table.proofs.Naming.{found_by_name}
use Rattle.script_asm.specs.Prelude.{Place, RowId, address_among, is_name, ok_or, place_among, row_of, runs, word_text}
use Rattle.script_asm.proofs.Prelude.{eqb_tells, lt-ltb}
use Rattle.script_asm.specs.Fault.{number_fault}
use Rattle.script_asm.specs.Printing.{place_text, if_first_at, place_first_at, target_text}
use Rattle.script_asm.specs.Target.{number_in, row_in, register_address, address_in, target_of}
use Rattle.script_asm.specs.declared.faults.LineFault.{LineFault}
use Rattle.script_asm.specs.declared.faults.LineFault.TheVariants.{UnknownName}
use Rattle.script_asm.proofs.Endings.{before_last_byte-ended}
use Rattle.script_asm.proofs.Numerals.{tame-word, number_of-word, number_of-decimal}
use Rattle.script_asm.proofs.RowNames.{row-IsGood, no_bracket, bracket, before_bracket, after_bracket}

row_in-name : (r : RowId) → row_in (row_of r).name ≡ Ok r
row_in-name r = ap (λ o. ok_or o UnknownName) (found_by_name r (row_of r).name refl)

-- `register_address` returns the first address of a place.
register_address-first : (p : Place) (a : ℕ) → p.index < (row_of p.row).count → unwrap_or (address_among runs p) 0 ≡ a
    → register_address p.row p.index ≡ Ok a
register_address-first p a below is = rw (lt-ltb p.index (row_of p.row).count below) (ap Ok is)

address-first : (p : Place) (a : ℕ) (row : Result RowId LineFault) (index : Result ℕ LineFault) → row ≡ Ok p.row
    → index ≡ Ok p.index
    → p.index < (row_of p.row).count → unwrap_or (address_among runs p) 0 ≡ a → address_in row index ≡ Ok a
address-first p a row index here at below is = rw (here, at) (register_address-first p a below is)

number_in-decimal : (n : ℕ) → n < 2 ^ 32 → number_in (decimal n) ≡ Ok n
number_in-decimal n small = ap (λ r. elim r [ Ok number ↦ Ok number | Err fault ↦ Err (number_fault fault) ])
    (number_of-decimal n small)

pub number_in-word : (n : ℕ) → n < 2 ^ 32 → number_in (word_text n) ≡ Ok n
number_in-word n small = ap (λ r. elim r [ Ok number ↦ Ok number | Err fault ↦ Err (number_fault fault) ])
    (number_of-word n small)

target_of-name : (p : Place) (a : ℕ) → p.index < (row_of p.row).count → unwrap_or (address_among runs p) 0 ≡ a
    → (row_of p.row).count ≡ 1
    → target_of (row_of p.row).name ≡ Ok a
unfolding target_of
target_of-name p a below is one =
    let good = row-IsGood p.row in
    let zero_index : 0 ≡ p.index = omega (arith, below, one) in
    rw (no_bracket (row_of p.row).name good.tame, good.name)
    (address-first p a (row_in (row_of p.row).name) (Ok 0) (row_in-name p.row) (ap Ok zero_index) below is)

target_of-indexed : (p : Place) (a : ℕ) → p.index < (row_of p.row).count → unwrap_or (address_among runs p) 0 ≡ a
    → target_of ((row_of p.row).name ++ 91 ∷ (decimal p.index ++ 93 ∷ [])) ≡ Ok a
unfolding target_of
target_of-indexed p a below is =
    let good = row-IsGood p.row in
    let name = (row_of p.row).name in
    let few = good.few in
    let after = decimal p.index ++ 93 ∷ [] in
    rw (
      bracket name after good.tame,
      before_bracket name after good.tame,
      after_bracket name after good.tame,
      before_last_byte-ended 93 (decimal p.index),
      good.name,
    )
    (address-first p a (row_in name) (number_in (decimal p.index)) (row_in-name p.row)
    (number_in-decimal p.index (omega arith)) below is)

place-text : (p : Place) (a : ℕ) → p.index < (row_of p.row).count → unwrap_or (address_among runs p) 0 ≡ a
    → target_of (place_text p) ≡ Ok a
place-text p a below is = elim (eqb_tells (row_of p.row).count 1) [
  | inl (test, one) ↦ rw test (target_of-name p a below is one)
  | inr (test, many) ↦ rw test (target_of-indexed p a below is)
]

target_of-word : (n : ℕ) → n < 2 ^ 32 → target_of (word_text n) ≡ Ok n
unfolding target_of is_name
target_of-word n small = rw (no_bracket (word_text n) (tame-word n small)) (number_in-word n small)

-- The place that is printed for an address starts at that address.
pub record IsFirst (p : Place) (a : ℕ) : Type 0 where
  pub below : p.index < (row_of p.row).count
  pub is : unwrap_or (address_among runs p) 0 ≡ a

first_here : (a : ℕ) (q p : Place) → place_among runs a ≡ Some q → if_first_at a q ≡ Some p → IsFirst p a
first_here a q p found e = elim (eqb_tells (unwrap_or (address_among runs q) 0) a) [
  | inl (test, is) ↦ (let step : Some q ≡ Some p = rw test at e in
      let same : q ≡ p = cc in
      subst (λ (x : Place). IsFirst x a) same
      (record { below = named_in_range a q ((found-named a q).0 found); is = is }))
  | inr (test, other) ↦ (let step : None ≡ Some p = rw test at e in cc)
]

pub first-IsFirst : (a : ℕ) (p : Place) (found : Option Place) → place_among runs a ≡ found
    → elim found [ None ↦ None | Some place ↦ if_first_at a place ] ≡ Some p → IsFirst p a
first-IsFirst a p None found e = cc
first-IsFirst a p (Some q) found e = first_here a q p found e

printed : (a : ℕ) (place : Option Place) → place_first_at a ≡ place → a < 2 ^ 32
    → target_of (elim place [ None ↦ word_text a | Some p ↦ place_text p ]) ≡ Ok a
printed a None found small = target_of-word a small
printed a (Some p) found small = let first = first-IsFirst a p (place_among runs a) refl found in
    place-text p a first.below first.is

-- The text printed for an address reads back as that address.
pub target_of-text : (a : ℕ) → a < 2 ^ 32 → target_of (target_text a) ≡ Ok a
target_of-text a small = printed a (place_first_at a) refl small
