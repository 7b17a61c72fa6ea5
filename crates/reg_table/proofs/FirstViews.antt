-- The first address of a place shows the place's whole word.
use Rattle.std.proofs.Common.{◌≡◌, ℕ, ◌+◌, ◌<◌, Bool, true, false, not, ◌&&◌, ◌||◌, nat_lt, nat_le, ◌==◌, List, [], ◌∷◌, length, Some, if◌then◌else◌, refl, sym, ◌∙◌, subst, inl, inr, arith}
use Rattle.std.specs.List.{list_all}
use Rattle.std.proofs.lemmas.List.Elements.{All-get_or}
use Rattle.std.proofs.lemmas.List.Sums.{AllPass-from_list_all}
use Rattle.std.proofs.lemmas.Bool.{cases_Bool, cond-true, cond-false, and_parts, or_cases, eqb-true, not-true, both_ways, false_from_ne_true}
use Rattle.std.proofs.lemmas.Bool.Decides.{nat_tests}
use Rattle.reg_table.specs.declared.rows.RowId.{RowId}
use Rattle.reg_table.specs.declared.place.Place.{Place}
use Rattle.reg_table.specs.Rows.{rows, number_of}
use Rattle.reg_table.specs.Run.{Run, HasPlaceAt, has_index, has_address, address_in}
use Rattle.reg_table.specs.Runs.{runs}
use Rattle.reg_table.specs.Place.{address_among, view_among}
use Rattle.reg_table.proofs.Steps.{has_address-true}
use Rattle.reg_table.proofs.Apart.{apart, all_apart, table_apart}
use Rattle.reg_table.proofs.Finding.{none_else}
use Rattle.reg_table.proofs.FirstAddresses.{HasPlaceAt-address_in, found_has_place}
use Rattle.reg_table.proofs.Numbers.{row_numbered, number_below, rows_length}

-- Whether the first run with the place shows only bits 15:0.
abbrev low_among : List Run → Place → Bool
low_among [] p = false
low_among (r ∷ rs) p = if has_index r p then r.low else low_among rs p

-- Whether the run shows whole words or has only index 0.
abbrev is_short : Run → Bool
is_short r = not r.low || ((r.first_index == 0) && (r.count == 1))

runs_short : list_all is_short runs ≡ true
unfolding runs
runs_short = refl

-- The first register of a row shows its whole word at its first address.
shows_whole : RowId → Bool
shows_whole row = not (low_among runs (record { row = row; index = 0 }))

all_whole : list_all shows_whole rows ≡ true
unfolding rows runs shows_whole
all_whole = refl

zero_index : (first count index : ℕ) → first ≡ 0 → count ≡ 1 → nat_lt index (first + count) ≡ true → index ≡ 0
zero_index first count index f c h = grind (arith, nat_tests)

short_index : (r : Run) (p : Place) → r.low ≡ true → is_short r ≡ true → has_index r p ≡ true → p.index ≡ 0
short_index r p low short has =
    let one = (r.first_index == 0) && (r.count == 1) in
    let far = (number_of r.row == number_of p.row) && nat_le r.first_index p.index in
    elim (or_cases (not r.low) one short) [
      | inl t ↦ absurd (both_ways r.low (not-true r.low t) low)
      | inr t ↦
          let both = and_parts (r.first_index == 0) (r.count == 1) t in
          zero_index r.first_index r.count p.index (eqb-true _ _ both.0) (eqb-true _ _ both.1)
          (and_parts far (nat_lt p.index (r.first_index + r.count)) has).1
    ]

low_index : (rs : List Run) (p : Place) → list_all is_short rs ≡ true → low_among rs p ≡ true → p.index ≡ 0
low_index [] p s e = cc
low_index (r ∷ rs) p s e =
    let both = and_parts (is_short r) (list_all is_short rs) s in
    elim (cases_Bool (has_index r p)) [
      | inl t ↦
          short_index r p (sym (cond-true (has_index r p) r.low (low_among rs p) t) ∙ e) both.0 t
      | inr f ↦ low_index rs p both.1 (sym (cond-false (has_index r p) r.low (low_among rs p) f) ∙ e)
    ]

row_whole : (row : RowId) → low_among runs (record { row = row; index = 0 }) ≡ false
unfolding shows_whole
row_whole row =
    let there : number_of row < length rows = subst (λ n. number_of row < n) (sym rows_length) (number_below row) in
    let pass = AllPass-from_list_all shows_whole rows all_whole in
    let test = All-get_or (λ x. shows_whole x ≡ true) rows (number_of row) row there pass in
    not-true _ (subst (λ x. shows_whole x ≡ true) (row_numbered row row) test)

first_whole : (p : Place) → low_among runs p ≡ false
first_whole p =
    false_from_ne_true (low_among runs p) (λ t.
    let zero = low_index runs p runs_short t in
    let same : p ≡ record { row = p.row; index = 0 } = λ k. record { row = p.row; index = zero k } in
    both_ways _ (row_whole p.row) (subst (λ x. low_among runs x ≡ true) same t))

Some-one : {A : Type 0} {x y : A} → Some x ≡ Some y → x ≡ y
Some-one e = cc

shown : (rs : List Run) (p : Place) (a : ℕ) → all_apart rs ≡ true → address_among rs p ≡ Some a →
    view_among rs a ≡ (if low_among rs p then 0xFFFF else 0xFFFFFFFF)
shown [] p a d e = cc
shown (r ∷ rs) p a d e =
    let both = and_parts (list_all (apart r) rs) (all_apart rs) d in
    elim (cases_Bool (has_index r p)) [
      | inl t ↦
          let here : address_in r p ≡ a =
          Some-one (sym (cond-true (has_index r p) (Some (address_in r p)) (address_among rs p) t) ∙ e) in
          let has : has_address r a ≡ true =
          has_address-true r a p (subst (λ b. HasPlaceAt r b p) here (HasPlaceAt-address_in r p t)) in
          rw (has, t) refl
      | inr f ↦
          let later : address_among rs p ≡ Some a =
          sym (cond-false (has_index r p) (Some (address_in r p)) (address_among rs p) f) ∙ e in
          let no : has_address r a ≡ false =
          false_from_ne_true (has_address r a) (λ h. none_else r rs a p both.0 h (found_has_place rs p a later)) in
          rw (no, f) (shown rs p a both.1 later)
    ]

-- All bits of a place show at its first address.
pub first_view : (p : Place) (a : ℕ) → address_among runs p ≡ Some a → view_among runs a ≡ 0xFFFFFFFF
first_view p a e = shown runs p a table_apart e ∙ cond-false (low_among runs p) 0xFFFF 0xFFFFFFFF (first_whole p)
