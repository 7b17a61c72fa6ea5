-- Each place has a first address, and that address names the place.
use Rattle.std.proofs.Common.{◌≡◌, ℕ, ◌+◌, ◌-◌, ◌*◌, ◌<◌, ◌≤◌, Bool, true, ◌&&◌, nat_lt, nat_le, ◌==◌, List, [], ◌∷◌, Some, refl, ap, sym, ◌∙◌, subst, inl, inr, arith, get_or}
use Rattle.std.specs.Prelude.{length}
use Rattle.std.specs.List.{list_all}
use Rattle.std.proofs.lemmas.List.Elements.{All-get_or}
use Rattle.std.proofs.lemmas.List.Sums.{AllPass-from_list_all}
use Rattle.std.proofs.lemmas.Bool.{cases_Bool, cond-true, cond-false, and_parts, ltb-true, leb-true, eqb-true}
use Rattle.std.proofs.lemmas.Bool.Decides.{nat_tests}
use Rattle.reg_table.specs.declared.rows.RowId.{RowId}
use Rattle.reg_table.specs.declared.place.Place.{Place}
use Rattle.reg_table.specs.Rows.{row_of, rows, number_of}
use Rattle.reg_table.specs.FirstAddresses.{first_of}
use Rattle.reg_table.specs.declared.first_addresses.FirstAddresses.{FirstAddresses}
use Rattle.reg_table.specs.Run.{Run, HasPlaceAt, has_index, address_in}
use Rattle.reg_table.specs.Runs.{runs}
use Rattle.reg_table.specs.Place.{SomeRunHas, Names, place_among, address_among}
use Rattle.reg_table.proofs.Finding.{found-named}
use Rattle.reg_table.proofs.FirstRuns.{has_all, first_found}
use Rattle.reg_table.proofs.Numbers.{row_numbered, number_below, rows_length}

-- Whether `first_of` agrees with the row's first runs in the table.
tells : RowId → Bool
tells row =
    has_all (number_of row) 0 (first_of row).count (first_of row).first (first_of row).stride runs
    && has_all (number_of row) (first_of row).count (row_of row).count (first_of row).further (first_of row).stride runs

all_reported : list_all tells rows ≡ true
unfolding rows runs tells
all_reported = refl

reported : (row : RowId)
    → (has_all (number_of row) 0 (first_of row).count (first_of row).first (first_of row).stride runs ≡ true)
    × (has_all (number_of row) (first_of row).count (row_of row).count (first_of row).further (first_of row).stride runs
    ≡ true)
unfolding tells
reported row =
    let there : number_of row < length rows = subst (λ n. number_of row < n) (sym rows_length) (number_below row) in
    let pass = AllPass-from_list_all tells rows all_reported in
    let test = All-get_or (λ x. tells x ≡ true) rows (number_of row) row there pass in
    and_parts _ _ (subst (λ x. tells x ≡ true) (row_numbered row row) test)

-- The addresses of the indices below the first run's count start at the row's first address.
pub first_address : (p : Place) → p.index < (first_of p.row).count
    → address_among runs p ≡ Some ((first_of p.row).first + (first_of p.row).stride * p.index)
first_address p h =
    let f = first_of p.row in
    first_found runs p (number_of p.row) 0 f.count f.first f.stride refl (reported p.row).0 (omega arith) h
    ∙ ap (λ k. Some (f.first + f.stride * k)) (omega arith)

-- The addresses of the remaining indices start at the row's further address.
pub further_address : (p : Place) → p.index < (row_of p.row).count → (first_of p.row).count ≤ p.index
    → address_among runs p
    ≡ Some ((first_of p.row).further + (first_of p.row).stride * (p.index - (first_of p.row).count))
further_address p h l =
    let f = first_of p.row in
    first_found runs p (number_of p.row) f.count (row_of p.row).count f.further f.stride refl (reported p.row).1 l h

pub same_number : (r s : RowId) → number_of r ≡ number_of s → r ≡ s
same_number r s e = sym (row_numbered r r) ∙ ap (λ n. get_or rows n r) e ∙ row_numbered s r

pub HasPlaceAt-address_in : (r : Run) (p : Place) → has_index r p ≡ true → HasPlaceAt r (address_in r p) p
HasPlaceAt-address_in r p h =
    let same = number_of r.row == number_of p.row in
    let parts = and_parts (same && nat_le r.first_index p.index) (nat_lt p.index (r.first_index + r.count)) h in
    let more = and_parts same (nat_le r.first_index p.index) parts.0 in
    let low = leb-true r.first_index p.index more.1 in
    let high = ltb-true p.index (r.first_index + r.count) parts.1 in
    record {
      step = p.index - r.first_index;
      below = omega arith;
      at = refl;
      row = sym (same_number r.row p.row (eqb-true _ _ more.0));
      index = omega arith;
    }

Some-one : {A : Type 0} {x y : A} → Some x ≡ Some y → x ≡ y
Some-one e = cc

pub found_has_place : (rs : List Run) (p : Place) (a : ℕ) → address_among rs p ≡ Some a → SomeRunHas rs a p
found_has_place [] p a e = cc
found_has_place (r ∷ rs) p a e =
    elim (cases_Bool (has_index r p)) [
      | inl t ↦ let here = cond-true (has_index r p) (Some (address_in r p)) (address_among rs p) t in
          let same : address_in r p ≡ a = Some-one (sym here ∙ e) in
          inl (subst (λ b. HasPlaceAt r b p) same (HasPlaceAt-address_in r p t))
      | inr f ↦ let later = cond-false (has_index r p) (Some (address_in r p)) (address_among rs p) f in
          inr (found_has_place rs p a (sym later ∙ e))
    ]

-- The first address of a place names that place.
pub first_address_names : (p : Place) (a : ℕ) → address_among runs p ≡ Some a → Names a p
first_address_names p a e = found_has_place runs p a e

pub first_addresses_read_back : (p : Place) → p.index < (row_of p.row).count
    → (a : ℕ) × ((address_among runs p ≡ Some a) × Names a p)
first_addresses_read_back p h =
    elim (cases_Bool (nat_lt p.index (first_of p.row).count)) [
      | inl t ↦ let at = first_address p (ltb-true _ _ t) in (_, (at, first_address_names p _ at))
      | inr f ↦ let l : (first_of p.row).count ≤ p.index = grind (arith, nat_tests) in
          let at = further_address p h l in (_, (at, first_address_names p _ at))
    ]

-- The same lemma for the values that the code's table holds for the row.
pub by_first : (p : Place) (f : FirstAddresses) (k : ℕ) → f ≡ first_of p.row → k ≡ p.index → k < f.count
    → address_among runs p ≡ Some (f.first + f.stride * k)
by_first p f k e i h =
    subst (λ n. address_among runs p ≡ Some (f.first + f.stride * n)) (sym i)
    (subst (λ x. address_among runs p ≡ Some (x.first + x.stride * p.index)) (sym e)
    (first_address p (subst (λ x. p.index < x.count) e (omega arith))))

pub by_further : (p : Place) (f : FirstAddresses) (k : ℕ) → f ≡ first_of p.row → k ≡ p.index
    → p.index < (row_of p.row).count → f.count ≤ k
    → address_among runs p ≡ Some (f.further + f.stride * (k - f.count))
by_further p f k e i h l =
    subst (λ n. address_among runs p ≡ Some (f.further + f.stride * (n - f.count))) (sym i)
    (subst (λ x. address_among runs p ≡ Some (x.further + x.stride * (p.index - x.count))) (sym e)
    (further_address p h (subst (λ x. x.count ≤ p.index) e (omega arith))))

-- Looking up a place's first address finds that place.
pub found_back : (p : Place) (a : ℕ) → address_among runs p ≡ Some a → place_among runs a ≡ Some p
found_back p a e = (found-named a p).1 (first_address_names p a e)
