-- Lemmas about the first run of a row that contains an index.
use Rattle.std.proofs.Common.{◌≡◌, ℕ, ◌+◌, ◌-◌, ◌*◌, ◌<◌, ◌≤◌, Bool, true, false, ◌&&◌, nat_lt, nat_le, ◌==◌, List, [], ◌∷◌, Some, if◌then◌else◌, refl, sym, ◌∙◌, inl, inr, arith}
use Rattle.std.proofs.lemmas.Bool.{cases_Bool, cond-true, cond-false, and_from, le-leb, lt-ltb, eq-eqb, and_parts, leb-true, eqb-true}
use Rattle.std.proofs.lemmas.Bool.Decides.{nat_tests}
use Rattle.reg_table.specs.declared.place.Place.{Place}
use Rattle.reg_table.specs.Rows.{number_of}
use Rattle.reg_table.specs.Run.{Run, has_index, address_in}
use Rattle.reg_table.specs.Place.{address_among}

-- Whether the first run that has any of a row's indices in a range has all of these indices, with this stride.
abbrev pub has_all : ℕ → ℕ → ℕ → ℕ → ℕ → List Run → Bool
has_all n from to first stride [] = nat_le to from
has_all n from to first stride (r ∷ rs) =
    if (number_of r.row == n) && nat_lt r.first_index to && nat_lt from (r.first_index + r.count)
    then (r.first_index == from) && nat_le to (r.first_index + r.count) && (r.stride == stride) && (r.first == first)
    else has_all n from to first stride rs

skipped : (r : Run) (p : Place) (n from to : ℕ) → n ≡ number_of p.row → from ≤ p.index → p.index < to
    → (number_of r.row == n) && nat_lt r.first_index to && nat_lt from (r.first_index + r.count) ≡ false
    → has_index r p ≡ false
skipped r p n from to e l h f = grind (arith, nat_tests)

-- A run has the indices in a range, and the first of them is at the given address.
record HasIndices (r : Run) (from to first stride : ℕ) : Type 0 where
  starts : r.first_index ≡ from
  reaches : to ≤ r.first_index + r.count
  steps : r.stride ≡ stride
  at : r.first ≡ first

has_whole : (r : Run) (from to first stride : ℕ)
    → ((r.first_index == from) && nat_le to (r.first_index + r.count) && (r.stride == stride) && (r.first == first))
    ≡ true
    → HasIndices r from to first stride
has_whole r from to first stride t =
    let reach = nat_le to (r.first_index + r.count) in
    let a = and_parts ((r.first_index == from) && reach && (r.stride == stride)) (r.first == first) t in
    let b = and_parts ((r.first_index == from) && reach) (r.stride == stride) a.0 in
    let c = and_parts (r.first_index == from) reach b.0 in
    record {
      starts = eqb-true r.first_index from c.0;
      reaches = leb-true to (r.first_index + r.count) c.1;
      steps = eqb-true r.stride stride b.1;
      at = eqb-true r.first first a.1;
    }

of_row : (r : Run) (n from to : ℕ)
    → (number_of r.row == n) && nat_lt r.first_index to && nat_lt from (r.first_index + r.count) ≡ true
    → number_of r.row ≡ n
of_row r n from to t =
    let a = and_parts ((number_of r.row == n) && nat_lt r.first_index to) (nat_lt from (r.first_index + r.count)) t in
    eqb-true (number_of r.row) n (and_parts (number_of r.row == n) (nat_lt r.first_index to) a.0).0

has_index-true : (r : Run) (p : Place) → number_of r.row ≡ number_of p.row → r.first_index ≤ p.index
    → p.index < r.first_index + r.count → has_index r p ≡ true
has_index-true r p e l h = and_from _ _ (and_from _ _ (eq-eqb _ _ e) (le-leb _ _ l)) (lt-ltb _ _ h)

pub first_found : (rs : List Run) (p : Place) (n from to first stride : ℕ) → n ≡ number_of p.row
    → has_all n from to first stride rs ≡ true
    → from ≤ p.index → p.index < to → address_among rs p ≡ Some (first + stride * (p.index - from))
first_found [] p n from to first stride e t l h = let none = leb-true to from t in absurd (omega arith)
first_found (r ∷ rs) p n from to first stride e t l h =
    let here = (number_of r.row == n) && nat_lt r.first_index to && nat_lt from (r.first_index + r.count) in
    let reach = nat_le to (r.first_index + r.count) in
    let whole = (r.first_index == from) && reach && (r.stride == stride) && (r.first == first) in
    elim (cases_Bool here) [
      | inl here_is ↦
          let all : whole ≡ true = sym (cond-true here whole (has_all n from to first stride rs) here_is) ∙ t in
          let parts = has_whole r from to first stride all in
          let has : has_index r p ≡ true =
          has_index-true r p (of_row r n from to here_is ∙ e) (omega arith) (omega arith) in
          let at : address_in r p ≡ first + stride * (p.index - from) = cc (parts.starts, parts.steps, parts.at) in
          rw (has, at) refl
      | inr not_here ↦
          let none : has_index r p ≡ false = skipped r p n from to e l h not_here in
          let rest = sym (cond-false here whole (has_all n from to first stride rs) not_here) ∙ t in
          rw none (first_found rs p n from to first stride e rest l h)
    ]
