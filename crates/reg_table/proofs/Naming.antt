-- A name identifies its row.
use Rattle.std.proofs.Common.{◌≡◌, ℕ, List, [], ◌∷◌, Some, ap, sym, ◌∙◌, subst, inl, inr}
use Rattle.std.specs.Prelude.{find}
use Rattle.std.proofs.lemmas.Bool.{cases_Bool, cond-true, cond-false}
use Rattle.std.proofs.lemmas.Slice.Eq.{bytes_eq-Decides}
use Rattle.reg_table.specs.declared.rows.RowId.{RowId}
use Rattle.reg_table.specs.Rows.{row_of, rows}
use Rattle.reg_table.specs.Named.{is_named}
use Rattle.reg_table.proofs.Numbers.{row_found}

Some-one : {A : Type 0} {x y : A} → Some x ≡ Some y → x ≡ y
Some-one e = cc

-- A row found by a name has that name.
pub found_has_name : (name : List ℕ) (rs : List RowId) (r : RowId) → find (is_named name) rs ≡ Some r
    → (row_of r).name ≡ name
found_has_name name [] r e = cc
found_has_name name (q ∷ rs) r e =
    elim (cases_Bool (is_named name q)) [
      | inl t ↦ let same : q ≡ r = Some-one (sym (cond-true (is_named name q) (Some q) (find (is_named name) rs) t) ∙ e)
          in
          subst (λ x. (row_of x).name ≡ name) same ((bytes_eq-Decides (row_of q).name name).0 t)
      | inr f ↦ found_has_name name rs r (sym (cond-false (is_named name q) (Some q) (find (is_named name) rs) f) ∙ e)
    ]

-- A row is found by its name.
pub found_by_name : (r : RowId) (name : List ℕ) → (row_of r).name ≡ name → find (is_named name) rows ≡ Some r
found_by_name r name e = sym (ap (λ n. find (is_named n) rows) e) ∙ row_found r

pub name_has_one_row : (r s : RowId) → (row_of r).name ≡ (row_of s).name → r ≡ s
name_has_one_row r s e = Some-one (sym (found_by_name r (row_of s).name e) ∙ row_found s)
