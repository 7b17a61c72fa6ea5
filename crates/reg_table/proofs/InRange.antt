-- A place that an address names has an index below its row's count.
use Rattle.std.proofs.Common.{◌≡◌, ℕ, ◌+◌, ◌<◌, ◌≤◌, true, List, [], ◌∷◌, subst, sym, arith, inl, inr}
use Rattle.std.specs.List.{list_all}
use Rattle.std.proofs.lemmas.Bool.{and_parts}
use Rattle.std.proofs.lemmas.Bool.Decides.{nat_tests}
use Rattle.reg_table.specs.declared.place.Place.{Place}
use Rattle.reg_table.specs.Rows.{row_of}
use Rattle.reg_table.specs.Run.{Run, HasPlaceAt}
use Rattle.reg_table.proofs.SoundRuns.{is_sound}
use Rattle.reg_table.specs.Runs.{runs}
use Rattle.reg_table.specs.Place.{SomeRunHas, Names}
use Rattle.reg_table.proofs.Finding.{table_sound}

sound_indices : (r : Run) → is_sound r ≡ true → r.first_index + r.count ≤ (row_of r.row).count
sound_indices r s = grind (arith, nat_tests)

run_in_range : (r : Run) (a : ℕ) (p : Place) → is_sound r ≡ true → HasPlaceAt r a p → p.index < (row_of p.row).count
run_in_range r a p s h =
    let within = sound_indices r s in
    let inside : p.index < (row_of r.row).count = omega arith in
    subst (λ row. p.index < (row_of row).count) (sym h.row) inside

among_in_range : (rs : List Run) (a : ℕ) (p : Place) → list_all is_sound rs ≡ true → SomeRunHas rs a p
    → p.index < (row_of p.row).count
among_in_range [] a p s n = absurd n
among_in_range (r ∷ rs) a p s (inl h) = run_in_range r a p (and_parts (is_sound r) (list_all is_sound rs) s).0 h
among_in_range (r ∷ rs) a p s (inr n) = among_in_range rs a p (and_parts (is_sound r) (list_all is_sound rs) s).1 n

pub named_in_range : (a : ℕ) (p : Place) → Names a p → p.index < (row_of p.row).count
named_in_range a p n = among_in_range runs a p table_sound n
