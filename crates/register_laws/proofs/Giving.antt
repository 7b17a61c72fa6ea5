-- Registers that agree in a pool return the same words at the pool's places.
use Rattle.std.proofs.Common.{◌≡◌, ℕ, true, false, refl}
use Rattle.register_file.specs.RegTable.declared.kind.Kind.TheVariants as kind
use Rattle.register_file.specs.RegTable.declared.rows.RowId.TheVariants as row
use Rattle.register_file.specs.Access.{calculated}
use Rattle.register_file.specs.declared.surroundings.Surroundings.{Surroundings}
use Rattle.register_laws.specs.Prelude.{Kind, Mode, Place, Registers, RowId, is_of_pool, is_of_pool_by, row_of, word_at}
use Rattle.register_laws.specs.Footprint.{AgreeWithin, pool_agrees}

-- Reads of this kind return the same word from registers that agree in the pool.
abbrev pub GivesTheSame : Kind → (Registers → Surroundings → Place → ℕ) → Type 0
GivesTheSame k gives =
    (mode : Mode) (v : ℕ) (a b : Registers) → AgreeWithin (pool_agrees mode v) a b →
    (around : Surroundings) (p : Place) → (row_of p.row).kind ≡ k → is_of_pool mode v p ≡ true →
    gives a around p ≡ gives b around p

-- The word at the place, and 0.
pub same_word : (k : Kind) → GivesTheSame k (λ r around p. word_at r.words p)
same_word k mode v a b same around p e is = same.words p is

pub same_none : (k : Kind) → GivesTheSame k (λ r around p. 0)
same_none k mode v a b same around p e is = refl

-- The calculated rows belong to the device.
calculated_is_the_devices : (x : RowId) (mode : Mode) (v i : ℕ) → (row_of x).kind ≡ kind.Calc
    → is_of_pool_by (row_of x).bank mode v i ≡ false
calculated_is_the_devices row.Ctrl mode v i e = cc
calculated_is_the_devices row.Status mode v i e = refl
calculated_is_the_devices row.Links mode v i e = refl
calculated_is_the_devices row.Eec mode v i e = refl
calculated_is_the_devices other mode v i e = cc

pub same_calculated : GivesTheSame kind.Calc (λ r around p. calculated p.row r around)
same_calculated mode v a b same around p e is =
    let none = calculated_is_the_devices p.row mode v p.index e in
    cc
