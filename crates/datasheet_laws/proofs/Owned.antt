-- A group has six registers.
use Rattle.std.proofs.Common.{◌≡◌, ℕ, ◌<◌, ap, arith}
use Rattle.nic_device.specs.RegTable.declared.rows.RowId.TheVariants as row
use Rattle.nic_device.specs.RegisterFile.declared.owner.Owner.TheVariants as owner
use Rattle.datasheet_laws.specs.Prelude.{Group, Pf, Place, RowId, Vf, owner_in, owner_of, place, row_of}
use Rattle.datasheet_laws.specs.Names.{cause_register, cause_set_register, mask_register, mask_clear_register}
use Rattle.datasheet_laws.specs.Names.{auto_clear_register, auto_mask_register}

pub data IsOne (g : Group) (p : Place) : Type 0 where
  causes : p ≡ cause_register g → IsOne g p
  cause_set : p ≡ cause_set_register g → IsOne g p
  masks : p ≡ mask_register g → IsOne g p
  mask_clear : p ≡ mask_clear_register g → IsOne g p
  auto_clear : p ≡ auto_clear_register g → IsOne g p
  auto_mask : p ≡ auto_mask_register g → IsOne g p

first : (r : RowId) (index : ℕ) → index < 1 → place r index ≡ place r 0
first r index b = let none : index ≡ 0 = omega arith in ap (place r) none

own : (r : RowId) (index v : ℕ) → owner.Group (Vf index) ≡ owner.Group (Vf v) → place r index ≡ place r v
own r index v e = let same : index ≡ v = cc in ap (place r) same

one_of : (r : RowId) (index : ℕ) (g : Group) → index < (row_of r).count
    → owner_in (row_of r).bank index ≡ owner.Group g → IsOne g (place r index)
one_of row.Eicr index Pf b e = causes (first row.Eicr index b)
one_of row.Eics index Pf b e = cause_set (first row.Eics index b)
one_of row.Eims index Pf b e = masks (first row.Eims index b)
one_of row.Eimc index Pf b e = mask_clear (first row.Eimc index b)
one_of row.Eiac index Pf b e = auto_clear (first row.Eiac index b)
one_of row.Eiam index Pf b e = auto_mask (first row.Eiam index b)
one_of row.Pvteicr index (Vf v) b e = causes (own row.Pvteicr index v e)
one_of row.Pvteics index (Vf v) b e = cause_set (own row.Pvteics index v e)
one_of row.Pvteims index (Vf v) b e = masks (own row.Pvteims index v e)
one_of row.Pvteimc index (Vf v) b e = mask_clear (own row.Pvteimc index v e)
one_of row.Pvteiac index (Vf v) b e = auto_clear (own row.Pvteiac index v e)
one_of row.Pvteiam index (Vf v) b e = auto_mask (own row.Pvteiam index v e)
one_of other index g b e = absurd (cc)

pub one_of_group : (p : Place) (g : Group) → p.index < (row_of p.row).count → owner_of p ≡ owner.Group g → IsOne g p
one_of_group p g b e = one_of p.row p.index g b e
