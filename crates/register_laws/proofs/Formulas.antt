-- Only STATUS, LINKS and EEC are calculated.
use Rattle.std.proofs.Common.{refl, inl, inr}
use Rattle.register_file.specs.RegTable.declared.rows.RowId.TheVariants as row
use Rattle.register_laws.specs.Laws.{CalculatedRowsHaveFormulas}

pub calculated_rows : CalculatedRowsHaveFormulas
calculated_rows row.Status e = inl refl
calculated_rows row.Links e = inr (inl refl)
calculated_rows row.Eec e = inr (inr refl)
calculated_rows other e = cc
