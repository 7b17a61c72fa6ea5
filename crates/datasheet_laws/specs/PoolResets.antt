-- Which registers the reset of a function's pool resets, in terms of register names and queue numbers.
use Rattle.std.specs.Prelude.{ℕ, ◌≡◌, ◌≢◌, ◌<◌, ◌*◌, ◌/◌, ◌==◌, Bool, true, false}
use Rattle.reg_table.specs.declared.rows.RowId.TheVariants as row
use Rattle.vf_map.specs.declared.mode.Mode.TheVariants.{Off, Pools16, Pools32, Pools64}
use Rattle.datasheet_laws.specs.NumberPrelude.{HasShape, Mode, Registers, RowId, has_bit, pool_reset}
use Rattle.datasheet_laws.specs.ByAddress.{holds}
use Rattle.datasheet_laws.specs.ByKind.{at}
use Rattle.datasheet_laws.specs.Table.{line_of}

-- Pool v contains queue q. Its queues are 8v to 8v + 7 with 16 pools, 4v to 4v + 3 with 32, and 2v and 2v + 1 with 64.
abbrev pub pool_has : Mode → (v q : ℕ) → Bool
pool_has Off v q = false
pool_has Pools16 v q = q / 8 == v
pool_has Pools32 v q = q / 4 == v
pool_has Pools64 v q = q / 2 == v

-- Whether the reset affects register j of a row. The reset affects the function's interrupt registers, its packet
-- types, its counters and its mailbox vector. It also affects the rings of the pool's queues, and the words that
-- contain these queues' vectors, with two queues in each word.
abbrev pub takes : Mode → (v : ℕ) → RowId → (j : ℕ) → Bool
takes mode v row.Pvfctrl j = j == v
takes mode v row.Pvteicr j = j == v
takes mode v row.Pvteics j = j == v
takes mode v row.Pvteims j = j == v
takes mode v row.Pvteimc j = j == v
takes mode v row.Pvteiac j = j == v
takes mode v row.Pvteiam j = j == v
takes mode v row.Psrtype j = j == v
takes mode v row.Vfgprc j = j == v
takes mode v row.Vfgptc j = j == v
takes mode v row.PvtivarMisc j = j == v
takes mode v row.Rdbal j = pool_has mode v j
takes mode v row.Rdbah j = pool_has mode v j
takes mode v row.Rdlen j = pool_has mode v j
takes mode v row.Rdh j = pool_has mode v j
takes mode v row.Srrctl j = pool_has mode v j
takes mode v row.Rdt j = pool_has mode v j
takes mode v row.Rxdctl j = pool_has mode v j
takes mode v row.Tdbal j = pool_has mode v j
takes mode v row.Tdbah j = pool_has mode v j
takes mode v row.Tdlen j = pool_has mode v j
takes mode v row.Tdh j = pool_has mode v j
takes mode v row.Tdt j = pool_has mode v j
takes mode v row.Txdctl j = pool_has mode v j
takes mode v row.Tdwbal j = pool_has mode v j
takes mode v row.Tdwbah j = pool_has mode v j
takes mode v row.Pvtivar j = pool_has mode v (2 * j)
takes mode v other j = false

-- A register that the reset affects has its reset value. Everything else is unchanged, for example PFMBICR, PFMBMEM,
-- and, if the device has no such pool, every ring and PVTIVAR.
pub record IsTaken (r : Registers) (mode : Mode) (v : ℕ) (y : RowId) (j bit : ℕ) : Type 0 where
  pub taken : takes mode v y j ≡ true →
      holds (pool_reset mode v r) (at y j) bit ≡ has_bit bit (line_of y).reset
  pub left : takes mode v y j ≡ false → holds (pool_reset mode v r) (at y j) bit ≡ holds r (at y j) bit

abbrev pub PoolResetsTake : Type 0
PoolResetsTake =
    (r : Registers) → HasShape r → (mode : Mode) (v : ℕ) → (y : RowId) (j bit : ℕ) → j < (line_of y).count →
    y ≢ row.Pvfmailbox → IsTaken r mode v y j bit
