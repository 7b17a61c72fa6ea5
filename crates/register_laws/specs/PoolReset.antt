-- What the laws promise about the reset of a pool.
use Rattle.std.specs.Prelude.{ℕ, ◌≡◌, ◌<◌, ◌==◌, Bool, not, ◌&&◌, ◌||◌, IsTrue, IsFalse}
use Rattle.register_file.specs.RegTable.declared.rows.RowId.TheVariants.{Pfmbmem, Pvfmailbox}
use Rattle.register_laws.specs.Prelude.{Dir, Group, Mode, Place, Registers, RowId, has_bit, index_of, is_wanted}
use Rattle.register_laws.specs.Prelude.{number_of, pool_reset, reported_by, row_of, word_at}
use Rattle.register_laws.specs.Footprint.{Footprint, ChangesWithin, Covers, nothing, either, pool_has, pool_renews}
use Rattle.register_laws.specs.Sound.{HasShape, AreSound}

-- Everything in the footprint is as after a reset of the device: bits of the words at the table's places, enable
-- requests of the 128 queues' sides, and reported bits of the groups below 64.
pub record IsResetAt (f : Footprint) (r : Registers) : Type 0 where
  pub bits : (p : Place) (bit : ℕ) → IsTrue (f.bits p bit) → p.index < (row_of p.row).count
      → has_bit bit (word_at r.words p) ≡ has_bit bit (row_of p.row).reset
  pub wanted : (dir : Dir) (queue : ℕ) → IsTrue (f.wanted dir queue) → queue < 128 → IsFalse (is_wanted r dir queue)
  pub reported : (g : Group) → IsTrue (f.reported g) → index_of g < 64 → reported_by r g ≡ 0

-- After a pool reset, everything that the pool reset covers is as after a reset of the device, and everything else is
-- unchanged.
abbrev pub PoolIsReset : Type 0
PoolIsReset =
    (r : Registers) → HasShape r → (mode : Mode) (v : ℕ) → IsResetAt (pool_renews mode v) (pool_reset mode v r)

abbrev pub PoolResetStaysWithin : Type 0
PoolResetStaysWithin =
    (r : Registers) (mode : Mode) (v : ℕ) → ChangesWithin (pool_renews mode v) r (pool_reset mode v r)

-- The part of a mailbox that a pool reset leaves unchanged: PFMBMEM, and all bits of PVFMAILBOX except 2, 4 and 5.
abbrev pub is_left : RowId → (bit : ℕ) → Bool
is_left row bit =
    (number_of row == number_of Pfmbmem)
    || (number_of row == number_of Pvfmailbox && not (bit == 2 || bit == 4 || bit == 5))

abbrev pub mail_left : Footprint
mail_left = record nothing { bits = λ p bit. is_left p.row bit }

-- The pool reset covers everything that belongs to the pool, except PFMBMEM and all bits of PVFMAILBOX other than 2, 4
-- and 5.
abbrev pub PoolResetTakesTheRest : Type 0
PoolResetTakesTheRest = (mode : Mode) (v : ℕ) → Covers (either (pool_renews mode v) mail_left) (pool_has mode v)

-- Sound registers stay sound in a pool reset.
abbrev pub PoolResetKeepsSound : Type 0
PoolResetKeepsSound = (r : Registers) → AreSound r → (mode : Mode) (v : ℕ) → AreSound (pool_reset mode v r)
