-- What accesses to a pool's registers, and the pool's reset, may change and depend on.
use Rattle.std.specs.Prelude.{ℕ, ◌≡◌, ◌≢◌, IsTrue}
use Rattle.register_file.specs.Settings.{is_stopped}
use Rattle.register_file.specs.declared.surroundings.Surroundings.{Surroundings}
use Rattle.register_laws.specs.Prelude.{Mode, Place, Registers, after_read, is_mail_cause, is_of_pool, is_shared}
use Rattle.register_laws.specs.Prelude.{pool_reset, read_word, row_of}
use Rattle.register_laws.specs.Footprint.{Footprint, Part, ChangesWithin, Covers, Misses, AgreeWithin, all_of, pool_agrees, pool_has, pool_changes, of_read, of_write}
use Rattle.register_laws.specs.Laws.{HasShape, after_write}

-- If an access to a pool's register requests no reset, it changes only what belongs to the pool, the bits of the pool's
-- function in PFMBICR, and EICR bit 19.
abbrev pub PoolReadsStayWithin : Type 0
PoolReadsStayWithin =
    (mode : Mode) (v : ℕ) (p : Place) → IsTrue (is_of_pool mode v p) → Covers (pool_changes mode v) (of_read p)

abbrev pub PoolWritesStayWithin : Type 0
PoolWritesStayWithin =
    (mode : Mode) (v : ℕ) (p : Place) → IsTrue (is_of_pool mode v p) → Covers (pool_changes mode v) (of_write p)

-- An access to STATUS or LINKS changes nothing.
abbrev pub SharedReadsChangeNothing : Type 0
SharedReadsChangeNothing =
    (r : Registers) (p : Place) → IsTrue (is_shared p) → after_read (row_of p.row).kind r p ≡ r

abbrev pub SharedWritesChangeNothing : Type 0
SharedWritesChangeNothing =
    (r : Registers) (p : Place) (view word : ℕ) → IsTrue (is_shared p) → after_write r p view word ≡ r

-- The word that a read of a place returns.
abbrev pub answered_at : Registers → Surroundings → Place → ℕ
answered_at r around p = read_word (row_of p.row).kind r around p

-- If two register files agree in a pool, and their link and EEPROM size are the same, reads of the pool's registers
-- return the same words.
abbrev pub PoolReadsTellTheSame : Type 0
PoolReadsTellTheSame =
    (mode : Mode) (v : ℕ) (a b : Registers) → AgreeWithin (pool_agrees mode v) a b →
    (around : Surroundings) (p : Place) → IsTrue (is_of_pool mode v p) → answered_at a around p ≡ answered_at b around p

-- If bus mastering is enabled in both register files or in neither, and their link and EEPROM size are the same, reads
-- of STATUS and LINKS return the same words.
abbrev pub SharedReadsTellTheSame : Type 0
SharedReadsTellTheSame =
    (a b : Registers) → is_stopped a ≡ is_stopped b →
    (around : Surroundings) (p : Place) → IsTrue (is_shared p) → answered_at a around p ≡ answered_at b around p

-- Two register files that agree in a pool still agree in the pool after the same access to one of the pool's registers,
-- and after the pool's reset.
abbrev pub PoolReadsKeepAgreement : Type 0
PoolReadsKeepAgreement =
    (mode : Mode) (v : ℕ) (a b : Registers) → HasShape a → HasShape b → AgreeWithin (pool_agrees mode v) a b →
    (p : Place) → IsTrue (is_of_pool mode v p) →
    AgreeWithin (pool_agrees mode v) (after_read (row_of p.row).kind a p) (after_read (row_of p.row).kind b p)

abbrev pub PoolWritesKeepAgreement : Type 0
PoolWritesKeepAgreement =
    (mode : Mode) (v : ℕ) (a b : Registers) → HasShape a → HasShape b → AgreeWithin (pool_agrees mode v) a b →
    (p : Place) → IsTrue (is_of_pool mode v p) → (view word : ℕ) →
    AgreeWithin (pool_agrees mode v) (after_write a p view word) (after_write b p view word)

abbrev pub PoolResetKeepsAgreement : Type 0
PoolResetKeepsAgreement =
    (mode : Mode) (v : ℕ) (a b : Registers) → HasShape a → HasShape b → AgreeWithin (pool_agrees mode v) a b →
    AgreeWithin (pool_agrees mode v) (pool_reset mode v a) (pool_reset mode v b)

-- The bit that both accesses to one pool and accesses to another pool may change: the physical function's mailbox
-- cause, EICR bit 19.
abbrev pub IsShared : Place → ℕ → Type 0
IsShared p bit = IsTrue (is_mail_cause p bit)

-- The physical function's mailbox cause is the only bit that both accesses to one pool and accesses to the other may
-- change. What accesses to one pool may change has nothing in common with what must agree for the other pool.
pub record ArePoolsApart (mode : Mode) (v w : ℕ) : Type 0 where
  pub bits : (p : Place) (bit : ℕ) → IsTrue ((pool_changes mode v).bits p bit)
      → IsTrue ((pool_changes mode w).bits p bit) → IsShared p bit
  pub seen : Misses (pool_changes mode v) (pool_has mode w)

abbrev pub PoolsHaveNothingInCommon : Type 0
PoolsHaveNothingInCommon = (mode : Mode) (v w : ℕ) → v ≢ w → ArePoolsApart mode v w

-- If register files agree in a part, they still agree in the part after any changes within a footprint that has nothing
-- in common with it.
abbrev pub MissedAgreementStands : Type 0
MissedAgreementStands =
    (f : Footprint) (g : Part) (a b then_a then_b : Registers) → Misses f (all_of g) → ChangesWithin f a then_a →
    ChangesWithin f b then_b → AgreeWithin g a b → AgreeWithin g then_a then_b
