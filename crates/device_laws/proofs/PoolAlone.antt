-- A virtual function's access changes only its pool.
use Rattle.std.proofs.Common.{◌≡◌, ◌≢◌, ℕ, true, false, refl, ap, sym, ◌∙◌, subst, inl, inr}
use Rattle.nic_device.specs.RegTable.declared.rows.RowId.TheVariants as row
use Rattle.nic_device.specs.VfMap.Owner.{is_of_pool, is_of_pool_by, is_shared}
use Rattle.nic_device.specs.VfMap.declared.located.Located.TheVariants as located_as
use Rattle.nic_device.proofs.VfMap.Owners.{located_owner}
use Rattle.nic_device.specs.RegisterLaws.Laws.{after_write as word_written}
use Rattle.nic_device.specs.RegisterLaws.Footprint.{ChangesWithin, pool_has, pool_changes, pool_renews, of_read, of_write}
use Rattle.nic_device.proofs.RegisterLaws.Footprints.{within-refl, within-wider}
use Rattle.nic_device.proofs.RegisterLaws.PoolReset.{renewed-pool, within-pool_reset}
use Rattle.nic_device.proofs.RegisterLaws.PoolPlaces.{covers-has, covers-read, covers-write, shared_rows, shared-read, shared-written}
use Rattle.nic_device.proofs.RegisterLaws.Within.{within-after_read, within-written}
use Rattle.nic_device.proofs.PoolReset.{pool_reset_stays}
use Rattle.device_laws.specs.Prelude.{Located, Mode, Place, Registers, RowId, State, after_read, asks_pool_reset}
use Rattle.device_laws.specs.Prelude.{asks_reset, at_location, located, mode_in, named_read, named_written, reset}
use Rattle.device_laws.specs.Prelude.{row_of, state_written, step_of, with_pool_reset, written_below_reset}
use Rattle.device_laws.proofs.Prelude.{cond-false, cond_both, eqb-true}
use Rattle.device_laws.specs.Pool.{ChangesAlone, ChangesPoolAlone, VfChangesItsPoolAlone}
use Rattle.device_laws.proofs.PoolParts.{others_again}
use Rattle.device_laws.proofs.Settings.{no_reset}

-- Each register that a virtual function reaches belongs to its pool or is shared.
pub data IsReached (mode : Mode) (v : ℕ) (p : Place) : Type 0 where
  own : is_of_pool mode v p ≡ true → IsReached mode v p
  shared : is_shared p ≡ true → IsReached mode v p

pub reached : (mode : Mode) (vfs v o : ℕ) (p : Place) → located mode vfs v o ≡ located_as.Register p
    → IsReached mode v p
reached mode vfs v o p e =
    elim (located_owner mode vfs v o p e) [
      | inl is ↦ own is
      | inr is ↦ shared is
    ]

-- A virtual function can't reach CTRL.
pub no_control : (mode : Mode) (v : ℕ) (p : Place) → IsReached mode v p → p.row ≢ row.Ctrl
no_control mode v p (own is) e =
    let none : is_of_pool mode v p ≡ false = ap (λ r. is_of_pool_by (row_of r).bank mode v p.index) e in cc
no_control mode v p (shared is) e = shared_rows (λ r. r ≢ row.Ctrl) (λ e. cc) (λ e. cc) p is e

pub below_reset : (s : State) (mode : Mode) (v : ℕ) (p : Place) (view word : ℕ) → IsReached mode v p
    → state_written s p view word ≡ written_below_reset s p view word
below_reset s mode v p view word is =
    cond-false (asks_reset (row_of p.row).kind word) (reset s) (written_below_reset s p view word)
    (no_reset p.row word (no_control mode v p is))

-- A pool reset that a virtual function requests resets only its own pool.

pub only_control : (r : RowId) (word : ℕ) → asks_pool_reset (row_of r).kind word ≡ true → r ≡ row.Pvfctrl
only_control row.Pvfctrl word e = refl
only_control other word e = cc

pub own_reset : (mode : Mode) (v : ℕ) (p : Place) (word : ℕ) → IsReached mode v p
    → asks_pool_reset (row_of p.row).kind word ≡ true → p.index ≡ v
own_reset mode v p word (own is) asks =
    let here = ap (λ r. is_of_pool_by (row_of r).bank mode v p.index) (only_control p.row word asks) in
    eqb-true p.index v (sym here ∙ is)
own_reset mode v p word (shared is) asks =
    absurd (shared_rows (λ r. r ≢ row.Pvfctrl) (λ e. cc) (λ e. cc) p is (only_control p.row word asks))

-- What changes.

alone_registers : (s : State) (v : ℕ) (r : Registers)
    → ChangesWithin (pool_changes (mode_in s.registers) v) s.registers r
    → ChangesPoolAlone v s (record s { registers = r })
alone_registers s v r within = assumption

alone_still : (s : State) (v : ℕ) → ChangesPoolAlone v s s
alone_still s v = alone_registers s v s.registers (within-refl (pool_changes (mode_in s.registers) v) s.registers)

pub reset_alone : (s : State) (v : ℕ) → ChangesAlone pool_renews v s (with_pool_reset s v)
reset_alone s v =
    let within = (renewed-pool s.registers (mode_in s.registers) v).alone in
    let stays = pool_reset_stays s v in
    assumption (within, stays, others_again (mode_in s.registers) v s.waiting)

alone_reset : (s : State) (v : ℕ) → ChangesPoolAlone v s (with_pool_reset s v)
alone_reset s v =
    let mode = mode_in s.registers in
    let within = within-wider (pool_changes mode v) (pool_has mode v) s.registers (with_pool_reset s v).registers
    (covers-has mode v) (within-pool_reset s.registers mode v) in
    let stays = pool_reset_stays s v in
    assumption (within, stays, others_again mode v s.waiting)

within_read : (s : State) (v : ℕ) (p : Place) → IsReached (mode_in s.registers) v p
    → ChangesWithin (pool_changes (mode_in s.registers) v) s.registers (after_read (row_of p.row).kind s.registers p)
within_read s v p (own is) =
    let mode = mode_in s.registers in
    within-wider (pool_changes mode v) (of_read p) s.registers _ (covers-read mode v p is)
    (within-after_read s.registers p)
within_read s v p (shared is) =
    let pool = pool_changes (mode_in s.registers) v in
    subst (ChangesWithin pool s.registers) (sym (shared-read s.registers p is)) (within-refl pool s.registers)

within_write : (s : State) (v : ℕ) (p : Place) (view word : ℕ) → IsReached (mode_in s.registers) v p
    → ChangesWithin (pool_changes (mode_in s.registers) v) s.registers (word_written s.registers p view word)
within_write s v p view word (own is) =
    let mode = mode_in s.registers in
    within-wider (pool_changes mode v) (of_write p) s.registers _ (covers-write mode v p is)
    (within-written s.registers p view word)
within_write s v p view word (shared is) =
    let pool = pool_changes (mode_in s.registers) v in
    subst (ChangesWithin pool s.registers) (sym (shared-written s.registers p view word is))
    (within-refl pool s.registers)

read_alone : (s : State) (v o : ℕ) (m : Located) → located (mode_in s.registers) s.vfs v o ≡ m
    → ChangesPoolAlone v s (named_read s (at_location m)).state
read_alone s v o located_as.Absent e = alone_still s v
read_alone s v o located_as.Hole e = alone_still s v
read_alone s v o (located_as.Register p) e =
    alone_registers s v _ (within_read s v p (reached (mode_in s.registers) s.vfs v o p e))

place_alone : (s : State) (v : ℕ) (p : Place) (view word : ℕ) → IsReached (mode_in s.registers) v p
    → ChangesPoolAlone v s (state_written s p view word)
place_alone s v p view word is =
    subst (ChangesPoolAlone v s) (sym (below_reset s (mode_in s.registers) v p view word is))
    (cond_both (asks_pool_reset (row_of p.row).kind word) (with_pool_reset s p.index) _ (ChangesPoolAlone v s)
    (λ asks. subst (λ i. ChangesPoolAlone v s (with_pool_reset s i))
    (sym (own_reset (mode_in s.registers) v p word is asks)) (alone_reset s v))
    (λ plain. alone_registers s v _ (within_write s v p view word is)))

write_alone : (s : State) (v o word : ℕ) (m : Located) → located (mode_in s.registers) s.vfs v o ≡ m
    → ChangesPoolAlone v s (named_written s (at_location m) word).state
write_alone s v o word located_as.Absent e = alone_still s v
write_alone s v o word located_as.Hole e = alone_still s v
write_alone s v o word (located_as.Register p) e =
    place_alone s v p 0xFFFFFFFF word (reached (mode_in s.registers) s.vfs v o p e)

pub changes_alone : VfChangesItsPoolAlone
unfolding step_of
changes_alone s v o = record {
  read = read_alone s v o (located (mode_in s.registers) s.vfs v o) refl;
  write = λ word. write_alone s v o word (located (mode_in s.registers) s.vfs v o) refl;
}
