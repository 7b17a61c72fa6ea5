-- A virtual function's access that doesn't request a pool reset keeps all frames.
use Rattle.std.proofs.Common.{◌≡◌, ◌≢◌, ◌⊎◌, ◌/◌, ◌%◌, ◌^◌, ℕ, true, false, refl, sym, subst, inl, inr, arith}
use Rattle.std.proofs.lemmas.Bool.{cond_both, both_ways, eqb-true, false_from_ne_true}
use Rattle.nic_device.specs.RegTable.declared.rows.RowId.TheVariants as row
use Rattle.nic_device.specs.VfMap.declared.located.Located.TheVariants as located_as
use Rattle.device_laws.specs.Prelude.{Located, Place, Register, State, asks_pool_reset, at_location, located}
use Rattle.device_laws.specs.Prelude.{mode_in, named_read, named_written, row_of, state_written, step_of}
use Rattle.device_laws.specs.Prelude.{with_pool_reset}
use Rattle.device_laws.specs.Pool.{KeepsFrames, VfKeepsFramesButByReset}
use Rattle.device_laws.proofs.PoolAlone.{IsReached, reached, below_reset, only_control}

-- A write to another register, or with bit 26 clear, requests no reset.
asks-none : (p : Place) (word : ℕ) → (p.row ≢ row.Pvfctrl) ⊎ (word / 2 ^ 26 % 2 ≡ 0)
    → asks_pool_reset (row_of p.row).kind word ≡ false
asks-none p word (inl other) =
    false_from_ne_true (asks_pool_reset (row_of p.row).kind word) (λ asks. other (only_control p.row word asks))
asks-none p word (inr zero) =
    false_from_ne_true (asks_pool_reset (row_of p.row).kind word) (λ asks.
    let here = subst (λ r. asks_pool_reset (row_of r).kind word ≡ true) (only_control p.row word asks) asks in
    let one : word / 2 ^ 26 % 2 ≡ 1 = eqb-true (word / 2 ^ 26 % 2) 1 here in
    omega arith)

place_keeps : (s : State) (v : ℕ) (p : Place) (word : ℕ) → IsReached (mode_in s.registers) v p
    → (p.row ≢ row.Pvfctrl) ⊎ (word / 2 ^ 26 % 2 ≡ 0) → KeepsFrames s (state_written s p 0xFFFFFFFF word)
place_keeps s v p word is none =
    subst (KeepsFrames s) (sym (below_reset s (mode_in s.registers) v p 0xFFFFFFFF word is))
    (cond_both (asks_pool_reset (row_of p.row).kind word) (with_pool_reset s p.index) _ (KeepsFrames s)
    (λ asks. absurd (both_ways (asks_pool_reset (row_of p.row).kind word) (asks-none p word none) asks))
    (λ plain. record { staged = refl; waiting = refl }))

-- A write to the register at an offset requests no reset.
abbrev AsksNone : Located → ℕ → Type 0
AsksNone m word =
    (p : Place) (view : ℕ) → at_location m ≡ Register p view → (p.row ≢ row.Pvfctrl) ⊎ (word / 2 ^ 26 % 2 ≡ 0)

read_keeps : (s : State) (m : Located) → KeepsFrames s (named_read s (at_location m)).state
read_keeps s located_as.Absent = record { staged = refl; waiting = refl }
read_keeps s located_as.Hole = record { staged = refl; waiting = refl }
read_keeps s (located_as.Register p) = record { staged = refl; waiting = refl }

write_keeps : (s : State) (v o word : ℕ) (m : Located) → located (mode_in s.registers) s.vfs v o ≡ m → AsksNone m word
    → KeepsFrames s (named_written s (at_location m) word).state
write_keeps s v o word located_as.Absent e none = record { staged = refl; waiting = refl }
write_keeps s v o word located_as.Hole e none = record { staged = refl; waiting = refl }
write_keeps s v o word (located_as.Register p) e none =
    place_keeps s v p word (reached (mode_in s.registers) s.vfs v o p e) (none p 0xFFFFFFFF refl)

pub keeps_frames : VfKeepsFramesButByReset
unfolding step_of
keeps_frames s v o = record {
  read = read_keeps s (located (mode_in s.registers) s.vfs v o);
  write = λ word none. write_keeps s v o word (located (mode_in s.registers) s.vfs v o) refl none;
}
