-- Every event except a message of the group and a reset leaves the marks of pending bits.
use Rattle.std.proofs.Common.{◌≡◌, ◌≢◌, ℕ, ◌<◌, true, false, ◌||◌, refl, ap, sym, ◌∙◌, subst, inl, inr}
use Rattle.std.specs.Prelude.{bit_and}
use Rattle.nic_device.specs.RegTable.declared.kind.Kind.TheVariants as kind
use Rattle.nic_device.specs.RegTable.declared.rows.RowId.TheVariants as row
use Rattle.nic_device.specs.IntrUnit.Interrupts.{raised, after_read, after_write_one, after_mask_set, after_mask_clear}
use Rattle.nic_device.specs.RegisterFile.Access.{after_read as word_left, asks_reset, asks_pool_reset}
use Rattle.nic_device.specs.RegisterFile.Groups.{interrupts_of, reported_by, clears_others, auto_masks}
use Rattle.nic_device.specs.RegisterFile.declared.owner.Owner.TheVariants as owner
use Rattle.nic_device.specs.RegisterLaws.Footprint.{is_own, written_by, of_owner, of_group, of_read, of_write}
use Rattle.nic_device.specs.RegisterLaws.Laws.{after_write as word_written}
use Rattle.nic_device.proofs.RegisterLaws.Settled.{settled-raised, settled-after_read, settled-after_write_one, settled-after_mask_set, settled-after_mask_clear}
use Rattle.nic_device.specs.declared.event.Event.TheVariants as event
use Rattle.device_laws.proofs.StandingRest.{message_rest}
use Rattle.datasheet_laws.specs.Prelude.{Block, Event, Group, IsOfTheDevice, IsSound, Kind, Named, Nothing, Pf, Place}
use Rattle.datasheet_laws.specs.Prelude.{Port, Register, State, Vf, after, has_bit, is_group, is_owner, mode_in, named}
use Rattle.datasheet_laws.specs.Prelude.{named_read, named_written, owner_of, place, reset, row_of, state_read}
use Rattle.datasheet_laws.specs.Prelude.{state_written, step_of, with_pool_reset, written_below_reset}
use Rattle.datasheet_laws.proofs.Prelude.{both_ways, cases_Bool, cond_both, covers-of_read, covers-of_write}
use Rattle.datasheet_laws.proofs.Prelude.{events_raise, group_stands, intersection-lt, is_owner-same, keeps_sound}
use Rattle.datasheet_laws.proofs.Prelude.{misses-narrower, misses-owner, ne_eqb, settled, within-after_read}
use Rattle.datasheet_laws.proofs.Prelude.{within-pool_reset, within-written}
use Rattle.datasheet_laws.specs.Marks.{SparesMarks, MarksLast}
use Rattle.datasheet_laws.specs.Names.{IsGroup, bits_in, cause_register, cause_set_register, mask_register}
use Rattle.datasheet_laws.specs.Names.{mask_clear_register, auto_clear_register, auto_mask_register}
use Rattle.datasheet_laws.proofs.Causes.{registers_set, registers_cleared, registers_read}
use Rattle.datasheet_laws.proofs.Lasting.{in_range}
use Rattle.datasheet_laws.proofs.LastingAccesses.{asks_device, asks_pool}
use Rattle.datasheet_laws.proofs.Marks.{Keeps, same_marks, same_interrupts, raised_marks, put_marks}
use Rattle.datasheet_laws.proofs.Masks.{registers_set as masks_put, registers_cleared as masks_taken}
use Rattle.datasheet_laws.proofs.Owned.{IsOne, causes, cause_set, masks, mask_clear, auto_clear, auto_mask, one_of_group}

-- A write to another owner's register can't change a mark of the group.
reaching : (k : Kind) (p : Place) (g : Group) → is_own k ≡ false → (written_by k p).reported g ≡ false
reaching kind.Vfmail p g off = refl
reaching kind.Pfmail p g off = refl
reaching kind.Ctrlext p g off = refl
reaching other p g off = cc

unmarked : (p : Place) (g : Group) → is_owner (owner_of p) (owner.Group g) ≡ false → (of_write p).reported g ≡ false
unmarked p g other =
    elim (cases_Bool (is_own (row_of p.row).kind)) [
      | inr off ↦ reaching (row_of p.row).kind p g off
      | inl own ↦ elim (cases_Bool ((of_write p).reported g)) [
        | inr off ↦ off
        | inl on ↦
            absurd (both_ways (is_owner (owner_of p) (owner.Group g)) other ((covers-of_write p own).reported g on))
      ]
    ]

module _ (s : State) (h : IsSound s) (g : Group) (there : IsGroup g) (bit : ℕ) (b : bit < bits_in g) where
  abbrev Kept : State → Type 0
  Kept new = IsSound new → Keeps s new g bit

  unchanged : (new : State) → new ≡ s → Kept new
  unchanged new same = subst Kept (sym same) (λ sound. same_marks s s h sound g there bit b refl)

  -- Accesses to the group's own registers.
  read_causes : Kept (state_read s (cause_register g))
  read_causes then =
      let i = interrupts_of s.registers g in
      put_marks s (state_read s (cause_register g)) h then g there bit b
      (after_read i (clears_others s.registers) (auto_masks s.registers g)) refl
      (settled-after_read i (settled s.registers g) (clears_others s.registers) (auto_masks s.registers g))
      (intersection-lt _ _) (registers_read s g) refl

  module _ (view word : ℕ) where
    write_causes : Kept (state_written s (cause_register g) view word)
    write_causes then =
        let i = interrupts_of s.registers g in
        put_marks s (state_written s (cause_register g) view word) h then g there bit b
        (after_write_one i (bit_and word view) (auto_masks s.registers g)) refl
        (settled-after_write_one i (settled s.registers g) (bit_and word view) (auto_masks s.registers g))
        (intersection-lt _ _) (registers_cleared s g view word) refl

    set_causes : Kept (state_written s (cause_set_register g) view word)
    set_causes then =
        let i = interrupts_of s.registers g in
        put_marks s (state_written s (cause_set_register g) view word) h then g there bit b
        (raised i (bit_and word view) (auto_masks s.registers g)) refl
        (settled-raised i (settled s.registers g) (bit_and word view) (auto_masks s.registers g))
        (intersection-lt _ _) (registers_set s g view word) refl

    write_masks : Kept (state_written s (mask_register g) view word)
    write_masks then =
        let i = interrupts_of s.registers g in
        put_marks s (state_written s (mask_register g) view word) h then g there bit b
        (after_mask_set i (bit_and word view)) refl
        (settled-after_mask_set i (settled s.registers g) (bit_and word view)) (intersection-lt _ _)
        (masks_put s g view word) refl

    clear_masks : Kept (state_written s (mask_clear_register g) view word)
    clear_masks then =
        let i = interrupts_of s.registers g in
        put_marks s (state_written s (mask_clear_register g) view word) h then g there bit b
        (after_mask_clear i (bit_and word view)) refl
        (settled-after_mask_clear i (settled s.registers g) (bit_and word view)) (intersection-lt _ _)
        (masks_taken s g view word) refl

  -- Accesses to another register.
  unread : (p : Place) → is_owner (owner_of p) (owner.Group g) ≡ false → Kept (state_read s p)
  unread p other then =
      same_interrupts s (state_read s p) h then g there bit b
      (group_stands (of_read p) s.registers (word_left (row_of p.row).kind s.registers p) g
      (misses-narrower (of_owner (owner_of p)) (of_read p) (of_group g) (covers-of_read p)
      (misses-owner (owner_of p) (owner.Group g) other))
      (within-after_read s.registers p))

  unwritten : (p : Place) (view word : ℕ) → is_owner (owner_of p) (owner.Group g) ≡ false
      → Kept (record s { registers = word_written s.registers p view word })
  unwritten p view word other then =
      same_marks s _ h then g there bit b ((within-written s.registers p view word).reported g (unmarked p g other))

  reset_elsewhere : (v : ℕ) → is_group (Vf v) g ≡ false → Kept (with_pool_reset s v)
  reset_elsewhere v other then =
      same_marks s _ h then g there bit b ((within-pool_reset s.registers (mode_in s.registers) v).reported g other)

-- The auto-clear and auto-mask words are independent of the marks.
clear_written : (s : State) (g : Group) (view word : ℕ)
    → reported_by (state_written s (auto_clear_register g) view word).registers g ≡ reported_by s.registers g
clear_written s Pf view word = refl
clear_written s (Vf v) view word = refl

mask_written : (s : State) (g : Group) (view word : ℕ)
    → reported_by (state_written s (auto_mask_register g) view word).registers g ≡ reported_by s.registers g
mask_written s Pf view word = refl
mask_written s (Vf v) view word = refl

-- A read of a register other than the causes changes nothing.
quiet_set : (s : State) (g : Group) → state_read s (cause_set_register g) ≡ s
quiet_set s Pf = refl
quiet_set s (Vf v) = refl

quiet_mask : (s : State) (g : Group) → state_read s (mask_register g) ≡ s
quiet_mask s Pf = refl
quiet_mask s (Vf v) = refl

quiet_clear : (s : State) (g : Group) → state_read s (mask_clear_register g) ≡ s
quiet_clear s Pf = refl
quiet_clear s (Vf v) = refl

quiet_auto_clear : (s : State) (g : Group) → state_read s (auto_clear_register g) ≡ s
quiet_auto_clear s Pf = refl
quiet_auto_clear s (Vf v) = refl

quiet_auto_mask : (s : State) (g : Group) → state_read s (auto_mask_register g) ≡ s
quiet_auto_mask s Pf = refl
quiet_auto_mask s (Vf v) = refl

module _ (s : State) (h : IsSound s) (g : Group) (there : IsGroup g) (bit : ℕ) (b : bit < bits_in g) where
  own_read : (p : Place) → IsOne g p → Kept s h g there bit b (state_read s p)
  own_read p (causes e) =
      subst (λ q. Kept s h g there bit b (state_read s q)) (sym e) (read_causes s h g there bit b)
  own_read p (cause_set e) = unchanged s h g there bit b _ (ap (state_read s) e ∙ quiet_set s g)
  own_read p (masks e) = unchanged s h g there bit b _ (ap (state_read s) e ∙ quiet_mask s g)
  own_read p (mask_clear e) = unchanged s h g there bit b _ (ap (state_read s) e ∙ quiet_clear s g)
  own_read p (auto_clear e) = unchanged s h g there bit b _ (ap (state_read s) e ∙ quiet_auto_clear s g)
  own_read p (auto_mask e) = unchanged s h g there bit b _ (ap (state_read s) e ∙ quiet_auto_mask s g)

  read_marks : (w : Port) (n : ℕ) (m : Named) → named s w n ≡ m → Kept s h g there bit b (named_read s m).state
  read_marks w n (Nothing seen) is = unchanged s h g there bit b s refl
  read_marks w n (Register p view) is =
      elim (cases_Bool (is_owner (owner_of p) (owner.Group g))) [
        | inl t ↦ own_read p
            (one_of_group p g (in_range s w n p view is) (is_owner-same (owner_of p) (owner.Group g) t))
        | inr f ↦ unread s h g there bit b p f
      ]

  own_write : (p : Place) (view word : ℕ) → IsOne g p → Kept s h g there bit b (state_written s p view word)
  own_write p view word (causes e) =
      subst (λ q. Kept s h g there bit b (state_written s q view word)) (sym e)
      (write_causes s h g there bit b view word)
  own_write p view word (cause_set e) =
      subst (λ q. Kept s h g there bit b (state_written s q view word)) (sym e)
      (set_causes s h g there bit b view word)
  own_write p view word (masks e) =
      subst (λ q. Kept s h g there bit b (state_written s q view word)) (sym e)
      (write_masks s h g there bit b view word)
  own_write p view word (mask_clear e) =
      subst (λ q. Kept s h g there bit b (state_written s q view word)) (sym e)
      (clear_masks s h g there bit b view word)
  own_write p view word (auto_clear e) =
      subst (λ q. Kept s h g there bit b (state_written s q view word)) (sym e)
      (λ then. same_marks s _ h then g there bit b (clear_written s g view word))
  own_write p view word (auto_mask e) =
      subst (λ q. Kept s h g there bit b (state_written s q view word)) (sym e)
      (λ then. same_marks s _ h then g there bit b (mask_written s g view word))

pool_elsewhere : (g : Group) (p : Place) (word : ℕ) → SparesMarks g p word
    → asks_pool_reset (row_of p.row).kind word ≡ true → is_group (Vf p.index) g ≡ false
pool_elsewhere Pf p word spares asks = refl
pool_elsewhere (Vf v) p word spares asks =
    let is = asks_pool p.row p.index word asks in
    ne_eqb p.index v (λ e. both_ways (has_bit 26 word) (spares.pool (is.0 ∙ ap (place row.Pvfctrl) e)) is.1)

module _ (s : State) (h : IsSound s) (g : Group) (there : IsGroup g) (bit : ℕ) (b : bit < bits_in g) where
  write_marks : (w : Port) (n word : ℕ) (m : Named) → named s w n ≡ m
      → ((p : Place) (view : ℕ) → m ≡ Register p view → SparesMarks g p word)
      → Kept s h g there bit b (named_written s m word).state
  write_marks w n word (Nothing seen) is spares = unchanged s h g there bit b s refl
  write_marks w n word (Register p view) is spares =
      let inside = in_range s w n p view is in
      let P : State → Type 0 = Kept s h g there bit b in
      let only = spares p view refl in
      elim (cases_Bool (is_owner (owner_of p) (owner.Group g))) [
        | inl t ↦ own_write s h g there bit b p view word
            (one_of_group p g inside (is_owner-same (owner_of p) (owner.Group g) t))
        | inr f ↦ cond_both (asks_reset (row_of p.row).kind word) (reset s) (written_below_reset s p view word) P
            (λ asks. let is = asks_device p.row p.index word inside asks in
            absurd (both_ways (has_bit 3 word || has_bit 26 word) (only.control is.0) is.1))
            (λ none. cond_both (asks_pool_reset (row_of p.row).kind word) (with_pool_reset s p.index)
            (record s { registers = word_written s.registers p view word }) P
            (λ asks. reset_elsewhere s h g there bit b p.index (pool_elsewhere g p word only asks))
            (λ plain. unwritten s h g there bit b p view word f))
      ]

  device_marks : (e : Event Block) → IsOfTheDevice e → Kept s h g there bit b (after s e)
  device_marks e is then = raised_marks s (after s e) h then g there bit b _ (events_raise s h e is g)

  message_marks : (other : Group) → other ≢ g → Kept s h g there bit b (after s (event.IntStep other))
  message_marks other apart then =
      same_interrupts s _ h then g there bit b ((message_rest s other).groups g (λ e. apart (sym e)))

pub marks_last : MarksLast
unfolding step_of
marks_last s h g there (event.Read w n) is spares bit b =
    read_marks s h g there bit b w n (named s w n) refl (keeps_sound s h (event.Read w n) is)
marks_last s h g there (event.Write w n word) is spares bit b =
    write_marks s h g there bit b w n word (named s w n) refl spares (keeps_sound s h (event.Write w n word) is)
marks_last s h g there (event.IntStep other) is spares bit b =
    message_marks s h g there bit b other spares (keeps_sound s h (event.IntStep other) is)
marks_last s h g there other is spares bit b = device_marks s h g there bit b other tt (keeps_sound s h other is)
