-- Which register accesses keep a mask.
use Rattle.std.proofs.Common.{◌≡◌, ◌≢◌, ℕ, ◌<◌, Bool, true, false, not, ◌&&◌, ◌||◌, refl, ap, sym, ◌∙◌, subst, arith, inl, inr}
use Rattle.std.specs.Prelude.{IsFalse}
use Rattle.nic_device.specs.RegTable.declared.rows.RowId.TheVariants as row
use Rattle.nic_device.specs.VfMap.Owner.{is_of_pool}
use Rattle.nic_device.specs.RegisterFile.Access.{after_read, asks_reset, asks_pool_reset}
use Rattle.nic_device.specs.RegisterFile.declared.owner.Owner.TheVariants as owner
use Rattle.nic_device.specs.RegisterLaws.Footprint.{is_own, of_owner, of_group, of_read, of_write}
use Rattle.nic_device.specs.RegisterLaws.Laws.{after_write as word_written}
use Rattle.device_laws.proofs.Reaching.{IsAway, write_lacks}
use Rattle.datasheet_laws.specs.Prelude.{Group, IsSound, Pf, Place, RowId, State, Vf, has_bit, interrupts_of, is_owner}
use Rattle.datasheet_laws.specs.Prelude.{mode_in, owner_of, place, reset, row_of, state_read, state_written}
use Rattle.datasheet_laws.specs.Prelude.{with_pool_reset, word_at, written_below_reset}
use Rattle.datasheet_laws.proofs.Prelude.{both_ways, cases_Bool, cond_both, covers-of_read, covers-of_write}
use Rattle.datasheet_laws.proofs.Prelude.{group_stands, is_owner-same, misses-narrower, misses-owner, ne_eqb, or_left}
use Rattle.datasheet_laws.proofs.Prelude.{within-after_read, within-pool_reset, within-written, word_stands}
use Rattle.datasheet_laws.specs.Lasting.{masks_itself, SparesMask}
use Rattle.datasheet_laws.specs.Names.{IsGroup, bits_in, cause_register, mask_register, mask_clear_register}
use Rattle.datasheet_laws.specs.Shown.{Bit, bit_of, masks_by_access}
use Rattle.datasheet_laws.proofs.AutoWords.{clear_at, mask_at}
use Rattle.datasheet_laws.proofs.Causes.{set_at, cleared_at, read_at}
use Rattle.datasheet_laws.proofs.Groups.{bit_stands}
use Rattle.datasheet_laws.proofs.Masks.{set_at as mask_set_at, cleared_at as mask_cleared_at}
use Rattle.datasheet_laws.proofs.Owned.{IsOne, causes, cause_set, masks, mask_clear, auto_clear, auto_mask, one_of_group}
use Rattle.datasheet_laws.proofs.Words.{bit_of-words, small}

-- A mask that isn't cleared.
keeps : (mask gone : Bool) → mask ≡ true → gone ≡ false → (mask && not gone) ≡ true
keeps true gone m none = ap not none
keeps false gone m none = m

spared : (one acts has : Bool) → (one && (acts && has)) ≡ false → (acts && one && has) ≡ false
spared one acts has e = grind arith

-- The mask of a group that an access doesn't belong to.

mask_away : (g : Group) → IsAway (mask_register g)
mask_away Pf = record {
  mailbox = λ e. cc;
  requests = λ e. cc;
  physical = λ e. cc;
  function = λ e. cc;
  extended = λ e. cc;
}
mask_away (Vf v) = record {
  mailbox = λ e. cc;
  requests = λ e. cc;
  physical = λ e. cc;
  function = λ e. cc;
  extended = λ e. cc;
}

module _ (s : State) (h : IsSound s) (g : Group) (there : IsGroup g) (bit : ℕ) (b : bit < bits_in g)
    (m : (bit_of s g bit).mask ≡ true) where
  stands : (new : State) → interrupts_of new.registers g ≡ interrupts_of s.registers g
      → (bit_of new g bit).mask ≡ true
  stands new same = ap (λ (x : Bit). x.mask) (bit_stands s new g there same bit b) ∙ m

  mask_stands : (new : State)
      → word_at new.registers.words (mask_register g) ≡ word_at s.registers.words (mask_register g)
      → (bit_of new g bit).mask ≡ true
  mask_stands new same =
      ap (λ (x : Bit). x.mask) (bit_of-words new g there bit (small g bit b))
      ∙ ap (has_bit bit) same
      ∙ sym (ap (λ (x : Bit). x.mask) (bit_of-words s g there bit (small g bit b))) ∙ m

  -- Reads.

  unread : (p : Place) → is_owner (owner_of p) (owner.Group g) ≡ false → (bit_of (state_read s p) g bit).mask ≡ true
  unread p other =
      stands (state_read s p) (group_stands (of_read p) s.registers (after_read (row_of p.row).kind s.registers p) g
      (misses-narrower (of_owner (owner_of p)) (of_read p) (of_group g) (covers-of_read p)
      (misses-owner (owner_of p) (owner.Group g) other))
      (within-after_read s.registers p))

  read_other : (p : Place) → state_read s p ≡ s → (bit_of (state_read s p) g bit).mask ≡ true
  read_other p same = ap (λ t. (bit_of t g bit).mask) same ∙ m

  read_causes : IsFalse (masks_itself s g bit) → (bit_of (state_read s (cause_register g)) g bit).mask ≡ true
  read_causes none =
      ap (λ (x : Bit). x.mask) (read_at s g h there bit b)
      ∙ keeps (bit_of s g bit).mask (masks_itself s g bit) m none

  -- Writes.

  written_causes : (view word : ℕ) → IsFalse (has_bit bit word && has_bit bit view && masks_itself s g bit)
      → (bit_of (state_written s (cause_register g) view word) g bit).mask ≡ true
  written_causes view word none =
      ap (λ (x : Bit). x.mask) (cleared_at s g view word h there bit b)
      ∙ keeps (bit_of s g bit).mask _ m
      (spared (has_bit bit word && has_bit bit view) (masks_by_access s g) (bit_of s g bit).auto_mask none)

  written_clear : (view word : ℕ) → IsFalse (has_bit bit word && has_bit bit view)
      → (bit_of (state_written s (mask_clear_register g) view word) g bit).mask ≡ true
  written_clear view word none =
      ap (λ (x : Bit). x.mask) (mask_cleared_at s g view word h there bit b)
      ∙ keeps (bit_of s g bit).mask (has_bit bit word && has_bit bit view) m none

  unwritten : (p : Place) (view word : ℕ) → is_owner (owner_of p) (owner.Group g) ≡ false
      → (bit_of (record s { registers = word_written s.registers p view word }) g bit).mask ≡ true
  unwritten p view word other =
      let new : State = record s { registers = word_written s.registers p view word } in
      let within = within-written s.registers p view word in
      elim (cases_Bool (is_own (row_of p.row).kind)) as (λ _. (bit_of new g bit).mask ≡ true) [
        | inl own ↦ stands new (group_stands (of_write p) s.registers new.registers g
            (misses-narrower (of_owner (owner_of p)) (of_write p) (of_group g) (covers-of_write p own)
            (misses-owner (owner_of p) (owner.Group g) other))
            within)
        | inr reaching ↦
            mask_stands new (word_stands within (mask_register g)
            (write_lacks p (mask_register g) reaching (mask_away g)))
      ]

  -- A reset of another pool.
  reset_elsewhere : (v : ℕ) → is_of_pool (mode_in s.registers) v (mask_register g) ≡ false
      → (bit_of (with_pool_reset s v) g bit).mask ≡ true
  reset_elsewhere v other =
      mask_stands (with_pool_reset s v)
      (word_stands (within-pool_reset s.registers (mode_in s.registers) v) (mask_register g) (λ at. other))

-- Reads of a group's own registers.

own_read : (s : State) → IsSound s → (g : Group) → IsGroup g → (bit : ℕ) → bit < bits_in g
    → (bit_of s g bit).mask ≡ true → (p : Place) → IsOne g p → (p ≡ cause_register g → IsFalse (masks_itself s g bit))
    → (bit_of (state_read s p) g bit).mask ≡ true
own_read s h g there bit b m p (causes e) spares =
    subst (λ q. (bit_of (state_read s q) g bit).mask ≡ true) (sym e) (read_causes s h g there bit b m (spares e))
own_read s h Pf there bit b m p (cause_set e) spares = read_other s h Pf there bit b m p (ap (state_read s) e)
own_read s h (Vf v) there bit b m p (cause_set e) spares =
    read_other s h (Vf v) there bit b m p (ap (state_read s) e)
own_read s h Pf there bit b m p (masks e) spares = read_other s h Pf there bit b m p (ap (state_read s) e)
own_read s h (Vf v) there bit b m p (masks e) spares = read_other s h (Vf v) there bit b m p (ap (state_read s) e)
own_read s h Pf there bit b m p (mask_clear e) spares = read_other s h Pf there bit b m p (ap (state_read s) e)
own_read s h (Vf v) there bit b m p (mask_clear e) spares =
    read_other s h (Vf v) there bit b m p (ap (state_read s) e)
own_read s h Pf there bit b m p (auto_clear e) spares = read_other s h Pf there bit b m p (ap (state_read s) e)
own_read s h (Vf v) there bit b m p (auto_clear e) spares =
    read_other s h (Vf v) there bit b m p (ap (state_read s) e)
own_read s h Pf there bit b m p (auto_mask e) spares = read_other s h Pf there bit b m p (ap (state_read s) e)
own_read s h (Vf v) there bit b m p (auto_mask e) spares =
    read_other s h (Vf v) there bit b m p (ap (state_read s) e)

pub read_keeps : (s : State) → IsSound s → (g : Group) → IsGroup g → (bit : ℕ) → bit < bits_in g
    → (bit_of s g bit).mask ≡ true → (p : Place) → p.index < (row_of p.row).count
    → (p ≡ cause_register g → IsFalse (masks_itself s g bit)) → (bit_of (state_read s p) g bit).mask ≡ true
read_keeps s h g there bit b m p inside spares =
    elim (cases_Bool (is_owner (owner_of p) (owner.Group g))) [
      | inl t ↦ own_read s h g there bit b m p
          (one_of_group p g inside (is_owner-same (owner_of p) (owner.Group g) t)) spares
      | inr f ↦ unread s h g there bit b m p f
    ]

-- Writes to a group's own registers.

own_write : (s : State) → IsSound s → (g : Group) → IsGroup g → (bit : ℕ) → bit < bits_in g
    → (bit_of s g bit).mask ≡ true → (p : Place) (view word : ℕ) → IsOne g p → SparesMask s g bit p view word
    → (bit_of (state_written s p view word) g bit).mask ≡ true
own_write s h g there bit b m p view word (causes e) spares =
    subst (λ q. (bit_of (state_written s q view word) g bit).mask ≡ true) (sym e)
    (written_causes s h g there bit b m view word (spares.cause e))
own_write s h g there bit b m p view word (cause_set e) spares =
    ap (λ q. (bit_of (state_written s q view word) g bit).mask) e
    ∙ ap (λ (x : Bit). x.mask) (set_at s g view word h there bit b) ∙ or_left _ _ m
own_write s h g there bit b m p view word (masks e) spares =
    ap (λ q. (bit_of (state_written s q view word) g bit).mask) e
    ∙ ap (λ (x : Bit). x.mask) (mask_set_at s g view word h there bit b) ∙ or_left _ _ m
own_write s h g there bit b m p view word (mask_clear e) spares =
    subst (λ q. (bit_of (state_written s q view word) g bit).mask ≡ true) (sym e)
    (written_clear s h g there bit b m view word (spares.mask_clear e))
own_write s h g there bit b m p view word (auto_clear e) spares =
    ap (λ q. (bit_of (state_written s q view word) g bit).mask) e
    ∙ ap (λ (x : Bit). x.mask) (clear_at s g view word h there bit b) ∙ m
own_write s h g there bit b m p view word (auto_mask e) spares =
    ap (λ q. (bit_of (state_written s q view word) g bit).mask) e
    ∙ ap (λ (x : Bit). x.mask) (mask_at s g view word h there bit b) ∙ m

-- Writes that reset.

pub asks_device : (r : RowId) (index word : ℕ) → index < (row_of r).count → asks_reset (row_of r).kind word ≡ true
    → (place r index ≡ place row.Ctrl 0) × ((has_bit 3 word || has_bit 26 word) ≡ true)
asks_device row.Ctrl index word b asks = (let none : index ≡ 0 = omega arith in ap (place row.Ctrl) none, asks)
asks_device other index word b asks = absurd (cc)

pub asks_pool : (r : RowId) (index word : ℕ) → asks_pool_reset (row_of r).kind word ≡ true
    → (place r index ≡ place row.Pvfctrl index) × (has_bit 26 word ≡ true)
asks_pool row.Pvfctrl index word asks = (refl, asks)
asks_pool other index word asks = absurd (cc)

pool_elsewhere : (s : State) → IsSound s → (g : Group) → IsGroup g → (bit : ℕ) → bit < bits_in g
    → (bit_of s g bit).mask ≡ true → (p : Place) (view word : ℕ) → SparesMask s g bit p view word
    → asks_pool_reset (row_of p.row).kind word ≡ true → (bit_of (with_pool_reset s p.index) g bit).mask ≡ true
pool_elsewhere s h Pf there bit b m p view word spares asks =
    reset_elsewhere s h Pf there bit b m p.index refl
pool_elsewhere s h (Vf v) there bit b m p view word spares asks =
    let is = asks_pool p.row p.index word asks in
    let apart : v ≢ p.index = λ e. both_ways (has_bit 26 word) (spares.pool (is.0 ∙ ap (place row.Pvfctrl) (sym e)))
    is.1 in
    reset_elsewhere s h (Vf v) there bit b m p.index (ne_eqb v p.index apart)

pub write_keeps : (s : State) → IsSound s → (g : Group) → IsGroup g → (bit : ℕ) → bit < bits_in g
    → (bit_of s g bit).mask ≡ true → (p : Place) (view word : ℕ) → p.index < (row_of p.row).count
    → SparesMask s g bit p view word → (bit_of (state_written s p view word) g bit).mask ≡ true
write_keeps s h g there bit b m p view word inside spares =
    let P : State → Type 0 = λ t. (bit_of t g bit).mask ≡ true in
    elim (cases_Bool (is_owner (owner_of p) (owner.Group g))) [
      | inl t ↦ own_write s h g there bit b m p view word
          (one_of_group p g inside (is_owner-same (owner_of p) (owner.Group g) t)) spares
      | inr f ↦ cond_both (asks_reset (row_of p.row).kind word) (reset s) (written_below_reset s p view word) P
          (λ asks. let is = asks_device p.row p.index word inside asks in
          absurd (both_ways (has_bit 3 word || has_bit 26 word) (spares.control is.0) is.1))
          (λ none. cond_both (asks_pool_reset (row_of p.row).kind word) (with_pool_reset s p.index)
          (record s { registers = word_written s.registers p view word }) P
          (λ asks. pool_elsewhere s h g there bit b m p view word spares asks)
          (λ plain. unwritten s h g there bit b m p view word f))
    ]
