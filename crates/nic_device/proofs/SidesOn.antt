-- Which sides are enabled after writes, switches, pool resets, and steps that leave enable registers unchanged.
use Rattle.std.proofs.Common.{◌≡◌, ◌<◌, ◌≤◌, ℕ, true, false, refl, ap, sym, ◌∙◌, subst, inl, inr}
use Rattle.std.proofs.lemmas.Bool.{both_ways, cases_Bool, cases_lt}
use Rattle.std.proofs.lemmas.List.{get_or_past}
use Rattle.register_file.specs.RegTable.Rows.{row_of}
use Rattle.register_file.specs.RegTable.declared.place.Place.{Place}
use Rattle.register_file.specs.RegTable.declared.rows.RowId.TheVariants.{Eerd, Rxdctl, Txdctl}
use Rattle.register_file.specs.IntrUnit.declared.group.Group.{Group}
use Rattle.register_file.specs.IntrUnit.declared.group.Group.TheVariants.{Pf}
use Rattle.register_file.specs.VfMap.Owner.{has_queue}
use Rattle.register_file.specs.VfMap.declared.mode.Mode.{Mode}
use Rattle.register_file.specs.Bits.{has_bit}
use Rattle.register_file.specs.Columns.{place}
use Rattle.register_file.specs.PoolReset.{pool_reset}
use Rattle.register_file.specs.Queue.{enable_row, head_row, is_on, switched}
use Rattle.register_file.specs.Registers.{Registers, is_wanted}
use Rattle.register_file.specs.Words.{row_words}
use Rattle.register_file.specs.declared.owner.Owner.TheVariants as owner
use Rattle.rx_ring.specs.DmaRing.declared.dir.Dir.{Dir}
use Rattle.rx_ring.specs.DmaRing.declared.dir.Dir.TheVariants.{Rx, Tx}
use Rattle.register_laws.specs.Footprint.{Footprint, LacksWord, ChangesWithin, either, counters, is_alone, is_place, pool_has, of_read, of_side, pending, the_word}
use Rattle.register_laws.proofs.HasWord.{HasWord}
use Rattle.register_laws.specs.Laws.{after_write}
use Rattle.register_laws.specs.Sides.{ReceiveQueue, TransmitQueue}
use Rattle.register_laws.specs.Sound.{HasShape, AreSound}
use Rattle.register_laws.proofs.Accessed.{none_written_by, read_misses_sides}
use Rattle.register_laws.proofs.NoSide.{pending_misses_sides}
use Rattle.register_laws.proofs.Owners.{is_owner-itself, is_place-same}
use Rattle.register_laws.proofs.PoolReset.{within-pool_reset}
use Rattle.register_laws.proofs.Sound.{sound-written}
use Rattle.register_laws.proofs.Switches.{receive-asked, receive-switched, transmit-asked, transmit-switched}
use Rattle.register_laws.proofs.Within.{within-switched, within-written}
use Rattle.nic_device.specs.Footprint.{counts_and_causes}

-- Each side is enabled or disabled as before; each enabled side stays enabled.
abbrev pub KeepsSides : Registers → Registers → Type 0
KeepsSides r s = (dir : Dir) (queue : ℕ) → is_on s dir queue ≡ is_on r dir queue

abbrev pub KeepsOn : Registers → Registers → Type 0
KeepsOn r s = (dir : Dir) (queue : ℕ) → is_on r dir queue ≡ true → is_on s dir queue ≡ true

pub on_kept : (r s : Registers) → KeepsSides r s → KeepsOn r s
on_kept r s kept dir queue on = kept dir queue ∙ on

-- A side that is disabled afterwards was disabled before.
pub was_off : (r s : Registers) → KeepsOn r s → (dir : Dir) (queue : ℕ) → is_on s dir queue ≡ false
    → is_on r dir queue ≡ false
was_off r s kept dir queue off = elim (cases_Bool (is_on r dir queue)) as (λ _. is_on r dir queue ≡ false) [
  | inl on ↦ absurd (both_ways _ off (kept dir queue on))
  | inr was ↦ was
]

-- Steps that leave an enable register unchanged.

pub on_stays : (f : Footprint) (r s : Registers) (dir : Dir) (queue : ℕ)
    → LacksWord f (place (enable_row dir) queue) → ChangesWithin f r s → is_on s dir queue ≡ is_on r dir queue
on_stays f r s dir queue spared within = within.bits (place (enable_row dir) queue) 25 (spared 25)

-- A footprint without any enable register.
abbrev pub SparesEnables : Footprint → Type 0
SparesEnables f = (dir : Dir) (queue : ℕ) → LacksWord f (place (enable_row dir) queue)

pub sides_kept : (f : Footprint) (r s : Registers) → SparesEnables f → ChangesWithin f r s → KeepsSides r s
sides_kept f r s spares within dir queue = on_stays f r s dir queue (spares dir queue) within

of_the_side : (dir : Dir) (queue : ℕ) → HasWord (of_side dir queue) (place (enable_row dir) queue)
of_the_side Rx queue bit = is_owner-itself (owner.Side Rx queue)
of_the_side Tx queue bit = is_owner-itself (owner.Side Tx queue)

pub spares-of_read : (p : Place) → SparesEnables (of_read p)
spares-of_read p dir queue bit =
    (read_misses_sides p dir queue).bits (place (enable_row dir) queue) bit (of_the_side dir queue bit)

pub spares-pending : (g : Group) → SparesEnables (pending g)
spares-pending g dir queue bit =
    (pending_misses_sides (owner.Group g) dir queue).bits (place (enable_row dir) queue) bit (of_the_side dir queue bit)

pub spares-arrival : SparesEnables (either counters (pending Pf))
spares-arrival Rx queue bit = refl
spares-arrival Tx queue bit = refl

pub spares-answer : SparesEnables (the_word (place Eerd 0))
spares-answer Rx queue bit = refl
spares-answer Tx queue bit = refl

pub spares-counts : SparesEnables counts_and_causes
spares-counts Rx queue bit = refl
spares-counts Tx queue bit = refl

-- What a step that moves a head changes: the head, counters and causes.
abbrev pub of_move : Dir → ℕ → Footprint
of_move dir queue = either (the_word (place (head_row dir) queue)) counts_and_causes

pub spares-move : (dir : Dir) (queue : ℕ) → SparesEnables (of_move dir queue)
spares-move Rx queue Rx other bit = refl
spares-move Rx queue Tx other bit = refl
spares-move Tx queue Rx other bit = refl
spares-move Tx queue Tx other bit = refl

-- Queue numbers past the end have no side.

module _ (r : Registers) (h : HasShape r) where
  past_off : (dir : Dir) (queue : ℕ) → 128 ≤ queue → is_on r dir queue ≡ false
  past_off Rx queue past =
      ap (has_bit 25)
      (get_or_past (row_words r.words Rxdctl) queue 0 (subst (λ n. n ≤ queue) (sym (h.has_indices Rxdctl)) past))
  past_off Tx queue past =
      ap (has_bit 25)
      (get_or_past (row_words r.words Txdctl) queue 0 (subst (λ n. n ≤ queue) (sym (h.has_indices Txdctl)) past))

enable_alone : (dir : Dir) → is_alone (row_of (enable_row dir)).kind ≡ true
enable_alone Rx = refl
enable_alone Tx = refl

-- A write to an enable register only records a request.
module _ (r : Registers) (sound : AreSound r) (view word : ℕ) where
  asked_shape : (dir : Dir) (queue : ℕ) → HasShape (after_write r (place (enable_row dir) queue) view word)
  asked_shape dir queue = (sound-written r (place (enable_row dir) queue) view word sound).shape

  own_asked : (dir : Dir) (queue : ℕ) → queue < 128
      → is_on (after_write r (place (enable_row dir) queue) view word) dir queue ≡ is_on r dir queue
  own_asked Rx queue small = ap (λ (x : ReceiveQueue). x.on) (receive-asked r sound.shape queue small view word)
  own_asked Tx queue small = ap (λ (x : TransmitQueue). x.on) (transmit-asked r sound.shape queue small view word)

  asked : (dir : Dir) (queue : ℕ)
      → is_on (after_write r (place (enable_row dir) queue) view word) dir queue ≡ is_on r dir queue
  asked dir queue =
      let s = after_write r (place (enable_row dir) queue) view word in
      elim (cases_lt queue 128) as (λ _. is_on s dir queue ≡ is_on r dir queue) [
        | inl small ↦ own_asked dir queue small
        | inr past ↦ past_off s (asked_shape dir queue) dir queue past
            ∙ sym (past_off r sound.shape dir queue past)
      ]

  pub sides-after_write : (p : Place) → KeepsSides r (after_write r p view word)
  sides-after_write p dir queue =
      let here : Place = place (enable_row dir) queue in
      elim (cases_Bool (is_place p here)) as (λ _. is_on (after_write r p view word) dir queue ≡ is_on r dir queue) [
        | inl same ↦
            subst (λ q. is_on (after_write r q view word) dir queue ≡ is_on r dir queue)
            (sym (is_place-same p here same)) (asked dir queue)
        | inr other ↦ (within-written r p view word).bits here 25
            (none_written_by here (enable_alone dir) (row_of p.row).kind p other 25)
      ]

-- A switch changes only its own side, and leaves it enabled if requested.

pub others_switched : (r : Registers) (dir side : Dir) (queue other : ℕ)
    → is_place (place (enable_row dir) queue) (place (enable_row side) other) ≡ false
    → is_on (switched r dir queue) side other ≡ is_on r side other
others_switched r dir side queue other apart =
    on_stays (the_word (place (enable_row dir) queue)) r (switched r dir queue) side other (λ bit. apart)
    (within-switched r dir queue)

module _ (r : Registers) (h : HasShape r) where
  own_switched : (dir : Dir) (queue : ℕ) → queue < 128 → is_on (switched r dir queue) dir queue ≡ is_wanted r dir queue
  own_switched Rx queue small = ap (λ (x : ReceiveQueue). x.on) (receive-switched r h queue small)
  own_switched Tx queue small = ap (λ (x : TransmitQueue). x.on) (transmit-switched r h queue small)

  wanted_on : (dir : Dir) (queue : ℕ) → is_wanted r dir queue ≡ true → is_on r dir queue ≡ true
      → is_on (switched r dir queue) dir queue ≡ true
  wanted_on dir queue wanted on =
      elim (cases_lt queue 128) as (λ _. is_on (switched r dir queue) dir queue ≡ true) [
        | inl small ↦ own_switched dir queue small ∙ wanted
        | inr past ↦ absurd (both_ways _ (past_off r h dir queue past) on)
      ]

  same_side : (dir : Dir) (queue other : ℕ) → is_wanted r dir queue ≡ true → is_on r dir other ≡ true
      → is_place (place (enable_row dir) queue) (place (enable_row dir) other) ≡ true
      → is_on (switched r dir queue) dir other ≡ true
  same_side dir queue other wanted on same =
      let is : queue ≡ other = ap (λ (p : Place). p.index) (is_place-same _ _ same) in
      subst (λ n. is_on (switched r dir queue) dir n ≡ true) is
      (wanted_on dir queue wanted (subst (λ n. is_on r dir n ≡ true) (sym is) on))

  same_dir : (dir : Dir) (queue other : ℕ) → is_wanted r dir queue ≡ true → is_on r dir other ≡ true
      → is_on (switched r dir queue) dir other ≡ true
  same_dir dir queue other wanted on =
      elim (cases_Bool (is_place (place (enable_row dir) queue) (place (enable_row dir) other)))
      as (λ _. is_on (switched r dir queue) dir other ≡ true) [
        | inl same ↦ same_side dir queue other wanted on same
        | inr apart ↦ others_switched r dir dir queue other apart ∙ on
      ]

  pub wanted_keeps : (dir : Dir) (queue : ℕ) → is_wanted r dir queue ≡ true → KeepsOn r (switched r dir queue)
  wanted_keeps Rx queue wanted Rx other on = same_dir Rx queue other wanted on
  wanted_keeps Tx queue wanted Tx other on = same_dir Tx queue other wanted on
  wanted_keeps Rx queue wanted Tx other on = others_switched r Rx Tx queue other refl ∙ on
  wanted_keeps Tx queue wanted Rx other on = others_switched r Tx Rx queue other refl ∙ on

-- The sides of queues outside a pool.
pub others_pooled : (r : Registers) (mode : Mode) (v : ℕ) (dir : Dir) (queue : ℕ) → has_queue mode v queue ≡ false
    → is_on (pool_reset mode v r) dir queue ≡ is_on r dir queue
others_pooled r mode v Rx queue none =
    on_stays (pool_has mode v) r (pool_reset mode v r) Rx queue (λ bit. none) (within-pool_reset r mode v)
others_pooled r mode v Tx queue none =
    on_stays (pool_has mode v) r (pool_reset mode v r) Tx queue (λ bit. none) (within-pool_reset r mode v)
