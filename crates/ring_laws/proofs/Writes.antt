-- Which writes leave a queue alone.
use Rattle.std.proofs.Common.{◌≡◌, ◌≢◌, ℕ, ◌/◌, ◌%◌, ◌<◌, ◌||◌, true, false, eqb, Option, refl, sym, ◌∙◌, subst, inl, inr, arith}
use Rattle.std.proofs.lemmas.Bool.{true≢false, both_ways, or_cases, or_parts, lt-ltb, le-ltb, eq-eqb}
use Rattle.device_lock.specs.Alone as alone
use Rattle.device_lock.specs.NicDevice.RegTable.Rows.{row_of}
use Rattle.device_lock.specs.NicDevice.RegTable.declared.rows.RowId.TheVariants as row
use Rattle.device_lock.specs.NicDevice.RegisterFile.Access.{asks_pool_reset}
use Rattle.device_lock.specs.NicDevice.VfMap.Owner.{has_queue, is_receive, is_transmit}
use Rattle.device_lock.specs.NicDevice.VfMap.declared.mode.Mode.TheVariants.{Off, Pools16, Pools32, Pools64}
use Rattle.ring_laws.specs.Leaving.{is_setting, is_ring, is_reset, pool_has, WritesLeave, WritesLeaveQueues}
use Rattle.ring_laws.specs.LocksPrelude.{Place, RowId, Mode, Port, Watched}

same_settings : (r : RowId) → alone.is_setting r ≡ is_setting r
same_settings row.Ctrl = refl
same_settings other = refl

same_rings : (r : RowId) → (is_receive r || is_transmit r) ≡ is_ring r
same_rings row.Ctrl = refl
same_rings other = refl

-- A write to a register other than PVFCTRL resets no pool. A write to PVFCTRL resets a pool if it sets bit 26.
resets_none : (r : RowId) (word : ℕ) → is_reset r ≡ false → asks_pool_reset (row_of r).kind word ≡ false
resets_none row.Pvfctrl word h = absurd (true≢false h)
resets_none other word h = refl

resets : (r : RowId) (word : ℕ) → is_reset r ≡ true →
    asks_pool_reset (row_of r).kind word ≡ eqb (word / 0x4000000 % 2) 1
resets row.Pvfctrl word h = refl
resets other word h = absurd (true≢false (sym h))

-- PVFCTRL is neither a setting nor a register of a ring.
apart : (r : RowId) → is_reset r ≡ true → (is_setting r ≡ false) × (is_ring r ≡ false)
apart row.Pvfctrl h = (refl, refl)
apart other h = absurd (true≢false (sym h))

ring_apart : (r : RowId) → is_ring r ≡ true → (is_setting r ≡ false) × (is_reset r ≡ false)
ring_apart row.Ctrl h = absurd (true≢false (sym h))
ring_apart row.Hlreg0 h = absurd (true≢false (sym h))
ring_apart row.Maxfrs h = absurd (true≢false (sym h))
ring_apart row.GcrExt h = absurd (true≢false (sym h))
ring_apart row.Pvfctrl h = absurd (true≢false (sym h))
ring_apart other h = (refl, refl)

same_pools : (mode : Mode) (v q : ℕ) → q < 128 → has_queue mode v q ≡ pool_has mode v q
same_pools Off v q small = rw (le-ltb q 0 (omega arith)) refl
same_pools Pools16 v q small = rw (lt-ltb q 128 small) refl
same_pools Pools32 v q small = rw (lt-ltb q 128 small) refl
same_pools Pools64 v q small = rw (lt-ltb q 128 small) refl

module _ (queue : ℕ) (mode : Mode) (p : Place) (word : ℕ) (small : queue < 128) where
  spares : Type 0
  spares = alone.Spares queue mode p word

  not_setting : is_setting p.row ≡ true → alone.Spares queue mode p word → ⊥
  not_setting h s = both_ways (alone.is_setting p.row) s.setting (same_settings p.row ∙ h)

  not_own : is_ring p.row ≡ true → p.index ≡ queue → alone.Spares queue mode p word → ⊥
  not_own h same s = elim (or_cases (is_receive p.row) (is_transmit p.row) (same_rings p.row ∙ h)) [
    | inl r ↦ s.receive r same
    | inr t ↦ s.transmit t same
  ]

  not_pool : is_reset p.row ≡ true → word / 0x4000000 % 2 ≡ 1 → pool_has mode p.index queue ≡ true →
      alone.Spares queue mode p word → ⊥
  not_pool h bit has s =
      both_ways (has_queue mode p.index queue)
      (s.pool (resets p.row word h ∙ eq-eqb (word / 0x4000000 % 2) 1 bit)) (same_pools mode p.index queue small ∙ has)

  other_ring : is_ring p.row ≡ true → p.index ≢ queue → alone.Spares queue mode p word
  other_ring h differs = record {
    setting = same_settings p.row ∙ (ring_apart p.row h).0;
    receive = λ r. differs;
    transmit = λ t. differs;
    pool = λ asked. absurd (both_ways _ (resets_none p.row word (ring_apart p.row h).1) asked);
  }

  -- A write to PVFCTRL that resets no pool that contains the queue.
  no_ring : is_ring p.row ≡ false → (is_receive p.row ≡ false) × (is_transmit p.row ≡ false)
  no_ring h = or_parts (is_receive p.row) (is_transmit p.row) (same_rings p.row ∙ h)

  not_reset : is_reset p.row ≡ true →
      (asks_pool_reset (row_of p.row).kind word ≡ true → has_queue mode p.index queue ≡ false) →
      alone.Spares queue mode p word
  not_reset h spared = record {
    setting = same_settings p.row ∙ (apart p.row h).0;
    receive = λ r. absurd (both_ways (is_receive p.row) (no_ring (apart p.row h).1).0 r);
    transmit = λ t. absurd (both_ways (is_transmit p.row) (no_ring (apart p.row h).1).1 t);
    pool = spared;
  }

  other_pool : is_reset p.row ≡ true → pool_has mode p.index queue ≡ false → alone.Spares queue mode p word
  other_pool h lacks = not_reset h (λ asked. same_pools mode p.index queue small ∙ lacks)

  no_reset : is_reset p.row ≡ true → word / 0x4000000 % 2 ≡ 0 → alone.Spares queue mode p word
  no_reset h bit = not_reset h (λ asked.
      let on = sym (resets p.row word h) ∙ asked in absurd (true≢false (sym on ∙ rw bit refl)))

  other : (is_setting p.row || (is_ring p.row || is_reset p.row)) ≡ false → alone.Spares queue mode p word
  other h =
      let first = or_parts (is_setting p.row) (is_ring p.row || is_reset p.row) h in
      let second = or_parts (is_ring p.row) (is_reset p.row) first.1 in
      record {
        setting = same_settings p.row ∙ first.0;
        receive = λ r. absurd (both_ways (is_receive p.row) (no_ring second.0).0 r);
        transmit = λ t. absurd (both_ways (is_transmit p.row) (no_ring second.0).1 t);
        pool = λ asked. absurd (both_ways _ (resets_none p.row word second.1) asked);
      }

writes_leave_one : (w : Watched) (mode : Mode) (port : Port) (number word : ℕ) → w.queue < 128 →
    WritesLeave w mode port number word
writes_leave_one w mode port number word small =
    let leaves = λ (o : Option Place). alone.SparesIfSome w.queue mode o word in
    record {
      register = λ p is.
          let down = subst leaves is in
          let up = subst leaves (sym is) in
          record {
            setting = λ h s. not_setting w.queue mode p word small h (down s);
            own_ring = λ h same s. not_own w.queue mode p word small h same (down s);
            other_ring = λ h differs. up (other_ring w.queue mode p word small h differs);
            own_pool = λ h bit has s. not_pool w.queue mode p word small h bit has (down s);
            other_pool = λ h lacks. up (other_pool w.queue mode p word small h lacks);
            no_reset = λ h bit. up (no_reset w.queue mode p word small h bit);
            other = λ h. up (other w.queue mode p word small h);
          };
      none = λ is. subst leaves (sym is) tt;
    }

pub writes_leave : WritesLeaveQueues
writes_leave w mode port number word small = writes_leave_one w mode port number word small
