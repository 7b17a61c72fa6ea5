-- Why an arriving frame gets its reply.
use Rattle.std.proofs.Common.{◌≡◌, ◌<◌, ◌≤◌, ◌⊎◌, ◌++◌, ◌∷◌, [], ℕ, cond, List, length, Ok, Err, nat_lt, inl, inr, ap, ◌∙◌, subst}
use Rattle.std.specs.Prelude.{Result}
use Rattle.std.proofs.lemmas.Bool.{cond-true, cond-false, cond_both, cases_Bool, both_ways, ltb-true, ltb-false, lt-ltb, le-ltb}
use Rattle.nic_device.specs.RegTable.declared.rows.RowId.TheVariants.{Rxctrl, Gprc, Ruc, Roc, VtCtl}
use Rattle.nic_device.specs.RegisterFile.Settings.{can_receive, frame_limit}
use Rattle.nic_device.specs.RxFilter.Pools.{uses_pools, chosen_pool}
use Rattle.nic_device.specs.RxFilter.declared.unwanted.Unwanted.TheVariants as unwanted
use Rattle.nic_device.specs.Arrival.{arrived, sorted_in, joined, with_count, let_in, missed}
use Rattle.nic_device.specs.declared.event.Why.TheVariants.{LinkDown, Off, Short, Long, Filter, NoPool, PoolOff, Full}
use Rattle.datasheet_laws.specs.FramePrelude.{Block, Done, Dropped, IsSound, Outcome, Reply, State, Target, Unwanted, Why}
use Rattle.datasheet_laws.specs.FramePrelude.{gives}
use Rattle.datasheet_laws.specs.FramePrelude.{passes, pool_target, sorted, step_of, target_of, word_of}
use Rattle.datasheet_laws.specs.Arrival.{IsHeard, IsTaken, IsPassed, IsWelcome, HasPoolOn}
use Rattle.datasheet_laws.specs.Arrival.{IsDroppedFor, IsAnswered, ArrivingHasAnOrder}
use Rattle.datasheet_laws.specs.Bits.{bit}
use Rattle.datasheet_laws.proofs.FrameBits.{has-one, has-zero, one-has, zero-has}
use Rattle.datasheet_laws.proofs.Limits.{limit-is, is-limit}
use Rattle.datasheet_laws.proofs.FramePools.{sorted-filtered, sorted-passed, chosen-whole, chosen-none, chosen-off, chosen-on}
use Rattle.datasheet_laws.proofs.FramePools.{chosen_cases}

module _ (s : State) (frame : List ℕ) where
  -- Which checks an arriving frame passes.

  abbrev limited : Outcome
  limited =
      cond (nat_lt (frame_limit s.registers) (length frame)) (gives (Dropped Long) (with_count s Roc))
      (sorted_in s frame (sorted s.registers frame))

  abbrev sized : Outcome
  sized = cond (nat_lt (length frame) 60) (gives (Dropped Short) (with_count s Ruc)) limited

  abbrev linked : Outcome
  linked = cond (can_receive s.registers) sized (gives (Dropped Off) s)

  heard-comes : IsHeard s → arrived s frame ≡ sized
  heard-comes h =
      cond-true s.link linked (gives (Dropped LinkDown) s) h.link
      ∙ cond-true (can_receive s.registers) sized (gives (Dropped Off) s)
      (has-one 0 (word_of s.registers Rxctrl 0) h.on)

  long-comes : IsHeard s → 60 ≤ length frame → arrived s frame ≡ limited
  long-comes h enough =
      heard-comes h
      ∙ cond-false (nat_lt (length frame) 60) (gives (Dropped Short) (with_count s Ruc)) limited
      (le-ltb (length frame) 60 enough)

  taken-comes : IsSound s → IsTaken s frame → arrived s frame ≡ sorted_in s frame (sorted s.registers frame)
  taken-comes sound t =
      let same = limit-is s.registers sound.registers t.within.limit t.within.is in
      long-comes t.heard t.enough
      ∙ cond-false (nat_lt (frame_limit s.registers) (length frame)) (gives (Dropped Long) (with_count s Roc))
      (sorted_in s frame (sorted s.registers frame))
      (le-ltb (frame_limit s.registers) (length frame) (subst (λ n. length frame ≤ n) same t.within.within))

  passed-comes : IsSound s → IsPassed s frame → (chosen : Result ℕ Unwanted) → chosen_pool s.registers frame ≡ chosen
      → arrived s frame ≡ sorted_in s frame (pool_target s.registers frame chosen)
  passed-comes sound p chosen is =
      taken-comes sound p.taken
      ∙ ap (sorted_in s frame)
      (sorted-passed s.registers frame p.let_by ∙ ap (pool_target s.registers frame) is)

  -- Each reason has its reply.

  parted_welcome : IsSound s → IsPassed s frame → bit 0 (word_of s.registers VtCtl 0) ≡ 1
      → (bit 0 (word_of s.registers VtCtl 0) ≡ 0) ⊎ HasPoolOn s.registers frame
      → (t : Target) × (arrived s frame ≡ joined s frame t)
  parted_welcome sound p parts (inl whole) =
      absurd (both_ways (uses_pools s.registers) (has-zero 0 (word_of s.registers VtCtl 0) whole)
      (has-one 0 (word_of s.registers VtCtl 0) parts))
  parted_welcome sound p parts (inr h) =
      (target_of s.registers frame h.pool, passed-comes sound p (Ok h.pool) (chosen-on s.registers frame parts h))

  welcome-comes : IsSound s → IsWelcome s frame → (t : Target) × (arrived s frame ≡ joined s frame t)
  welcome-comes sound w =
      elim (cases_Bool (uses_pools s.registers)) as (λ _. (t : Target) × (arrived s frame ≡ joined s frame t)) [
        | inl parts ↦ parted_welcome sound w.passed (one-has 0 (word_of s.registers VtCtl 0) parts) w.pool
        | inr whole ↦
            let off = zero-has 0 (word_of s.registers VtCtl 0) whole in
            (target_of s.registers frame 0, passed-comes sound w.passed (Ok 0) (chosen-whole s.registers frame off))
      ]

  abbrev let_in_now : Target → Outcome
  let_in_now t = gives Done (record (with_count s Gprc) { waiting = s.waiting ++ let_in frame t ∷ [] })

  full-joined : (t : Target) → s.fifo ≤ length s.waiting → (joined s frame t).reply ≡ Dropped Full
  full-joined t full =
      ap (λ b. (cond b (let_in_now t) (gives (Dropped Full) (missed s))).reply) (le-ltb (length s.waiting) s.fifo full)

  room-joined : (t : Target) → length s.waiting < s.fifo → (joined s frame t).reply ≡ Done
  room-joined t room =
      ap (λ b. (cond b (let_in_now t) (gives (Dropped Full) (missed s))).reply) (lt-ltb (length s.waiting) s.fifo room)

  dropped_so : IsSound s → (why : Why) → IsDroppedFor s frame why → (arrived s frame).reply ≡ Dropped why
  dropped_so sound LinkDown is =
      ap (λ (o : Outcome). o.reply) (cond-false s.link linked (gives (Dropped LinkDown) s) is)
  dropped_so sound Off is =
      ap (λ (o : Outcome). o.reply)
      (cond-true s.link linked (gives (Dropped LinkDown) s) is.0
      ∙ cond-false (can_receive s.registers) sized (gives (Dropped Off) s)
      (has-zero 0 (word_of s.registers Rxctrl 0) is.1))
  dropped_so sound Short is =
      ap (λ (o : Outcome). o.reply)
      (heard-comes is.0
      ∙ cond-true (nat_lt (length frame) 60) (gives (Dropped Short) (with_count s Ruc)) limited
      (lt-ltb (length frame) 60 is.1))
  dropped_so sound Long is =
      let same = limit-is s.registers sound.registers is.2.limit is.2.is in
      ap (λ (o : Outcome). o.reply)
      (long-comes is.0 is.1
      ∙ cond-true (nat_lt (frame_limit s.registers) (length frame)) (gives (Dropped Long) (with_count s Roc))
      (sorted_in s frame (sorted s.registers frame))
      (lt-ltb (frame_limit s.registers) (length frame) (subst (λ n. n < length frame) same is.2.above)))
  dropped_so sound Filter is =
      ap (λ (o : Outcome). o.reply)
      (taken-comes sound is.0 ∙ ap (sorted_in s frame) (sorted-filtered s.registers frame is.1))
  dropped_so sound NoPool is =
      ap (λ (o : Outcome). o.reply)
      (passed-comes sound is.0 (Err unwanted.NoPool) (chosen-none s.registers frame is.1 is.2))
  dropped_so sound PoolOff is =
      ap (λ (o : Outcome). o.reply)
      (passed-comes sound is.0 (Err unwanted.PoolOff) (chosen-off s.registers frame is.1 is.2))
  dropped_so sound Full is =
      let there = welcome-comes sound is.0 in
      ap (λ (o : Outcome). o.reply) there.1 ∙ full-joined there.0 is.1
  dropped_so sound other is = absurd is

  answered_so : IsSound s → (reply : Reply Block) → IsAnswered s frame reply → (arrived s frame).reply ≡ reply
  answered_so sound Done is =
      let there = welcome-comes sound is.0 in
      ap (λ (o : Outcome). o.reply) there.1 ∙ room-joined there.0 is.1
  answered_so sound (Dropped why) is = dropped_so sound why is
  answered_so sound other is = absurd is

  -- Each reply has its reason.

  abbrev So : Outcome → Type 0
  So o = IsAnswered s frame o.reply

  joined_so : IsWelcome s frame → (t : Target) → So (joined s frame t)
  joined_so w t =
      cond_both (nat_lt (length s.waiting) s.fifo) (let_in_now t) (gives (Dropped Full) (missed s)) So
      (λ room. (w, ltb-true (length s.waiting) s.fifo room)) (λ full. (w, ltb-false (length s.waiting) s.fifo full))

  passed_so : IsPassed s frame → So (sorted_in s frame (pool_target s.registers frame (chosen_pool s.registers frame)))
  passed_so p =
      chosen_cases (λ c. So (sorted_in s frame (pool_target s.registers frame c))) s.registers frame
      (λ whole. joined_so (record { passed = p; pool = inl whole }) (target_of s.registers frame 0))
      (λ parts. record {
        none = λ no. (p, parts, no);
        off = λ off. (p, parts, off);
        on = λ pool on. joined_so (record { passed = p; pool = inr on }) (target_of s.registers frame pool);
      })

  sorted_so : IsTaken s frame → So (sorted_in s frame (sorted s.registers frame))
  unfolding sorted
  sorted_so t =
      cond_both (passes s.registers frame) (pool_target s.registers frame (chosen_pool s.registers frame))
      (Err unwanted.Filter) (λ a. So (sorted_in s frame a))
      (λ let_by. passed_so (record { taken = t; let_by = let_by })) (λ no. (t, no))

  limited_so : IsSound s → IsHeard s → 60 ≤ length frame → So limited
  limited_so sound h enough =
      let limit = frame_limit s.registers in
      let is = is-limit s.registers sound.registers in
      cond_both (nat_lt limit (length frame)) (gives (Dropped Long) (with_count s Roc))
      (sorted_in s frame (sorted s.registers frame)) So
      (λ long. (h, enough, record { limit = limit; is = is; above = ltb-true limit (length frame) long }))
      (λ fits. sorted_so (record {
        heard = h;
        enough = enough;
        within = record { limit = limit; is = is; within = ltb-false limit (length frame) fits };
      }))

  sized_so : IsSound s → IsHeard s → So sized
  sized_so sound h =
      cond_both (nat_lt (length frame) 60) (gives (Dropped Short) (with_count s Ruc)) limited So
      (λ short. (h, ltb-true (length frame) 60 short))
      (λ enough. limited_so sound h (ltb-false (length frame) 60 enough))

  arrived_so : IsSound s → So (arrived s frame)
  arrived_so sound =
      cond_both s.link linked (gives (Dropped LinkDown) s) So
      (λ up. cond_both (can_receive s.registers) sized (gives (Dropped Off) s) So
      (λ on. sized_so sound (record { link = up; on = one-has 0 (word_of s.registers Rxctrl 0) on }))
      (λ off. (up, zero-has 0 (word_of s.registers Rxctrl 0) off)))
      (λ down. down)

pub arriving_order : ArrivingHasAnOrder
unfolding step_of
arriving_order s sound frame reply = (
  λ e. subst (IsAnswered s frame) e (arrived_so s frame sound),
  λ is. answered_so s frame sound reply is,
)
