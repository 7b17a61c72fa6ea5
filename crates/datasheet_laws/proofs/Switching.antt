-- Why an enable step gets its reply.
use Rattle.std.proofs.Common.{◌≡◌, ◌≢◌, ◌<◌, ◌≤◌, ◌||◌, ℕ, Bool, true, false, cond, nat_lt, refl, ap, ◌∙◌}
use Rattle.std.proofs.lemmas.Bool.{cond-true, cond-false, cond_both, both_ways, or_parts, or_from, false_from_ne_true, true_from_ne_false, ltb-true, ltb-false, lt-ltb, le-ltb}
use Rattle.nic_device.specs.RegisterFile.Queue.{is_on, enable_row}
use Rattle.nic_device.specs.Switching.{queue_switched, side_switched}
use Rattle.datasheet_laws.specs.FramePrelude.{Ctrl, Dir, Done, Idle, NoQueue, Outcome, Registers, Rx, State, Tx, beq, gives}
use Rattle.datasheet_laws.specs.FramePrelude.{is_stopped, is_wanted, step_of, word_of}
use Rattle.datasheet_laws.specs.Switching.{enable_word, enable_bit, wanted_bit, IsToSwitch, SwitchingHasItsReason}
use Rattle.datasheet_laws.proofs.FrameBits.{has-zero, one-has, zero-has}

-- A side is enabled if bit 25 of its enable word is 1.

pub enable-is : (r : Registers) (dir : Dir) (queue : ℕ) → word_of r (enable_row dir) queue ≡ enable_word r dir queue
enable-is r Rx queue = refl
enable-is r Tx queue = refl

on-one : (r : Registers) (dir : Dir) (queue : ℕ) → is_on r dir queue ≡ true → enable_bit r dir queue ≡ 1
on-one r Rx queue on = one-has 25 (enable_word r Rx queue) on
on-one r Tx queue on = one-has 25 (enable_word r Tx queue) on

off-zero : (r : Registers) (dir : Dir) (queue : ℕ) → is_on r dir queue ≡ false → enable_bit r dir queue ≡ 0
off-zero r Rx queue off = zero-has 25 (enable_word r Rx queue) off
off-zero r Tx queue off = zero-has 25 (enable_word r Tx queue) off

-- The bit and its requested value, as numbers and as tests.
same-bit : (wanted on : Bool) (n : ℕ) → (on ≡ true → n ≡ 1) → (on ≡ false → n ≡ 0) → beq wanted on ≡ true
    → n ≡ cond wanted 1 0
same-bit true true n one zero same = one refl
same-bit true false n one zero same = cc
same-bit false true n one zero same = cc
same-bit false false n one zero same = zero refl

other-bit : (wanted on : Bool) (n : ℕ) → (on ≡ true → n ≡ 1) → (on ≡ false → n ≡ 0) → beq wanted on ≡ false
    → n ≢ cond wanted 1 0
other-bit true true n one zero other e = cc
other-bit true false n one zero other e = let is = zero refl in cc
other-bit false true n one zero other e = let is = one refl in cc
other-bit false false n one zero other e = cc

module _ (s : State) (dir : Dir) (queue : ℕ) where
  abbrev same : Bool
  same = beq (is_wanted s.registers dir queue) (is_on s.registers dir queue)

  is-same : same ≡ true → enable_bit s.registers dir queue ≡ wanted_bit s.registers dir queue
  is-same e =
      same-bit (is_wanted s.registers dir queue) (is_on s.registers dir queue) (enable_bit s.registers dir queue)
      (on-one s.registers dir queue) (off-zero s.registers dir queue) e

  is-other : same ≡ false → enable_bit s.registers dir queue ≢ wanted_bit s.registers dir queue
  is-other e =
      other-bit (is_wanted s.registers dir queue) (is_on s.registers dir queue) (enable_bit s.registers dir queue)
      (on-one s.registers dir queue) (off-zero s.registers dir queue) e

  abbrev rests : Bool
  rests = is_stopped s.registers || same

  to-switch : rests ≡ false → IsToSwitch s dir queue
  to-switch e =
      let parts = or_parts (is_stopped s.registers) same e in
      record { runs = zero-has 2 (word_of s.registers Ctrl 0) parts.0; differs = is-other parts.1 }

  switches : IsToSwitch s dir queue → rests ≡ false
  switches t =
      or_from (is_stopped s.registers) same (has-zero 2 (word_of s.registers Ctrl 0) t.runs)
      (false_from_ne_true same (λ e. t.differs (is-same e)))

  abbrev below : Outcome
  below = cond rests (gives Idle s) (gives Done (side_switched s dir queue))

  past-comes : 128 ≤ queue → queue_switched s dir queue ≡ gives NoQueue s
  past-comes past = cond-false (nat_lt queue 128) below (gives NoQueue s) (le-ltb queue 128 past)

  pub done-comes : queue < 128 → IsToSwitch s dir queue
      → queue_switched s dir queue ≡ gives Done (side_switched s dir queue)
  done-comes small t =
      cond-true (nat_lt queue 128) below (gives NoQueue s) (lt-ltb queue 128 small)
      ∙ cond-false rests (gives Idle s) (gives Done (side_switched s dir queue)) (switches t)

  idle-comes : queue < 128 → ¬ IsToSwitch s dir queue → queue_switched s dir queue ≡ gives Idle s
  idle-comes small still =
      cond-true (nat_lt queue 128) below (gives NoQueue s) (lt-ltb queue 128 small)
      ∙ cond-true rests (gives Idle s) (gives Done (side_switched s dir queue))
      (true_from_ne_false rests (λ e. still (to-switch e)))

  pub record Reported (o : Outcome) : Type 0 where
    pub none : o.reply ≡ NoQueue → 128 ≤ queue
    pub done : o.reply ≡ Done → (queue < 128) × IsToSwitch s dir queue
    pub idle : o.reply ≡ Idle → (queue < 128) × ¬ IsToSwitch s dir queue

  pub reported : Reported (queue_switched s dir queue)
  reported =
      cond_both (nat_lt queue 128) below (gives NoQueue s) Reported
      (λ few. let small = ltb-true queue 128 few in
      cond_both rests (gives Idle s) (gives Done (side_switched s dir queue)) Reported
      (λ is. record {
        none = λ e. cc;
        done = λ e. cc;
        idle = λ e. (small, λ t. both_ways rests (switches t) is);
      })
      (λ no. record { none = λ e. cc; done = λ e. (small, to-switch no); idle = λ e. cc }))
      (λ past. record { none = λ e. ltb-false queue 128 past; done = λ e. cc; idle = λ e. cc })

pub switching_reasons : SwitchingHasItsReason
unfolding step_of
switching_reasons s dir queue = record {
  none = ((reported s dir queue).none, λ past. ap (λ (o : Outcome). o.reply) (past-comes s dir queue past));
  done = ((reported s dir queue).done, λ is. ap (λ (o : Outcome). o.reply) (done-comes s dir queue is.0 is.1));
  idle = ((reported s dir queue).idle, λ is. ap (λ (o : Outcome). o.reply) (idle-comes s dir queue is.0 is.1));
  none_changes = past-comes s dir queue;
  idle_changes = idle-comes s dir queue;
}
