-- Why a transmit step is idle.
use Rattle.std.proofs.Common.{◌≡◌, ◌<◌, ◌≤◌, ◌⊎◌, ◌/◌, ◌%◌, ◌==◌, ◌||◌, ℕ, Bool, true, cond, not, List, Option, Some, None, Ok, Err, nat_lt, inl, inr, refl, ap, sym, ◌∙◌, arith}
use Rattle.std.specs.Prelude.{Result}
use Rattle.std.proofs.lemmas.Bool.{cond-true, cond-false, cond_both, and_parts, and_from, or_cases, or_left, or_right, not-true, ltb-true, ltb-false, lt-ltb, le-ltb, eqb-true, eqb-false}
use Rattle.nic_device.specs.RegTable.declared.rows.RowId.TheVariants.{Ctrl, Dmatxctl, Txdctl, VtCtl, GcrExt, Vfte}
use Rattle.nic_device.specs.RegisterFile.Pools.{mode_in, is_pool_on}
use Rattle.nic_device.specs.RegisterFile.Settings.{is_stopped, can_transmit}
use Rattle.nic_device.specs.RegisterLaws.Sides.{TransmitQueue, transmit_queue_of}
use Rattle.nic_device.specs.RxFilter.Pools.{uses_pools}
use Rattle.nic_device.specs.VfMap.Pools.{mode_of, pool_of}
use Rattle.nic_device.specs.Transmit.{transmitted, queue_sent, is_silent, is_muted, is_muted_pool, slot_fetched, slot_done, fetched_reply}
use Rattle.datasheet_laws.specs.FramePrelude.{Fetched, Idle, Memory, Mode, NoQueue, Off, Outcome, Pools16, Pools32, Pools64}
use Rattle.datasheet_laws.specs.FramePrelude.{Registers, RingFault, State, Tx, gives, is_empty, step_of, word_of}
use Rattle.datasheet_laws.specs.Bits.{bit, field}
use Rattle.datasheet_laws.specs.Transmitting.{IsInPool, IsMuted, IsSilent, SilenceHasItsReasons}
use Rattle.datasheet_laws.specs.Transmitting.IsSilent.{stopped, down, disabled, off, muted, slotless}
use Rattle.datasheet_laws.proofs.FrameBits.{has-one, has-zero, one-has, zero-has}
use Rattle.datasheet_laws.proofs.Slots.{transmit-slotless, transmit-empty}

-- A queue's pool.

mode-1 : (w : ℕ) → field 1 0 w ≡ 1 → mode_of w ≡ Pools16
mode-1 w e =
    let low : w % 4 ≡ 1 = omega arith in
    ap (λ n. cond (n == 0) Off (cond (n == 1) Pools16 (cond (n == 2) Pools32 Pools64))) low

mode-2 : (w : ℕ) → field 1 0 w ≡ 2 → mode_of w ≡ Pools32
mode-2 w e =
    let low : w % 4 ≡ 2 = omega arith in
    ap (λ n. cond (n == 0) Off (cond (n == 1) Pools16 (cond (n == 2) Pools32 Pools64))) low

mode-3 : (w : ℕ) → field 1 0 w ≡ 3 → mode_of w ≡ Pools64
mode-3 w e =
    let low : w % 4 ≡ 3 = omega arith in
    ap (λ n. cond (n == 0) Off (cond (n == 1) Pools16 (cond (n == 2) Pools32 Pools64))) low

pool-is : (r : Registers) (queue pool : ℕ) → queue < 128 → IsInPool r queue pool
    → pool_of (mode_in r) queue ≡ Some pool
pool-is r queue pool small (inl e) =
    ap (λ m. pool_of m queue) (mode-1 (word_of r GcrExt 0) e.0)
    ∙ cond-true (nat_lt queue 128) (Some (queue / 8)) None (lt-ltb queue 128 small)
    ∙ ap (λ (n : ℕ). Some n) (sym e.1)
pool-is r queue pool small (inr (inl e)) =
    ap (λ m. pool_of m queue) (mode-2 (word_of r GcrExt 0) e.0)
    ∙ cond-true (nat_lt queue 128) (Some (queue / 4)) None (lt-ltb queue 128 small)
    ∙ ap (λ (n : ℕ). Some n) (sym e.1)
pool-is r queue pool small (inr (inr e)) =
    ap (λ m. pool_of m queue) (mode-3 (word_of r GcrExt 0) e.0)
    ∙ cond-true (nat_lt queue 128) (Some (queue / 2)) None (lt-ltb queue 128 small)
    ∙ ap (λ (n : ℕ). Some n) (sym e.1)

muted-is : (r : Registers) (queue : ℕ) → queue < 128 → IsMuted r queue → is_muted r queue ≡ true
unfolding is_muted
muted-is r queue small m =
    and_from (uses_pools r) (is_muted_pool r (pool_of (mode_in r) queue)) (has-one 0 (word_of r VtCtl 0) m.parted)
    (ap (is_muted_pool r) (pool-is r queue m.pool small m.member)
    ∙ ap not (has-zero (m.pool % 32) (word_of r Vfte (m.pool / 32)) m.off))

module _ (r : Registers) (queue : ℕ) (parted : bit 0 (word_of r VtCtl 0) ≡ 1) where
  abbrev Mutes : Option ℕ → Type 0
  Mutes o = is_muted_pool r o ≡ true → IsMuted r queue

  mutes_in : (pool : ℕ) → IsInPool r queue pool → Mutes (Some pool)
  mutes_in pool member is = record {
    parted = parted;
    pool = pool;
    member = member;
    off = zero-has (pool % 32) (word_of r Vfte (pool / 32)) (not-true (is_pool_on r Tx pool) is);
  }

  mutes_none : (count each : ℕ) → count ≡ 0 → Mutes (cond (nat_lt queue count) (Some (queue / each)) None)
  mutes_none count each e =
      cond_both (nat_lt queue count) (Some (queue / each)) None Mutes
      (λ some. let past = ltb-true queue count some in absurd (omega arith)) (λ none is. cc)

  mutes : Mutes (pool_of (mode_in r) queue)
  mutes =
      let w = word_of r GcrExt 0 in
      let In : Mode → Type 0 = λ m. Mutes (pool_of m queue) in
      cond_both (w % 4 == 0) Off (cond (w % 4 == 1) Pools16 (cond (w % 4 == 2) Pools32 Pools64)) In
      (λ is. mutes_none 0 0 refl) (λ not_off.
      cond_both (w % 4 == 1) Pools16 (cond (w % 4 == 2) Pools32 Pools64) In
      (λ is. let one = eqb-true (w % 4) 1 is in
      cond_both (nat_lt queue 128) (Some (queue / 8)) None Mutes
      (λ small. mutes_in (queue / 8) (inl (omega arith, refl))) (λ past is. cc))
      (λ not_16.
      cond_both (w % 4 == 2) Pools32 Pools64 In
      (λ is. let two = eqb-true (w % 4) 2 is in
      cond_both (nat_lt queue 128) (Some (queue / 4)) None Mutes
      (λ small. mutes_in (queue / 4) (inr (inl (omega arith, refl)))) (λ past is. cc))
      (λ not_32.
      let a = eqb-false (w % 4) 0 not_off in
      let b = eqb-false (w % 4) 1 not_16 in
      let c = eqb-false (w % 4) 2 not_32 in
      cond_both (nat_lt queue 128) (Some (queue / 2)) None Mutes
      (λ small. mutes_in (queue / 2) (inr (inr (omega arith, refl)))) (λ past is. cc))))

is-muted : (r : Registers) (queue : ℕ) → is_muted r queue ≡ true → IsMuted r queue
unfolding is_muted
is-muted r queue e =
    let parts = and_parts (uses_pools r) (is_muted_pool r (pool_of (mode_in r) queue)) e in
    mutes r queue (one-has 0 (word_of r VtCtl 0) parts.0) parts.1

-- Each reason to be idle, and the test for it.

module _ (s : State) (queue : ℕ) where
  abbrev side : TransmitQueue
  side = transmit_queue_of s.registers queue

  abbrev still : Bool
  still = is_stopped s.registers || not s.link

  abbrev closed : Bool
  closed = still || not (can_transmit s.registers)

  abbrev shut : Bool
  shut = closed || not side.on

  abbrev mute : Bool
  mute = shut || is_muted s.registers queue

  silent : queue < 128 → IsSilent s queue → is_silent s queue side ≡ true
  silent small (stopped is) =
      or_left mute (is_empty side.ring) (or_left shut (is_muted s.registers queue) (or_left closed (not side.on)
      (or_left still (not (can_transmit s.registers)) (or_left (is_stopped s.registers) (not s.link)
      (has-one 2 (word_of s.registers Ctrl 0) is)))))
  silent small (down is) =
      or_left mute (is_empty side.ring) (or_left shut (is_muted s.registers queue) (or_left closed (not side.on)
      (or_left still (not (can_transmit s.registers)) (or_right (is_stopped s.registers) (not s.link) (ap not is)))))
  silent small (disabled is) =
      or_left mute (is_empty side.ring) (or_left shut (is_muted s.registers queue) (or_left closed (not side.on)
      (or_right still (not (can_transmit s.registers)) (ap not (has-zero 0 (word_of s.registers Dmatxctl 0) is)))))
  silent small (off is) =
      or_left mute (is_empty side.ring) (or_left shut (is_muted s.registers queue) (or_right closed (not side.on)
      (ap not (has-zero 25 (word_of s.registers Txdctl queue) is))))
  silent small (muted is) =
      or_left mute (is_empty side.ring) (or_right shut (is_muted s.registers queue)
      (muted-is s.registers queue small is))
  silent small (slotless is) = or_right mute (is_empty side.ring) (transmit-empty s.registers queue is)

  still_so : (is_stopped s.registers ≡ true) ⊎ (not s.link ≡ true) → IsSilent s queue
  still_so (inl is) = stopped (one-has 2 (word_of s.registers Ctrl 0) is)
  still_so (inr is) = down (not-true s.link is)

  closed_so : (still ≡ true) ⊎ (not (can_transmit s.registers) ≡ true) → IsSilent s queue
  closed_so (inl is) = still_so (or_cases (is_stopped s.registers) (not s.link) is)
  closed_so (inr is) = disabled (zero-has 0 (word_of s.registers Dmatxctl 0) (not-true (can_transmit s.registers) is))

  shut_so : (closed ≡ true) ⊎ (not side.on ≡ true) → IsSilent s queue
  shut_so (inl is) = closed_so (or_cases still (not (can_transmit s.registers)) is)
  shut_so (inr is) = off (zero-has 25 (word_of s.registers Txdctl queue) (not-true side.on is))

  mute_so : (shut ≡ true) ⊎ (is_muted s.registers queue ≡ true) → IsSilent s queue
  mute_so (inl is) = shut_so (or_cases closed (not side.on) is)
  mute_so (inr is) = muted (is-muted s.registers queue is)

  silent_so : (mute ≡ true) ⊎ (is_empty side.ring ≡ true) → IsSilent s queue
  silent_so (inl is) = mute_so (or_cases shut (is_muted s.registers queue) is)
  silent_so (inr is) = slotless (transmit-slotless s.registers queue is)

  -- The reply.

  past-comes : 128 ≤ queue → transmitted s queue ≡ gives NoQueue s
  past-comes past =
      cond-false (nat_lt queue 128) (queue_sent s queue side) (gives NoQueue s) (le-ltb queue 128 past)

  silent-comes : queue < 128 → IsSilent s queue → transmitted s queue ≡ gives Idle s
  silent-comes small is =
      cond-true (nat_lt queue 128) (queue_sent s queue side) (gives NoQueue s) (lt-ltb queue 128 small)
      ∙ cond-true (is_silent s queue side) (gives Idle s) (slot_fetched s queue side) (silent small is)

  pub record Reported (o : Outcome) : Type 0 where
    pub none : o.reply ≡ NoQueue → 128 ≤ queue
    pub idle : o.reply ≡ Idle → (queue < 128) × IsSilent s queue

  fetched_frame : (f : Fetched) (frame : Option (List ℕ)) (t : State) → Reported (gives (fetched_reply queue f frame) t)
  fetched_frame f (Some frame) t = record { none = λ e. cc; idle = λ e. cc }
  fetched_frame f None t = record { none = λ e. cc; idle = λ e. cc }

  fetched_reported : (answer : Result Fetched RingFault) (memory : Memory) (staged : List ℕ)
      → Reported (slot_done s queue answer memory staged)
  fetched_reported (Ok f) memory staged = fetched_frame f f.frame _
  fetched_reported (Err fault) memory staged = record { none = λ e. cc; idle = λ e. cc }

  reported : Reported (transmitted s queue)
  reported =
      cond_both (nat_lt queue 128) (queue_sent s queue side) (gives NoQueue s) Reported
      (λ few. cond_both (is_silent s queue side) (gives Idle s) (slot_fetched s queue side) Reported
      (λ is. record {
        none = λ e. cc;
        idle = λ e. (ltb-true queue 128 few, silent_so (or_cases mute (is_empty side.ring) is));
      })
      (λ loud. fetched_reported _ _ _))
      (λ past. record { none = λ e. ltb-false queue 128 past; idle = λ e. cc })

pub silence_reasons : SilenceHasItsReasons
unfolding step_of
silence_reasons s queue = record {
  none = ((reported s queue).none, λ past. ap (λ (o : Outcome). o.reply) (past-comes s queue past));
  idle = ((reported s queue).idle, λ is. ap (λ (o : Outcome). o.reply) (silent-comes s queue is.0 is.1));
  none_changes = past-comes s queue;
  idle_changes = silent-comes s queue;
}
