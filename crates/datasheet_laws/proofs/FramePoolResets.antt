-- Which frames and staged bytes a pool reset drops.
use Rattle.std.proofs.Common.{◌≡◌, ◌/◌, ◌%◌, ◌==◌, ◌&&◌, ℕ, Bool, true, false, cond, not, nat_lt, Some, None, filter, refl, ap, sym, subst, ◌∙◌, arith}
use Rattle.std.proofs.lemmas.Bool.{cond-true, cond-false, cond_both, eqb-true, eqb-false, le-ltb}
use Rattle.nic_device.specs.RegTable.Rows.{row_of}
use Rattle.nic_device.specs.RegisterFile.Access.{asks_reset, asks_pool_reset}
use Rattle.nic_device.specs.VfMap.Owner.{is_pool, has_queue}
use Rattle.nic_device.specs.Access.{named_written, state_written}
use Rattle.nic_device.specs.Eeprom.{reset}
use Rattle.nic_device.specs.PoolReset.{with_pool_reset, written_below_reset}
use Rattle.nic_device.proofs.PoolReset.{none_staged_of, pool_reset_stays}
use Rattle.datasheet_laws.specs.FramePrelude.{GcrExt, Mode, Off, Pools16, Pools32, Pools64, Pvfctrl, State, mode_in, mode_of}
use Rattle.datasheet_laws.specs.FramePrelude.{place, step_of, word_of}
use Rattle.datasheet_laws.specs.Bits.{field}
use Rattle.datasheet_laws.specs.FramePoolResets.{is_queue_of, has, DropsItsFrames, PoolResetsDropFrames}
use Rattle.datasheet_laws.proofs.FrameBits.{has-one}

-- A pool's queues, in terms of the mode and in terms of the bits.

pooled : (b : Bool) (pool v : ℕ) → is_pool v (cond b (Some pool) None) ≡ (b && pool == v)
pooled true pool v = refl
pooled false pool v = refl

and-false : (b : Bool) → (b && false) ≡ false
and-false true = refl
and-false false = refl

none-pooled : (b : Bool) (pool v : ℕ) → b ≡ false → is_pool v (cond b (Some pool) None) ≡ false
none-pooled b pool v past = ap (λ few. is_pool v (cond few (Some pool) None)) past

same-queues : (w v queue : ℕ) → has_queue (mode_of w) v queue ≡ is_queue_of (field 1 0 w) v queue
same-queues w v queue =
    let In : Mode → Type 0 = λ m. has_queue m v queue ≡ is_queue_of (field 1 0 w) v queue in
    let few = nat_lt queue 128 in
    let at : (n : ℕ) → field 1 0 w ≡ n → is_queue_of n v queue ≡ is_queue_of (field 1 0 w) v queue =
    λ n is. sym (ap (λ parts. is_queue_of parts v queue) is) in
    cond_both (w % 4 == 0) Off (cond (w % 4 == 1) Pools16 (cond (w % 4 == 2) Pools32 Pools64)) In
    (λ is. let zero = eqb-true (w % 4) 0 is in
    none-pooled (nat_lt queue 0) (queue / 0) v (le-ltb queue 0 (omega arith)) ∙ sym (and-false few)
    ∙ at 0 (omega arith))
    (λ not_off.
    cond_both (w % 4 == 1) Pools16 (cond (w % 4 == 2) Pools32 Pools64) In
    (λ is. let one = eqb-true (w % 4) 1 is in pooled few (queue / 8) v ∙ at 1 (omega arith))
    (λ not_16.
    cond_both (w % 4 == 2) Pools32 Pools64 In
    (λ is. let two = eqb-true (w % 4) 2 is in pooled few (queue / 4) v ∙ at 2 (omega arith))
    (λ not_32.
    let a = eqb-false (w % 4) 0 not_off in
    let b = eqb-false (w % 4) 1 not_16 in
    let c = eqb-false (w % 4) 2 not_32 in
    pooled few (queue / 2) v ∙ at 3 (omega arith))))

-- The reset.

asked-pool : (s : State) (view word v : ℕ) → asks_pool_reset (row_of Pvfctrl).kind word ≡ true
    → state_written s (place Pvfctrl v) view word ≡ with_pool_reset s v
asked-pool s view word v asks =
    cond-false (asks_reset (row_of Pvfctrl).kind word) (reset s) (written_below_reset s (place Pvfctrl v) view word)
    refl
    ∙ cond-true (asks_pool_reset (row_of Pvfctrl).kind word) (with_pool_reset s v) _ asks

drops-frames : (s : State) (v : ℕ) → DropsItsFrames s v (with_pool_reset s v)
drops-frames s v =
    let mode = mode_in s.registers in
    let same : (queue : ℕ) → has_queue mode v queue ≡ has s.registers v queue =
    λ queue. same-queues (word_of s.registers GcrExt 0) v queue in
    record {
      waiting = λ k. filter (λ w. not (same w.queue k)) s.waiting;
      own = λ queue is. none_staged_of mode v s.staged queue (same queue ∙ is);
      others = λ queue no. (pool_reset_stays s v).staged queue (same queue ∙ no);
      memory = refl;
      out = refl;
      link = refl;
    }

pub resets_drop : PoolResetsDropFrames
unfolding step_of
resets_drop s port number view word v found asks =
    let there = ap (λ m. (named_written s m word).state) found ∙ asked-pool s view word v (has-one 26 word asks) in
    subst (DropsItsFrames s v) (sym there) (drops-frames s v)
