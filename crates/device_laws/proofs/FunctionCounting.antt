-- The words of the virtual functions' counters after each part of a step.
use Rattle.std.proofs.Common.{◌≡◌, ◌≢◌, ◌+◌, ◌%◌, ◌^◌, ◌<◌, ◌≤◌, ℕ, false, List, Option, Some, None, refl, ap, sym, ◌∙◌, arith}
use Rattle.std.specs.Prelude.{◌&&◌, IfSome, nat_lt}
use Rattle.nic_device.specs.RegTable.declared.bank.Bank.TheVariants as bank
use Rattle.nic_device.specs.RegTable.declared.bank.Bank.TheVariants.{Counters, VfCounters}
use Rattle.nic_device.specs.IntrUnit.declared.group.Group.TheVariants as group
use Rattle.nic_device.specs.RegisterFile.declared.owner.Owner.TheVariants as owner
use Rattle.nic_device.proofs.RegisterLaws.Covers.{fails, covers-pending}
use Rattle.nic_device.proofs.RegisterLaws.Within.{within-causes_raised, within-counted, within-with_head, within-shut}
use Rattle.nic_device.specs.Interrupt.{function_in, function_of_queue, function_counted, device_raised, raised_by, fault_cause}
use Rattle.device_laws.specs.Prelude.{Dir, Fetched, Filled, GcrExt, Gptc, Group, HasShape, IsSound, LacksWord, Owner}
use Rattle.device_laws.specs.Prelude.{Place, Qprc, Qptc, Rdh, Registers, RowId, Rx, State, Tdh, Tx, Vfgprc, Vfgptc}
use Rattle.device_laws.specs.Prelude.{causes_raised, counted, counter_of, fetched_reply, frame_counted, is_owner}
use Rattle.device_laws.specs.Prelude.{is_place, mode_of, owner_in, owner_of, pending, piece_done, place, pool_of}
use Rattle.device_laws.specs.Prelude.{row_of, shut, slot_counted, slot_reported, with_head, word_at}
use Rattle.device_laws.proofs.Prelude.{HasShape-put, cond_both, either_way, is_place-other, ltb-true, word_stands}
use Rattle.device_laws.specs.FunctionCounting.{is_counter_of, function_sent, with_one_round}
use Rattle.device_laws.proofs.Counting.{changed_there, either_end}

-- A queue's function is below 64.
function_few : (vfs : ℕ) (o : Option ℕ) → vfs ≤ 63 → IfSome (function_in vfs o) (λ v. v < 64)
function_few vfs None few = tt
function_few vfs (Some pool) few =
    cond_both (nat_lt pool vfs) (Some pool) None (λ o. IfSome o (λ v. v < 64))
    (λ both. let below = ltb-true pool vfs both in omega arith) (λ none. tt)

few : (r : Registers) (vfs queue : ℕ) → vfs ≤ 63 → IfSome (function_of_queue r vfs queue) (λ v. v < 64)
unfolding function_of_queue
few r vfs queue small = function_few vfs _ small

-- Moving a head doesn't change a queue's function.
same_function : (r : Registers) (vfs queue head : ℕ)
    → function_of_queue (with_head r Rx queue head) vfs queue ≡ function_of_queue r vfs queue
unfolding function_of_queue
same_function r vfs queue head =
    ap (λ w. function_in vfs (pool_of (mode_of w) queue))
    (word_stands (within-with_head r Rx queue head) (place GcrExt 0) (λ bit. refl))

-- The functions' counters belong to no other owner, and are at no place of another bank.
module _ (p : Place) (is : (row_of p.row).bank ≡ VfCounters) where
  pub not_owned : (o : Owner) → is_owner o (owner.VfCounters p.index) ≡ false → is_owner o (owner_of p) ≡ false
  not_owned o n = ap (λ b. is_owner o (owner_in b p.index)) is ∙ n

  pub not_there : (q : Place) → (row_of q.row).bank ≢ VfCounters → is_place q p ≡ false
  not_there q n = is_place-other q p (λ e. n (ap (λ (x : Place). (row_of x.row).bank) (sym e) ∙ is))

  pub not_pending : (g : Group) → LacksWord (pending g) p
  not_pending g bit = fails _ _ ((covers-pending g).bits p bit) (not_owned (owner.Group g) refl)

  raised_keeps : (r : Registers) (g : Group) (bits : ℕ) → word_at (causes_raised r g bits).words p ≡ word_at r.words p
  raised_keeps r g bits = word_stands (within-causes_raised r g bits) p (not_pending g)

  head_keeps : (r : Registers) (dir : Dir) (queue head : ℕ)
      → word_at (with_head r dir queue head).words p ≡ word_at r.words p
  head_keeps r Rx queue head =
      word_stands (within-with_head r Rx queue head) p
      (λ bit. not_there (place Rdh queue) (λ (e : bank.Receive ≡ VfCounters). cc))
  head_keeps r Tx queue head =
      word_stands (within-with_head r Tx queue head) p
      (λ bit. not_there (place Tdh queue) (λ (e : bank.Transmit ≡ VfCounters). cc))

  pub counted_keeps : (r : Registers) (row : RowId) (index : ℕ) → (row_of row).bank ≡ Counters
      → word_at (counted r row index).words p ≡ word_at r.words p
  counted_keeps r row index other =
      word_stands (within-counted r row index) p
      (λ bit. not_there (place row index) (λ e. let differ : Counters ≡ VfCounters = sym other ∙ e in cc))

  pub failed_keeps : (r : Registers) (dir : Dir) (queue : ℕ)
      → word_at (device_raised (shut r dir queue) fault_cause).words p ≡ word_at r.words p
  failed_keeps r dir queue =
      raised_keeps (shut r dir queue) group.Pf fault_cause
      ∙ word_stands (within-shut r dir queue) p (λ bit. not_owned (owner.Side dir queue) refl)

  -- A function's counter is incremented.
  function_there : (r : Registers) (o : Option ℕ) (row : RowId) → HasShape r → IfSome o (λ v. v < (row_of row).count)
      → word_at (function_counted r o row).words p ≡ with_one_round (is_counter_of o row p) (word_at r.words p)
  function_there r None row h small = refl
  function_there r (Some v) row h small = changed_there (λ w. (w + 1) % 2 ^ 32) r row v h small p

  -- A piece of a frame.
  pub piece_there : (r : Registers) (vfs queue : ℕ) (f : Filled) → HasShape r → vfs ≤ 63
      → word_at (piece_done r vfs queue f).words p
      ≡ with_one_round (f.end && is_counter_of (function_of_queue r vfs queue) Vfgprc p) (word_at r.words p)
  unfolding raised_by
  piece_there r vfs queue f h small =
      let moved = with_head r Rx queue f.head in
      let counter = counter_of moved Rx queue in
      let o = function_of_queue r vfs queue in
      let old = head_keeps r Rx queue f.head in
      either_end f.end (λ b t. word_at t.words p
      ≡ with_one_round (b && is_counter_of o Vfgprc p) (word_at r.words p))
      (raised_by (frame_counted moved vfs queue) vfs Rx queue) moved
      (raised_keeps (frame_counted moved vfs queue) _ _
      ∙ function_there (counted moved Qprc counter) (function_of_queue moved vfs queue) Vfgprc
      (HasShape-put moved (place Qprc counter) _ (HasShape-put r (place Rdh queue) f.head h))
      (few moved vfs queue small)
      ∙ (λ k. with_one_round (is_counter_of (same_function r vfs queue f.head k) Vfgprc p)
      ((counted_keeps moved Qprc counter refl ∙ old) k)))
      old

  -- A fetched slot.
  slot_there : (s : State) (queue : ℕ) (f : Fetched) (o : Option (List ℕ)) → IsSound s
      → word_at (slot_counted s.registers s.vfs queue f o).words p
      ≡ with_one_round (function_sent s (fetched_reply queue f o) p) (word_at s.registers.words p)
  slot_there s queue f (Some frame) h =
      let moved = with_head s.registers Tx queue f.head in
      let one = counted moved Gptc 0 in
      let counter = counter_of s.registers Tx queue in
      let v = function_of_queue s.registers s.vfs queue in
      function_there (counted one Qptc counter) v Vfgptc
      (HasShape-put one (place Qptc counter) _ (HasShape-put moved (place Gptc 0) _
      (HasShape-put s.registers (place Tdh queue) f.head h.registers.shape)))
      (few s.registers s.vfs queue h.vfs)
      ∙ ap (with_one_round (is_counter_of v Vfgptc p))
      (counted_keeps one Qptc counter refl ∙ counted_keeps moved Gptc 0 refl
      ∙ head_keeps s.registers Tx queue f.head)
  slot_there s queue f None h = head_keeps s.registers Tx queue f.head

  pub reported_there : (s : State) (queue : ℕ) (f : Fetched) → IsSound s
      → word_at (slot_reported s.registers s.vfs queue f).words p
      ≡ with_one_round (function_sent s (fetched_reply queue f f.frame) p) (word_at s.registers.words p)
  unfolding raised_by
  reported_there s queue f h =
      let t = slot_counted s.registers s.vfs queue f f.frame in
      either_way (λ (u : Registers). word_at u.words p
      ≡ with_one_round (function_sent s (fetched_reply queue f f.frame) p) (word_at s.registers.words p)) f.rs
      (raised_by t s.vfs Tx queue) t (raised_keeps t _ _ ∙ slot_there s queue f f.frame h)
      (slot_there s queue f f.frame h)
