-- Only pools whose bit of VFRE is 1 receive frames.
use Rattle.std.proofs.Common.{◌≡◌, ℕ, zero, suc, ◌≢◌, ◌⊎◌, ◌+◌, ◌*◌, ◌/◌, ◌%◌, ◌<◌, ◌==◌, true, if◌then◌else◌, List, [], ◌∷◌, ◌++◌, Option, Some, None, Ok, Err, refl, ap, sym, ◌∙◌, subst, inl, inr, arith, lit<}
use Rattle.std.specs.Prelude.{⊤, Result, IfSome}
use Rattle.nic_device.specs.RegTable.declared.rows.RowId.TheVariants.{GcrExt, Mrqc, Vfre, VtCtl}
use Rattle.nic_device.specs.RssHash.Mrqc.{queue_mode_of}
use Rattle.nic_device.specs.RssHash.declared.mrqc.QueueMode.{QueueMode}
use Rattle.nic_device.specs.RssHash.declared.mrqc.QueueMode.TheVariants.{Single, Rss, Vmdq64, Vmdq32Rss, Vmdq64Rss}
use Rattle.nic_device.specs.VfMap.declared.mode.Mode.TheVariants.{Pools16}
use Rattle.nic_device.specs.RxFilter.Address.{passes}
use Rattle.nic_device.specs.RxFilter.Pools.{uses_pools, selected_pool, parting_in, has_queues, takes_frames, checked_pool, chosen_pool}
use Rattle.nic_device.specs.RxFilter.Sorting.{queue_of, rss_entry, target_of, pool_target, sorted}
use Rattle.nic_device.specs.RxFilter.Laws.{GoesToPool}
use Rattle.nic_device.proofs.RxFilter.Queues.{queues_by_mode}
use Rattle.nic_device.proofs.RxFilter.Small.{selected_pool-small}
use Rattle.nic_device.proofs.RxFilter.Sorted.{sorted-let_in}
use Rattle.nic_device.specs.RxFilter.declared.target.Target.{Target}
use Rattle.nic_device.specs.RxFilter.declared.unwanted.Unwanted.{Unwanted}
use Rattle.nic_device.specs.RxFilter.declared.unwanted.Unwanted.TheVariants.{Filter, NoPool, PoolOff}
use Rattle.nic_device.specs.Arrival.{let_in}
use Rattle.nic_device.proofs.Cases.{either_way, arrived_cases}
use Rattle.datasheet_laws.specs.Prelude.{Done, IsSound, Outcome, Registers, State, mode_in, place, step_of, word_of}
use Rattle.datasheet_laws.proofs.Prelude.{cond-false, cond-true, cond_both, first_address, ne_eqb}
use Rattle.datasheet_laws.specs.Arriving.{IsOfOpenPool, JoinsOpenPool, VfreLetsIntoPools, queue_mode, pool_mode}
use Rattle.datasheet_laws.proofs.Addresses.{address_of}
use Rattle.datasheet_laws.proofs.Reading.{read-word, word_lt}
use Rattle.datasheet_laws.proofs.SettingsShown.{mode_word, mode_by as pools_by_mode}
use Rattle.datasheet_laws.proofs.Words.{whole-read}

-- The pool of a frame is below 64 and accepts frames.

record IsOpen (r : Registers) (frame : List ℕ) (pool : ℕ) : Type 0 where
  meant : selected_pool r frame ≡ Some pool
  small : pool < 64
  on : takes_frames r pool ≡ true

abbrev Chosen : Registers → List ℕ → Result ℕ Unwanted → Type 0
Chosen r frame (Ok pool) = IsOpen r frame pool
Chosen r frame (Err why) = ⊤

checked : (r : Registers) (frame : List ℕ) (o : Option ℕ) → selected_pool r frame ≡ o → IfSome o (λ pool. pool < 64)
    → Chosen r frame (checked_pool r o)
checked r frame None meant found = tt
checked r frame (Some pool) meant found =
    either_way (Chosen r frame) (has_queues (parting_in r) pool) _ (Err NoPool)
    (cond_both (takes_frames r pool) (Ok pool) (Err PoolOff) (Chosen r frame)
    (λ on. record { meant = meant; small = found; on = on }) (λ off. tt))
    tt

chosen : (r : Registers) (frame : List ℕ) → uses_pools r ≡ true → Chosen r frame (chosen_pool r frame)
unfolding chosen_pool
chosen r frame uses =
    subst (Chosen r frame) (sym (cond-true (uses_pools r) (checked_pool r (selected_pool r frame)) (Ok 0) uses))
    (checked r frame (selected_pool r frame) refl (selected_pool-small r frame))

-- A sorted frame goes to a queue of a pool that accepts frames.

abbrev HasOpen : Registers → List ℕ → Type 0
HasOpen r frame = (pool : ℕ) × IsOpen r frame pool

abbrev Sorted : Registers → List ℕ → Result Target Unwanted → Type 0
Sorted r frame (Ok t) = HasOpen r frame
Sorted r frame (Err why) = ⊤

targeted : (r : Registers) (frame : List ℕ) (pool : Result ℕ Unwanted) → Chosen r frame pool
    → Sorted r frame (pool_target r frame pool)
targeted r frame (Ok pool) has = (pool, has)
targeted r frame (Err why) has = tt

all_sorted : (r : Registers) (frame : List ℕ) → uses_pools r ≡ true → Sorted r frame (sorted r frame)
unfolding sorted
all_sorted r frame uses =
    either_way (Sorted r frame) (passes r frame) (pool_target r frame (chosen_pool r frame)) (Err Filter)
    (targeted r frame (chosen_pool r frame) (chosen r frame uses)) tt

-- The queue that MRQC selects.

mode_by : ℕ → QueueMode
mode_by n =
    if n == 1 then Rss
    else (if n == 8 then Vmdq64 else (if n == 10 then Vmdq32Rss else (if n == 11 then Vmdq64Rss else Single)))

mode_is : (m n : ℕ) → m % 16 ≡ n → queue_mode_of m ≡ mode_by n
unfolding queue_mode_of mode_by
mode_is m n e = ap mode_by e

one_of_four : (n : ℕ) → n < 4 → pools_by_mode n ≡ Pools16 → n ≡ 1
one_of_four zero small e = cc
one_of_four (suc zero) small e = refl
one_of_four (suc (suc zero)) small e = cc
one_of_four (suc (suc (suc zero))) small e = cc
one_of_four (suc (suc (suc (suc n)))) small e = absurd (omega arith)

by_either : {A B C D : Type 0} → A ⊎ B → (A → C) → (B → D) → C ⊎ D
by_either (inl a) f g = inl (f a)
by_either (inr b) f g = inr (g b)

eighth : (r : Registers) (frame : List ℕ) (pool : ℕ) (t : Target) → t.queue ≡ 8 * pool + rss_entry r frame % 8
    → t.queue / 8 ≡ pool
eighth r frame pool t e = omega arith

single_by : (n : ℕ) → n ≢ 1 → n ≢ 8 → n ≢ 10 → n ≢ 11 → mode_by n ≡ Single
unfolding mode_by
single_by n rss one four two =
    cond-false (n == 1) Rss _ (ne_eqb n 1 rss) ∙ cond-false (n == 8) Vmdq64 _ (ne_eqb n 8 one)
    ∙ cond-false (n == 10) Vmdq32Rss _ (ne_eqb n 10 four) ∙ cond-false (n == 11) Vmdq64Rss Single (ne_eqb n 11 two)

-- With the code for a single queue, the frame goes to queue 0, whatever the pool.

single_target : (r : Registers) (frame : List ℕ) (t : Target) (pool : Result ℕ Unwanted)
    → queue_mode_of (word_of r Mrqc 0) ≡ Single → pool_target r frame pool ≡ Ok t → t.queue ≡ 0
unfolding target_of
single_target r frame t (Err why) is e = cc
single_target r frame t (Ok pool) is e =
    let same : target_of r frame pool ≡ t = cc in
    ap (λ (u : Target). u.queue) (sym same)
    ∙ ap (λ code. queue_of code (mode_in r) pool (rss_entry r frame)) is

single_queue : (r : Registers) (frame : List ℕ) (t : Target) → queue_mode_of (word_of r Mrqc 0) ≡ Single
    → sorted r frame ≡ Ok t → t.queue ≡ 0
unfolding sorted
single_queue r frame t is goes =
    single_target r frame t (chosen_pool r frame) is
    (sorted-let_in (passes r frame) (pool_target r frame (chosen_pool r frame)) t goes)

module _ (s : State) (h : IsSound s) where
  mrqc : queue_mode s ≡ word_of s.registers Mrqc 0 % 16
  mrqc =
      ap (λ w. w % 16) (read-word s 0x05818 (place Mrqc 0)
      (address_of (place Mrqc 0) 0x05818 (first_address (place Mrqc 0) (lit< tt)))
      (word_lt s h (place Mrqc 0)))

  sixteen : pool_mode s ≡ 1 → mode_in s.registers ≡ Pools16
  sixteen e = ap pools_by_mode (ap (λ w. w % 4) (sym (mode_word s h)) ∙ e)

  not_sixteen : pool_mode s ≢ 1 → mode_in s.registers ≢ Pools16
  not_sixteen other is =
      other (ap (λ w. w % 4) (mode_word s h) ∙ one_of_four (word_of s.registers GcrExt 0 % 4) (omega arith) is)

  is_of : (frame : List ℕ) (t : Target) (o : HasOpen s.registers frame) → uses_pools s.registers ≡ true
      → sorted s.registers frame ≡ Ok t → IsOfOpenPool s t.queue o.0
  unfolding mode_by
  is_of frame t o uses goes =
      let r = s.registers in
      let pool = o.0 in
      let small = o.1.small in
      let p = place Vfre (pool / 32) in
      let bit = whole-read s (0x051E0 + 4 * (pool / 32)) (pool % 32) p
      (address_of p (0x051E0 + 4 * (pool / 32)) (first_address p (omega arith))) (omega arith) in
      let code : (n : ℕ) → queue_mode s ≡ n → queue_mode_of (word_of r Mrqc 0) ≡ mode_by n = λ n e.
      mode_is (word_of r Mrqc 0) n (sym mrqc ∙ e) in
      let g : GoesToPool r frame pool t = record { parted = uses; meant = o.1.meant; goes = goes } in
      record {
        small = small;
        on = bit ∙ o.1.on;
        single = λ other e. queues_by_mode.pools_64 r frame pool t g (not_sixteen other) (code 8 e);
        four = λ other e.
            let is = queues_by_mode.pools_32_hashing r frame pool t g (not_sixteen other) (code 10 e) in omega arith;
        two = λ other e.
            let is = queues_by_mode.pools_64_hashing r frame pool t g (not_sixteen other) (code 11 e) in omega arith;
        single_16 = λ is e. queues_by_mode.pools_16 r frame pool t g (sixteen is) (code 8 e);
        eight = λ is e. eighth r frame pool t
            (queues_by_mode.pools_16_hashing r frame pool t g (sixteen is) (by_either e (code 10) (code 11)));
        none = λ rss one four two. single_queue r frame t
            (code (queue_mode s) refl ∙ single_by (queue_mode s) rss one four two) goes;
      }

joined : (s : State) → IsSound s → uses_pools s.registers ≡ true → (frame : List ℕ) → (t : Target)
    → sorted s.registers frame ≡ Ok t → (new : State) → new.waiting ≡ s.waiting ++ let_in frame t ∷ []
    → JoinsOpenPool s frame new
joined s h uses frame t is new waits =
    let o = subst (Sorted s.registers frame) is (all_sorted s.registers frame uses) in
    record {
      frame = let_in frame t;
      bytes = refl;
      pool = o.0;
      meant = o.1.meant;
      joins = waits;
      is_of = is_of s h frame t o uses is;
    }

pub lets_in : VfreLetsIntoPools
unfolding step_of
lets_in s h bit frame =
    let vt = whole-read s 0x051B0 0 (place VtCtl 0)
    (address_of (place VtCtl 0) 0x051B0 (first_address (place VtCtl 0) (lit< tt))) (omega arith) in
    let uses = sym vt ∙ bit in
    arrived_cases (λ (o : Outcome). o.reply ≡ Done → JoinsOpenPool s frame o.state) s frame (record {
      dropped = λ why e. absurd (cc);
      short = λ e. absurd (cc);
      long = λ e. absurd (cc);
      missed = λ e. absurd (cc);
      joined = λ t is room least most e. joined s h uses frame t is _ refl;
    })
