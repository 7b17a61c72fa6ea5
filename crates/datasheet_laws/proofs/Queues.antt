-- A frame's queue, in terms of register bits.
use Rattle.std.proofs.Common.{◌≡◌, ◌≢◌, ◌⊎◌, ℕ, ◌+◌, ◌*◌, ◌/◌, ◌%◌, ◌==◌, Bool, true, false, cond, List, [], Option, Some, None, Ok, Err, inl, inr, refl, ap, ◌∙◌, subst, arith}
use Rattle.std.specs.Prelude.{Result}
use Rattle.std.proofs.lemmas.Bool.{cond_both, cond-false, ne_eqb}
use Rattle.nic_device.specs.RegTable.declared.rows.RowId.TheVariants.{GcrExt, Mrqc, Reta, Rssrk, Rxcsum, Vfre, VtCtl}
use Rattle.nic_device.specs.RssHash.Registers.{bytes_of_registers, entry_of}
use Rattle.nic_device.specs.RxFilter.Pools.{uses_pools, takes_frames, parting_in, has_queues, checked_pool, chosen_pool, selected_pool}
use Rattle.nic_device.specs.RxFilter.Sorting.{queue_of, rss_type, rss_entry, target_of, pool_target, sorted}
use Rattle.nic_device.specs.RxFilter.declared.unwanted.Unwanted.TheVariants.{NoPool, PoolOff}
use Rattle.nic_device.proofs.RxFilter.Queues.{entry-unhashed}
use Rattle.nic_device.proofs.RxFilter.Sorted.{sorted-let_in, type-unhashed}
use Rattle.datasheet_laws.specs.FramePrelude.{Mode, Pools16, QueueMode, Registers, Rss, RssType, Single, Target, Unwanted}
use Rattle.datasheet_laws.specs.FramePrelude.{Vmdq32Rss, Vmdq64, Vmdq64Rss, code_of, flow_of, has_bit, hashed_part, mode_in}
use Rattle.datasheet_laws.specs.FramePrelude.{passes, queue_mode_of, row_words, toeplitz_hash, word_of}
use Rattle.datasheet_laws.specs.Arrival.{HasPool, receive_bit}
use Rattle.datasheet_laws.specs.Bits.{field}
use Rattle.datasheet_laws.specs.FrameQueues.{GoesByMrqc, IsFor, QueuesGoByMrqc, code_in, parts_in}
use Rattle.datasheet_laws.proofs.FrameBits.{one-has, zero-has}
use Rattle.datasheet_laws.proofs.FramePools.{16-is, code-is, has_pool, is-16}

-- The pool.

module _ (r : Registers) (frame : List ℕ) (pool : ℕ) where
  abbrev IsOwn : ℕ → Type 0
  IsOwn n = HasPool r frame n × (receive_bit r n ≡ 1)

  of_ok : (p : ℕ) → selected_pool r frame ≡ Some p → (b c : Bool)
      → has_queues (parting_in r) p ≡ b → takes_frames r p ≡ c
      → cond b (cond c (Ok p) (Err PoolOff)) (Err NoPool) ≡ Ok pool → IsOwn pool
  of_ok p meant true true has on e =
      let same : p ≡ pool = cc in
      subst IsOwn same (has_pool r frame p meant has, one-has (p % 32) (word_of r Vfre (p / 32)) on)
  of_ok p meant true false has on e = cc
  of_ok p meant false c has on e = cc

  checked : (o : Option ℕ) → selected_pool r frame ≡ o → checked_pool r o ≡ Ok pool → IsOwn pool
  checked None meant e = cc
  checked (Some p) meant e = of_ok p meant (has_queues (parting_in r) p) (takes_frames r p) refl refl e

  whole : (c : Result ℕ Unwanted) → c ≡ Ok 0 → c ≡ Ok pool → pool ≡ 0
  whole c none e = cc

  chosen : chosen_pool r frame ≡ Ok pool → IsFor r frame pool
  unfolding chosen_pool
  chosen =
      cond_both (uses_pools r) (checked_pool r (selected_pool r frame)) (Ok 0) (λ c. c ≡ Ok pool → IsFor r frame pool)
      (λ parts e.
      let own = checked (selected_pool r frame) refl e in
      inr (one-has 0 (word_of r VtCtl 0) parts, own.0, own.1))
      (λ off e. inl (zero-has 0 (word_of r VtCtl 0) off, whole (Ok 0) refl e))

-- The queue.

single-is : (w : ℕ) → field 3 0 w ≢ 1 → field 3 0 w ≢ 8 → field 3 0 w ≢ 0xA → field 3 0 w ≢ 0xB
    → queue_mode_of w ≡ Single
unfolding queue_mode_of
single-is w rss one four two =
    cond-false (w % 16 == 0x1) Rss _ (ne_eqb (w % 16) 0x1 (λ e. rss (omega arith)))
    ∙ cond-false (w % 16 == 0x8) Vmdq64 _ (ne_eqb (w % 16) 0x8 (λ e. one (omega arith)))
    ∙ cond-false (w % 16 == 0xA) Vmdq32Rss _ (ne_eqb (w % 16) 0xA (λ e. four (omega arith)))
    ∙ cond-false (w % 16 == 0xB) Vmdq64Rss Single (ne_eqb (w % 16) 0xB (λ e. two (omega arith)))

hash-nothing : (key : List ℕ) → toeplitz_hash key [] ≡ 0
unfolding toeplitz_hash
hash-nothing key = refl

cond-same : (b : Bool) (n : ℕ) → cond b n n ≡ n
cond-same true n = refl
cond-same false n = refl

target-single : (r : Registers) (frame : List ℕ) (pool : ℕ) → queue_mode_of (word_of r Mrqc 0) ≡ Single
    → target_of r frame pool ≡ record { queue = 0; rss = 0; hash = 0 }
unfolding target_of
target-single r frame pool single =
    let key = bytes_of_registers (row_words r.words Rssrk) in
    let tells = has_bit 13 (word_of r Rxcsum 0) in
    let hash = λ (type : RssType). toeplitz_hash key (hashed_part type (flow_of frame).input) in
    let entry = λ (type : RssType). cond (code_of type == 0) 0 (entry_of (row_words r.words Reta) (hash type)) in
    let target : QueueMode → RssType → Target = λ mode type.
    record {
      queue = queue_of mode (mode_in r) pool (entry type);
      rss = code_of type;
      hash = cond tells (hash type) 0;
    } in
    let none : cond tells (toeplitz_hash key []) 0 ≡ 0 =
    ap (λ n. cond tells n 0) (hash-nothing key) ∙ cond-same tells 0 in
    ap (λ mode. target mode (rss_type r frame)) single
    ∙ ap (target Single) (type-unhashed (word_of r Mrqc 0) (flow_of frame) Single single refl)
    ∙ (λ k. record { queue = 0; rss = 0; hash = none k })

queue-is : (r : Registers) (frame : List ℕ) (pool : ℕ) (code : QueueMode) → queue_mode_of (word_of r Mrqc 0) ≡ code
    → (target_of r frame pool).queue ≡ queue_of code (mode_in r) pool (rss_entry r frame)
unfolding target_of
queue-is r frame pool code e = ap (λ c. queue_of c (mode_in r) pool (rss_entry r frame)) e

first-of : (m : Mode) (pool : ℕ) → m ≢ Pools16 → queue_of Vmdq64 m pool 0 ≡ 2 * pool
first-of Pools16 pool other = absurd (other refl)
first-of m pool other = omega arith

by_four : (m : Mode) (pool entry : ℕ) → m ≢ Pools16 → queue_of Vmdq32Rss m pool entry ≡ 4 * pool + entry % 4
by_four Pools16 pool entry other = absurd (other refl)
by_four m pool entry other = omega arith

by_two : (m : Mode) (pool entry : ℕ) → m ≢ Pools16 → queue_of Vmdq64Rss m pool entry ≡ 2 * pool + entry % 2
by_two Pools16 pool entry other = absurd (other refl)
by_two m pool entry other = omega arith

by_eight : (m : Mode) (code : QueueMode) (pool entry : ℕ) → m ≡ Pools16 → (code ≡ Vmdq32Rss) ⊎ (code ≡ Vmdq64Rss)
    → queue_of code m pool entry ≡ 8 * pool + entry % 8
by_eight m code pool entry is (inl e) =
    (λ k. queue_of (e k) (is k) pool entry) ∙ (omega arith)
by_eight m code pool entry is (inr e) =
    (λ k. queue_of (e k) (is k) pool entry) ∙ (omega arith)

first-of-eight : (m : Mode) (pool : ℕ) → m ≡ Pools16 → queue_of Vmdq64 m pool 0 ≡ 8 * pool
first-of-eight m pool is = ap (λ n. queue_of Vmdq64 n pool 0) is ∙ (omega arith)

module _ (r : Registers) (frame : List ℕ) where
  abbrev code : ℕ
  code = word_of r Mrqc 0

  abbrev Other : Type 0
  Other = parts_in r ≢ 1

  other : Other → mode_in r ≢ Pools16
  other not e = not (16-is (word_of r GcrExt 0) e)

  sixteen : parts_in r ≡ 1 → mode_in r ≡ Pools16
  sixteen e = is-16 (word_of r GcrExt 0) e

  first-queue : (pool : ℕ) → queue_mode_of code ≡ Vmdq64
      → (target_of r frame pool).queue ≡ queue_of Vmdq64 (mode_in r) pool 0
  first-queue pool e =
      queue-is r frame pool Vmdq64 e ∙ ap (queue_of Vmdq64 (mode_in r) pool) (entry-unhashed r frame e)

  eighth : (pool : ℕ) → parts_in r ≡ 1 → (code_in r ≡ 0xA) ⊎ (code_in r ≡ 0xB)
      → (target_of r frame pool).queue ≡ 8 * pool + rss_entry r frame % 8
  eighth pool is (inl e) =
      queue-is r frame pool Vmdq32Rss (code-is code 0xA e)
      ∙ by_eight (mode_in r) Vmdq32Rss pool (rss_entry r frame) (sixteen is) (inl refl)
  eighth pool is (inr e) =
      queue-is r frame pool Vmdq64Rss (code-is code 0xB e)
      ∙ by_eight (mode_in r) Vmdq64Rss pool (rss_entry r frame) (sixteen is) (inr refl)

  goes : (pool : ℕ) → IsFor r frame pool → GoesByMrqc r frame (target_of r frame pool)
  goes pool is = record {
    pool = pool;
    is_for = is;
    none = λ rss one four two. target-single r frame pool (single-is code rss one four two);
    hashing = λ e. queue-is r frame pool Rss (code-is code 1 e);
    first = λ not e. first-queue pool (code-is code 8 e) ∙ first-of (mode_in r) pool (other not);
    four = λ not e. queue-is r frame pool Vmdq32Rss (code-is code 0xA e)
        ∙ by_four (mode_in r) pool (rss_entry r frame) (other not);
    two = λ not e. queue-is r frame pool Vmdq64Rss (code-is code 0xB e)
        ∙ by_two (mode_in r) pool (rss_entry r frame) (other not);
    first_16 = λ is e. first-queue pool (code-is code 8 e) ∙ first-of-eight (mode_in r) pool (sixteen is);
    eight = λ is e. eighth pool is e;
  }

  found : (c : Result ℕ Unwanted) (t : Target) → ((pool : ℕ) → c ≡ Ok pool → IsFor r frame pool)
      → pool_target r frame c ≡ Ok t → GoesByMrqc r frame t
  found (Err why) t is e = cc
  found (Ok pool) t is e =
      let same : target_of r frame pool ≡ t = cc in subst (GoesByMrqc r frame) same (goes pool (is pool refl))

pub queues_by_mrqc : QueuesGoByMrqc
unfolding sorted
queues_by_mrqc r frame t e =
    found r frame (chosen_pool r frame) t (chosen r frame)
    (sorted-let_in (passes r frame) (pool_target r frame (chosen_pool r frame)) t e)
