-- Where a frame goes, in terms of register bits.
use Rattle.std.proofs.Common.{◌≡◌, ◌<◌, ◌/◌, ◌%◌, ◌==◌, ℕ, true, false, cond, List, Option, Some, None, Ok, Err, inl, inr, refl, ap, ◌∙◌, subst, arith}
use Rattle.std.specs.Prelude.{Result, IfSome}
use Rattle.std.proofs.lemmas.Bool.{cond-true, cond-false, cond_both, both_ways, cases_Bool, eqb-true}
use Rattle.nic_device.specs.VfMap.declared.mode.Mode.TheVariants as pools
use Rattle.nic_device.specs.RxFilter.Pools.{uses_pools, takes_frames, parting_in, has_queues, checked_pool, chosen_pool, selected_pool}
use Rattle.nic_device.specs.RxFilter.Laws.{has_pools}
use Rattle.nic_device.proofs.RxFilter.Queues.{beyond, lacks_beyond}
use Rattle.nic_device.proofs.RxFilter.Small.{selected_pool-small}
use Rattle.nic_device.specs.RxFilter.declared.unwanted.Unwanted.TheVariants as unwanted
use Rattle.datasheet_laws.specs.FramePrelude.{GcrExt, Mode, Mrqc, Off, Pools16, Pools32, QueueMode, Registers, Rss, Single}
use Rattle.datasheet_laws.specs.FramePrelude.{Unwanted, Vfre, Vmdq32Rss, Vmdq64, Vmdq64Rss, VtCtl, mode_of, passes}
use Rattle.datasheet_laws.specs.FramePrelude.{pool_target}
use Rattle.datasheet_laws.specs.FramePrelude.{queue_mode_of, sorted, word_of}
use Rattle.datasheet_laws.specs.Arrival.{PartsByMrqc, LacksQueues, HasPool, HasNoPool, HasPoolOn, HasPoolOff}
use Rattle.datasheet_laws.specs.Arrival.{PartsAmongPools}
use Rattle.datasheet_laws.specs.Bits.{bit, field}
use Rattle.datasheet_laws.proofs.FrameBits.{has-one, has-zero, one-has, zero-has}

-- Which pools have queues.

abbrev code_by : ℕ → QueueMode
code_by n =
    cond (n == 0x1) Rss (cond (n == 0x8) Vmdq64 (cond (n == 0xA) Vmdq32Rss (cond (n == 0xB) Vmdq64Rss Single)))

pub code-is : (w n : ℕ) → field 3 0 w ≡ n → queue_mode_of w ≡ code_by n
unfolding queue_mode_of
code-is w n e = let low : w % 16 ≡ n = omega arith in ap code_by low

pub is-16 : (w : ℕ) → field 1 0 w ≡ 1 → mode_of w ≡ Pools16
is-16 w e =
    let low : w % 4 ≡ 1 = omega arith in
    ap (λ n. cond (n == 0) Off (cond (n == 1) Pools16 (cond (n == 2) Pools32 pools.Pools64))) low

pub 16-is : (w : ℕ) → mode_of w ≡ Pools16 → field 1 0 w ≡ 1
16-is w =
    let Is : Mode → Type 0 = λ m. m ≡ Pools16 → field 1 0 w ≡ 1 in
    cond_both (w % 4 == 0) Off _ Is (λ is e. cc) (λ no.
    cond_both (w % 4 == 1) Pools16 _ Is (λ is e. let low = eqb-true (w % 4) 1 is in omega arith) (λ no.
    cond_both (w % 4 == 2) Pools32 pools.Pools64 Is (λ is e. cc) (λ no e. cc)))

parts-has : (r : Registers) → PartsByMrqc r → has_pools (queue_mode_of (word_of r Mrqc 0)) ≡ true
parts-has r (inl e) = ap has_pools (code-is (word_of r Mrqc 0) 8 e)
parts-has r (inr (inl e)) = ap has_pools (code-is (word_of r Mrqc 0) 0xA e)
parts-has r (inr (inr e)) = ap has_pools (code-is (word_of r Mrqc 0) 0xB e)

has-parts : (r : Registers) → has_pools (queue_mode_of (word_of r Mrqc 0)) ≡ true → PartsByMrqc r
unfolding queue_mode_of
has-parts r =
    let w = word_of r Mrqc 0 in
    let Is : QueueMode → Type 0 = λ c. has_pools c ≡ true → PartsByMrqc r in
    cond_both (w % 16 == 0x1) Rss _ Is (λ is e. cc) (λ no.
    cond_both (w % 16 == 0x8) Vmdq64 _ Is (λ is e. let low = eqb-true (w % 16) 0x8 is in inl (omega arith)) (λ no.
    cond_both (w % 16 == 0xA) Vmdq32Rss _ Is
    (λ is e. let low = eqb-true (w % 16) 0xA is in inr (inl (omega arith))) (λ no.
    cond_both (w % 16 == 0xB) Vmdq64Rss Single Is
    (λ is e. let low = eqb-true (w % 16) 0xB is in inr (inr (omega arith))) (λ no e. cc))))

32-is : (w : ℕ) → queue_mode_of w ≡ Vmdq32Rss → field 3 0 w ≡ 0xA
unfolding queue_mode_of
32-is w =
    let Is : QueueMode → Type 0 = λ c. c ≡ Vmdq32Rss → field 3 0 w ≡ 0xA in
    cond_both (w % 16 == 0x1) Rss _ Is (λ is e. cc) (λ no.
    cond_both (w % 16 == 0x8) Vmdq64 _ Is (λ is e. cc) (λ no.
    cond_both (w % 16 == 0xA) Vmdq32Rss _ Is (λ is e. let low = eqb-true (w % 16) 0xA is in omega arith) (λ no.
    cond_both (w % 16 == 0xB) Vmdq64Rss Single Is (λ is e. cc) (λ no e. cc))))

lacks-none : (r : Registers) (pool : ℕ) → LacksQueues r pool → has_queues (parting_in r) pool ≡ false
lacks-none r pool (inl l) =
    beyond r pool (inl (is-16 (word_of r GcrExt 0) l.0, parts-has r l.1, l.2))
lacks-none r pool (inr l) =
    beyond r pool (inr (λ e. l.0 (16-is (word_of r GcrExt 0) e), code-is (word_of r Mrqc 0) 0xA l.1, l.2))

none-lacks : (r : Registers) (pool : ℕ) → pool < 64 → has_queues (parting_in r) pool ≡ false → LacksQueues r pool
none-lacks r pool small e =
    elim (lacks_beyond r pool small e) [
      | inl b ↦ inl (16-is (word_of r GcrExt 0) b.0, has-parts r b.1, b.2)
      | inr b ↦ inr (λ s. b.0 (is-16 (word_of r GcrExt 0) s), 32-is (word_of r Mrqc 0) b.1, b.2)
    ]

exists-has : (r : Registers) (pool : ℕ) → pool < 64 → ¬ LacksQueues r pool → has_queues (parting_in r) pool ≡ true
exists-has r pool small has =
    elim (cases_Bool (has_queues (parting_in r) pool)) [
      | inl is ↦ is
      | inr none ↦ absurd (has (none-lacks r pool small none))
    ]

has-exists : (r : Registers) (pool : ℕ) → has_queues (parting_in r) pool ≡ true → ¬ LacksQueues r pool
has-exists r pool has lacks = both_ways (has_queues (parting_in r) pool) (lacks-none r pool lacks) has

small-pool : (r : Registers) (frame : List ℕ) (pool : ℕ) → selected_pool r frame ≡ Some pool → pool < 64
small-pool r frame pool e = subst (λ o. IfSome o (λ p. p < 64)) e (selected_pool-small r frame)

-- The filter, the frame's pool and MRQC determine where a frame goes.

pub sorted-filtered : (r : Registers) (frame : List ℕ) → passes r frame ≡ false → sorted r frame ≡ Err unwanted.Filter
unfolding sorted
sorted-filtered r frame e =
    cond-false (passes r frame) (pool_target r frame (chosen_pool r frame)) (Err unwanted.Filter) e

pub sorted-passed : (r : Registers) (frame : List ℕ) → passes r frame ≡ true
    → sorted r frame ≡ pool_target r frame (chosen_pool r frame)
unfolding sorted
sorted-passed r frame e =
    cond-true (passes r frame) (pool_target r frame (chosen_pool r frame)) (Err unwanted.Filter) e

pub chosen-whole : (r : Registers) (frame : List ℕ) → bit 0 (word_of r VtCtl 0) ≡ 0 → chosen_pool r frame ≡ Ok 0
unfolding chosen_pool
chosen-whole r frame e =
    cond-false (uses_pools r) (checked_pool r (selected_pool r frame)) (Ok 0) (has-zero 0 (word_of r VtCtl 0) e)

pub chosen-parted : (r : Registers) (frame : List ℕ) → PartsAmongPools r
    → chosen_pool r frame ≡ checked_pool r (selected_pool r frame)
unfolding chosen_pool
chosen-parted r frame e =
    cond-true (uses_pools r) (checked_pool r (selected_pool r frame)) (Ok 0) (has-one 0 (word_of r VtCtl 0) e)

checked-some : (r : Registers) (pool : ℕ) → has_queues (parting_in r) pool ≡ true
    → checked_pool r (Some pool) ≡ cond (takes_frames r pool) (Ok pool) (Err unwanted.PoolOff)
checked-some r pool has =
    cond-true (has_queues (parting_in r) pool)
    (cond (takes_frames r pool) (Ok pool) (Err unwanted.PoolOff)) (Err unwanted.NoPool) has

checked-pool : (r : Registers) (frame : List ℕ) (pool : ℕ) → HasPool r frame pool
    → checked_pool r (selected_pool r frame) ≡ cond (takes_frames r pool) (Ok pool) (Err unwanted.PoolOff)
checked-pool r frame pool h =
    ap (checked_pool r) h.meant
    ∙ checked-some r pool (exists-has r pool (small-pool r frame pool h.meant) h.exists)

pub chosen-none : (r : Registers) (frame : List ℕ) → PartsAmongPools r → HasNoPool r frame
    → chosen_pool r frame ≡ Err unwanted.NoPool
chosen-none r frame parts (inl none) = chosen-parted r frame parts ∙ ap (checked_pool r) none
chosen-none r frame parts (inr h) =
    chosen-parted r frame parts ∙ ap (checked_pool r) h.meant
    ∙ cond-false (has_queues (parting_in r) h.pool)
    (cond (takes_frames r h.pool) (Ok h.pool) (Err unwanted.PoolOff)) (Err unwanted.NoPool)
    (lacks-none r h.pool h.lacks)

pub chosen-off : (r : Registers) (frame : List ℕ) → PartsAmongPools r → HasPoolOff r frame
    → chosen_pool r frame ≡ Err unwanted.PoolOff
chosen-off r frame parts h =
    chosen-parted r frame parts ∙ checked-pool r frame h.pool h.has
    ∙ cond-false (takes_frames r h.pool) (Ok h.pool) (Err unwanted.PoolOff)
    (has-zero (h.pool % 32) (word_of r Vfre (h.pool / 32)) h.off)

pub chosen-on : (r : Registers) (frame : List ℕ) → PartsAmongPools r → (h : HasPoolOn r frame)
    → chosen_pool r frame ≡ Ok h.pool
chosen-on r frame parts h =
    chosen-parted r frame parts ∙ checked-pool r frame h.pool h.has
    ∙ cond-true (takes_frames r h.pool) (Ok h.pool) (Err unwanted.PoolOff)
    (has-one (h.pool % 32) (word_of r Vfre (h.pool / 32)) h.on)

-- What the check of a frame's pool shows about the frame.

pub has_pool : (r : Registers) (frame : List ℕ) (pool : ℕ) → selected_pool r frame ≡ Some pool
    → has_queues (parting_in r) pool ≡ true → HasPool r frame pool
has_pool r frame pool e has = record { meant = e; exists = has-exists r pool has }

has_pool_on : (r : Registers) (frame : List ℕ) (pool : ℕ) → HasPool r frame pool → takes_frames r pool ≡ true
    → HasPoolOn r frame
has_pool_on r frame pool has on =
    record { pool = pool; has = has; on = one-has (pool % 32) (word_of r Vfre (pool / 32)) on }

has_pool_off : (r : Registers) (frame : List ℕ) (pool : ℕ) → HasPool r frame pool → takes_frames r pool ≡ false
    → HasPoolOff r frame
has_pool_off r frame pool has off =
    record { pool = pool; has = has; off = zero-has (pool % 32) (word_of r Vfre (pool / 32)) off }

has_none : (r : Registers) (frame : List ℕ) (pool : ℕ) → selected_pool r frame ≡ Some pool
    → has_queues (parting_in r) pool ≡ false → HasNoPool r frame
has_none r frame pool e none =
    inr (record { pool = pool; meant = e; lacks = none-lacks r pool (small-pool r frame pool e) none })

pub record Checked (P : Result ℕ Unwanted → Type 0) (r : Registers) (frame : List ℕ) : Type 0 where
  pub none : HasNoPool r frame → P (Err unwanted.NoPool)
  pub off : HasPoolOff r frame → P (Err unwanted.PoolOff)
  pub on : (pool : ℕ) → HasPoolOn r frame → P (Ok pool)

pub checked_cases : (P : Result ℕ Unwanted → Type 0) (r : Registers) (frame : List ℕ) → Checked P r frame
    → (o : Option ℕ) → selected_pool r frame ≡ o → P (checked_pool r o)
checked_cases P r frame c None e = c.none (inl e)
checked_cases P r frame c (Some pool) e =
    cond_both (has_queues (parting_in r) pool)
    (cond (takes_frames r pool) (Ok pool) (Err unwanted.PoolOff)) (Err unwanted.NoPool) P
    (λ has.
    cond_both (takes_frames r pool) (Ok pool) (Err unwanted.PoolOff) P
    (λ on. c.on pool (has_pool_on r frame pool (has_pool r frame pool e has) on))
    (λ off. c.off (has_pool_off r frame pool (has_pool r frame pool e has) off)))
    (λ none. c.none (has_none r frame pool e none))

pub chosen_cases : (P : Result ℕ Unwanted → Type 0) (r : Registers) (frame : List ℕ)
    → (bit 0 (word_of r VtCtl 0) ≡ 0 → P (Ok 0)) → (PartsAmongPools r → Checked P r frame)
    → P (chosen_pool r frame)
unfolding chosen_pool
chosen_cases P r frame whole parted =
    cond_both (uses_pools r) (checked_pool r (selected_pool r frame)) (Ok 0) P
    (λ parts.
    checked_cases P r frame (parted (one-has 0 (word_of r VtCtl 0) parts)) (selected_pool r frame) refl)
    (λ off. whole (zero-has 0 (word_of r VtCtl 0) off))
