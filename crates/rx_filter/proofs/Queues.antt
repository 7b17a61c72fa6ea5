-- A frame's pool, and its queue in each mode.
use Rattle.std.proofs.Common.{◌≡◌, ◌≢◌, ◌⊎◌, ℕ, ◌+◌, ◌*◌, ◌%◌, ◌<◌, ◌==◌, Bool, true, false, cond, List, Some, None, Ok, Err}
use Rattle.std.proofs.Common.{refl, sym, ap, ◌∙◌, inl, inr, eq-eqb, arith}
use Rattle.std.specs.Prelude.{Result}
use Rattle.std.proofs.lemmas.Bool.{cond-true, cond-false, le-ltb, ltb-true, ltb-false}
use Rattle.std.proofs.lemmas.Bool.Decides.{eqb_tells}
use Rattle.register_file.specs.RegTable.declared.rows.RowId.TheVariants.{VtCtl, Mrqc, Reta}
use Rattle.register_file.specs.Bits.{has_bit}
use Rattle.register_file.specs.Registers.{Registers, word_of}
use Rattle.register_file.specs.Words.{row_words}
use Rattle.register_file.specs.RssHash.Choice.{code_of}
use Rattle.register_file.specs.RssHash.Mrqc.{queue_mode_of}
use Rattle.register_file.specs.RssHash.Flow.{flow_of}
use Rattle.register_file.specs.RssHash.Registers.{entry_of}
use Rattle.register_file.specs.RssHash.declared.mrqc.QueueMode.{QueueMode}
use Rattle.register_file.specs.RssHash.declared.mrqc.QueueMode.TheVariants.{Single, Rss, Vmdq64, Vmdq32Rss, Vmdq64Rss}
use Rattle.register_file.specs.Pools.{mode_in}
use Rattle.register_file.specs.VfMap.Owner.{has_queue, is_pool}
use Rattle.register_file.specs.VfMap.declared.mode.Mode.{Mode}
use Rattle.register_file.specs.VfMap.declared.mode.Mode.TheVariants as mode
use Rattle.register_file.proofs.VfMap.Numbers.{placed}
use Rattle.rx_filter.specs.Address.{passes}
use Rattle.rx_filter.specs.Pools.{uses_pools, takes_frames, parting, parting_in, has_queues, default_pool, matched_pool, or_default}
use Rattle.rx_filter.specs.Pools.{checked_pool, selected_pool, chosen_pool}
use Rattle.rx_filter.specs.Sorting.{queue_of, rss_type, rss_hash, rss_entry, target_of, pool_target, sorted}
use Rattle.rx_filter.specs.Laws.{HasNoPool, PoolOfAFrame, GoesToPool, QueuesByMode, has_pools, IsBeyond}
use Rattle.rx_filter.specs.Laws.{PoolsBeyondGetNone, FunctionsGetTheirs}
use Rattle.rx_filter.specs.Fields.{DIS_DEF_POOL}
use Rattle.rx_filter.specs.declared.target.Target.{Target}
use Rattle.rx_filter.specs.declared.unwanted.Unwanted.{Unwanted}
use Rattle.rx_filter.specs.declared.unwanted.Unwanted.TheVariants.{Filter, NoPool, PoolOff}
use Rattle.rx_filter.proofs.Finding.{first_match-some, first_match-none, lowest_pool-some, lowest_pool-none}
use Rattle.rx_filter.proofs.Sorted.{sorted-let_in, type-unhashed}

-- ---- the pool

no_pool : (r : Registers) (frame : List ℕ) → HasNoPool r frame → selected_pool r frame ≡ default_pool r
no_pool r frame (inl none) = ap (λ o. or_default r (matched_pool r o)) (first_match-none r frame none)
no_pool r frame (inr m) =
    ap (λ o. or_default r (matched_pool r o))
    (first_match-some r frame m.0 m.1.0.within m.1.0.matched m.1.0.first)
    ∙ ap (or_default r) (lowest_pool-none r m.0 m.1.1)

pub pool_of_a_frame : PoolOfAFrame
pool_of_a_frame = record {
  matched = λ r frame i pool m l.
      ap (λ o. or_default r (matched_pool r o)) (first_match-some r frame i m.within m.matched m.first)
      ∙ ap (or_default r) (lowest_pool-some r i pool l.within l.selected l.lowest);
  default = λ r frame n e. no_pool r frame n ∙ cond-false (has_bit DIS_DEF_POOL (word_of r VtCtl 0)) None _ e;
  none = λ r frame n e. no_pool r frame n ∙ cond-true (has_bit DIS_DEF_POOL (word_of r VtCtl 0)) None _ e;
}

-- ---- the queue

queue-target : (r : Registers) (frame : List ℕ) (pool : ℕ) (t : Target) → pool_target r frame (Ok pool) ≡ Ok t →
    t.queue ≡ queue_of (queue_mode_of (word_of r Mrqc 0)) (mode_in r) pool (rss_entry r frame)
unfolding target_of
queue-target r frame pool t e =
    let same : target_of r frame pool ≡ t = cc in ap (λ (u : Target). u.queue) (sym same)

queue-hashing : (r : Registers) (frame : List ℕ) (chosen : Result ℕ Unwanted) (t : Target) →
    queue_mode_of (word_of r Mrqc 0) ≡ Rss → pool_target r frame chosen ≡ Ok t → t.queue ≡ rss_entry r frame
queue-hashing r frame (Err why) t mode e = cc
queue-hashing r frame (Ok pool) t mode e =
    queue-target r frame pool t e ∙ ap (λ code. queue_of code (mode_in r) pool (rss_entry r frame)) mode

queue-checked : (r : Registers) (frame : List ℕ) (pool : ℕ) (t : Target) (has takes : Bool) →
    pool_target r frame (cond has (cond takes (Ok pool) (Err PoolOff)) (Err NoPool)) ≡ Ok t →
    (has ≡ true) × (t.queue ≡ queue_of (queue_mode_of (word_of r Mrqc 0)) (mode_in r) pool (rss_entry r frame))
queue-checked r frame pool t true true e = (refl, queue-target r frame pool t e)
queue-checked r frame pool t true false e = cc
queue-checked r frame pool t false takes e = cc

found : (r : Registers) (frame : List ℕ) (t : Target) → sorted r frame ≡ Ok t →
    pool_target r frame (chosen_pool r frame) ≡ Ok t
unfolding sorted
found r frame t e = sorted-let_in (passes r frame) (pool_target r frame (chosen_pool r frame)) t e

chosen-parted : (r : Registers) (frame : List ℕ) (pool : ℕ) → uses_pools r ≡ true → selected_pool r frame ≡ Some pool →
    chosen_pool r frame ≡ checked_pool r (Some pool)
unfolding chosen_pool
chosen-parted r frame pool parted e =
    cond-true (uses_pools r) (checked_pool r (selected_pool r frame)) (Ok 0) parted ∙ ap (checked_pool r) e

queue-parted : (r : Registers) (frame : List ℕ) (pool : ℕ) (t : Target) → GoesToPool r frame pool t →
    (has_queues (parting_in r) pool ≡ true)
    × (t.queue ≡ queue_of (queue_mode_of (word_of r Mrqc 0)) (mode_in r) pool (rss_entry r frame))
queue-parted r frame pool t g =
    queue-checked r frame pool t (has_queues (parting_in r) pool) (takes_frames r pool)
    (sym (ap (pool_target r frame) (chosen-parted r frame pool g.parted g.meant)) ∙ found r frame t g.goes)

by_code : (r : Registers) (frame : List ℕ) (pool : ℕ) (t : Target) (code : QueueMode) → GoesToPool r frame pool t →
    queue_mode_of (word_of r Mrqc 0) ≡ code → t.queue ≡ queue_of code (mode_in r) pool (rss_entry r frame)
by_code r frame pool t code g e =
    (queue-parted r frame pool t g).1 ∙ ap (λ c. queue_of c (mode_in r) pool (rss_entry r frame)) e

by_sixteen : (r : Registers) (frame : List ℕ) (pool : ℕ) (t : Target) (code : QueueMode) → GoesToPool r frame pool t →
    mode_in r ≡ mode.Pools16 → queue_mode_of (word_of r Mrqc 0) ≡ code →
    t.queue ≡ queue_of code mode.Pools16 pool (rss_entry r frame)
by_sixteen r frame pool t code g sixteen e =
    by_code r frame pool t code g e ∙ ap (λ m. queue_of code m pool (rss_entry r frame)) sixteen

by_four : (m : Mode) (pool entry : ℕ) → m ≢ mode.Pools16 → queue_of Vmdq32Rss m pool entry ≡ 4 * pool + entry % 4
by_four mode.Pools16 pool entry other = absurd (other refl)
by_four m pool entry other = omega arith

by_two : (m : Mode) (pool entry : ℕ) → m ≢ mode.Pools16 → queue_of Vmdq64Rss m pool entry ≡ 2 * pool + entry % 2
by_two mode.Pools16 pool entry other = absurd (other refl)
by_two m pool entry other = omega arith

-- With code 8 nothing is hashed, so the entry is 0.
pub entry-unhashed : (r : Registers) (frame : List ℕ) → queue_mode_of (word_of r Mrqc 0) ≡ Vmdq64 →
    rss_entry r frame ≡ 0
entry-unhashed r frame is =
    let none : code_of (rss_type r frame) ≡ 0 =
    ap code_of (type-unhashed (word_of r Mrqc 0) (flow_of frame) Vmdq64 is refl) in
    cond-true (code_of (rss_type r frame) == 0) 0 _ (eq-eqb (code_of (rss_type r frame)) 0 none)

first_of_two : (m : Mode) (pool : ℕ) → m ≢ mode.Pools16 → queue_of Vmdq64 m pool 0 ≡ 2 * pool
first_of_two mode.Pools16 pool other = absurd (other refl)
first_of_two m pool other = omega arith

by_hash : (r : Registers) (frame : List ℕ) (pool : ℕ) (t : Target) → GoesToPool r frame pool t →
    mode_in r ≡ mode.Pools16 →
    (queue_mode_of (word_of r Mrqc 0) ≡ Vmdq32Rss) ⊎ (queue_mode_of (word_of r Mrqc 0) ≡ Vmdq64Rss) →
    t.queue ≡ 8 * pool + rss_entry r frame % 8
by_hash r frame pool t g sixteen (inl is) =
    let queue = by_sixteen r frame pool t Vmdq32Rss g sixteen is in queue ∙ (omega arith)
by_hash r frame pool t g sixteen (inr is) =
    let queue = by_sixteen r frame pool t Vmdq64Rss g sixteen is in queue ∙ (omega arith)

entry-hashed : (r : Registers) (frame : List ℕ) → (code_of (rss_type r frame) ≡ 0 → ⊥) →
    rss_entry r frame ≡ entry_of (row_words r.words Reta) (rss_hash r frame)
entry-hashed r frame some =
    elim (eqb_tells (code_of (rss_type r frame)) 0) [
      | inl same ↦ absurd (some same.1)
      | inr other ↦ cond-false (code_of (rss_type r frame) == 0) 0 _ other.0
    ]

pub queues_by_mode : QueuesByMode
unfolding entry_of
queues_by_mode = record {
  hashing = λ r frame t e mode. queue-hashing r frame (chosen_pool r frame) t mode (found r frame t e);
  entry = λ r frame some. entry-hashed r frame some;
  no_entry = λ r frame none.
      cond-true (code_of (rss_type r frame) == 0) 0 _ (eq-eqb (code_of (rss_type r frame)) 0 none);
  pools_32_hashing = λ r frame pool t g other e.
      by_code r frame pool t Vmdq32Rss g e ∙ by_four (mode_in r) pool (rss_entry r frame) other;
  pools_64_hashing = λ r frame pool t g other e.
      by_code r frame pool t Vmdq64Rss g e ∙ by_two (mode_in r) pool (rss_entry r frame) other;
  pools_64 = λ r frame pool t g other e.
      by_code r frame pool t Vmdq64 g e
      ∙ ap (queue_of Vmdq64 (mode_in r) pool) (entry-unhashed r frame e) ∙ first_of_two (mode_in r) pool other;
  pools_16_hashing = λ r frame pool t g sixteen is. by_hash r frame pool t g sixteen is;
  pools_16 = λ r frame pool t g sixteen is.
      by_sixteen r frame pool t Vmdq64 g sixteen is
      ∙ ap (queue_of Vmdq64 mode.Pools16 pool) (entry-unhashed r frame is) ∙ (omega arith);
}

-- ---- which pools have queues

none_of_16 : (code : QueueMode) (pool : ℕ) → has_pools code ≡ true → 15 < pool →
    has_queues (parting code mode.Pools16) pool ≡ false
none_of_16 Single pool pools above = cc
none_of_16 Rss pool pools above = cc
none_of_16 Vmdq64 pool pools above = le-ltb pool 16 (omega arith)
none_of_16 Vmdq32Rss pool pools above = le-ltb pool 16 (omega arith)
none_of_16 Vmdq64Rss pool pools above = le-ltb pool 16 (omega arith)

none_of_32 : (m : Mode) (pool : ℕ) → m ≢ mode.Pools16 → 31 < pool → has_queues (parting Vmdq32Rss m) pool ≡ false
none_of_32 mode.Pools16 pool other above = absurd (other refl)
none_of_32 m pool other above = le-ltb pool 32 (omega arith)

pub beyond : (r : Registers) (pool : ℕ) → IsBeyond r pool → has_queues (parting_in r) pool ≡ false
beyond r pool (inl b) =
    let code = queue_mode_of (word_of r Mrqc 0) in
    ap (λ m. has_queues (parting code m) pool) b.0 ∙ none_of_16 code pool b.1 b.2
beyond r pool (inr b) =
    ap (λ code. has_queues (parting code (mode_in r)) pool) b.1 ∙ none_of_32 (mode_in r) pool b.0 b.2

-- Conversely, a pool below 64 without queues is above 15 or 31.
lacking : (code : QueueMode) (m : Mode) (pool : ℕ) → pool < 64 → has_queues (parting code m) pool ≡ false →
    ((m ≡ mode.Pools16) × (has_pools code ≡ true) × (15 < pool))
    ⊎ ((m ≢ mode.Pools16) × (code ≡ Vmdq32Rss) × (31 < pool))
lacking Single m pool small e = cc
lacking Rss m pool small e = cc
lacking Vmdq64 mode.Pools16 pool small e = let past = ltb-false pool 16 e in inl (refl, refl, omega arith)
lacking Vmdq64 m pool small e = let past = ltb-false pool 64 e in absurd (omega arith)
lacking Vmdq32Rss mode.Pools16 pool small e = let past = ltb-false pool 16 e in inl (refl, refl, omega arith)
lacking Vmdq32Rss m pool small e = let past = ltb-false pool 32 e in inr (λ s. cc, refl, omega arith)
lacking Vmdq64Rss mode.Pools16 pool small e = let past = ltb-false pool 16 e in inl (refl, refl, omega arith)
lacking Vmdq64Rss m pool small e = let past = ltb-false pool 64 e in absurd (omega arith)

pub lacks_beyond : (r : Registers) (pool : ℕ) → pool < 64 → has_queues (parting_in r) pool ≡ false → IsBeyond r pool
lacks_beyond r pool small e = lacking (queue_mode_of (word_of r Mrqc 0)) (mode_in r) pool small e

pub beyond_none : PoolsBeyondGetNone
unfolding sorted
beyond_none r frame pool goes_in parted meant b =
    cond-true (passes r frame) (pool_target r frame (chosen_pool r frame)) (Err Filter) goes_in
    ∙ ap (pool_target r frame) (chosen-parted r frame pool parted meant
    ∙ cond-false (has_queues (parting_in r) pool) (cond (takes_frames r pool) (Ok pool) (Err PoolOff)) (Err NoPool)
    (beyond r pool b))

-- ---- who owns the queues

some_of_16 : (code : QueueMode) (pool : ℕ) → has_pools code ≡ true →
    has_queues (parting code mode.Pools16) pool ≡ true → pool < 16
some_of_16 Single pool pools has = cc
some_of_16 Rss pool pools has = cc
some_of_16 Vmdq64 pool pools has = ltb-true pool 16 has
some_of_16 Vmdq32Rss pool pools has = ltb-true pool 16 has
some_of_16 Vmdq64Rss pool pools has = ltb-true pool 16 has

in_sixteen : (code : QueueMode) (pool entry : ℕ) → has_pools code ≡ true →
    queue_of code mode.Pools16 pool entry ≡ pool * 8 + entry % 8
in_sixteen Single pool entry pools = cc
in_sixteen Rss pool entry pools = cc
in_sixteen Vmdq64 pool entry pools = refl
in_sixteen Vmdq32Rss pool entry pools = refl
in_sixteen Vmdq64Rss pool entry pools = refl

pub functions_queues : FunctionsGetTheirs
functions_queues r frame pool t sixteen pools g =
    let code = queue_mode_of (word_of r Mrqc 0) in
    let parted = queue-parted r frame pool t g in
    let small = some_of_16 code pool pools (sym (ap (λ m. has_queues (parting code m) pool) sixteen) ∙ parted.0) in
    let is : t.queue ≡ pool * 8 + rss_entry r frame % 8 =
    by_sixteen r frame pool t code g sixteen refl ∙ in_sixteen code pool (rss_entry r frame) pools in
    let own = placed mode.Pools16 pool (rss_entry r frame % 8) t.queue
    (record { pool = small; own = omega arith; is = is }) in
    ap (λ m. has_queue m pool t.queue) sixteen ∙ ap (is_pool pool) own.pool ∙ eq-eqb pool pool refl
