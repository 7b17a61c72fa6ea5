-- The target of a frame with a single queue, and which pools receive frames.
use Rattle.std.proofs.Common.{◌≡◌, ℕ, ◌==◌, Bool, true, false, cond, List, []}
use Rattle.std.proofs.Common.{Option, Some, None, Ok, Err, refl, sym, ap, ◌∙◌, arith}
use Rattle.std.specs.Prelude.{Result}
use Rattle.std.proofs.lemmas.Bool.{cond-true, cond-false}
use Rattle.register_file.specs.RegTable.declared.rows.RowId.TheVariants.{Mrqc, Reta, Rssrk, Rxcsum}
use Rattle.register_file.specs.Bits.{has_bit}
use Rattle.register_file.specs.Registers.{Registers, word_of}
use Rattle.register_file.specs.Words.{row_words}
use Rattle.register_file.specs.Pools.{mode_in}
use Rattle.register_file.specs.VfMap.declared.mode.Mode.{Mode}
use Rattle.register_file.specs.VfMap.declared.mode.Mode.TheVariants.{Pools16}
use Rattle.register_file.specs.RssHash.Choice.{code_of, rss_type_of, hashed_part, first_enabled}
use Rattle.register_file.specs.RssHash.Flow.{flow_of}
use Rattle.register_file.specs.RssHash.Mrqc.{queue_mode_of, is_hashing}
use Rattle.register_file.specs.RssHash.Registers.{bytes_of_registers, entry_of}
use Rattle.register_file.specs.RssHash.Toeplitz.{toeplitz_hash}
use Rattle.register_file.specs.RssHash.declared.choice.RssType.{RssType}
use Rattle.register_file.specs.RssHash.declared.choice.RssType.TheVariants.{NoHash}
use Rattle.register_file.specs.RssHash.declared.flow.Flow.{Flow}
use Rattle.register_file.specs.RssHash.declared.mrqc.QueueMode.{QueueMode}
use Rattle.register_file.specs.RssHash.declared.mrqc.QueueMode.TheVariants.{Single, Rss, Vmdq64, Vmdq32Rss, Vmdq64Rss}
use Rattle.rx_filter.specs.Address.{passes}
use Rattle.rx_filter.specs.Pools.{uses_pools, takes_frames, parting_in, has_queues, checked_pool, selected_pool, chosen_pool}
use Rattle.rx_filter.specs.Sorting.{queue_of, rss_type, rss_entry, target_of, pool_target, sorted}
use Rattle.rx_filter.specs.Laws.{has_pools, pool_of_queue}
use Rattle.rx_filter.specs.Fields.{PCSD}
use Rattle.rx_filter.specs.declared.target.Target.{Target}
use Rattle.rx_filter.specs.declared.unwanted.Unwanted.{Unwanted}
use Rattle.rx_filter.specs.declared.unwanted.Unwanted.TheVariants.{Filter, NoPool, PoolOff}

-- ---- a single queue

pub type-unhashed : (mrqc : ℕ) (flow : Flow) (code : QueueMode) → queue_mode_of mrqc ≡ code → is_hashing code ≡ false
    → rss_type_of mrqc flow ≡ NoHash
unfolding rss_type_of
type-unhashed mrqc flow code is none =
    ap (λ mode. cond (is_hashing mode) (first_enabled mrqc flow) NoHash) is
    ∙ cond-false (is_hashing code) (first_enabled mrqc flow) NoHash none

hash-nothing : (key : List ℕ) → toeplitz_hash key [] ≡ 0
unfolding toeplitz_hash
hash-nothing key = refl

cond-same : (b : Bool) (n : ℕ) → cond b n n ≡ n
cond-same true n = refl
cond-same false n = refl

target-single : (r : Registers) (frame : List ℕ) → queue_mode_of (word_of r Mrqc 0) ≡ Single →
    target_of r frame 0 ≡ record { queue = 0; rss = 0; hash = 0 }
unfolding target_of
target-single r frame single =
    let key = bytes_of_registers (row_words r.words Rssrk) in
    let tells = has_bit PCSD (word_of r Rxcsum 0) in
    let hash = λ (type : RssType). toeplitz_hash key (hashed_part type (flow_of frame).input) in
    let entry = λ (type : RssType).
    cond (code_of type == 0) 0 (entry_of (row_words r.words Reta) (hash type)) in
    let target : QueueMode → RssType → Target = λ mode type.
    record { queue = queue_of mode (mode_in r) 0 (entry type); rss = code_of type; hash = cond tells (hash type) 0 } in
    let none : cond tells (toeplitz_hash key []) 0 ≡ 0 =
    ap (λ n. cond tells n 0) (hash-nothing key) ∙ cond-same tells 0 in
    ap (λ mode. target mode (rss_type r frame)) single
    ∙ ap (target Single) (type-unhashed (word_of r Mrqc 0) (flow_of frame) Single single refl)
    ∙ (λ k. record { queue = 0; rss = 0; hash = none k })

pub sorted-single : (r : Registers) (frame : List ℕ) → uses_pools r ≡ false →
    queue_mode_of (word_of r Mrqc 0) ≡ Single → passes r frame ≡ true →
    sorted r frame ≡ Ok (record { queue = 0; rss = 0; hash = 0 })
unfolding sorted chosen_pool
sorted-single r frame whole single goes_in =
    cond-true (passes r frame) (pool_target r frame (chosen_pool r frame)) (Err Filter) goes_in
    ∙ ap (pool_target r frame) (cond-false (uses_pools r) (checked_pool r (selected_pool r frame)) (Ok 0) whole)
    ∙ ap Ok (target-single r frame single)

-- ---- pools

pool-queue_of : (code : QueueMode) (mode : Mode) (pool entry : ℕ) → has_pools code ≡ true →
    pool_of_queue code mode (queue_of code mode pool entry) ≡ pool
pool-queue_of Single mode pool entry e = cc
pool-queue_of Rss mode pool entry e = cc
pool-queue_of Vmdq64 Pools16 pool entry e = omega arith
pool-queue_of Vmdq64 other pool entry e = omega arith
pool-queue_of Vmdq32Rss Pools16 pool entry e = omega arith
pool-queue_of Vmdq32Rss other pool entry e = omega arith
pool-queue_of Vmdq64Rss Pools16 pool entry e = omega arith
pool-queue_of Vmdq64Rss other pool entry e = omega arith

taken-of_ok : (has takes : ℕ → Bool) (p pool : ℕ) (b c : Bool) → has p ≡ b → takes p ≡ c →
    cond b (cond c (Ok p) (Err PoolOff)) (Err NoPool) ≡ Ok pool → takes pool ≡ true
taken-of_ok has takes p pool true true eb ec e = let same : p ≡ pool = cc in ap takes (sym same) ∙ ec
taken-of_ok has takes p pool true false eb ec e = cc
taken-of_ok has takes p pool false c eb ec e = cc

taken-checked : (r : Registers) (o : Option ℕ) (pool : ℕ) → checked_pool r o ≡ Ok pool →
    takes_frames r pool ≡ true
taken-checked r None pool e = cc
taken-checked r (Some p) pool e =
    taken-of_ok (has_queues (parting_in r)) (takes_frames r) p pool _ _ refl refl e

taken-target : (r : Registers) (frame : List ℕ) (chosen : Result ℕ Unwanted) (t : Target) →
    ((pool : ℕ) → chosen ≡ Ok pool → takes_frames r pool ≡ true) →
    has_pools (queue_mode_of (word_of r Mrqc 0)) ≡ true → pool_target r frame chosen ≡ Ok t →
    takes_frames r (pool_of_queue (queue_mode_of (word_of r Mrqc 0)) (mode_in r) t.queue) ≡ true
unfolding target_of
taken-target r frame (Err why) t taken pools e = cc
taken-target r frame (Ok pool) t taken pools e =
    let same : target_of r frame pool ≡ t = cc in
    let code = queue_mode_of (word_of r Mrqc 0) in
    ap (λ (u : Target). takes_frames r (pool_of_queue code (mode_in r) u.queue)) (sym same)
    ∙ ap (takes_frames r) (pool-queue_of code (mode_in r) pool (rss_entry r frame) pools)
    ∙ taken pool refl

pub sorted-let_in : (b : Bool) (found : Result Target Unwanted) (t : Target) → cond b found (Err Filter) ≡ Ok t →
    found ≡ Ok t
sorted-let_in true found t e = e
sorted-let_in false found t e = cc

pub taken-sorted : (r : Registers) (frame : List ℕ) (t : Target) → uses_pools r ≡ true →
    has_pools (queue_mode_of (word_of r Mrqc 0)) ≡ true → sorted r frame ≡ Ok t →
    takes_frames r (pool_of_queue (queue_mode_of (word_of r Mrqc 0)) (mode_in r) t.queue) ≡ true
unfolding sorted chosen_pool
taken-sorted r frame t parted pools e =
    let chosen : chosen_pool r frame ≡ checked_pool r (selected_pool r frame) =
    cond-true (uses_pools r) (checked_pool r (selected_pool r frame)) (Ok 0) parted in
    taken-target r frame (chosen_pool r frame) t
    (λ pool f. taken-checked r (selected_pool r frame) pool (sym chosen ∙ f)) pools
    (sorted-let_in (passes r frame) (pool_target r frame (chosen_pool r frame)) t e)
