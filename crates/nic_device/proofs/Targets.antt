-- Where a frame goes, and what descriptors report about it.
use Rattle.std.proofs.Common.{◌≡◌, ℕ, ◌^◌, ◌<◌, true, List, Option, Some, None, Ok, Err, refl, subst, arith}
use Rattle.std.specs.Prelude.{⊤, Result}
use Rattle.std.specs.Prelude.{◌==◌}
use Rattle.std.proofs.lemmas.Bool.{cond_both, ltb-true}
use Rattle.register_file.specs.RssHash.Choice.{code_of}
use Rattle.register_file.specs.RssHash.Mrqc.{queue_mode_of}
use Rattle.register_file.specs.RssHash.Registers.{entry_of}
use Rattle.register_file.specs.RssHash.declared.mrqc.QueueMode.{QueueMode}
use Rattle.register_file.specs.RssHash.declared.mrqc.QueueMode.TheVariants as code
use Rattle.register_file.specs.VfMap.declared.mode.Mode.{Mode}
use Rattle.register_file.specs.VfMap.declared.mode.Mode.TheVariants.{Off, Pools16, Pools32, Pools64}
use Rattle.register_file.proofs.VfMap.Numbers.{all_queues}
use Rattle.register_file.specs.RegTable.declared.rows.RowId.TheVariants.{Rxcsum, Mrqc, Reta}
use Rattle.register_file.specs.Bits.{has_bit}
use Rattle.register_file.specs.Pools.{mode_in}
use Rattle.register_file.specs.Registers.{Registers, word_of}
use Rattle.register_file.specs.Words.{row_words}
use Rattle.rx_filter.specs.Address.{passes}
use Rattle.rx_filter.specs.Pools.{uses_pools, selected_pool, parting, parting_in, has_queues, takes_frames, checked_pool, chosen_pool}
use Rattle.rx_filter.specs.Sorting.{queue_of, rss_hash, rss_entry, rss_type, target_of, pool_target, sorted}
use Rattle.rx_filter.specs.declared.target.Target.{Target}
use Rattle.rx_filter.specs.declared.unwanted.Unwanted.{Unwanted}
use Rattle.rx_filter.specs.declared.unwanted.Unwanted.TheVariants.{Filter, PoolOff}
use Rattle.nic_device.proofs.Cases.{either_way}
use Rattle.nic_device.specs.Sound.{IsTypeNumber}
use Rattle.nic_device.proofs.Hashes.{hash-lt, unhashed}

abbrev Chosen : Mode → Result ℕ Unwanted → Type 0
Chosen parted (Ok pool) = has_queues parted pool ≡ true
Chosen parted (Err why) = ⊤

Chosen-checked : (r : Registers) (o : Option ℕ) → Chosen (parting_in r) (checked_pool r o)
Chosen-checked r None = tt
Chosen-checked r (Some pool) =
    let parted = parting_in r in
    cond_both (has_queues parted pool) _ _ (Chosen parted)
    (λ has. either_way (Chosen parted) (takes_frames r pool) (Ok pool) (Err PoolOff) has tt)
    (λ none. tt)

has_first : (parted : Mode) → has_queues parted 0 ≡ true
has_first Off = refl
has_first other = refl

Chosen-pool : (r : Registers) (frame : List ℕ) → Chosen (parting_in r) (chosen_pool r frame)
unfolding chosen_pool
Chosen-pool r frame =
    either_way (Chosen (parting_in r)) (uses_pools r) (checked_pool r (selected_pool r frame)) (Ok 0)
    (Chosen-checked r (selected_pool r frame)) (has_first (parting_in r))

-- The frame's queue is below 128.
queue-lt : (c : QueueMode) (m : Mode) (pool entry : ℕ) → has_queues (parting c m) pool ≡ true → entry < 16
    → queue_of c m pool entry < 128
queue-lt code.Single m pool entry has small = omega arith
queue-lt code.Rss m pool entry has small = omega arith
queue-lt code.Vmdq64 Pools16 pool entry has small = all_queues Pools16 pool entry (ltb-true pool 16 has)
queue-lt code.Vmdq64 other pool entry has small = all_queues Pools64 pool entry (ltb-true pool 64 has)
queue-lt code.Vmdq32Rss Pools16 pool entry has small = all_queues Pools16 pool entry (ltb-true pool 16 has)
queue-lt code.Vmdq32Rss other pool entry has small = all_queues Pools32 pool entry (ltb-true pool 32 has)
queue-lt code.Vmdq64Rss Pools16 pool entry has small = all_queues Pools16 pool entry (ltb-true pool 16 has)
queue-lt code.Vmdq64Rss other pool entry has small = all_queues Pools64 pool entry (ltb-true pool 64 has)

entry-lt : (table : List ℕ) (hash : ℕ) → entry_of table hash < 16
unfolding entry_of
entry-lt table hash = omega arith

-- Where a frame goes, and what its descriptors report: the queue is below 128, the RSS type exists, and the hash is a
-- 32-bit word, 0 without a type.
pub record IsSmall (t : Target) : Type 0 where
  pub queue : t.queue < 128
  pub rss : IsTypeNumber t.rss
  pub hash : t.hash < 2 ^ 32
  pub unhashed : t.rss ≡ 0 → t.hash ≡ 0

abbrev Small : Result Target Unwanted → Type 0
Small (Ok t) = IsSmall t
Small (Err why) = ⊤

pool_target-small : (r : Registers) (frame : List ℕ) (pool : Result ℕ Unwanted)
    → Chosen (parting_in r) pool → Small (pool_target r frame pool)
unfolding target_of
pool_target-small r frame (Ok pool) has = record {
  queue = queue-lt (queue_mode_of (word_of r Mrqc 0)) (mode_in r) pool (rss_entry r frame) has
      (either_way (λ (n : ℕ). n < 16) (code_of (rss_type r frame) == 0) 0
      (entry_of (row_words r.words Reta) (rss_hash r frame)) (omega arith) (entry-lt _ _));
  hash = either_way (λ (h : ℕ). h < 2 ^ 32) (has_bit 13 (word_of r Rxcsum 0)) (rss_hash r frame) 0 (hash-lt _ _)
      (omega arith);
  rss = (rss_type r frame, refl);
  unhashed = λ none. either_way (λ (h : ℕ). h ≡ 0) (has_bit 13 (word_of r Rxcsum 0)) (rss_hash r frame) 0
      (unhashed _ _ (rss_type r frame) none) refl;
}
pool_target-small r frame (Err why) has = tt

target-small : (r : Registers) (frame : List ℕ) → Small (sorted r frame)
unfolding sorted
target-small r frame =
    either_way Small (passes r frame) (pool_target r frame (chosen_pool r frame)) (Err Filter)
    (pool_target-small r frame (chosen_pool r frame) (Chosen-pool r frame)) tt

pub sorted-small : (r : Registers) (frame : List ℕ) (t : Target) → sorted r frame ≡ Ok t → IsSmall t
sorted-small r frame t is = subst Small is (target-small r frame)
