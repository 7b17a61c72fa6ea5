-- Lemmas about the numbers of pools and queues in each mode.
use Rattle.std.proofs.Common.{◌≡◌, ℕ, ◌+◌, ◌*◌, ◌/◌, ◌%◌, ◌<◌, ◌≤◌, Bool, true, false, cond, ◌&&◌, nat_lt, Some, None, refl, ap, ◌∙◌, arith}
use Rattle.std.specs.Prelude.{nat_le}
use Rattle.std.proofs.lemmas.Bool.{cond-true, lt-ltb, ltb-true}
use Rattle.std.proofs.lemmas.Bool.Decides.{nat_tests}
use Rattle.vf_map.specs.declared.mode.Mode.{Mode}
use Rattle.vf_map.specs.declared.mode.Mode.TheVariants.{Off, Pools16, Pools32, Pools64}
use Rattle.vf_map.specs.Owner.{has_queue}
use Rattle.vf_map.specs.Pools.{pools_in, queues_each, most_queues, pool_of}

-- No mode has more than 64 pools.
pub few_pools : (mode : Mode) (v : ℕ) → v < pools_in mode → v < 64
few_pools Off v h = omega (arith, h)
few_pools Pools16 v h = omega (arith, h)
few_pools Pools32 v h = omega (arith, h)
few_pools Pools64 v h = omega (arith, h)

-- Queue `x` of the pool is queue `queue` of the device.
pub record IsQueue (mode : Mode) (v x queue : ℕ) : Type 0 where
  pub pool : v < pools_in mode
  pub own : x < queues_each mode
  pub is : queue ≡ v * queues_each mode + x

-- The queue belongs to the pool and is below 128, and the vector word that serves the queue is one of the pool's words.
pub record IsPlaced (mode : Mode) (v x queue : ℕ) : Type 0 where
  pub pool : pool_of mode queue ≡ Some v
  pub word : v * queues_each mode / 2 + x / 2 ≡ queue / 2
  pub half : x % 2 ≡ queue % 2
  pub small : queue < 128

some_pool : (queue each v : ℕ) → queue < 128 → queue / each ≡ v
    → (cond (nat_lt queue 128) (Some (queue / each)) None) ≡ Some v
some_pool queue each v small same =
    cond-true (nat_lt queue 128) (Some (queue / each)) None (lt-ltb queue 128 small) ∙ ap (λ n. Some n) same

pub placed : (mode : Mode) (v x queue : ℕ) → IsQueue mode v x queue → IsPlaced mode v x queue
placed Off v x queue i = absurd (omega (arith, i.pool))
placed Pools16 v x queue i =
    let pool = i.pool in
    let own = i.own in
    let is = i.is in
    record {
      pool = some_pool queue 8 v (omega arith) (omega arith);
      word = omega arith;
      half = omega arith;
      small = omega arith;
    }
placed Pools32 v x queue i =
    let pool = i.pool in
    let own = i.own in
    let is = i.is in
    record {
      pool = some_pool queue 4 v (omega arith) (omega arith);
      word = omega arith;
      half = omega arith;
      small = omega arith;
    }
placed Pools64 v x queue i =
    let pool = i.pool in
    let own = i.own in
    let is = i.is in
    record {
      pool = some_pool queue 2 v (omega arith) (omega arith);
      word = omega arith;
      half = omega arith;
      small = omega arith;
    }

-- A queue that has a pool is one of that pool's queues.

record IsSome (b : Bool) (q v : ℕ) : Type 0 where
  is : b ≡ true
  same : q ≡ v

some_of : (b : Bool) (q v : ℕ) → cond b (Some q) None ≡ Some v → IsSome b q v
some_of true q v e = let same : q ≡ v = cc in record { is = refl; same = same }
some_of false q v e = cc

pub queue_of_pool : (mode : Mode) (queue v : ℕ) → pool_of mode queue ≡ Some v
    → IsQueue mode v (queue % queues_each mode) queue
queue_of_pool Off queue v e =
    let small = ltb-true queue 0 (some_of (nat_lt queue 0) _ v e).is in absurd (omega arith)
queue_of_pool Pools16 queue v e =
    let found = some_of (nat_lt queue 128) (queue / 8) v e in
    let small = ltb-true queue 128 found.is in
    let same = found.same in
    record { pool = omega arith; own = omega arith; is = omega arith }
queue_of_pool Pools32 queue v e =
    let found = some_of (nat_lt queue 128) (queue / 4) v e in
    let small = ltb-true queue 128 found.is in
    let same = found.same in
    record { pool = omega arith; own = omega arith; is = omega arith }
queue_of_pool Pools64 queue v e =
    let found = some_of (nat_lt queue 128) (queue / 2) v e in
    let small = ltb-true queue 128 found.is in
    let same = found.same in
    record { pool = omega arith; own = omega arith; is = omega arith }

-- Which queues, and which words for pairs of queues, belong to a pool.

pub has_queue-none : (mode : Mode) (v queue : ℕ) → nat_lt v (pools_in mode) ≡ false → has_queue mode v queue ≡ false
has_queue-none Off v queue e = grind (arith, nat_tests)
has_queue-none Pools16 v queue e = grind (arith, nat_tests)
has_queue-none Pools32 v queue e = grind (arith, nat_tests)
has_queue-none Pools64 v queue e = grind (arith, nat_tests)

pub has_queue-from : (mode : Mode) (v queue : ℕ) → v < pools_in mode
    → has_queue mode v queue
    ≡ (nat_le (v * queues_each mode) queue && nat_lt queue (v * queues_each mode + queues_each mode))
has_queue-from Off v queue small = absurd (omega (arith, small))
has_queue-from Pools16 v queue small = grind (arith, nat_tests)
has_queue-from Pools32 v queue small = grind (arith, nat_tests)
has_queue-from Pools64 v queue small = grind (arith, nat_tests)

pub has_words-from : (mode : Mode) (v i : ℕ) → v < pools_in mode
    → has_queue mode v (2 * i)
    ≡ (nat_le (v * queues_each mode / 2) i && nat_lt i (v * queues_each mode / 2 + queues_each mode / 2))
has_words-from Off v i small = absurd (omega (arith, small))
has_words-from Pools16 v i small = grind (arith, nat_tests)
has_words-from Pools32 v i small = grind (arith, nat_tests)
has_words-from Pools64 v i small = grind (arith, nat_tests)

-- The numbers of queues in each mode.

pub few_each : (mode : Mode) → queues_each mode ≤ most_queues
few_each Off = omega arith
few_each Pools16 = omega arith
few_each Pools32 = omega arith
few_each Pools64 = omega arith

pub all_queues : (mode : Mode) (v x : ℕ) → v < pools_in mode → v * queues_each mode + x % queues_each mode < 128
all_queues Off v x small = absurd (omega (arith, small))
all_queues Pools16 v x small = omega arith
all_queues Pools32 v x small = omega arith
all_queues Pools64 v x small = omega arith
