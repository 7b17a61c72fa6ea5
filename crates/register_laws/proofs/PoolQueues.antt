-- Lemmas about the queues of a pool, counted from the pool's first queue.
use Rattle.std.proofs.Common.{◌≡◌, ℕ, zero, suc, ◌+◌, ◌*◌, ◌/◌, ◌<◌, Bool, false, ◌==◌, nat_lt, ◌&&◌, ◌||◌, ap, sym, ◌∙◌, arith}
use Rattle.std.specs.Prelude.{nat_le}
use Rattle.register_file.specs.VfMap.Pools.{pools_in, queues_each}
use Rattle.register_file.proofs.VfMap.Numbers.{has_queue-from, has_words-from}
use Rattle.register_laws.specs.Prelude.{Mode, has_queue, range_with_len}
use Rattle.register_laws.proofs.Prelude.{nat_tests}
use Rattle.register_laws.specs.Footprint.{Footprint, nothing, either}
use Rattle.register_laws.proofs.Renewed.{any_of}

-- An equality test gives the same result with its operands swapped.
pub turned : (a b : ℕ) → (a == b) ≡ (b == a)
turned a b = grind (arith, nat_tests)

-- Whether a number is among the `count` numbers that start at the first.
abbrev pub among : (first count i : ℕ) → Bool
among first zero i = false
among first (suc count) i = (first == i) || among (first + 1) count i

among-is : (count first i : ℕ) → among first count i ≡ (nat_le first i && nat_lt i (first + count))
among-is zero first i = grind (arith, nat_tests)
among-is (suc count) first i =
    ap (λ b. (first == i) || b) (among-is count (first + 1) i) ∙ grind (arith, nat_tests)

-- The pool's queues, and the words with the pool's vectors, begin with the pool's first.
pub queues-among : (mode : Mode) (v i : ℕ) → v < pools_in mode
    → among (v * queues_each mode) (queues_each mode) i ≡ has_queue mode v i
queues-among mode v i small =
    among-is (queues_each mode) (v * queues_each mode) i ∙ sym (has_queue-from mode v i small)

pub words-among : (mode : Mode) (v i : ℕ) → v < pools_in mode
    → among (v * queues_each mode / 2) (queues_each mode / 2) i ≡ has_queue mode v (2 * i)
words-among mode v i small =
    among-is (queues_each mode / 2) (v * queues_each mode / 2) i ∙ sym (has_words-from mode v i small)

-- The union of footprints over numbers, each with only its own number and only some kinds.

both_of : (a b kind : Bool) → ((a && kind) || (b && kind)) ≡ ((a || b) && kind)
both_of a b kind = grind arith

pub any-among : (f : ℕ → Footprint) (has : Footprint → Bool) (i : ℕ) (kind : Bool)
    → has nothing ≡ false → ((g h : Footprint) → has (either g h) ≡ (has g || has h))
    → ((n : ℕ) → has (f n) ≡ ((n == i) && kind))
    → (count first : ℕ) → has (any_of f (range_with_len first count)) ≡ (among first count i && kind)
any-among f has i kind none parts own zero first = none
any-among f has i kind none parts own (suc count) first =
    parts (f first) (any_of f (range_with_len (first + 1) count))
    ∙ ap (λ b. b || has (any_of f (range_with_len (first + 1) count))) (own first)
    ∙ ap (λ b. ((first == i) && kind) || b) (any-among f has i kind none parts own count (first + 1))
    ∙ both_of (first == i) (among (first + 1) count i) kind
