-- Lemmas about positions around a driver's ring.
use Rattle.std.proofs.Common.{◌≡◌, ◌≢◌, ℕ, ◌+◌, ◌<◌, arith}
use Rattle.std.proofs.lemmas.Bool.Decides.{nat_tests}
use Rattle.device_lock.specs.NicDevice.DmaRing.Ring.{next_of}
use Rattle.pmd_access.specs.Slots.{wrapped}

pub wrapped_below : (size at : ℕ) → at < size + size → wrapped size at < size
wrapped_below size at h = grind (arith, nat_tests)

pub wrapped_apart : (size slot i j : ℕ) → slot < size → i < size → j < size → i ≢ j
    → wrapped size (slot + i) ≢ wrapped size (slot + j)
wrapped_apart size slot i j n a b ne e = ne (grind (arith, nat_tests))

-- The next slot is within the ring.

pub next_below : (size slot : ℕ) → slot < size → next_of size slot < size
next_below size slot h = grind (arith, nat_tests)

pub wrapped_next : (size slot k : ℕ) → slot < size → k < size
    → wrapped size (next_of size slot + k) ≡ wrapped size (slot + (k + 1))
wrapped_next size slot k n h = grind (arith, nat_tests)
