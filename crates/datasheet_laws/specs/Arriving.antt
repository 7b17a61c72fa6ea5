-- Which pools may receive frames, according to VFRE.
use Rattle.std.specs.Prelude.{ℕ, ◌≡◌, ◌≢◌, ◌⊎◌, ◌<◌, ◌*◌, ◌/◌, ◌%◌, List, [], ◌∷◌, ◌++◌, IsTrue, Some}
use Rattle.nic_device.specs.RxFilter.Pools.{selected_pool}
use Rattle.nic_device.specs.declared.event.Event.TheVariants as event
use Rattle.datasheet_laws.specs.Prelude.{Done, IsSound, State, Waiting, after, reply_to}
use Rattle.datasheet_laws.specs.Queues.{pool_bit_at}
use Rattle.datasheet_laws.specs.Shown.{read_at, reads_one}
use Rattle.datasheet_laws.specs.Steps.{mode_address}

-- MRQC bits 3 to 0.
abbrev pub queue_mode : State → ℕ
queue_mode s = read_at s 0x05818 % 16

-- GCR_EXT bits 1 to 0.
abbrev pub pool_mode : State → ℕ
pool_mode s = read_at s mode_address % 4

-- A queue belongs to pool p, whose bit in VFRE is 1. The code in MRQC bits 3 to 0 selects the queue. With code 8, it is
-- queue 2p; with 10, one of queues 4p to 4p + 3; with 11, queue 2p or 2p + 1. If GCR_EXT selects 16 pools, it is queue
-- 8p with 8, and one of queues 8p to 8p + 7 with 10 or 11. With any other code, except 1 (RSS without pools), it is
-- queue 0.
pub record IsOfOpenPool (s : State) (queue pool : ℕ) : Type 0 where
  pub small : pool < 64
  pub on : IsTrue (pool_bit_at s 0x051E0 pool)
  pub single : pool_mode s ≢ 1 → queue_mode s ≡ 8 → queue ≡ 2 * pool
  pub four : pool_mode s ≢ 1 → queue_mode s ≡ 10 → queue / 4 ≡ pool
  pub two : pool_mode s ≢ 1 → queue_mode s ≡ 11 → queue / 2 ≡ pool
  pub single_16 : pool_mode s ≡ 1 → queue_mode s ≡ 8 → queue ≡ 8 * pool
  pub eight : pool_mode s ≡ 1 → (queue_mode s ≡ 10) ⊎ (queue_mode s ≡ 11) → queue / 8 ≡ pool
  pub none : queue_mode s ≢ 1 → queue_mode s ≢ 8 → queue_mode s ≢ 10 → queue_mode s ≢ 11 → queue ≡ 0

-- The frame was appended to the receive list, and waits for a queue of its pool as defined above. The pool is the
-- lowest pool of the first address that is its destination, or the default pool.
pub record JoinsOpenPool (s : State) (arrived : List ℕ) (new : State) : Type 0 where
  pub frame : Waiting
  pub bytes : frame.frame ≡ arrived
  pub pool : ℕ
  pub meant : selected_pool s.registers arrived ≡ Some pool
  pub joins : new.waiting ≡ s.waiting ++ frame ∷ []
  pub is_of : IsOfOpenPool s frame.queue pool

-- While VT_CTL bit 0 is 1, every accepted frame is appended to the receive list for a queue of its pool, and the pool's
-- bit of VFRE is 1.
abbrev pub VfreLetsIntoPools : Type 0
VfreLetsIntoPools =
    (s : State) → IsSound s → IsTrue (reads_one s 0x051B0 0) → (frame : List ℕ) →
    reply_to s (event.Arrive frame) ≡ Done → JoinsOpenPool s frame (after s (event.Arrive frame))
