-- Which queue an accepted frame goes to, by the bits of registers.
use Rattle.std.specs.Prelude.{ℕ, ◌≡◌, ◌≢◌, ◌⊎◌, ◌+◌, ◌*◌, ◌%◌, List, Ok}
use Rattle.datasheet_laws.specs.FramePrelude.{GcrExt, Mrqc, Registers, Target, VtCtl, rss_entry, sorted, word_of}
use Rattle.datasheet_laws.specs.Arrival.{HasPool, PartsAmongPools, receive_bit}
use Rattle.datasheet_laws.specs.Bits.{bit, field}

-- MRQC bits 3 to 0, and GCR_EXT bits 1 to 0.
abbrev pub code_in : Registers → ℕ
code_in r = field 3 0 (word_of r Mrqc 0)

abbrev pub parts_in : Registers → ℕ
parts_in r = field 1 0 (word_of r GcrExt 0)

-- The pool that a frame is for: pool 0 while VT_CTL bit 0 is 0; otherwise its own, which has queues and accepts frames.
abbrev pub IsFor : Registers → List ℕ → ℕ → Type 0
IsFor r frame pool =
    ((bit 0 (word_of r VtCtl 0) ≡ 0) × (pool ≡ 0))
    ⊎ (PartsAmongPools r × HasPool r frame pool × (receive_bit r pool ≡ 1))

-- A frame goes to the queue that MRQC selects. Without one of the four codes, this is queue 0, with type 0 and hash 0,
-- whatever the frame's pool. With code 1, the frame's entry in the redirection table names the queue. With code 8, it
-- is the pool's first queue. With 0xA and 0xB, the entry selects one of the pool's queues. A pool has eight queues if
-- GCR_EXT selects 16 pools; otherwise it has four with 0xA, and two with 8 and 0xB.
pub record GoesByMrqc (r : Registers) (frame : List ℕ) (t : Target) : Type 0 where
  pub pool : ℕ
  pub is_for : IsFor r frame pool
  pub none :
      code_in r ≢ 1 → code_in r ≢ 8 → code_in r ≢ 0xA → code_in r ≢ 0xB → t ≡ record { queue = 0; rss = 0; hash = 0 }
  pub hashing : code_in r ≡ 1 → t.queue ≡ rss_entry r frame
  pub first : parts_in r ≢ 1 → code_in r ≡ 8 → t.queue ≡ 2 * pool
  pub four : parts_in r ≢ 1 → code_in r ≡ 0xA → t.queue ≡ 4 * pool + rss_entry r frame % 4
  pub two : parts_in r ≢ 1 → code_in r ≡ 0xB → t.queue ≡ 2 * pool + rss_entry r frame % 2
  pub first_16 : parts_in r ≡ 1 → code_in r ≡ 8 → t.queue ≡ 8 * pool
  pub eight : parts_in r ≡ 1 → (code_in r ≡ 0xA) ⊎ (code_in r ≡ 0xB) → t.queue ≡ 8 * pool + rss_entry r frame % 8

abbrev pub QueuesGoByMrqc : Type 0
QueuesGoByMrqc = (r : Registers) (frame : List ℕ) (t : Target) → sorted r frame ≡ Ok t → GoesByMrqc r frame t
