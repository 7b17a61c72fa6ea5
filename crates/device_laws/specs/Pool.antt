-- What belongs to a virtual function: only its pool.
use Rattle.std.specs.Prelude.{ℕ, ◌≡◌, ◌≢◌, ◌⊎◌, ◌/◌, ◌%◌, ◌^◌, IsTrue, IsFalse, List, [], filter}
use Rattle.nic_device.specs.RegTable.declared.rows.RowId.TheVariants.{GcrExt, Pvfctrl}
use Rattle.nic_device.specs.RegisterLaws.Footprint.{Footprint, ChangesWithin, AgreeWithin, pool_agrees, pool_changes, pool_renews}
use Rattle.nic_device.specs.RegisterLaws.PoolReset.{IsResetAt}
use Rattle.nic_device.specs.declared.event.Event.TheVariants as event
use Rattle.device_laws.specs.Prelude.{IsSound, Mode, Place, Port, Register, State, Vf, Waiting, after, asks_pool_reset}
use Rattle.device_laws.specs.Prelude.{has_queue, is_stopped, mode_in, named, others_waiting, reply_to, row_of}
use Rattle.device_laws.specs.Prelude.{staged_by, word_of}

-- The frames in the receive list for a pool's queues, in order.
abbrev pub waiting_of : Mode → ℕ → List Waiting → List Waiting
waiting_of mode v waiting = filter (λ w. has_queue mode v w.queue) waiting

-- Only the registers in a footprint, the staged bytes of a pool's queues, and the frames in the receive list for these
-- queues may change. Everything else is unchanged: the other registers, the other frames in their order, memory,
-- transmitted frames, the link, the image and the configuration.
pub record ChangesAlone (has : Mode → ℕ → Footprint) (v : ℕ) (old new : State) : Type 0 where
  pub registers : ChangesWithin (has (mode_in old.registers) v) old.registers new.registers
  pub staged : (queue : ℕ) → IsFalse (has_queue (mode_in old.registers) v queue)
      → staged_by new queue ≡ staged_by old queue
  pub waiting : others_waiting (mode_in old.registers) v new.waiting
      ≡ others_waiting (mode_in old.registers) v old.waiting
  pub memory : new.memory ≡ old.memory
  pub out : new.out ≡ old.out
  pub link : new.link ≡ old.link
  pub image : new.image ≡ old.image
  pub vfs : new.vfs ≡ old.vfs
  pub fifo : new.fifo ≡ old.fifo

-- Of the registers, only these change: the pool's, the bits in PFMBICR with which its function signals the physical
-- function, and EICR bit 19.
abbrev pub ChangesPoolAlone : ℕ → State → State → Type 0
ChangesPoolAlone v old new = ChangesAlone pool_changes v old new

-- A virtual function's access changes only the function's pool and the bits that signal the physical function.
pub record AccessesChangePoolAlone (s : State) (v offset : ℕ) : Type 0 where
  pub read : ChangesPoolAlone v s (after s (event.Read (Vf v) offset))
  pub write : (word : ℕ) → ChangesPoolAlone v s (after s (event.Write (Vf v) offset word))

abbrev pub VfChangesItsPoolAlone : Type 0
VfChangesItsPoolAlone = (s : State) (v offset : ℕ) → AccessesChangePoolAlone s v offset

-- The staged bytes and the receive list are unchanged, even those of the pool.
pub record KeepsFrames (old new : State) : Type 0 where
  pub staged : new.staged ≡ old.staged
  pub waiting : new.waiting ≡ old.waiting

-- The write requests no pool reset: its register isn't PVFCTRL, or bit 26 of the word is 0.
abbrev pub AsksNoPoolReset : State → (v offset word : ℕ) → Type 0
AsksNoPoolReset s v offset word =
    (p : Place) (view : ℕ) → named s (Vf v) offset ≡ Register p view → (p.row ≢ Pvfctrl) ⊎ (word / 2 ^ 26 % 2 ≡ 0)

-- A virtual function's access leaves the frames of every pool unchanged, including its own, unless it requests a reset
-- of its pool.
pub record AccessesKeepFrames (s : State) (v offset : ℕ) : Type 0 where
  pub read : KeepsFrames s (after s (event.Read (Vf v) offset))
  pub write : (word : ℕ) → AsksNoPoolReset s v offset word
      → KeepsFrames s (after s (event.Write (Vf v) offset word))

abbrev pub VfKeepsFramesButByReset : Type 0
VfKeepsFramesButByReset = (s : State) (v offset : ℕ) → AccessesKeepFrames s v offset

-- Two states agree on a pool: on what belongs to it, the number of virtual functions, GCR_EXT, whether the device takes
-- steps, and the link.
pub record AgreeOnPool (v : ℕ) (a b : State) : Type 0 where
  pub vfs : a.vfs ≡ b.vfs
  pub mode : word_of a.registers GcrExt 0 ≡ word_of b.registers GcrExt 0
  pub steps : is_stopped a.registers ≡ is_stopped b.registers
  pub link : a.link ≡ b.link
  pub registers : AgreeWithin (pool_agrees (mode_in a.registers) v) a.registers b.registers
  pub staged : (queue : ℕ) → IsTrue (has_queue (mode_in a.registers) v queue) → staged_by a queue ≡ staged_by b queue
  pub waiting : waiting_of (mode_in a.registers) v a.waiting ≡ waiting_of (mode_in a.registers) v b.waiting

-- Each access by a virtual function gets the same reply in both states, and the states still agree afterwards.
pub record AccessesAgree (v : ℕ) (a b : State) (offset : ℕ) : Type 0 where
  pub read_reply : reply_to a (event.Read (Vf v) offset) ≡ reply_to b (event.Read (Vf v) offset)
  pub read : AgreeOnPool v (after a (event.Read (Vf v) offset)) (after b (event.Read (Vf v) offset))
  pub write_reply : (word : ℕ)
      → reply_to a (event.Write (Vf v) offset word) ≡ reply_to b (event.Write (Vf v) offset word)
  pub write : (word : ℕ) → AgreeOnPool v (after a (event.Write (Vf v) offset word))
      (after b (event.Write (Vf v) offset word))

abbrev pub VfSeesItsPoolAlone : Type 0
VfSeesItsPoolAlone =
    (v : ℕ) (a b : State) → IsSound a → IsSound b → AgreeOnPool v a b → (offset : ℕ) → AccessesAgree v a b offset

-- A pool after its reset. The register bits that the reset covers, the pool's enable requests and its reported bits
-- have their reset values, and its queues have no staged bytes. The receive list contains only the frames for other
-- queues, in order. Everything else is unchanged.
pub record IsPoolReset (v : ℕ) (old new : State) : Type 0 where
  pub alone : ChangesAlone pool_renews v old new
  pub registers : IsResetAt (pool_renews (mode_in old.registers) v) new.registers
  pub staged : (queue : ℕ) → IsTrue (has_queue (mode_in old.registers) v queue) → staged_by new queue ≡ []
  pub waiting : new.waiting ≡ others_waiting (mode_in old.registers) v old.waiting

-- A write that requests a pool reset, through either port, resets the pool with the register's index and has no other
-- effect.
abbrev pub AskedPoolResetResets : Type 0
AskedPoolResetResets =
    (s : State) → IsSound s → (port : Port) (number word : ℕ) (p : Place) (view : ℕ) →
    named s port number ≡ Register p view → IsTrue (asks_pool_reset (row_of p.row).kind word) →
    IsPoolReset p.index s (after s (event.Write port number word))
