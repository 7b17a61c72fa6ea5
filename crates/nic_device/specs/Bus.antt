-- Bus address ranges, and the events that read and write them 16 bytes at a time.
use Rattle.std.specs.Prelude.{ℕ, zero, suc, ◌≡◌, ◌+◌, List, [], ◌∷◌, ◌++◌, take, drop, replicate}
use Rattle.rx_ring.specs.DmaArena.Block.{Block}
use Rattle.nic_device.specs.Run.{replies_of, state_after}
use Rattle.nic_device.specs.State.{State}
use Rattle.nic_device.specs.declared.event.Event.{Event}
use Rattle.nic_device.specs.declared.event.Event.TheVariants as event
use Rattle.nic_device.specs.declared.event.Reply.{Reply}
use Rattle.nic_device.specs.declared.event.Reply.TheVariants as reply

-- n peeks, 16 bytes apart, starting at an address.
abbrev pub peeks : ℕ → ℕ → List (Event Block)
peeks a zero = []
peeks a (suc n) = event.Peek16 a ∷ peeks (a + 16) n

-- n pokes, 16 bytes apart, starting at an address. Each writes the next 16 of the bytes.
abbrev pub pokes : ℕ → List ℕ → ℕ → List (Event Block)
pokes a bytes zero = []
pokes a bytes (suc n) = event.Poke16 a (take 16 bytes) ∷ pokes (a + 16) (drop 16 bytes) n

-- The bytes in the replies, concatenated.
abbrev pub reported_bytes : List (Reply Block) → List ℕ
reported_bytes [] = []
reported_bytes (reply.Bytes bytes ∷ replies) = bytes ++ reported_bytes replies
reported_bytes (other ∷ replies) = reported_bytes replies

-- n consecutive peeks change nothing and return these bytes.
pub record PeeksTell (s : State) (a n : ℕ) (bytes : List ℕ) : Type 0 where
  pub state : state_after s (peeks a n) ≡ s
  pub reported : reported_bytes (replies_of s (peeks a n)) ≡ bytes

-- n consecutive pokes of these bytes all succeed and leave this state.
pub record PokesLead (s : State) (a n : ℕ) (bytes : List ℕ) (t : State) : Type 0 where
  pub state : state_after s (pokes a bytes n) ≡ t
  pub made : replies_of s (pokes a bytes n) ≡ replicate n reply.Done
