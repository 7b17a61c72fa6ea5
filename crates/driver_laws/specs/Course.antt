-- A driver's start, and the history over which its queue is watched.
use Rattle.std.specs.Prelude.{ℕ, ◌≡◌, List, []}
use Rattle.driver_laws.specs.StartPrelude.{Numbers, State, Watched, Call, Entry, AtPort, delivered, bytes_of}
use Rattle.driver_laws.specs.StartPrelude.{sent_since}
use Rattle.pmd_driver.specs.PmdAccess.Packet.{Kept}
use Rattle.ring_laws.specs.Delivered as receive
use Rattle.ring_laws.specs.Laws as transmit

-- A driver is started with an arena, after some calls of its pass. The driver's queue is watched over a history that
-- begins in some state.
pub record Course : Type 0 where
  pub w : Watched
  pub origin : State
  pub h : List Entry
  pub q : AtPort
  pub size : ℕ
  pub frame : ℕ
  pub old : List Call
  pub a : Numbers

-- What was handed out is a prefix of what was delivered on the queue since its receive side was last enabled.
abbrev pub IsHandedInOrder : Course → List Kept → Type 0
IsHandedInOrder c handed = receive.IsPrefixOf handed (delivered c.w.queue c.origin c.h)

-- What was sent on the queue since its transmit side was last enabled is a prefix of what was accepted, or all of it.

abbrev pub IsSentInOrder : Course → List Kept → Type 0
IsSentInOrder c accepted = transmit.IsPrefixOf (sent_since c.w.queue c.origin [] c.h) (bytes_of accepted)

abbrev pub IsAllSent : Course → List Kept → Type 0
IsAllSent c accepted = bytes_of accepted ≡ sent_since c.w.queue c.origin [] c.h
