-- What a link change raises, and which frame a `Collect` returns.
use Rattle.std.specs.Prelude.{ℕ, ◌≡◌, ◌≢◌, ◌<◌, Bool, List, [], ◌∷◌}
use Rattle.nic_device.specs.declared.event.Event.TheVariants as event
use Rattle.nic_device.specs.declared.event.Reply.TheVariants.{Done, Idle, Frame}
use Rattle.datasheet_laws.specs.FramePrelude.{Eicr, IsSound, State, after, gives, reply_to, step_of, word_of}
use Rattle.datasheet_laws.specs.Bits.{bit}

-- The link has the requested state, bit 20 of EICR is 1, and its other bits 30 to 0 are unchanged.
pub record RaisesLink (s : State) (up : Bool) (new : State) : Type 0 where
  pub link : new.link ≡ up
  pub raised : bit 20 (word_of new.registers Eicr 0) ≡ 1
  pub others : (n : ℕ) → n < 31 → n ≢ 20 → bit n (word_of new.registers Eicr 0) ≡ bit n (word_of s.registers Eicr 0)

-- Setting the link to its current state is idle and raises nothing; a change raises cause 20.
pub record SetsLink (s : State) (up : Bool) : Type 0 where
  pub same : s.link ≡ up → step_of s (event.Link up) ≡ gives Idle s
  pub reply : s.link ≢ up → reply_to s (event.Link up) ≡ Done
  pub changed : s.link ≢ up → RaisesLink s up (after s (event.Link up))

abbrev pub LinkChangesRaise : Type 0
LinkChangesRaise = (s : State) → IsSound s → (up : Bool) → SetsLink s up

-- A `Collect` returns the oldest transmitted frame and removes the frame from the list. If and only if the list is
-- empty, the `Collect` is idle.
pub record Collects (s : State) : Type 0 where
  pub none : s.out ≡ [] → step_of s event.Collect ≡ gives Idle s
  pub oldest :
      (queue : ℕ) (frame : List ℕ) (others : List (ℕ × List ℕ)) → s.out ≡ (queue, frame) ∷ others
      → step_of s event.Collect ≡ gives (Frame queue frame) (record s { out = others })

abbrev pub OldestIsCollected : Type 0
OldestIsCollected = (s : State) → Collects s
