-- What a device and both halves of a driver agree on.
use Rattle.std.specs.Prelude.{◌≢◌, IsTrue, List, ℕ}
use Rattle.ring_laws.specs.{Agreeing.Agrees, Steps.Each}
use Rattle.driver_laws.specs.StartPrelude.{Agree, Blocks, Halves, Piece, State, has_lent}

-- No block is lent by both halves.
abbrev pub AreApart : Halves → Type 0
AreApart h = (number : ℕ) → IsTrue (has_lent h.transmit number) → Each h.receive (λ b. b ≢ number)

-- `mine` contains all blocks that the halves have lent.
pub record AreLent (mine : Blocks) (h : Halves) : Type 0 where
  pub receive : Each h.receive (λ b. IsTrue (mine b))
  pub transmit : (number : ℕ) → IsTrue (has_lent h.transmit number) → IsTrue (mine number)

-- The device agrees with each half, counting the pieces received and the frames sent since some earlier point.
pub record BothAgree (queue : ℕ) (s : State) (out : List Piece) (sent : List (List ℕ)) (h : Halves) : Type 0 where
  pub receive : Agree queue s out h.receive
  pub transmit : Agrees s queue sent h.transmit
  pub apart : AreApart h
