-- The sides of a queue on which nothing was received or sent since they were enabled.
use Rattle.std.specs.Prelude.{[], ◌≡◌, IsTrue, List, None, Some, ℕ}
use Rattle.ring_laws.specs.TransmitUp.{IsUp}
use Rattle.driver_laws.specs.StartPrelude.{Entry, Rx, State, Tx, is_on, leads_to, pieces_since, sent_since}
use Rattle.ring_laws.specs.ReceiveUp as receiving

-- If a side is on after these entries, nothing was received or sent since it was last enabled.
pub record AreUnused (queue : ℕ) (s : State) (done : List Entry) : Type 0 where
  pub receive :
      IsTrue (is_on (leads_to s done).registers Rx queue) → pieces_since queue s None done ≡ Some []
  pub transmit : IsTrue (is_on (leads_to s done).registers Tx queue) → sent_since queue s [] done ≡ []

-- Both sides were enabled by these entries, with no request to disable them pending, and nothing has been received or
-- sent since.
pub record WentOn (queue : ℕ) (s : State) (done : List Entry) : Type 0 where
  pub received : pieces_since queue s None done ≡ Some []
  pub sent : sent_since queue s [] done ≡ []
  pub receives : receiving.IsUp queue (leads_to s done)
  pub sends : IsUp queue (leads_to s done)
