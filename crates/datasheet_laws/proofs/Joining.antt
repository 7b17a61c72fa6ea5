-- Where an arriving frame waits.
use Rattle.std.proofs.Common.{List, ℕ, refl}
use Rattle.datasheet_laws.specs.FramePrelude.{Outcome, State, let_in, step_of}
use Rattle.datasheet_laws.proofs.FramePrelude.{arrived_cases}
use Rattle.datasheet_laws.specs.Arrival.{WaitsAfterArriving, FramesJoinLast}

abbrev Waits : State → List ℕ → Outcome → Type 0
Waits s frame o = WaitsAfterArriving s frame o.reply o.state

pub joins_last : FramesJoinLast
unfolding step_of
joins_last s frame = arrived_cases (Waits s frame) s frame (record {
  dropped = λ why. refl;
  short = refl;
  long = refl;
  missed = refl;
  joined = λ t is room enough within. record {
    last = let_in frame t;
    waiting = refl;
    bytes = refl;
    unbegun = refl;
    target = t;
    goes = is;
    queue = refl;
    hash = refl;
    rss = refl;
  };
})
