-- Which frames wait after a receive step.
use Rattle.std.proofs.Common.{◌≡◌, ◌<◌, ◌+◌, Bool, true, false, cond, List, ◌∷◌, length, length-drop, Ok, refl, subst, arith}
use Rattle.std.specs.Prelude.{drop}
use Rattle.datasheet_laws.specs.FramePrelude.{AreWaiting, Filled, IsSound, Outcome, State, Waiting, step_of}
use Rattle.datasheet_laws.proofs.FramePrelude.{both_ways, filled_by, received_cases, takes_piece}
use Rattle.datasheet_laws.specs.Receiving.{AfterPiece, WaitsAfterReceiving, FramesLeaveAtTheirEnd}

abbrev Waits : State → Outcome → Type 0
Waits s o = WaitsAfterReceiving o.reply s.waiting o.state.waiting

module _ (s : State) (h : IsSound s) (w : Waiting) (others : List Waiting) (e : s.waiting ≡ w ∷ others) (f : Filled)
    (is : (filled_by s w).answer ≡ Ok f) where
  piece_waits : (end : Bool) → f.end ≡ end
      → AfterPiece end f.len s.waiting (cond end others (record w { offset = w.offset + f.len } ∷ others))
  piece_waits true ends =
      let taken = takes_piece _ _ _ _ f is in
      let inside = (subst AreWaiting e h.waiting).0.offset in
      let whole = taken.end.0 ends in
      let rest = length-drop w.offset w.frame in
      record { first = w; was = e; whole = omega arith }
  piece_waits false goes_on =
      let taken = takes_piece _ _ _ _ f is in
      let inside = (subst AreWaiting e h.waiting).0.offset in
      let len = taken.len in
      let rest = length-drop w.offset w.frame in
      let part : f.len ≡ length (drop w.offset w.frame) → ⊥ = λ whole. both_ways f.end goes_on (taken.end.1 whole) in
      let left : f.len < length (drop w.offset w.frame) = omega (arith, taken.len) in
      record {
        first = w;
        others = others;
        was = e;
        now = refl;
        some = taken.some (omega arith);
        left = omega arith;
      }

pub leaves_at_end : FramesLeaveAtTheirEnd
unfolding step_of
leaves_at_end s h = received_cases (Waits s) s (record {
  idle = refl;
  dropped = λ w others e why. record { first = w; was = e };
  slotless = λ w others e. record { first = w; was = e };
  fault = λ w others e fault. record { first = w; was = e };
  filled = λ w others e f is. piece_waits s h w others e f is f.end refl;
})
