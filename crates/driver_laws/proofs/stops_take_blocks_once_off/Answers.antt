use Rattle.driver_laws.proofs.StopCalls.{stop_takes, takes_then}
use Rattle.driver_laws.proofs.{Prelude.IsAsking, Prelude.inl, Prelude.none_made, Prelude.refl, StopCalls.failed_takes}

pub returns : Rattle.driver_laws.proofs.stops_take_blocks_once_off.Goals.returns
returns c = record {
  none = λ q old. inl (none_made (IsAsking q) old old refl);
  stops = λ q old mid h new home x before. takes_then q old mid new before (stop_takes q mid h new home x);
  fails = λ f q old mid h new left x before. takes_then q old mid new before (failed_takes q mid h new f left x);
}
