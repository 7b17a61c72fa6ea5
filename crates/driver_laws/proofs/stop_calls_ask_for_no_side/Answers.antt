use Rattle.driver_laws.proofs.StopCalls.{failed_takes, stop_takes, takes_ends}

pub returns : Rattle.driver_laws.proofs.stop_calls_ask_for_no_side.Goals.returns
returns c = record {
  stops = λ q old h new home x. takes_ends q old new (stop_takes q old h new home x);
  fails = λ f q old h new left x. takes_ends q old new (failed_takes q old h new f left x);
}
