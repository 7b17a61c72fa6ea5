use Rattle.std.proofs.Common.{rules}
use Rattle.pmd_driver.proofs.Driving.{done_later, err_later}
use Rattle.pmd_driver.proofs.Leaving.{home_accepted, home_handed, stops_accepted}
use Rattle.pmd_driver.proofs.driver.Pmd.start.Goals as goal

pub returns-in-Ok : goal.returns-in-Ok
returns-in-Ok g c =
    let x = c.bring_up.result in
    let starts = rw c.in-Ok.ensures.named.queue at c.bring_up.ensures.starts in
    let stops = rw c.in-Ok.ensures.named.queue at c.bring_up.ensures.stops in
    record {
      shut = rw c.in-Ok.ensures.named.open_way tt;
      started = done_later x (λ p s. s.started) starts;
      stops = err_later x (λ e s none. s.stops) stops;
      late = err_later x (λ e s none. s.late) stops;
      none = done_later x (λ p s. s.none) starts;
      left = err_later x (λ e s. s.none) stops;
      accepted = err_later x (λ e s. stops_accepted _ _ _ _ _ _ e s.stops) stops;
      blocks = done_later x (λ p s. s.all) starts;
      whole = err_later x (λ e s. s.whole) stops;
      began = c.bring_up.ensures.asks.began;
      refuses = c.bring_up.ensures.asks.refuses;
      refusal = search rules;
    }

pub returns-in-Err-clause-left : goal.returns-in-Err-clause-left
returns-in-Err-clause-left g c = home_handed _ _ c.at_home.ensures.rest

pub returns-in-Err-clause-accepted : goal.returns-in-Err-clause-accepted
returns-in-Err-clause-accepted g c = home_accepted _ _ c.at_home.ensures.rest

pub returns-in-Err-clause-refusal : goal.returns-in-Err-clause-refusal
returns-in-Err-clause-refusal g c = rw c.at_home.ensures.fault (c.in-Err.ensures.refusal _)
