use Rattle.driver_laws.proofs.Prelude.{Moment, Reported, [], ap, append-nil, sym, ◌++◌, ◌∙◌}
use Rattle.driver_laws.proofs.{Faultless.FindsDuring, Faultless.burst_during, Faultless.none_during, Prelude.Call}
use Rattle.driver_laws.proofs.{Prelude.List}
use Rattle.driver_laws.{proofs.Reported.goes, proofs.Reported.up_next, specs.Faultless.IsReportedApart, specs.Reported.now}

none_reported : (x : Reported) (n : Moment) → IsReportedApart x n → FindsDuring (goes x).rings (now x).made n.made → ⊥
none_reported x n y during =
    none_during x y.fresh y.others _ n.made y.more during
    (λ since all. y.made ∙ ap (λ (l : List Call). l ++ y.more) all)

pub returns : Rattle.driver_laws.proofs.no_call_finds_the_device_at_fault.Goals.returns
returns c = record {
  finds = λ x n finds y.
      let (s, up, f) = up_next _ (now x).driver.rings n.driver.rings (goes x).rings (goes x).up finds in
      none_reported x n y (n.made, [], sym (append-nil n.made), f);
  meets = λ x n meets y.
      let (s, up, sends) = up_next _ (now x).driver.rings n.driver.rings (goes x).rings (goes x).up meets in
      none_reported x n y (burst_during (goes x).rings s (now x).made n.made sends);
}
