use Rattle.driver_laws.proofs.Refused.{left_in_order, sends_nothing}

pub returns : Rattle.driver_laws.proofs.refused_start_sends_nothing.Goals.returns
returns c = record {
  sent = λ x.
      sends_nothing x.course x.never x.along x.before x.following x.first x.split x.own x.steps x.stepped x.ahead
      x.quiet
      x.since x.rest x.all x.calls;
  left = λ x.
      left_in_order x.course x.never x.along x.before x.following x.first x.split x.own x.steps x.stepped x.ahead
      x.quiet
      x.since x.rest x.all x.calls;
}
