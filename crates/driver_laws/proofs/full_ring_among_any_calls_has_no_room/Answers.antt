use Rattle.driver_laws.proofs.Reported.{full_lacks, none_lacks, room, runs}
use Rattle.driver_laws.proofs.{Beside.own_again, Prelude.Moment, Prelude.ap, Prelude.last, Prelude.sym, Prelude.◌∙◌}

pub returns : Rattle.driver_laws.proofs.full_ring_among_any_calls_has_no_room.Goals.returns
returns c = record {
  reported = λ q size frame old a m later ahead own n p x.
      let t = own_again x in
      full_lacks size (last m later) n (runs t.reported).rings p
      (ap (λ (z : Moment). z.driver.rings) (sym t.ends) ∙ (runs t.reported).up) (room t.reported);
  none = λ q size frame old a m later ahead own n p x.
      let t = own_again x in
      none_lacks size (last m later) n (runs t.reported).rings p
      (ap (λ (z : Moment). z.driver.rings) (sym t.ends) ∙ (runs t.reported).up) (room t.reported);
}
