use Rattle.driver_laws.proofs.{Prelude.last, Reported.full_lacks, Reported.none_lacks, Reported.room, Reported.runs}

pub returns : Rattle.driver_laws.proofs.full_ring_has_no_room.Goals.returns
returns c = record {
  reported = λ q size frame old a m later n p x. full_lacks size (last m later) n (runs x).rings p (runs x).up (room x);
  none = λ q size frame old a m later n p x. none_lacks size (last m later) n (runs x).rings p (runs x).up (room x);
}
