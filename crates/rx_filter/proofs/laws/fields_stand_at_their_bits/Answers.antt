use Rattle.std.proofs.Common.{refl}
use Rattle.rx_filter.proofs.laws.fields_stand_at_their_bits.Goals as goal

pub returns : goal.returns
returns c = record {
  fctrl = (refl, (refl, refl));
  mcstctrl = (refl, refl);
  rah = refl;
  vt_ctl = (refl, (refl, refl));
  rxcsum = refl;
}
