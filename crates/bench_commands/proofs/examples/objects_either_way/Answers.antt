use Rattle.std.proofs.Common.{refl}
use Rattle.clap.proofs.OnLiterals.{clap_on_literals}
use Rattle.bench_commands.proofs.examples.objects_either_way.Goals as goal

pub returns : goal.returns
unfolding clap_on_literals
returns c = record {
  object = record { faultless = refl; asked = refl };
  script =
      record { faultless = refl; asked = refl };
}
