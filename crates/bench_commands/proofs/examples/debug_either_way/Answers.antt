use Rattle.std.proofs.Common.{refl}
use Rattle.clap.proofs.OnLiterals.{clap_on_literals}
use Rattle.bench_commands.proofs.examples.debug_either_way.Goals as goal

pub returns : goal.returns
unfolding clap_on_literals
returns c = record {
  alone = record { faultless = refl; asked = refl };
  with_options =
      record { faultless = refl; asked = refl };
}
