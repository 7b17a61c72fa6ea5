use Rattle.std.proofs.Common.{refl}
use Rattle.clap.proofs.OnLiterals.{clap_on_literals}
use Rattle.bench_commands.proofs.examples.run_alone.Goals as goal

pub returns : goal.returns
unfolding clap_on_literals
returns c = record { faultless = refl; asked = refl }
