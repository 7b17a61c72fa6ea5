use Rattle.std.proofs.Common.{refl}
use Rattle.clap.proofs.OnLiterals.{clap_on_literals}
use Rattle.bench_commands.proofs.examples.shown_texts.Goals as goal

pub returns : goal.returns
unfolding clap_on_literals
returns c = record {
  help = refl;
  help_of_run = refl;
  help_of_debug = refl;
  help_of_hash = refl;
  version = refl;
}
