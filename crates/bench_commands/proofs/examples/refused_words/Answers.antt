use Rattle.std.proofs.Common.{refl}
use Rattle.clap.proofs.OnLiterals.{clap_on_literals}
use Rattle.bench_commands.proofs.examples.refused_words.Goals as goal

pub returns : goal.returns
unfolding clap_on_literals
returns c = record {
  beyond = refl;
  twice = refl;
  further = refl;
  further_than_hash = refl;
  limit_of_debug = refl;
  load_twice = refl;
  load_with_a_value = refl;
  unknown = refl;
  none = refl;
}
