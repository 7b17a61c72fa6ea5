use Rattle.std.proofs.Common.{refl}
use Rattle.clap.proofs.OnLiterals.{clap_on_literals}
use Rattle.bench_commands.proofs.examples.refused_threads.Goals as goal

pub returns : goal.returns
unfolding clap_on_literals
returns c = record {
  no_worker = refl;
  nine_workers = refl;
  many_frames = refl;
  without_workers = refl;
  without_frames = refl;
}
