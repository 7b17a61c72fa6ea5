use Rattle.std.proofs.Common.{◌≡◌, ◌∙◌, refl, codes}
use Rattle.clap.specs.Words.{found_of, rows_of}
use Rattle.bench_commands.specs.Asked.{option_in}
use Rattle.bench_commands.proofs.OptionNumbers.{option_read}
use Rattle.bench_commands.proofs.threads_options.threads_options_in.Goals as goal

pub returns : goal.returns
returns c =
    let f = found_of c.args.matches.now in
    let workers : c.unwrap_or.result ≡ option_in 8 (codes "workers") (rows_of f) =
    c.unwrap_or.ensures ∙ option_read 8 (codes "workers") f c.get_one.result c.get_one.ensures.none
    c.get_one.ensures.value in
    let frames : c.unwrap_or-2.result ≡ option_in 8 (codes "frames") (rows_of f) =
    c.unwrap_or-2.ensures ∙ option_read 8 (codes "frames") f c.get_one-2.result c.get_one-2.ensures.none
    c.get_one-2.ensures.value in
    rw (workers, frames) refl
