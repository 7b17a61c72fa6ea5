use Rattle.std.proofs.Common.{◌≡◌, ◌∙◌, refl, codes}
use Rattle.clap.specs.Words.{found_of, rows_of}
use Rattle.bench_commands.specs.Asked.{option_in}
use Rattle.bench_commands.proofs.OptionNumbers.{option_read}
use Rattle.bench_commands.proofs.run_options.options_in.Goals as goal

pub returns : goal.returns
returns c =
    let f = found_of c.args.matches.now in
    let vfs : c.unwrap_or.result ≡ option_in 8 (codes "vfs") (rows_of f) =
    c.unwrap_or.ensures ∙ option_read 8 (codes "vfs") f c.get_one.result c.get_one.ensures.none c.get_one.ensures.value
    in
    let fifo : c.unwrap_or-2.result ≡ option_in 16 (codes "fifo") (rows_of f) =
    c.unwrap_or-2.ensures ∙ option_read 16 (codes "fifo") f c.get_one-2.result c.get_one-2.ensures.none
    c.get_one-2.ensures.value in
    let limit : c.unwrap_or-3.result ≡ option_in 64 (codes "limit") (rows_of f) =
    c.unwrap_or-3.ensures ∙ option_read 64 (codes "limit") f c.get_one-3.result c.get_one-3.ensures.none
    c.get_one-3.ensures.value in
    rw (vfs, fifo, limit) refl
