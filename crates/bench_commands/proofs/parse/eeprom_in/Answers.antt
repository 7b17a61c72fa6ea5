use Rattle.std.proofs.Common.{◌∙◌, ◌≡◌, codes, refl, sym, true, false}
use Rattle.clap.specs.Words.{found_of, rows_of}
use Rattle.bench_commands.specs.Asked.{flag_in}
use Rattle.bench_commands.proofs.Flags.{flag_read}
use Rattle.bench_commands.proofs.parse.eeprom_in.Goals as goal

pub returns-then-is_load : goal.returns-then-is_load
returns-then-is_load c =
    let read = flag_read (codes "load") (found_of c.args.matches.now) c.get_one.result c.get_one.ensures.none
    c.get_one.ensures.value in
    let is : flag_in (codes "load") (rows_of (found_of c.args.matches.now)) ≡ true =
    sym read ∙ sym c.unwrap_or-is_load.ensures ∙ c.if-is_load.true in
    rw is refl

pub returns-else-is_load : goal.returns-else-is_load
returns-else-is_load c =
    let read = flag_read (codes "load") (found_of c.args.matches.now) c.get_one.result c.get_one.ensures.none
    c.get_one.ensures.value in
    let is : flag_in (codes "load") (rows_of (found_of c.args.matches.now)) ≡ false =
    sym read ∙ sym c.unwrap_or-is_load.ensures ∙ c.if-is_load.false in
    rw is refl
