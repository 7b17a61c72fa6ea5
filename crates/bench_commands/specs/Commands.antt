-- The commands and options of `nicbench`, in the terms of clap's contracts.
use Rattle.std.specs.Prelude.{[], ◌∷◌, ◌-◌, ◌^◌, Some, codes, pos, true}
use Rattle.clap.specs.Words.{App, Rule, Text, new_app, new_rule, with_rule, with_subcommand}
use Rattle.clap.specs.declared.builder.action.ArgAction.TheVariants as action
use Rattle.clap.specs.declared.builder.value_parser.ValueParser.{ValueParser}
use Rattle.clap.specs.declared.builder.value_parser.ValueParser.TheVariants as parser

-- `--name N`, with the accepted numbers and the default.
abbrev pub number_rule : Text → ValueParser → Text → Rule
number_rule name numbers default = record (new_rule name) {
  long = Some name;
  value_names = 1;
  parser = Some numbers;
  defaults = default ∷ [];
}

abbrev pub vfs_rule : Rule
vfs_rule = number_rule (codes "vfs") (parser.Signed (pos 0) (pos 255)) (codes "0")

abbrev pub fifo_rule : Rule
fifo_rule = number_rule (codes "fifo") (parser.Signed (pos 0) (pos 65535)) (codes "64")

abbrev pub limit_rule : Rule
limit_rule = number_rule (codes "limit") (parser.Unsigned 0 (2 ^ 64 - 1)) (codes "100000")

-- `run` with its options.
abbrev pub run_app : App
run_app = with_rule (with_rule (with_rule (new_app (codes "run")) vfs_rule) fifo_rule) limit_rule

-- `debug` with its options.
abbrev pub debug_app : App
debug_app = with_rule (with_rule (new_app (codes "debug")) vfs_rule) fifo_rule

-- `hash`, which has no options.
abbrev pub hash_app : App
hash_app = new_app (codes "hash")

-- `asm` and `dis`, which have no options.
abbrev pub asm_app : App
asm_app = new_app (codes "asm")

abbrev pub dis_app : App
dis_app = new_app (codes "dis")

-- `--load`, which takes no value.
abbrev pub load_rule : Rule
load_rule = record (new_rule (codes "load")) { long = Some (codes "load"); action = Some action.SetTrue }

-- `eeprom` with its flag.
abbrev pub eeprom_app : App
eeprom_app = with_rule (new_app (codes "eeprom")) load_rule

-- `--name N`, which is required, with the accepted numbers.
abbrev pub needed_rule : Text → ValueParser → Rule
needed_rule name numbers = record (new_rule name) {
  long = Some name;
  value_names = 1;
  parser = Some numbers;
  required = true;
}

abbrev pub workers_rule : Rule
workers_rule = needed_rule (codes "workers") (parser.Signed (pos 1) (pos 8))

abbrev pub frames_rule : Rule
frames_rule = needed_rule (codes "frames") (parser.Signed (pos 0) (pos 60))

-- `threads` with its options.
abbrev pub threads_app : App
threads_app = with_rule (with_rule (new_app (codes "threads")) workers_rule) frames_rule

-- `nicbench` without its commands. It requires a command and has a version.
abbrev pub bare_app : App
bare_app = let a = new_app (codes "nicbench") in record a {
  top = record a.top {
    has_version = true;
    subcommand_required = true;
    arg_required_else_help = true;
  };
}

-- `nicbench` with its commands.
abbrev pub nicbench_app : App
nicbench_app = with_subcommand (with_subcommand (with_subcommand (with_subcommand (with_subcommand (with_subcommand
    (with_subcommand bare_app run_app.top) hash_app.top) eeprom_app.top) asm_app.top) dis_app.top) debug_app.top)
    threads_app.top
