-- The request that arguments make.
use Rattle.std.specs.Prelude.{◌≡◌, ℕ, Bool, List, [], ◌∷◌, Option, Some, None, ◌^◌, ◌&&◌, codes, false, length, nat_lt, option_and_then, option_map, if◌then◌else◌}
use Rattle.std.specs.List.{list_all}
use Rattle.std.specs.Option.{option_map_or}
use Rattle.std.specs.Char.{digit_value}
use Rattle.std.specs.Str.{bytes_eq}
use Rattle.std.specs.Str.Parse.{digits_value, without_leading_plus}
use Rattle.clap.specs.Kinds.{Kinds, or_else}
use Rattle.clap.specs.Words.{Row, Text, fault_of, one_of, subcommand_of}
use Rattle.clap.specs.declared.error.ErrorKind.TheVariants as kind
use Rattle.bench_commands.specs.Commands.{nicbench_app}
use Rattle.bench_commands.specs.declared.debug_options.DebugOptions.{DebugOptions}
use Rattle.bench_commands.specs.declared.request.Asked.{Asked}
use Rattle.bench_commands.specs.declared.request.Asked.TheVariants.{Input, Threads}
use Rattle.bench_commands.specs.declared.request.BytesRequest.TheVariants.{Dis, LoadEeprom}
use Rattle.bench_commands.specs.declared.request.Request.{Request}
use Rattle.bench_commands.specs.declared.request.Request.TheVariants.{Bytes as OfBytes, Text as OfText}
use Rattle.bench_commands.specs.declared.request.TextRequest.TheVariants.{Asm, Debug, Eeprom, Hash, Run}
use Rattle.bench_commands.specs.declared.run_options.RunOptions.{RunOptions}
use Rattle.bench_commands.specs.declared.threads_options.ThreadsOptions.{ThreadsOptions}

-- Whether the string consists of decimal digits, at least one, and spells a number below 2^`bits`.
abbrev pub is_number_of : ℕ → Text → Bool
is_number_of bits digits = nat_lt 0 (length digits)
    && (list_all (λ d. nat_lt (digit_value d) 10) digits && nat_lt (digits_value 10 digits) (2 ^ bits))

-- The number that a string spells, with or without a leading plus sign. Clap accepts no other string.
abbrev pub number_in : ℕ → Text → ℕ
number_in bits text = let digits = without_leading_plus text in
    if is_number_of bits digits then digits_value 10 digits else 0

-- The number that clap matched for an option; 0 if there is none.
abbrev pub option_in : ℕ → Text → List Row → ℕ
option_in bits name rows = option_map_or (number_in bits) (one_of name rows) 0

-- The options that clap matched for `run`.
abbrev pub options_of : List Row → RunOptions
options_of rows = record {
  vfs = option_in 8 (codes "vfs") rows;
  fifo = option_in 16 (codes "fifo") rows;
  limit = option_in 64 (codes "limit") rows;
}

-- The options that clap matched for `debug`.
abbrev pub debug_options_of : List Row → DebugOptions
debug_options_of rows = record {
  vfs = option_in 8 (codes "vfs") rows;
  fifo = option_in 16 (codes "fifo") rows;
}

-- The options that clap matched for `threads`.
abbrev pub threads_options_of : List Row → ThreadsOptions
threads_options_of rows = record {
  workers = option_in 8 (codes "workers") rows;
  frames = option_in 8 (codes "frames") rows;
}

-- Whether a flag is given.
abbrev pub flag_in : Text → List Row → Bool
flag_in name rows = option_map_or (λ text. bytes_eq text (codes "true")) (one_of name rows) false

-- The request that clap matched for `eeprom`.
abbrev pub eeprom_of : List Row → Request
eeprom_of rows = if flag_in (codes "load") rows then OfBytes LoadEeprom else OfText Eeprom

-- The request of the command with this name and these matches, if the command reads its input.
abbrev pub request_of : Text → List Row → Option Request
request_of name rows = if bytes_eq name (codes "run") then Some (OfText (Run (options_of rows)))
    else if bytes_eq name (codes "debug") then Some (OfText (Debug (debug_options_of rows)))
    else if bytes_eq name (codes "hash") then Some (OfText Hash)
    else if bytes_eq name (codes "asm") then Some (OfText Asm)
    else if bytes_eq name (codes "dis") then Some (OfBytes Dis)
    else if bytes_eq name (codes "eeprom") then Some (eeprom_of rows)
    else None

-- The request of the command with this name and these matches, whether or not the command reads its input.
abbrev pub asked_of : Text → List Row → Option Asked
asked_of name rows = if bytes_eq name (codes "threads") then Some (Threads (threads_options_of rows))
    else option_map Input (request_of name rows)

-- Clap finds no fault in the arguments, and the command in the arguments makes this request.
pub record Asks (words : List Text) (what : Asked) : Type 0 where
  pub faultless : fault_of nicbench_app words ≡ []
  pub asked : option_and_then (λ command. asked_of command.0 command.1) (subcommand_of nicbench_app words)
      ≡ Some what

-- The kinds of error that clap may return for arguments that make no request: a refusal, or a request for the help or
-- the version. If clap finds no fault in such arguments, their command is unknown.
abbrev pub refusal_of : List Text → Kinds
refusal_of words = or_else (fault_of nicbench_app words) (kind.InvalidSubcommand ∷ [])
