-- Lemmas about the result of `get_one` for a flag.
use Rattle.std.proofs.Common.{ap, refl, sym, ◌≡◌, Bool, true, false, Option, Some, None, Result, unwrap_or, codes}
use Rattle.std.specs.Option.{option_map_or}
use Rattle.std.specs.Str.{bytes_eq}
use Rattle.std.specs.Str.Parse.{ParsesBool}
use Rattle.std.specs.declared.str.ParseBoolError.{ParseBoolError}
use Rattle.std.proofs.lemmas.Bool.{false_from_ne_true}
use Rattle.std.proofs.lemmas.Slice.Eq.{bytes_eq-Decides}
use Rattle.clap.specs.Words.{ReadsOne, Text, one_text, rows_of}
use Rattle.clap.specs.declared.parser.matches.Found.{Found}
use Rattle.clap.proofs.WalkLemmas.{one_text-rows}
use Rattle.bench_commands.specs.Asked.{flag_in}

-- How `parse` reads a flag.
abbrev Reads : Text → Result Bool ParseBoolError → Type 0
Reads text r = ParsesBool text r

flag_text : (text : Text) (r : Option Bool) → ReadsOne Reads text r → unwrap_or r false ≡ bytes_eq text (codes "true")
flag_text text (Some true) reads = sym ((bytes_eq-Decides text (codes "true")).1 reads)
flag_text text (Some false) reads = rw reads refl
flag_text text None reads = sym (false_from_ne_true _ (λ is. reads.1.0 ((bytes_eq-Decides text (codes "true")).0 is)))

-- The typed getter's result for a flag.
pub flag_read : (name : Text) (f : Found) (r : Option Bool) → (one_text f name ≡ None → r ≡ None)
    → ((t : Text) → one_text f name ≡ Some t → ReadsOne Reads t r) → unwrap_or r false ≡ flag_in name (rows_of f)
flag_read name f r none value = rw (sym (one_text-rows f name)) (go (one_text f name) refl)
  where
    go : (o : Option Text) → one_text f name ≡ o
        → unwrap_or r false ≡ option_map_or (λ text. bytes_eq text (codes "true")) o false
    go None is = ap (λ x. unwrap_or x false) (none is)
    go (Some text) is = flag_text text r (value text is)
