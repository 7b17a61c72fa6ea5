-- Lemmas about data strings that were read: their number, their contents and their encoding.
use Rattle.std.proofs.Common.{◌≡◌, ℕ, zero, suc, List, [], ◌∷◌, ◌++◌, length, drop, Option, Some, None, refl, sym, ap, subst, ◌∙◌, append_assoc}
use Rattle.std.specs.List.{AllByRecursion, flat_map}
use Rattle.std.specs.Int.{w16, to_le_bytes}
use Rattle.program.specs.Bytes.{number16_at}
use Rattle.program.specs.Listing.{IsDataString}
use Rattle.program.specs.Object.{string_in, strings_in, before_strings, bytes_of_string}
use Rattle.program.proofs.Pieces.{Small, Small-drop, piece16}
use Rattle.program.proofs.Sound.{IsSplit, string_in-split}

-- What holds for the data strings `strings` that were read from `bytes`.
pub record AreRead (count : ℕ) (bytes : List ℕ) (strings : List (List ℕ)) : Type 0 where
  pub number : length strings ≡ count
  pub each : AllByRecursion IsDataString strings
  pub spelled : Small bytes → bytes ≡ flat_map bytes_of_string strings

split_spelled : (bytes string more : List ℕ) → Small bytes → IsSplit bytes string more
    → bytes ≡ bytes_of_string string ++ more
split_spelled bytes string more small split =
    piece16 bytes 0 2 small refl split.long ∙ ap (λ size. to_le_bytes w16 size ++ drop 2 bytes) (sym split.size)
    ∙ ap (λ rest. to_le_bytes w16 (length string) ++ rest) (sym split.spelled)
    ∙ sym (append_assoc (to_le_bytes w16 (length string)) string more)

one_more : (count : ℕ) (bytes string more : List ℕ) (strings : List (List ℕ)) → IsSplit bytes string more →
    more ≡ drop (number16_at bytes 0) (drop 2 bytes) → AreRead count more strings
    → AreRead (suc count) bytes (string ∷ strings)
one_more count bytes string more strings split after read = record {
  number = ap suc read.number;
  each = (record { some = split.some; short = split.short }, read.each);
  spelled = λ small.
      let rest = subst Small (sym after) (Small-drop (number16_at bytes 0) (drop 2 bytes) (Small-drop 2 bytes small))
      in
      split_spelled bytes string more small split ∙ ap (λ rest. bytes_of_string string ++ rest) (read.spelled rest);
}

some_some : {A : Type 0} {x y : A} → Some x ≡ Some y → x ≡ y
some_some is = cc

joined : (count : ℕ) (bytes string more : List ℕ) (strings : List (List ℕ)) → IsSplit bytes string more →
    more ≡ drop (number16_at bytes 0) (drop 2 bytes) → (rest : Option (List (List ℕ))) →
    ((rest_strings : List (List ℕ)) → rest ≡ Some rest_strings → AreRead count more rest_strings) →
    before_strings string rest ≡ Some strings → AreRead (suc count) bytes strings
joined count bytes string more strings split after None read is = let no : None ≡ Some strings = is in cc
joined count bytes string more strings split after (Some rest) read is =
    subst (AreRead (suc count) bytes) (some_some is)
    (one_more count bytes string more rest split after (read rest refl))

pub strings_in-read : (count : ℕ) (bytes : List ℕ) (strings : List (List ℕ)) → strings_in count bytes ≡ Some strings
    → AreRead count bytes strings
unfolding strings_in
strings_in-read zero [] strings is =
    subst (AreRead 0 []) (some_some is) (record { number = refl; each = tt; spelled = λ small. refl })
strings_in-read zero (byte ∷ bytes) strings is = let no : None ≡ Some strings = is in cc
strings_in-read (suc count) bytes strings is = of_split (string_in bytes) (λ more. strings_in-read count more) refl is
  where
    of_split : (split : Option (List ℕ × List ℕ)) →
        ((more : List ℕ) (rest : List (List ℕ)) → strings_in count more ≡ Some rest → AreRead count more rest) →
        string_in bytes ≡ split →
        elim split [ None ↦ None | Some string ↦ before_strings string.0 (strings_in count string.1) ] ≡ Some strings →
        AreRead (suc count) bytes strings
    of_split None read found is = let no : None ≡ Some strings = is in cc
    of_split (Some split) read found is =
        let cut = string_in-split bytes split.0 split.1 found in
        joined count bytes split.0 split.1 strings cut.0 cut.1 (strings_in count split.1) (read split.1) is
