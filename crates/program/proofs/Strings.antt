-- Lemmas about reading data strings one after another.
use Rattle.std.proofs.Common.{◌≡◌, ◌==◌, true, false, length, ℕ, suc, List, [], ◌∷◌, ◌++◌, Option, Some, None, refl, sym, ap, ◌∙◌, append_assoc, arith, eqb-true}
use Rattle.std.proofs.lemmas.List.{append-nil}
use Rattle.std.specs.Option.{option_map}
use Rattle.program.specs.Object.{string_in, strings_in, before_strings}

-- The data strings that were already read, followed by the remaining data strings.
abbrev pub after : List (List ℕ) → Option (List (List ℕ)) → Option (List (List ℕ))
after strings more = option_map (λ more. strings ++ more) more

pub after-none : (more : Option (List (List ℕ))) → after [] more ≡ more
after-none None = refl
after-none (Some more) = refl

after-one : (strings : List (List ℕ)) (string : List ℕ) (more : Option (List (List ℕ))) →
    after strings (before_strings string more) ≡ after (strings ++ string ∷ []) more
after-one strings string None = refl
after-one strings string (Some more) = ap (λ all. Some all) (sym (append_assoc strings (string ∷ []) more))

-- The next data string, followed by the data strings after it.
abbrev next : ℕ → Option (List ℕ × List ℕ) → Option (List (List ℕ))
next rest None = None
next rest (Some split) = before_strings split.0 (strings_in rest split.1)

next-is : (rest : ℕ) (bytes : List ℕ) (split : Option (List ℕ × List ℕ)) → split ≡ string_in bytes
    → strings_in (suc rest) bytes ≡ next rest split
unfolding strings_in
next-is rest bytes None is = ap (λ split. elim split
    [ None ↦ None | Some string ↦ before_strings string.0 (strings_in rest string.1) ]) (sym is)
next-is rest bytes (Some s) is =
    ap (λ split. elim split [ None ↦ None | Some string ↦ before_strings string.0 (strings_in rest string.1) ]) (sym is)

pub after-more : (strings : List (List ℕ)) (left rest : ℕ) (bytes string more : List ℕ) → left ≡ suc rest →
    Some (string, more) ≡ string_in bytes →
    after strings (strings_in left bytes) ≡ after (strings ++ string ∷ []) (strings_in rest more)
after-more strings left rest bytes string more is split =
    ap (λ left. after strings (strings_in left bytes)) is ∙ ap (after strings) (next-is rest bytes _ split)
    ∙ after-one strings string (strings_in rest more)

pub after-stopped : (strings : List (List ℕ)) (left rest : ℕ) (bytes : List ℕ) → left ≡ suc rest →
    None ≡ string_in bytes → after strings (strings_in left bytes) ≡ None
after-stopped strings left rest bytes is split =
    ap (λ left. after strings (strings_in left bytes)) is ∙ ap (after strings) (next-is rest bytes _ split)

pub after-all : (strings : List (List ℕ)) (bytes : List ℕ) → true ≡ (length bytes == 0)
    → after strings (strings_in 0 bytes) ≡ Some strings
unfolding strings_in
after-all strings [] is = rw (append-nil strings) refl
after-all strings (byte ∷ bytes) is = absurd (omega (arith, eqb-true (length (byte ∷ bytes)) 0 (sym is)))

pub after-too_long : (strings : List (List ℕ)) (bytes : List ℕ) → false ≡ (length bytes == 0)
    → after strings (strings_in 0 bytes) ≡ None
unfolding strings_in
after-too_long strings [] is = cc
after-too_long strings (byte ∷ bytes) is = refl
