-- Lemmas about the numbers that statements give to names.
use Rattle.std.proofs.Common.{◌≡◌, refl, sym, ◌∙◌, ap, ℕ, suc, ◌+◌, Bool, true, false, cond, List, [], ◌∷◌, ◌++◌, length, Option, Some, None, arith, add-zero}
use Rattle.std.proofs.lemmas.Slice.Eq.{bytes_eq-Decides}
use Rattle.script_asm.specs.Prelude.{bytes_eq}
use Rattle.script_asm.specs.Laws.{strings_in, drafts_in, label_from, data_from}
use Rattle.script_asm.specs.declared.statements.Statement.{Statement}
use Rattle.script_asm.specs.declared.statements.Statement.TheVariants.{Empty, Label, Data, Instruction}

-- The first value if it is present, otherwise the second.
abbrev pub or_else : Option ℕ → Option ℕ → Option ℕ
or_else (Some x) other = Some x
or_else None other = other

pub or_else-None : (o : Option ℕ) → or_else o None ≡ o
or_else-None (Some x) = refl
or_else-None None = refl

cond-or_else : (b : Bool) (n : ℕ) (o other : Option ℕ)
    → cond b (Some n) (or_else o other) ≡ or_else (cond b (Some n) o) other
cond-or_else true n o other = refl
cond-or_else false n o other = refl

moved : (n k : ℕ) → n + 1 + k ≡ n + suc k
moved n k = omega arith

pub strings_in-append : (before after : List Statement)
    → strings_in (before ++ after) ≡ strings_in before ++ strings_in after
strings_in-append [] after = refl
strings_in-append (Empty ∷ more) after = strings_in-append more after
strings_in-append (Label name ∷ more) after = strings_in-append more after
strings_in-append (Data name string ∷ more) after = ap (λ strings. string ∷ strings) (strings_in-append more after)
strings_in-append (Instruction d ∷ more) after = strings_in-append more after

pub drafts_in-append : (before after : List Statement)
    → drafts_in (before ++ after) ≡ drafts_in before ++ drafts_in after
drafts_in-append [] after = refl
drafts_in-append (Empty ∷ more) after = drafts_in-append more after
drafts_in-append (Label name ∷ more) after = drafts_in-append more after
drafts_in-append (Data name string ∷ more) after = drafts_in-append more after
drafts_in-append (Instruction d ∷ more) after = ap (λ drafts. d ∷ drafts) (drafts_in-append more after)

pub label_from-append : (n : ℕ) (before after : List Statement) (name : List ℕ)
    → label_from n (before ++ after) name
    ≡ or_else (label_from n before name) (label_from (n + length (drafts_in before)) after name)
label_from-append n [] after name = ap (λ m. label_from m after name) (sym (add-zero n))
label_from-append n (Empty ∷ more) after name = label_from-append n more after name
label_from-append n (Label label ∷ more) after name =
    ap (cond (bytes_eq label name) (Some n)) (label_from-append n more after name)
    ∙ cond-or_else (bytes_eq label name) n (label_from n more name)
    (label_from (n + length (drafts_in more)) after name)
label_from-append n (Data other string ∷ more) after name = label_from-append n more after name
label_from-append n (Instruction d ∷ more) after name =
    label_from-append (n + 1) more after name
    ∙ ap (λ m. or_else (label_from (n + 1) more name) (label_from m after name)) (moved n (length (drafts_in more)))

pub data_from-append : (n : ℕ) (before after : List Statement) (name : List ℕ)
    → data_from n (before ++ after) name
    ≡ or_else (data_from n before name) (data_from (n + length (strings_in before)) after name)
data_from-append n [] after name = ap (λ m. data_from m after name) (sym (add-zero n))
data_from-append n (Empty ∷ more) after name = data_from-append n more after name
data_from-append n (Label label ∷ more) after name = data_from-append n more after name
data_from-append n (Data other string ∷ more) after name =
    ap (cond (bytes_eq other name) (Some n))
    (data_from-append (n + 1) more after name
    ∙ ap (λ m. or_else (data_from (n + 1) more name) (data_from m after name)) (moved n (length (strings_in more))))
    ∙ cond-or_else (bytes_eq other name) n (data_from (n + 1) more name)
    (data_from (n + suc (length (strings_in more))) after name)
data_from-append n (Instruction d ∷ more) after name = data_from-append n more after name

-- A name equals itself.
same_name : (name : List ℕ) → bytes_eq name name ≡ true
same_name name = (bytes_eq-Decides name name).1 refl

pub is_itself : (name : List ℕ) (n : ℕ) (o : Option ℕ) → cond (bytes_eq name name) (Some n) o ≡ Some n
is_itself name n o = rw (same_name name) refl
