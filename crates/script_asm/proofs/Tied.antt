-- Lemmas about an outline that matches the statements of the lines read so far.
use Rattle.std.proofs.Common.{◌≡◌, refl, sym, ◌∙◌, ap, ℕ, ◌+◌, Bool, true, false, cond, List, [], ◌∷◌, ◌++◌, length, map, Option, Some, None, append-nil, arith}
use Rattle.std.proofs.lemmas.Slice.Eq.{bytes_eq-Decides}
use Rattle.script_asm.specs.Prelude.{bytes_eq}
use Rattle.script_asm.specs.Laws.{strings_in, drafts_in, label_from, data_from}
use Rattle.script_asm.specs.Operation.{Draft}
use Rattle.script_asm.specs.Outline.{Outline}
use Rattle.script_asm.specs.Places.{Places, place_of, with_place}
use Rattle.script_asm.specs.declared.sheet.DraftLine.{DraftLine}
use Rattle.script_asm.specs.declared.statements.Statement.{Statement}
use Rattle.script_asm.proofs.Marks.{or_else, or_else-None, strings_in-append, drafts_in-append, label_from-append}
use Rattle.script_asm.proofs.Marks.{data_from-append}
use Rattle.script_asm.proofs.Naming.{place_of-with_place}

-- The instructions of lines.
abbrev pub written : List DraftLine → List Draft
written drafts = map (λ d. d.draft) drafts

-- The outline matches these statements.
pub record Ties (o : Outline) (before : List Statement) : Type 0 where
  pub labels : (name : List ℕ) → place_of o.labels name ≡ label_from 0 before name
  pub names : (name : List ℕ) → place_of o.data_numbers name ≡ data_from 0 before name
  pub strings : o.strings ≡ strings_in before
  pub drafts : written o.drafts ≡ drafts_in before

length-written : (drafts : List DraftLine) → length (written drafts) ≡ length drafts
length-written [] = refl
length-written (d ∷ more) = let h = length-written more in omega (arith, h)

pub count : (o : Outline) (before : List Statement) → Ties o before → length o.drafts ≡ length (drafts_in before)
count o before ties = sym (length-written o.drafts) ∙ ap length ties.drafts

-- A statement that isn't a label doesn't change the lookup of labels, and one without data doesn't change the lookup of
-- data.
pub same_labels : (o : Outline) (before : List Statement) (s : Statement) → Ties o before
    → ((n : ℕ) (name : List ℕ) → label_from n (s ∷ []) name ≡ None)
    → (name : List ℕ) → place_of o.labels name ≡ label_from 0 (before ++ s ∷ []) name
same_labels o before s ties none name =
    ties.labels name ∙ sym (or_else-None (label_from 0 before name))
    ∙ ap (or_else (label_from 0 before name)) (sym (none (0 + length (drafts_in before)) name))
    ∙ sym (label_from-append 0 before (s ∷ []) name)

pub same_names : (o : Outline) (before : List Statement) (s : Statement) → Ties o before
    → ((n : ℕ) (name : List ℕ) → data_from n (s ∷ []) name ≡ None)
    → (name : List ℕ) → place_of o.data_numbers name ≡ data_from 0 (before ++ s ∷ []) name
same_names o before s ties none name =
    ties.names name ∙ sym (or_else-None (data_from 0 before name))
    ∙ ap (or_else (data_from 0 before name)) (sym (none (0 + length (strings_in before)) name))
    ∙ sym (data_from-append 0 before (s ∷ []) name)

-- A lookup gives the same result whether a new name is tried before or after the other names.
put : (b : Bool) (n m : ℕ) (o : Option ℕ) → n ≡ m → (b ≡ true → o ≡ None)
    → cond b (Some n) o ≡ or_else o (cond b (Some m) None)
put true n m o is new = rw (new refl) (ap Some is)
put false n m (Some k) is new = refl
put false n m None is new = refl

pub put-place : (places : Places) (name : List ℕ) (n m : ℕ) (before : List ℕ → Option ℕ)
    → ((q : List ℕ) → place_of places q ≡ before q) → before name ≡ None → n ≡ m
    → (q : List ℕ) → place_of (with_place places name n) q ≡ or_else (before q) (cond (bytes_eq name q) (Some m) None)
put-place places name n m before is new same q =
    place_of-with_place places name n q ∙ ap (cond (bytes_eq name q) (Some n)) (is q)
    ∙ put (bytes_eq name q) n m (before q) same (λ e. ap before (sym ((bytes_eq-Decides name q).0 e)) ∙ new)

pub more_strings : (o : Outline) (before : List Statement) (s : Statement) → Ties o before
    → o.strings ++ strings_in (s ∷ []) ≡ strings_in (before ++ s ∷ [])
more_strings o before s ties =
    ap (λ strings. strings ++ strings_in (s ∷ [])) ties.strings ∙ sym (strings_in-append before (s ∷ []))

pub more_drafts : (o : Outline) (before : List Statement) (s : Statement) → Ties o before
    → written o.drafts ++ drafts_in (s ∷ []) ≡ drafts_in (before ++ s ∷ [])
more_drafts o before s ties = ap (λ drafts. drafts ++ drafts_in (s ∷ [])) ties.drafts
    ∙ sym (drafts_in-append before (s ∷ []))

pub no_more : {X : Type 0} (xs ys : List X) → xs ++ [] ≡ ys → xs ≡ ys
no_more xs ys e = sym (append-nil xs) ∙ e
