-- Proves that a statement that fits is accepted, and that an accepted statement fits.
use Rattle.std.proofs.Common.{◌≡◌, refl, sym, ◌∙◌, ap, ℕ, ◌+◌, ◌<◌, Bool, true, false, cond, is_some, ◌&&◌, nat_le, nat_lt, List, [], ◌∷◌, ◌++◌, length, Option, Some, None, Ok, Err, arith}
use Rattle.std.proofs.lemmas.Bool.{lt-ltb, le-leb, ltb-true, leb-true, and_parts}
use Rattle.std.proofs.lemmas.List.{map-append}
use Rattle.script_asm.specs.Laws.{strings_in, drafts_in, label_from, data_from, FitsAfter}
use Rattle.script_asm.specs.Operation.{Draft}
use Rattle.script_asm.specs.Outline.{Outline}
use Rattle.script_asm.specs.Places.{place_of, with_place}
use Rattle.script_asm.specs.Script.{with_label, with_data, with_draft, with_statement}
use Rattle.script_asm.specs.declared.faults.ScriptFault.TheVariants.{TwoLabels, TooLong}
use Rattle.script_asm.specs.declared.sheet.DraftLine.{DraftLine}
use Rattle.script_asm.specs.declared.statements.Statement.{Statement}
use Rattle.script_asm.specs.declared.statements.Statement.TheVariants.{Empty, Label, Data, Instruction}
use Rattle.script_asm.proofs.Marks.{label_from-append, data_from-append}
use Rattle.script_asm.proofs.Tied.{written, Ties, count, same_labels, same_names, put-place, more_strings, more_drafts}
use Rattle.script_asm.proofs.Tied.{no_more}

-- The statement is accepted, and the outline afterwards matches the statements up to and including this one.
abbrev Leads : Outline → List Statement → ℕ → Statement → Type 0
Leads o before line s = (a : Outline) × (with_statement o line s ≡ Ok a) × Ties a (before ++ s ∷ [])

leads-empty : (o : Outline) (before : List Statement) (line : ℕ) → Ties o before → Leads o before line Empty
leads-empty o before line ties = (
  o,
  refl,
  record {
    labels = same_labels o before Empty ties (λ n name. refl);
    names = same_names o before Empty ties (λ n name. refl);
    strings = no_more o.strings _ (more_strings o before Empty ties);
    drafts = no_more (written o.drafts) _ (more_drafts o before Empty ties);
  },
)

leads-label : (o : Outline) (before : List Statement) (line : ℕ) (name : List ℕ) → Ties o before
    → label_from 0 before name ≡ None → Leads o before line (Label name)
leads-label o before line name ties new =
    let a : Outline = record o { labels = with_place o.labels name (length o.drafts) } in
    let is : with_label o line name ≡ Ok a = rw (ties.labels name, new) refl in
    let at : length o.drafts ≡ 0 + length (drafts_in before) = omega (arith, count o before ties) in (
      a,
      is,
      record {
        labels = λ q. put-place o.labels name (length o.drafts) (0 + length (drafts_in before)) (label_from 0 before)
            ties.labels new at q
            ∙ sym (label_from-append 0 before (Label name ∷ []) q);
        names = same_names o before (Label name) ties (λ n q. refl);
        strings = no_more o.strings _ (more_strings o before (Label name) ties);
        drafts = no_more (written o.drafts) _ (more_drafts o before (Label name) ties);
      },
    )

leads-data : (o : Outline) (before : List Statement) (line : ℕ) (name string : List ℕ) → Ties o before
    → FitsAfter before (Data name string) → Leads o before line (Data name string)
leads-data o before line name string ties fits =
    let a : Outline = record o {
      data_numbers = with_place o.data_numbers name (length o.strings);
      strings =
          o.strings ++ string ∷ [];
    } in
    let few : length o.strings < 1024 = rw ties.strings fits.2 in
    let is : with_data o line name string ≡ Ok a =
    rw (ties.names name, fits.0, le-leb (length string) 16384 fits.1, lt-ltb (length o.strings) 1024 few) refl in
    let at : length o.strings ≡ 0 + length (strings_in before) = omega (arith, ap length ties.strings) in (
      a,
      is,
      record {
        labels = same_labels o before (Data name string) ties (λ n q. refl);
        names = λ q. put-place o.data_numbers name (length o.strings) (0 + length (strings_in before))
            (data_from 0 before) ties.names fits.0 at q
            ∙ sym (data_from-append 0 before (Data name string ∷ []) q);
        strings = more_strings o before (Data name string) ties;
        drafts = no_more (written o.drafts) _ (more_drafts o before (Data name string) ties);
      },
    )

leads-instruction : (o : Outline) (before : List Statement) (line : ℕ) (d : Draft) → Ties o before
    → length (drafts_in before) < 4096 → Leads o before line (Instruction d)
leads-instruction o before line d ties few =
    let l : DraftLine = record { line = line; draft = d } in
    let a : Outline = record o { drafts = o.drafts ++ l ∷ [] } in
    let fewer : length o.drafts < 4096 = omega (arith, few, count o before ties) in
    let is : with_draft o line d ≡ Ok a = rw (lt-ltb (length o.drafts) 4096 fewer) refl in (
      a,
      is,
      record {
        labels = same_labels o before (Instruction d) ties (λ n q. refl);
        names = same_names o before (Instruction d) ties (λ n q. refl);
        strings = no_more o.strings _ (more_strings o before (Instruction d) ties);
        drafts = map-append (λ (l : DraftLine). l.draft) o.drafts (l ∷ []) ∙ more_drafts o before (Instruction d) ties;
      },
    )

pub leads : (o : Outline) (before : List Statement) (line : ℕ) (s : Statement) → Ties o before → FitsAfter before s
    → Leads o before line s
leads o before line Empty ties fits = leads-empty o before line ties
leads o before line (Label name) ties fits = leads-label o before line name ties fits
leads o before line (Data name string) ties fits = leads-data o before line name string ties fits
leads o before line (Instruction d) ties fits = leads-instruction o before line d ties fits

checked : {X E : Type 0} (b c : Bool) (x a : X) (e f : E) → cond b (Err e) (cond c (Ok x) (Err f)) ≡ Ok a
    → (b ≡ false) × (c ≡ true)
checked true c x a e f is = cc
checked false true x a e f is = (refl, refl)
checked false false x a e f is = cc

accepted : {X E : Type 0} (b : Bool) (x a : X) (e : E) → cond b (Err e) (Ok x) ≡ Ok a → b ≡ false
accepted true x a e is = cc
accepted false x a e is = refl

tested : {X E : Type 0} (c : Bool) (x a : X) (f : E) → cond c (Ok x) (Err f) ≡ Ok a → c ≡ true
tested true x a f is = refl
tested false x a f is = cc

none_from : {X : Type 0} (o : Option X) → is_some o ≡ false → o ≡ None
none_from None e = refl
none_from (Some x) e = cc

-- An accepted statement fits.
pub fits : (o a : Outline) (before : List Statement) (line : ℕ) (s : Statement) → Ties o before
    → with_statement o line s ≡ Ok a → FitsAfter before s
fits o a before line Empty ties is = tt
fits o a before line (Label name) ties is =
    sym (ties.labels name) ∙ none_from (place_of o.labels name)
    (accepted (is_some (place_of o.labels name)) (record o { labels = with_place o.labels name (length o.drafts) }) a
    (TwoLabels line) is)
fits o a before line (Data name string) ties is =
    let all = checked (is_some (place_of o.data_numbers name)) (nat_le (length string) 16384
    && nat_lt (length o.strings) 1024)
    (record o { data_numbers = with_place o.data_numbers name (length o.strings); strings = o.strings ++ string ∷ [] })
    a (TwoLabels line) TooLong is in
    let limits = and_parts (nat_le (length string) 16384) (nat_lt (length o.strings) 1024) all.1 in
    let few : length o.strings < 1024 = ltb-true _ _ limits.1 in (
      sym (ties.names name) ∙ none_from (place_of o.data_numbers name) all.0,
      leb-true _ _ limits.0,
      rw (← ties.strings) few,
    )
fits o a before line (Instruction d) ties is =
    let few : length o.drafts < 4096 =
    ltb-true _ _ (tested (nat_lt (length o.drafts) 4096)
    (record o { drafts = o.drafts ++ record { line = line; draft = d } ∷ [] }) a TooLong is) in
    omega (arith, few, count o before ties)
