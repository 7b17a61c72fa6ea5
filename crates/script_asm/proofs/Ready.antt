-- Proves that the outline of all lines can be resolved to a program.
use Rattle.std.proofs.Common.{◌≡◌, ◌<◌, ◌≤◌, refl, ℕ, ◌+◌, Bool, true, false, cond, is_some, ◌&&◌, nat_le, nat_lt, length, List, [], ◌∷◌, ◌++◌, Option, Some, None, Ok, Err, IfOk, IfSome, arith, length-append}
use Rattle.std.specs.FinMap as fin
use Rattle.std.proofs.lemmas.Bool.{ltb-true, leb-true, and_parts}
use Rattle.script_asm.specs.Prelude.{IsDataString, bytes_eq, nat_cmp, slice_cmp}
use Rattle.script_asm.specs.Operation.{Draft}
use Rattle.script_asm.specs.Outline.{Outline, blank}
use Rattle.script_asm.specs.Places.{Places, place_of, with_place}
use Rattle.script_asm.specs.Resolved.{IsInRange, IsReady}
use Rattle.script_asm.specs.Script.{with_statement}
use Rattle.script_asm.specs.declared.faults.ScriptFault.{ScriptFault}
use Rattle.script_asm.specs.declared.faults.ScriptFault.TheVariants.{TwoLabels, TooLong}
use Rattle.script_asm.specs.declared.sheet.DraftLine.{DraftLine}
use Rattle.script_asm.specs.declared.statements.Statement.{Statement}
use Rattle.script_asm.specs.declared.statements.Statement.TheVariants.{Empty, Label, Data, Instruction}
use Rattle.script_asm.proofs.Naming.{place_of-with_place}
use Rattle.script_asm.proofs.Outcomes.{cond-IfOk}
use Rattle.script_asm.proofs.LineRanges.{States}
use Rattle.script_asm.proofs.ResolvedSound.{AllByRecursion-push}

-- The number of each name in a table has a property.
abbrev pub Stand : Places → (ℕ → Type 0) → Type 0
Stand places P = (name : List ℕ) → IfSome (place_of places name) P

stand-none : (P : ℕ → Type 0) (name : List ℕ) → IfSome (place_of fin.empty name) P
stand-none P name = rw (fin.get-empty {X = ℕ} (slice_cmp nat_cmp) name) tt

some-weaker : (P Q : ℕ → Type 0) (o : Option ℕ) → ((n : ℕ) → P n → Q n) → IfSome o P → IfSome o Q
some-weaker P Q (Some n) weaker h = weaker n h
some-weaker P Q None weaker h = tt

chosen : (P : ℕ → Type 0) (b : Bool) (n : ℕ) (o : Option ℕ) → P n → IfSome o P → IfSome (cond b (Some n) o) P
chosen P true n o h k = h
chosen P false n o h k = k

stand-more : (P : ℕ → Type 0) (places : Places) (name : List ℕ) (n : ℕ) → P n → Stand places P
    → Stand (with_place places name n) P
stand-more P places name n here stand q =
    rw (place_of-with_place places name n q) (chosen P (bytes_eq name q) n (place_of places q) here (stand q))

pub ready-blank : IsReady blank
ready-blank = record {
  few_drafts = omega arith;
  few_strings = omega arith;
  labels = stand-none (λ pc. pc ≤ 0);
  data_numbers = stand-none (λ number. number < 0);
  strings = tt;
  drafts = tt;
}

with_label-ready : (before : Outline) (line : ℕ) (name : List ℕ) → IsReady before
    → IfOk (with_statement before line (Label name)) IsReady
with_label-ready before line name ready =
    cond-IfOk {E = ScriptFault} IsReady (is_some (place_of before.labels name)) (Err (TwoLabels line)) _ tt (record {
      few_drafts = ready.few_drafts;
      few_strings = ready.few_strings;
      labels = stand-more (λ pc. pc ≤ length before.drafts) before.labels name (length before.drafts) (omega arith)
          ready.labels;
      data_numbers = ready.data_numbers;
      strings = ready.strings;
      drafts = ready.drafts;
    })

-- If a guarded value is present, it has a property that holds whenever the test is true.
tested : {A : Type 0} (P : A → Type 0) (b : Bool) (x : A) (e : ScriptFault) → (b ≡ true → P x)
    → IfOk (cond b (Ok x) (Err e)) P
tested P true x e h = h refl
tested P false x e h = tt

more_data-ready : (before : Outline) (name string : List ℕ) → IsReady before → 1 ≤ length string
    → (nat_le (length string) 16384 && nat_lt (length before.strings) 1024) ≡ true
    → IsReady (record before {
      data_numbers = with_place before.data_numbers name (length before.strings);
      strings =
          before.strings ++ string ∷ [];
    })
more_data-ready before name string ready some fits =
    let limits = and_parts (nat_le (length string) 16384) (nat_lt (length before.strings) 1024) fits in
    let short : length string ≤ 16384 = leb-true _ _ limits.0 in
    let few : length before.strings < 1024 = ltb-true _ _ limits.1 in
    let count : length (before.strings ++ string ∷ []) ≡ length before.strings + 1 =
    length-append before.strings (string ∷ []) in
    record {
      few_drafts = ready.few_drafts;
      few_strings = omega (arith, count);
      labels = ready.labels;
      data_numbers = stand-more (λ n. n < length (before.strings ++ string ∷ [])) before.data_numbers name
          (length before.strings) (omega (arith, count))
          (λ q. some-weaker (λ n. n < length before.strings) _ (place_of before.data_numbers q)
          (λ n below. omega (arith, count, below)) (ready.data_numbers q));
      strings = AllByRecursion-push IsDataString before.strings string ready.strings
          (record { some = some; short = short });
      drafts = ready.drafts;
    }

more_drafts-ready : (before : Outline) (line : ℕ) (d : Draft) → IsReady before → IsInRange d
    → nat_lt (length before.drafts) 4096 ≡ true
    → IsReady (record before { drafts = before.drafts ++ record { line = line; draft = d } ∷ [] })
more_drafts-ready before line d ready range fits =
    let few : length before.drafts < 4096 = ltb-true _ _ fits in
    let more : DraftLine = record { line = line; draft = d } in
    let count : length (before.drafts ++ more ∷ []) ≡ length before.drafts + 1 =
    length-append before.drafts (more ∷ []) in
    record {
      few_drafts = omega (arith, count);
      few_strings = ready.few_strings;
      labels = λ q. some-weaker (λ n. n ≤ length before.drafts) (λ n. n ≤ length (before.drafts ++ more ∷ []))
          (place_of before.labels q)
          (λ n below. omega (arith, count, below)) (ready.labels q);
      data_numbers = ready.data_numbers;
      strings = ready.strings;
      drafts = AllByRecursion-push (λ (l : DraftLine). IsInRange l.draft) before.drafts more ready.drafts range;
    }

pub with_statement-ready : (before : Outline) (line : ℕ) (s : Statement) → States s → IsReady before
    → IfOk (with_statement before line s) IsReady
with_statement-ready before line Empty states ready = ready
with_statement-ready before line (Label name) states ready = with_label-ready before line name ready
with_statement-ready before line (Data name string) states ready =
    cond-IfOk {E = ScriptFault} IsReady (is_some (place_of before.data_numbers name)) (Err (TwoLabels line)) _ tt
    (tested IsReady (nat_le (length string) 16384 && nat_lt (length before.strings) 1024) _ TooLong
    (more_data-ready before name string ready states))
with_statement-ready before line (Instruction d) states ready =
    tested IsReady (nat_lt (length before.drafts) 4096) _ TooLong (more_drafts-ready before line d ready states)
