-- Proves which program the statements form, and that the first fault is reported.
use Rattle.std.proofs.Common.{◌≡◌, refl, sym, ◌∙◌, ap, subst, ℕ, List, [], ◌∷◌, ◌++◌, Option, Result, Ok, append-nil, append_assoc}
use Rattle.std.specs.FinMap as fin
use Rattle.program.specs.declared.instruction.Instruction.{Instruction as Step}
use Rattle.script_asm.specs.Prelude.{Listing, lines_of, nat_cmp, slice_cmp}
use Rattle.script_asm.specs.Fault.{◌then◌}
use Rattle.script_asm.specs.Laws.{strings_in, drafts_in, label_from, data_from, Mean, IsSaid, ProgramIsWhatLinesSay}
use Rattle.script_asm.specs.Operation.{Draft}
use Rattle.script_asm.specs.Outline.{Outline, blank}
use Rattle.script_asm.specs.Places.{place_of}
use Rattle.script_asm.specs.Resolved.{resolved, with_resolved}
use Rattle.script_asm.specs.Script.{with_lines, program_in, program_of}
use Rattle.script_asm.specs.declared.faults.ScriptFault.{ScriptFault}
use Rattle.script_asm.specs.declared.sheet.DraftLine.{DraftLine}
use Rattle.script_asm.specs.declared.statements.Statement.{Statement}
use Rattle.script_asm.proofs.Outcomes.{stepped}
use Rattle.script_asm.proofs.Meant.{resolved-Means, Means-resolved}
use Rattle.script_asm.proofs.Tied.{written, Ties}
use Rattle.script_asm.proofs.Saying.{reach, said}

abbrev AreMeant : Outline → List Draft → List (Step ℕ ℕ) → Type 0
AreMeant o drafts is = Mean (place_of o.labels) (place_of o.data_numbers) o.strings drafts is

joined : (before : List (Step ℕ ℕ)) (x : Step ℕ ℕ) (more : List (Step ℕ ℕ))
    → (before ++ x ∷ []) ++ more ≡ before ++ x ∷ more
joined before x more = append_assoc before (x ∷ []) more

-- The result is the instructions in `before`, followed by the instructions that these drafts mean.
record Resolved (o : Outline) (before : List (Step ℕ ℕ)) (drafts : List DraftLine) (result : List (Step ℕ ℕ)) : Type 0
  where
    added : List (Step ℕ ℕ)
    is : result ≡ before ++ added
    mean : AreMeant o (written drafts) added

with_resolved-Mean : (o : Outline) (before : List (Step ℕ ℕ)) (drafts : List DraftLine) (result : List (Step ℕ ℕ))
    → with_resolved o before drafts ≡ Ok result → Resolved o before drafts result
unfolding with_resolved
with_resolved-Mean o before [] result e = let same : before ≡ result = cc in
    record { added = []; is = sym same ∙ sym (append-nil before); mean = tt }
with_resolved-Mean o before (d ∷ more) result e =
    let next = stepped (resolved o d.line d.draft) (λ i. with_resolved o (before ++ i ∷ []) more) result e in
    let rest = with_resolved-Mean o (before ++ next.0 ∷ []) more result next.2 in
    record {
      added = next.0 ∷ rest.added;
      is = rest.is ∙ joined before next.0 rest.added;
      mean =
          (resolved-Means o d.line d.draft next.0 next.1, rest.mean);
    }

Mean-with_resolved : (o : Outline) (before : List (Step ℕ ℕ)) (drafts : List DraftLine) (added : List (Step ℕ ℕ))
    → AreMeant o (written drafts) added
    → with_resolved o before drafts ≡ Ok (before ++ added)
unfolding with_resolved
Mean-with_resolved o before [] [] mean = ap Ok (sym (append-nil before))
Mean-with_resolved o before [] (i ∷ is) mean = absurd mean
Mean-with_resolved o before (d ∷ more) [] mean = absurd mean
Mean-with_resolved o before (d ∷ more) (i ∷ is) mean =
    ap (λ r. r then λ i. with_resolved o (before ++ i ∷ []) more) (Means-resolved o d.line d.draft i mean.0)
    ∙ Mean-with_resolved o (before ++ i ∷ []) more is mean.1 ∙ ap Ok (joined before i is)

-- The blank outline matches the empty list of statements.
ties-blank : Ties blank []
ties-blank = record {
  labels = fin.get-empty {X = ℕ} (slice_cmp nat_cmp);
  names =
      fin.get-empty {X = ℕ} (slice_cmp nat_cmp);
  strings = refl;
  drafts = refl;
}

-- The functions that look up names in an outline equal the functions that look up names in its statements.
same_labels : (o : Outline) (ss : List Statement) → Ties o ss → place_of o.labels ≡ label_from 0 ss
same_labels o ss ties = λ i name. ties.labels name i

same_names : (o : Outline) (ss : List Statement) → Ties o ss → place_of o.data_numbers ≡ data_from 0 ss
same_names o ss ties = λ i name. ties.names name i

to_meant : (o : Outline) (ss : List Statement) (is : List (Step ℕ ℕ)) → Ties o ss
    → Mean (label_from 0 ss) (data_from 0 ss) (strings_in ss) (drafts_in ss) is → AreMeant o (written o.drafts) is
to_meant o ss is ties mean =
    subst (λ (labels : List ℕ → Option ℕ). Mean labels (place_of o.data_numbers) o.strings (written o.drafts) is)
    (sym (same_labels o ss ties))
    (subst (λ (names : List ℕ → Option ℕ). Mean (label_from 0 ss) names o.strings (written o.drafts) is)
    (sym (same_names o ss ties))
    (rw (ties.strings, ties.drafts) mean))

from_meant : (o : Outline) (ss : List Statement) (is : List (Step ℕ ℕ)) → Ties o ss → AreMeant o (written o.drafts) is
    → Mean (label_from 0 ss) (data_from 0 ss) (strings_in ss) (drafts_in ss) is
from_meant o ss is ties mean =
    subst (λ (labels : List ℕ → Option ℕ). Mean labels (data_from 0 ss) (strings_in ss) (drafts_in ss) is)
    (same_labels o ss ties)
    (subst (λ (names : List ℕ → Option ℕ). Mean (place_of o.labels) names (strings_in ss) (drafts_in ss) is)
    (same_names o ss ties)
    (rw (← ties.strings, ← ties.drafts) mean))

to_program : (text : List ℕ) (program : Listing) → IsSaid text program → program_of text ≡ Ok program
unfolding program_of
to_program text program all =
    let reached = reach blank [] (lines_of text) all.statements ties-blank all.say all.fit in
    let o = reached.0 in
    let mean = to_meant o all.statements program.instructions reached.2 all.mean in
    ap (λ r. r then program_in) reached.1
    ∙ ap (λ (is : Result (List (Step ℕ ℕ)) ScriptFault). is
    then λ is. Ok (record { strings = o.strings; instructions = is }))
    (Mean-with_resolved o [] o.drafts program.instructions mean)
    ∙ ap (λ strings. Ok (let listing : Listing = record { strings = strings; instructions = program.instructions } in
    listing)) (reached.2.strings ∙ sym all.strings)

from_program : (text : List ℕ) (program : Listing) → program_of text ≡ Ok program → IsSaid text program
unfolding program_of
from_program text program is =
    let first = stepped (with_lines blank (lines_of text)) program_in program is in
    let o = first.0 in
    let second = stepped (with_resolved o [] o.drafts)
    (λ (is : List (Step ℕ ℕ)). Ok (let listing : Listing = record { strings = o.strings; instructions = is } in
    listing)) program first.2 in
    let same : (let listing : Listing = record { strings = o.strings; instructions = second.0 } in listing) ≡ program =
    (let e = second.2 in cc) in
    let all = said blank [] (lines_of text) o ties-blank first.1 in
    let mean = with_resolved-Mean o [] o.drafts second.0 second.1 in
    let means = from_meant o all.statements second.0 all.ties (rw mean.is mean.mean) in
    subst (λ (p : Listing). IsSaid text p) same
    (record { statements = all.statements; say = all.say; fit = all.fit; strings = all.ties.strings; mean = means })

pub program_is_what_lines_say : ProgramIsWhatLinesSay
program_is_what_lines_say text program = (from_program text program, to_program text program)
