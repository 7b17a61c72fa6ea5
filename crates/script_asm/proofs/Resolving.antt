-- Lemmas about looking up the labels and data of instructions.
use Rattle.std.proofs.Common.{◌≡◌, ◌<◌, ◌≤◌, refl, sym, ◌∙◌, ap, ℕ, suc, ◌+◌, List, [], ◌∷◌, ◌++◌, length, get_or, drop, Result, Ok, Err, add-one, drop-cons}
use Rattle.std.proofs.lemmas.List.{drop_all}
use Rattle.script_asm.specs.Prelude.{Instruction}
use Rattle.script_asm.specs.Fault.{◌then◌}
use Rattle.script_asm.specs.Outline.{Outline}
use Rattle.script_asm.specs.Resolved.{resolved, with_resolved}
use Rattle.script_asm.specs.declared.faults.ScriptFault.{ScriptFault}
use Rattle.script_asm.specs.declared.sheet.DraftLine.{DraftLine}

abbrev pub Step : Type 0
Step = Instruction ℕ ℕ

pushed : (found : Result Step ScriptFault) (before after : List Step) (f : List Step → Result (List Step) ScriptFault)
    → (found then λ i. Ok (before ++ i ∷ [])) ≡ Ok after → (found then λ i. f (before ++ i ∷ [])) ≡ f after
pushed (Ok i) before after f e = let same : before ++ i ∷ [] ≡ after = cc in ap f same
pushed (Err fault) before after f e = cc

refused : (found : Result Step ScriptFault) (before : List Step) (fault : ScriptFault) (f : List Step
    → Result (List Step) ScriptFault)
    → (found then λ i. Ok (before ++ i ∷ [])) ≡ Err fault → (found then λ i. f (before ++ i ∷ [])) ≡ Err fault
refused (Ok i) before fault f e = cc
refused (Err other) before fault f e = let same : other ≡ fault = cc in ap Err same

pub with_resolved-added : (outline : Outline) (before after : List Step) (drafts : List DraftLine) (d : DraftLine)
    (k : ℕ) → k < length drafts → d ≡ get_or drafts k d
    → (resolved outline d.line d.draft then λ i. Ok (before ++ i ∷ [])) ≡ Ok after
    → with_resolved outline before (drop k drafts) ≡ with_resolved outline after (drop (k + 1) drafts)
unfolding with_resolved
with_resolved-added outline before after drafts d k below at e =
    let here : drop k drafts ≡ d ∷ drop (k + 1) drafts =
    drop-cons drafts k d below ∙ ap (λ x. x ∷ drop (suc k) drafts) (sym at)
    ∙ ap (λ n. d ∷ drop n drafts) (sym (add-one k)) in
    rw here (pushed (resolved outline d.line d.draft) before after
    (λ is. with_resolved outline is (drop (k + 1) drafts)) e)

pub with_resolved-stopped : (outline : Outline) (before : List Step) (fault : ScriptFault) (drafts : List DraftLine)
    (d : DraftLine) (k : ℕ) → k < length drafts → d ≡ get_or drafts k d
    → (resolved outline d.line d.draft then λ i. Ok (before ++ i ∷ [])) ≡ Err fault
    → with_resolved outline before (drop k drafts) ≡ Err fault
unfolding with_resolved
with_resolved-stopped outline before fault drafts d k below at e =
    let here : drop k drafts ≡ d ∷ drop (k + 1) drafts =
    drop-cons drafts k d below ∙ ap (λ x. x ∷ drop (suc k) drafts) (sym at)
    ∙ ap (λ n. d ∷ drop n drafts) (sym (add-one k)) in
    rw here (refused (resolved outline d.line d.draft) before fault
    (λ is. with_resolved outline is (drop (k + 1) drafts)) e)

pub with_resolved-ended : (outline : Outline) (before : List Step) (drafts : List DraftLine) (k : ℕ) → length drafts ≤ k
    → with_resolved outline before (drop k drafts) ≡ Ok before
unfolding with_resolved
with_resolved-ended outline before drafts k past = rw (drop_all k drafts past) refl
