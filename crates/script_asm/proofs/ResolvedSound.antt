-- Proves that resolved instructions are sound and form a program.
use Rattle.std.proofs.Common.{◌≡◌, ◌<◌, ◌≤◌, sym, ◌∙◌, ap, subst, ℕ, ◌+◌, List, [], ◌∷◌, ◌++◌, length, Ok, IfOk, inl, inr, arith, length-append, zero-add}
use Rattle.program.specs.declared.instruction.Instruction.TheVariants.{VfWrite, VfRead, Lend, Unlend, Poke, Peek, Arrive, TxStep, IntStep, QueueStep, JumpIfEqual, JumpUnlessEqual, Jump}
use Rattle.script_asm.specs.Prelude.{AllByRecursion, IsListing, IsSound, string_at}
use Rattle.script_asm.proofs.Prelude.{eqb_tells}
use Rattle.script_asm.specs.Operation.{Draft}
use Rattle.script_asm.specs.Outline.{Outline}
use Rattle.script_asm.specs.Places.{place_of}
use Rattle.script_asm.specs.Resolved.{resolved, with_resolved, label_named, data_named, fitting, IsInRange, IsReady}
use Rattle.script_asm.specs.declared.faults.ScriptFault.TheVariants.{UnknownLabel}
use Rattle.script_asm.specs.declared.sheet.DraftLine.{DraftLine}
use Rattle.script_asm.proofs.Outcomes.{then_then-IfOk, ok_or-IfOk, IfOk-of, stepped}
use Rattle.script_asm.proofs.Resolving.{Step}

label_named-IfOk : (o : Outline) (line : ℕ) (name : List ℕ) → IsReady o
    → IfOk (label_named o line name) (λ pc. pc ≤ length o.drafts)
label_named-IfOk o line name ready =
    ok_or-IfOk (λ pc. pc ≤ length o.drafts) (place_of o.labels name) (UnknownLabel line) (ready.labels name)

data_named-IfOk : (o : Outline) (line : ℕ) (name : List ℕ) → IsReady o
    → IfOk (data_named o line name) (λ number. number < length o.strings)
data_named-IfOk o line name ready =
    ok_or-IfOk (λ number. number < length o.strings) (place_of o.data_numbers name) (UnknownLabel line)
    (ready.data_numbers name)

abbrev Sound : Outline → Step → Type 0
Sound o i = IsSound o.strings (length o.drafts) i

poked-sound : (o : Outline) (line address number : ℕ) → IfOk (fitting o line (Poke address number)) (Sound o)
poked-sound o line address number = elim (eqb_tells (length (string_at o.strings number)) 16) [
  | inl (test, is) ↦ rw test is
  | inr (test, other) ↦ rw test tt
]

-- Everything that a resolved instruction refers to exists.
resolved-sound : (o : Outline) (line : ℕ) (d : Draft) → IsReady o → IsInRange d → IfOk (resolved o line d) (Sound o)
resolved-sound o line (VfWrite function offset word) ready h = h
resolved-sound o line (VfRead function offset) ready h = h
resolved-sound o line (Lend block) ready h = h
resolved-sound o line (Unlend block) ready h = h
resolved-sound o line (Poke address name) ready h =
    then_then-IfOk (Sound o) (λ number. number < length o.strings) (data_named o line name) (Poke address)
    (fitting o line) (data_named-IfOk o line name ready) (λ number is. poked-sound o line address number)
resolved-sound o line (Peek address word) ready h = h
resolved-sound o line (Arrive name) ready h =
    then_then-IfOk (Sound o) (λ number. number < length o.strings) (data_named o line name) Arrive (fitting o line)
    (data_named-IfOk o line name ready) (λ number is. is)
resolved-sound o line (TxStep queue) ready h = h
resolved-sound o line (IntStep group) ready h = h
resolved-sound o line (QueueStep direction queue) ready h = h
resolved-sound o line (JumpIfEqual word name) ready h =
    then_then-IfOk (Sound o) (λ pc. pc ≤ length o.drafts) (label_named o line name) (JumpIfEqual word) (fitting o line)
    (label_named-IfOk o line name ready) (λ pc is. is)
resolved-sound o line (JumpUnlessEqual word name) ready h =
    then_then-IfOk (Sound o) (λ pc. pc ≤ length o.drafts) (label_named o line name) (JumpUnlessEqual word)
    (fitting o line) (label_named-IfOk o line name ready) (λ pc is. is)
resolved-sound o line (Jump name) ready h =
    then_then-IfOk (Sound o) (λ pc. pc ≤ length o.drafts) (label_named o line name) Jump (fitting o line)
    (label_named-IfOk o line name ready) (λ pc is. is)
resolved-sound o line other ready h = tt

pub AllByRecursion-push : {X : Type 0} (P : X → Type 0) (xs : List X) (x : X) → AllByRecursion P xs → P x
    → AllByRecursion P (xs ++ x ∷ [])
AllByRecursion-push P [] x all here = (here, tt)
AllByRecursion-push P (y ∷ xs) x all here = (all.0, AllByRecursion-push P xs x all.1 here)

length-with_resolved : (o : Outline) (before : List Step) (drafts : List DraftLine) (result : List Step)
    → with_resolved o before drafts ≡ Ok result
    → length result ≡ length before + length drafts
unfolding with_resolved
length-with_resolved o before [] result e = let same : before ≡ result = cc in omega (arith, ap length same)
length-with_resolved o before (d ∷ more) result e =
    let next = stepped (resolved o d.line d.draft) (λ i. with_resolved o (before ++ i ∷ []) more) result e in
    omega (arith, length-with_resolved o (before ++ next.0 ∷ []) more result next.2, length-append before (next.0 ∷ []))

with_resolved-sound : (o : Outline) (before : List Step) (drafts : List DraftLine) (result : List Step) → IsReady o
    → AllByRecursion (λ d. IsInRange d.draft) drafts → AllByRecursion (Sound o) before
    → with_resolved o before drafts ≡ Ok result → AllByRecursion (Sound o) result
unfolding with_resolved
with_resolved-sound o before [] result ready ranges sound e = let same : before ≡ result = cc in
    subst (AllByRecursion (Sound o)) same sound
with_resolved-sound o before (d ∷ more) result ready ranges sound e =
    let next = stepped (resolved o d.line d.draft) (λ i. with_resolved o (before ++ i ∷ []) more) result e in
    let here = IfOk-of (Sound o) (resolved o d.line d.draft) next.0 next.1
    (resolved-sound o d.line d.draft ready ranges.0) in
    with_resolved-sound o (before ++ next.0 ∷ []) more result ready ranges.1
    (AllByRecursion-push (Sound o) before next.0 sound here) next.2

-- The resolved instructions form a program.
pub with_resolved-IsListing : (outline : Outline) (result : List Step) → IsReady outline
    → with_resolved outline [] outline.drafts ≡ Ok result
    → IsListing (record { strings = outline.strings; instructions = result })
with_resolved-IsListing outline result ready e =
    let count = length-with_resolved outline [] outline.drafts result e in
    record {
      few = omega (arith, count, ready.few_drafts);
      few_strings = ready.few_strings;
      strings = ready.strings;
      sound = subst (λ n. AllByRecursion (IsSound outline.strings n) result)
          (sym (count ∙ zero-add (length outline.drafts)))
          (with_resolved-sound outline [] outline.drafts result ready ready.drafts tt e);
    }
