-- Proves which instruction of the program an instruction on a line becomes.
use Rattle.std.proofs.Common.{◌≡◌, refl, sym, ◌∙◌, ap, ℕ, List, length, Option, Some, None, Ok, ◌==◌, eq-eqb, eqb-true}
use Rattle.program.specs.declared.instruction.Instruction.{Instruction as Step}
use Rattle.program.specs.declared.instruction.Instruction.TheVariants.{Poke, Arrive, JumpIfEqual, JumpUnlessEqual, Jump}
use Rattle.script_asm.specs.Prelude.{ok_or, string_at}
use Rattle.script_asm.specs.Fault.{◌then◌}
use Rattle.script_asm.specs.Laws.{Means}
use Rattle.script_asm.specs.Operation.{Draft}
use Rattle.script_asm.specs.Outline.{Outline}
use Rattle.script_asm.specs.Places.{place_of}
use Rattle.script_asm.specs.Resolved.{label_named, data_named, fitting, resolved}
use Rattle.script_asm.specs.declared.faults.ScriptFault.TheVariants.{UnknownLabel, Range}
use Rattle.script_asm.proofs.Outcomes.{stepped_on, passed}

abbrev pub Meant : Outline → Draft → Step ℕ ℕ → Type 0
Meant o d i = Means (place_of o.labels) (place_of o.data_numbers) o.strings d i

found : {E : Type 0} (o : Option ℕ) (e : E) (n : ℕ) → ok_or o e ≡ Ok n → o ≡ Some n
found (Some m) e n is = let same : m ≡ n = cc in ap Some same
found None e n is = cc

label-Ok : (o : Outline) (line : ℕ) (name : List ℕ) (i : Step ℕ ℕ) (f : ℕ → Step ℕ ℕ)
    → ((n : ℕ) → fitting o line (f n) ≡ Ok (f n))
    → ((label_named o line name then λ n. Ok (f n)) then fitting o line) ≡ Ok i
    → (pc : ℕ) × (i ≡ f pc) × (place_of o.labels name ≡ Some pc)
label-Ok o line name i f fits e =
    let made = stepped_on (label_named o line name) f (fitting o line) i e in
    let same : i ≡ f made.0 = (let e2 = sym (fits made.0) ∙ made.2 in cc) in
    (made.0, same, found (place_of o.labels name) (UnknownLabel line) made.0 made.1)

data-Ok : (o : Outline) (line : ℕ) (name : List ℕ) (i : Step ℕ ℕ) (f : ℕ → Step ℕ ℕ)
    → ((n : ℕ) → fitting o line (f n) ≡ Ok (f n))
    → ((data_named o line name then λ n. Ok (f n)) then fitting o line) ≡ Ok i
    → (n : ℕ) × (i ≡ f n) × (place_of o.data_numbers name ≡ Some n)
data-Ok o line name i f fits e =
    let made = stepped_on (data_named o line name) f (fitting o line) i e in
    let same : i ≡ f made.0 = (let e2 = sym (fits made.0) ∙ made.2 in cc) in
    (made.0, same, found (place_of o.data_numbers name) (UnknownLabel line) made.0 made.1)

poked-Ok : (o : Outline) (line address : ℕ) (name : List ℕ) (i : Step ℕ ℕ)
    → ((data_named o line name then λ n. Ok (Poke address n)) then fitting o line) ≡ Ok i
    → (n : ℕ) × (i ≡ Poke address n) × (place_of o.data_numbers name ≡ Some n)
    × (length (string_at o.strings n) ≡ 16)
poked-Ok o line address name i e =
    let made = stepped_on (data_named o line name) (Poke address) (fitting o line) i e in
    let long = length (string_at o.strings made.0) in
    let sixteen = passed (long == 16) (Poke address made.0) i (Range line) made.2 in (
      made.0,
      sym sixteen.1,
      found (place_of o.data_numbers name) (UnknownLabel line) made.0 made.1,
      eqb-true long 16 sixteen.0,
    )

pub resolved-Means : (o : Outline) (line : ℕ) (d : Draft) (i : Step ℕ ℕ) → resolved o line d ≡ Ok i → Meant o d i
resolved-Means o line (Poke address name) i e = poked-Ok o line address name i e
resolved-Means o line (Arrive name) i e = data-Ok o line name i Arrive (λ n. refl) e
resolved-Means o line (JumpIfEqual word name) i e = label-Ok o line name i (JumpIfEqual word) (λ n. refl) e
resolved-Means o line (JumpUnlessEqual word name) i e = label-Ok o line name i (JumpUnlessEqual word) (λ n. refl) e
resolved-Means o line (Jump name) i e = label-Ok o line name i Jump (λ n. refl) e
resolved-Means o line other i e = cc

Ok-label : (o : Outline) (line : ℕ) (name : List ℕ) (i : Step ℕ ℕ) (f : ℕ → Step ℕ ℕ)
    → ((n : ℕ) → fitting o line (f n) ≡ Ok (f n)) → (pc : ℕ) → i ≡ f pc → place_of o.labels name ≡ Some pc
    → ((label_named o line name then λ n. Ok (f n)) then fitting o line) ≡ Ok i
Ok-label o line name i f fits pc is at =
    ap (λ p. (ok_or p (UnknownLabel line) then λ n. Ok (f n)) then fitting o line) at ∙ fits pc ∙ ap Ok (sym is)

Ok-data : (o : Outline) (line : ℕ) (name : List ℕ) (i : Step ℕ ℕ) (f : ℕ → Step ℕ ℕ)
    → ((n : ℕ) → fitting o line (f n) ≡ Ok (f n)) → (n : ℕ) → i ≡ f n → place_of o.data_numbers name ≡ Some n
    → ((data_named o line name then λ n. Ok (f n)) then fitting o line) ≡ Ok i
Ok-data o line name i f fits n is at =
    ap (λ p. (ok_or p (UnknownLabel line) then λ n. Ok (f n)) then fitting o line) at ∙ fits n ∙ ap Ok (sym is)

of_16 : (o : Outline) (line address n : ℕ) → length (string_at o.strings n) ≡ 16
    → fitting o line (Poke address n) ≡ Ok (Poke address n)
of_16 o line address n long = rw (eq-eqb (length (string_at o.strings n)) 16 long) refl

Ok-poked : (o : Outline) (line address : ℕ) (name : List ℕ) (i : Step ℕ ℕ) (n : ℕ) → i ≡ Poke address n
    → place_of o.data_numbers name ≡ Some n → length (string_at o.strings n) ≡ 16
    → ((data_named o line name then λ n. Ok (Poke address n)) then fitting o line) ≡ Ok i
Ok-poked o line address name i n is at long =
    ap (λ p. (ok_or p (UnknownLabel line) then λ n. Ok (Poke address n)) then fitting o line) at
    ∙ of_16 o line address n long ∙ ap Ok (sym is)

pub Means-resolved : (o : Outline) (line : ℕ) (d : Draft) (i : Step ℕ ℕ) → Meant o d i → resolved o line d ≡ Ok i
Means-resolved o line (Poke address name) i is = Ok-poked o line address name i is.0 is.1 is.2 is.3
Means-resolved o line (Arrive name) i is = Ok-data o line name i Arrive (λ n. refl) is.0 is.1 is.2
Means-resolved o line (JumpIfEqual word name) i is =
    Ok-label o line name i (JumpIfEqual word) (λ n. refl) is.0 is.1 is.2
Means-resolved o line (JumpUnlessEqual word name) i is =
    Ok-label o line name i (JumpUnlessEqual word) (λ n. refl) is.0 is.1 is.2
Means-resolved o line (Jump name) i is = Ok-label o line name i Jump (λ n. refl) is.0 is.1 is.2
Means-resolved o line other i is = ap Ok (sym is)
