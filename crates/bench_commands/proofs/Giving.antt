-- Lemmas about answers, whether or not they are completed.
use Rattle.std.proofs.Common.{refl, sym, subst, ap, ◌≡◌, ℕ, Bool, List, [], ◌++◌, append_assoc, ◌∙◌, Option, Result, Ok, Err}
use Rattle.std.specs.Io.KnownBytes.{Appends}
use Rattle.bench_commands.specs.Answer.{Answer, Gives, GivesRight, WritesBeginning}
use Rattle.bench_commands.specs.declared.failure.Failure.{Failure}
use Rattle.bench_commands.specs.declared.failure.Failure.TheVariants.{OutOfMemory, Read, Write}
use Rattle.bench_commands.proofs.Appending.{Appends-both, Appends-none}

module _ (old new : Option (List ℕ)) (has_failed : Bool) where
  -- Assume that an answer is the only right answer. If the program wrote this answer or didn't complete it, the program
  -- wrote a right answer or didn't complete it.
  pub gives-right : (r : Result ℕ Failure) (answer : Answer) (IsRight : Answer → Type 0) → IsRight answer
      → ((other : Answer) → IsRight other → other ≡ answer) → Gives r old new has_failed answer
      → GivesRight r old new has_failed IsRight
  gives-right (Ok status) answer IsRight is only given = (answer, is, given)
  gives-right (Err Read) answer IsRight is only given = given
  gives-right (Err Write) answer IsRight is only given = given
  gives-right (Err OutOfMemory) answer IsRight is only given =
      λ other right. subst (λ (a : Answer). WritesBeginning old new a.text) (sym (only other right)) given

  pub gives-same : (r : Result ℕ Failure) (answer other : Answer) → answer ≡ other → Gives r old new has_failed answer
      → Gives r old new has_failed other
  gives-same r answer other same given = subst (Gives r old new has_failed) same given

-- Writing nothing writes a prefix of any text.
pub begins-with-nothing : (old : Option (List ℕ)) (text : List ℕ) → WritesBeginning old old text
begins-with-nothing old text = record { beginning = []; rest = text; written = Appends-none old; whole = refl }

-- Writing the rest of an answer after a text that was already written.
pub gives-after : (old mid new : Option (List ℕ)) (has_failed : Bool) (r : Result ℕ Failure) (text : List ℕ)
    (answer : Answer) → Appends old mid text
    → Gives r mid new has_failed answer
    → Gives r old new has_failed (record { text = text ++ answer.text; status = answer.status })
gives-after old mid new has_failed (Ok status) text answer wrote given =
    (Appends-both old mid new text answer.text wrote given.0, given.1)
gives-after old mid new has_failed (Err Read) text answer wrote given = given
gives-after old mid new has_failed (Err Write) text answer wrote given = given
gives-after old mid new has_failed (Err OutOfMemory) text answer wrote given = record {
  beginning = text ++ given.beginning;
  rest = given.rest;
  written = Appends-both old mid new text given.beginning wrote given.written;
  whole = append_assoc text given.beginning given.rest ∙ ap (λ (t : List ℕ). text ++ t) given.whole;
}
