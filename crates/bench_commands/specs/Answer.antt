-- Answers: the output for an input, and the exit status.
use Rattle.std.specs.Prelude.{◌≡◌, ℕ, Bool, List, ◌++◌, Option, Some, None, OnErr, Result, Ok, Err, codes, true}
use Rattle.std.specs.Io.KnownBytes.{Appends}
use Rattle.bench_commands.specs.Refusal.{refusal_line}
use Rattle.bench_commands.specs.declared.failure.Failure.{Failure}
use Rattle.bench_commands.specs.declared.failure.Failure.TheVariants.{OutOfMemory, Read, Write}

-- The text to write, and the exit status.
pub record Answer : Type 0 where
  pub text : List ℕ
  pub status : ℕ

-- The answer to a refused input: the refusal's name, followed by its number if there is one.
abbrev pub refused : List ℕ → Option ℕ → Answer
refused name number = record { text = refusal_line name number; status = 2 }

abbrev pub refused_as : List ℕ → Answer
refused_as name = refused name None

abbrev pub refused_at : List ℕ → ℕ → Answer
refused_at name number = refused name (Some number)

-- The answer if memory runs out.
abbrev pub no_memory : Answer
no_memory = record { text = refusal_line (codes "OutOfMemory") None; status = 4 }

-- The answer's text was written, and `status` is the answer's status.
abbrev pub Writes : Option (List ℕ) → Option (List ℕ) → Answer → ℕ → Type 0
Writes old new answer status = Appends old new answer.text × (status ≡ answer.status)

-- The written text is a prefix of this text, which may be empty or the whole text.
pub record WritesBeginning (old new : Option (List ℕ)) (text : List ℕ) : Type 0 where
  pub beginning : List ℕ
  pub rest : List ℕ
  pub written : Appends old new beginning
  pub whole : beginning ++ rest ≡ text

-- If the result is an error, it is `Failure::Write`, and a write has failed.
abbrev pub FailsToWrite : {T : Type 0} → Result T Failure → Bool → Type 0
FailsToWrite result has_failed = OnErr result ((result ≡ Err Write) × (has_failed ≡ true))

-- An answer wasn't completed because a write failed, or because memory ran out after a prefix of the answer was
-- written.
abbrev pub GivesUp : Failure → Bool → Type 0 → Type 0
GivesUp Read has_failed IsBegun = ⊥
GivesUp Write has_failed IsBegun = has_failed ≡ true
GivesUp OutOfMemory has_failed IsBegun = IsBegun

-- The answer was written and its status returned, or the answer wasn't completed.
abbrev pub Gives : Result ℕ Failure → Option (List ℕ) → Option (List ℕ) → Bool → Answer → Type 0
Gives (Ok status) old new has_failed answer = Writes old new answer status
Gives (Err failure) old new has_failed answer = GivesUp failure has_failed (WritesBeginning old new answer.text)

-- A right answer was written, and `status` is its status.
abbrev pub WritesRight : Option (List ℕ) → Option (List ℕ) → (Answer → Type 0) → ℕ → Type 0
WritesRight old new IsRight status = (answer : Answer) × IsRight answer × Writes old new answer status

-- A prefix of every right answer was written.
abbrev pub BeginsRight : Option (List ℕ) → Option (List ℕ) → (Answer → Type 0) → Type 0
BeginsRight old new IsRight = (answer : Answer) → IsRight answer → WritesBeginning old new answer.text

-- A right answer was written and its status returned, or the answer wasn't completed.
abbrev pub GivesRight : Result ℕ Failure → Option (List ℕ) → Option (List ℕ) → Bool → (Answer → Type 0) → Type 0
GivesRight (Ok status) old new has_failed IsRight = WritesRight old new IsRight status
GivesRight (Err failure) old new has_failed IsRight = GivesUp failure has_failed (BeginsRight old new IsRight)
