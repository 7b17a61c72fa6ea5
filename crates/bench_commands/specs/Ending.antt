-- The answer to arguments, and how the program ends.
use Rattle.std.specs.Prelude.{◌≡◌, ◌≢◌, ◌⊎◌, ℕ, Bool, List, [], ◌∷◌, ◌++◌, None, IfSome, MatchResult, Option, Result, Ok, Err, codes, true, if◌then◌else◌}
use Rattle.std.specs.Io.KnownBytes.{Appends}
use Rattle.clap.specs.Words.{Kinds}
use Rattle.clap.specs.declared.error.ErrorKind.{ErrorKind}
use Rattle.clap.specs.declared.error.ErrorKind.TheVariants as kind
use Rattle.bench_commands.specs.declared.request.BytesRequest.{BytesRequest}
use Rattle.bench_commands.specs.declared.request.BytesRequest.TheVariants.{Dis, LoadEeprom}
use Rattle.bench_commands.specs.declared.request.Request.{Request}
use Rattle.bench_commands.specs.declared.request.Request.TheVariants.{Bytes, Text}
use Rattle.bench_commands.specs.declared.threads_options.ThreadsOptions.{ThreadsOptions}
use Rattle.bench_commands.specs.declared.request.TextRequest.{TextRequest}
use Rattle.bench_commands.specs.declared.request.TextRequest.TheVariants.{Asm, Debug, Eeprom, Hash, Run}
use Rattle.bench_commands.specs.Answer.{Answer, BeginsRight, Writes, WritesRight, no_memory, refused_as}
use Rattle.bench_commands.specs.Debug.{debug_answer}
use Rattle.bench_commands.specs.Eeprom.{IsImageAnswer, IsLoadAnswer}
use Rattle.bench_commands.specs.Hash.{hash_answer}
use Rattle.bench_commands.specs.Objects.{asm_answer, dis_answer}
use Rattle.bench_commands.specs.Reading.{bytes_in, text_in}
use Rattle.bench_commands.specs.Refusal.{refusal_line}
use Rattle.bench_commands.specs.Run.{run_answer}
use Rattle.bench_commands.specs.declared.failure.Failure.{Failure}
use Rattle.bench_commands.specs.declared.failure.Failure.TheVariants.{OutOfMemory, Read, Write}
use Rattle.bench_commands.specs.declared.ending.Outcome.{Outcome}
use Rattle.bench_commands.specs.declared.ending.Outcome.TheVariants.{Ended, Threads}
use Rattle.bench_commands.specs.declared.output.Output.{Output}

-- The answer is the one that the request specifies for an input's text.
abbrev pub IsTextAnswer : TextRequest → List ℕ → Answer → Type 0
IsTextAnswer (Run options) text answer = answer ≡ run_answer options text
IsTextAnswer (Debug options) text answer = answer ≡ debug_answer options text
IsTextAnswer Hash text answer = answer ≡ hash_answer text
IsTextAnswer Asm text answer = answer ≡ asm_answer text
IsTextAnswer Eeprom text answer = IsImageAnswer text answer

-- The answer is the one that the request specifies for an input's bytes.
abbrev pub IsBytesAnswer : BytesRequest → List ℕ → Answer → Type 0
IsBytesAnswer Dis bytes answer = answer ≡ dis_answer bytes
IsBytesAnswer LoadEeprom bytes answer = IsLoadAnswer bytes answer

-- The answer is the one that the request specifies for bytes within the limit.
abbrev pub IsGivenAnswer : Request → List ℕ → Answer → Type 0
IsGivenAnswer (Text request) bytes answer =
    MatchResult (text_in bytes) (λ text. IsTextAnswer request text answer) (λ refusal. answer ≡ refusal)
IsGivenAnswer (Bytes request) bytes answer = IsBytesAnswer request bytes answer

-- The answer is the one that the request specifies for all bytes of an input.
abbrev pub IsAnswerTo : Request → List ℕ → Answer → Type 0
IsAnswerTo request input answer =
    MatchResult (bytes_in input) (λ bytes. IsGivenAnswer request bytes answer) (λ refusal. answer ≡ refusal)

-- The request was answered, or memory ran out after a prefix of the answer was written.
abbrev pub AnswersRequest : Request → Option (List ℕ) → Option (List ℕ) → Option (List ℕ) → Result ℕ Failure → Type 0
AnswersRequest request remaining old new (Ok status) =
    IfSome remaining (λ input. WritesRight old new (IsAnswerTo request input) status)
AnswersRequest request remaining old new (Err OutOfMemory) =
    IfSome remaining (λ input. BeginsRight old new (IsAnswerTo request input))
AnswersRequest request remaining old new (Err Read) = Unit {0}
AnswersRequest request remaining old new (Err Write) = Unit {0}

-- The exit status for arguments that make no request: 0 for the help and the version, otherwise 3.
abbrev pub words_status : ErrorKind → ℕ
words_status kind.DisplayHelp = 0
words_status kind.DisplayVersion = 0
words_status _ = 3

-- The status is the exit status for one of these kinds of clap error.
abbrev pub HasStatusOf : Kinds → ℕ → Type 0
HasStatusOf [] status = ⊥
HasStatusOf (k ∷ ks) status = (status ≡ words_status k) ⊎ HasStatusOf ks status

-- A prefix of the text was written, then the refusal for lack of memory.
pub record StopsForMemory (old new : Option (List ℕ)) (text : List ℕ) : Type 0 where
  pub beginning : List ℕ
  pub rest : List ℕ
  pub written : Appends old new (beginning ++ refusal_line (codes "OutOfMemory") None)
  pub whole : beginning ++ rest ≡ text

-- The exit status after a failed write: 4 if the write failed for lack of memory, otherwise 2.
abbrev pub unwritten_status : Bool → ℕ
unwritten_status lacked_memory = if lacked_memory then 4 else 2

-- A write has failed, and `status` is the exit status after this failure.
abbrev pub IsUnwritten : {W : Type 0} → Output W → ℕ → Type 0
IsUnwritten output status = (output.has_failed ≡ true) × (status ≡ unwritten_status output.lacked_memory)

-- The program ends with the status for a failed write.
abbrev pub EndsUnwritten : (ℕ → Type 0) → Outcome → Type 0
EndsUnwritten IsFailed (Ended status) = IsFailed status
EndsUnwritten IsFailed (Threads workers frames) = ⊥

-- The program ends with this answer, or with the status for a failed write.
abbrev pub EndsSaying : Option (List ℕ) → Option (List ℕ) → (ℕ → Type 0) → Answer → Outcome → Type 0
EndsSaying old new IsFailed answer (Ended status) = Writes old new answer status ⊎ IsFailed status
EndsSaying old new IsFailed answer (Threads workers frames) = ⊥

-- The program ends with the status for this kind of clap error, or with the status for a failed write.
abbrev pub EndsSaid : ErrorKind → (ℕ → Type 0) → Outcome → Type 0
EndsSaid kind IsFailed (Ended status) = (status ≡ words_status kind) ⊎ IsFailed status
EndsSaid kind IsFailed (Threads workers frames) = ⊥

-- The program ends because of a clap error. Lack of memory is reported in the same way as everywhere else; for any
-- other error, clap's message is written.
abbrev pub EndsOf : ErrorKind → Option (List ℕ) → Option (List ℕ) → (ℕ → Type 0) → Outcome → Type 0
EndsOf of old new IsFailed outcome =
    ((of ≡ kind.OutOfMemory) × EndsSaying old new IsFailed no_memory outcome)
    ⊎ ((of ≢ kind.OutOfMemory) × EndsSaid of IsFailed outcome)

-- The program leaves the request for threads to its caller, and this property holds.
abbrev pub IsLeft : ThreadsOptions → Type 0 → Outcome → Type 0
IsLeft options holds (Ended status) = ⊥
IsLeft options holds (Threads workers frames) =
    (workers ≡ options.workers) × (frames ≡ options.frames) × holds

-- The program ends in one of four ways: with the status of the answer to the input, all of which is written; with 4
-- after a prefix of the answer, if memory ran out; with 2 and the refusal `Input`, if the input couldn't be read; or
-- with the status for a failed write.
abbrev pub EndsAs : Request → Option (List ℕ) → Type 0 → Option (List ℕ) → Option (List ℕ) → (ℕ → Type 0) → Outcome
    → Type 0
EndsAs request remaining IsUnread old new IsFailed (Ended status) =
    IfSome remaining (λ input. WritesRight old new (IsAnswerTo request input) status)
    ⊎ (((status ≡ 4) × IfSome remaining (λ input. (answer : Answer) → IsAnswerTo request input answer
    → StopsForMemory old new answer.text))
    ⊎ ((IsUnread × Writes old new (refused_as (codes "Input")) status)
    ⊎ IsFailed status))
EndsAs request remaining IsUnread old new IsFailed (Threads workers frames) = ⊥

-- For arguments that make no request, the program ends in one of three ways: with the status for one of these kinds of
-- clap error; with 4 and a refusal, if memory ran out; or with the status for a failed write.
abbrev pub EndsWords : Kinds → Option (List ℕ) → Option (List ℕ) → (ℕ → Type 0) → Outcome → Type 0
EndsWords kinds old new IsFailed (Ended status) =
    HasStatusOf kinds status
    ⊎ (((status ≡ 4) × Appends old new (refusal_line (codes "OutOfMemory") None))
    ⊎ IsFailed status)
EndsWords kinds old new IsFailed (Threads workers frames) = ⊥
