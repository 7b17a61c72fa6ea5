-- Lemmas that derive the answers to requests from the answers to the bytes that were read.
use Rattle.std.proofs.Common.{refl, sym, subst, ap, ◌∙◌, ◌≡◌, ◌≤◌, ◌<◌, inl, inr, ℕ, Bool, true, false, List, [], ◌∷◌, codes, length, Option, Some, None, Result, Ok, Err, IfOk, IfSome, MatchResult, if◌then◌else◌}
use Rattle.std.specs.Str.{IsUtf8, is_utf8}
use Rattle.std.proofs.lemmas.Bool.{false_from_ne_true, le-ltb, lt-ltb}
use Rattle.std.proofs.lemmas.Str.{IsUtf8-from_is_utf8, is_utf8-from_IsUtf8}
use Rattle.clap.specs.Words.{HasKind, IsAmong, Kinds, kind_of}
use Rattle.clap.specs.declared.error.Error.{Error}
use Rattle.clap.specs.declared.error.ErrorKind.{ErrorKind}
use Rattle.clap.specs.declared.error.ErrorKind.TheVariants as kind
use Rattle.bench_commands.specs.declared.request.BytesRequest.{BytesRequest}
use Rattle.bench_commands.specs.declared.request.Request.{Request}
use Rattle.bench_commands.specs.declared.request.Request.TheVariants.{Text}
use Rattle.bench_commands.specs.declared.request.TextRequest.{TextRequest}
use Rattle.bench_commands.specs.Answer.{Answer, Gives, GivesRight, WritesBeginning, refused_as}
use Rattle.bench_commands.specs.Ending.{AnswersRequest, HasStatusOf, IsBytesAnswer, IsGivenAnswer, IsTextAnswer}
use Rattle.bench_commands.specs.Ending.{words_status}
use Rattle.bench_commands.specs.declared.failure.Failure.{Failure}
use Rattle.bench_commands.specs.declared.failure.Failure.TheVariants.{OutOfMemory, Read, Write}
use Rattle.bench_commands.proofs.Giving.{begins-with-nothing, gives-right}

module _ (old new : Option (List ℕ)) (has_failed : Bool) (r : Result ℕ Failure) where
  -- The answer to this particular request.
  pub given-to-text : (request one : TextRequest) (text : List ℕ) → request ≡ one
      → GivesRight r old new has_failed (IsTextAnswer one text)
      → GivesRight r old new has_failed (IsTextAnswer request text)
  given-to-text request one text is given =
      subst (λ (q : TextRequest). GivesRight r old new has_failed (IsTextAnswer q text)) (sym is) given

  pub given-to-bytes : (request one : BytesRequest) (bytes : List ℕ) → request ≡ one
      → GivesRight r old new has_failed (IsBytesAnswer one bytes)
      → GivesRight r old new has_failed (IsBytesAnswer request bytes)
  given-to-bytes request one bytes is given =
      subst (λ (q : BytesRequest). GivesRight r old new has_failed (IsBytesAnswer q bytes)) (sym is) given

  pub given-to : (request one : Request) (bytes : List ℕ) → request ≡ one
      → GivesRight r old new has_failed (IsGivenAnswer one bytes)
      → GivesRight r old new has_failed (IsGivenAnswer request bytes)
  given-to request one bytes is given =
      subst (λ (q : Request). GivesRight r old new has_failed (IsGivenAnswer q bytes)) (sym is) given

module _ (old new : Option (List ℕ)) (has_failed : Bool) (r : Result ℕ Failure) (request : TextRequest) (bytes : List ℕ)
  where
    by-text : (b : Bool) → is_utf8 bytes ≡ b
        → GivesRight r old new has_failed
        (λ answer. MatchResult (if b then Ok bytes else Err (refused_as (codes "Input")))
        (λ text. IsTextAnswer request text answer) (λ refusal. answer ≡ refusal))
        → GivesRight r old new has_failed (IsGivenAnswer (Text request) bytes)
    by-text b is given =
        subst (λ (b : Bool). GivesRight r old new has_failed
        (λ answer. MatchResult (if b then Ok bytes else Err (refused_as (codes "Input")))
        (λ text. IsTextAnswer request text answer) (λ refusal. answer ≡ refusal)))
        (sym is) given

    -- If the bytes are UTF-8, they are answered as text.
    pub given-text : (text : List ℕ) → text ≡ bytes → IsUtf8 bytes
        → GivesRight r old new has_failed (IsTextAnswer request text)
        → GivesRight r old new has_failed (IsGivenAnswer (Text request) bytes)
    given-text text same utf8 given =
        by-text true (is_utf8-from_IsUtf8 bytes utf8)
        (subst (λ (t : List ℕ). GivesRight r old new has_failed (IsTextAnswer request t)) same given)

    -- If the bytes aren't UTF-8, they are refused.
    pub given-no-text : ¬ (IsUtf8 bytes) → Gives r old new has_failed (refused_as (codes "Input"))
        → GivesRight r old new has_failed (IsGivenAnswer (Text request) bytes)
    given-no-text other given =
        by-text false (false_from_ne_true (is_utf8 bytes) (λ is. other (IsUtf8-from_is_utf8 bytes is)))
        (gives-right old new has_failed r (refused_as (codes "Input")) (λ answer. answer ≡ refused_as (codes "Input"))
        refl (λ answer is. is) given)

module _ (request : Request) (old new : Option (List ℕ)) (has_failed : Bool) where
  -- The bytes read are the whole input.
  pub answered : (remaining : Option (List ℕ)) (r : Result ℕ Failure) (bytes : List ℕ)
      → IfSome remaining (λ input. bytes ≡ input) → length bytes ≤ 8388608
      → GivesRight r old new has_failed (IsGivenAnswer request bytes) → AnswersRequest request remaining old new r
  answered remaining (Err Read) bytes whole fits given = tt
  answered remaining (Err Write) bytes whole fits given = tt
  answered None (Ok status) bytes whole fits given = tt
  answered None (Err OutOfMemory) bytes whole fits given = tt
  answered (Some input) (Ok status) bytes whole fits given = rw (← whole, le-ltb 8388608 (length bytes) fits) given
  answered (Some input) (Err OutOfMemory) bytes whole fits given =
      rw (← whole, le-ltb 8388608 (length bytes) fits) given

  -- The input has too many bytes.
  pub answered-too-long : (remaining : Option (List ℕ)) (r : Result ℕ Failure)
      → IfSome remaining (λ input. 8388608 < length input)
      → Gives r old new has_failed (refused_as (codes "TooLong")) → AnswersRequest request remaining old new r
  answered-too-long remaining (Err Read) long given = tt
  answered-too-long remaining (Err Write) long given = tt
  answered-too-long None (Ok status) long given = tt
  answered-too-long None (Err OutOfMemory) long given = tt
  answered-too-long (Some input) (Ok status) long given =
      rw (lt-ltb 8388608 (length input) long) (refused_as (codes "TooLong"), refl, given)
  answered-too-long (Some input) (Err OutOfMemory) long given =
      rw (lt-ltb 8388608 (length input) long)
      (λ answer is. subst (λ (a : Answer). WritesBeginning old new a.text) (sym is) given)

  -- Writing an answer never returns `Failure::Read`.
  pub never-unread : (r : Result ℕ Failure) (IsRight : Answer → Type 0) → GivesRight r old new has_failed IsRight
      → r ≡ Err Read → ⊥
  never-unread r IsRight given is = let read : GivesRight (Err Read) old new has_failed IsRight =
      subst (λ (x : Result ℕ Failure). GivesRight x old new has_failed IsRight) is given in read

  pub unwritten : (r : Result ℕ Failure) (IsRight : Answer → Type 0) → GivesRight r old new has_failed IsRight
      → r ≡ Err Write → has_failed ≡ true
  unwritten r IsRight given is = let wrote : GivesRight (Err Write) old new has_failed IsRight =
      subst (λ (x : Result ℕ Failure). GivesRight x old new has_failed IsRight) is given in wrote

-- If nothing was written and no status returned, the result is one that `AnswersRequest` allows.
pub begun-by-nothing : (request : Request) (remaining old new : Option (List ℕ)) (r : Result ℕ Failure)
    → (r ≡ Err OutOfMemory → new ≡ old) → IfOk r (λ _. ⊥)
    → AnswersRequest request remaining old new r
begun-by-nothing request remaining old new (Err Read) nothing never = tt
begun-by-nothing request remaining old new (Err Write) nothing never = tt
begun-by-nothing request remaining old new (Ok status) nothing never = absurd never
begun-by-nothing request None old new (Err OutOfMemory) nothing never = tt
begun-by-nothing request (Some input) old new (Err OutOfMemory) nothing never =
    λ answer right. rw (nothing refl) (begins-with-nothing old answer.text)

-- The status of an error of one of these kinds.
pub HasStatusOf-kind : (kinds : Kinds) (e : Error) (status : ℕ) → status ≡ words_status (kind_of e)
    → (kind_of e ≡ kind.OutOfMemory → ⊥) → HasKind kinds e
    → HasStatusOf kinds status
HasStatusOf-kind kinds e status is other (inl memory) = absurd (other memory)
HasStatusOf-kind kinds e status is other (inr among) = go kinds (kind_of e) is among
  where
    go : (kinds : Kinds) (k : ErrorKind) → status ≡ words_status k → IsAmong k kinds → HasStatusOf kinds status
    go [] k is among = absurd among
    go (x ∷ kinds) k is (inl same) = inl (is ∙ ap words_status same)
    go (x ∷ kinds) k is (inr more) = inr (go kinds k is more)
