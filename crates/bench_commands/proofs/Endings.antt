-- Lemmas about how the program ends if an answer wasn't completed.
use Rattle.std.proofs.Common.{refl, subst, ◌≡◌, inl, inr, ℕ, List, codes, None, Option, Some, Err, IfSome}
use Rattle.clap.specs.Words.{HasKind, Kinds, kind_of}
use Rattle.clap.specs.declared.error.Error.{Error}
use Rattle.clap.specs.declared.error.ErrorKind.{ErrorKind}
use Rattle.clap.specs.declared.error.ErrorKind.TheVariants as kind
use Rattle.bench_commands.specs.declared.request.Request.{Request}
use Rattle.bench_commands.specs.Answer.{Answer, Writes, no_memory, refused_as}
use Rattle.bench_commands.specs.Ending.{AnswersRequest, EndsAs, EndsOf, EndsSaying, EndsUnwritten, EndsWords}
use Rattle.bench_commands.specs.Ending.{IsAnswerTo, StopsForMemory}
use Rattle.bench_commands.specs.declared.failure.Failure.{Failure}
use Rattle.bench_commands.specs.declared.failure.Failure.TheVariants.{OutOfMemory, Read, Write}
use Rattle.bench_commands.specs.declared.ending.Outcome.{Outcome}
use Rattle.bench_commands.specs.declared.ending.Outcome.TheVariants.{Ended, Threads}
use Rattle.bench_commands.proofs.Appending.{Appends-both}
use Rattle.bench_commands.proofs.Requests.{HasStatusOf-kind, begun-by-nothing}

module _ (old mid new : Option (List ℕ)) (IsFailed : ℕ → Type 0) where
  stops : (request : Request) (remaining : Option (List ℕ)) (status : ℕ)
      → AnswersRequest request remaining old mid (Err OutOfMemory) → Writes mid new no_memory status
      → IfSome remaining (λ input. (answer : Answer) → IsAnswerTo request input answer
      → StopsForMemory old new answer.text)
  stops request None status begun wrote = tt
  stops request (Some input) status begun wrote = λ answer right. let part = begun answer right in record {
    beginning = part.beginning;
    rest = part.rest;
    written = Appends-both old mid new part.beginning _ part.written wrote.0;
    whole = part.whole;
  }

  -- How the program ends after a request whose answer wasn't completed.
  pub ended-given-up : (request : Request) (remaining : Option (List ℕ)) (IsUnread : Type 0) (failure : Failure)
      (outcome : Outcome)
      → AnswersRequest request remaining old mid (Err failure) → (failure ≡ Read → IsUnread × (mid ≡ old))
      → (failure ≡ Read → EndsSaying mid new IsFailed (refused_as (codes "Input")) outcome)
      → (failure ≡ OutOfMemory → EndsSaying mid new IsFailed no_memory outcome)
      → (failure ≡ Write → EndsUnwritten IsFailed outcome)
      → EndsAs request remaining IsUnread old new IsFailed outcome
  ended-given-up request remaining IsUnread Read (Ended status) begun unread read memory write = go (read refl)
    where
      go : EndsSaying mid new IsFailed (refused_as (codes "Input")) (Ended status)
          → EndsAs request remaining IsUnread old new IsFailed (Ended status)
      go (inl wrote) = inr (inr (inl (
        (unread refl).0,
        subst (λ (o : Option (List ℕ)). Writes o new (refused_as (codes "Input")) status) (unread refl).1 wrote,
      )))
      go (inr failed) = inr (inr (inr failed))
  ended-given-up request remaining IsUnread OutOfMemory (Ended status) begun unread read memory write = go (memory refl)
    where
      go : EndsSaying mid new IsFailed no_memory (Ended status)
          → EndsAs request remaining IsUnread old new IsFailed (Ended status)
      go (inl wrote) = inr (inl (wrote.1, stops request remaining status begun wrote))
      go (inr failed) = inr (inr (inr failed))
  ended-given-up request remaining IsUnread Write (Ended status) begun unread read memory write =
      inr (inr (inr (write refl)))
  ended-given-up request remaining IsUnread Read (Threads workers frames) begun unread read memory write =
      absurd (read refl)
  ended-given-up request remaining IsUnread OutOfMemory (Threads workers frames) begun unread read memory write =
      absurd (memory refl)
  ended-given-up request remaining IsUnread Write (Threads workers frames) begun unread read memory write =
      absurd (write refl)

-- If memory runs out while the program reads arguments that make a request, only this is reported; nothing else is
-- written.
pub ended-for-memory : (old new : Option (List ℕ)) (IsFailed : ℕ → Type 0) (request : Request)
    (remaining : Option (List ℕ)) (IsUnread : Type 0) (outcome : Outcome)
    → EndsSaying old new IsFailed no_memory outcome → EndsAs request remaining IsUnread old new IsFailed outcome
ended-for-memory old new IsFailed request remaining IsUnread (Ended status) (inl wrote) = inr (inl (
  wrote.1,
  stops old old new IsFailed request remaining status
      (begun-by-nothing request remaining old old (Err OutOfMemory) (λ is. refl) tt) wrote,
))
ended-for-memory old new IsFailed request remaining IsUnread (Ended status) (inr failed) = inr (inr (inr failed))
ended-for-memory old new IsFailed request remaining IsUnread (Threads workers frames) never = absurd never

-- How the program ends for arguments that make no request.
pub ended-words : (old new : Option (List ℕ)) (IsFailed : ℕ → Type 0) (kinds : Kinds) (e : Error) (outcome : Outcome)
    → HasKind kinds e → EndsOf (kind_of e) old new IsFailed outcome → EndsWords kinds old new IsFailed outcome
ended-words old new IsFailed kinds e (Ended status) has (inl (is, inl wrote)) = inr (inl (wrote.1, wrote.0))
ended-words old new IsFailed kinds e (Ended status) has (inl (is, inr failed)) = inr (inr failed)
ended-words old new IsFailed kinds e (Ended status) has (inr (other, inl is)) =
    inl (HasStatusOf-kind kinds e status is other has)
ended-words old new IsFailed kinds e (Ended status) has (inr (other, inr failed)) = inr (inr failed)
ended-words old new IsFailed kinds e (Threads workers frames) has (inl (is, never)) = absurd never
ended-words old new IsFailed kinds e (Threads workers frames) has (inr (other, never)) = absurd never

-- How the program ends after an out-of-memory error.
pub ended-of-memory : (old new : Option (List ℕ)) (IsFailed : ℕ → Type 0) (k : ErrorKind) (outcome : Outcome)
    → k ≡ kind.OutOfMemory → EndsOf k old new IsFailed outcome → EndsSaying old new IsFailed no_memory outcome
ended-of-memory old new IsFailed k outcome is (inl reported) = reported.1
ended-of-memory old new IsFailed k outcome is (inr reported) = absurd (reported.0 is)
