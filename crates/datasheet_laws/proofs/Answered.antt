-- The replies to register accesses.
use Rattle.std.proofs.Common.{◌≡◌, refl, ap, sym, subst}
use Rattle.datasheet_laws.specs.Prelude.{Named, Word, named_read, named_written, step_of}
use Rattle.datasheet_laws.specs.Answered.{AccessesAreAnswered}
use Rattle.datasheet_laws.specs.Shown.{word_in}

pub answered : AccessesAreAnswered
unfolding step_of
answered s port number view p found = record {
  read = subst (λ (m : Named). (named_read s m).reply ≡ Word (word_in (named_read s m).reply)) (sym found) refl;
  written = λ word. ap (λ m. (named_written s m word).reply) found;
}
