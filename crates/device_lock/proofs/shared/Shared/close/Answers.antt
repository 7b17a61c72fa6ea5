use Rattle.std.proofs.Common.{subst, Some, None}
use Rattle.device_lock.specs.Closing.{Answers}
use Rattle.device_lock.specs.Pass.{SharedValue}
use Rattle.device_lock.proofs.Closing.{closed_none_missing, missing_exactly, surplus_exactly}
use Rattle.device_lock.proofs.shared.Shared.close.Goals as goal

pub returns-in-Ok-clause-missing : goal.returns-in-Ok-clause-missing
returns-in-Ok-clause-missing g c = λ tag. (
  λ no. absurd no,
  λ missing.
      closed_none_missing c.args.self.bench c.args.self.passes c.into_inner.result.history c.args.passes.items
      tag
      (subst (λ (s : SharedValue). Answers s.bench s.passes c.into_inner.result.history c.args.passes.items None)
      c.self.view_is
      (subst (λ ps. Answers c.self.inside.bench c.self.inside.passes c.into_inner.result.history ps None)
      c.as_slice.ensures.value c.in-Ok.ensures.closes))
      missing,
)

pub returns-in-Err-clause-missing : goal.returns-in-Err-clause-missing
returns-in-Err-clause-missing g c = λ tag.
    missing_exactly c.args.self.bench c.args.self.passes c.into_inner.result.history c.args.passes.items
    c.in-Err.fault tag
    (subst (λ (s : SharedValue). Answers s.bench s.passes c.into_inner.result.history c.args.passes.items
    (Some c.in-Err.fault))
    c.self.view_is
    (subst (λ ps. Answers c.self.inside.bench c.self.inside.passes c.into_inner.result.history ps
    (Some c.in-Err.fault))
    c.as_slice.ensures.value c.in-Err.ensures.refused))

pub returns-in-Err-clause-foreign : goal.returns-in-Err-clause-foreign
returns-in-Err-clause-foreign g c =
    surplus_exactly c.args.self.bench c.args.self.passes c.into_inner.result.history c.args.passes.items
    c.in-Err.fault
    (subst (λ (s : SharedValue). Answers s.bench s.passes c.into_inner.result.history c.args.passes.items
    (Some c.in-Err.fault))
    c.self.view_is
    (subst (λ ps. Answers c.self.inside.bench c.self.inside.passes c.into_inner.result.history ps
    (Some c.in-Err.fault))
    c.as_slice.ensures.value c.in-Err.ensures.refused))
