use Rattle.std.proofs.Common.{ℕ, ◌<◌, rules, subst, IsTrue}
use Rattle.device_lock.specs.Closing.{TagStands}
use Rattle.device_lock.proofs.Closing.{closes}
use Rattle.device_lock.proofs.unlocked.Unlocked.refusal.Goals as goal

pub returns-then-not-are_all-clause-answers : goal.returns-then-not-are_all-clause-answers
returns-then-not-are_all-clause-answers g c = (
  c.in_default.ensures.none,
  λ all.
      let yes : IsTrue c.are_all.result = c.are_all.ensures.1 all in
      absurd (search (rules, yes, c.if-not-are_all.true)),
)

pub returns-clause-answers : goal.returns-clause-answers
returns-clause-answers g c =
    closes c.args.bench c.args.count c.args.self.now.history c.args.passes.now c.requires
    c.history-history.ensures.below (c.are_all.ensures.0 c.if-not-are_all.false)
    (subst (λ h. (tag : ℕ) → tag < 64 → TagStands h tag c.args.passes.now) c.history-history.ensures.entries
    c.in_default-lowest_mismatch.ensures.none)
