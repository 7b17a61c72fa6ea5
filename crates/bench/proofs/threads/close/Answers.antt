use Rattle.std.proofs.Common.{ap, ◌∙◌}
use Rattle.bench.specs.Summary.{sent_in}
use Rattle.bench.proofs.threads.close.Goals as goal

pub returns-else-not-theirs : goal.returns-else-not-theirs
returns-else-not-theirs c = (
  c.in-Ok.closed.history,
  c.history.ensures.legal,
  c.have_their_queues-theirs.ensures.0 c.if-not-theirs.false,
  c.sent_in-sent.ensures ∙ ap sent_in c.history.ensures.entries,
)
