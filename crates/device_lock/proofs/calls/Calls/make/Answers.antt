use Rattle.std.proofs.Common.{◌∙◌, rules}
use Rattle.device_lock.proofs.calls.Calls.make.Goals as goal

pub returns-clause-calls : goal.returns-clause-calls
returns-clause-calls c =
    c.put_call.ensures ∙ rw c.ready.ensures.same (search rules)
