use Rattle.std.proofs.Common.{List, ◌∙◌, ap}
use Rattle.device_lock.specs.Calls.{calls_in}
use Rattle.device_lock.specs.Pass.{call_of}
use Rattle.device_lock.specs.declared.calls.Made.{Made}
use Rattle.device_lock.proofs.MadeCalls.{calls-more}
use Rattle.device_lock.proofs.calls.put_call.Goals as goal

pub returns : goal.returns
returns c =
    ap (λ (l : List Made). calls_in l c.none.result) c.push_reserved.ensures.items
    ∙ calls-more c.args.made.now.items c.args.rested.now c.none.result (call_of c.args.event c.args.reply)
    c.none.ensures
