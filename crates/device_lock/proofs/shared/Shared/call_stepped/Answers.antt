use Rattle.device_lock.proofs.Stepped.{exactly, foreign_answered, is_answered, stops, stops_answered}
use Rattle.device_lock.proofs.shared.Shared.call_stepped.Goals as goal

pub returns-then-bench-self-clause-stopped : goal.returns-then-bench-self-clause-stopped
returns-then-bench-self-clause-stopped g c =
    foreign_answered g.row.VFS g.row.FIFO c.args.pass.now c.args.queue

pub returns-clause-exact : goal.returns-clause-exact
returns-clause-exact g c =
    exactly c.args.queue c.args.event _ c.step_and_call.new.locked c.args.pass.now
    c.step_and_call.new.self c.step_and_call.result c.step_and_call.ensures.made c.step_and_call.ensures.reply

pub returns-clause-answered : goal.returns-clause-answered
returns-clause-answered g c =
    is_answered c.args.queue c.args.event _ c.step_and_call.new.locked c.args.pass.now
    c.step_and_call.new.self g.row.VFS g.row.FIFO c.step_and_call.ensures.led.legal c.step_and_call.ensures.led.leads
    c.step_and_call.result c.step_and_call.ensures.made c.step_and_call.ensures.reply

pub returns-clause-during : goal.returns-clause-during
returns-clause-during g c =
    stops c.args.queue c.args.event _ c.step_and_call.new.locked c.args.pass.now
    c.step_and_call.new.self c.step_and_call.result c.step_and_call.ensures.during

pub returns-clause-stopped : goal.returns-clause-stopped
returns-clause-stopped g c =
    stops_answered c.args.queue c.args.event _ c.step_and_call.new.locked c.args.pass.now
    c.step_and_call.new.self g.row.VFS g.row.FIFO c.step_and_call.ensures.led.legal c.step_and_call.ensures.led.leads
    c.step_and_call.result c.step_and_call.ensures.during
