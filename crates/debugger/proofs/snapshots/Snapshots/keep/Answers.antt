use Rattle.std.specs.Prelude.{is_ok}
use Rattle.debugger.proofs.Early.{stay-replaced}
use Rattle.debugger.proofs.snapshots.Snapshots.keep.Goals as goal

pub returns : goal.returns
returns c =
    stay-replaced c.args.machine.now 64 c.args.self.now.kept.items c.truncate.new.self.items c.push.new.self.items
    c.in-Ok.snapshot (is_ok c.push.result) c.in-Ok.ensures c.truncate.ensures.items c.push.ensures.items
