use Rattle.std.proofs.Common.{ap}
use Rattle.pmd_access.specs.Asks.{fault_in}
use Rattle.pmd_access.proofs.Exchanging.{out_kept}
use Rattle.pmd_rx.specs.Keeping.{blocks_out}
use Rattle.pmd_rx.proofs.Acting.{gathers_seen}
use Rattle.pmd_rx.proofs.ring.ReceiveRing.take_next.Goals as goal

pub take_whole-requires-clause-running : goal.take_whole-requires-clause-running
take_whole-requires-clause-running g c =
    (c.look_whole.ensures.gathers.gathers c.args.arena.now).keeps.running c.requires.running

pub take_whole-requires-clause-home : goal.take_whole-requires-clause-home
take_whole-requires-clause-home g c =
    let a = c.args.arena.now in
    out_kept a (blocks_out c.args.self.now) a (blocks_out c.look_whole.new.self) c.requires.home
    (c.look_whole.ensures.gathers.gathers a).keeps.arena

pub returns-in-Ok-clause-gathers : goal.returns-in-Ok-clause-gathers
returns-in-Ok-clause-gathers g c =
    gathers_seen c.look_whole.ensures.gathers c.look_whole.ensures.kept c.in-Ok.ensures.gathers

pub returns-in-Err-take_whole-clause-gathers : goal.returns-in-Err-take_whole-clause-gathers
returns-in-Err-take_whole-clause-gathers g c =
    gathers_seen c.look_whole.ensures.gathers c.look_whole.ensures.kept c.in-Err-take_whole.ensures.gathers

pub returns-in-Ok-false-clause-gathers : goal.returns-in-Ok-false-clause-gathers
returns-in-Ok-false-clause-gathers g c = c.in-Ok-false.ensures.gathers.gathers c.args.arena.now

pub returns-in-Err-clause-gathers : goal.returns-in-Err-clause-gathers
returns-in-Err-clause-gathers g c = c.in-Err.ensures.gathers.gathers c.args.arena.now

pub returns-in-Err-clause-waits : goal.returns-in-Err-clause-waits
returns-in-Err-clause-waits g c short = absurd (c.in-Err.ensures.gathers.enough (ap fault_in short))
