use Rattle.std.proofs.Common.{sym, subst}
use Rattle.pmd_driver.specs.Blocks.{LosesNone}
use Rattle.pmd_driver.specs.Driver.{Driver, halted_of}
use Rattle.pmd_driver.proofs.Homecoming.{home_after}
use Rattle.pmd_driver.proofs.FailedStop.{fails_after}
use Rattle.pmd.proofs.driving.take_home.Goals as goal

pub returns-in-Ok-clause-whole : goal.returns-in-Ok-clause-whole
returns-in-Ok-clause-whole g c a loses =
    let e = c.in-Ok.ensures in
    home_after a c.args.pmd.queue (g.N.Nic.made c.args.nic.now) (g.N.Nic.made c.stop.new.nic)
    (halted_of c.args.pmd.rings) c.in-Ok.home loses e.home e.owns e.free

pub returns-in-Err-clause-whole : goal.returns-in-Err-clause-whole
returns-in-Err-clause-whole g c a loses =
    let (left, is, fails) = c.in-Err.ensures.refused in
    subst (λ (d : Driver). LosesNone a (halted_of d.rings)) (sym is)
    (fails_after a c.in-Err.field-0.fault c.args.pmd.queue (g.N.Nic.made c.args.nic.now) (g.N.Nic.made c.stop.new.nic)
    (halted_of c.args.pmd.rings) left fails loses)
