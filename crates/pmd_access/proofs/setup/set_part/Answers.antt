use Rattle.pmd_access.proofs.Sequences.{stops_alone}
use Rattle.pmd_access.proofs.setup.set_part.Goals as goal

pub returns-in-Word-clause-failed : goal.returns-in-Word-clause-failed
returns-in-Word-clause-failed g c =
    rw c.in-Word.is
    (stops_alone c.set.result (g.N.Nic.made c.args.nic.now) (g.N.Nic.made c.set.new.nic) _ c.set.ensures.failed)
