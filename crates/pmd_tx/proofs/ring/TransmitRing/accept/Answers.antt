use Rattle.pmd_tx.proofs.Lending.{lend_acts}
use Rattle.pmd_tx.proofs.ring.TransmitRing.accept.Goals as goal

pub returns-clause-acts : goal.returns-clause-acts
returns-clause-acts g c =
    let l = c.lend_first.ensures in
    lend_acts _ _ c.args.self.now c.args.packet c.requires c.lend_first.result _ l.made l.accepted l.kept l.failed
