use Rattle.std.proofs.Common.{IfOk, subst}
use Rattle.pmd_access.specs.Accesses.{IsWritten}
use Rattle.pmd_tx.specs.Sending.{Sender}
use Rattle.pmd_tx.proofs.ring.TransmitRing.write_tail.Goals as goal

pub returns-clause-made : goal.returns-clause-made
returns-clause-made g c =
    subst
    (λ (v : Sender). IfOk c.write.result (λ known.
    IsWritten (g.N.Nic.made c.args.nic.now) (g.N.Nic.made c.write.new.nic) v.layout.port v.layout.tail c.args.word
    known))
    c.self.view_is c.write.ensures.made
