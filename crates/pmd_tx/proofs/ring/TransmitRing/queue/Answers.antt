use Rattle.pmd_tx.specs.Sends.{outgoing_of}
use Rattle.pmd_tx.proofs.Passing.{open_may, open_out}
use Rattle.pmd_tx.proofs.Playing.{plays_none}
use Rattle.pmd_tx.proofs.ring.TransmitRing.queue.Goals as goal

pub queue_through-requires-clause-may : goal.queue_through-requires-clause-may
queue_through-requires-clause-may g c =
    open_may c.args.self.now c.args.arena.now c.args.elsewhere c.args.packet c.in-Open.ensures.reported
    c.gate.ensures.whole

pub queue_through-requires-clause-out : goal.queue_through-requires-clause-out
queue_through-requires-clause-out g c =
    open_out c.args.self.now c.args.arena.now c.args.elsewhere c.args.packet c.in-Open.ensures.reported

pub returns-in-Refused-clause-plays : goal.returns-in-Refused-clause-plays
returns-in-Refused-clause-plays g c =
    plays_none (outgoing_of c.args.packet).blocks (g.N.Nic.made c.args.nic.now) c.args.self.now

pub returns-in-Full-clause-plays : goal.returns-in-Full-clause-plays
returns-in-Full-clause-plays g c =
    plays_none (outgoing_of c.args.packet).blocks (g.N.Nic.made c.args.nic.now) c.args.self.now
