use Rattle.pmd_tx.specs.Plays.{FaultsBy}
use Rattle.pmd_tx.specs.Sends.{gate_of, outgoing_of}
use Rattle.pmd_tx.specs.declared.answer.TxFault.{TxFault}
use Rattle.pmd_tx.proofs.Acting.{failed_by}
use Rattle.pmd_tx.proofs.Ending.{after_all}
use Rattle.pmd_tx.proofs.Passing.{accepted_still, open_unshut, taken_open, tried_answer}
use Rattle.pmd_tx.proofs.Playing.{plays_both}
use Rattle.pmd_tx.proofs.ring.TransmitRing.send.Goals as goal

pub returns-in-Ok-Taken-clause-plays : goal.returns-in-Ok-Taken-clause-plays
returns-in-Ok-Taken-clause-plays g c =
    plays_both (outgoing_of c.args.packet).blocks (g.N.Nic.made c.args.nic.now) (g.N.Nic.made c.queue.new.nic)
    (g.N.Nic.made c.post_accepted.new.nic) c.args.self.now c.queue.new.self c.post_accepted.new.self
    c.queue.ensures.plays (c.post_accepted.ensures.continues.acts (outgoing_of c.args.packet).blocks).plays

pub returns-in-Ok-Taken-clause-answer : goal.returns-in-Ok-Taken-clause-answer
returns-in-Ok-Taken-clause-answer g c =
    let gate = gate_of c.args.self.now c.args.arena.now c.args.elsewhere c.args.packet in
    tried_answer gate c.args.packet c.post_accepted.result
    (taken_open gate c.args.packet (rw c.in-Ok-Taken.field-0-is at c.in-Ok-Taken.ensures.answer))
    c.post_accepted.ensures.tried

pub returns-in-Ok-Taken-clause-shut : goal.returns-in-Ok-Taken-clause-shut
returns-in-Ok-Taken-clause-shut g c shut =
    let gate = gate_of c.args.self.now c.args.arena.now c.args.elsewhere c.args.packet in
    absurd
    (open_unshut gate (taken_open gate c.args.packet (rw c.in-Ok-Taken.field-0-is at c.in-Ok-Taken.ensures.answer))
    shut)

pub returns-in-Ok-Taken-clause-accepted : goal.returns-in-Ok-Taken-clause-accepted
returns-in-Ok-Taken-clause-accepted g c =
    rw c.post_accepted.ensures.none
    (accepted_still c.args.self.now c.queue.new.self c.post_accepted.new.self c.args.packet
    (rw c.in-Ok-Taken.field-0-is at c.in-Ok-Taken.ensures.accepted) c.post_accepted.ensures.continues.kept)

pub returns-in-Ok-Taken-clause-faults : goal.returns-in-Ok-Taken-clause-faults
returns-in-Ok-Taken-clause-faults g c =
    let blocks = (outgoing_of c.args.packet).blocks in
    let old = g.N.Nic.made c.queue.new.nic in
    let new = g.N.Nic.made c.post_accepted.new.nic in
    after_all (λ (f : TxFault). f.fault) c.post_accepted.result blocks (g.N.Nic.made c.args.nic.now) old new
    c.args.self.now c.queue.new.self c.queue.ensures.plays
    (failed_by (λ f. FaultsBy f blocks old c.queue.new.self new) c.post_accepted.result
    (c.post_accepted.ensures.continues.acts blocks).faults)
