use Rattle.pmd_tx.specs.Sends.{outgoing_of}
use Rattle.pmd_tx.proofs.Acting.{queues_back, queues_then}
use Rattle.pmd_tx.proofs.Passing.{may_after, back_itself}
use Rattle.pmd_tx.proofs.ring.TransmitRing.queue_through.Goals as goal

pub accept_and_ask-requires-clause-may : goal.accept_and_ask-requires-clause-may
accept_and_ask-requires-clause-may g c =
    let first = c.ask_waiting.ensures.continues in
    may_after c.args.self.now c.ask_waiting.new.self c.args.packet c.requires.may first.kept first.layout

pub returns-in-Ok-clause-queued : goal.returns-in-Ok-clause-queued
returns-in-Ok-clause-queued g c =
    queues_then c.ask_waiting.ensures.continues c.ask_waiting.ensures.tail c.accept_and_ask.ensures.queued

pub returns-in-Err-clause-queued : goal.returns-in-Err-clause-queued
returns-in-Err-clause-queued g c =
    let first = c.in-Err.ensures.continues in
    queues_back c.in-Err.fault c.args.packet (first.acts (outgoing_of c.args.packet).blocks) first.kept
    c.ask_waiting.ensures.tail first.layout (back_itself c.in-Err.fault c.args.packet)
