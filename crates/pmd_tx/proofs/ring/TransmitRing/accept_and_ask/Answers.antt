use Rattle.std.proofs.Common.{refl, ap, ◌∙◌}
use Rattle.pmd_access.specs.Bufs.{numbers_of, with_all_free}
use Rattle.pmd_tx.specs.Sending.{parts_for}
use Rattle.pmd_tx.proofs.Acting.{queues_back, queues_taken, queues_waits}
use Rattle.pmd_tx.proofs.Passing.{out_drop}
use Rattle.pmd_tx.proofs.ring.TransmitRing.accept_and_ask.Goals as goal

pub give_bufs-requires : goal.give_bufs-requires
give_bufs-requires g c =
    out_drop c.args.arena.now (parts_for c.args.packet.len) (numbers_of c.args.packet.bufs) (numbers_of c.in-Ok.rest)
    c.requires.out c.in-Ok.ensures.rest

pub returns-in-Ok-ask_waiting-clause-queued : goal.returns-in-Ok-ask_waiting-clause-queued
returns-in-Ok-ask_waiting-clause-queued g c =
    queues_taken c.in-Ok.ensures.acts c.in-Ok.ensures.accepted
    (c.give_bufs.ensures ∙ ap (with_all_free c.args.arena.now) c.in-Ok.ensures.rest)
    c.in-Ok-ask_waiting.ensures.continues c.ask_waiting.ensures.tail c.in-Ok-ask_waiting.ensures.asked

pub returns-in-Err-ask_waiting-clause-queued : goal.returns-in-Err-ask_waiting-clause-queued
returns-in-Err-ask_waiting-clause-queued g c =
    queues_waits _ c.in-Ok.ensures.acts c.in-Ok.ensures.accepted
    (c.give_bufs.ensures ∙ ap (with_all_free c.args.arena.now) c.in-Ok.ensures.rest)
    c.in-Err-ask_waiting.ensures.continues c.ask_waiting.ensures.tail

pub returns-in-Err-clause-queued : goal.returns-in-Err-clause-queued
returns-in-Err-clause-queued g c =
    let same = c.in-Err.ensures.kept in
    queues_back c.in-Err.fault c.in-Err.packet c.in-Err.ensures.acts
    (rw same (record { accepted = refl; outstanding = refl })) (rw same refl) (rw same refl) c.in-Err.ensures.back
