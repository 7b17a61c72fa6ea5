use Rattle.std.proofs.Common.{◌∙◌, ℕ, List, drop, ap}
use Rattle.pmd_access.specs.Bufs.{numbers_of}
use Rattle.pmd_access.specs.declared.packet.Packet.{Packet}
use Rattle.pmd_tx.specs.Padding.{padded_packet}
use Rattle.pmd_tx.specs.Sending.{Outgoing, accepted_by, parts_for}
use Rattle.pmd_tx.proofs.Padded.{back_undone, numbers-drop, numbers_padded, padded_acts, padded_may, parts_padded, sent_padded}
use Rattle.pmd_tx.proofs.ring.TransmitRing.accept_padded.Goals as goal

pub accept-requires : goal.accept-requires
accept-requires g c =
    let may = c.requires.may in
    rw c.pad.ensures
    (padded_may c.args.packet may.loose.whole may.some may.held c.args.self.now may
    (rw c.limit-least.ensures.limit at c.limit-least.ensures.least) c.requires.lent c.requires.asked)

pub returns-in-Ok-clause-accepted : goal.returns-in-Ok-clause-accepted
returns-in-Ok-clause-accepted g c =
    let may = c.requires.may in
    (rw c.pad.ensures at c.in-Ok.ensures.accepted)
    ∙ ap (λ (p : Outgoing). accepted_by c.args.self.now p)
    (sent_padded c.args.packet may.loose.whole may.some may.held)

pub returns-in-Err-clause-back : goal.returns-in-Err-clause-back
returns-in-Err-clause-back g c =
    let may = c.requires.may in
    back_undone c.args.packet may.loose.whole may.some may.held c.in-Err.fault c.pad.result c.in-Err.packet
    c.unpad.result c.start_of-start.result c.pad.ensures c.start_of-start.ensures c.in-Err.ensures.back c.unpad.ensures

pub returns-in-Ok-clause-acts : goal.returns-in-Ok-clause-acts
returns-in-Ok-clause-acts g c =
    let may = c.requires.may in
    padded_acts c.args.packet may.loose.whole may.some may.held c.pad.result c.pad.ensures c.in-Ok.ensures.acts

pub returns-in-Err-clause-acts : goal.returns-in-Err-clause-acts
returns-in-Err-clause-acts g c =
    let may = c.requires.may in
    padded_acts c.args.packet may.loose.whole may.some may.held c.pad.result c.pad.ensures c.in-Err.ensures.acts

pub returns-in-Ok-clause-rest : goal.returns-in-Ok-clause-rest
returns-in-Ok-clause-rest g c =
    let may = c.requires.may in
    let p = c.args.packet in
    ap numbers_of c.in-Ok.ensures.rest
    ∙ ap (λ (q : Packet). numbers_of (drop (parts_for q.len) q.bufs)) c.pad.ensures
    ∙ numbers-drop (parts_for (padded_packet p).len) (padded_packet p).bufs
    ∙ ap (λ (l : List ℕ). drop (parts_for (padded_packet p).len) l)
    (numbers_padded p may.loose.whole may.some may.held)
    ∙ ap (λ (n : ℕ). drop n (numbers_of p.bufs)) (parts_padded p may.loose.whole may.some may.held)
