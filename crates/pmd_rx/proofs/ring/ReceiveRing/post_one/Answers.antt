use Rattle.std.proofs.Common.{None, sym, ◌∙◌, arith}
use Rattle.pmd_rx.proofs.Acting.{acts_alone}
use Rattle.pmd_rx.proofs.Moving.{one_own, one_moved, hands_one}
use Rattle.pmd_rx.proofs.Own.{tail_plays, unmoved_plays, unmoved_fault}
use Rattle.pmd_rx.proofs.ring.ReceiveRing.post_one.Goals as goal

pub returns-in-Ok-clause-acts : goal.returns-in-Ok-clause-acts
returns-in-Ok-clause-acts g c =
    let v = c.args.self.now in
    let p = c.first_parts-parts in
    acts_alone None
    (λ a. tail_plays a (g.N.Nic.made c.args.nic.now) (g.N.Nic.made c.write_tail.new.nic) v p.result
    (one_own v p.result p.ensures.parts c.requires p.ensures.some p.ensures.few) c.hand_one.new.self
    (one_moved v p.result p.ensures.parts ∙ sym c.hand_one.ensures.left) c.in-Ok.ensures.made)
    (λ a. tt)

pub returns-in-Err-clause-acts : goal.returns-in-Err-clause-acts
returns-in-Err-clause-acts g c =
    let v = c.args.self.now in
    let p = c.first_parts-parts in
    let old = g.N.Nic.made c.args.nic.now in
    let new = g.N.Nic.made c.write_tail.new.nic in
    let own = one_own v p.result p.ensures.parts c.requires p.ensures.some p.ensures.few in
    acts_alone _
    (λ a. unmoved_plays a old new v p.result own c.in-Err.fault c.in-Err.ensures.failed)
    (λ a. unmoved_fault a old new v p.result own c.in-Err.fault c.in-Err.ensures.failed)

pub returns-in-Ok-clause-hands : goal.returns-in-Ok-clause-hands
returns-in-Ok-clause-hands g c =
    let p = c.first_parts-parts.ensures in
    hands_one c.args.self.now c.hand_one.new.self c.hand_one.result c.hand_one.ensures.left c.hand_one.ensures.packet
    p.some (omega (arith, p.few, p.parts))
