use Rattle.std.proofs.Common.{None, sym, ◌∙◌}
use Rattle.pmd_rx.proofs.Acting.{acts_alone}
use Rattle.pmd_rx.proofs.Moving.{all_own, all_moved, hands_all}
use Rattle.pmd_rx.proofs.Own.{tail_plays, unmoved_plays, unmoved_fault}
use Rattle.pmd_rx.proofs.ring.ReceiveRing.post_all.Goals as goal

pub returns-in-Ok-clause-acts : goal.returns-in-Ok-clause-acts
returns-in-Ok-clause-acts g c =
    let v = c.args.self.now in
    let n = c.named-named in
    acts_alone None
    (λ a. tail_plays a (g.N.Nic.made c.args.nic.now) (g.N.Nic.made c.write_tail.new.nic) v n.result
    (all_own v n.result n.ensures.named c.requires.some) c.hand_all.new.self
    (all_moved v n.result n.ensures.named c.requires.some n.ensures.next n.ensures.room n.ensures.some
    n.ensures.replaced ∙ sym c.hand_all.ensures.left)
    c.in-Ok.ensures.made)
    (λ a. tt)

pub returns-in-Err-clause-acts : goal.returns-in-Err-clause-acts
returns-in-Err-clause-acts g c =
    let v = c.args.self.now in
    let n = c.named-named in
    let old = g.N.Nic.made c.args.nic.now in
    let new = g.N.Nic.made c.write_tail.new.nic in
    let own = all_own v n.result n.ensures.named c.requires.some in
    acts_alone _
    (λ a. unmoved_plays a old new v n.result own c.in-Err.fault c.in-Err.ensures.failed)
    (λ a. unmoved_fault a old new v n.result own c.in-Err.fault c.in-Err.ensures.failed)

pub returns-in-Ok-clause-hands : goal.returns-in-Ok-clause-hands
returns-in-Ok-clause-hands g c =
    hands_all c.args.self.now c.hand_all.new.self c.hand_all.ensures.left c.named-named.ensures.some c.requires.none
