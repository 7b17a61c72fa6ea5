use Rattle.std.proofs.Common.{ℕ, List, length, refl, sym, ap, ◌∙◌, arith}
use Rattle.pmd_access.specs.declared.packet.Packet.{Packet}
use Rattle.pmd_rx.specs.Receive.{Receive, Layout, posts, posts_one, parts_first}
use Rattle.pmd_rx.proofs.Lists.{records_fewer}
use Rattle.pmd_rx.proofs.Steady.{one_steady}
use Rattle.pmd_rx.proofs.Viewed.{shown, shown_posts}
use Rattle.pmd_rx.proofs.ring.ReceiveRing.hand_one.Goals as goal

pub invariant_of-self : goal.invariant_of-self
invariant_of-self c =
    let r = c.self.inside in
    let l : Layout = record {
      port = r.port;
      tail = r.tail;
      ring = r.ring;
      size = r.size;
      most = r.most;
      next = r.next;
      blocks = r.slots.items;
    } in (
      one_steady l r.posted _ r.seen.items r.held r.whole.items c.pop_front.new.self.items r.stage c.in-Some.packet
          c.self.invariant.0 c.in-Some.ensures.items c.count.ensures.count,
      records_fewer r.handed 1 r.records.items r.whole.items c.pop_front.new.self.items c.self.invariant.1
          (omega (arith, ap (λ (ps : List Packet). length ps) c.in-Some.ensures.items)) c.in-Some.ensures.rest,
    )

pub returns-clause-left : goal.returns-clause-left
returns-clause-left c =
    let r = c.self.inside in
    let l : Layout = record {
      port = r.port;
      tail = r.tail;
      ring = r.ring;
      size = r.size;
      most = r.most;
      next = r.next;
      blocks = r.slots.items;
    } in
    let v = shown l r.posted r.records.items r.handed r.seen.items r.held r.whole.items r.stage in
    shown_posts l r.posted c.count.result _ r.records.items r.handed 1 _ r.seen.items r.held r.whole.items
    c.pop_front.new.self.items r.stage c.self.invariant.1 refl refl c.in-Some.ensures.rest
    ∙ ap (λ (n : ℕ). posts v n 1)
    (c.count.ensures.count ∙ sym (ap (λ (ps : List Packet). parts_first ps) c.in-Some.ensures.items))
    ∙ ap (λ (y : Receive). posts_one y) c.self.view_is
