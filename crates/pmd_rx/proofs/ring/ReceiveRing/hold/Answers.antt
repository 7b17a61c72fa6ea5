use Rattle.std.proofs.Common.{◌<◌, ◌-◌, ℕ, sym, ap, ◌∙◌, subst}
use Rattle.pmd_access.proofs.Places.{next_below}
use Rattle.pmd_rx.specs.Receive.{Receive, Layout, took}
use Rattle.pmd_rx.proofs.Steady.{joined_steady, posted_some}
use Rattle.pmd_rx.proofs.Viewed.{shown_took}
use Rattle.pmd_rx.proofs.ring.ReceiveRing.hold.Goals as goal

pub invariant_of-self : goal.invariant_of-self
invariant_of-self c =
    let r = c.self.inside in
    let l : Layout = record {
      port = r.port;
      tail = r.tail;
      ring = r.ring;
      size = r.size;
      most = r.most;
      next = r.next;
      blocks = r.slots.items;
    } in (
      joined_steady l r.posted r.seen.items r.held r.whole.items r.stage c.in-Some.reported c.pop_front.new.self.items
          c.next_slot-self-inside.result c.pop_front-consumed.new.self.items (r.posted - 1) c.push.new.self c.args.buf
          c.reported_length.result c.reported_rss-self-inside.result c.reported_hash-self-inside.result
          c.self.invariant.0 (ap (λ (y : Receive). y.stage) c.self.view_is ∙ c.requires.stage) c.in-Some.ensures.items
          (subst (λ (n : ℕ). n < r.size) (sym c.next_slot-self-inside.ensures)
          (next_below r.size r.next c.self.invariant.0.0.next))
          c.pop_front-consumed.ensures.rest
          (posted_some l r.posted r.seen.items r.held r.whole.items r.stage c.in-Some.reported
          c.pop_front.new.self.items
          c.self.invariant.0 c.in-Some.ensures.items)
          c.reported_length.ensures c.push.ensures,
      c.self.invariant.1,
    )

pub returns : goal.returns
returns c =
    let r = c.self.inside in
    let l : Layout = record {
      port = r.port;
      tail = r.tail;
      ring = r.ring;
      size = r.size;
      most = r.most;
      next = r.next;
      blocks = r.slots.items;
    } in
    shown_took l r.posted (r.posted - 1) c.next_slot-self-inside.result c.pop_front-consumed.new.self.items
    r.records.items r.handed r.seen.items c.pop_front.new.self.items c.in-Some.reported r.held c.push.new.self
    c.args.buf
    c.reported_length.result c.reported_rss-self-inside.result c.reported_hash-self-inside.result r.whole.items r.stage
    c.in-Some.ensures.items c.next_slot-self-inside.ensures
    (posted_some l r.posted r.seen.items r.held r.whole.items r.stage c.in-Some.reported c.pop_front.new.self.items
    c.self.invariant.0 c.in-Some.ensures.items)
    c.pop_front-consumed.ensures.rest c.push.ensures c.reported_length.ensures c.reported_rss-self-inside.ensures.value
    c.reported_hash-self-inside.ensures
    ∙ ap (λ (y : Receive). took y y.seen c.args.buf) c.self.view_is
