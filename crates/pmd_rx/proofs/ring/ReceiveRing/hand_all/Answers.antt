use Rattle.std.proofs.Common.{length, drop, sym, ap, ◌∙◌, arith}
use Rattle.std.proofs.lemmas.List.{length-drop, drop_all}
use Rattle.pmd_rx.specs.Receive.{Receive, Layout, posts_all}
use Rattle.pmd_rx.proofs.Lists.{records_all, records_count}
use Rattle.pmd_rx.proofs.Steady.{all_steady, posted_few}
use Rattle.pmd_rx.proofs.Viewed.{shown_posts}
use Rattle.pmd_rx.proofs.ring.ReceiveRing.hand_all.Goals as goal

pub invariant_of-self : goal.invariant_of-self
invariant_of-self c =
    let r = c.self.inside in
    let l : Layout = record {
      port = r.port;
      tail = r.tail;
      ring = r.ring;
      size = r.size;
      most = r.most;
      next = r.next;
      blocks = r.slots.items;
    } in (
      all_steady l r.posted _ r.seen.items r.held r.whole.items c.hand_over.new.packets.items r.stage c.self.invariant.0
          (ap (λ (y : Receive). length y.held.bufs) c.self.view_is ∙ c.requires.none)
          (omega (arith, c.len.ensures, r.slots.ok.0)) c.hand_over.ensures.none,
      records_all r.handed _ r.records.items r.whole.items c.hand_over.new.packets.items c.self.invariant.1
          (omega (arith, c.len-self-inside.ensures, r.records.ok.0)) c.hand_over.ensures.none,
    )

pub returns-clause-left : goal.returns-clause-left
returns-clause-left c =
    let r = c.self.inside in
    let l : Layout = record {
      port = r.port;
      tail = r.tail;
      ring = r.ring;
      size = r.size;
      most = r.most;
      next = r.next;
      blocks = r.slots.items;
    } in
    shown_posts l r.posted (length (drop r.posted r.slots.items)) _ r.records.items r.handed (length r.whole.items) _
    r.seen.items r.held r.whole.items c.hand_over.new.packets.items r.stage c.self.invariant.1
    (omega (
      arith,
      c.len.ensures,
      r.slots.ok.0,
      length-drop r.posted r.slots.items,
      posted_few l r.posted r.seen.items r.held r.whole.items r.stage c.self.invariant.0,
    ))
    (omega (
      arith,
      c.len-self-inside.ensures,
      r.records.ok.0,
      records_count r.handed r.records.items r.whole.items c.self.invariant.1,
    ))
    (c.hand_over.ensures.none ∙ sym (drop_all (length r.whole.items) r.whole.items (omega arith)))
    ∙ ap (λ (y : Receive). posts_all y) c.self.view_is
