use Rattle.std.proofs.Common.{ℕ, ◌<◌, List, All, length, ap, subst, arith}
use Rattle.pmd_access.specs.declared.packet.Packet.{Packet}
use Rattle.pmd_rx.specs.Burst.{HasPart}
use Rattle.pmd_rx.specs.Receive.{Receive, Layout, parts_first}
use Rattle.pmd_rx.proofs.Moving.{one_asks}
use Rattle.pmd_rx.proofs.Steady.{some_named, parts_named}
use Rattle.pmd_rx.proofs.ring.ReceiveRing.count_whole.Goals as goal

pub returns-clause-named : goal.returns-clause-named
returns-clause-named c some =
    let r = c.self.inside in
    let l : Layout = record {
      port = r.port;
      tail = r.tail;
      ring = r.ring;
      size = r.size;
      most = r.most;
      next = r.next;
      blocks = r.slots.items;
    } in
    subst (λ (n : ℕ). 0 < n) (ap (λ (v : Receive). length v.named) c.self.view_is)
    (some_named l r.posted r.seen.items r.held r.whole.items r.stage c.self.invariant.0
    (omega (arith, some, c.len.ensures, r.whole.ok.0)))

pub returns-clause-asks : goal.returns-clause-asks
returns-clause-asks c a some =
    let r = c.self.inside in
    let l : Layout = record {
      port = r.port;
      tail = r.tail;
      ring = r.ring;
      size = r.size;
      most = r.most;
      next = r.next;
      blocks = r.slots.items;
    } in
    let whole = ap (λ (v : Receive). v.whole) c.self.view_is in
    one_asks a c.args.self.now
    (omega (arith, some, c.len.ensures, r.whole.ok.0, ap (λ (ps : List Packet). length ps) whole))
    (subst (λ (ps : List Packet). All HasPart ps) whole c.self.invariant.0.1.some)
    (omega (
      arith,
      parts_named l r.posted r.seen.items r.held r.whole.items r.stage c.self.invariant.0,
      ap (λ (ps : List Packet). parts_first ps) whole,
      ap (λ (v : Receive). length v.named) c.self.view_is,
    ))
