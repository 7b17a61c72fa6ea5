use Rattle.std.proofs.Common.{◌≡◌, ℕ, List, [], ◌∷◌, ◌++◌, length, ap, ◌∙◌, arith}
use Rattle.std.proofs.lemmas.Bool.Decides.{nat_tests}
use Rattle.std.proofs.lemmas.List.{nil_from_length}
use Rattle.pmd_access.specs.Packet.{Kept}
use Rattle.pmd_access.specs.declared.packet.Packet.{Packet}
use Rattle.pmd_rx.specs.Receive.{Receive, Layout, names, records_of, if_any}
use Rattle.pmd_rx.proofs.Lists.{records_more}
use Rattle.pmd_rx.proofs.Steady.{named_steady, posted_few}
use Rattle.pmd_rx.proofs.Viewed.{shown_names}
use Rattle.pmd_rx.proofs.ring.ReceiveRing.name_fresh.Goals as goal

pub invariant_of-self-in-Ok-true : goal.invariant_of-self-in-Ok-true
invariant_of-self-in-Ok-true g c =
    let r = c.self.inside in
    let l : Layout = record {
      port = r.port;
      tail = r.tail;
      ring = r.ring;
      size = r.size;
      most = r.most;
      next = r.next;
      blocks = r.slots.items;
    } in
    let ended = if_any r.held.bufs r.held in
    let none : length r.seen.items ≡ 0 =
    grind (arith, nat_tests, c.if-not-is_empty.false, c.is_empty.ensures, r.seen.ok.0) in
    let all : c.keep_whole.new.whole.items ≡ r.whole.items ++ ended =
    c.keep_whole.ensures.whole
    ∙ ap (λ (p : Packet). c.room_for_one.new.whole.items ++ if_any p.bufs p) c.replace-packet.ensures.value
    ∙ ap (λ (ps : List Packet). ps ++ ended) c.room_for_one.ensures.whole in
    let kept : c.keep_whole.new.records.items ≡ r.records.items ++ records_of ended =
    c.keep_whole.ensures.kept
    ∙ ap (λ (p : Packet). c.room_for_one.new.records.items ++ records_of (if_any p.bufs p))
    c.replace-packet.ensures.value
    ∙ ap (λ (ks : List Kept). ks ++ records_of ended) c.room_for_one.ensures.records in (
      named_steady l r.posted r.seen.items r.held c.replace-packet.new.dest r.whole.items c.keep_whole.new.whole.items
          r.stage c.in-Lent.block c.push_back_reserved.new.self.items c.self.invariant.0 c.in-Lent.is none
          (c.push_back_reserved.ensures.items
          ∙ ap (λ (bs : List ℕ). bs ++ c.in-Lent.block ∷ []) c.room_for_one.ensures.slots)
          (c.replace-packet.ensures.after ∙ c.no_packet.ensures) all,
      rw all (records_more r.handed r.records.items c.keep_whole.new.records.items r.whole.items ended
          c.self.invariant.1 kept),
    )

pub returns-else-not-is_empty-clause-named : goal.returns-else-not-is_empty-clause-named
returns-else-not-is_empty-clause-named g c =
    let r = c.self.inside in
    let l : Layout = record {
      port = r.port;
      tail = r.tail;
      ring = r.ring;
      size = r.size;
      most = r.most;
      next = r.next;
      blocks = r.slots.items;
    } in
    let ended = if_any r.held.bufs r.held in
    let none : length r.seen.items ≡ 0 =
    grind (arith, nat_tests, c.if-not-is_empty.false, c.is_empty.ensures, r.seen.ok.0) in
    let all : c.keep_whole.new.whole.items ≡ r.whole.items ++ ended =
    c.keep_whole.ensures.whole
    ∙ ap (λ (p : Packet). c.room_for_one.new.whole.items ++ if_any p.bufs p) c.replace-packet.ensures.value
    ∙ ap (λ (ps : List Packet). ps ++ ended) c.room_for_one.ensures.whole in
    let kept : c.keep_whole.new.records.items ≡ r.records.items ++ records_of ended =
    c.keep_whole.ensures.kept
    ∙ ap (λ (p : Packet). c.room_for_one.new.records.items ++ records_of (if_any p.bufs p))
    c.replace-packet.ensures.value
    ∙ ap (λ (ks : List Kept). ks ++ records_of ended) c.room_for_one.ensures.records in
    shown_names l r.posted c.in-Lent.block c.push_back_reserved.new.self.items r.records.items
    c.keep_whole.new.records.items r.handed r.seen.items r.held c.replace-packet.new.dest r.whole.items
    c.keep_whole.new.whole.items r.stage c.self.invariant.1
    (posted_few l r.posted r.seen.items r.held r.whole.items r.stage c.self.invariant.0)
    c.in-Lent.is (nil_from_length r.seen.items none)
    (c.push_back_reserved.ensures.items
    ∙ ap (λ (bs : List ℕ). bs ++ c.in-Lent.block ∷ []) c.room_for_one.ensures.slots)
    (c.replace-packet.ensures.after ∙ c.no_packet.ensures) all kept
    ∙ ap (λ (y : Receive). names y) c.self.view_is
