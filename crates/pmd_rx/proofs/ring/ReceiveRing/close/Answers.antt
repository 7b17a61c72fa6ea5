use Rattle.std.proofs.Common.{◌≡◌, ℕ, List, ap, sym, subst, ◌∙◌, take-append-drop}
use Rattle.pmd_access.specs.NicDevice.DmaArena.Numbers.{Numbers}
use Rattle.pmd_access.specs.Bufs.{numbers_of, with_all_free}
use Rattle.pmd_access.specs.Home.{AreOut, Homebound}
use Rattle.pmd_rx.specs.Keeping.{lent_of, numbers_of_all}
use Rattle.pmd_rx.specs.Receive.{Receive, reach}
use Rattle.pmd_rx.proofs.Closing.{whole_out, held_out, closed_out, given_both, lent_is}
use Rattle.pmd_rx.proofs.ring.ReceiveRing.close.Goals as goal

pub give_packets-requires : goal.give_packets-requires
give_packets-requires c =
    let whole = ap (λ (v : Receive). numbers_of_all v.whole) (sym c.ended.view_is) in
    subst (λ (ns : List ℕ). AreOut c.args.arena.now ns) whole (whole_out c.args.arena.now c.args.self c.requires)

pub give_packet-requires : goal.give_packet-requires
give_packet-requires c =
    let held = ap (λ (v : Receive). numbers_of v.held.bufs) (sym c.ended.view_is) in
    let whole = ap (λ (v : Receive). numbers_of_all v.whole) c.ended.view_is in
    let given = c.give_packets.ensures ∙ ap (λ (ns : List ℕ). with_all_free c.args.arena.now ns) whole in
    subst (λ (a : Numbers). AreOut a (numbers_of c.ended.inside.held.bufs)) (sym given)
    (subst (λ (ns : List ℕ). AreOut (with_all_free c.args.arena.now (numbers_of_all c.args.self.whole)) ns) held
    (held_out c.args.arena.now c.args.self c.requires))

pub returns-clause-home : goal.returns-clause-home
returns-clause-home c =
    let held = ap (λ (v : Receive). numbers_of v.held.bufs) c.ended.view_is in
    let whole = ap (λ (v : Receive). numbers_of_all v.whole) c.ended.view_is in
    c.give_packet.ensures ∙ ap (λ (ns : List ℕ). with_all_free c.give_packets.new.arena ns) held
    ∙ ap (λ (a : Numbers). with_all_free a (numbers_of c.args.self.held.bufs)) c.give_packets.ensures
    ∙ ap (λ (ns : List ℕ). with_all_free (with_all_free c.args.arena.now ns) (numbers_of c.args.self.held.bufs)) whole
    ∙ given_both c.args.arena.now (numbers_of_all c.args.self.whole) (numbers_of c.args.self.held.bufs)

pub returns-clause-out : goal.returns-clause-out
returns-clause-out c =
    subst (λ (a : Numbers). AreOut a (lent_of c.args.self)) (sym (returns-clause-home c))
    (closed_out c.args.arena.now c.args.self c.requires)

pub returns-clause-way : goal.returns-clause-way
returns-clause-way c =
    let lent : c.with_ring-lent.result.items ≡ lent_of c.args.self =
    lent_is c.args.self _ _ _ _ _ _ _ c.with_ring-lent.ensures.items c.reserve.ensures.items c.fresh-fresh.ensures
    (sym (take-append-drop c.ended.inside.posted c.ended.inside.slots.items)
    ∙ ap (λ (v : Receive). (reach v).blocks) c.ended.view_is)
    (ap (λ (v : Receive). v.layout.ring) c.ended.view_is)
    c.blocks_for-many.ensures.blocks (ap (λ (v : Receive). v.layout.size) c.ended.view_is) in
    c.of.ensures ∙ ap (λ (xs : List ℕ). let way : Homebound = record { lent = xs; lost = 0 } in way) lent
