use Rattle.std.proofs.Common.{List, length, ap, sym, subst, ◌∙◌, arith}
use Rattle.pmd_access.specs.NicDevice.DmaArena.Numbers.{Numbers}
use Rattle.pmd_access.specs.Bufs.{with_all_free}
use Rattle.pmd_access.specs.Home.{AreOut}
use Rattle.pmd_access.specs.declared.packet.Packet.{Packet}
use Rattle.pmd_rx.specs.Keeping.{numbers_of_all}
use Rattle.pmd_rx.proofs.Closing.{first_out, others_out, others_given}
use Rattle.pmd_rx.proofs.ring.give_packets.Goals as goal

pub give_packet-requires : goal.give_packet-requires
give_packet-requires c =
    first_out c.loop-given.arena c.in-Some.packet c.pop_front.new.self.items
    (subst (λ (ps : List Packet). AreOut c.loop-given.arena (numbers_of_all ps)) c.in-Some.ensures.items
    c.loop-given.invariant.out)

pub loop-given-preserved : goal.loop-given-preserved
loop-given-preserved c =
    let a = c.loop-given.arena in
    let p = c.in-Some.packet in
    let rest = c.pop_front.new.self.items in
    let is = c.in-Some.ensures.items in
    record {
      out = subst (λ (b : Numbers). AreOut b (numbers_of_all rest)) (sym c.give_packet.ensures)
          (others_out a p rest (subst (λ (ps : List Packet). AreOut a (numbers_of_all ps)) is
          c.loop-given.invariant.out));
      given = ap (λ (b : Numbers). with_all_free b (numbers_of_all rest)) c.give_packet.ensures
          ∙ others_given a p rest ∙ sym (ap (λ (ps : List Packet). with_all_free a (numbers_of_all ps)) is)
          ∙ c.loop-given.invariant.given;
      many = omega (arith, c.loop-given.invariant.many, ap (λ (ps : List Packet). length ps) is);
    }
