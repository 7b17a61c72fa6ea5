use Rattle.std.proofs.Common.{◌+◌, take, ap, refl, arith}
use Rattle.pmd_access.specs.NicDevice.DmaArena.Whereabouts.{times_in_hand}
use Rattle.pmd_access.specs.Bufs.{numbers_of}
use Rattle.pmd_access.specs.declared.packet.Packet.{Packet}
use Rattle.pmd_rx.specs.Keeping.{numbers_of_all}
use Rattle.pmd_rx.specs.Receive.{Receive}
use Rattle.pmd_rx.proofs.Closing.{times_part, times_next, none_there}
use Rattle.pmd_rx.proofs.ring.ReceiveRing.keeps.Goals as goal

pub returns-then-has : goal.returns-then-has
returns-then-has c =
    let n = c.args.block in
    let part = times_part c.self.inside.whole.items c.loop-at.at c.index.result.now n
    (omega (arith, c.loop-at-test.true, c.len-at-end.ensures, c.self.inside.whole.ok.0)) in (
      λ yes. omega (
        arith,
        c.has.ensures.0 c.if-has.true,
        ap (λ (p : Packet). times_in_hand (numbers_of p.bufs) n) c.index.ensures,
        part,
        ap (λ (v : Receive). times_in_hand (numbers_of_all v.whole) n) c.self.view_is,
      ),
      λ some. refl,
    )

pub loop-at-preserved : goal.loop-at-preserved
loop-at-preserved c =
    let n = c.args.block in
    let at = c.loop-at.at in
    let next = times_next c.self.inside.whole.items at c.index.result.now n
    (omega (arith, c.loop-at-test.true, c.len-at-end.ensures, c.self.inside.whole.ok.0)) in
    record {
      none = omega (
        arith,
        c.loop-at.invariant.none,
        next,
        none_there c.has.result _ c.has.ensures.1 c.if-has.false,
        ap (λ (p : Packet). times_in_hand (numbers_of p.bufs) n) c.index.ensures,
        ap (λ (v : Receive). times_in_hand (numbers_of_all (take at v.whole)) n) c.self.view_is,
        ap (λ (v : Receive). times_in_hand (numbers_of_all (take (at + 1) v.whole)) n) c.self.view_is,
      );
    }
