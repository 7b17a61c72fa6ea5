use Rattle.std.proofs.Common.{◌≡◌, true, sym, subst, refl}
use Rattle.pmd_access.specs.NicDevice.DmaArena.Numbers.{Numbers}
use Rattle.pmd_access.specs.Bufs.{numbers_of}
use Rattle.pmd_driver.specs.Ends.{halted_as}
use Rattle.pmd_driver.specs.Halted.{Halted, IsHalted, all_out, goes_back}
use Rattle.pmd_driver.proofs.Counted.{down_out, released_kept}
use Rattle.pmd_driver.proofs.HaltedBlocks.{never_back}
use Rattle.pmd_driver.proofs.Several.{out_all_given}
use Rattle.pmd_driver.proofs.Starting.{one_out}
use Rattle.pmd_driver.proofs.halted.Halted.release.Goals as goal

-- The arena owns the packet's blocks, which are all different, and none of them is free there.
pub give_packet-requires : goal.give_packet-requires
give_packet-requires c =
    let h : Halted = halted_as c.self.inside.arena c.self.inside.receive c.self.inside.transmit in
    let goes : goes_back h c.args.packet ≡ true = cc in
    one_out h.arena (numbers_of c.args.packet.bufs) (all_out h)
    (down_out h (numbers_of c.args.packet.bufs) c.self.invariant.home goes)

pub invariant_of-self : goal.invariant_of-self
invariant_of-self c =
    let h : Halted = halted_as c.self.inside.arena c.self.inside.receive c.self.inside.transmit in
    let goes : goes_back h c.args.packet ≡ true = cc in
    subst (λ (a : Numbers). IsHalted (record h { arena = a })) (sym c.give_packet.ensures) (record {
      home = out_all_given h.arena (numbers_of c.args.packet.bufs) (all_out h)
          (down_out h (numbers_of c.args.packet.bufs) c.self.invariant.home goes);
      few = c.self.invariant.few;
    })

pub returns-clause-ok : goal.returns-clause-ok
returns-clause-ok c = never_back (goes_back c.args.self.now c.args.packet) cc

pub returns-then-goes_back-clause-blocks : goal.returns-then-goes_back-clause-blocks
returns-then-goes_back-clause-blocks c =
    let h : Halted = halted_as c.self.inside.arena c.self.inside.receive c.self.inside.transmit in
    let goes : goes_back h c.args.packet ≡ true = cc in
    rw (← c.self.view_is, c.give_packet.ensures)
    (released_kept h.arena (all_out h) (numbers_of c.args.packet.bufs)
    (down_out h (numbers_of c.args.packet.bufs) c.self.invariant.home goes))

pub returns-clause-back : goal.returns-clause-back
returns-clause-back c = refl
