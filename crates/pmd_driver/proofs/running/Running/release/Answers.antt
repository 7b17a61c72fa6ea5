use Rattle.std.proofs.Common.{◌≡◌, ℕ, true, List, refl, sym, subst}
use Rattle.pmd_access.specs.NicDevice.DmaArena.Numbers.{Numbers}
use Rattle.pmd_access.specs.Bufs.{numbers_of}
use Rattle.pmd_driver.specs.Running.{Running, IsUp, goes_back, rings_out}
use Rattle.pmd_driver.proofs.Counted.{released_kept}
use Rattle.pmd_driver.proofs.HaltedBlocks.{never_back}
use Rattle.pmd_driver.proofs.Sending.{way_out}
use Rattle.pmd_driver.proofs.Several.{all_own_same, out_all_given}
use Rattle.pmd_driver.proofs.Starting.{one_out}
use Rattle.pmd_driver.proofs.running.Running.release.Goals as goal

-- The arena owns the packet's blocks, which are all different, and none of them is free there.
pub give_packet-requires : goal.give_packet-requires
give_packet-requires c =
    let q : Running = record {
      arena = c.self.inside.arena;
      receive = c.self.inside.receive;
      transmit = c.self.inside.transmit;
    } in
    let goes : goes_back q c.args.packet ≡ true = cc in
    one_out q.arena (numbers_of c.args.packet.bufs) (rings_out q) (way_out q c.args.packet c.self.invariant goes)

pub invariant_of-self : goal.invariant_of-self
invariant_of-self c =
    let q : Running = record {
      arena = c.self.inside.arena;
      receive = c.self.inside.receive;
      transmit = c.self.inside.transmit;
    } in
    let goes : goes_back q c.args.packet ≡ true = cc in
    let ns : List ℕ = numbers_of c.args.packet.bufs in
    subst (λ (a : Numbers). IsUp (record q { arena = a })) (sym c.give_packet.ensures) (record {
      home = out_all_given q.arena ns (rings_out q) (way_out q c.args.packet c.self.invariant goes);
      filled = c.self.invariant.filled;
      some = c.self.invariant.some;
    })

pub returns-clause-ok : goal.returns-clause-ok
returns-clause-ok c = never_back (goes_back c.args.self.now c.args.packet) cc

pub returns-then-goes_back-clause-blocks : goal.returns-then-goes_back-clause-blocks
returns-then-goes_back-clause-blocks c =
    let q : Running = record {
      arena = c.self.inside.arena;
      receive = c.self.inside.receive;
      transmit = c.self.inside.transmit;
    } in
    let goes : goes_back q c.args.packet ≡ true = cc in
    rw (← c.self.view_is, c.give_packet.ensures)
    (released_kept q.arena (rings_out q) (numbers_of c.args.packet.bufs)
    (way_out q c.args.packet c.self.invariant goes))

pub returns-then-goes_back-clause-halves : goal.returns-then-goes_back-clause-halves
returns-then-goes_back-clause-halves c =
    rw (← c.self.view_is, c.give_packet.ensures)
    (refl, λ n. all_own_same c.self.inside.arena (numbers_of c.args.packet.bufs) n)
