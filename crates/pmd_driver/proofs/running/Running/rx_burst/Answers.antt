use Rattle.std.proofs.Common.{refl}
use Rattle.pmd_access.specs.NicDevice.DmaArena.Numbers.{is_own}
use Rattle.pmd_driver.specs.Halves.{halves_of}
use Rattle.pmd_driver.specs.Running.{Running}
use Rattle.pmd_driver.proofs.Blocks.{received_up}
use Rattle.pmd_driver.proofs.Both.{free_may, receive_drives}
use Rattle.pmd_driver.proofs.Driving.{err_later}
use Rattle.pmd_driver.proofs.Finding.{wrong_by}
use Rattle.pmd_driver.proofs.Receiving.{burst_count, burst_few, burst_goes, burst_kept}
use Rattle.pmd_driver.proofs.running.Running.rx_burst.Goals as goal

pub invariant_of-self : goal.invariant_of-self
invariant_of-self g c = received_up _ _ _ c.self.invariant c.receive_burst.ensures.out.keeps refl

pub returns : goal.returns
returns g c =
    let q : Running = record {
      arena = c.self.inside.arena;
      receive = c.self.inside.receive;
      transmit = c.self.inside.transmit;
    } in
    let s : Running = record q { arena = c.receive_burst.new.arena; receive = c.receive_burst.new.self } in
    let old = g.N.Nic.made c.args.nic.now in
    let new = g.N.Nic.made c.receive_burst.new.nic in
    let before = c.args.packets.now.items in
    let after = c.receive_burst.new.out.items in
    let e = c.receive_burst.ensures in
    let b = e.out in
    rw (← c.self.view_is) (record {
      drives = receive_drives old new q s _ c.self.invariant e.plays b.keeps refl;
      received = record {
        packets = b.packets;
        out = b.out;
        count = burst_count c.receive_burst.result c.args.most b.packets b.many;
        few = burst_few c.receive_burst.result c.args.most b.packets b.many b.none;
        err = b.none;
        handed = b.handed;
        none = e.none;
        fails = e.fails;
        finds = err_later c.receive_burst.result
            (λ f fails. wrong_by f (is_own q.arena) q.arena c.receive_burst.new.arena old new (halves_of q)
            c.receive_burst.new.self (free_may q c.self.invariant) fails)
            e.fails;
        waits = e.waits;
        keeps = b.keeps;
        transmit = refl;
      };
      home = burst_goes q s before after b.packets b.out c.self.invariant b.keeps refl;
      blocks = burst_kept q s before after b.packets b.out b.keeps refl;
      began = e.began;
      refuses = e.refuses;
      refusal = e.refusal;
    })
