use Rattle.std.proofs.Common.{refl}
use Rattle.pmd_access.specs.NicDevice.DmaArena.Numbers.{is_own}
use Rattle.pmd_driver.specs.Halves.{halves_of}
use Rattle.pmd_driver.specs.Running.{Running}
use Rattle.pmd_driver.proofs.Blocks.{received_up}
use Rattle.pmd_driver.proofs.Handing.{received_goes}
use Rattle.pmd_driver.proofs.Both.{free_may, receive_drives}
use Rattle.pmd_driver.proofs.Driving.{err_later}
use Rattle.pmd_driver.proofs.Finding.{wrong_by}
use Rattle.pmd_driver.proofs.Counted.{received_kept}
use Rattle.pmd_driver.proofs.running.Running.rx.Goals as goal

pub invariant_of-self : goal.invariant_of-self
invariant_of-self g c = received_up _ _ _ c.self.invariant c.receive.ensures.keeps refl

pub returns : goal.returns
returns g c =
    let q : Running = record {
      arena = c.self.inside.arena;
      receive = c.self.inside.receive;
      transmit = c.self.inside.transmit;
    } in
    let s : Running = record q { arena = c.receive.new.arena; receive = c.receive.new.self } in
    let old = g.N.Nic.made c.args.nic.now in
    let new = g.N.Nic.made c.receive.new.nic in
    let e = c.receive.ensures in
    rw (← c.self.view_is) (record {
      drives = receive_drives old new q s _ c.self.invariant e.plays e.keeps refl;
      received = record {
        some = e.some;
        none = e.none;
        err = e.err;
        fails = e.fails;
        finds = err_later c.receive.result
            (λ f fails. wrong_by f (is_own q.arena) q.arena c.receive.new.arena old new (halves_of q)
            c.receive.new.self (free_may q c.self.invariant) fails)
            e.fails;
        waits = e.waits;
        keeps = e.keeps;
        transmit = refl;
      };
      home = received_goes c.receive.result q s c.self.invariant e.keeps refl;
      blocks = received_kept q s _ e.keeps refl;
      began = e.began;
      refuses = e.refuses;
      refusal = e.refusal;
    })
