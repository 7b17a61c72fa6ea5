use Rattle.std.proofs.Common.{[], refl}
use Rattle.pmd_access.specs.NicDevice.DmaArena.Numbers.{is_own}
use Rattle.pmd_driver.specs.Halves.{halves_of}
use Rattle.pmd_driver.specs.Running.{Running}
use Rattle.pmd_driver.proofs.Both.{outstanding_may, transmit_drives}
use Rattle.pmd_driver.proofs.Driving.{err_later}
use Rattle.pmd_driver.proofs.Finding.{fault_by}
use Rattle.pmd_driver.proofs.Sending.{freed_owns, reaped_kept, reaped_up, some_freed, outstanding_out}
use Rattle.pmd_driver.proofs.running.Running.reap.Goals as goal

pub reap-requires : goal.reap-requires
reap-requires g c = outstanding_out _ c.self.invariant

pub invariant_of-self : goal.invariant_of-self
invariant_of-self g c =
    let e = c.reap.ensures in
    let (packets, some) = some_freed c.reap.result _ _ _ _ e.freed e.some in
    let (count, frees) = some in
    reaped_up _ _ count packets frees e.layout refl c.self.invariant

pub returns : goal.returns
returns g c =
    let q : Running = record {
      arena = c.self.inside.arena;
      receive = c.self.inside.receive;
      transmit = c.self.inside.transmit;
    } in
    let s : Running = record q { arena = c.reap.new.arena; transmit = c.reap.new.self } in
    let old = g.N.Nic.made c.args.nic.now in
    let new = g.N.Nic.made c.reap.new.nic in
    let e = c.reap.ensures in
    let (packets, some) = some_freed c.reap.result q.transmit s.transmit q.arena s.arena e.freed e.some in
    let (count, frees) = some in
    rw (← c.self.view_is) (record {
      drives = transmit_drives old new [] q s c.self.invariant tt (e.plays [])
          (freed_owns q s count packets frees e.layout refl) refl;
      reaped = record {
        idle = e.idle;
        waits = e.waits;
        freed = e.freed;
        some = e.some;
        accepted = e.accepted;
        layout = e.layout;
        late = e.late;
        faults = e.faults;
        finds = err_later c.reap.result
            (λ f faults. fault_by f (is_own q.arena) [] old new (halves_of q) tt
            (outstanding_may q c.self.invariant) faults)
            (e.faults []);
        receive = refl;
      };
      blocks = reaped_kept q s count packets frees e.layout refl c.self.invariant;
      began = e.began;
      refuses = e.refuses;
      refusal = e.refusal;
    })
