use Rattle.std.proofs.Common.{[], refl}
use Rattle.pmd_access.specs.NicDevice.DmaArena.Numbers.{is_own}
use Rattle.pmd_tx.specs.Sends.{IsLate}
use Rattle.pmd_driver.specs.Bursts.{FailsDuring}
use Rattle.pmd_driver.specs.Halves.{halves_of}
use Rattle.pmd_driver.specs.Running.{Running}
use Rattle.pmd_driver.proofs.Both.{outstanding_may, transmit_drives}
use Rattle.pmd_driver.proofs.Driving.{err_later, some_by}
use Rattle.pmd_driver.proofs.Meeting.{during_by}
use Rattle.pmd_driver.proofs.Queueing.{accepts_none}
use Rattle.pmd_driver.proofs.Sending.{still_kept, still_up}
use Rattle.pmd_driver.proofs.running.Running.flush.Goals as goal

pub invariant_of-self : goal.invariant_of-self
invariant_of-self g c =
    let e = c.flush.ensures in
    still_up _ _ e.kept e.layout refl refl c.self.invariant

pub returns-clause-continues : goal.returns-clause-continues
returns-clause-continues g c =
    let q : Running = record {
      arena = c.self.inside.arena;
      receive = c.self.inside.receive;
      transmit = c.self.inside.transmit;
    } in
    let s : Running = record q { transmit = c.flush.new.self } in
    let old = g.N.Nic.made c.args.nic.now in
    let new = g.N.Nic.made c.flush.new.nic in
    let e = c.flush.ensures in
    rw (← c.self.view_is) (record {
      drives = transmit_drives old new [] q s c.self.invariant tt (e.plays []) (λ n. refl) refl;
      keeps = still_kept q s e.kept e.layout refl refl [] [] refl;
      accepts = accepts_none q s e.kept refl e.layout refl;
      late = some_by (λ f. IsLate f) c.flush.result e.late;
      during = some_by (λ f. FailsDuring f (is_own q.arena) old (halves_of q) new) c.flush.result
          (err_later c.flush.result
          (λ f faults. during_by f (is_own q.arena) [] old new (halves_of q) tt (outstanding_may q c.self.invariant)
          faults)
          (e.faults []));
    })
