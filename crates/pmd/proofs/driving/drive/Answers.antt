use Rattle.std.proofs.Common.{length, ap, inl, arith}
use Rattle.pmd_driver.specs.Driver.{handed_of}
use Rattle.pmd_driver.proofs.Living.{has_lived}
use Rattle.pmd.proofs.Ending.{home_without, had_thread, shut_out}
use Rattle.pmd.proofs.Telling.{reported_count}
use Rattle.pmd.proofs.driving.drive.Goals as goal

pub returns-clause-few : goal.returns-clause-few
returns-clause-few g c = omega (
  arith,
  c.work-worked.ensures.few,
  ap (λ l. length l) c.work-worked.ensures.reported,
  reported_count c.args.order.queue 0 (handed_of c.work-worked.new.pmd.rings),
)

pub returns-clause-home : goal.returns-clause-home
returns-clause-home g c = rw c.first_fault.ensures (home_without _ _ _ c.take_home-rest.ensures.home)

pub returns-clause-fault : goal.returns-clause-fault
returns-clause-fault g c = rw c.first_fault.ensures (had_thread _ _ c.work-worked.ensures.fault)

pub returns-clause-lived : goal.returns-clause-lived
returns-clause-lived g c q size frame old arena started =
    inl (
      c.work-worked.result,
      c.take_home-rest.result.1,
      c.first_fault.ensures,
      has_lived q size frame old arena (g.N.Nic.made c.args.nic.now) (g.N.Nic.made c.work-worked.new.nic)
          (g.N.Nic.made c.take_home-rest.new.nic) c.args.pmd c.work-worked.new.pmd c.take_home-rest.result.0
          c.take_home-rest.result.1 started c.work-worked.ensures.drives c.work-worked.ensures.queue
          c.take_home-rest.ensures.stopped c.take_home-rest.ensures.handed c.take_home-rest.ensures.accepted,
    )

pub returns-clause-shut : goal.returns-clause-shut
returns-clause-shut g c = rw c.first_fault.ensures (shut_out _ _ _ c.work-worked.ensures.shut)
