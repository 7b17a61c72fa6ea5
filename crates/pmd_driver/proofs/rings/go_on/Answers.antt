use Rattle.std.proofs.Common.{true, inl, inr, refl}
use Rattle.std.proofs.lemmas.Result.{on_ok_weaker}
use Rattle.pmd_access.specs.NicDevice.DmaArena.Numbers.{free_count}
use Rattle.pmd_rx.proofs.Keeping.{keeps_none}
use Rattle.pmd_driver.proofs.Driving.{err_later}
use Rattle.pmd_driver.proofs.Late.{switching_late, filling_late}
use Rattle.pmd_driver.proofs.rings.go_on.Goals as goal

pub returns-in-Ok-clause-goes : goal.returns-in-Ok-clause-goes
returns-in-Ok-clause-goes g c =
    let mid = g.N.Nic.made c.switch_both.new.nic in
    let e = c.fill.ensures in
    record {
      on = on_ok_weaker c.fill.result
          (λ filled. record { mid = mid; switched = c.in-Ok.ensures.switched; plays = e.plays; filled = filled })
          e.filled;
      running = e.running;
      failed = err_later c.fill.result (λ f stops. inr (mid, c.in-Ok.ensures.switched, stops)) e.fails;
      late = filling_late c.fill.result mid c.args.arena.now c.args.receive.now (g.N.Nic.made c.fill.new.nic)
          c.fill.new.arena c.fill.new.self (free_count c.args.arena.now) c.args.receive.now.layout.size e.fails e.short
          c.requires.enough;
      handed = e.handed;
      keeps = e.keeps;
    }

pub returns-in-Err-clause-goes : goal.returns-in-Err-clause-goes
returns-in-Err-clause-goes g c = record {
  on = tt;
  running = tt;
  failed = inl (c.in-Err.ensures.failed, refl, refl);
  late = switching_late c.in-Err.fault c.args.queue.now (g.N.Nic.made c.args.nic.now)
      (g.N.Nic.made c.switch_both.new.nic) true 1000 c.in-Err.ensures.failed;
  handed = refl;
  keeps = keeps_none _ _;
}
