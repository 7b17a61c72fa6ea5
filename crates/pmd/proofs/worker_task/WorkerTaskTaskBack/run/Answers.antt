use Rattle.std.proofs.Common.{◌≤◌, length, refl, rules, sym, ap, ◌∙◌, subst}
use Rattle.rtrb.specs.Ring.{sent, SameProducer}
use Rattle.pmd_driver.specs.DeviceLock.Pass.{PassValue}
use Rattle.pmd_driver.specs.Blocks.{IsWhole}
use Rattle.pmd_driver.specs.PmdAccess.Begun.{OfPass, began_at_lock}
use Rattle.pmd_driver.specs.PmdAccess.Stepped.{AtLock}
use Rattle.pmd_driver.specs.Started.{left_handed}
use Rattle.pmd.specs.Lived.{HasRun}
use Rattle.pmd.specs.Reported.{reports_of}
use Rattle.pmd.specs.declared.assignment.Assignment.{Assignment}
use Rattle.pmd.proofs.worker_task.WorkerTaskTaskBack.run.Goals as goal

pub returns : goal.returns
returns g c =
    let d : Assignment = c.self.inside.assignment in
    let left = c.run_worker-rest.result in
    let own = OfPass d.job.pass.bench d.job.pass.tag in
    let same = c.run_worker-rest.ensures.began own
    (subst (λ (t : AtLock). began_at_lock t own) (sym c.new-nic.ensures) (refl, refl)) in (
      record {
        bench = ap (λ (p : PassValue). p.bench) c.finish.ensures ∙ same.0
            ∙ ap (λ (x : Assignment). x.job.pass.bench) c.self.view_is;
        tag = ap (λ (p : PassValue). p.tag) c.finish.ensures ∙ same.1
            ∙ ap (λ (x : Assignment). x.job.pass.tag) c.self.view_is;
        lived = λ has.
            subst (λ (x : Assignment). HasRun (record { port = x.job.port; queue = x.job.queue }) x.job.size x.job.frame
            x.job.pass.calls x.job.arena c.finish.result.calls left.0 left.1) c.self.view_is
            (subst (λ (p : PassValue). HasRun (record { port = d.job.port; queue = d.job.queue }) d.job.size d.job.frame
            d.job.pass.calls d.job.arena p.calls left.0 left.1) (sym c.finish.ensures)
            (subst (λ (t : AtLock). HasRun (record { port = d.job.port; queue = d.job.queue }) d.job.size d.job.frame
            t.pass.calls d.job.arena c.run_worker-rest.new.nic.pass.calls left.0 left.1) c.new-nic.ensures
            c.run_worker-rest.ensures.lived));
        reports = c.run_worker-rest.ensures.reported
            ∙ ap (λ (x : Assignment). reports_of x.job.queue (left_handed left.0)) c.self.view_is;
        few = subst (λ (x : Assignment). length (sent c.run_worker-rest.new.producer) ≤ x.job.rounds) c.self.view_is
            c.run_worker-rest.ensures.few;
        home = c.run_worker-rest.ensures.home;
        whole = subst (λ (x : Assignment). IsWhole x.job.arena left.0) c.self.view_is c.run_worker-rest.ensures.whole;
        idle = search rules;
      },
      subst (λ (x : Assignment). SameProducer x.producer c.run_worker-rest.new.producer) c.self.view_is
          c.run_worker-rest.ensures.ring,
    )
