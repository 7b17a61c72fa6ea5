use Rattle.std.proofs.Common.{refl, ◌∙◌}
use Rattle.pmd_driver.proofs.Living.{runs_still, runs_on}
use Rattle.pmd.proofs.turns.reap_all.Goals as goal

pub loop-init : goal.loop-init
loop-init g c = record {
  handed = refl;
  drives = runs_still _ _;
  queue = refl;
  blocks = λ a has. has;
  began = λ o is. is;
}

pub loop-preserved : goal.loop-preserved
loop-preserved g c =
    let i = c.loop.invariant in
    record {
      handed = c.reap.ensures.handed ∙ i.handed;
      drives = runs_on _ _ _ _ _ _ i.drives c.reap.ensures.drives;
      queue = c.reap.ensures.queue ∙ i.queue;
      blocks = λ a has. c.reap.ensures.blocks a (i.blocks a has);
      began = λ o is. c.reap.ensures.began o (i.began o is);
    }

pub returns-in_err-reap-clause-drives : goal.returns-in_err-reap-clause-drives
returns-in_err-reap-clause-drives g c = runs_on _ _ _ _ _ _ c.loop.invariant.drives c.reap.ensures.drives

pub returns-then-branch-clause-drives : goal.returns-then-branch-clause-drives
returns-then-branch-clause-drives g c = runs_on _ _ _ _ _ _ c.loop.invariant.drives c.reap.ensures.drives
