use Rattle.std.proofs.Common.{rules, refl, ◌∙◌}
use Rattle.pmd_driver.proofs.Living.{runs_still, runs_on}
use Rattle.pmd.proofs.turns.do_rounds.Goals as goal

pub loop-init : goal.loop-init
loop-init g c = record {
  reported = c.requires.reported;
  ring = search rules;
  room = search rules;
  few = search rules;
  drives = runs_still _ _;
  queue = refl;
  blocks = λ a has. has;
  began = λ o is. is;
}

pub loop-preserved : goal.loop-preserved
loop-preserved g c =
    let i = c.loop.invariant in
    record {
      reported = c.round.ensures.reported;
      ring = search rules;
      room = search rules;
      few = search rules;
      drives = runs_on _ _ _ _ _ _ i.drives c.round.ensures.drives;
      queue = c.round.ensures.queue ∙ i.queue;
      blocks = λ a has. c.round.ensures.blocks a (i.blocks a has);
      began = λ o is. c.round.ensures.began o (i.began o is);
    }

pub returns-in_err-round-clause-drives : goal.returns-in_err-round-clause-drives
returns-in_err-round-clause-drives g c = runs_on _ _ _ _ _ _ c.loop.invariant.drives c.round.ensures.drives
