use Rattle.std.proofs.Common.{◌*◌, nat_le, sym, ◌∙◌, subst}
use Rattle.std.specs.Prelude.{◌↔◌, IsTrue}
use Rattle.pmd_driver.specs.PmdAccess.Frames.{most_blocks}
use Rattle.pmd.specs.Fitting.{FramesFit}
use Rattle.pmd.proofs.FramesFit.{fit_decides}
use Rattle.pmd.proofs.fitting.frames_fit.Goals as goal

pub returns-in-Some : goal.returns-in-Some
returns-in-Some c =
    subst
    (λ most.
    IsTrue (nat_le c.in-Some.longest c.room_of.result) ↔ FramesFit c.args.watched c.args.from most c.args.history.now)
    c.room_of.ensures
    (fit_decides c.args.watched c.args.from c.room_of.result c.args.history.now _
    (sym c.in-Some.is ∙ c.longest_before.ensures))

pub returns-in-None : goal.returns-in-None
returns-in-None c =
    fit_decides c.args.watched c.args.from (2048 * most_blocks c.args.frame) c.args.history.now _
    (sym c.in-None.is ∙ c.longest_before.ensures)
