use Rattle.std.proofs.lemmas.Result.{on_ok_weaker, on_err_weaker}
use Rattle.pmd_driver.proofs.HaltedBoth.{second_out, both_home, first_stops, second_stops}
use Rattle.pmd_driver.proofs.stopping.bring_both.Goals as goal

pub bring-requires-in-Ok : goal.bring-requires-in-Ok
bring-requires-in-Ok g c = second_out _ _ _ _ _ _ c.args.second.now c.in-Ok.ensures.all c.requires

pub returns-in-Ok-clause-all : goal.returns-in-Ok-clause-all
returns-in-Ok-clause-all g c =
    on_ok_weaker c.bring-in-Ok.result (both_home _ _ _ _ _ _ _ _ c.in-Ok.ensures.all) c.bring-in-Ok.ensures.all

pub returns-in-Ok-clause-stopped : goal.returns-in-Ok-clause-stopped
returns-in-Ok-clause-stopped g c =
    on_err_weaker c.bring-in-Ok.result (second_stops _ _ _ _ _ _ _ _ c.in-Ok.ensures.all)
    c.bring-in-Ok.ensures.stopped

pub returns-in-Err-clause-stopped : goal.returns-in-Err-clause-stopped
returns-in-Err-clause-stopped g c = first_stops _ _ _ _ _ _ _ c.in-Err.ensures.stopped
