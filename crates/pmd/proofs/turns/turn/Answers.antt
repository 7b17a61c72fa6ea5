use Rattle.std.proofs.Common.{◌≡◌, ◌∷◌, ◌++◌, [], length, List, Option, IfSome, ap, sym, ◌∙◌, subst}
use Rattle.rtrb.specs.Ring.{sent}
use Rattle.pmd_driver.specs.PmdAccess.Packet.{Kept, kept_of}
use Rattle.pmd_driver.specs.PmdAccess.declared.packet.Packet.{Packet}
use Rattle.pmd_driver.specs.Driver.{handed_of}
use Rattle.pmd_driver.proofs.Living.{runs_on}
use Rattle.pmd.specs.Reported.{report_of, reports_of}
use Rattle.pmd.proofs.Telling.{reported_more}
use Rattle.pmd.proofs.turns.turn.Goals as goal

pub returns-in-Some-clause-reported : goal.returns-in-Some-clause-reported
returns-in-Some-clause-reported g c =
    let old : List Kept = handed_of c.args.pmd.now.rings in
    let k : Kept = kept_of c.in-Some.packet in
    let given = subst
    (λ (o : Option Packet). IfSome o (λ (p : Packet). handed_of c.receive.new.pmd.rings ≡ old ++ kept_of p ∷ []))
    c.in-Some.is c.in_ok-receive.ensures.given in
    c.tell.ensures.sent
    ∙ (ap (λ (h : List Kept). sent c.args.producer.now ++ report_of c.args.queue (length h) k ∷ []) c.handed.ensures
    ∙ (reported_more c.args.queue old k (sent c.args.producer.now) c.requires.reported
    ∙ ap (λ (l : List Kept). reports_of c.args.queue l) (sym given ∙ sym c.forward.ensures.handed)))

pub returns-in-Some-clause-drives : goal.returns-in-Some-clause-drives
returns-in-Some-clause-drives g c = runs_on _ _ _ _ _ _ c.receive.ensures.drives c.forward.ensures.drives
