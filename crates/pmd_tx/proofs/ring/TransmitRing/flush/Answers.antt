use Rattle.std.proofs.Common.{◌∙◌, [], ap, length, sym}
use Rattle.pmd_tx.specs.Plays.{FaultsBy}
use Rattle.pmd_tx.specs.Sends.{IsLate}
use Rattle.pmd_access.proofs.Asking.{fault_by}
use Rattle.pmd_tx.proofs.Acting.{continues_then}
use Rattle.pmd_tx.proofs.ring.TransmitRing.flush.Goals as goal

pub returns-in-Ok-clause-plays : goal.returns-in-Ok-clause-plays
returns-in-Ok-clause-plays g c blocks =
    ((continues_then c.ask_waiting.ensures.continues c.post.ensures.continues).acts blocks).plays

pub returns-in-Ok-clause-faults : goal.returns-in-Ok-clause-faults
returns-in-Ok-clause-faults g c blocks =
    fault_by (λ f. FaultsBy f blocks (g.N.Nic.made c.args.nic.now) c.args.self.now (g.N.Nic.made c.post.new.nic))
    c.post.result ((continues_then c.ask_waiting.ensures.continues c.post.ensures.continues).acts blocks).faults

pub returns-in-Ok-clause-still : goal.returns-in-Ok-clause-still
returns-in-Ok-clause-still g c settled =
    let first = c.ask_waiting.ensures.still settled in
    let then = c.post.ensures.still
    (c.ask_waiting.ensures.tail ∙ settled ∙ sym (ap length c.ask_waiting.ensures.continues.kept.outstanding)) in
    (then.0 ∙ first.0, then.1 ∙ first.1, then.2)

pub returns-in-Err-clause-late : goal.returns-in-Err-clause-late
returns-in-Err-clause-late g c = (c.in-Err.ensures.continues.acts []).late

pub returns-in-Ok-clause-late : goal.returns-in-Ok-clause-late
returns-in-Ok-clause-late g c = fault_by (λ f. IsLate f) c.post.result (c.post.ensures.continues.acts []).late
