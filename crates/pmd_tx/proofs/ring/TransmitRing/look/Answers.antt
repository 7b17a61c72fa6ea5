use Rattle.std.proofs.Common.{◌≡◌, false}
use Rattle.pmd_tx.specs.Sending.{is_sent}
use Rattle.pmd_tx.proofs.Own.{look_done, look_waits, look_fails, look_refused}
use Rattle.pmd_tx.proofs.ring.TransmitRing.look.Goals as goal

pub returns-in-Ok-Some-clause-continues : goal.returns-in-Ok-Some-clause-continues
returns-in-Ok-Some-clause-continues g c =
    look_done _ _ c.args.self.now _ _ c.oldest_end-end.ensures.end
    (rw c.requires.settled c.oldest_end-end.ensures.below) c.descriptor-address.ensures c.in-Ok-Some.bytes
    (rw c.in-Ok-Some.field-0-is at c.in-Ok-Some.ensures.made) c.see.ensures.looked

pub returns-in-Ok-Some-clause-waits : goal.returns-in-Ok-Some-clause-waits
returns-in-Ok-Some-clause-waits g c = λ is.
    let waits : is_sent c.in-Ok-Some.bytes ≡ false = cc in
    look_waits _ _ c.args.self.now _ _ c.oldest_end-end.ensures.end
    (rw c.requires.settled c.oldest_end-end.ensures.below) c.descriptor-address.ensures c.in-Ok-Some.bytes
    (rw c.in-Ok-Some.field-0-is at c.in-Ok-Some.ensures.made) c.see.ensures.looked waits

pub returns-in-Ok-None-clause-continues : goal.returns-in-Ok-None-clause-continues
returns-in-Ok-None-clause-continues g c =
    look_fails _ _ c.args.self.now _ _ c.oldest_end-end.ensures.end
    (rw c.requires.settled c.oldest_end-end.ensures.below) c.descriptor-address.ensures
    (rw c.in-Ok-None.field-0-is at c.in-Ok-None.ensures.made)

pub returns-in-Err-clause-continues : goal.returns-in-Err-clause-continues
returns-in-Err-clause-continues g c =
    look_refused _ _ c.args.self.now _ _ c.oldest_end-end.ensures.end
    (rw c.requires.settled c.oldest_end-end.ensures.below) c.descriptor-address.ensures _ c.in-Err.ensures.refused
