use Rattle.std.proofs.Common.{refl, arith}
use Rattle.pmd_tx.proofs.Fields.{dropped_ring}
use Rattle.pmd_tx.proofs.ring.TransmitRing.keep_reaped.Goals as goal

pub invariant_of-self : goal.invariant_of-self
invariant_of-self c =
    let h = c.self.invariant in
    let some = rw (← c.self.view_is) at c.requires in
    let a = h.done_posted in
    let b = h.posted_poked in
    let d = h.poked_lent in
    dropped_ring _ _ _ _ _ _ _ _ h _ _ _ _ _ _ refl refl refl
    (rw (← c.self.view_is) at c.following-self-inside.ensures) c.pop_front-reaped.ensures.rest some (omega arith)
    (omega arith) (omega arith) (omega arith)
