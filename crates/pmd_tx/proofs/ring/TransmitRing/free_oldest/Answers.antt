use Rattle.std.proofs.Common.{refl}
use Rattle.pmd_tx.proofs.Acting.{continues_by, reaped_none, reaped_one}
use Rattle.pmd_tx.proofs.Freeing.{oldest_out}
use Rattle.pmd_tx.proofs.ring.TransmitRing.free_oldest.Goals as goal

pub give_back-requires-clause-own : goal.give_back-requires-clause-own
give_back-requires-clause-own g c =
    (oldest_out c.args.arena.now c.args.self.now c.in-Ok.buf.number c.take_oldest.ensures.some c.in-Ok.ensures.block
    c.requires.out).0

pub give_back-requires-clause-away : goal.give_back-requires-clause-away
give_back-requires-clause-away g c =
    (oldest_out c.args.arena.now c.args.self.now c.in-Ok.buf.number c.take_oldest.ensures.some c.in-Ok.ensures.block
    c.requires.out).1

pub returns-in-Ok-clause-reaped : goal.returns-in-Ok-clause-reaped
returns-in-Ok-clause-reaped g c =
    rw c.oldest_ends-end.ensures
    (reaped_one c.in-Ok.buf.number c.in-Ok.ensures.acts c.requires.some c.requires.settled c.requires.out
    c.in-Ok.ensures.block c.in-Ok.ensures.reaped c.give_back.ensures)

pub returns-in-Err-clause-reaped : goal.returns-in-Err-clause-reaped
returns-in-Err-clause-reaped g c =
    let same = c.in-Err.ensures.kept in
    reaped_none (continues_by c.args.self.now c.in-Err.ensures.acts same refl refl refl)
    (rw same c.requires.settled) c.requires.out
