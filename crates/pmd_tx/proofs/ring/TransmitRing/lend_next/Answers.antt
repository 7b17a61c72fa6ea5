use Rattle.std.proofs.Common.{◌≡◌, ◌-◌, length, ap, arith}
use Rattle.pmd_tx.specs.Sending.{lent_more}
use Rattle.pmd_tx.proofs.Fields.{count, held_again, in_hand, lent_ring}
use Rattle.pmd_tx.proofs.Own.{lend_done, lend_fails, lend_refused}
use Rattle.pmd_tx.proofs.Waiting.{below, next_may, next_put, next_short}
use Rattle.pmd_tx.proofs.ring.TransmitRing.lend_next.Goals as goal

pub unreachable-requires : goal.unreachable-requires
unreachable-requires g c =
    let h = c.self.invariant in
    let all = in_hand _ _ _ _ _ _ _ _ h in
    let outs = count _ _ _ _ _ _ _ _ h in
    let more = rw (← c.self.view_is) at c.requires in
    omega (arith, all, ap length c.in-None.ensures.none, outs, more)

pub invariant_of-self : goal.invariant_of-self
invariant_of-self g c =
    lent_ring _ _ _ _ _ _ _ _ c.self.invariant c.in-Some.buf c.take_first.new.self c.in-Some.ensures.first

pub newest_part-requires-clause-some : goal.newest_part-requires-clause-some
newest_part-requires-clause-some g c =
    let low = below _ _ _ _ _ _ _ _ c.self.invariant c.in-Some.buf c.take_first.new.self c.in-Some.ensures.first in
    let len = c.len.ensures in
    let from = c.from.ensures in
    omega (arith, low, len, from)

pub put-requires : goal.put-requires
put-requires g c =
    let ps = c.self.inside.pieces.items in
    let len = c.len.ensures in
    let from = c.from.ensures in
    let left : c.len.result - c.from.result ≡ length ps - c.self.inside.lent = omega (arith, len, from) in
    let short = next_short _ _ _ _ _ _ _ _ c.self.invariant c.in-Some.buf c.take_first.new.self
    c.in-Some.ensures.first c.bytes-whole.ensures.whole in
    rw (c.newest_part.ensures, c.deref.ensures.value, left) (omega (arith, short))

pub invariant_of-self-in-Ok-Some : goal.invariant_of-self-in-Ok-Some
invariant_of-self-in-Ok-Some g c =
    let ps = c.self.inside.pieces.items in
    let len = c.len.ensures in
    let from = c.from.ensures in
    let left : c.len.result - c.from.result ≡ length ps - c.self.inside.lent = omega (arith, len, from) in
    let h = c.self.invariant in
    let first = c.in-Some.ensures.first in
    let number = rw c.in-Ok-Some.field-0-is at c.in-Ok-Some.ensures.number in
    let put = rw (c.newest_part.ensures, c.deref.ensures.value, left) at c.put.ensures in
    rw c.put_back.ensures
    (held_again _ _ _ _ _ _ _ _ h c.in-Some.buf c.put.new.self c.take_first.new.self first
    (next_put _ _ _ _ _ _ _ _ h c.in-Some.buf c.take_first.new.self first c.in-Ok-Some.buf c.put.new.self number put))

pub returns-in-Ok-Some-clause-continues : goal.returns-in-Ok-Some-clause-continues
returns-in-Ok-Some-clause-continues g c =
    lend_fails _ _ c.args.self.now c.in-Some.buf
    (next_may _ _ _ _ _ _ _ _ c.self.invariant c.in-Some.buf c.take_first.new.self c.in-Some.ensures.first
    c.args.self.now c.self.view_is c.bytes-whole.ensures.whole) c.in-Ok-Some.buf
    (rw c.in-Ok-Some.field-0-is at c.in-Ok-Some.ensures.made) c.self.view_is

pub returns-in-Ok-None-clause-continues : goal.returns-in-Ok-None-clause-continues
returns-in-Ok-None-clause-continues g c =
    lend_done _ _ c.args.self.now c.in-Some.buf
    (next_may _ _ _ _ _ _ _ _ c.self.invariant c.in-Some.buf c.take_first.new.self c.in-Some.ensures.first
    c.args.self.now c.self.view_is c.bytes-whole.ensures.whole)
    (rw c.in-Ok-None.field-0-is at c.in-Ok-None.ensures.made) (ap lent_more c.self.view_is)

pub returns-in-Err-clause-continues : goal.returns-in-Err-clause-continues
returns-in-Err-clause-continues g c =
    lend_refused _ _ c.args.self.now c.in-Some.buf
    (next_may _ _ _ _ _ _ _ _ c.self.invariant c.in-Some.buf c.take_first.new.self c.in-Some.ensures.first
    c.args.self.now c.self.view_is c.bytes-whole.ensures.whole) _ c.in-Err.ensures.refused c.self.view_is
