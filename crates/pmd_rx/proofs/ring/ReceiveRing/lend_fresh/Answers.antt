use Rattle.std.proofs.Common.{◌≡◌, ℕ, [], length, Some, refl, sym, ap, subst, arith}
use Rattle.pmd_access.specs.NicDevice.DmaArena.Block.{Block}
use Rattle.pmd_access.specs.NicDevice.DmaArena.Numbers.{Numbers}
use Rattle.pmd_access.specs.declared.fault.PmdFault.TheVariants as fault
use Rattle.pmd_rx.specs.Keeping.{Keeps}
use Rattle.pmd_rx.specs.Receive.{Receive, lent_one}
use Rattle.pmd_rx.proofs.Acting.{fails_here, gathers_none, short_here}
use Rattle.pmd_rx.proofs.Fresh.{lends_own, own_after, away_after, back_home}
use Rattle.pmd_rx.proofs.Keeping.{keeps_to}
use Rattle.pmd_rx.proofs.Own.{lend_asks, lend_plays, lend_misses, lend_wrong}
use Rattle.pmd_rx.proofs.Playing.{plays_some}
use Rattle.pmd_rx.proofs.Refilling.{lent_keeps}
use Rattle.pmd_rx.proofs.ring.ReceiveRing.lend_fresh.Goals as goal

pub returns-in_default-clause-gathers : goal.returns-in_default-clause-gathers
returns-in_default-clause-gathers g c =
    let v = c.args.self.now in
    let a = c.args.arena.now in
    rw c.in_default.ensures.kept
    (gathers_none (Some fault.NoBuffer) (short_here a v c.requires.stage (c.in_default.ensures.none.0 refl)))

pub give_back-requires-clause-own : goal.give_back-requires-clause-own
give_back-requires-clause-own g c =
    own_after c.args.arena.now c.take.new.self c.in-Some.buf.number _ c.in-Some.ensures.free c.in-Some.ensures.taken
    (rw c.in-Ok-Some.field-0-is at c.in-Ok-Some.ensures.number)

pub give_back-requires-clause-away : goal.give_back-requires-clause-away
give_back-requires-clause-away g c =
    away_after c.args.arena.now c.take.new.self c.in-Some.buf.number _ c.in-Some.ensures.free c.in-Some.ensures.taken
    (rw c.in-Ok-Some.field-0-is at c.in-Ok-Some.ensures.number)

pub returns-in-Ok-None-clause-gathers : goal.returns-in-Ok-None-clause-gathers
returns-in-Ok-None-clause-gathers g c =
    let a = c.args.arena.now in
    let b = c.take.new.self in
    let v = c.args.self.now in
    let w = c.keep_lent.new.self in
    let buf = c.in-Some.buf in
    let own = lends_own a v buf c.requires.stage c.in-Some.ensures.free c.requires.home
    c.bytes-whole.ensures.whole.small c.requires.room c.bytes-whole.ensures.whole.size in
    let lent : w ≡ lent_one v buf.number =
    subst (λ (n : ℕ). w ≡ lent_one v n) c.block-block.ensures.number c.keep_lent.ensures in
    let kept : Keeps a v b (lent_one v buf.number) [] =
    subst (λ (d : Numbers). Keeps a v d (lent_one v buf.number) []) (sym c.in-Some.ensures.taken)
    (lent_keeps a v buf.number c.requires.stage c.in-Some.ensures.free c.requires.room) in
    record {
      acts = record {
        plays = lend_plays a (g.N.Nic.made c.args.nic.now) (g.N.Nic.made c.lend.new.nic) v w buf own
            c.in-Some.ensures.free (rw c.in-Ok-None.field-0-is at c.in-Ok-None.ensures.made) lent;
        fails = tt;
      };
      keeps = keeps_to a b v (lent_one v buf.number) w [] lent kept;
      handed = ap (λ (y : Receive). y.handed) lent;
      whole = omega (arith, ap (λ (y : Receive). length y.whole) lent);
    }

pub returns-in-Ok-None-clause-lent : goal.returns-in-Ok-None-clause-lent
returns-in-Ok-None-clause-lent g c =
    let v = c.args.self.now in
    let w = c.keep_lent.new.self in (
      c.in-Some.buf.number,
      c.in-Some.ensures.free,
      c.in-Some.ensures.taken,
      subst (λ (n : ℕ). w ≡ lent_one v n) c.block-block.ensures.number c.keep_lent.ensures,
    )

pub returns-in-Ok-Some-clause-gathers : goal.returns-in-Ok-Some-clause-gathers
returns-in-Ok-Some-clause-gathers g c =
    let a = c.args.arena.now in
    let v = c.args.self.now in
    let buf = c.in-Some.buf in
    let old = g.N.Nic.made c.args.nic.now in
    let new = g.N.Nic.made c.lend.new.nic in
    let own = lends_own a v buf c.requires.stage c.in-Some.ensures.free c.requires.home
    c.bytes-whole.ensures.whole.small c.requires.room c.bytes-whole.ensures.whole.size in
    let twice = rw c.in-Ok-Some.field-0-is at c.in-Ok-Some.ensures.made in
    fails_here fault.DeviceFault
    (lend_misses a old new v buf c.in-Ok-Some.buf own c.in-Some.ensures.free twice)
    (lend_wrong a old new v buf c.in-Ok-Some.buf own c.in-Some.ensures.free twice)
    (back_home a c.take.new.self c.give_back.new.self buf.number _ c.in-Some.ensures.free c.in-Some.ensures.taken
    (rw c.in-Ok-Some.field-0-is at c.in-Ok-Some.ensures.number) c.give_back.ensures)

pub returns-in-Err-clause-gathers : goal.returns-in-Err-clause-gathers
returns-in-Err-clause-gathers g c =
    let a = c.args.arena.now in
    let v = c.args.self.now in
    let buf = c.in-Some.buf in
    let own = lends_own a v buf c.requires.stage c.in-Some.ensures.free c.requires.home
    c.bytes-whole.ensures.whole.small c.requires.room c.bytes-whole.ensures.whole.size in
    fails_here _
    (plays_some a (g.N.Nic.made c.args.nic.now) (g.N.Nic.made c.lend.new.nic) v c.in-Err.ensures.refused)
    (lend_asks a v buf own c.in-Some.ensures.free)
    (back_home a c.take.new.self c.give_back-in-Err.new.self buf.number _ c.in-Some.ensures.free
    c.in-Some.ensures.taken (ap (λ (b : Block). b.number) c.in-Err.ensures.back) c.give_back-in-Err.ensures)
