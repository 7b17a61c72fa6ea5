use Rattle.std.proofs.Common.{◌∙◌, [], Ok, Err, refl, ap, arith}
use Rattle.pmd_access.specs.NicDevice.DmaArena.Numbers.{Numbers}
use Rattle.pmd_access.proofs.Asking.{asks_none, asks_then}
use Rattle.pmd_rx.specs.Receive.{Receive}
use Rattle.pmd_rx.proofs.Acting.{alone_none, alone_then, look_gathers, wrong_gathers}
use Rattle.pmd_rx.proofs.Looking.{looks_same, looks_vainly, kept_both, one_more}
use Rattle.pmd_rx.proofs.ring.ReceiveRing.look_whole.Goals as goal

pub loop-look-init : goal.loop-look-init
loop-look-init g c = record {
  asks = asks_none;
  gathers = alone_none;
  kept = refl;
  running = c.requires.running;
  many = λ looks. omega arith;
  from = λ looks. looks;
}

pub look-requires-clause-some : goal.look-requires-clause-some
look-requires-clause-some g c = c.has_next.ensures.yes c.if-not-has_next.false

pub returns-in-Ok-Nothing-clause-gathers : goal.returns-in-Ok-Nothing-clause-gathers
returns-in-Ok-Nothing-clause-gathers g c =
    let l = c.in-Ok-Nothing.ensures in
    let some = c.has_next.ensures.yes c.if-not-has_next.false in
    alone_then c.loop-look.invariant.gathers
    (look_gathers (Ok c.in-Ok-Nothing.field-0) (c.waits.ensures.no c.if-waits.false) some l.looked l.unseen l.refused)

pub returns-in-Ok-Wrong-clause-gathers : goal.returns-in-Ok-Wrong-clause-gathers
returns-in-Ok-Wrong-clause-gathers g c =
    let some = c.has_next.ensures.yes c.if-not-has_next.false in
    alone_then c.loop-look.invariant.gathers
    (wrong_gathers (c.waits.ensures.no c.if-waits.false) some
    (rw c.in-Ok-Wrong.field-0-is at c.in-Ok-Wrong.ensures.looked))

pub returns-in-Err-clause-gathers : goal.returns-in-Err-clause-gathers
returns-in-Err-clause-gathers g c =
    let l = c.in-Err.ensures in
    let some = c.has_next.ensures.yes c.if-not-has_next.false in
    alone_then c.loop-look.invariant.gathers
    (look_gathers (Err c.in-Err.fault) (c.waits.ensures.no c.if-waits.false) some l.looked l.unseen l.refused)

pub returns-in-Ok-Nothing-clause-kept : goal.returns-in-Ok-Nothing-clause-kept
returns-in-Ok-Nothing-clause-kept g c =
    kept_both c.args.self.now c.loop-look.self c.look.new.self c.loop-look.invariant.kept
    (looks_same c.look.result (g.N.Nic.made c.loop-look.nic) (g.N.Nic.made c.look.new.nic) c.loop-look.self
    c.look.new.self c.look.ensures.looked c.look.ensures.unseen)

pub returns-in-Ok-Wrong-clause-kept : goal.returns-in-Ok-Wrong-clause-kept
returns-in-Ok-Wrong-clause-kept g c =
    kept_both c.args.self.now c.loop-look.self c.look.new.self c.loop-look.invariant.kept
    (looks_same c.look.result (g.N.Nic.made c.loop-look.nic) (g.N.Nic.made c.look.new.nic) c.loop-look.self
    c.look.new.self c.look.ensures.looked c.look.ensures.unseen)

pub returns-in-Err-clause-kept : goal.returns-in-Err-clause-kept
returns-in-Err-clause-kept g c =
    kept_both c.args.self.now c.loop-look.self c.look.new.self c.loop-look.invariant.kept
    (looks_same c.look.result (g.N.Nic.made c.loop-look.nic) (g.N.Nic.made c.look.new.nic) c.loop-look.self
    c.look.new.self c.look.ensures.looked c.look.ensures.unseen)

pub returns-in-Ok-Nothing-clause-none : goal.returns-in-Ok-Nothing-clause-none
returns-in-Ok-Nothing-clause-none g c is none =
    let home : Numbers = record { first = 0; free = [] } in
    let old = g.N.Nic.made c.loop-look.nic in
    let new = g.N.Nic.made c.look.new.nic in
    looks_vainly (g.N.Nic.made c.args.nic.now) old new
    c.args.self.now c.loop-look.self c.look.new.self (c.loop-look.invariant.gathers.gathers home).acts.plays
    c.loop-look.invariant.kept
    (c.loop-look.invariant.from (c.waits.ensures.no c.if-waits.false)) (c.waits.ensures.no c.if-waits.false)
    c.loop-look.invariant.running (c.waits.ensures.none c.if-waits.false)
    (ap (λ (v : Receive). v.whole) c.loop-look.invariant.kept ∙ none)
    (rw c.in-Ok-Nothing.field-0-is at c.in-Ok-Nothing.ensures.looked)

pub loop-look-preserved : goal.loop-look-preserved
loop-look-preserved g c =
    let l = c.look.ensures in
    let old = g.N.Nic.made c.loop-look.nic in
    let new = g.N.Nic.made c.look.new.nic in
    let v = c.loop-look.self in
    let w = c.look.new.self in
    let looks = c.waits.ensures.no c.if-waits.false in
    let some = c.has_next.ensures.yes c.if-not-has_next.false in
    let p = c.in-Ok-Part.ensures in
    let seen = look_gathers (Ok c.in-Ok-Part.field-0) looks some p.looked p.unseen p.refused in
    record {
      asks = asks_then c.loop-look.invariant.asks c.in-Ok-Part.ensures.asks;
      gathers = alone_then c.loop-look.invariant.gathers seen;
      kept = kept_both c.args.self.now v w c.loop-look.invariant.kept
          (looks_same c.look.result old new v w l.looked l.unseen);
      running = (seen.gathers (record { first = 0; free = [] })).keeps.running c.loop-look.invariant.running;
      many = λ still. omega (
        arith,
        one_more old new v w (rw c.in-Ok-Part.field-0-is at c.in-Ok-Part.ensures.looked),
        c.loop-look.invariant.many looks,
      );
      from = λ still. c.loop-look.invariant.from looks;
    }
