-- Lemmas about successive driver calls, each with a record of its effect.
use Rattle.std.proofs.Common.{◌≡◌, ◌≢◌, ◌<◌, ◌≤◌, true, List, [], length, Option, Some, None, IfSome, Result, Ok, Err, IfOk, IfErr, OnOk, OnErr, refl, ap, subst, sym, ◌∙◌, arith}
use Rattle.std.proofs.lemmas.List.{length-append}
use Rattle.pmd_access.specs.NicDevice.DmaArena.Numbers.{Numbers, free_count}
use Rattle.pmd_access.specs.Asks.{fault_in}
use Rattle.pmd_access.specs.DeviceLock.declared.entry.Call.{Call}
use Rattle.pmd_access.specs.declared.fault.PmdFault.{PmdFault}
use Rattle.pmd_access.specs.declared.fault.PmdFault.TheVariants as fault
use Rattle.pmd_rx.specs.Acts.{Acts, ActsAlone, Gathers, GathersAlone}
use Rattle.pmd_rx.specs.Keeping.{Keeps}
use Rattle.pmd_rx.specs.Plays.{PlaysFrom}
use Rattle.pmd_rx.specs.Receive.{Receive, CanLend, HasLent, ended_of, names}
use Rattle.pmd_rx.specs.Shown.{IsLook, IsNamed, IsRefused, IsUnnamed, LooksAtWrong}
use Rattle.pmd_rx.specs.Wrong.{FailsBy, IsFault, IsShort, owed}
use Rattle.pmd_rx.specs.declared.receive.Look.{Look}
use Rattle.pmd_rx.specs.declared.receive.Look.TheVariants as look
use Rattle.pmd_rx.specs.declared.ring.Stage.{Stage}
use Rattle.pmd_rx.specs.declared.ring.Stage.TheVariants.{Looks, Takes, Owes, Lent}
use Rattle.pmd_rx.specs.declared.ring.Reported.{Reported}
use Rattle.pmd_rx.proofs.Earlier.{plays_then, all_fail_then}
use Rattle.pmd_rx.proofs.Failing.{fails_all, fails_past, fails_of, faults_of, never_short}
use Rattle.pmd_rx.proofs.Handing.{named_same}
use Rattle.pmd_rx.proofs.Keeping.{keeps_none, keeps_both, look_keeps}
use Rattle.pmd_rx.proofs.Looking.{look_kept, look_plays, look_wrong, looks_fail, looks_keep, looks_play, looks_same}
use Rattle.pmd_rx.proofs.Own.{name_plays, name_fails}
use Rattle.pmd_rx.proofs.Playing.{plays_none}
use Rattle.pmd_rx.proofs.Refilling.{name_keeps}

-- A call with the effect `Gathers` may be followed by a call that never fails with `NoBuffer`; together they have this
-- effect.

pub acts_then : {f h : Option PmdFault} {l m n : List Call} {a b d : Numbers} {v w x : Receive} → Gathers f l a v m b w
    → h ≢ Some fault.NoBuffer → Acts h m b w n d x → Acts h l a v n d x
acts_then {f} {h} {l} {m} {n} {a} {b} {d} {v} {w} {x} p enough q = record {
  plays = plays_then a b l m n v w x p.acts.plays p.keeps q.plays;
  fails = all_fail_then h a b d l m n v w x p.acts.plays p.keeps (faults_of h m n b d w x enough q.fails);
}

pub gathers_then : {f h : Option PmdFault} {l m n : List Call} {a b d : Numbers} {v w x : Receive}
    → Gathers f l a v m b w → h ≢ Some fault.NoBuffer → Gathers h m b w n d x → Gathers h l a v n d x
gathers_then {f} {h} {l} {m} {n} {a} {b} {d} {v} {w} {x} p enough q = record {
  acts = acts_then p enough q.acts;
  keeps = keeps_both a b d v w x [] p.keeps q.keeps;
  handed = q.handed ∙ p.handed;
  whole = omega (arith, p.whole, q.whole);
}

pub alone_then : {f h : Option PmdFault} {l m n : List Call} {v w x : Receive} → GathersAlone f l v m w
    → GathersAlone h m w n x → GathersAlone h l v n x
alone_then p q = record {
  gathers = λ a. gathers_then (p.gathers a) q.enough (q.gathers a);
  enough = q.enough;
}

-- The same is true of a call that looks at slots, followed by a call that may fail with `NoBuffer`.
pub gathers_seen : {f h : Option PmdFault} {l m n : List Call} {a b : Numbers} {v w x : Receive}
    → GathersAlone f l v m w → w ≡ record v { seen = w.seen; stage = w.stage } → Gathers h m a w n b x
    → Gathers h l a v n b x
gathers_seen {f} {h} {l} {m} {n} {a} {b} {v} {w} {x} p same q =
    let first = p.gathers a in
    record {
      acts = record {
        plays = plays_then a a l m n v w x first.acts.plays first.keeps q.acts.plays;
        fails = fails_past h l m n a b v w x first.acts.plays same q.acts.fails;
      };
      keeps = keeps_both a a b v w x [] first.keeps q.keeps;
      handed = q.handed ∙ first.handed;
      whole = omega (arith, first.whole, q.whole);
    }

-- After a fault, another call may follow.
pub gathers_on : {f : Option PmdFault} {m n : List Call} {a b : Numbers} {v w : Receive} → Gathers f m a v n b w
    → Gathers None m a v n b w
gathers_on p = record {
  acts = record { plays = p.acts.plays; fails = tt };
  keeps = p.keeps;
  handed = p.handed;
  whole = p.whole;
}

-- A call that causes no event.

pub gathers_none : (f : Option PmdFault) {old : List Call} {a : Numbers} {v : Receive}
    → IfSome f (λ i. FailsBy i old a v old a v) → Gathers f old a v old a v
gathers_none f {old} {a} {v} by = record {
  acts = record { plays = plays_none a old v; fails = by };
  keeps = keeps_none a v;
  handed = refl;
  whole = omega arith;
}

pub alone_none : {old : List Call} {v : Receive} → GathersAlone None old v old v
alone_none = record { gathers = λ a. gathers_none None tt; enough = λ short. cc }

-- A call with one event, which is done or refused.

pub acts_alone : (f : Option PmdFault) {old new : List Call} {v w : Receive}
    → ((a : Numbers) → PlaysFrom a old v new w) → ((a : Numbers) → IfSome f (λ i. IsFault i a old v new w))
    → ActsAlone f old v new w
acts_alone f {old} {new} {v} {w} plays fault = record {
  acts = λ a. record { plays = plays a; fails = fails_all f old new a a v w (fault a) };
  enough = never_short f (record { first = 0; free = [] }) old new v w (fault (record { first = 0; free = [] }));
}

pub gathers_alone : {f : Option PmdFault} {old new : List Call} {v w : Receive} → ActsAlone f old v new w
    → ((a : Numbers) → Keeps a v a w []) → w.handed ≡ v.handed → length v.whole ≤ length w.whole
    → GathersAlone f old v new w
gathers_alone p keeps handed whole = record {
  gathers = λ a. record { acts = p.acts a; keeps = keeps a; handed = handed; whole = whole };
  enough = p.enough;
}

-- An event that changed nothing, because its reply was wrong or it was refused.
pub fails_alone : (f : PmdFault) {old new : List Call} {v : Receive} → ((a : Numbers) → PlaysFrom a old v new v)
    → ((a : Numbers) → IsFault f a old v new v) → GathersAlone (Some f) old v new v
fails_alone f {old} {new} {v} plays fault =
    gathers_alone (acts_alone (Some f) plays fault) (λ a. keeps_none a v) refl (omega arith)

-- A call that fails and leaves the arena unchanged, because the block was returned to it.
pub fails_here : (f : PmdFault) {old new : List Call} {a b : Numbers} {v : Receive} → PlaysFrom a old v new v
    → IsFault f a old v new v → b ≡ a → Gathers (Some f) old a v new b v
fails_here f {old} {new} {a} {b} {v} plays fault home =
    subst (λ (d : Numbers). Gathers (Some f) old a v new d v) (sym home)
    (record {
      acts = record { plays = plays; fails = fails_of f old new a a v v fault };
      keeps = keeps_none a v;
      handed = refl;
      whole = omega arith;
    })

-- A look at a slot.
pub look_gathers : (r : Result Look PmdFault) {old new : List Call} {v w : Receive} → v.stage ≡ Looks
    → length v.seen < length v.layout.blocks → IfOk r (λ l. IsLook l old v new w) → OnErr r (w ≡ v)
    → IfErr r (λ f. IsRefused f old new) → GathersAlone (fault_in r) old v new w
look_gathers r {old} {new} {v} {w} can some looked same refused =
    let kept = looks_same r old new v w looked same in
    gathers_alone
    (acts_alone (fault_in r) (λ a. looks_play a r old new v w can some looked same refused)
    (λ a. looks_fail a r old new v w can some same refused))
    (λ a. looks_keep a r old new v w can looked same) (ap (λ (y : Receive). y.handed) kept)
    (omega (arith, ap (λ (y : Receive). length y.whole) kept))

-- A look that found a state that is impossible in a healthy queue.
pub wrong_gathers : {old new : List Call} {v w : Receive} → v.stage ≡ Looks
    → length v.seen < length v.layout.blocks → LooksAtWrong old v new w
    → GathersAlone (Some fault.DeviceFault) old v new w
wrong_gathers {old} {new} {v} {w} can some wrong =
    let kept = look_kept look.Wrong old new v w wrong in
    gathers_alone
    (acts_alone (Some fault.DeviceFault) (λ a. look_plays a old new v can some look.Wrong w wrong)
    (λ a. look_wrong a old new v can some w wrong))
    (λ a. look_keeps a look.Wrong old new v w can wrong) (ap (λ (y : Receive). y.handed) kept)
    (omega (arith, ap (λ (y : Receive). length y.whole) kept))

-- After a block is named, at least as many packets are complete.
names_more : {E : Type 0} (r : Result Unit E) (v w : Receive) → OnOk r (w ≡ names v) → OnErr r (w ≡ v)
    → length v.whole ≤ length w.whole
names_more (Ok o) v w is same = rw is (omega (arith, length-append v.whole (ended_of v.seen v.held)))
names_more (Err e) v w is same = rw same (omega arith)

-- A fresh block is named.
pub name_gathers : (r : Result Unit PmdFault) {old new : List Call} {v w : Receive} → HasLent v.stage
    → OnOk r (IsNamed old new v true) → OnOk r (w ≡ names v) → OnErr r (w ≡ v) → IfErr r (λ f. IsUnnamed f old new v)
    → GathersAlone (fault_in r) old v new w
name_gathers r {old} {new} {v} {w} lent named is same failed =
    gathers_alone
    (acts_alone (fault_in r) (λ a. name_plays a old new v lent r w named is same failed)
    (λ a. name_fails a old new v lent r w same failed))
    (λ a. name_keeps a r v w lent is same) (named_same r v w is same) (names_more r v w is same)

-- No block is free to be lent.

lends_one : (s : Stage) (seen : List Reported) → CanLend s seen → owed s ≡ 1
lends_one Looks seen can = refl
lends_one Takes seen can = absurd can
lends_one Owes seen can = refl
lends_one (Lent b) seen can = absurd can

pub short_here : (a : Numbers) (v : Receive) → CanLend v.stage v.seen → free_count a ≡ 0 → IsShort a v a v
short_here a v can none = record {
  few = omega (arith, none, lends_one v.stage v.seen can);
  arena = refl;
  layout = refl;
  handed = refl;
  held = refl;
  whole = refl;
  named = refl;
}
