-- Lemmas about why calls fail.
use Rattle.std.proofs.Common.{◌≡◌, ℕ, true, List, Option, Some, None, IfSome, Result, Ok, Err, refl, ap, subst, ◌∙◌}
use Rattle.std.specs.Prelude.{IsFalse}
use Rattle.pmd_access.specs.NicDevice.DmaArena.Block.{Block}
use Rattle.pmd_access.specs.NicDevice.DmaArena.Numbers.{Numbers, is_free}
use Rattle.pmd_access.specs.NicDevice.declared.event.Event.{Event}
use Rattle.pmd_access.specs.NicDevice.declared.event.Reply.{Reply}
use Rattle.pmd_access.specs.Asks.{fault_in}
use Rattle.pmd_access.specs.DeviceLock.declared.entry.Call.{Call}
use Rattle.pmd_access.specs.Made.{Adds}
use Rattle.pmd_access.specs.declared.fault.PmdFault.{PmdFault}
use Rattle.pmd_access.specs.declared.fault.PmdFault.TheVariants as fault
use Rattle.pmd_rx.specs.Plays.{LendsFree, PlaysFrom}
use Rattle.pmd_rx.specs.Receive.{Receive, IsOwn}
use Rattle.pmd_rx.specs.Wrong.{is_healthy, AsksNext, EndsWrong, IsFault, FailsBy}
use Rattle.pmd_rx.proofs.Playing.{plays_none, plays_both, plays_in, free-in}

pub wrong_here : (arena : Numbers) (old new : List Call) (v : Receive) (e : Event Block) (r : Reply Block) → IsOwn v e
    → LendsFree arena true e → Adds old new e r → IsFalse (is_healthy v e r) → EndsWrong arena old v new v
wrong_here arena old new v e r own free adds bad = (old, e, r, plays_none arena old v, own, free, adds, bad)

pub wrong_after : (arena : Numbers) (a b d : List Call) (v w x : Receive) → PlaysFrom arena a v b w
    → EndsWrong arena b w d x → EndsWrong arena a v d x
wrong_after arena a b d v w x plays (mid, e, r, on, own, free, adds, bad) =
    (mid, e, r, plays_both arena a b mid v w x plays on, own, free, adds, bad)

pub fault_after : (f : PmdFault) (arena : Numbers) (a b d : List Call) (v w x : Receive) → PlaysFrom arena a v b w
    → IsFault f arena b w d x → IsFault f arena a v d x
fault_after fault.BadSize arena a b d v w x plays is = is
fault_after fault.ForeignBlock arena a b d v w x plays is = is
fault_after fault.StartTimeout arena a b d v w x plays is = is
fault_after fault.NoBuffer arena a b d v w x plays is = is
fault_after fault.DeviceFault arena a b d v w x plays is = wrong_after arena a b d v w x plays is
fault_after (fault.Call refusal) arena a b d v w x plays is = is

-- Why calls fail, given arenas.
pub fails_of : (f : PmdFault) (old new : List Call) (a b : Numbers) (v w : Receive) → IsFault f a old v new w
    → FailsBy f old a v new b w
fails_of fault.BadSize old new a b v w is = is
fails_of fault.ForeignBlock old new a b v w is = is
fails_of fault.StartTimeout old new a b v w is = is
fails_of fault.NoBuffer old new a b v w is = absurd is
fails_of fault.DeviceFault old new a b v w is = is
fails_of (fault.Call refusal) old new a b v w is = is

-- Why a call fails after calls that left the ring and the records unchanged.
pub fails_after : (f : PmdFault) (old mid new : List Call) (a b : Numbers) (v w x : Receive) → PlaysFrom a old v mid w
    → w ≡ record v { seen = w.seen; stage = w.stage } → FailsBy f mid a w new b x → FailsBy f old a v new b x
fails_after fault.BadSize old mid new a b v w x plays l is = is
fails_after fault.ForeignBlock old mid new a b v w x plays l is = is
fails_after fault.StartTimeout old mid new a b v w x plays l is = is
fails_after fault.NoBuffer old mid new a b v w x plays l is = record {
  few = is.few;
  arena = is.arena;
  layout = is.layout ∙ ap (λ (y : Receive). y.layout) l;
  handed = is.handed ∙ ap (λ (y : Receive). y.handed) l;
  held = is.held ∙ ap (λ (y : Receive). y.held) l;
  whole = is.whole ∙ ap (λ (y : Receive). y.whole) l;
  named = is.named ∙ ap (λ (y : Receive). y.named) l;
}
fails_after fault.DeviceFault old mid new a b v w x plays l is = wrong_after a old mid new v w x plays is
fails_after (fault.Call refusal) old mid new a b v w x plays l is = is

-- An event possible with one arena is possible with another that has at least its free blocks.
asks_in : (a b : Numbers) (v : Receive) → ((n : ℕ) → is_free b n ≡ true → is_free a n ≡ true) → AsksNext b v
    → AsksNext a v
asks_in a b v all (e, own, free) = (e, own, free-in a b all true e free)

wrong_in : (a b : Numbers) (old new : List Call) (v w : Receive) → ((n : ℕ) → is_free b n ≡ true → is_free a n ≡ true)
    → EndsWrong b old v new w → EndsWrong a old v new w
wrong_in a b old new v w all (mid, e, r, on, own, free, adds, bad) =
    (mid, e, r, plays_in a b all old mid v w on, own, free-in a b all true e free, adds, bad)

pub fault_among : (f : PmdFault) (a b : Numbers) (old new : List Call) (v w : Receive)
    → ((n : ℕ) → is_free b n ≡ true → is_free a n ≡ true) → IsFault f b old v new w → IsFault f a old v new w
fault_among fault.BadSize a b old new v w all is = is
fault_among fault.ForeignBlock a b old new v w all is = is
fault_among fault.StartTimeout a b old new v w all is = is
fault_among fault.NoBuffer a b old new v w all is = is
fault_among fault.DeviceFault a b old new v w all is = wrong_in a b old new v w all is
fault_among (fault.Call refusal) a b old new v w all is = asks_in a b w all is

-- If enough blocks are free, a failure means a wrong reply or a refused call.
pub fault_of : (f : PmdFault) (old new : List Call) (a b : Numbers) (v w : Receive) → (f ≡ fault.NoBuffer → ⊥)
    → FailsBy f old a v new b w → IsFault f a old v new w
fault_of fault.BadSize old new a b v w enough is = is
fault_of fault.ForeignBlock old new a b v w enough is = is
fault_of fault.StartTimeout old new a b v w enough is = is
fault_of fault.NoBuffer old new a b v w enough is = absurd (enough refl)
fault_of fault.DeviceFault old new a b v w enough is = is
fault_of (fault.Call refusal) old new a b v w enough is = is

-- The same lemmas for a result that may have no fault.

pub fails_all : (o : Option PmdFault) (old new : List Call) (a b : Numbers) (v w : Receive)
    → IfSome o (λ f. IsFault f a old v new w) → IfSome o (λ f. FailsBy f old a v new b w)
fails_all None old new a b v w is = tt
fails_all (Some f) old new a b v w is = fails_of f old new a b v w is

pub fails_past : (o : Option PmdFault) (old mid new : List Call) (a b : Numbers) (v w x : Receive)
    → PlaysFrom a old v mid w → w ≡ record v { seen = w.seen; stage = w.stage }
    → IfSome o (λ f. FailsBy f mid a w new b x) → IfSome o (λ f. FailsBy f old a v new b x)
fails_past None old mid new a b v w x plays l is = tt
fails_past (Some f) old mid new a b v w x plays l is = fails_after f old mid new a b v w x plays l is

pub faults_of : (o : Option PmdFault) (old new : List Call) (a b : Numbers) (v w : Receive)
    → (o ≡ Some fault.NoBuffer → ⊥) → IfSome o (λ f. FailsBy f old a v new b w)
    → IfSome o (λ f. IsFault f a old v new w)
faults_of None old new a b v w enough is = tt
faults_of (Some f) old new a b v w enough is = fault_of f old new a b v w (λ same. enough (ap Some same)) is

-- A call that fails because of a wrong reply doesn't fail with `NoBuffer`.
pub never_short : (o : Option PmdFault) (a : Numbers) (old new : List Call) (v w : Receive)
    → IfSome o (λ f. IsFault f a old v new w) → o ≡ Some fault.NoBuffer → ⊥
never_short o a old new v w is short =
    subst (λ (p : Option PmdFault). IfSome p (λ f. IsFault f a old v new w)) short is

-- Two equal error results have equal faults.

pub err_same : {A E : Type 0} {x y : E} → (let r : Result A E = Err x in r) ≡ Err y → x ≡ y
err_same is = cc

pub err_of : {A : Type 0} (r : Result A PmdFault) {f : PmdFault} → fault_in r ≡ Some f → r ≡ Err f
err_of (Ok x) is = cc
err_of (Err g) is = cc
