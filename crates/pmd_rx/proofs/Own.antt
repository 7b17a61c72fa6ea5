-- Proves that the calls that take a part's block and post a fresh block are the driver's own.
use Rattle.std.proofs.Common.{◌≡◌, ◌<◌, ◌∙◌, ℕ, true, List, length, Some, None, IfSome, Result, Ok, Err, IfErr, OnOk, OnErr, refl, sym, subst, inl, inr}
use Rattle.pmd_access.specs.NicDevice.DmaArena.Block.{Block}
use Rattle.pmd_access.specs.NicDevice.DmaArena.Numbers.{Numbers, is_free}
use Rattle.pmd_access.specs.NicDevice.declared.event.Event.{Event}
use Rattle.pmd_access.specs.NicDevice.declared.event.Event.TheVariants as event
use Rattle.pmd_access.specs.NicDevice.declared.event.Reply.TheVariants as reply
use Rattle.pmd_access.specs.DeviceLock.declared.entry.Call.{Call}
use Rattle.pmd_access.specs.Accesses.{IsTaken, IsLent}
use Rattle.pmd_access.specs.Asks.{fault_in}
use Rattle.pmd_access.specs.declared.fault.PmdFault.{PmdFault}
use Rattle.pmd_access.specs.declared.fault.PmdFault.TheVariants as fault
use Rattle.pmd_rx.specs.Plays.{PlaysFrom}
use Rattle.pmd_rx.specs.Receive.{Receive, IsOwn, TakesNext, block_at, LendsNext, MovesNext, HasLent, took, lent_one, names, moved, tail_after, descriptor_at, vacant, reach, naming, fresh_of}
use Rattle.pmd_rx.specs.Shown.{IsNamed, IsUnnamed, IsTailWritten, IsUnwritten}
use Rattle.pmd_rx.specs.Wrong.{AsksNext, EndsWrong, IsFault}
use Rattle.pmd_rx.specs.declared.ring.Stage.TheVariants.{Takes}
use Rattle.pmd_rx.proofs.Failing.{wrong_here}
use Rattle.pmd_rx.proofs.Playing.{plays_adds, plays_some}

pub takes_own : (v : Receive) (n m : ℕ) → v.stage ≡ Takes → 0 < length v.seen → n ≡ m → m ≡ block_at v.layout 0
    → TakesNext v n
takes_own v n m stage some same block = record { stage = stage; block = same ∙ block; some = some }

module _ (arena : Numbers) (v : Receive) where
  pub take_asks : (n : ℕ) → TakesNext v n → AsksNext arena v
  take_asks n own = (event.Take n, own, tt)

  pub lend_asks : (b : Block) → LendsNext v b → is_free arena b.number ≡ true → AsksNext arena v
  lend_asks b own free = (event.Lend b, own, free)

module _ (arena : Numbers) (old new : List Call) (v : Receive) where
  pub take_plays : (w : Receive) (n : ℕ) (b : Block) → TakesNext v n → IsTaken old new n (Some b)
      → w ≡ took v v.seen b → PlaysFrom arena old v new w
  take_plays w n b own made took =
      subst (PlaysFrom arena old v new) (sym took)
      (plays_adds arena old new v (event.Take n) (reply.Buf b) own tt made)

  pub take_misses : (n : ℕ) → TakesNext v n → IsTaken old new n None → PlaysFrom arena old v new v
  take_misses n own made = plays_adds arena old new v (event.Take n) reply.NotLent own tt made

  pub take_wrong : (n : ℕ) → TakesNext v n → IsTaken old new n None → EndsWrong arena old v new v
  take_wrong n own made = wrong_here arena old new v (event.Take n) reply.NotLent own tt made refl

  pub lend_plays : (w : Receive) (b : Block) → LendsNext v b → is_free arena b.number ≡ true
      → IsLent old new b None → w ≡ lent_one v b.number → PlaysFrom arena old v new w
  lend_plays w b own free made lent =
      subst (PlaysFrom arena old v new) (sym lent)
      (plays_adds arena old new v (event.Lend b) reply.Done own free made)

  pub lend_misses : (b back : Block) → LendsNext v b → is_free arena b.number ≡ true → IsLent old new b (Some back)
      → PlaysFrom arena old v new v
  lend_misses b back own free made = plays_adds arena old new v (event.Lend b) (reply.Twice back) own free made

  pub lend_wrong : (b back : Block) → LendsNext v b → is_free arena b.number ≡ true → IsLent old new b (Some back)
      → EndsWrong arena old v new v
  lend_wrong b back own free made = wrong_here arena old new v (event.Lend b) (reply.Twice back) own free made refl

-- The lent block is named.
module _ (arena : Numbers) (old new : List Call) (v : Receive) (lent : HasLent v.stage) where
  abbrev named_event : Event Block
  named_event = event.Poke16 (descriptor_at v.layout (vacant (reach v))) (naming (fresh_of v.stage))

  named_own : IsOwn v named_event
  named_own = record { stage = lent; address = refl; bytes_are = refl }

  unnamed_plays : (f : PmdFault) → IsUnnamed f old new v → PlaysFrom arena old v new v
  unnamed_plays fault.DeviceFault (inl made) = plays_adds arena old new v named_event reply.NotLent named_own tt made
  unnamed_plays fault.DeviceFault (inr made) = plays_adds arena old new v named_event reply.Misaligned named_own tt made
  unnamed_plays (fault.Call refusal) some = plays_some arena old new v some
  unnamed_plays fault.BadSize not = absurd not
  unnamed_plays fault.ForeignBlock not = absurd not
  unnamed_plays fault.StartTimeout not = absurd not
  unnamed_plays fault.NoBuffer not = absurd not

  unnamed_fault : (f : PmdFault) → IsUnnamed f old new v → IsFault f arena old v new v
  unnamed_fault fault.DeviceFault (inl made) =
      wrong_here arena old new v named_event reply.NotLent named_own tt made refl
  unnamed_fault fault.DeviceFault (inr made) =
      wrong_here arena old new v named_event reply.Misaligned named_own tt made refl
  unnamed_fault (fault.Call refusal) some = (named_event, named_own, tt)
  unnamed_fault fault.BadSize not = not
  unnamed_fault fault.ForeignBlock not = not
  unnamed_fault fault.StartTimeout not = not
  unnamed_fault fault.NoBuffer not = not

  pub name_plays : (r : Result Unit PmdFault) (w : Receive) → OnOk r (IsNamed old new v true) → OnOk r (w ≡ names v)
      → OnErr r (w ≡ v) → IfErr r (λ f. IsUnnamed f old new v) → PlaysFrom arena old v new w
  name_plays (Ok o) w made is same failed =
      subst (PlaysFrom arena old v new) (sym is) (plays_adds arena old new v named_event reply.Done named_own tt made)
  name_plays (Err f) w made is same failed =
      subst (PlaysFrom arena old v new) (sym same) (unnamed_plays f failed)

  pub name_fails : (r : Result Unit PmdFault) (w : Receive) → OnErr r (w ≡ v)
      → IfErr r (λ f. IsUnnamed f old new v) → IfSome (fault_in r) (λ f. IsFault f arena old v new w)
  name_fails (Ok o) w same failed = tt
  name_fails (Err f) w same failed =
      subst (λ (x : Receive). IsFault f arena old v new x) (sym same) (unnamed_fault f failed)

-- The tail advances by `more` slots.
module _ (arena : Numbers) (old new : List Call) (v : Receive) (more : ℕ)
    (own : MovesNext v v.layout.port v.layout.tail (tail_after v.layout more)) where
  abbrev tail_event : Event Block
  tail_event = event.Write v.layout.port v.layout.tail (tail_after v.layout more)

  pub tail_plays : (w : Receive) → moved v (tail_after v.layout more) ≡ w → IsTailWritten old new v.layout more true
      → PlaysFrom arena old v new w
  tail_plays w is made =
      subst (PlaysFrom arena old v new) is (plays_adds arena old new v tail_event reply.Done own tt made)

  pub unmoved_plays : (f : PmdFault) → IsUnwritten f old new v.layout more → PlaysFrom arena old v new v
  unmoved_plays fault.DeviceFault (seen, adds) = plays_adds arena old new v tail_event (reply.Stray seen) own tt adds
  unmoved_plays (fault.Call refusal) some = plays_some arena old new v some
  unmoved_plays fault.BadSize not = absurd not
  unmoved_plays fault.ForeignBlock not = absurd not
  unmoved_plays fault.StartTimeout not = absurd not
  unmoved_plays fault.NoBuffer not = absurd not

  pub unmoved_fault : (f : PmdFault) → IsUnwritten f old new v.layout more → IsFault f arena old v new v
  unmoved_fault fault.DeviceFault (seen, adds) =
      wrong_here arena old new v tail_event (reply.Stray seen) own tt adds refl
  unmoved_fault (fault.Call refusal) some = (tail_event, own, tt)
  unmoved_fault fault.BadSize not = not
  unmoved_fault fault.ForeignBlock not = not
  unmoved_fault fault.StartTimeout not = not
  unmoved_fault fault.NoBuffer not = not
