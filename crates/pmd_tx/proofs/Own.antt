-- Lemmas about each move of a sending driver, given the calls made.
use Rattle.std.proofs.Common.{◌≡◌, ℕ, ◌+◌, ◌<◌, Bool, true, false, List, [], length, if◌then◌else◌, Some, None, refl, ap, ◌∙◌, subst, inl, inr}
use Rattle.pmd_access.specs.NicDevice.DmaArena.Block.{Block}
use Rattle.pmd_access.specs.NicDevice.declared.event.Event.TheVariants as event
use Rattle.pmd_access.specs.NicDevice.declared.event.Reply.TheVariants as reply
use Rattle.pmd_access.specs.DeviceLock.declared.entry.Call.{Call}
use Rattle.pmd_access.specs.DeviceLock.declared.fault.CallFault.{CallFault}
use Rattle.pmd_access.specs.Accesses.{IsLent, IsTaken, IsPoked, IsPeeked, IsWritten}
use Rattle.pmd_access.specs.Made.{Adds, AddsSome}
use Rattle.pmd_access.specs.declared.fault.PmdFault.TheVariants as fault
use Rattle.pmd_tx.specs.Acts.{Acts, Continues}
use Rattle.pmd_tx.specs.Plays.{LooksLast}
use Rattle.pmd_tx.specs.Sending.{Sender, Lends, Asks, Advances, Looks, Reaps, IsOwn, first_end, lent_more, asked, advanced, looked, reaped, is_sent, slot_at, descriptor_at}
use Rattle.pmd_tx.proofs.Acting.{acts_done, acts_refused, acts_sick, continues_done, continues_refused, continues_sick}
use Rattle.pmd_tx.proofs.Playing.{plays_none}

module _ (old new : List Call) (v : Sender) where
  -- Lemmas about lending the block of the next segment.

  module _ (b : Block) (own : IsOwn v Lends (event.Lend b)) where
    pub lend_done : {w : Sender} → IsLent old new b None → w ≡ lent_more v → Continues None old v new w
    lend_done made is =
        continues_done old new v Lends (event.Lend b) refl own (λ blocks. tt) reply.Done made is refl refl refl

    pub lend_fails : (back : Block) {w : Sender} → IsLent old new b (Some back) → w ≡ v
        → Continues (Some fault.DeviceFault) old v new w
    lend_fails back made is =
        continues_sick old new v Lends (event.Lend b) refl own (λ blocks. tt) (reply.Twice back) made refl refl is

    pub lend_refused : (f : CallFault (Unit {0})) {w : Sender} → AddsSome old new → w ≡ v
        → Continues (Some (fault.Call f)) old v new w
    lend_refused f some is =
        continues_refused old new v Lends (event.Lend b) refl own (λ blocks. tt) f some is

  -- Lemmas about writing a descriptor.

  module _ (a : ℕ) (bytes : List ℕ) (own : IsOwn v Asks (event.Poke16 a bytes)) where
    pub ask_done : {w : Sender} → IsPoked old new a bytes true → w ≡ asked v → Continues None old v new w
    ask_done made is =
        continues_done old new v Asks (event.Poke16 a bytes) refl own (λ blocks. tt) reply.Done made is refl refl refl

    pub ask_fails : IsPoked old new a bytes false → Continues (Some fault.DeviceFault) old v new v
    ask_fails (inl made) =
        continues_sick old new v Asks (event.Poke16 a bytes) refl own (λ blocks. tt) reply.NotLent made refl refl refl
    ask_fails (inr made) =
        continues_sick old new v Asks (event.Poke16 a bytes) refl own (λ blocks. tt) reply.Misaligned made refl refl
        refl

    pub ask_refused : (f : CallFault (Unit {0})) → AddsSome old new → Continues (Some (fault.Call f)) old v new v
    ask_refused f some =
        continues_refused old new v Asks (event.Poke16 a bytes) refl own (λ blocks. tt) f some refl

  -- Lemmas about advancing the tail.

  module _ (word : ℕ) (all : v.poked ≡ length v.outstanding) (some : v.posted < v.poked)
      (is : word ≡ slot_at v.layout v.poked)
    where
      tail_own : IsOwn v Advances (event.Write v.layout.port v.layout.tail word)
      tail_own = (all, some, refl, refl, is)

      pub tail_done : {w : Sender} → IsWritten old new v.layout.port v.layout.tail word true → w ≡ advanced v
          → Continues None old v new w
      tail_done made done =
          continues_done old new v Advances (event.Write v.layout.port v.layout.tail word) refl tail_own (λ blocks. tt)
          reply.Done made done refl refl refl

      pub tail_fails : IsWritten old new v.layout.port v.layout.tail word false
          → Continues (Some fault.DeviceFault) old v new v
      tail_fails (seen, made) =
          continues_sick old new v Advances (event.Write v.layout.port v.layout.tail word) refl tail_own (λ blocks. tt)
          (reply.Stray seen) made refl refl refl

      pub tail_refused : (f : CallFault (Unit {0})) → AddsSome old new → Continues (Some (fault.Call f)) old v new v
      tail_refused f more =
          continues_refused old new v Advances (event.Write v.layout.port v.layout.tail word) refl tail_own
          (λ blocks. tt) f more refl

  -- Lemmas about reading the descriptor that ends the oldest packet.

  module _ (a end : ℕ) (is_end : end ≡ first_end v.outstanding) (posted : end < v.posted)
      (at : a ≡ descriptor_at v.layout end)
    where
      look_own : IsOwn v Looks (event.Peek16 a)
      look_own = (rw (← is_end) posted, at ∙ ap (descriptor_at v.layout) is_end)

      pub look_done : {w : Sender} (d : List ℕ) → IsPeeked old new a (Some d) → w ≡ looked v d
          → Continues None old v new w
      look_done d made is =
          continues_done old new v Looks (event.Peek16 a) refl look_own (λ blocks. tt) (reply.Bytes d) made is refl refl
          refl

      pub look_waits : {w : Sender} (d : List ℕ) → IsPeeked old new a (Some d) → w ≡ looked v d
          → is_sent d ≡ false → LooksLast old v new w
      look_waits d made is waits = record {
        mid = old;
        before = v;
        bytes = d;
        plays = (plays_none [] old v).plays;
        looks = subst (λ (n : ℕ). Adds old new (event.Peek16 n) (reply.Bytes d)) look_own.1 made;
        waits = waits;
        posted = look_own.0;
        accepted = refl;
        left = is ∙ ap (λ (b : Bool). record v { done = if b then first_end v.outstanding + 1 else 0 }) waits;
      }

      pub look_fails : IsPeeked old new a None → Continues (Some fault.DeviceFault) old v new v
      look_fails (inl made) =
          continues_sick old new v Looks (event.Peek16 a) refl look_own (λ blocks. tt) reply.NotLent made refl refl refl
      look_fails (inr made) =
          continues_sick old new v Looks (event.Peek16 a) refl look_own (λ blocks. tt) reply.Misaligned made refl refl
          refl

      pub look_refused : (f : CallFault (Unit {0})) → AddsSome old new → Continues (Some (fault.Call f)) old v new v
      look_refused f some =
          continues_refused old new v Looks (event.Peek16 a) refl look_own (λ blocks. tt) f some refl

  -- Lemmas about taking the block of the oldest segment.

  module _ (n : ℕ) (own : IsOwn v Reaps (event.Take n)) where
    pub take_done : {w : Sender} (b : Block) → IsTaken old new n (Some b) → w ≡ reaped v → (blocks : List ℕ)
        → Acts blocks None old v new w
    take_done b made is =
        acts_done old new v Reaps (event.Take n) refl own (λ blocks. tt) (reply.Buf b) made is

    pub take_fails : IsTaken old new n None → (blocks : List ℕ) → Acts blocks (Some fault.DeviceFault) old v new v
    take_fails made =
        acts_sick old new v Reaps (event.Take n) refl own (λ blocks. tt) reply.NotLent made refl refl refl

    pub take_refused : (f : CallFault (Unit {0})) → AddsSome old new → (blocks : List ℕ)
        → Acts blocks (Some (fault.Call f)) old v new v
    take_refused f some =
        acts_refused old new v Reaps (event.Take n) refl own (λ blocks. tt) f some refl
