-- Lemmas about a look at the slot after those already seen.
use Rattle.std.proofs.Common.{◌≡◌, ℕ, ◌<◌, ◌+◌, ◌∙◌, List, length, Option, Some, None, IfSome, Result, Ok, Err, IfOk, IfErr, OnErr, refl, sym, ap, subst, inl, inr, arith}
use Rattle.std.specs.Prelude.{[]}
use Rattle.std.proofs.lemmas.List.{length_push, nil_from_length}
use Rattle.pmd_access.specs.NicDevice.declared.event.Event.TheVariants as event
use Rattle.pmd_access.specs.NicDevice.declared.event.Reply.TheVariants as reply
use Rattle.pmd_access.specs.NicDevice.DmaArena.Numbers.{Numbers}
use Rattle.pmd_access.specs.DeviceLock.declared.entry.Call.{Call}
use Rattle.pmd_access.specs.Accesses.{IsPeeked}
use Rattle.pmd_access.specs.Asks.{fault_in}
use Rattle.pmd_access.specs.declared.fault.PmdFault.{PmdFault}
use Rattle.pmd_access.specs.declared.packet.Packet.{Packet}
use Rattle.pmd_access.specs.declared.fault.PmdFault.TheVariants as fault
use Rattle.pmd_rx.specs.Plays.{PlaysFrom, LooksInVain}
use Rattle.pmd_rx.specs.Receive.{Receive, IsOwn, looked, reported_by, descriptor_at, no_packet}
use Rattle.pmd_rx.specs.Shown.{IsLook, LooksOnce, LooksAtPart, LooksAtWrong, IsRefused}
use Rattle.pmd_rx.specs.Wrong.{AsksNext, EndsWrong, IsFault}
use Rattle.pmd_rx.specs.declared.receive.Look.{Look}
use Rattle.pmd_rx.specs.declared.receive.Look.TheVariants as look
use Rattle.pmd_rx.specs.declared.ring.Stage.{Stage}
use Rattle.pmd_rx.specs.declared.ring.Stage.TheVariants.{Looks}
use Rattle.pmd_rx.specs.Keeping.{Keeps, IsRunning, IsDuring, vacated, numbers_of_all}
use Rattle.pmd_rx.proofs.Failing.{wrong_here}
use Rattle.pmd_rx.proofs.Keeping.{held_count, keeps_none, keeps_to, look_keeps}
use Rattle.pmd_rx.proofs.Playing.{plays_adds, plays_some}

-- The state after a look.
looked_part : (v : Receive) (old new : List Call) (w : Receive) → (p : LooksAtPart old v new w)
    → looked v p.bytes ≡ w
looked_part v old new w p = rw (p.done, p.part, p.left) refl

looked_once : (v : Receive) (old new : List Call) (w : Receive) → (p : LooksOnce old v new w)
    → looked v p.bytes ≡ w
looked_once v old new w p = rw (p.waits, p.left) refl

module _ (arena : Numbers) (old new : List Call) (v : Receive) (can : v.stage ≡ Looks)
    (some : length v.seen < length v.layout.blocks) where
  own : IsOwn v (event.Peek16 (descriptor_at v.layout (length v.seen)))
  own = record { stage = can; address = refl; posted = some }

  pub look_asks : AsksNext arena v
  look_asks = (event.Peek16 (descriptor_at v.layout (length v.seen)), own, tt)

  read_plays : (d : List ℕ) (w : Receive) → IsPeeked old new (descriptor_at v.layout (length v.seen)) (Some d)
      → looked v d ≡ w → PlaysFrom arena old v new w
  read_plays d w made is =
      subst (PlaysFrom arena old v new) is
      (plays_adds arena old new v (event.Peek16 (descriptor_at v.layout (length v.seen))) (reply.Bytes d) own tt made)

  misses : IsPeeked old new (descriptor_at v.layout (length v.seen)) None → PlaysFrom arena old v new v
  misses (inl adds) =
      plays_adds arena old new v (event.Peek16 (descriptor_at v.layout (length v.seen))) reply.NotLent own tt adds
  misses (inr adds) =
      plays_adds arena old new v (event.Peek16 (descriptor_at v.layout (length v.seen))) reply.Misaligned own tt adds

  wrong_plays : (o : Option (List ℕ)) (w : Receive) → (p : LooksAtWrong old v new w) → p.bytes ≡ o
      → PlaysFrom arena old v new w
  wrong_plays (Some d) w p is =
      let bad = rw is at p.wrong in
      read_plays d w (rw is at p.made) (rw (bad.0, bad.1, p.left) refl)
  wrong_plays None w p is = rw p.left (misses (rw is at p.made))

  pub look_plays : (l : Look) (w : Receive) → IsLook l old v new w → PlaysFrom arena old v new w
  look_plays look.Nothing w p = read_plays p.bytes w p.made (looked_once v old new w p)
  look_plays look.Part w p = read_plays p.bytes w p.made (looked_part v old new w p)
  look_plays look.Wrong w p = wrong_plays p.bytes w p refl

  misses_wrong : IsPeeked old new (descriptor_at v.layout (length v.seen)) None → EndsWrong arena old v new v
  misses_wrong (inl adds) =
      wrong_here arena old new v (event.Peek16 (descriptor_at v.layout (length v.seen))) reply.NotLent own tt adds refl
  misses_wrong (inr adds) =
      wrong_here arena old new v (event.Peek16 (descriptor_at v.layout (length v.seen))) reply.Misaligned own tt adds
      refl

  ends_wrong : (o : Option (List ℕ)) (w : Receive) → (p : LooksAtWrong old v new w) → p.bytes ≡ o
      → EndsWrong arena old v new v
  ends_wrong (Some d) w p is =
      let bad = rw is at p.wrong in
      wrong_here arena old new v (event.Peek16 (descriptor_at v.layout (length v.seen))) (reply.Bytes d) own tt
      (rw is at p.made) (rw (bad.0, bad.1) refl)
  ends_wrong None w p is = misses_wrong (rw is at p.made)

  pub look_wrong : (w : Receive) → LooksAtWrong old v new w → EndsWrong arena old v new w
  look_wrong w p = subst (EndsWrong arena old v new) (sym p.left) (ends_wrong p.bytes w p refl)

  pub look_refused : (f : PmdFault) (w : Receive) → IsRefused f old new → w ≡ v → PlaysFrom arena old v new w
  look_refused (fault.Call refusal) w some same = rw same (plays_some arena old new v some)
  look_refused fault.DeviceFault w some same = absurd some
  look_refused fault.BadSize w some same = absurd some
  look_refused fault.ForeignBlock w some same = absurd some
  look_refused fault.StartTimeout w some same = absurd some
  look_refused fault.NoBuffer w some same = absurd some

  pub refused_fault : (f : PmdFault) (w : Receive) → IsRefused f old new → w ≡ v → IsFault f arena old v new w
  refused_fault (fault.Call refusal) w some same = rw same look_asks
  refused_fault fault.DeviceFault w some same = absurd some
  refused_fault fault.BadSize w some same = absurd some
  refused_fault fault.ForeignBlock w some same = absurd some
  refused_fault fault.StartTimeout w some same = absurd some
  refused_fault fault.NoBuffer w some same = absurd some

-- A look changes only what is seen and the stage.
pub look_kept : (l : Look) (old new : List Call) (v w : Receive) → IsLook l old v new w
    → w ≡ record v { seen = w.seen; stage = w.stage }
look_kept look.Nothing old new v w p = rw p.left refl
look_kept look.Part old new v w p = rw p.left refl
look_kept look.Wrong old new v w p = rw p.left refl

pub one_more : (old new : List Call) (v w : Receive) → LooksAtPart old v new w → length w.seen ≡ length v.seen + 1
one_more old new v w p = rw p.left (length_push v.seen (reported_by p.bytes))

-- What a look preserves and how it changes the state, given its result.

pub looks_play : (a : Numbers) (r : Result Look PmdFault) (old new : List Call) (v w : Receive) → v.stage ≡ Looks
    → length v.seen < length v.layout.blocks → IfOk r (λ l. IsLook l old v new w) → OnErr r (w ≡ v)
    → IfErr r (λ f. IsRefused f old new) → PlaysFrom a old v new w
looks_play a (Ok l) old new v w can some looked same refused = look_plays a old new v can some l w looked
looks_play a (Err f) old new v w can some looked same refused = look_refused a old new v can some f w refused same

pub looks_fail : (a : Numbers) (r : Result Look PmdFault) (old new : List Call) (v w : Receive) → v.stage ≡ Looks
    → length v.seen < length v.layout.blocks → OnErr r (w ≡ v) → IfErr r (λ f. IsRefused f old new)
    → IfSome (fault_in r) (λ f. IsFault f a old v new w)
looks_fail a (Ok l) old new v w can some same refused = tt
looks_fail a (Err f) old new v w can some same refused = refused_fault a old new v can some f w refused same

pub looks_keep : (a : Numbers) (r : Result Look PmdFault) (old new : List Call) (v w : Receive) → v.stage ≡ Looks
    → IfOk r (λ l. IsLook l old v new w) → OnErr r (w ≡ v) → Keeps a v a w []
looks_keep a (Ok l) old new v w can looked same = look_keeps a l old new v w can looked
looks_keep a (Err f) old new v w can looked same = keeps_to a a v v w [] same (keeps_none a v)

pub looks_same : (r : Result Look PmdFault) (old new : List Call) (v w : Receive)
    → IfOk r (λ l. IsLook l old v new w) → OnErr r (w ≡ v) → w ≡ record v { seen = w.seen; stage = w.stage }
looks_same (Ok l) old new v w looked same = look_kept l old new v w looked
looks_same (Err f) old new v w looked same = rw same refl

-- If a running driver looks, holds nothing and has no complete packet, it has named nothing and has a slot to look at.

pub none_named : (v : Receive) → IsRunning v → v.stage ≡ Looks → v.held ≡ no_packet → v.whole ≡ [] → length v.named ≡ 0
none_named v runs looks holds none =
    omega (
      arith,
      runs.replaced,
      held_count v,
      ap (λ (ps : List Packet). length (numbers_of_all ps)) none,
      ap (λ (p : Packet). length p.bufs) holds,
    )

pub posted_more : (v : Receive) → IsRunning v → v.stage ≡ Looks → v.held ≡ no_packet → v.whole ≡ []
    → length v.seen < length v.layout.blocks
posted_more v runs looks holds none =
    let during : length v.seen < v.layout.most = subst (λ (s : Stage). IsDuring v s) looks runs.stage in
    omega (
      arith,
      during,
      runs.full,
      runs.some,
      ap (λ (s : Stage). vacated s) looks,
      none_named v runs looks holds none,
    )

pub looks_vainly : (old mid new : List Call) (v w x : Receive) → PlaysFrom (record { first = 0; free = [] }) old v mid w
    → w ≡ record v { seen = w.seen; stage = w.stage } → v.stage ≡ Looks → w.stage ≡ Looks → IsRunning w
    → w.held ≡ no_packet → w.whole ≡ [] → LooksOnce mid w new x → LooksInVain old v new x
looks_vainly old mid new v w x plays kept from looks runs none whole once =
    let same : LooksInVain old v new w = record {
      mid = mid;
      looks = plays.plays;
      bytes = once.bytes;
      last = once.made;
      waits = once.waits;
      stage = looks;
      posted = posted_more w runs looks none whole;
      holds_none = none;
      none_whole = whole;
      none_named = nil_from_length w.named (none_named w runs looks none whole);
      left = kept ∙ ap (λ (s : Stage). let y : Receive = record v { seen = w.seen; stage = s } in y) (looks ∙ sym from);
    } in
    subst (LooksInVain old v new) (sym once.left) same

pub kept_both : (v w x : Receive) → w ≡ record v { seen = w.seen; stage = w.stage }
    → x ≡ record w { seen = x.seen; stage = x.stage } → x ≡ record v { seen = x.seen; stage = x.stage }
kept_both v w x first then =
    then ∙ ap (λ (y : Receive). let z : Receive = record y { seen = x.seen; stage = x.stage } in z) first
