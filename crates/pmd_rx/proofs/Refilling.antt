-- Lemmas about what the steps of a refill preserve.
use Rattle.std.proofs.Common.{◌≡◌, ℕ, ◌+◌, ◌<◌, true, false, List, [], ◌∷◌, length, Result, Ok, Err, OnOk, OnErr, refl, ap, arith}
use Rattle.std.proofs.lemmas.List.{length_push, length-append, length-map}
use Rattle.pmd_access.specs.NicDevice.DmaArena.Block.{Block}
use Rattle.pmd_access.specs.NicDevice.DmaArena.Numbers.{Numbers, is_free, with_free}
use Rattle.pmd_access.specs.NicDevice.DmaArena.Whereabouts.{times_in_hand}
use Rattle.pmd_access.specs.Bufs.{numbers_of}
use Rattle.pmd_access.specs.declared.packet.Packet.{Packet}
use Rattle.pmd_access.proofs.Outside.{times-append, times-cons}
use Rattle.pmd_rx.specs.Keeping.{Keeps, IsRunning, IsDuring, vacated, fresh_block, blocks_out, numbers_of_all}
use Rattle.pmd_rx.specs.Receive.{Receive, reach, lent_one, names, ended_of, left_of, next_stage, fresh_of, CanLend, HasLent}
use Rattle.pmd_rx.specs.declared.ring.Stage.{Stage}
use Rattle.pmd_rx.specs.declared.ring.Stage.TheVariants.{Looks, Takes, Owes, Lent}
use Rattle.pmd_rx.specs.declared.ring.Reported.{Reported}
use Rattle.pmd_rx.proofs.Keeping.{times_out, held_count, same_ring, keeps_none, keeps_to}
use Rattle.pmd_rx.proofs.Lists.{all-append}

-- What each stage implies.

lend_fresh : (s : Stage) (seen : List Reported) → CanLend s seen → fresh_block s ≡ []
lend_fresh Looks seen can = refl
lend_fresh Takes seen can = absurd can
lend_fresh Owes seen can = refl
lend_fresh (Lent b) seen can = absurd can

lend_during : (v : Receive) (s : Stage) → CanLend s v.seen → length (reach v).blocks + 1 < v.layout.size
    → length v.layout.blocks + length v.named + vacated s + 1 ≡ v.layout.size → IsDuring v s
    → (vacated s ≡ 1) × (0 < length v.held.bufs)
lend_during v Looks can room full during =
    absurd (omega (arith, full, room, length-append v.layout.blocks v.named))
lend_during v Takes can room full during = absurd can
lend_during v Owes can room full during = (refl, during)
lend_during v (Lent b) can room full during = absurd can

lent_block : (s : Stage) → HasLent s → fresh_block s ≡ fresh_of s ∷ []
lent_block Looks lent = absurd lent
lent_block Takes lent = absurd lent
lent_block Owes lent = absurd lent
lent_block (Lent b) lent = refl

lent_during : (v : Receive) (s : Stage) → HasLent s → IsDuring v s → (vacated s ≡ 1) × (0 < length v.held.bufs)
lent_during v Looks lent during = absurd lent
lent_during v Takes lent during = absurd lent
lent_during v Owes lent during = absurd lent
lent_during v (Lent b) lent during = (refl, during)

-- A fresh block is lent.

pub lent_keeps : (a : Numbers) (v : Receive) (n : ℕ) → CanLend v.stage v.seen → is_free a n ≡ true
    → length (reach v).blocks + 1 < v.layout.size → Keeps a v (with_free a n false) (lent_one v n) []
lent_keeps a v n can free room = record {
  arena = (
    n ∷ [],
    (free, refl),
    λ k. omega (
      arith,
      times_out v k,
      times_out (lent_one v n) k,
      ap (λ (ns : List ℕ). times_in_hand ns k) (lend_fresh v.stage v.seen can),
      times-cons n (blocks_out v) k,
    ),
  );
  ring = same_ring v.layout;
  running = λ runs.
      let here = lend_during v v.stage can room runs.full runs.stage in
      record {
        part = runs.part;
        some = runs.some;
        full = omega (arith, runs.full, here.0);
        replaced = omega (arith, runs.replaced, here.0);
        stage = here.1;
      };
}

-- After the fresh block is named, the packet being held is complete or still held.

ended_times : (seen : List Reported) (bs : List Block) (p : Packet) (k : ℕ) → p.bufs ≡ bs
    → times_in_hand (numbers_of p.bufs) k
    ≡ times_in_hand (numbers_of_all (ended_of seen p)) k + times_in_hand (numbers_of (left_of seen p).bufs) k
ended_times (t ∷ seen) bs p k is = omega arith
ended_times [] [] p k is = rw is refl
ended_times [] (b ∷ bs) p k is = rw is (omega (arith, times-append (numbers_of (b ∷ bs)) [] k))

ended_count : (seen : List Reported) (bs : List Block) (p : Packet) → p.bufs ≡ bs
    → length p.bufs ≡ length (numbers_of_all (ended_of seen p)) + length (left_of seen p).bufs
ended_count (t ∷ seen) bs p is = omega arith
ended_count [] [] p is = rw is refl
ended_count [] (b ∷ bs) p is =
    rw is (omega (
      arith,
      length-append (numbers_of (b ∷ bs)) [],
      length-map (b ∷ bs) (λ (x : Block). x.number),
    ))

next_during : (v : Receive) (seen : List Reported) → v.seen ≡ seen → IsRunning v → IsDuring (names v) (next_stage seen)
next_during v [] is runs = omega (arith, ap (λ (ts : List Reported). length ts) is, runs.part)
next_during v (t ∷ seen) is runs = omega (arith, ap (λ (ts : List Reported). length ts) is)

next_fresh : (seen : List Reported) → (fresh_block (next_stage seen) ≡ []) × (vacated (next_stage seen) ≡ 0)
next_fresh [] = (refl, refl)
next_fresh (t ∷ seen) = (refl, refl)

pub names_keeps : (a : Numbers) (v : Receive) → HasLent v.stage → Keeps a v a (names v) []
names_keeps a v lent =
    let w = names v in
    let ended = ended_of v.seen v.held in
    record {
      arena = (
        [],
        refl,
        λ k. omega (
          arith,
          times_out v k,
          times_out w k,
          times-append v.named (fresh_of v.stage ∷ []) k,
          times-append (numbers_of_all v.whole) (numbers_of_all ended) k,
          ap (λ (ns : List ℕ). times_in_hand ns k) (all-append v.whole ended),
          ended_times v.seen v.held.bufs v.held k refl,
          ap (λ (ns : List ℕ). times_in_hand ns k) (lent_block v.stage lent),
          ap (λ (ns : List ℕ). times_in_hand ns k) (next_fresh v.seen).0,
        ),
      );
      ring = same_ring v.layout;
      running = λ runs.
          let here = lent_during v v.stage lent runs.stage in
          record {
            part = runs.part;
            some = runs.some;
            full = omega (
              arith,
              runs.full,
              here.0,
              (next_fresh v.seen).1,
              length_push v.named (fresh_of v.stage),
            );
            replaced = omega (
              arith,
              runs.replaced,
              here.0,
              (next_fresh v.seen).1,
              length_push v.named (fresh_of v.stage),
              held_count v,
              held_count w,
              ap (λ (ns : List ℕ). length ns) (all-append v.whole ended),
              length-append (numbers_of_all v.whole) (numbers_of_all ended),
              ended_count v.seen v.held.bufs v.held refl,
            );
            stage = next_during v v.seen refl runs;
          };
    }

pub name_keeps : {E : Type 0} (a : Numbers) (r : Result Unit E) (v w : Receive) → HasLent v.stage
    → OnOk r (w ≡ names v) → OnErr r (w ≡ v) → Keeps a v a w []
name_keeps a (Ok o) v w lent is same = keeps_to a a v (names v) w [] is (names_keeps a v lent)
name_keeps a (Err f) v w lent is same = keeps_to a a v v w [] same (keeps_none a v)
