-- Lemmas: a call made by one half is a driver call, and lends only the driver's own blocks.
use Rattle.std.proofs.Common.{◌≡◌, ℕ, ◌≤◌, true, false, List, [], ◌∷◌, ◌++◌, refl, ◌∙◌, subst, arith}
use Rattle.pmd_access.specs.NicDevice.DmaArena.Numbers.{is_own, is_free}
use Rattle.pmd_access.specs.NicDevice.DmaArena.Whereabouts.{times_in_hand}
use Rattle.pmd_access.proofs.NicDevice.DmaArena.Arenas.{is_own-of_free}
use Rattle.pmd_access.specs.DeviceLock.Alone.{Blocks}
use Rattle.pmd_access.specs.DeviceLock.declared.entry.Call.{Call}
use Rattle.pmd_access.specs.Home.{AreOut}
use Rattle.pmd_access.specs.Slots.{ring_blocks}
use Rattle.pmd_access.proofs.Outside.{times-cons, times-append, out_fewer, out_first, out_free}
use Rattle.pmd_access.proofs.Rings.{times_among}
use Rattle.pmd_rx.specs.Keeping as receiving
use Rattle.pmd_rx.specs.Keeping.{Keeps, blocks_out}
use Rattle.pmd_rx.specs.Plays as receive
use Rattle.pmd_rx.specs.Receive.{Receive}
use Rattle.pmd_tx.specs.Plays as transmit
use Rattle.pmd_tx.specs.Sending.{blocks_of}
use Rattle.pmd_driver.specs.Apart.{MayLend, DrivesApart, DrivesRings, OwnsSame}
use Rattle.pmd_driver.specs.Halves.{Receives, halves_of}
use Rattle.pmd_driver.specs.Running.{Running, IsUp, kept_out, rings_out}
use Rattle.pmd_driver.proofs.Apart.{AllMaySend, OutstandingMay, apart_none, apart_on, receiving_apart, sending_apart}
use Rattle.pmd_driver.proofs.Kept.{away_lent}
use Rattle.pmd_driver.proofs.Whole.{all_exchanged}

-- The receive half may lend each block that is free in the arena.

pub free_may : (q : Running) → IsUp q → (n : ℕ) → is_free q.arena n ≡ true
    → MayLend (is_own q.arena) (halves_of q) Receives n
free_may q up n free =
    let none = out_free q.arena (rings_out q) n up.home free in (
      is_own-of_free q.arena n free,
      away_lent q.transmit n
          (omega (arith, none, times-append (blocks_out q.receive) (kept_out q.transmit) n)),
    )

away_received : (v : Receive) (n : ℕ) → times_in_hand (blocks_out v) n ≡ 0 → receiving.has_lent v n ≡ false
away_received v n none =
    times_among (receiving.lent_of v) n
    (omega (arith, none, times-append (receiving.lent_of v) (receiving.blocks_held v) n))

-- The transmit half may lend blocks that are in use but not by the receive half.
pub beside_may : (q : Running) (ns others : List ℕ) → AreOut q.arena (ns ++ others)
    → ((n : ℕ) → times_in_hand (blocks_out q.receive) n ≤ times_in_hand others n)
    → AllMaySend (is_own q.arena) q.receive ns
beside_may q [] others out within = tt
beside_may q (n ∷ ns) others out within =
    let first = out_first q.arena (ns ++ others) n out in (
      (first.0, away_received q.receive n (omega (arith, first.2, times-append ns others n, within n))),
      beside_may q ns others
          (out_fewer q.arena (n ∷ (ns ++ others)) (ns ++ others) out
          (λ k. omega (arith, times-cons n (ns ++ others) k)))
          within,
    )

pub outstanding_may : (q : Running) → IsUp q → OutstandingMay (is_own q.arena) (halves_of q)
outstanding_may q up =
    let blocks : List ℕ = blocks_of q.transmit.outstanding in
    let ends : List ℕ = ring_blocks q.transmit.layout.ring q.transmit.layout.size in
    let out : List ℕ = blocks_out q.receive in
    beside_may q blocks (ends ++ out)
    (out_fewer q.arena (rings_out q) (blocks ++ (ends ++ out)) up.home
    (λ k. omega (
      arith,
      times-append out (blocks ++ ends) k,
      times-append blocks ends k,
      times-append blocks (ends ++ out) k,
      times-append ends out k,
    )))
    (λ n. omega (arith, times-append ends out n))

pub packet_may : (q : Running) (ns : List ℕ) → AreOut q.arena (ns ++ rings_out q)
    → AllMaySend (is_own q.arena) q.receive ns
packet_may q ns out =
    beside_may q ns (rings_out q) out
    (λ n. omega (arith, times-append (blocks_out q.receive) (kept_out q.transmit) n))

-- Calls that the receive half makes while the transmit half is unchanged are calls of the driver.

pub receive_drives : (old new : List Call) (q s : Running) (out : List ℕ) → IsUp q
    → receive.PlaysFrom q.arena old q.receive new s.receive → Keeps q.arena q.receive s.arena s.receive out
    → s.transmit ≡ q.transmit → DrivesRings old q new s
receive_drives old new q s out up plays keeps same = record {
  apart = receiving_apart (is_own q.arena) q.arena old new (halves_of q) (halves_of s) (free_may q up) plays same;
  owns = (all_exchanged q.arena (blocks_out q.receive) s.arena (out ++ blocks_out s.receive) keeps.arena).owns;
}

pub transmit_drives : (old new : List Call) (blocks : List ℕ) (q s : Running) → IsUp q
    → AllMaySend (is_own q.arena) q.receive blocks → transmit.PlaysWith blocks old q.transmit new s.transmit
    → OwnsSame q.arena s.arena → s.receive ≡ q.receive → DrivesRings old q new s
transmit_drives old new blocks q s up may plays owns same = record {
  apart = sending_apart (is_own q.arena) blocks old new (halves_of q) (halves_of s) may (outstanding_may q up) plays
      same;
  owns = owns;
}

-- `DrivesRings` holds if no call was made. If it holds for each of two sequences of calls, it holds for one followed by
-- the other.

pub rings_still : (made : List Call) (r : Running) → DrivesRings made r made r
rings_still made r = record { apart = apart_none (is_own r.arena) made (halves_of r); owns = λ n. refl }

pub rings_on : (old mid new : List Call) (r s t : Running) → DrivesRings old r mid s → DrivesRings mid s new t
    → DrivesRings old r new t
rings_on old mid new r s t one two = record {
  apart = apart_on (is_own r.arena) old mid new (halves_of r) (halves_of s) (halves_of t) one.apart
      (subst (λ (own : Blocks). DrivesApart own mid (halves_of s) new (halves_of t)) (λ i n. one.owns n i) two.apart);
  owns = λ n. two.owns n ∙ one.owns n;
}
