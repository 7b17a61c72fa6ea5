-- Lemmas about the count of a driver's blocks after receiving, making or releasing a packet.
use Rattle.std.proofs.Common.{◌≡◌, ℕ, ◌&&◌, not, true, List, [], ◌++◌, Option, Some, None, Result, Ok, Err, OnOk, refl, ap, subst, sym, arith}
use Rattle.std.specs.List.{list_any}
use Rattle.std.proofs.lemmas.Bool.Decides.{nat_tests}
use Rattle.pmd_access.specs.NicDevice.DmaArena.Numbers.{Numbers}
use Rattle.pmd_access.specs.NicDevice.DmaArena.Whereabouts.{times_in_hand}
use Rattle.pmd_access.specs.Bufs.{numbers_of, with_all_free}
use Rattle.pmd_access.specs.Fresh.{IsFresh}
use Rattle.pmd_access.specs.Home.{AreOut}
use Rattle.pmd_access.specs.declared.packet.Packet.{Packet}
use Rattle.pmd_access.proofs.Outside.{times-append}
use Rattle.pmd_access.proofs.Outside.{all_drawn as drawn_out}
use Rattle.pmd_rx.specs.Keeping.{Keeps, blocks_held, blocks_out, lent_of, numbers_in}
use Rattle.pmd_tx.specs.Leaving as transmit
use Rattle.pmd_tx.specs.Sending.{Sender}
use Rattle.pmd_tx.specs.Sends.{are_out}
use Rattle.pmd_driver.specs.Halted.{Halted, all_out, is_out}
use Rattle.pmd_driver.specs.Blocks.{KeepsBlocks, KeepsEach, KeepsUp}
use Rattle.pmd_driver.specs.Driver.{halted_of}
use Rattle.pmd_driver.specs.Running.{Running, kept_out, rings_out}
use Rattle.pmd_driver.specs.declared.driver.Rings.TheVariants.{Up, Down}
use Rattle.pmd_driver.proofs.Kept.{kept_parted}
use Rattle.pmd_driver.proofs.Several.{all_given, all_joined, away_by, uncounted}
use Rattle.pmd_driver.proofs.Whole.{keeps_counted, all_drawn, all_exchanged}

-- A running driver has the same blocks in use whether they are counted for each ring or as for a driver that isn't
-- running.
pub up_out : (r : Running) (n : ℕ)
    → times_in_hand (all_out (halted_of (Up r))) n ≡ times_in_hand (rings_out r) n
up_out r n =
    let lent : List ℕ = lent_of r.receive in
    let held : List ℕ = blocks_held r.receive in
    let sent : List ℕ = transmit.lent_of r.transmit in
    let waiting : List ℕ = transmit.waiting_of r.transmit in
    omega (
      arith,
      kept_parted r.transmit n,
      times-append (lent ++ held) (kept_out r.transmit) n,
      times-append lent held n,
      times-append (lent ++ sent) (held ++ waiting) n,
      times-append lent sent n,
      times-append held waiting n,
    )

pub up_kept : (r s : Running) (given back : List ℕ) → KeepsUp r given s back → KeepsBlocks (Up r) given (Up s) back
up_kept r s given back keeps = record {
  owns = keeps.owns;
  each = λ n. omega (
    arith,
    keeps.each n,
    up_out r n,
    up_out s n,
    times-append (all_out (halted_of (Up r))) given n,
    times-append (all_out (halted_of (Up s))) back n,
    times-append (rings_out r) given n,
    times-append (rings_out s) back n,
  );
}

-- A call made by the receive half keeps the count of each block; the blocks of packets handed out are in hand
-- afterwards.
pub received_kept : (r s : Running) (out : List ℕ) → Keeps r.arena r.receive s.arena s.receive out
    → s.transmit ≡ r.transmit → KeepsUp r [] s out
received_kept r s out keeps same =
    let kept : List ℕ = kept_out r.transmit in
    let all = all_exchanged r.arena (blocks_out r.receive) s.arena (out ++ blocks_out s.receive) keeps.arena in
    record {
      owns = all.owns;
      each = λ n. omega (
        arith,
        all.each n,
        ap (λ (v : Sender). times_in_hand (kept_out v) n) same,
        times-append out (blocks_out s.receive) n,
        times-append (rings_out s) out n,
        times-append (blocks_out s.receive) (kept_out s.transmit) n,
        times-append (rings_out r) [] n,
        times-append (blocks_out r.receive) kept n,
      );
    }

-- Making a packet from free blocks keeps the count of each block; the packet's blocks are in hand afterwards.
pub fresh_kept : (a b : Numbers) (out : List ℕ) (len : ℕ) (made : Option Packet) → IsFresh a len made b
    → KeepsEach a (out ++ []) b (out ++ numbers_in made)
fresh_kept a b out len None is =
    subst (λ (x : Numbers). KeepsEach a (out ++ []) x (out ++ [])) (sym is)
    (record { owns = λ n. refl; each = λ n. refl })
fresh_kept a b out len (Some p) (draws, is) =
    let ns : List ℕ = numbers_of p.bufs in
    keeps_counted a b (out ++ []) (ns ++ (out ++ [])) (out ++ ns)
    (λ k. omega (arith, times-append out ns k, times-append out [] k, times-append ns (out ++ []) k))
    (all_drawn a ns b (out ++ []) draws.drawn)

pub fresh_out : (a b : Numbers) (out : List ℕ) (len : ℕ) (made : Option Packet) → IsFresh a len made b → AreOut a out
    → AreOut b out
fresh_out a b out len None is are = subst (λ (x : Numbers). AreOut x out) (sym is) are
fresh_out a b out len (Some p) (draws, is) are =
    drawn_out a (numbers_of p.bufs) b out out draws.drawn are
    (λ k. omega (arith, times-append (numbers_of p.bufs) out k))

-- Releasing a packet keeps the count of each block; the packet's blocks are free afterwards.
pub released_kept : (a : Numbers) (out ns : List ℕ) → AreOut a (ns ++ out)
    → KeepsEach a (out ++ ns) (with_all_free a ns) (out ++ [])
released_kept a out ns are =
    let given = all_given a ns out are in
    record {
      owns = given.owns;
      each = λ k. omega (
        arith,
        given.each k,
        times-append ns out k,
        times-append out ns k,
        times-append out [] k,
      );
    }

-- For a driver that isn't running, making and releasing a packet keep the count of each block.

pub fresh_down : (h k : Halted) (len : ℕ) (made : Option Packet) → IsFresh h.arena len made k.arena
    → k ≡ record h { arena = k.arena } → KeepsBlocks (Down h) [] (Down k) (numbers_in made)
fresh_down h k len made is rest =
    subst (λ (x : List ℕ). KeepsEach h.arena (all_out h ++ []) k.arena (x ++ numbers_in made)) (sym (ap all_out rest))
    (fresh_kept h.arena k.arena (all_out h) len made is)

-- If a driver that isn't running can release a packet, `AreOut` holds for the packet's blocks and the driver's blocks
-- together.
pub down_out : (h : Halted) (ns : List ℕ) → AreOut h.arena (all_out h)
    → (are_out h.arena ns && not (list_any (λ n. is_out h n) ns)) ≡ true → AreOut h.arena (ns ++ all_out h)
down_out h ns out goes =
    all_joined h.arena (all_out h) ns (grind (arith, nat_tests, goes))
    (away_by _ (all_out h) ns (λ n is. uncounted (times_in_hand (all_out h) n) is) (grind (arith, nat_tests, goes))) out

-- Weakens the property of a successful result.
pub ok_later : {U E : Type 0} {P Q : Type 0} (r : Result U E) → (P → Q) → OnOk r P → OnOk r Q
ok_later (Ok u) step p = step p
ok_later (Err e) step p = tt
