-- Lemmas about where a driver's blocks are after a packet is sent, and after packets are reaped.
use Rattle.std.proofs.Common.{◌≡◌, ℕ, ◌+◌, ◌<◌, ◌≤◌, ◌*◌, ◌&&◌, not, if◌then◌else◌, Bool, true, false, cond, All, List, [], ◌++◌, length, take, drop, Option, Some, None, Result, Ok, Err, IfSome, IfNone, IfOk, OnErr, refl, sym, ap, subst, ◌∙◌, arith}
use Rattle.std.proofs.lemmas.Bool.Decides.{nat_tests}
use Rattle.std.proofs.lemmas.List.{drop-map, take-append-drop}
use Rattle.pmd_access.specs.NicDevice.DmaArena.Block.{Block, IsBlock}
use Rattle.pmd_access.specs.NicDevice.DmaArena.Numbers.{Numbers, is_own, is_free}
use Rattle.pmd_access.specs.NicDevice.DmaArena.Whereabouts.{times_in_hand}
use Rattle.pmd_access.specs.Bufs.{numbers_of, with_all_free}
use Rattle.pmd_access.specs.Home.{AreOut}
use Rattle.pmd_access.specs.declared.fault.PmdFault.{PmdFault}
use Rattle.pmd_access.specs.declared.packet.Packet.{Packet}
use Rattle.pmd_access.specs.Slots.{ring_blocks}
use Rattle.pmd_access.proofs.Outside.{times-append, out_fewer}
use Rattle.pmd_rx.specs.Keeping.{blocks_out, numbers_in}
use Rattle.pmd_rx.specs.Receive.{Receive}
use Rattle.pmd_tx.specs.Sending.{Sender, Layout, Segment, blocks_of, parts_for}
use Rattle.pmd_tx.specs.Sends.{Frees, FreesSome, gate_of, goes_home, is_bad_size, is_full, returned, IsAnswer, IsAccepted, IsNoneAccepted, IsShut, SendsHome}
use Rattle.pmd_tx.specs.declared.answer.Reaped.{Reaped}
use Rattle.pmd_tx.specs.declared.answer.TxAnswer.{TxAnswer}
use Rattle.pmd_tx.specs.declared.answer.TxFault.{TxFault}
use Rattle.pmd_driver.specs.Apart.{OwnsSame}
use Rattle.pmd_driver.specs.Blocks.{KeepsUp}
use Rattle.pmd_driver.specs.Running.{Running, IsUp, kept_out, receives, rings_out}
use Rattle.pmd_driver.proofs.Blocks.{first_out, second_out}
use Rattle.pmd_driver.proofs.Kept.{home_goes}
use Rattle.pmd_driver.proofs.Placed.{blocks_accepted}
use Rattle.pmd_driver.proofs.Several.{all_given, all_own_same, out_all_given}

-- A packet is accepted: the ring keeps the packet's blocks, but returns those that contain none of its bytes to the
-- arena.

module _ (r s : Running) (p : Packet) (out : AreOut r.arena (numbers_of p.bufs ++ rings_out r))
    (placed : blocks_of s.transmit.outstanding
    ≡ blocks_of r.transmit.outstanding ++ take (parts_for p.len) (numbers_of p.bufs))
    (layout : s.transmit.layout ≡ r.transmit.layout)
    (home : s.arena ≡ with_all_free r.arena (drop (parts_for p.len) (numbers_of p.bufs)))
    (receive : s.receive ≡ r.receive)
  where
    abbrev ns : List ℕ
    ns = numbers_of p.bufs

    abbrev kept : List ℕ
    kept = take (parts_for p.len) ns

    abbrev over : List ℕ
    over = drop (parts_for p.len) ns

    abbrev ends : List ℕ
    ends = ring_blocks r.transmit.layout.ring r.transmit.layout.size

    parts : (n : ℕ) → times_in_hand ns n ≡ times_in_hand kept n + times_in_hand over n
    parts n =
        omega (
          arith,
          times-append kept over n,
          ap (λ (l : List ℕ). times_in_hand l n) (take-append-drop (parts_for p.len) ns),
        )

    -- Which blocks are in use afterwards, counted.
    now : (n : ℕ) → times_in_hand (rings_out s) n ≡ times_in_hand (kept ++ rings_out r) n
    now n =
        omega (
          arith,
          times-append (blocks_out s.receive) (kept_out s.transmit) n,
          times-append (blocks_of s.transmit.outstanding)
              (ring_blocks s.transmit.layout.ring s.transmit.layout.size) n,
          ap (λ (l : Layout). times_in_hand (ring_blocks l.ring l.size) n) layout,
          ap (λ (l : List ℕ). times_in_hand l n) placed,
          times-append (blocks_of r.transmit.outstanding) kept n,
          ap (λ (v : Receive). times_in_hand (blocks_out v) n) receive,
          times-append kept (rings_out r) n,
          times-append (blocks_out r.receive) (kept_out r.transmit) n,
          times-append (blocks_of r.transmit.outstanding) ends n,
        )

    before : AreOut r.arena (over ++ (kept ++ rings_out r))
    before =
        out_fewer r.arena (ns ++ rings_out r) (over ++ (kept ++ rings_out r)) out
        (λ k. omega (
          arith,
          times-append ns (rings_out r) k,
          times-append over (kept ++ rings_out r) k,
          times-append kept (rings_out r) k,
          parts k,
        ))

    pub accepted_up : IsUp r → IsUp s
    accepted_up up = record {
      home = out_fewer s.arena (kept ++ rings_out r) (rings_out s)
          (subst (λ (a : Numbers). AreOut a (kept ++ rings_out r)) (sym home)
          (out_all_given r.arena over (kept ++ rings_out r) before))
          (λ k. omega (arith, now k));
      filled = rw receive up.filled;
      some = subst (λ (n : ℕ). 0 < n) (sym (ap (λ (l : Layout). l.size) layout)) up.some;
    }

    pub accepted_kept : KeepsUp r ns s []
    accepted_kept =
        let given = all_given r.arena over (kept ++ rings_out r) before in
        record {
          owns = λ n. ap (λ (x : Numbers). is_own x n) home ∙ given.owns n;
          each = λ n. omega (
            arith,
            ap {B = ℕ} (λ (x : Numbers). cond (is_free x n) 1 0) home,
            given.each n,
            now n,
            parts n,
            times-append over (kept ++ rings_out r) n,
            times-append kept (rings_out r) n,
            times-append (rings_out r) ns n,
            times-append (rings_out s) [] n,
          );
        }

-- If no packet was accepted, the driver has the same blocks in use as before.

module _ (r s : Running) (none : IsNoneAccepted r.transmit s.transmit)
    (layout : s.transmit.layout ≡ r.transmit.layout) (arena : s.arena ≡ r.arena) (receive : s.receive ≡ r.receive)
  where
    same_out : (n : ℕ) → times_in_hand (rings_out s) n ≡ times_in_hand (rings_out r) n
    same_out n =
        omega (
          arith,
          times-append (blocks_out s.receive) (kept_out s.transmit) n,
          times-append (blocks_of s.transmit.outstanding)
              (ring_blocks s.transmit.layout.ring s.transmit.layout.size) n,
          ap (λ (l : Layout). times_in_hand (ring_blocks l.ring l.size) n) layout,
          ap (λ (l : List Segment). times_in_hand (blocks_of l) n) none.outstanding,
          ap (λ (v : Receive). times_in_hand (blocks_out v) n) receive,
          times-append (blocks_out r.receive) (kept_out r.transmit) n,
          times-append (blocks_of r.transmit.outstanding)
              (ring_blocks r.transmit.layout.ring r.transmit.layout.size) n,
        )

    pub still_up : IsUp r → IsUp s
    still_up up = record {
      home = out_fewer s.arena (rings_out r) (rings_out s)
          (subst (λ (a : Numbers). AreOut a (rings_out r)) (sym arena) up.home) (λ k. omega (arith, same_out k));
      filled = rw receive up.filled;
      some = subst (λ (n : ℕ). 0 < n) (sym (ap (λ (l : Layout). l.size) layout)) up.some;
    }

    pub still_kept : (given back : List ℕ) → back ≡ given → KeepsUp r given s back
    still_kept given back is = record {
      owns = λ n. ap (λ (x : Numbers). is_own x n) arena;
      each = λ n. omega (
        arith,
        ap {B = ℕ} (λ (x : Numbers). cond (is_free x n) 1 0) arena,
        same_out n,
        ap (λ (l : List ℕ). times_in_hand l n) is,
        times-append (rings_out s) back n,
        times-append (rings_out r) given n,
      );
    }

-- Proves a property of the result of a packet's check from each case of its tests.

pub by_gate : {G : Type 0} (F : G → Type 0) (T : Type 0) (bad full wide foreign : G) (is_bad is_home is_full : Bool)
    → (F bad → T) → (F full → T) → (F wide → T) → (F foreign → T)
    → F (if is_bad then bad else if is_home then (if is_full then full else wide) else foreign) → T
by_gate F T bad full wide foreign true home is_full first second third last f = first f
by_gate F T bad full wide foreign false true true first second third last f = second f
by_gate F T bad full wide foreign false true false first second third last f = third f
by_gate F T bad full wide foreign false false is_full first second third last f = last f

by_open : {G : Type 0} (F : G → Type 0) (bad full wide foreign : G) (is_bad is_home is_full : Bool)
    → (F bad → ⊥) → (F full → ⊥) → (F foreign → ⊥)
    → F (if is_bad then bad else if is_home then (if is_full then full else wide) else foreign)
    → (is_bad ≡ false) × (is_home ≡ true)
by_open F bad full wide foreign true home is_full first second last f = absurd (first f)
by_open F bad full wide foreign false true true first second last f = absurd (second f)
by_open F bad full wide foreign false true false first second last f = (refl, refl)
by_open F bad full wide foreign false false is_full first second last f = absurd (last f)

-- If no packet is returned, it passed the check.

pub back_none : (p : Packet) (o : Option Packet) → o ≡ Some p → o ≡ None → ⊥
back_none p o is none = let e : Some p ≡ None = sym is ∙ none in cc

pub open_way : (v : Sender) (a : Numbers) (elsewhere : Bool) (p : Packet) (x : Result TxAnswer TxFault)
    → IsAnswer (gate_of v a elsewhere p) p x → returned x ≡ None
    → (is_bad_size v p ≡ false) × ((goes_home v a p && not elsewhere) ≡ true)
open_way v a elsewhere p x answer none =
    by_open (λ g. IsAnswer g p x) _ _ _ _ (is_bad_size v p) (goes_home v a p && not elsewhere) (is_full v p)
    (λ e. back_none p (returned x) (ap returned e) none) (λ e. back_none p (returned x) (ap returned e) none)
    (λ e. back_none p (returned x) (ap returned e) none) answer

pub way_out : (r : Running) (p : Packet) → IsUp r → (goes_home r.transmit r.arena p && not (receives r p)) ≡ true
    → AreOut r.arena (numbers_of p.bufs ++ rings_out r)
way_out r p up goes = home_goes r p up (grind (arith, nat_tests, goes)) (grind (arith, nat_tests, goes))

-- If the packet didn't pass the check, no block was returned to the arena.

gave_all : (p : Packet) (x y : Result TxAnswer TxFault) (a b : Numbers) → x ≡ y → SendsHome (returned x) p a b
    → SendsHome (returned y) p a b
gave_all p x y a b is home = subst (λ (z : Result TxAnswer TxFault). SendsHome (returned z) p a b) is home

pub shut_home : (v : Sender) (a : Numbers) (elsewhere : Bool) (p : Packet) (x : Result TxAnswer TxFault) (b : Numbers)
    → IsAnswer (gate_of v a elsewhere p) p x → IsShut (gate_of v a elsewhere p) → SendsHome (returned x) p a b → b ≡ a
shut_home v a elsewhere p x b answer shut home =
    by_gate (λ g. IsAnswer g p x × IsShut g) (b ≡ a) _ _ _ _ (is_bad_size v p) (goes_home v a p && not elsewhere)
    (is_full v p)
    (λ e. gave_all p x _ a b e.0 home) (λ e. gave_all p x _ a b e.0 home) (λ e. absurd e.1)
    (λ e. gave_all p x _ a b e.0 home) (answer, shut)

pub home_owns : (o : Option Packet) (p : Packet) (a b : Numbers) → SendsHome o p a b → OwnsSame a b
home_owns None p a b home n =
    ap (λ (x : Numbers). is_own x n) home ∙ all_own_same a (drop (parts_for p.len) (numbers_of p.bufs)) n
home_owns (Some back) p a b home n = ap (λ (x : Numbers). is_own x n) home

-- What a call that sends a packet does to the driver's blocks.

module _ (r s : Running) (p : Packet) (x : Result TxAnswer TxFault)
    (answer : IsAnswer (gate_of r.transmit r.arena (receives r p) p) p x)
    (whole : All (λ (b : Block). IsBlock b) p.bufs) (layout : s.transmit.layout ≡ r.transmit.layout)
    (receive : s.receive ≡ r.receive) (up : IsUp r)
  where
    fits : is_bad_size r.transmit p ≡ false → (0 < p.len) × (p.len ≤ 2048 * length p.bufs)
    fits good = (grind (arith, nat_tests, good), grind (arith, nat_tests, good))

    pub by_return : (o : Option Packet) → returned x ≡ o → IfNone o (IsAccepted r.transmit p s.transmit)
        → IfSome o (λ back. IsNoneAccepted r.transmit s.transmit) → SendsHome o p r.arena s.arena
        → IfSome o (λ (q : Packet). numbers_of q.bufs ≡ numbers_of p.bufs)
        → IsUp s × KeepsUp r (numbers_of p.bufs) s (numbers_in o)
    by_return None is accepted kept home same =
        let way = open_way r.transmit r.arena (receives r p) p x answer is in
        let fit = fits way.0 in
        let out = way_out r p up way.1 in
        let placed = blocks_accepted p whole fit.0 fit.1 r.transmit s.transmit accepted in (
          accepted_up r s p out placed layout home receive up,
          accepted_kept r s p out placed layout home receive,
        )
    by_return (Some q) is accepted kept home same = (
      still_up r s kept layout home receive up,
      still_kept r s kept layout home receive (numbers_of p.bufs) (numbers_of q.bufs) same,
    )

-- What a call that reaps packets does to the driver's blocks.

pub outstanding_out : (r : Running) → IsUp r → AreOut r.arena (blocks_of r.transmit.outstanding)
outstanding_out r up =
    first_out r.arena (blocks_of r.transmit.outstanding) (ring_blocks r.transmit.layout.ring r.transmit.layout.size)
    (second_out r.arena (blocks_out r.receive) (kept_out r.transmit) up.home)

module _ (r s : Running) (count packets : ℕ) (frees : Frees r.transmit s.transmit r.arena s.arena count packets)
    (layout : s.transmit.layout ≡ record r.transmit.layout { next = s.transmit.layout.next })
    (receive : s.receive ≡ r.receive)
  where
    abbrev blocks : List ℕ
    blocks = blocks_of r.transmit.outstanding

    abbrev ring : List ℕ
    ring = ring_blocks r.transmit.layout.ring r.transmit.layout.size

    abbrev others : List ℕ
    others = drop count blocks ++ (ring ++ blocks_out r.receive)

    reaped_from : (n : ℕ) → times_in_hand (take count blocks ++ others) n ≡ times_in_hand (rings_out r) n
    reaped_from n = omega (
      arith,
      times-append (take count blocks) others n,
      times-append (drop count blocks) (ring ++ blocks_out r.receive) n,
      times-append ring (blocks_out r.receive) n,
      times-append (blocks_out r.receive) (kept_out r.transmit) n,
      times-append blocks ring n,
      times-append (take count blocks) (drop count blocks) n,
      ap (λ (l : List ℕ). times_in_hand l n) (take-append-drop count blocks),
    )

    left : blocks_of s.transmit.outstanding ≡ drop count blocks
    left =
        ap (λ (l : List Segment). blocks_of l) frees.left
        ∙ sym (drop-map (λ (o : Segment). o.block) count r.transmit.outstanding)

    reaped_to : (n : ℕ) → times_in_hand (rings_out s) n ≡ times_in_hand others n
    reaped_to n = omega (
      arith,
      times-append (drop count blocks) (ring ++ blocks_out r.receive) n,
      times-append ring (blocks_out r.receive) n,
      times-append (blocks_out s.receive) (kept_out s.transmit) n,
      times-append (blocks_of s.transmit.outstanding)
          (ring_blocks s.transmit.layout.ring s.transmit.layout.size) n,
      ap (λ (l : List ℕ). times_in_hand l n) left,
      ap (λ (l : Layout). times_in_hand (ring_blocks l.ring l.size) n) layout,
      ap (λ (v : Receive). times_in_hand (blocks_out v) n) receive,
    )

    out_first : IsUp r → AreOut r.arena (take count blocks ++ others)
    out_first up =
        out_fewer r.arena (rings_out r) (take count blocks ++ others) up.home (λ n. omega (arith, reaped_from n))

    pub reaped_up : IsUp r → IsUp s
    reaped_up up = record {
      home = out_fewer s.arena others (rings_out s)
          (subst (λ (a : Numbers). AreOut a others) (sym frees.home)
          (out_all_given r.arena (take count blocks) others (out_first up)))
          (λ k. omega (arith, reaped_to k));
      filled = rw receive up.filled;
      some = subst (λ (n : ℕ). 0 < n) (sym (ap (λ (l : Layout). l.size) layout)) up.some;
    }

    pub reaped_kept : IsUp r → KeepsUp r [] s []
    reaped_kept up =
        let given = all_given r.arena (take count blocks) others (out_first up) in
        record {
          owns = λ n. ap (λ (x : Numbers). is_own x n) frees.home ∙ given.owns n;
          each = λ n. omega (
            arith,
            ap {B = ℕ} (λ (x : Numbers). cond (is_free x n) 1 0) frees.home,
            given.each n,
            reaped_from n,
            reaped_to n,
            times-append (rings_out r) [] n,
            times-append (rings_out s) [] n,
          );
        }

    pub freed_owns : OwnsSame r.arena s.arena
    freed_owns k =
        ap (λ (a : Numbers). is_own a k) frees.home ∙ all_own_same r.arena (take count blocks) k

-- Some segments were reaped, with or without a fault.
pub some_freed : (x : Result Reaped PmdFault) (v w : Sender) (a b : Numbers)
    → IfOk x (λ done. FreesSome v w a b done.freed) → OnErr x ((packets : ℕ) × FreesSome v w a b packets)
    → (packets : ℕ) × FreesSome v w a b packets
some_freed (Ok done) v w a b freed some = (done.freed, freed)
some_freed (Err f) v w a b freed some = some
