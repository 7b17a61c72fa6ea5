-- Lemmas about the blocks that a transmit ring keeps, lent or in hand.
use Rattle.std.proofs.Common.{◌≡◌, ℕ, zero, suc, ◌+◌, ◌==◌, nat_lt, Bool, true, false, List, ◌++◌, take, drop, refl, sym, ap, ◌∙◌, arith}
use Rattle.std.specs.List.{list_any}
use Rattle.std.proofs.lemmas.Bool.{or_from}
use Rattle.std.proofs.lemmas.Bool.Decides.{nat_tests}
use Rattle.std.proofs.lemmas.List.{map-append, take-append-drop}
use Rattle.pmd_access.specs.NicDevice.DmaArena.Whereabouts.{times_in_hand}
use Rattle.pmd_access.specs.Bufs.{numbers_of}
use Rattle.pmd_access.specs.Home.{AreOut}
use Rattle.pmd_access.specs.Slots.{is_ring_block, ring_blocks}
use Rattle.pmd_access.specs.declared.packet.Packet.{Packet}
use Rattle.pmd_access.proofs.Outside.{times-append}
use Rattle.pmd_access.proofs.Rings.{ring_block_among, times_among}
use Rattle.pmd_rx.specs.Keeping.{blocks_out}
use Rattle.pmd_tx.specs.Leaving.{lent_of, waiting_of}
use Rattle.pmd_tx.specs.Sending.{Sender, Segment, blocks_of, has_lent, keeps}
use Rattle.pmd_tx.specs.Sends.{are_out, goes_home}
use Rattle.pmd_driver.specs.Running.{Running, IsUp, kept_out, receives, rings_out}
use Rattle.pmd_driver.proofs.Several.{all_joined, away_both, away_by, neither, none_among, uncounted}

-- If a test is true exactly when a count isn't 0, the test is equal to the comparison of the count with 0.
is_tested : (b : Bool) (t : ℕ) → (b ≡ false → t ≡ 0) → (t ≡ 0 → b ≡ false) → b ≡ nat_lt 0 t
is_tested true zero f g = absurd (let e : true ≡ false = g refl in cc)
is_tested true (suc t) f g = grind (arith, nat_tests)
is_tested false zero f g = refl
is_tested false (suc t) f g = absurd (omega (arith, f refl))

module _ (v : Sender) (n : ℕ) where
  abbrev ends : List ℕ
  ends = ring_blocks v.layout.ring v.layout.size

  abbrev blocks : List ℕ
  blocks = blocks_of v.outstanding

  abbrev lent : List ℕ
  lent = blocks_of (take v.lent v.outstanding)

  abbrev waiting : List ℕ
  waiting = blocks_of (drop v.lent v.outstanding)

  -- Each block is lent or is waiting to be lent.
  parted : times_in_hand blocks n ≡ times_in_hand lent n + times_in_hand waiting n
  parted =
      let all : lent ++ waiting ≡ blocks =
      sym (map-append (λ (s : Segment). s.block) (take v.lent v.outstanding) (drop v.lent v.outstanding))
      ∙ ap (λ (l : List Segment). blocks_of l) (take-append-drop v.lent v.outstanding) in
      omega (arith, times-append lent waiting n, ap (λ (l : List ℕ). times_in_hand l n) all)

  pub kept_parted : times_in_hand (kept_out v) n ≡ times_in_hand (lent_of v) n + times_in_hand (waiting_of v) n
  kept_parted = omega (arith, times-append blocks ends n, times-append lent ends n, parted)

  -- If `keeps` is false for a block, the block isn't among those that the ring keeps.
  pub none_kept : keeps v n ≡ false → times_in_hand (kept_out v) n ≡ 0
  none_kept away =
      let both = neither (is_ring_block v.layout.ring v.layout.size n) (list_any (λ b. n == b) blocks) away in
      let ring : list_any (λ b. n == b) ends ≡ false = ring_block_among v.layout.ring v.layout.size n ∙ both.0 in
      omega (arith, times-append blocks ends n, none_among blocks n both.1, none_among ends n ring)

  ring_away : times_in_hand ends n ≡ 0 → is_ring_block v.layout.ring v.layout.size n ≡ false
  ring_away none = sym (ring_block_among v.layout.ring v.layout.size n) ∙ times_among ends n none

  pub away_lent : times_in_hand (kept_out v) n ≡ 0 → has_lent v n ≡ false
  away_lent none =
      let parts = times-append blocks ends n in
      or_from (is_ring_block v.layout.ring v.layout.size n) (list_any (λ b. n == b) lent)
      (ring_away (omega (arith, none, parts)))
      (times_among lent n (omega (arith, none, parts, parted)))

  pub away_kept : times_in_hand (kept_out v) n ≡ 0 → keeps v n ≡ false
  away_kept none =
      let parts = times-append blocks ends n in
      or_from (is_ring_block v.layout.ring v.layout.size n) (list_any (λ b. n == b) blocks)
      (ring_away (omega (arith, none, parts)))
      (times_among blocks n (omega (arith, none, parts)))

  -- `keeps` is true for exactly the blocks that are lent or waiting.
  pub keeps_is : keeps v n ≡ nat_lt 0 (times_in_hand (lent_of v ++ waiting_of v) n)
  keeps_is =
      let all = times-append (lent_of v) (waiting_of v) n in
      is_tested (keeps v n) (times_in_hand (lent_of v ++ waiting_of v) n)
      (λ away. omega (arith, none_kept away, kept_parted, all))
      (λ none. away_kept (omega (arith, none, kept_parted, all)))

-- If a packet can be released, `AreOut` holds for its blocks and the rings' blocks together.

pub home_goes : (r : Running) (p : Packet) → IsUp r → goes_home r.transmit r.arena p ≡ true → receives r p ≡ false
    → AreOut r.arena (numbers_of p.bufs ++ rings_out r)
home_goes r p up home elsewhere =
    let out : are_out r.arena (numbers_of p.bufs) ≡ true = grind (arith, nat_tests, home) in
    let unkept : list_any (λ n. keeps r.transmit n) (numbers_of p.bufs) ≡ false = grind (arith, nat_tests, home) in
    all_joined r.arena (rings_out r) (numbers_of p.bufs) out
    (away_both (blocks_out r.receive) (kept_out r.transmit) (numbers_of p.bufs)
    (away_by _ (blocks_out r.receive) (numbers_of p.bufs)
    (λ n is. uncounted (times_in_hand (blocks_out r.receive) n) is) elsewhere)
    (away_by _ (kept_out r.transmit) (numbers_of p.bufs) (λ n is. none_kept r.transmit n is) unkept))
    up.home
