-- Which frames are accepted, and for which pool.
use Rattle.std.proofs.Common.{◌≡◌, ℕ, ◌+◌, ◌*◌, ◌/◌, ◌%◌, ◌^◌, ◌<◌, ◌==◌, Bool, true, false, cond, ◌&&◌, ◌⊎◌, ◌↔◌, List, Some, ap, sym, ◌∙◌, subst, inl, inr, arith, lit<}
use Rattle.std.specs.Prelude.{slice_index}
use Rattle.std.proofs.lemmas.Bool.{cases_Bool, both_ways, eqb-true, eq-eqb, ne_eqb, false_from_ne_true}
use Rattle.reg_table.specs.declared.rows.RowId.TheVariants as row
use Rattle.rx_filter.specs.Address.{destination_low, destination_high, matches, is_broadcast, is_multicast, passes}
use Rattle.rx_filter.specs.Laws as law
use Rattle.rx_filter.specs.Pools.{selects}
use Rattle.rx_filter.proofs.Broadcast.{broadcast_ones, broadcast_in}
use Rattle.rx_filter.proofs.Filtered.{filtered}
use Rattle.rx_filter.proofs.Multicast.{multicast_in}
use Rattle.rx_filter.proofs.Queues.{pool_of_a_frame}
use Rattle.rx_filter.proofs.Tests.{both_hold, both_right, both_true}
use Rattle.rx_filter.proofs.Unicast.{unicast_in}
use Rattle.datasheet_laws.specs.NumberPrelude.{Registers, has_bit, word_of}
use Rattle.datasheet_laws.specs.ByAddress.{word, holds}
use Rattle.datasheet_laws.specs.Filter.{vector_of, IsAddress, IsAddressedBy, IsAddressed, IsListed, IsLetIn, FramesAreLetIn, IsFirst, has_pool, ChoosesPools, PoolsAreChosen}
use Rattle.datasheet_laws.proofs.ByAddress.{word-at}

-- A frame is accepted if it passes.
let_in : (r : Registers) (frame : List ℕ) → IsLetIn r frame ↔ (passes r frame ≡ true)
let_in r frame = (
  λ in_it. elim (cases_Bool (passes r frame)) [
    | inl t ↦ t
    | inr f ↦ absurd (in_it ((filtered r frame).1 f))
  ],
  λ passed refused. both_ways (passes r frame) ((filtered r frame).0 refused) passed,
)

-- The bytes of an address.
module _ (low high : ℕ) (frame : List ℕ) (bytes : (k : ℕ) → slice_index frame k < 256) where
  is_it : Bool
  is_it = has_bit 31 high && low == destination_low frame && high % 2 ^ 16 == destination_high frame

  to_bytes : is_it ≡ true → IsAddress low high frame
  unfolding is_it
  to_bytes e =
      let b0 = bytes 0 in
      let b1 = bytes 1 in
      let b2 = bytes 2 in
      let b3 = bytes 3 in
      let b4 = bytes 4 in
      let b5 = bytes 5 in
      let both = both_true (has_bit 31 high && low == destination_low frame) _ e in
      let lows : low ≡ destination_low frame = eqb-true _ _ (both_right (has_bit 31 high) _ both) in
      let highs : high % 2 ^ 16 ≡ destination_high frame =
      eqb-true _ _ (both_right (has_bit 31 high && low == destination_low frame) _ e) in
      record {
        valid = both_true (has_bit 31 high) _ both;
        first = omega (arith, lows, b0, b1, b2, b3);
        second = omega (arith, lows, b0, b1, b2, b3);
        third = omega (arith, lows, b0, b1, b2, b3);
        fourth = omega (arith, lows, b0, b1, b2, b3);
        fifth = omega (arith, highs, b4, b5);
        sixth = omega (arith, highs, b4, b5);
      }

  from_bytes : IsAddress low high frame → is_it ≡ true
  unfolding is_it
  from_bytes a =
      let f0 = a.first in
      let f1 = a.second in
      let f2 = a.third in
      let f3 = a.fourth in
      let f4 = a.fifth in
      let f5 = a.sixth in
      let lows : low ≡ destination_low frame = omega (arith, f0, f1, f2, f3) in
      let highs : high % 2 ^ 16 ≡ destination_high frame = omega (arith, f4, f5) in
      both_hold (has_bit 31 high && low == destination_low frame) _
      (both_hold (has_bit 31 high) _ a.valid (eq-eqb low _ lows)) (eq-eqb (high % 2 ^ 16) _ highs)

module _ (r : Registers) (frame : List ℕ) (bytes : (k : ℕ) → slice_index frame k < 256) where
  low_word : (i : ℕ) → i < 128 → word r (0x0A200 + 8 * i) ≡ word_of r row.Ral i
  low_word i there = word-at r row.Ral i there

  high_word : (i : ℕ) → i < 128 → word r (0x0A204 + 8 * i) ≡ word_of r row.Rah i
  high_word i there = word-at r row.Rah i there

  matched : (i : ℕ) → i < 128 → matches r frame i ≡ true → IsAddressedBy r frame i
  unfolding is_it
  matched i there e =
      subst (λ w. IsAddress w (word r (0x0A204 + 8 * i)) frame) (sym (low_word i there))
      (subst (λ w. IsAddress (word_of r row.Ral i) w frame) (sym (high_word i there))
      (to_bytes (word_of r row.Ral i) (word_of r row.Rah i) frame bytes e))

  matching : (i : ℕ) → i < 128 → IsAddressedBy r frame i → matches r frame i ≡ true
  unfolding is_it
  matching i there a =
      from_bytes (word_of r row.Ral i) (word_of r row.Rah i) frame bytes
      (subst (λ w. IsAddress (word_of r row.Ral i) w frame) (high_word i there)
      (subst (λ w. IsAddress w (word r (0x0A204 + 8 * i)) frame) (low_word i there) a))

  some : law.IsAddressed r frame → IsAddressed r frame
  some found = (found.0, (found.1.0, matched found.0 found.1.0 found.1.1))

  any : IsAddressed r frame → law.IsAddressed r frame
  any found = (found.0, (found.1.0, matching found.0 found.1.0 found.1.1))

  filter_bit : (bit : ℕ) → holds r 0x05080 bit ≡ has_bit bit (word_of r row.Fctrl 0)
  filter_bit bit = ap (has_bit bit) (word-at r row.Fctrl 0 (lit< tt))

  choice : word r 0x05090 ≡ word_of r row.Mcstctrl 0
  choice = word-at r row.Mcstctrl 0 (lit< tt)

  is_even : slice_index frame 0 % 2 ≡ 0 → is_multicast frame ≡ false
  is_even e = ne_eqb (slice_index frame 0 % 2) 1 (λ one. omega arith)

  one : slice_index frame 0 % 2 ≡ 0 → IsLetIn r frame ↔ ((holds r 0x05080 9 ≡ true) ⊎ IsAddressed r frame)
  one e =
      let law_one = unicast_in r frame (is_even e) in (
        λ in_it. elim (law_one.0 ((let_in r frame).0 in_it)) [
          | inl each ↦ inl (filter_bit 9 ∙ each)
          | inr found ↦ inr (some found)
        ],
        λ why. (let_in r frame).1 (law_one.1 (elim why [
          | inl each ↦ inl (sym (filter_bit 9) ∙ each)
          | inr found ↦ inr (any found)
        ])),
      )

  table_word : (n : ℕ) → n < 4096 → word r (0x05200 + 4 * (n / 32)) ≡ word_of r row.Mta (n / 32)
  table_word n small = word-at r row.Mta (n / 32) (omega arith)

  small : (zeroth first second : Bool) (x y : ℕ)
      → cond zeroth ((x / 16 + 16 * y) % 4096) (cond first ((x / 8 + 32 * y) % 4096)
      (cond second ((x / 4 + 64 * y) % 4096) ((x + 256 * y) % 4096))) < 4096
  small true first second x y = omega arith
  small false true second x y = omega arith
  small false false true x y = omega arith
  small false false false x y = omega arith

  few : (c : ℕ) → vector_of c frame < 4096
  few c = small (c == 0) (c == 1) (c == 2) (slice_index frame 4) (slice_index frame 5)

  listed : law.IsListed r frame → IsListed r frame (vector_of (word r 0x05090 % 4) frame)
  listed l =
      let n : ℕ → ℕ = λ w. vector_of (w % 4) frame in
      record {
        counts = ap (has_bit 2) choice ∙ l.0;
        bit = ap (λ w. holds r (0x05200 + 4 * (n w / 32)) (n w % 32)) choice
            ∙ ap (has_bit (n (word_of r row.Mcstctrl 0) % 32))
            (table_word (n (word_of r row.Mcstctrl 0)) (few (word_of r row.Mcstctrl 0 % 4)))
            ∙ l.1;
      }

  listing : IsListed r frame (vector_of (word r 0x05090 % 4) frame) → law.IsListed r frame
  listing l =
      let n : ℕ → ℕ = λ w. vector_of (w % 4) frame in (
        sym (ap (has_bit 2) choice) ∙ l.counts,
        sym (ap (λ w. holds r (0x05200 + 4 * (n w / 32)) (n w % 32)) choice
            ∙ ap (has_bit (n (word_of r row.Mcstctrl 0) % 32))
            (table_word (n (word_of r row.Mcstctrl 0)) (few (word_of r row.Mcstctrl 0 % 4)))) ∙ l.bit,
      )

  several : slice_index frame 0 % 2 ≡ 1 → ¬ ((k : ℕ) → k < 6 → slice_index frame k ≡ 0xFF)
      → IsLetIn r frame
      ↔ ((holds r 0x05080 8 ≡ true)
      ⊎ (IsAddressed r frame ⊎ IsListed r frame (vector_of (word r 0x05090 % 4) frame)))
  several e not_all =
      let others = false_from_ne_true (is_broadcast frame) (λ b. not_all ((broadcast_ones frame bytes).0 b)) in
      let law_several = multicast_in r frame others (eq-eqb (slice_index frame 0 % 2) 1 e) in (
        λ in_it. elim (law_several.0 ((let_in r frame).0 in_it)) [
          | inl each ↦ inl (filter_bit 8 ∙ each)
          | inr rest ↦ inr (elim rest [
            | inl found ↦ inl (some found)
            | inr l ↦ inr (listed l)
          ])
        ],
        λ why. (let_in r frame).1 (law_several.1 (elim why [
          | inl each ↦ inl (sym (filter_bit 8) ∙ each)
          | inr rest ↦ inr (elim rest [
            | inl found ↦ inl (any found)
            | inr l ↦ inr (listing l)
          ])
        ])),
      )

  all : ((k : ℕ) → k < 6 → slice_index frame k ≡ 0xFF)
      → IsLetIn r frame ↔ ((holds r 0x05080 10 ≡ true) ⊎ (holds r 0x05080 8 ≡ true))
  all ones =
      let law_all = broadcast_in r frame ((broadcast_ones frame bytes).1 ones) in (
        λ in_it. elim (law_all.0 ((let_in r frame).0 in_it)) [
          | inl bam ↦ inl (filter_bit 10 ∙ bam)
          | inr mpe ↦ inr (filter_bit 8 ∙ mpe)
        ],
        λ why. (let_in r frame).1 (law_all.1 (elim why [
          | inl bam ↦ inl (sym (filter_bit 10) ∙ bam)
          | inr mpe ↦ inr (sym (filter_bit 8) ∙ mpe)
        ])),
      )

  -- Pools.
  selected : (i pool : ℕ) → i < 128 → pool < 64 → selects r i pool
      ≡ holds r (0x0A600 + 4 * (2 * i + pool / 32)) (pool % 32)
  selected i pool there small =
      sym (ap (has_bit (pool % 32)) (word-at r row.Mpsar (2 * i + pool / 32) (omega arith)))

  unmatched : (i : ℕ) → i < 128 → ¬ IsAddressedBy r frame i → matches r frame i ≡ false
  unmatched i there apart = false_from_ne_true (matches r frame i) (λ e. apart (matched i there e))

  first_match_at : (i : ℕ) → IsFirst r frame i → law.IsFirstMatch r frame i
  first_match_at i f = record {
    within = f.within;
    matched = matching i f.within f.addressed;
    first = λ lower below. let inside = f.within in
        unmatched lower (omega (arith, inside, below)) (f.first lower below);
  }

  none_selected : (i : ℕ) → i < 128 → ((pool : ℕ) → pool < 64 → ¬ has_pool r i pool) → (pool : ℕ) → pool < 64
      → selects r i pool ≡ false
  none_selected i there none pool small =
      false_from_ne_true (selects r i pool) (λ e. none pool small (sym (selected i pool there small) ∙ e))

  pools : ChoosesPools r frame
  pools = record {
    parts = sym (ap (has_bit 0) (word-at r row.VtCtl 0 (lit< tt)));
    matched = λ i pool c. pool_of_a_frame.matched r frame i pool
        (record {
          within = c.within;
          matched = matching i c.within c.addressed;
          first = λ lower below. let inside = c.within in
              unmatched lower (omega (arith, inside, below)) (c.first lower below);
        })
        (record {
          within = c.pools;
          selected = selected i pool c.within c.pools ∙ c.selected;
          lowest = λ lower below. let small = c.pools in
              false_from_ne_true (selects r i lower)
              (λ e. c.lowest lower below (sym (selected i lower c.within (omega (arith, small, below))) ∙ e));
        });
    default = λ nobody off.
        pool_of_a_frame.default r frame (inl (λ i there. unmatched i there (λ a. nobody (i, (there, a)))))
        (sym (ap (has_bit 29) (word-at r row.VtCtl 0 (lit< tt))) ∙ off)
        ∙ ap (λ w. Some (w / 128 % 64)) (sym (word-at r row.VtCtl 0 (lit< tt)));
    none = λ nobody on.
        pool_of_a_frame.none r frame (inl (λ i there. unmatched i there (λ a. nobody (i, (there, a)))))
        (sym (ap (has_bit 29) (word-at r row.VtCtl 0 (lit< tt))) ∙ on);
    poolless = λ i f none off.
        pool_of_a_frame.default r frame (inr (i, (first_match_at i f, none_selected i f.within none)))
        (sym (ap (has_bit 29) (word-at r row.VtCtl 0 (lit< tt))) ∙ off)
        ∙ ap (λ w. Some (w / 128 % 64)) (sym (word-at r row.VtCtl 0 (lit< tt)));
    poolless_none = λ i f none on.
        pool_of_a_frame.none r frame (inr (i, (first_match_at i f, none_selected i f.within none)))
        (sym (ap (has_bit 29) (word-at r row.VtCtl 0 (lit< tt))) ∙ on);
    takes = λ pool small. sym (ap (has_bit (pool % 32)) (word-at r row.Vfre (pool / 32) (omega arith)));
  }

pub frames_let_in : FramesAreLetIn
frames_let_in r frame bytes = record {
  one = one r frame bytes;
  several = several r frame bytes;
  all = all r frame bytes;
}

pub pools_chosen : PoolsAreChosen
pools_chosen r frame bytes = pools r frame bytes
