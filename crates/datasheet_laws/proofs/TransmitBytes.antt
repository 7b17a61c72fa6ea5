-- What a transmit descriptor requests, by its bytes.
use Rattle.std.proofs.Common.{◌≡◌, ◌<◌, ◌+◌, ◌*◌, ◌/◌, ◌%◌, ◌^◌, ◌==◌, ◌||◌, ℕ, not, List, [], ◌∷◌, take, drop, slice_index, ap, ◌∙◌, arith}
use Rattle.std.proofs.lemmas.List.{get_or-take, get_or-drop}
use Rattle.nic_device.specs.DmaRing.Bits.{has_bit}
use Rattle.nic_device.specs.DmaRing.Transmit.{command_of, with_done}
use Rattle.datasheet_laws.specs.FramePrelude.{first_half, second_half, to_le_bytes, w64}
use Rattle.datasheet_laws.proofs.FramePrelude.{cond_both, eqb-false, eqb-true}
use Rattle.datasheet_laws.specs.Bits.{bit, field}

-- A word of eight bytes.
word-bytes : (a b c d e f g h : ℕ) → a < 256 → b < 256 → c < 256 → d < 256 → e < 256 → f < 256 → g < 256 → h < 256
    → to_le_bytes w64 (a + b * 256 + c * 2 ^ 16 + d * 2 ^ 24 + e * 2 ^ 32 + f * 2 ^ 40 + g * 2 ^ 48 + h * 2 ^ 56)
    ≡ a ∷ b ∷ c ∷ d ∷ e ∷ f ∷ g ∷ h ∷ []
word-bytes a b c d e f g h aa bb cc dd ee ff gg hh =
    let n = a + b * 256 + c * 2 ^ 16 + d * 2 ^ 24 + e * 2 ^ 32 + f * 2 ^ 40 + g * 2 ^ 48 + h * 2 ^ 56 in
    let e0 : n % 256 ≡ a = omega arith in
    let e1 : n / 2 ^ 8 % 256 ≡ b = omega arith in
    let e2 : n / 2 ^ 16 % 256 ≡ c = omega arith in
    let e3 : n / 2 ^ 24 % 256 ≡ d = omega arith in
    let e4 : n / 2 ^ 32 % 256 ≡ e = omega arith in
    let e5 : n / 2 ^ 40 % 256 ≡ f = omega arith in
    let e6 : n / 2 ^ 48 % 256 ≡ g = omega arith in
    let e7 : n / 2 ^ 56 % 256 ≡ h = omega arith in
    λ k. e0 k ∷ e1 k ∷ e2 k ∷ e3 k ∷ e4 k ∷ e5 k ∷ e6 k ∷ e7 k ∷ []

-- The bytes of a transmit descriptor.

module _ (d : List ℕ) (small : (k : ℕ) → slice_index d k < 256) where
  abbrev pub b : ℕ → ℕ
  b k = slice_index d k

  abbrev pub low_half : ℕ
  low_half = b 0 + b 1 * 256 + b 2 * 2 ^ 16 + b 3 * 2 ^ 24 + b 4 * 2 ^ 32 + b 5 * 2 ^ 40 + b 6 * 2 ^ 48 + b 7 * 2 ^ 56

  abbrev pub high_half : ℕ
  high_half = b 8 + b 9 * 256 + b 10 * 2 ^ 16 + b 11 * 2 ^ 24 + b 12 * 2 ^ 32 + b 13 * 2 ^ 40 + b 14 * 2 ^ 48
      + b 15 * 2 ^ 56

  pub first-is : first_half d ≡ low_half
  unfolding first_half
  first-is =
      let e : (k : ℕ) → k < 8 → slice_index (take 8 d) k ≡ b k = λ k low. get_or-take 8 d k 0 low in
      let e0 = e 0 (omega arith) in
      let e1 = e 1 (omega arith) in
      let e2 = e 2 (omega arith) in
      let e3 = e 3 (omega arith) in
      let e4 = e 4 (omega arith) in
      let e5 = e 5 (omega arith) in
      let e6 = e 6 (omega arith) in
      let e7 = e 7 (omega arith) in
      λ k. e0 k + e1 k * 256 + e2 k * 2 ^ 16 + e3 k * 2 ^ 24 + e4 k * 2 ^ 32 + e5 k * 2 ^ 40 + e6 k * 2 ^ 48
      + e7 k * 2 ^ 56

  second-is : second_half d ≡ high_half
  unfolding second_half
  second-is =
      let e : (k : ℕ) → slice_index (drop 8 d) k ≡ b (8 + k) = λ k. get_or-drop 8 d k 0 in
      λ k. e 0 k + e 1 k * 256 + e 2 k * 2 ^ 16 + e 3 k * 2 ^ 24 + e 4 k * 2 ^ 32 + e 5 k * 2 ^ 40 + e 6 k * 2 ^ 48
      + e 7 k * 2 ^ 56

  pub len-is : (command_of (second_half d)).len ≡ b 8 + 256 * b 9
  unfolding command_of
  len-is =
      let b8 = small 8 in let b9 = small 9 in
      let low : high_half % 2 ^ 16 ≡ b 8 + 256 * b 9 = omega arith in
      ap (λ n. n % 2 ^ 16) second-is ∙ low

  pub kind-is : (command_of (second_half d)).kind ≡ field 7 4 (b 10)
  unfolding command_of
  kind-is =
      let b8 = small 8 in let b9 = small 9 in let b10 = small 10 in
      let low : high_half / 2 ^ 20 % 2 ^ 4 ≡ field 7 4 (b 10) = omega arith in
      ap (λ n. n / 2 ^ 20 % 2 ^ 4) second-is ∙ low

  flag-is : (n : ℕ) → high_half / 2 ^ (24 + n) % 2 ≡ bit n (b 11)
      → (has_bit (24 + n) (second_half d)) ≡ (bit n (b 11) == 1)
  flag-is n e = ap (λ w. w / 2 ^ (24 + n) % 2 == 1) second-is ∙ ap (λ k. k == 1) e

  pub end-is : (command_of (second_half d)).end ≡ (bit 0 (b 11) == 1)
  unfolding command_of
  end-is =
      let b8 = small 8 in let b9 = small 9 in let b10 = small 10 in let b11 = small 11 in
      flag-is 0 (omega arith)

  pub report-is : (command_of (second_half d)).report ≡ (bit 3 (b 11) == 1)
  unfolding command_of
  report-is =
      let b8 = small 8 in let b9 = small 9 in let b10 = small 10 in let b11 = small 11 in
      flag-is 3 (omega arith)

  pub extended-is : (command_of (second_half d)).extended ≡ (bit 5 (b 11) == 1)
  unfolding command_of
  extended-is =
      let b8 = small 8 in let b9 = small 9 in let b10 = small 10 in let b11 = small 11 in
      flag-is 5 (omega arith)

  vlan-is : has_bit 30 (second_half d) ≡ (bit 6 (b 11) == 1)
  vlan-is =
      let b8 = small 8 in let b9 = small 9 in let b10 = small 10 in let b11 = small 11 in
      flag-is 6 (omega arith)

  segments-is : has_bit 31 (second_half d) ≡ (bit 7 (b 11) == 1)
  segments-is =
      let b8 = small 8 in let b9 = small 9 in let b10 = small 10 in let b11 = small 11 in
      flag-is 7 (omega arith)

  popts-is : second_half d / 2 ^ 40 % 2 ^ 6 ≡ field 5 0 (b 13)
  popts-is =
      let b8 = small 8 in let b9 = small 9 in let b10 = small 10 in let b11 = small 11 in let b12 = small 12 in
      let low : high_half / 2 ^ 40 % 2 ^ 6 ≡ field 5 0 (b 13) = omega arith in
      ap (λ n. n / 2 ^ 40 % 2 ^ 6) second-is ∙ low

  pub offload-is : (command_of (second_half d)).offload
      ≡ (bit 6 (b 11) == 1 || bit 7 (b 11) == 1 || not (field 5 0 (b 13) == 0))
  unfolding command_of
  offload-is = λ k. vlan-is k || segments-is k || not (popts-is k == 0)

  -- The done bit, and all 16 bytes.

  abbrev done_half : ℕ
  done_half =
      b 8 + b 9 * 256 + b 10 * 2 ^ 16 + b 11 * 2 ^ 24 + (2 * (b 12 / 2) + 1) * 2 ^ 32 + b 13 * 2 ^ 40 + b 14 * 2 ^ 48
      + b 15 * 2 ^ 56

  parity : high_half / 2 ^ 32 % 2 ≡ b 12 % 2
  parity = let b8 = small 8 in let b9 = small 9 in let b10 = small 10 in let b11 = small 11 in omega arith

  done-word : with_done (second_half d) ≡ done_half
  done-word =
      let even = parity in
      ap with_done second-is
      ∙ cond_both (has_bit 32 high_half) high_half (high_half + 2 ^ 32) (λ w. w ≡ done_half)
      (λ on. let odd = eqb-true (high_half / 2 ^ 32 % 2) 1 on in omega arith)
      (λ off. let none = eqb-false (high_half / 2 ^ 32 % 2) 1 off in omega arith)

  pub done-bytes : to_le_bytes w64 (with_done (second_half d))
      ≡ b 8 ∷ b 9 ∷ b 10 ∷ b 11 ∷ (2 * (b 12 / 2) + 1) ∷ b 13 ∷ b 14 ∷ b 15 ∷ []
  done-bytes = ap (to_le_bytes w64) done-word
      ∙ word-bytes (b 8) (b 9) (b 10) (b 11) (2 * (b 12 / 2) + 1) (b 13) (b 14) (b 15)
      (small 8) (small 9) (small 10) (small 11) (let b12 = small 12 in omega arith) (small 13) (small 14) (small 15)

  pub kept-bytes : to_le_bytes w64 (first_half d) ≡ b 0 ∷ b 1 ∷ b 2 ∷ b 3 ∷ b 4 ∷ b 5 ∷ b 6 ∷ b 7 ∷ []
  kept-bytes = ap (to_le_bytes w64) first-is ∙ word-bytes (b 0) (b 1) (b 2) (b 3) (b 4) (b 5) (b 6) (b 7)
      (small 0) (small 1) (small 2) (small 3) (small 4) (small 5) (small 6) (small 7)
