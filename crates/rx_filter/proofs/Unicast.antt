-- Which unicast frames the filter accepts.
use Rattle.std.proofs.Common.{◌≡◌, ℕ, ◌+◌, ◌*◌, ◌%◌, ◌^◌, ◌==◌, ◌||◌, true, false, List}
use Rattle.std.proofs.Common.{sym, ◌∙◌, ◌⊎◌, inl, inr, arith}
use Rattle.std.specs.Prelude.{is_some, slice_index}
use Rattle.std.proofs.lemmas.Bool.{cond-false, false_from_ne_true}
use Rattle.std.proofs.lemmas.Bool.Decides.{nat_tests}
use Rattle.register_file.specs.Registers.{Registers}
use Rattle.rx_filter.specs.Address.{destination_low, destination_high, first_match, is_broadcast, is_multicast}
use Rattle.rx_filter.specs.Address.{lets_unicast, passes}
use Rattle.rx_filter.specs.Laws.{IsAddressed, UnicastIsLetIn}
use Rattle.rx_filter.proofs.Finding.{first_match-is_some, first_match-addressed}
use Rattle.rx_filter.proofs.Tests.{or_either, or_from, both_true}

odd_low : (a b c d : ℕ) → (a % 2 == 1) ≡ false → (a + 2 ^ 8 * b + 2 ^ 16 * c + 2 ^ 24 * d == 0xFFFFFFFF) ≡ true → ⊥
odd_low a b c d even all =
    let odd : a % 2 ≡ 1 = grind (arith, nat_tests) in
    grind (arith, nat_tests)

-- A broadcast frame is multicast.
one_is_not_all : (frame : List ℕ) → is_multicast frame ≡ false → is_broadcast frame ≡ false
one_is_not_all frame one =
    false_from_ne_true (is_broadcast frame) (λ all.
    odd_low (slice_index frame 0) (slice_index frame 1) (slice_index frame 2) (slice_index frame 3) one
    (both_true (destination_low frame == 0xFFFFFFFF) (destination_high frame == 0xFFFF) all))

passes-one : (r : Registers) (frame : List ℕ) → is_multicast frame ≡ false →
    passes r frame ≡ (lets_unicast r || is_some (first_match r frame))
unfolding passes
passes-one r frame one =
    cond-false (is_broadcast frame) _ _ (one_is_not_all frame one) ∙ cond-false (is_multicast frame) _ _ one

by_one : (r : Registers) (frame : List ℕ) →
    (lets_unicast r ≡ true) ⊎ (is_some (first_match r frame) ≡ true) →
    (lets_unicast r ≡ true) ⊎ IsAddressed r frame
by_one r frame (inl all) = inl all
by_one r frame (inr found) = inr (first_match-addressed r frame found)

in_one : (r : Registers) (frame : List ℕ) → (lets_unicast r ≡ true) ⊎ IsAddressed r frame →
    (lets_unicast r || is_some (first_match r frame)) ≡ true
in_one r frame (inl all) = or_from _ (is_some (first_match r frame)) (inl all)
in_one r frame (inr found) =
    or_from (lets_unicast r) _ (inr (first_match-is_some r frame found.0 found.1.0 found.1.1))

pub unicast_in : UnicastIsLetIn
unicast_in r frame one = (
  λ h. by_one r frame
      (or_either (lets_unicast r) (is_some (first_match r frame)) (sym (passes-one r frame one) ∙ h)),
  λ e. passes-one r frame one ∙ in_one r frame e,
)
