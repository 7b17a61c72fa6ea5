-- Which broadcast frames the filter accepts.
use Rattle.std.proofs.Common.{◌≡◌, ℕ, zero, suc, ◌<◌, ◌==◌, ◌||◌, true, List, sym, ◌∙◌, arith}
use Rattle.std.specs.Prelude.{slice_index}
use Rattle.std.proofs.lemmas.Bool.{cond-true}
use Rattle.std.proofs.lemmas.Bool.Decides.{nat_tests}
use Rattle.register_file.specs.Registers.{Registers}
use Rattle.rx_filter.specs.Address.{destination_low, destination_high, is_broadcast, lets_broadcast, lets_multicast}
use Rattle.rx_filter.specs.Address.{passes}
use Rattle.rx_filter.specs.Laws.{BroadcastIsAllOnes, BroadcastIsLetIn}
use Rattle.rx_filter.proofs.Tests.{or_either, or_from, both_true, both_right, both_hold}

passes-all : (r : Registers) (frame : List ℕ) → is_broadcast frame ≡ true →
    passes r frame ≡ (lets_broadcast r || lets_multicast r)
unfolding passes
passes-all r frame all = cond-true (is_broadcast frame) _ _ all

pub broadcast_in : BroadcastIsLetIn
broadcast_in r frame all = (
  λ h. or_either (lets_broadcast r) (lets_multicast r) (sym (passes-all r frame all) ∙ h),
  λ e. passes-all r frame all ∙ or_from (lets_broadcast r) (lets_multicast r) e,
)

eqb_means : (a b : ℕ) → (a == b) ≡ true → a ≡ b
eqb_means a b e = grind (arith, nat_tests)

means_eqb : (a b : ℕ) → a ≡ b → (a == b) ≡ true
means_eqb a b e = grind (arith, nat_tests)

each_of_six : (P : ℕ → Type 0) → P 0 → P 1 → P 2 → P 3 → P 4 → P 5 → (k : ℕ) → k < 6 → P k
each_of_six P p0 p1 p2 p3 p4 p5 zero h = p0
each_of_six P p0 p1 p2 p3 p4 p5 (suc zero) h = p1
each_of_six P p0 p1 p2 p3 p4 p5 (suc (suc zero)) h = p2
each_of_six P p0 p1 p2 p3 p4 p5 (suc (suc (suc zero))) h = p3
each_of_six P p0 p1 p2 p3 p4 p5 (suc (suc (suc (suc zero)))) h = p4
each_of_six P p0 p1 p2 p3 p4 p5 (suc (suc (suc (suc (suc zero))))) h = p5
each_of_six P p0 p1 p2 p3 p4 p5 (suc (suc (suc (suc (suc (suc k)))))) h = absurd (omega arith)

pub broadcast_ones : BroadcastIsAllOnes
broadcast_ones frame small =
    let b0 = small 0 in
    let b1 = small 1 in
    let b2 = small 2 in
    let b3 = small 3 in
    let b4 = small 4 in
    let b5 = small 5 in (
      λ all.
          let low = eqb_means (destination_low frame) 0xFFFFFFFF
          (both_true (destination_low frame == 0xFFFFFFFF) (destination_high frame == 0xFFFF) all) in
          let high = eqb_means (destination_high frame) 0xFFFF
          (both_right (destination_low frame == 0xFFFFFFFF) (destination_high frame == 0xFFFF) all) in
          each_of_six (λ k. slice_index frame k ≡ 0xFF) (omega arith) (omega arith) (omega arith) (omega arith)
          (omega arith) (omega arith),
      λ ones.
          let f0 = ones 0 (omega arith) in
          let f1 = ones 1 (omega arith) in
          let f2 = ones 2 (omega arith) in
          let f3 = ones 3 (omega arith) in
          let f4 = ones 4 (omega arith) in
          let f5 = ones 5 (omega arith) in
          both_hold (destination_low frame == 0xFFFFFFFF) (destination_high frame == 0xFFFF)
          (means_eqb (destination_low frame) 0xFFFFFFFF (omega arith))
          (means_eqb (destination_high frame) 0xFFFF (omega arith)),
    )
