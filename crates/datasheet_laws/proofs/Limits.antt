-- The frame limit, in terms of register bits.
use Rattle.std.proofs.Common.{◌≡◌, ◌<◌, ◌-◌, ◌/◌, ◌^◌, ℕ, inl, inr, refl, sym, ap, ◌∙◌, arith}
use Rattle.nic_device.specs.RegisterLaws.Sound.{AreSound}
use Rattle.datasheet_laws.specs.FramePrelude.{Hlreg0, Maxfrs, Registers, frame_limit, has_bit, place, word_of}
use Rattle.datasheet_laws.proofs.FramePrelude.{cond-false, cond-true, cond_both, word_small}
use Rattle.datasheet_laws.specs.Arrival.{IsLimit}
use Rattle.datasheet_laws.specs.Bits.{field}
use Rattle.datasheet_laws.proofs.FrameBits.{has-one, has-zero, one-has, zero-has}

-- The upper half of a 32-bit word.
upper_half : (word : ℕ) → word < 2 ^ 32 → field 31 16 word ≡ word / 2 ^ 16
upper_half word small = omega arith

jumbo : (r : Registers) → AreSound r → field 31 16 (word_of r Maxfrs 0) - 4 ≡ word_of r Maxfrs 0 / 2 ^ 16 - 4
jumbo r h = ap (λ n. n - 4) (upper_half (word_of r Maxfrs 0) (word_small r h (place Maxfrs 0)))

pub limit-is : (r : Registers) → AreSound r → (limit : ℕ) → IsLimit r limit → limit ≡ frame_limit r
limit-is r h limit (inl e) =
    e.1 ∙ sym (cond-false (has_bit 2 (word_of r Hlreg0 0)) (word_of r Maxfrs 0 / 2 ^ 16 - 4) 1514
    (has-zero 2 (word_of r Hlreg0 0) e.0))
limit-is r h limit (inr e) =
    e.1 ∙ jumbo r h ∙ sym (cond-true (has_bit 2 (word_of r Hlreg0 0)) (word_of r Maxfrs 0 / 2 ^ 16 - 4) 1514
    (has-one 2 (word_of r Hlreg0 0) e.0))

pub is-limit : (r : Registers) → AreSound r → IsLimit r (frame_limit r)
is-limit r h =
    cond_both (has_bit 2 (word_of r Hlreg0 0)) (word_of r Maxfrs 0 / 2 ^ 16 - 4) 1514 (IsLimit r)
    (λ on. inr (one-has 2 (word_of r Hlreg0 0) on, sym (jumbo r h)))
    (λ off. inl (zero-has 2 (word_of r Hlreg0 0) off, refl))
