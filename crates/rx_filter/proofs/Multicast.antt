-- Which multicast frames the filter accepts.
use Rattle.std.proofs.Common.{◌≡◌, ℕ, ◌+◌, ◌*◌, ◌/◌, ◌%◌, ◌^◌, ◌==◌, ◌&&◌, ◌||◌, Bool, true, false, cond, List}
use Rattle.std.proofs.Common.{sym, ap, ◌∙◌, ◌⊎◌, inl, inr, arith}
use Rattle.std.specs.Prelude.{is_some, slice_index}
use Rattle.std.proofs.lemmas.Bool.{cond-true, cond-false}
use Rattle.register_file.specs.RegTable.declared.rows.RowId.TheVariants.{Mcstctrl, Mta}
use Rattle.register_file.specs.Bits.{has_bit}
use Rattle.register_file.specs.Registers.{Registers, word_of}
use Rattle.rx_filter.specs.Address.{destination_high, first_match, is_broadcast, is_multicast, multicast_shift}
use Rattle.rx_filter.specs.Address.{multicast_number, is_in_table, lets_multicast, passes}
use Rattle.rx_filter.specs.Laws.{IsAddressed, vector_of, IsListed, MulticastIsLetIn}
use Rattle.rx_filter.specs.Fields.{MFE}
use Rattle.rx_filter.specs.declared.fields.TheConstants.{MO}
use Rattle.rx_filter.proofs.Finding.{first_match-is_some, first_match-addressed}
use Rattle.rx_filter.proofs.Tests.{or_either, or_from, both_true, both_right, both_hold}

passes-several : (r : Registers) (frame : List ℕ) → is_broadcast frame ≡ false → is_multicast frame ≡ true →
    passes r frame ≡ (lets_multicast r || is_some (first_match r frame) || is_in_table r frame)
unfolding passes
passes-several r frame others several =
    cond-false (is_broadcast frame) _ _ others ∙ cond-true (is_multicast frame) _ _ several

by_choice : (x y : ℕ) (zeroth first second : Bool) →
    (x + 2 ^ 8 * y) / 2 ^ cond zeroth 4 (cond first 3 (cond second 2 0)) % 2 ^ 12
    ≡ cond zeroth ((x / 16 + 16 * y) % 4096)
    (cond first ((x / 8 + 32 * y) % 4096) (cond second ((x / 4 + 64 * y) % 4096) ((x + 256 * y) % 4096)))
by_choice x y true first second = omega arith
by_choice x y false true second = omega arith
by_choice x y false false true = omega arith
by_choice x y false false false = omega arith

number-is : (r : Registers) (frame : List ℕ) → multicast_number r frame ≡ vector_of (word_of r Mcstctrl 0 % 4) frame
number-is r frame =
    let word = word_of r Mcstctrl 0 in
    let choice : word / 2 ^ MO % 4 ≡ word % 4 = omega arith in
    ap (λ m. destination_high frame / 2 ^ multicast_shift m % 2 ^ 12) choice
    ∙ by_choice (slice_index frame 4) (slice_index frame 5) (word % 4 == 0) (word % 4 == 1) (word % 4 == 2)

table-is : (r : Registers) (frame : List ℕ) → is_in_table r frame
    ≡ (has_bit MFE (word_of r Mcstctrl 0)
    && has_bit (vector_of (word_of r Mcstctrl 0 % 4) frame % 32)
    (word_of r Mta (vector_of (word_of r Mcstctrl 0 % 4) frame / 32)))
table-is r frame =
    ap (λ n. has_bit MFE (word_of r Mcstctrl 0) && has_bit (n % 32) (word_of r Mta (n / 32))) (number-is r frame)

listed : (r : Registers) (frame : List ℕ) → is_in_table r frame ≡ true → IsListed r frame
listed r frame e =
    let both = sym (table-is r frame) ∙ e in
    (both_true _ _ both, both_right (has_bit MFE (word_of r Mcstctrl 0)) _ both)

listed-in : (r : Registers) (frame : List ℕ) → IsListed r frame → is_in_table r frame ≡ true
listed-in r frame l = table-is r frame ∙ both_hold _ _ l.0 l.1

-- A multicast frame is accepted for one of three reasons.
by_several : (r : Registers) (frame : List ℕ) →
    ((lets_multicast r || is_some (first_match r frame)) ≡ true) ⊎ (is_in_table r frame ≡ true) →
    (lets_multicast r ≡ true) ⊎ (IsAddressed r frame ⊎ IsListed r frame)
by_several r frame (inr table) = inr (inr (listed r frame table))
by_several r frame (inl first) =
    elim (or_either (lets_multicast r) (is_some (first_match r frame)) first) [
      | inl all ↦ inl all
      | inr found ↦ inr (inl (first_match-addressed r frame found))
    ]

in_several : (r : Registers) (frame : List ℕ) →
    (lets_multicast r ≡ true) ⊎ (IsAddressed r frame ⊎ IsListed r frame) →
    (lets_multicast r || is_some (first_match r frame) || is_in_table r frame) ≡ true
in_several r frame (inl all) =
    or_from _ (is_in_table r frame) (inl (or_from _ (is_some (first_match r frame)) (inl all)))
in_several r frame (inr (inl found)) =
    or_from _ (is_in_table r frame)
    (inl (or_from (lets_multicast r) _ (inr (first_match-is_some r frame found.0 found.1.0 found.1.1))))
in_several r frame (inr (inr table)) =
    or_from (lets_multicast r || is_some (first_match r frame)) _ (inr (listed-in r frame table))

pub multicast_in : MulticastIsLetIn
multicast_in r frame others several = (
  λ h. by_several r frame
      (or_either (lets_multicast r || is_some (first_match r frame)) (is_in_table r frame)
      (sym (passes-several r frame others several) ∙ h)),
  λ e. passes-several r frame others several ∙ in_several r frame e,
)
