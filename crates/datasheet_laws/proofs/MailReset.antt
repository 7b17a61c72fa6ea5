-- The pool's mailbox after a pool reset.
use Rattle.std.proofs.Common.{◌≡◌, ℕ, ◌<◌, true, false, ◌==◌, ◌&&◌, ◌||◌, refl, sym, ◌∙◌, inl, inr}
use Rattle.std.specs.Prelude.{not}
use Rattle.std.proofs.lemmas.Bool.{cases_Bool, and_cases, and_from, and_left, and_right, or_from, or_left, not_from_true, both_ways, eq-eqb, agree_below_at}
use Rattle.reg_table.specs.declared.rows.RowId.TheVariants as row
use Rattle.register_file.specs.Mailbox.{mail_of}
use Rattle.register_laws.proofs.PoolReset.{renewed-pool}
use Rattle.datasheet_laws.specs.NumberPrelude.{has_bit, pool_reset}
use Rattle.datasheet_laws.specs.ByAddress.{reads}
use Rattle.datasheet_laws.specs.Mailbox.{own, PoolResetsLeave}
use Rattle.datasheet_laws.proofs.ByAddress.{reads-at}
use Rattle.datasheet_laws.proofs.Mailbox.{keep}
use Rattle.datasheet_laws.proofs.Table.{at}

taken : (bit : ℕ) → bit < 32 → has_bit bit 0x34 ≡ (bit == 2 || bit == 4 || bit == 5)
taken bit low = agree_below_at (λ n. has_bit n 0x34) (λ n. n == 2 || n == 4 || n == 5) 32 bit refl low

-- None of these bits is 1 after a reset.
zero_then : (bit : ℕ) → bit < 32 → has_bit bit 0x34 ≡ true → has_bit bit 0x40 ≡ false
zero_then bit low on =
    elim (and_cases (has_bit bit 0x40) (has_bit bit 0x34)
    (agree_below_at (λ n. has_bit n 0x40 && has_bit n 0x34) (λ n. false) 32 bit refl low)) [
      | inl off ↦ off
      | inr none ↦ absurd (both_ways (has_bit bit 0x34) none on)
    ]

pub left : PoolResetsLeave
left around r h mode v bit there low =
    let new = renewed-pool r mode v in
    let named = taken bit low in
    let read = reads around r (own v) bit in
    reads-at (pool_reset mode v r) row.Pvfmailbox v there around bit low
    ∙ elim (cases_Bool (has_bit bit 0x34)) as (λ _. has_bit bit (mail_of (pool_reset mode v r) v)
    ≡ (reads around r (own v) bit && not (bit == 2 || bit == 4 || bit == 5))) [
      | inl on ↦
          new.bits h (at row.Pvfmailbox v) bit
          (and_from _ _ (or_left (has_bit bit 0x34) false on) (eq-eqb v v refl)) there
          ∙ zero_then bit low on ∙ sym (and_right read _ (not_from_true _ (sym named ∙ on)))
      | inr off ↦
          new.alone.bits (at row.Pvfmailbox v) bit (and_left _ _ (or_from (has_bit bit 0x34) false off refl))
          ∙ sym (reads-at r row.Pvfmailbox v there around bit low) ∙ keep read _ (sym named ∙ off)
    ]
