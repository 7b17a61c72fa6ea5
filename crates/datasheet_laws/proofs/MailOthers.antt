-- The word of a mailbox after accesses, and the words of other functions' mailboxes.
use Rattle.std.proofs.Common.{◌≡◌, ℕ, ◌<◌, Bool, true, false, ◌==◌, ◌&&◌, ◌||◌, refl, ap, sym, ◌∙◌}
use Rattle.std.specs.Prelude.{IsFalse}
use Rattle.reg_table.specs.declared.rows.RowId.TheVariants as row
use Rattle.register_file.specs.Mailbox.{by_mail_read, by_function, by_physical, mail_read, function_writes, physical_writes}
use Rattle.register_laws.specs.Footprint.{Footprint, ChangesWithin}
use Rattle.register_laws.proofs.Mailbox.{within-mail_read, within-function, within-physical}
use Rattle.datasheet_laws.specs.NumberPrelude.{Registers, Surroundings}
use Rattle.datasheet_laws.specs.ByAddress.{reads}
use Rattle.datasheet_laws.specs.Mailbox.{own, OtherBitsStay}
use Rattle.datasheet_laws.proofs.ByAddress.{reads-at, left-at, wrote-at}
use Rattle.datasheet_laws.proofs.Table.{at}

-- A bit that an access may not change reads as before.
stays : (around : Surroundings) (old new s : Registers) (u bit : ℕ) → u < 64 → bit < 32 → (f : Footprint)
    → ChangesWithin f old s → new ≡ s → IsFalse (f.bits (at row.Pvfmailbox u) bit)
    → reads around new (own u) bit ≡ reads around old (own u) bit
stays around old new s u bit there low f within is off =
    ap (λ t. reads around t (own u) bit) is
    ∙ reads-at s row.Pvfmailbox u there around bit low
    ∙ within.bits (at row.Pvfmailbox u) bit off
    ∙ sym (reads-at old row.Pvfmailbox u there around bit low)

or_none : (b : Bool) → b ≡ false → (b || false) ≡ false
or_none true e = cc
or_none false e = refl

and_none : (b c : Bool) → b ≡ false → (b && c) ≡ false
and_none true c e = cc
and_none false c e = refl

pub others_stay : OtherBitsStay
others_stay around r h v u w bit v_there u_there low = record {
  function = λ off. stays around r _ (function_writes r v w) u bit u_there low (by_function v) (within-function r v w)
      (wrote-at r row.Pvfmailbox v v_there w) (or_none (v == u && bit == 2) off);
  physical = λ off. stays around r _ (physical_writes r v w) u bit u_there low (by_physical v) (within-physical r v w)
      (wrote-at r row.Pfmailbox v v_there w) (or_none _ off);
  read = λ off. stays around r _ (mail_read r v) u bit u_there low (by_mail_read v) (within-mail_read r v)
      (left-at r row.Pvfmailbox v v_there) (and_none (v == u) _ off);
}
