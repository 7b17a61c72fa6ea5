-- Mailboxes, as both sides read them.
use Rattle.std.proofs.Common.{◌≡◌, ℕ, ◌<◌, true, ◌&&◌, refl, sym, ◌∙◌, lit<}
use Rattle.std.proofs.Math.Bool.{and-true}
use Rattle.nic_device.specs.RegisterFile.Mailbox.{mail_of}
use Rattle.datasheet_laws.specs.Prelude.{Pfmailbox, Pvfmailbox, State, has_bit, place}
use Rattle.datasheet_laws.proofs.Prelude.{first_address}
use Rattle.datasheet_laws.specs.SharedMailbox.{MailboxesAreShared, function_mail, physical_mail}
use Rattle.datasheet_laws.specs.Shown.{reads_one}
use Rattle.datasheet_laws.proofs.Addresses.{address_of}
use Rattle.datasheet_laws.proofs.Bits.{has_bit-and}
use Rattle.datasheet_laws.proofs.Words.{whole-read}

module _ (s : State) (v : ℕ) (there : v < 64) where
  -- A bit that the function reads.
  pub own : (bit : ℕ) → bit < 32 → reads_one s (function_mail v) bit ≡ has_bit bit (mail_of s.registers v)
  own bit b =
      whole-read s (function_mail v) bit (place Pvfmailbox v)
      (address_of (place Pvfmailbox v) _ (first_address (place Pvfmailbox v) there)) b

  -- A bit that the physical function reads.
  others : (bit : ℕ) → bit < 32 → reads_one s (physical_mail v) bit
      ≡ (has_bit bit (mail_of s.registers v) && has_bit bit 0xC)
  others bit b =
      whole-read s (physical_mail v) bit (place Pfmailbox v)
      (address_of (place Pfmailbox v) _ (first_address (place Pfmailbox v) there)) b
      ∙ has_bit-and (mail_of s.registers v) 0xC bit

  alike : (bit : ℕ) → bit < 32 → has_bit bit 0xC ≡ true
      → reads_one s (physical_mail v) bit ≡ reads_one s (function_mail v) bit
  alike bit b shows =
      others bit b ∙ (λ k. has_bit bit (mail_of s.registers v) && shows k) ∙ and-true _ ∙ sym (own bit b)

pub mailboxes_shared : MailboxesAreShared
mailboxes_shared s sound v there =
    let mail = sound.registers.mail v in
    record {
      function = alike s v there 2 (lit< tt) refl;
      physical = alike s v there 3 (lit< tt) refl;
      holder = (λ k. own s v there 2 (lit< tt) k && own s v there 3 (lit< tt) k) ∙ mail.holder;
      end = (λ k. own s v there 6 (lit< tt) k && own s v there 7 (lit< tt) k) ∙ mail.end;
    }
