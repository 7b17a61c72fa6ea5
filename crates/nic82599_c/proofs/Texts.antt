-- Lemmas about the status and the line for bytes that should be EEPROM source.
use Rattle.std.proofs.Common.{◌≡◌, ◌≢◌, refl, sym, ap, ℕ, List, Ok, Err, Result}
use Rattle.std.specs.Prelude.{IsOkAnd}
use Rattle.std.specs.Str.{is_utf8, IsUtf8}
use Rattle.std.proofs.lemmas.Bool.{false_from_ne_true}
use Rattle.std.proofs.lemmas.Str.{is_utf8-from_IsUtf8, IsUtf8-from_is_utf8}
use Rattle.nic_device.specs.EepromImage.Content.{Content}
use Rattle.nic_device.specs.EepromImage.Text.{sound_content, Fails}
use Rattle.nic_device.specs.EepromImage.declared.text.AsmFault.{AsmFault}
use Rattle.nic_device.specs.EepromImage.declared.text.AsmFault.TheVariants.{OutOfMemory}
use Rattle.nic82599_c.specs.Images.{text_status, text_line, text_fault_status, line_of, content_status, content_line}

-- The status and the line match the result of assembling the source.
pub record IsAnswered (meant : Result Content AsmFault) (answer place : ℕ) : Type 0 where
  pub status : answer ≡ content_status meant
  pub line : place ≡ content_line meant

pub good_text : (P : Content → Type 0) (meant : Result Content AsmFault) → IsOkAnd meant P → IsAnswered meant 0 0
good_text P (Ok content) h = record { status = refl; line = refl }
good_text P (Err fault) h = absurd h

outcome : (meant : Result Content AsmFault) (fault : AsmFault) → meant ≡ Err fault
    → IsAnswered meant (text_fault_status fault) (line_of fault)
outcome meant fault h = record { status = sym (ap content_status h); line = sym (ap content_line h) }

pub bad_text : (meant : Result Content AsmFault) (fault : AsmFault) → Fails fault meant → text_fault_status fault ≢ 32
    → IsAnswered meant (text_fault_status fault) (line_of fault)
bad_text meant OutOfMemory h some = absurd (some refl)
bad_text meant other h some = outcome meant other h

-- Bytes that aren't UTF-8, and bytes that are.
pub no_text : (bytes : List ℕ) → ¬ (IsUtf8 bytes) → (102 ≡ text_status bytes) × (0 ≡ text_line bytes)
no_text bytes other =
    let e = false_from_ne_true (is_utf8 bytes) (λ is. other (IsUtf8-from_is_utf8 bytes is)) in
    (rw e refl, rw e refl)

pub is_text : (bytes text : List ℕ) → text ≡ bytes → IsUtf8 bytes
    → (content_status (sound_content text) ≡ text_status bytes) × (content_line (sound_content text) ≡ text_line bytes)
is_text bytes text same utf8 =
    let e = is_utf8-from_IsUtf8 bytes utf8 in (rw (e, same) refl, rw (e, same) refl)
