-- How a reset applies the EEPROM image, and how a driver reads the image.
use Rattle.std.specs.Prelude.{ℕ, ◌≡◌, ◌≢◌, ◌⊎◌, ◌+◌, ◌*◌, ◌^◌, IsTrue, IsFalse, List, [], ◌∷◌, ◌++◌, length, Some, None}
use Rattle.nic_device.specs.EepromImage.Bytes.{word_at}
use Rattle.nic_device.specs.RegisterFile.Eeprom.{eeprom_asked}
use Rattle.nic_device.specs.declared.event.Event.TheVariants as event
use Rattle.device_laws.specs.Prelude.{Ctrl, Done, Eerd, Idle, IsSound, Names, Place, State, Word, after, asks_reset}
use Rattle.device_laws.specs.Prelude.{gives, is_stopped, reply_to, row_of, step_of, triples_of}
use Rattle.device_laws.specs.Laws.{reply_to_read, after_write}

-- The device with this image instead of its own.
abbrev pub with_image : State → List ℕ → State
with_image s image = record s { image = image }

-- The second image contains the register writes of the first image, followed by this write.
abbrev pub HasOneMore : List ℕ → List ℕ → ℕ → ℕ → Type 0
HasOneMore image more offset value = triples_of more ≡ triples_of image ++ (offset, value) ∷ []

-- The address refers to neither CTRL nor EERD.
abbrev pub IsWritten : ℕ → Type 0
IsWritten offset = (p : Place) → Names offset p → (p.row ≢ Ctrl) × (p.row ≢ Eerd)

-- Suppose that a write to neither CTRL nor EERD is appended to an image. Then a reset leaves the same state as a reset
-- with the original image, followed by this write as an ordinary register write. So the image's writes are performed
-- even after a write that has no effect.
abbrev pub LastWriteIsMade : Type 0
LastWriteIsMade =
    (s : State) (image : List ℕ) (offset value : ℕ) → HasOneMore s.image image offset value → IsWritten offset →
    (address word : ℕ) (p : Place) → Names address p → IsTrue (asks_reset (row_of p.row).kind word) →
    after_write (with_image s image) address word
    ≡ with_image (after_write (after_write s address word) offset value) image

-- A write to CTRL or EERD is skipped.
abbrev pub SteppedOverWriteIsNotMade : Type 0
SteppedOverWriteIsNotMade =
    (s : State) (image : List ℕ) (offset value : ℕ) → HasOneMore s.image image offset value →
    (q : Place) → Names offset q → (q.row ≡ Ctrl) ⊎ (q.row ≡ Eerd) →
    (address word : ℕ) (p : Place) → Names address p → IsTrue (asks_reset (row_of p.row).kind word) →
    after_write (with_image s image) address word ≡ with_image (after_write s address word) image

-- The addresses of EEC and EERD.
abbrev pub control_address : ℕ
control_address = 0x10010

abbrev pub read_address : ℕ
read_address = 0x10014

-- EEC reports the image's size as s if the image has 64 * 2^s words.
abbrev pub ControlTellsSize : Type 0
ControlTellsSize =
    (s : State) → IsSound s → (doubled : ℕ) → length s.image ≡ 64 * 2 ^ doubled →
    reply_to_read s control_address ≡ Word (0x300 + 0x800 * doubled)

-- After an EEPROM step, EERD contains the requested word, its index and DONE. Outside the image the word is 0xFFFF.
pub record GivesWord (s : State) (index : ℕ) : Type 0 where
  pub reply : reply_to s event.EepromStep ≡ Done
  pub word :
      reply_to_read (after s event.EepromStep) read_address ≡ Word (index * 4 + 2 + word_at s.image index * 2 ^ 16)

abbrev pub StepGivesWord : Type 0
StepGivesWord =
    (s : State) → IsSound s → IsFalse (is_stopped s.registers) → (index : ℕ) → eeprom_asked s.registers ≡ Some index →
    GivesWord s index

-- If EERD requests no word, the step is idle and changes nothing.
abbrev pub StepWithoutStartIsIdle : Type 0
StepWithoutStartIsIdle =
    (s : State) → eeprom_asked s.registers ≡ None → step_of s event.EepromStep ≡ gives Idle s
