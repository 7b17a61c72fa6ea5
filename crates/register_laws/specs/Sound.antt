-- Registers that a device can have.
use Rattle.std.specs.Prelude.{ℕ, ◌≡◌, ◌<◌, ◌&&◌, IsFalse, length, bit_or}
use Rattle.register_laws.specs.Prelude.{Group, IsSubset, Kind, Place, Registers, RowId, behaviour_of, cause_row}
use Rattle.register_laws.specs.Prelude.{has_bit, index_of, intersection, mail_of, mask_row, reported_by, row_of}
use Rattle.register_laws.specs.Prelude.{row_words, rows, word_at, word_of}

-- The registers contain a word for each place of the table, the enable request of each side of each queue, and the
-- reported bits of each virtual function.
pub record HasShape (r : Registers) : Type 0 where
  pub has_rows : length r.words ≡ length rows
  pub has_indices : (row : RowId) → length (row_words r.words row) ≡ (row_of row).count
  pub wanted_rx : length r.wanted_rx ≡ 128
  pub wanted_tx : length r.wanted_tx ≡ 128
  pub reported_vf : length r.reported_vf ≡ 64

-- The bits that can become 1 in a word of this kind and mask. A write can set the bits of the mask. In an enable word,
-- a switch can also set bit 25. In a counter, and in EERD, which receives EEPROM replies, all bits can become 1. In a
-- register that only triggers actions or is calculated, no bit can.
abbrev pub bits_of_kind : Kind → ℕ → ℕ
bits_of_kind k = (behaviour_of k).bits

-- The bits that can be 1 in a word of a row: the bits of the row's reset value, and all bits that can become 1.
abbrev pub bits_of_row : RowId → ℕ
bits_of_row row = bit_or (row_of row).reset (bits_of_kind (row_of row).kind (row_of row).mask)

-- The bits of a group whose cause and mask are 1.
abbrev pub pending_bits : Registers → Group → ℕ
pending_bits r g = intersection (word_of r (cause_row g) (index_of g)) (word_of r (mask_row g) (index_of g))

-- At most one side holds the mailbox. The mailbox reports that a reset began or that a reset is done, but not both.
pub record IsMail (mail : ℕ) : Type 0 where
  pub holder : IsFalse (has_bit 2 mail && has_bit 3 mail)
  pub end : IsFalse (has_bit 6 mail && has_bit 7 mail)

-- The registers have their shape. Each word has only bits that its row can have. If a bit is reported, its cause and
-- mask are 1. Each mailbox has at most one holder, and at most one of the two bits that report a reset is 1 in it.
pub record AreSound (r : Registers) : Type 0 where
  pub shape : HasShape r
  pub words : (p : Place) → IsSubset (word_at r.words p) (bits_of_row p.row)
  pub reported : (g : Group) → index_of g < 64 → IsSubset (reported_by r g) (pending_bits r g)
  pub mail : (v : ℕ) → IsMail (mail_of r v)
