-- The mailbox of a virtual function: one word, PVFMAILBOX, which the function shares with the physical function, and
-- the causes that the mailbox raises in each of the two functions.
use Rattle.std.specs.Prelude.{◌==◌, ℕ, ◌+◌, ◌/◌, ◌%◌, ◌^◌, Bool, ◌&&◌, ◌||◌, fold, bit_and, bit_or, if◌then◌else◌}
use Rattle.std.specs.List.{range_with_len}
use Rattle.reg_table.specs.declared.rows.RowId.TheVariants.{Eicr, Pvteicr, Pfmbicr, Pfmbimr, Pvfmailbox, PvtivarMisc}
use Rattle.intr_unit.specs.Group.{queue_causes}
use Rattle.intr_unit.specs.declared.group.Group.{Group}
use Rattle.intr_unit.specs.declared.group.Group.TheVariants.{Pf, Vf}
use Rattle.reg_table.specs.Rows.{number_of}
use Rattle.reg_table.specs.declared.place.Place.{Place}
use Rattle.register_file.specs.Bits.{has_bit, bit_set, bit_cleared}
use Rattle.register_file.specs.Columns.{place}
use Rattle.register_file.specs.Footprint.{Footprint, nothing, either, is_place, the_bits}
use Rattle.register_file.specs.Groups.{cause_row, index_of}
use Rattle.register_file.specs.Registers.{Registers, word_of, with_word}

-- Bits of the word. 2, VFU: the function holds the mailbox. 3, PFU: the physical function holds it. 4, PFSTS, and 5,
-- PFACK: what the physical function sent. 6, RSTI: a reset is in progress. 7, RSTD: a reset is done.

-- The word with a bit set if the condition is true; otherwise unchanged.
abbrev pub set_if : Bool → (bit word : ℕ) → ℕ
set_if condition bit word = if condition then bit_set bit word else word

-- The mailbox's word after a write by the function. If bit 2 is written as 1, the function takes the mailbox unless the
-- physical function holds it. If bit 2 is written as 0, the function releases the mailbox.
abbrev pub function_wrote : (mail word : ℕ) → ℕ
function_wrote mail word =
    if has_bit 2 word then (if has_bit 3 mail then mail else bit_set 2 mail) else bit_cleared 2 mail

-- The word after a write by the physical function. Bit 4 takes the mailbox from the function. Then, if bit 3 is written
-- as 1, the physical function takes the mailbox unless the function holds it. If bit 3 is written as 0, the physical
-- function releases the mailbox. Bit 0 sends a status, bit 1 an acknowledgement.
abbrev pub released : (mail word : ℕ) → ℕ
released mail word = if has_bit 4 word then bit_cleared 2 mail else mail

abbrev pub taken : (mail word : ℕ) → ℕ
taken mail word =
    if has_bit 3 word then (if has_bit 2 mail then mail else bit_set 3 mail) else bit_cleared 3 mail

abbrev pub physical_wrote : (mail word : ℕ) → ℕ
physical_wrote mail word = set_if (has_bit 0 word) 4 (set_if (has_bit 1 word) 5 (taken (released mail word) word))

-- The word after a read by the function. A status, an acknowledgement and the end of a reset are reported only once, so
-- the read clears their bits.
abbrev pub reported_once : ℕ → ℕ
reported_once mail = bit_cleared 4 (bit_cleared 5 (bit_cleared 7 mail))

-- The word after the end of a reset is reported: a function that would have read RSTI now reads RSTD.
abbrev pub reset_reported : ℕ → ℕ
reset_reported mail = if has_bit 6 mail then bit_set 7 (bit_cleared 6 mail) else mail

-- The registers with the word of a function's mailbox replaced.
abbrev pub with_mail : Registers → (v mail : ℕ) → Registers
with_mail r v mail = with_word r Pvfmailbox v mail

abbrev pub mail_of : Registers → ℕ → ℕ
mail_of r v = word_of r Pvfmailbox v

-- The registers with some of a group's causes set. Nothing else changes.
abbrev pub cause_set : Registers → Group → ℕ → Registers
cause_set r g bits =
    with_word r (cause_row g) (index_of g) (bit_or (word_of r (cause_row g) (index_of g)) bits)

-- Whether a written word sends something: its bit 0 or bit 1 is 1.
abbrev pub sends : ℕ → Bool
sends word = has_bit 0 word || has_bit 1 word

-- The PFMBICR bits that a write by function v sets: bit 0 sets its request, bit 1 its acknowledgement.
abbrev pub requests : (v word : ℕ) → ℕ
requests v word = set_if (has_bit 0 word) (v % 16) (set_if (has_bit 1 word) (16 + v % 16) 0)

abbrev pub with_requests : Registers → (v word : ℕ) → Registers
with_requests r v word = with_word r Pfmbicr (v / 16) (bit_or (word_of r Pfmbicr (v / 16)) (requests v word))

-- The registers with the physical function's mailbox cause, EICR bit 19, set if the word sends something and the
-- function's bit in PFMBIMR is 1.
abbrev pub physical_signalled : Registers → (v word : ℕ) → Registers
physical_signalled r v word =
    if sends word && has_bit (v % 32) (word_of r Pfmbimr (v / 32)) then cause_set r Pf (2 ^ 19) else r

-- The registers with the function's mailbox cause set if the word sends something and PVTIVAR_MISC names an existing
-- cause.
abbrev pub function_signalled : Registers → (v word : ℕ) → Registers
function_signalled r v word =
    if sends word then cause_set r (Vf v) (queue_causes (Vf v) (word_of r PvtivarMisc v % 256)) else r

-- The registers after a read of a function's mailbox, after a write by the function, and after a write by the physical
-- function.
abbrev pub mail_read : Registers → ℕ → Registers
mail_read r v = with_mail r v (reported_once (mail_of r v))

abbrev pub function_writes : Registers → (v word : ℕ) → Registers
function_writes r v word =
    physical_signalled (with_requests (with_mail r v (function_wrote (mail_of r v) word)) v word) v word

abbrev pub physical_writes : Registers → (v word : ℕ) → Registers
physical_writes r v word = function_signalled (with_mail r v (physical_wrote (mail_of r v) word)) v word

-- The bits of a mailbox that the physical function reads: they show who holds the mailbox.
abbrev pub holders : Registers → ℕ → ℕ
holders r v = bit_and (mail_of r v) 0xC

-- The registers after the end of a reset is reported to one function, and to all functions.
abbrev pub done_reported : Registers → ℕ → Registers
done_reported r v = with_mail r v (reset_reported (mail_of r v))

unfoldable pub resets_reported : Registers → Registers
resets_reported r = fold done_reported r (range_with_len 0 64)

-- What a read of a function's mailbox may change: the bits of its word that are reported only once.
abbrev pub by_mail_read : ℕ → Footprint
by_mail_read v = the_bits (place Pvfmailbox v) (λ bit. bit == 4 || bit == 5 || bit == 7)

-- What a write by the function may change: its hold on the mailbox and, if it sends something, its bits of PFMBICR and
-- the physical function's cause.
abbrev pub is_request : ℕ → Place → (bit : ℕ) → Bool
is_request v p bit = is_place (place Pfmbicr (v / 16)) p && (bit == v % 16 || bit == 16 + v % 16)

abbrev pub is_mail_cause : Place → (bit : ℕ) → Bool
is_mail_cause p bit = is_place (place Eicr 0) p && bit == 19

abbrev pub by_sending : ℕ → Footprint
by_sending v = record nothing { bits = λ p bit. is_request v p bit || is_mail_cause p bit }

abbrev pub by_function : ℕ → Footprint
by_function v = either (the_bits (place Pvfmailbox v) (λ bit. bit == 2)) (by_sending v)

-- What a write by the physical function may change: who holds the mailbox, the status and acknowledgement that were
-- sent to the function, and the function's causes.
abbrev pub by_physical : ℕ → Footprint
by_physical v =
    either (the_bits (place Pvfmailbox v) (λ bit. bit == 2 || bit == 3 || bit == 4 || bit == 5))
    (the_bits (place Pvteicr v) (λ bit. bit == 0 || bit == 1 || bit == 2))

-- What reporting a reset to all functions may change: RSTI and RSTD of each mailbox's word.
abbrev pub by_telling : Footprint
by_telling =
    record nothing { bits = λ p bit. number_of Pvfmailbox == number_of p.row && (bit == 6 || bit == 7) }
