-- Which other registers are unchanged by accesses to mailboxes, CTRL, EERD and PFMBICR.
use Rattle.std.specs.Prelude.{ℕ, ◌≡◌, ◌≢◌, ◌<◌, ◌+◌, ◌*◌, ◌/◌}
use Rattle.reg_table.specs.declared.rows.RowId.TheVariants.{Ctrl, Eerd, Eicr, Pvteicr, Pfmbicr, Pvfmailbox}
use Rattle.datasheet_laws.specs.NumberPrelude.{Registers, RowId}
use Rattle.datasheet_laws.specs.ByAddress.{word, read_at, write_at}
use Rattle.datasheet_laws.specs.ByKind.{at}
use Rattle.datasheet_laws.specs.Mailbox.{own, other}
use Rattle.datasheet_laws.specs.Table.{line_of}

-- Register j of row y isn't register i of row x.
abbrev pub IsOther : (x : RowId) (i : ℕ) (y : RowId) (j : ℕ) → Type 0
IsOther x i y j = y ≡ x → j ≢ i

-- A write to function v's mailbox changes only PVFMAILBOX[v], PFMBICR[v / 16] and EICR. A write by the physical
-- function changes only PVFMAILBOX[v] and PVTEICR[v], and a read by the function only PVFMAILBOX[v].
pub record MailLeavesOthers (r : Registers) (v w : ℕ) (y : RowId) (j : ℕ) : Type 0 where
  pub function :
      IsOther Pvfmailbox v y j → IsOther Pfmbicr (v / 16) y j → IsOther Eicr 0 y j →
      word (write_at r (own v) w) (at y j) ≡ word r (at y j)
  pub physical :
      IsOther Pvfmailbox v y j → IsOther Pvteicr v y j → word (write_at r (other v) w) (at y j) ≡ word r (at y j)
  pub read : IsOther Pvfmailbox v y j → word (read_at r (own v)) (at y j) ≡ word r (at y j)

abbrev pub MailboxesLeaveOthers : Type 0
MailboxesLeaveOthers =
    (r : Registers) (v w : ℕ) → v < 64 → (y : RowId) (j : ℕ) → j < (line_of y).count → MailLeavesOthers r v w y j

-- A write to CTRL that requests no reset changes only CTRL, a write to EERD only EERD, and a write to PFMBICR[k] only
-- PFMBICR[k].
pub record WriteLeavesOthers (r : Registers) (k w : ℕ) (y : RowId) (j : ℕ) : Type 0 where
  pub control : IsOther Ctrl 0 y j → word (write_at r 0x00000 w) (at y j) ≡ word r (at y j)
  pub eeprom : IsOther Eerd 0 y j → word (write_at r 0x10014 w) (at y j) ≡ word r (at y j)
  pub requests : IsOther Pfmbicr k y j → word (write_at r (0x00710 + 4 * k) w) (at y j) ≡ word r (at y j)

abbrev pub WritesLeaveOthers : Type 0
WritesLeaveOthers =
    (r : Registers) (k w : ℕ) → k < 4 → (y : RowId) (j : ℕ) → j < (line_of y).count → WriteLeavesOthers r k w y j
