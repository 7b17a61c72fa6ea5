-- Which other registers accesses leave unchanged.
use Rattle.std.proofs.Common.{◌≡◌, ℕ, ◌<◌, ◌/◌, ◌%◌, ◌^◌, ◌&&◌, refl, ap, sym, ◌∙◌, lit<}
use Rattle.std.proofs.lemmas.Bool.{cond_both}
use Rattle.intr_unit.specs.Group.{queue_causes}
use Rattle.reg_table.specs.declared.kind.Kind.TheVariants as kind
use Rattle.reg_table.specs.declared.rows.RowId.TheVariants as row
use Rattle.register_file.specs.Mailbox.{mail_of, with_mail, function_wrote, physical_wrote, reported_once, cause_set, with_requests, function_writes, physical_writes, mail_read, sends}
use Rattle.register_file.specs.Words.{put}
use Rattle.register_laws.proofs.Puts.{word_at-put_other}
use Rattle.datasheet_laws.specs.NumberPrelude.{Pf, Place, Registers, RowId, Vf, has_bit, word_of, written}
use Rattle.datasheet_laws.specs.ByAddress.{word}
use Rattle.datasheet_laws.specs.ByKind.{at}
use Rattle.datasheet_laws.specs.Others.{IsOther, MailboxesLeaveOthers, WritesLeaveOthers}
use Rattle.datasheet_laws.specs.Table.{line_of, whole}
use Rattle.datasheet_laws.proofs.ByAddress.{word-at, left-at, wrote-at}
use Rattle.datasheet_laws.proofs.Table.{at as place}

module _ (y : RowId) (j : ℕ) (inside : j < (line_of y).count) where
  -- Storing a word of another register leaves this register's word unchanged.
  stands : (r : Registers) (x : RowId) (i w : ℕ) → IsOther x i y j
      → word_of (record r { words = put r.words (place x i) w }) y j ≡ word_of r y j
  stands r x i w apart =
      word_at-put_other r.words (place x i) (place y j) w
      (λ same. apart (ap (λ (q : Place). q.row) same) (ap (λ (q : Place). q.index) same))

  -- A word that is unchanged reads as unchanged at its address.
  shows : (r new : Registers) → word_of new y j ≡ word_of r y j → word new (at y j) ≡ word r (at y j)
  shows r new same = word-at new y j inside ∙ same ∙ sym (word-at r y j inside)

  module _ (r : Registers) (v w : ℕ) where
    Asked : Registers
    Asked = with_requests (with_mail r v (function_wrote (mail_of r v) w)) v w

    by_function : IsOther row.Pvfmailbox v y j → IsOther row.Pfmbicr (v / 16) y j → IsOther row.Eicr 0 y j
        → word_of (function_writes r v w) y j ≡ word_of r y j
    unfolding Asked
    by_function mail requests cause =
        cond_both (sends w && has_bit (v % 32) (word_of Asked row.Pfmbimr (v / 32))) (cause_set Asked Pf (2 ^ 19)) Asked
        (λ t. word_of t y j ≡ word_of Asked y j) (λ on. stands Asked row.Eicr 0 _ cause) (λ off. refl)
        ∙ stands (with_mail r v (function_wrote (mail_of r v) w)) row.Pfmbicr (v / 16) _ requests
        ∙ stands r row.Pvfmailbox v (function_wrote (mail_of r v) w) mail

    Sent : Registers
    Sent = with_mail r v (physical_wrote (mail_of r v) w)

    by_physical : IsOther row.Pvfmailbox v y j → IsOther row.Pvteicr v y j
        → word_of (physical_writes r v w) y j ≡ word_of r y j
    unfolding Sent
    by_physical mail cause =
        cond_both (sends w) (cause_set Sent (Vf v) (queue_causes (Vf v) (word_of Sent row.PvtivarMisc v % 256))) Sent
        (λ t. word_of t y j ≡ word_of Sent y j) (λ on. stands Sent row.Pvteicr v _ cause) (λ off. refl)
        ∙ stands r row.Pvfmailbox v (physical_wrote (mail_of r v) w) mail

pub mailboxes_leave : MailboxesLeaveOthers
mailboxes_leave r v w there y j inside = record {
  function = λ mail requests cause.
      ap (λ s. word s (at y j)) (wrote-at r row.Pvfmailbox v there w)
      ∙ shows y j inside r (function_writes r v w) (by_function y j inside r v w mail requests cause);
  physical = λ mail cause.
      ap (λ s. word s (at y j)) (wrote-at r row.Pfmailbox v there w)
      ∙ shows y j inside r (physical_writes r v w) (by_physical y j inside r v w mail cause);
  read = λ mail.
      ap (λ s. word s (at y j)) (left-at r row.Pvfmailbox v there)
      ∙ shows y j inside r (mail_read r v) (stands y j inside r row.Pvfmailbox v (reported_once (mail_of r v)) mail);
}

pub writes_leave : WritesLeaveOthers
writes_leave r k w few y j inside = record {
  control = λ apart.
      ap (λ s. word s (at y j)) (wrote-at r row.Ctrl 0 (lit< tt) w)
      ∙ shows y j inside r (written kind.Ctrl r (place row.Ctrl 0) whole w) (stands y j inside r row.Ctrl 0 _ apart);
  eeprom = λ apart.
      ap (λ s. word s (at y j)) (wrote-at r row.Eerd 0 (lit< tt) w)
      ∙ shows y j inside r (written kind.Eerd r (place row.Eerd 0) whole w) (stands y j inside r row.Eerd 0 _ apart);
  requests = λ apart.
      ap (λ s. word s (at y j)) (wrote-at r row.Pfmbicr k few w)
      ∙ shows y j inside r (written kind.W1c r (place row.Pfmbicr k) whole w)
      (stands y j inside r row.Pfmbicr k _ apart);
}
