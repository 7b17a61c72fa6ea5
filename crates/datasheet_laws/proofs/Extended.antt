-- The device after a write to CTRL_EXT.
use Rattle.std.proofs.Common.{◌≡◌, ◌≢◌, ℕ, ◌<◌, false, cond, if◌then◌else◌, List, [], ◌∷◌, refl, ap, sym, ◌∙◌, subst, arith, lit<}
use Rattle.std.specs.Prelude.{bit_and, fold}
use Rattle.nic_device.specs.RegTable.declared.kind.Kind.TheVariants as kind
use Rattle.nic_device.specs.RegTable.declared.rows.RowId.TheVariants as row
use Rattle.nic_device.specs.RegisterFile.Access.{read_word, stored, calculated}
use Rattle.nic_device.specs.RegisterFile.Mailbox.{done_reported, mail_of, reset_reported, resets_reported}
use Rattle.nic_device.proofs.RegisterFile.ResetWords.{word_at-reset}
use Rattle.datasheet_laws.specs.Prelude.{Block, IsSound, Kind, Names, Place, Registers, Reply, RowId, State}
use Rattle.datasheet_laws.specs.Prelude.{Surroundings, Word, after_write, around, has_bit, merged, new_state, place}
use Rattle.datasheet_laws.specs.Prelude.{range_with_len, reply_to_read, row_of, runs, view_among, word_at, word_of}
use Rattle.datasheet_laws.proofs.Prelude.{cond-false, cond_both, first_address, put_stands, state-read, state-written}
use Rattle.datasheet_laws.proofs.Prelude.{word_at-put_other}
use Rattle.datasheet_laws.specs.Extended.{ExtendedBeginsAtZero, ExtendedKeepsWhatIsWritten}
use Rattle.datasheet_laws.specs.Names.{IsAddressOf}
use Rattle.datasheet_laws.specs.Shown.{word_in}
use Rattle.datasheet_laws.proofs.Addresses.{address_of}
use Rattle.datasheet_laws.proofs.Bits.{has_bit-all, has_bit-merged, has_bit-whole}
use Rattle.datasheet_laws.proofs.Plain.{same_read}
use Rattle.datasheet_laws.proofs.Words.{reply-read}

abbrev extended : Place
extended = place row.CtrlExt 0

there : IsAddressOf extended 0x00018 0xFFFFFFFF
there = address_of extended 0x00018 (first_address extended (lit< tt))

-- The end of a reset is reported only in mailboxes.

all_reported : (vs : List ℕ) (r : Registers) (q : Place) → q.row ≢ row.Pvfmailbox
    → word_at (fold done_reported r vs).words q ≡ word_at r.words q
all_reported [] r q other = refl
all_reported (v ∷ vs) r q other =
    all_reported vs (done_reported r v) q other
    ∙ word_at-put_other r.words (place row.Pvfmailbox v) q (reset_reported (mail_of r v))
    (λ e. other (ap (λ (x : Place). x.row) e))

reported : (r : Registers) (q : Place) → q.row ≢ row.Pvfmailbox → word_at (resets_reported r).words q
    ≡ word_at r.words q
unfolding resets_reported
reported r q other = all_reported (range_with_len 0 64) r q other

-- The registers after a write.

abbrev kept : Registers → ℕ → ℕ → Registers
kept r view word = stored r extended view word

abbrev after : Registers → ℕ → ℕ → Registers
after r view word = cond (has_bit 14 word) (resets_reported (kept r view word)) (kept r view word)

after_word : (r : Registers) (view word : ℕ) (q : Place) → q.row ≢ row.Pvfmailbox
    → word_at (after r view word).words q ≡ word_at (kept r view word).words q
after_word r view word q other =
    cond_both (has_bit 14 word) (resets_reported (kept r view word)) (kept r view word)
    (λ (t : Registers). word_at t.words q ≡ word_at (kept r view word).words q)
    (λ on. reported (kept r view word) q other) (λ off. refl)

abbrev left : State → ℕ → ℕ → State
left s view word = record s { registers = after s.registers view word }

written : (s : State) (word : ℕ) → after_write s 0x00018 word ≡ left s (view_among runs 0x00018) word
written s word = state-written s 0x00018 word extended there.named

-- Other registers.

abbrev new_word : Registers → ℕ → ℕ → ℕ
new_word r view word = merged (bit_and (row_of row.CtrlExt).mask view) (word_at r.words extended) word

kept_other : (r : Registers) (view word : ℕ) (q : Place) → q ≢ extended
    → word_at (kept r view word).words q ≡ word_at r.words q
kept_other r view word q apart = word_at-put_other r.words extended q (new_word r view word) apart

not_control : place row.Ctrl 0 ≢ extended
not_control e = let same : row.Ctrl ≡ row.CtrlExt = ap (λ (x : Place). x.row) e in cc

not_mail : (v : ℕ) → place row.Pvfmailbox v ≢ extended
not_mail v e = let same : row.Pvfmailbox ≡ row.CtrlExt = ap (λ (x : Place). x.row) e in cc

physical_row : (x : RowId) → (row_of x).kind ≡ kind.Pfmail → x ≡ row.Pfmailbox
physical_row row.Pfmailbox e = refl
physical_row other e = cc

same_formula : (r : RowId) (old new : Registers) (world : Surroundings)
    → word_of new row.Ctrl 0 ≡ word_of old row.Ctrl 0 → calculated r new world ≡ calculated r old world
same_formula row.Status old new world control = ap (λ w. if has_bit 2 w then 0 else 0x00080000) control
same_formula other old new world control = refl

same_word : (k : Kind) (old new : Registers) (world : Surroundings) (q : Place) → k ≢ kind.Pfmail
    → word_at new.words q ≡ word_at old.words q → word_of new row.Ctrl 0 ≡ word_of old row.Ctrl 0
    → read_word k new world q ≡ read_word k old world q
same_word kind.Calc old new world q none word control = same_formula q.row old new world control
same_word kind.Set old new world q none word control = refl
same_word kind.Clear old new world q none word control = refl
same_word kind.Vreset old new world q none word control = refl
same_word kind.Pfmail old new world q none word control = absurd (none refl)
same_word other old new world q none word control = word

shows_same : (s t : State) (a : ℕ) (q : Place) → Names a q
    → read_word (row_of q.row).kind t.registers (around t) q ≡ read_word (row_of q.row).kind s.registers (around s) q
    → reply_to_read t a ≡ reply_to_read s a
shows_same s t a q named same =
    reply-read t a q named ∙ ap (λ w. Word (bit_and w (view_among runs a))) same ∙ sym (reply-read s a q named)

module _ (s : State) (view word : ℕ) where
  others_read : (a : ℕ) (q : Place) → Names a q → q ≢ extended → q.row ≢ row.Pvfmailbox → q.row ≢ row.Pfmailbox
      → reply_to_read (left s view word) a ≡ reply_to_read s a
  others_read a q named apart function physical =
      shows_same s (left s view word) a q named
      (same_word (row_of q.row).kind s.registers (after s.registers view word) (around s) q
      (λ e. physical (physical_row q.row e))
      (after_word s.registers view word q function ∙ kept_other s.registers view word q apart)
      (after_word s.registers view word (place row.Ctrl 0) (λ e. cc)
      ∙ kept_other s.registers view word (place row.Ctrl 0) not_control))

  abbrev alone : State
  alone = record s { registers = kept s.registers view word }

  all_read : (a : ℕ) (q : Place) → Names a q → q ≢ extended → reply_to_read alone a ≡ reply_to_read s a
  all_read a q named apart =
      shows_same s alone a q named
      (same_read (row_of q.row).kind s.registers alone.registers (around s) q
      (kept_other s.registers view word q apart)
      (kept_other s.registers view word (place row.Ctrl 0) not_control)
      (kept_other s.registers view word (place row.Pvfmailbox q.index) (not_mail q.index)))

  without_14 : has_bit 14 word ≡ false → left s view word ≡ alone
  without_14 off =
      ap (λ (r : Registers). record s { registers = r })
      (cond-false (has_bit 14 word) (resets_reported (kept s.registers view word)) (kept s.registers view word) off)

-- What is read back.

kept_bit : (s : State) → IsSound s → (word bit : ℕ) → bit < 32
    → has_bit bit (word_in (reply_to_read (after_write s 0x00018 word) 0x00018)) ≡ has_bit bit word
kept_bit s h word bit small =
    let view = view_among runs 0x00018 in
    let old = word_at s.registers.words extended in
    ap (λ (t : State). has_bit bit (word_in (reply_to_read t 0x00018))) (written s word)
    ∙ ap (λ (r : Reply Block). has_bit bit (word_in r)) (reply-read (left s view word) 0x00018 extended there.named)
    ∙ ap (λ w. has_bit bit (bit_and w view))
    (after_word s.registers view word extended (λ e. cc)
    ∙ put_stands s.registers extended _ h.registers.shape (lit< tt))
    ∙ ap (λ v. has_bit bit (bit_and (merged (bit_and 0xFFFFFFFF v) old word) v)) there.view
    ∙ has_bit-whole (merged 0xFFFFFFFF old word) bit small
    ∙ has_bit-merged bit 0xFFFFFFFF old word small (omega arith)
    ∙ ap (λ x. cond x (has_bit bit word) (has_bit bit old)) (has_bit-all bit small)

pub begins_at_zero : ExtendedBeginsAtZero
begins_at_zero vfs fifo =
    reply-read (new_state vfs fifo) 0x00018 extended there.named
    ∙ ap (λ w. Word (bit_and w (view_among runs 0x00018))) (word_at-reset extended (lit< tt))

pub keeps_what_is_written : ExtendedKeepsWhatIsWritten
keeps_what_is_written s h word =
    let view = view_among runs 0x00018 in
    record {
      kept = λ bit small. kept_bit s h word bit small;
      read = state-read s 0x00018 extended there.named;
      others = λ a q named apart function physical.
          ap (λ (t : State). reply_to_read t a) (written s word)
          ∙ others_read s view word a q named apart function physical;
      alone = λ off.
          let same = written s word ∙ without_14 s view word off in
          record {
            reads = λ a q named apart.
                ap (λ (t : State). reply_to_read t a) same ∙ all_read s view word a q named apart;
            rest = subst
                (λ (t : State). t ≡ record s { registers = record s.registers { words = t.registers.words } })
                (sym same) refl;
          };
    }
