-- A reset is reported to a function once.
use Rattle.std.proofs.Common.{◌≡◌, ◌≢◌, ℕ, suc, zero, ◌+◌, ◌<◌, ◌≤◌, Bool, true, false, cond, ◌&&◌, ◌||◌, ◌⊎◌, List, [], ◌∷◌, refl, ap, sym, ◌∙◌, subst, inl, inr, arith, lit<}
use Rattle.std.specs.Prelude.{fold}
use Rattle.std.proofs.lemmas.Bool.{cases_Bool, cases_eq, cond_both, cond-true, cond-false, both_ways, and_parts}
use Rattle.nic_device.specs.RegTable.declared.kind.Kind.TheVariants as kind
use Rattle.nic_device.specs.RegTable.declared.rows.RowId.TheVariants as row
use Rattle.nic_device.specs.RegisterFile.Access.{stored, written}
use Rattle.nic_device.specs.RegisterFile.Mailbox.{mail_of, reported_once, reset_reported, done_reported, resets_reported}
use Rattle.nic_device.specs.RegisterLaws.Laws.{HasShape, after_write as word_written}
use Rattle.nic_device.proofs.RegisterLaws.Bits.{has_bit-set, has_bit-clear}
use Rattle.nic_device.proofs.RegisterLaws.MailBits.{has_bit-set_other, has_bit-clear_other, once_keeps}
use Rattle.nic_device.specs.declared.event.Event.TheVariants as event
use Rattle.datasheet_laws.specs.Prelude.{Block, Event, IsSound, Kind, Named, Nothing, Place, Port, Register, Registers}
use Rattle.datasheet_laws.specs.Prelude.{State, after, bit_cleared, bit_set, has_bit, mode_in, named, named_read}
use Rattle.datasheet_laws.specs.Prelude.{named_written, place, range_with_len, reply_to, row_of, step_of}
use Rattle.datasheet_laws.proofs.Prelude.{HasShape-put, and-false, is_place-other, keeps_sound, put_stands}
use Rattle.datasheet_laws.proofs.Prelude.{renewed-pool, word_at-put_other}
use Rattle.datasheet_laws.proofs.Bits.{has_bit-and}
use Rattle.datasheet_laws.proofs.Lasting.{in_range}
use Rattle.datasheet_laws.proofs.MailEvents.{apart_mail, still_holds, read_holds, word_holds, write_holds, mail_place, Side}
use Rattle.datasheet_laws.proofs.MailEvents.{function, physical, neither, side_of, Made, reading, writing, silent, made}
use Rattle.datasheet_laws.proofs.SharedMailbox.{own}
use Rattle.datasheet_laws.specs.Holding.{IsSparing}
use Rattle.datasheet_laws.specs.Shown.{word_in}
use Rattle.datasheet_laws.specs.Resets.{is_mailbox, tells_end, times_reported, SparesDevice, AreWithoutReset}
use Rattle.datasheet_laws.specs.Resets.{EndIsReportedOnce, EndIsReported}

-- The new value of a mailbox's word.

once_7 : (mail : ℕ) → has_bit 7 (reported_once mail) ≡ false
once_7 mail =
    has_bit-clear_other 4 7 (bit_cleared 5 (bit_cleared 7 mail)) (λ same. omega arith)
    ∙ has_bit-clear_other 5 7 (bit_cleared 7 mail) (λ same. omega arith) ∙ has_bit-clear 7 mail

reset_6 : (mail : ℕ) → has_bit 6 (reset_reported mail) ≡ false
reset_6 mail =
    elim (cases_Bool (has_bit 6 mail)) as (λ _. has_bit 6 (reset_reported mail) ≡ false) [
      | inl on ↦ ap (has_bit 6) (cond-true (has_bit 6 mail) (bit_set 7 (bit_cleared 6 mail)) mail on)
          ∙ has_bit-set_other 7 6 (bit_cleared 6 mail) (λ same. omega arith) ∙ has_bit-clear 6 mail
      | inr off ↦ ap (has_bit 6) (cond-false (has_bit 6 mail) (bit_set 7 (bit_cleared 6 mail)) mail off) ∙ off
    ]

reset_7 : (mail : ℕ) → has_bit 7 (reset_reported mail) ≡ (has_bit 6 mail || has_bit 7 mail)
reset_7 mail =
    elim (cases_Bool (has_bit 6 mail)) as (λ _. has_bit 7 (reset_reported mail) ≡ (has_bit 6 mail || has_bit 7 mail)) [
      | inl on ↦ ap (has_bit 7) (cond-true (has_bit 6 mail) (bit_set 7 (bit_cleared 6 mail)) mail on)
          ∙ has_bit-set 7 (bit_cleared 6 mail) ∙ sym (ap (λ b. b || has_bit 7 mail) on)
      | inr off ↦ ap (has_bit 7) (cond-false (has_bit 6 mail) (bit_set 7 (bit_cleared 6 mail)) mail off)
          ∙ sym (ap (λ b. b || has_bit 7 mail) off)
    ]

-- Each function's mailbox after all reports.
past : (r : Registers) (v a n : ℕ) → v < a → mail_of (fold done_reported r (range_with_len a n)) v ≡ mail_of r v
past r v a zero low = refl
past r v a (suc n) low =
    past (done_reported r a) v (a + 1) n (omega arith)
    ∙ word_at-put_other r.words (place row.Pvfmailbox a) (place row.Pvfmailbox v) _
    (λ same. let is : v ≡ a = ap (λ (q : Place). q.index) same in omega arith)

each_reported : (r : Registers) → HasShape r → (v a n : ℕ) → v < 64 → a ≤ v → v < a + n
    → mail_of (fold done_reported r (range_with_len a n)) v ≡ reset_reported (mail_of r v)
each_reported r h v a zero there low high = absurd (omega arith)
each_reported r h v a (suc n) there low high =
    elim (cases_eq v a)
    as (λ _. mail_of (fold done_reported (done_reported r a) (range_with_len (a + 1) n)) v
    ≡ reset_reported (mail_of r v)) [
      | inl same ↦ past (done_reported r a) v (a + 1) n (omega arith)
          ∙ (λ k. mail_of (done_reported r (sym same k)) v)
          ∙ put_stands r (place row.Pvfmailbox v) (reset_reported (mail_of r v)) h there
      | inr apart ↦ each_reported (done_reported r a)
          (HasShape-put r (place row.Pvfmailbox a) (reset_reported (mail_of r a)) h) v (a + 1) n there
          (omega arith) (omega arith)
          ∙ ap reset_reported (word_at-put_other r.words (place row.Pvfmailbox a) (place row.Pvfmailbox v) _
          (λ same. apart (ap (λ (q : Place). q.index) same)))
    ]

all_reported : (r : Registers) → HasShape r → (v : ℕ) → v < 64 → mail_of (resets_reported r) v
    ≡ reset_reported (mail_of r v)
unfolding resets_reported
all_reported r h v there = each_reported r h v 0 64 there (omega arith) there

-- A function that no reset is reported to.

record IsUnreported (s : State) (v : ℕ) : Type 0 where
  begun : has_bit 6 (mail_of s.registers v) ≡ false
  done : has_bit 7 (mail_of s.registers v) ≡ false

-- Whether a number names the mailbox.
data IsRead (v : ℕ) (m : Named) : Type 0 where
  here : (view : ℕ) → m ≡ Register (place row.Pvfmailbox v) view → IsRead v m
  off : ((p : Place) (view : ℕ) → m ≡ Register p view → (row_of p.row).kind ≡ kind.Vfmail → p.index ≢ v) → IsRead v m

module _ (v : ℕ) (p : Place) (view : ℕ) where
  no_mail : (row_of p.row).kind ≢ kind.Vfmail → IsRead v (Register p view)
  no_mail other = off (λ q w e is.
      let same : p ≡ q = cc in absurd (other (ap (λ (x : Place). (row_of x.row).kind) same ∙ is)))

  read_by : Side (row_of p.row).kind → IsRead v (Register p view)
  read_by (physical e) = no_mail (λ is. cc)
  read_by (neither one other) = no_mail one
  read_by (function e) =
      elim (cases_eq p.index v) as (λ _. IsRead v (Register p view)) [
        | inl same ↦ here view (ap (λ q. Register q view) (mail_place p e ∙ ap (place row.Pvfmailbox) same))
        | inr apart ↦ off (λ q w e is. let same : p ≡ q = cc in subst (λ (x : Place). x.index ≢ v) same apart)
      ]

is_read : (v : ℕ) (m : Named) → IsRead v m
is_read v (Nothing seen) = off (λ p view e is. cc)
is_read v (Register p view) = read_by v p view (side_of (row_of p.row).kind)

not_mailbox : (v : ℕ) (m : Named)
    → ((p : Place) (view : ℕ) → m ≡ Register p view → (row_of p.row).kind ≡ kind.Vfmail → p.index ≢ v)
    → is_mailbox v m ≡ false
not_mailbox v (Nothing seen) other = refl
not_mailbox v (Register p view) other =
    is_place-other (place row.Pvfmailbox v) p
    (λ same. other p view refl (ap (λ (q : Place). (row_of q.row).kind) same) (ap (λ (q : Place). q.index) same))

ctrlext_or : (k : Kind) → (k ≡ kind.Ctrlext) ⊎ (k ≢ kind.Ctrlext)
ctrlext_or kind.Ctrlext = inl refl
ctrlext_or kind.Rw = inr (λ e. cc)
ctrlext_or other = inr (λ e. cc)

module _ (s : State) (h : IsSound s) (v : ℕ) (there : v < 64) where
  abbrev Mail : ℕ
  Mail = mail_of s.registers v

  -- A read of the mailbox.
  read_mail : (port : Port) (number view : ℕ) → named s port number ≡ Register (place row.Pvfmailbox v) view
      → mail_of (after s (event.Read port number)).registers v ≡ reported_once Mail
  unfolding step_of
  read_mail port number view is =
      ap (λ m. mail_of (named_read s m).state.registers v) is
      ∙ put_stands s.registers (place row.Pvfmailbox v) (reported_once Mail) h.registers.shape there

  reported_now : (port : Port) (number view : ℕ) → named s port number ≡ Register (place row.Pvfmailbox v) view
      → has_bit 6 Mail ≡ false → IsUnreported (after s (event.Read port number)) v
  reported_now port number view is none = record {
    begun = ap (has_bit 6) (read_mail port number view is) ∙ once_keeps Mail 6 refl ∙ none;
    done = ap (has_bit 7) (read_mail port number view is) ∙ once_7 Mail;
  }

  -- Bit 7 of the word that the read returns.
  reply_bit : (port : Port) (number view : ℕ) → named s port number ≡ Register (place row.Pvfmailbox v) view
      → has_bit 7 (word_in (reply_to s (event.Read port number))) ≡ (has_bit 7 Mail && has_bit 7 view)
  unfolding step_of
  reply_bit port number view is =
      ap (λ m. has_bit 7 (word_in (named_read s m).reply)) is ∙ has_bit-and Mail view 7

  -- A write to CTRL_EXT.
  module _ (p : Place) (e : (row_of p.row).kind ≡ kind.Ctrlext) (view word : ℕ) where
    kept_mail : mail_of (stored s.registers p view word) v ≡ Mail
    kept_mail =
        word_at-put_other s.registers.words p (place row.Pvfmailbox v) _
        (λ same. let is : kind.Vfmail ≡ kind.Ctrlext = ap (λ (q : Place). (row_of q.row).kind) same ∙ e in cc)

    reported_mail : mail_of (resets_reported (stored s.registers p view word)) v ≡ reset_reported Mail
    reported_mail =
        all_reported (stored s.registers p view word) (HasShape-put s.registers p _ h.registers.shape) v there
        ∙ ap reset_reported kept_mail

    unreported_mail : has_bit 6 Mail ≡ false → mail_of (word_written s.registers p view word) v ≡ Mail
    unreported_mail none =
        ap (λ k. mail_of (written k s.registers p view word) v) e
        ∙ cond_both (has_bit 14 word) (resets_reported (stored s.registers p view word))
        (stored s.registers p view word)
        (λ r. mail_of r v ≡ Mail) (λ on. reported_mail ∙ cond-false (has_bit 6 Mail) _ Mail none) (λ no. kept_mail)

  module _ (u : IsUnreported s v) where
    unreported_read : (port : Port) (number : ℕ) → IsRead v (named s port number)
        → IsUnreported (after s (event.Read port number)) v
    unreported_read port number (here view is) = reported_now port number view is u.begun
    unreported_read port number (off other) = record {
      begun = read_holds v 6 false s port number (λ p view is e. and-false _) u.begun;
      done = read_holds v 7 false s port number
          (λ p view is e. ap (λ b. b && true) (apart_mail p.index v (other p view is e))) u.done;
    }

    unreported_word : (p : Place) (view word : ℕ)
        → ((row_of p.row).kind ≡ kind.Ctrlext) ⊎ ((row_of p.row).kind ≢ kind.Ctrlext)
        → IsUnreported (record s { registers = word_written s.registers p view word }) v
    unreported_word p view word (inl e) = record {
      begun = ap (has_bit 6) (unreported_mail p e view word u.begun) ∙ u.begun;
      done = ap (has_bit 7) (unreported_mail p e view word u.begun) ∙ u.done;
    }
    unreported_word p view word (inr other) = record {
      begun = word_holds v 6 false s p view word (record {
        own = λ is. and-false _;
        physical = λ is. and-false _;
        extended = λ is. absurd (other is);
      }) u.begun;
      done = word_holds v 7 false s p view word (record {
        own = λ is. and-false _;
        physical = λ is. and-false _;
        extended = λ is. absurd (other is);
      }) u.done;
    }

    unreported_written : (port : Port) (number word : ℕ) (m : Named) → named s port number ≡ m
        → ((p : Place) (view : ℕ) → m ≡ Register p view → SparesDevice p word)
        → IsUnreported (named_written s m word).state v
    unreported_written port number word (Nothing seen) is spares = u
    unreported_written port number word (Register p view) is spares =
        let inside = in_range s port number p view is in
        let plain = unreported_word p view word (ctrlext_or (row_of p.row).kind) in
        let pool = (renewed-pool s.registers (mode_in s.registers) p.index).alone in
        record {
          begun = write_holds v 6 false s p view word inside (spares p view refl)
              (λ asks. pool.bits (place row.Pvfmailbox v) 6 refl ∙ u.begun) plain.begun;
          done = write_holds v 7 false s p view word inside (spares p view refl)
              (λ asks. pool.bits (place row.Pvfmailbox v) 7 refl ∙ u.done) plain.done;
        }

    unreported_event : (e : Event Block) → Made e → IsSparing SparesDevice s e → IsUnreported (after s e) v
    unfolding step_of
    unreported_event e (reading port number) spares = unreported_read port number (is_read v (named s port number))
    unreported_event e (writing port number word) spares =
        unreported_written port number word (named s port number) refl spares
    unreported_event e (silent other no_read quiet) spares = record {
      begun = still_holds v 6 false s other no_read quiet u.begun;
      done = still_holds v 7 false s other no_read quiet u.done;
    }

    unreported_reply : (port : Port) (number : ℕ) → IsRead v (named s port number)
        → tells_end s v (event.Read port number) ≡ false
    unreported_reply port number (here view is) =
        ap (λ b. is_mailbox v (named s port number) && b)
        (reply_bit port number view is ∙ ap (λ b. b && has_bit 7 view) u.done)
        ∙ and-false _
    unreported_reply port number (off other) =
        ap (λ b. b && has_bit 7 (word_in (reply_to s (event.Read port number))))
        (not_mailbox v (named s port number) other)

    unreported_tells : (e : Event Block) → tells_end s v e ≡ false
    unreported_tells (event.Read port number) = unreported_reply port number (is_read v (named s port number))
    unreported_tells other = refl

  -- The read that reports the end.
  reported_read : (port : Port) (number : ℕ) → IsRead v (named s port number)
      → tells_end s v (event.Read port number) ≡ true → IsUnreported (after s (event.Read port number)) v
  reported_read port number (off other) tells =
      absurd (both_ways (is_mailbox v (named s port number)) (not_mailbox v (named s port number) other)
      (and_parts _ _ tells).0)
  reported_read port number (here view is) tells =
      let seven : has_bit 7 Mail ≡ true =
      (and_parts _ _ (sym (reply_bit port number view is) ∙ (and_parts _ _ tells).1)).0 in
      reported_now port number view is (elim (cases_Bool (has_bit 6 Mail)) as (λ _. has_bit 6 Mail ≡ false) [
        | inr none ↦ none
        | inl six ↦ absurd (both_ways (has_bit 6 Mail && has_bit 7 Mail) (h.registers.mail v).end
            (λ k. six k && seven k))
      ])

  reported_event : (e : Event Block) → tells_end s v e ≡ true → IsUnreported (after s e) v
  reported_event (event.Read port number) tells = reported_read port number (is_read v (named s port number)) tells
  reported_event other tells = cc

-- Lists of events.

unreported_list : (s : State) → IsSound s → (v : ℕ) → v < 64 → IsUnreported s v → (es : List (Event Block))
    → AreWithoutReset s es → times_reported s v es ≡ 0
unreported_list s h v there u [] none = refl
unreported_list s h v there u (e ∷ es) none =
    let rest = unreported_list (after s e) (keeps_sound s h e none.0) v there
    (unreported_event s h v there u e (made e) none.1) es none.2 in
    λ k. cond (unreported_tells s h v there u e k) 1 0 + rest k

one_at_most : (b : Bool) (n : ℕ) → (b ≡ true → n ≡ 0) → n ≤ 1 → cond b 1 0 + n ≤ 1
one_at_most true n none low = let rest = none refl in omega arith
one_at_most false n none low = omega arith

pub end_reported_once : EndIsReportedOnce
end_reported_once s h v there [] none = omega arith
end_reported_once s h v there (e ∷ es) none =
    let sound = keeps_sound s h e none.0 in
    one_at_most (tells_end s v e) (times_reported (after s e) v es)
    (λ tells. unreported_list (after s e) sound v there (reported_event s h v there e tells) es none.2)
    (end_reported_once (after s e) sound v there es none.2)

pub end_reported : EndIsReported
unfolding step_of
end_reported s h v there port number view word is on =
    let t : State = after s (event.Write port number word) in
    let mail : mail_of t.registers v ≡ reset_reported (mail_of s.registers v) =
    ap (λ m. mail_of (named_written s m word).state.registers v) is
    ∙ ap (λ r. mail_of r v) (cond-true (has_bit 14 word)
    (resets_reported (stored s.registers (place row.CtrlExt 0) view word))
    (stored s.registers (place row.CtrlExt 0) view word) on)
    ∙ reported_mail s h v there (place row.CtrlExt 0) refl view word in
    record {
      begun = own t v there 6 (lit< tt) ∙ ap (has_bit 6) mail ∙ reset_6 (mail_of s.registers v);
      done = own t v there 7 (lit< tt) ∙ ap (has_bit 7) mail ∙ reset_7 (mail_of s.registers v)
          ∙ (λ k. sym (own s v there 6 (lit< tt)) k || sym (own s v there 7 (lit< tt)) k);
    }
