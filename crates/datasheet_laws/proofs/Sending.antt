-- Requests and acknowledgements of functions, as reads of PFMBICR show them.
use Rattle.std.proofs.Common.{◌≡◌, ◌≢◌, ℕ, ◌<◌, ◌+◌, ◌/◌, ◌%◌, ◌^◌, Bool, true, false, ◌==◌, ◌&&◌, ◌||◌, ◌⊎◌, refl, ap, sym, ◌∙◌, inl, inr, arith}
use Rattle.std.proofs.Math.Bool.{or-false}
use Rattle.nic_device.specs.RegTable.declared.rows.RowId.TheVariants as row
use Rattle.nic_device.specs.RegisterFile.Mailbox.{set_if, function_wrote, mail_of, with_mail, requests, with_requests, physical_signalled, function_writes, cause_set, sends}
use Rattle.nic_device.specs.RegisterLaws.Laws.{HasShape}
use Rattle.nic_device.proofs.RegisterLaws.MailBits.{has_bit-or, has_bit-zero, has_bit-set_other}
use Rattle.nic_device.specs.declared.event.Event.TheVariants as event
use Rattle.datasheet_laws.specs.Prelude.{Pf, Place, Registers, State, after, bit_set, has_bit, named_written, place}
use Rattle.datasheet_laws.specs.Prelude.{step_of, word_of}
use Rattle.datasheet_laws.proofs.Prelude.{HasShape-put, cases_eq, cond_both, eq-eqb, first_address, has_bit-set, ne_eqb}
use Rattle.datasheet_laws.proofs.Prelude.{put_stands, word_at-put_other}
use Rattle.datasheet_laws.specs.Sending.{RequestsAreApart, asks_by, requests_address}
use Rattle.datasheet_laws.specs.Shown.{reads_one}
use Rattle.datasheet_laws.proofs.Addresses.{address_of}
use Rattle.datasheet_laws.proofs.Words.{whole-read}

-- A bit of a word in which another may be set.
set_if-bit : (b : Bool) (n word bit : ℕ) → has_bit bit (set_if b n word) ≡ ((b && bit == n) || has_bit bit word)
set_if-bit false n word bit = refl
set_if-bit true n word bit =
    elim (cases_eq bit n) as (λ _. has_bit bit (bit_set n word) ≡ ((bit == n) || has_bit bit word)) [
      | inl same ↦ ap (λ m. has_bit m (bit_set n word)) same ∙ has_bit-set n word
          ∙ sym (ap (λ b. b || has_bit bit word) (eq-eqb bit n same))
      | inr apart ↦ has_bit-set_other n bit word apart ∙ sym (ap (λ b. b || has_bit bit word) (ne_eqb bit n apart))
    ]

requests-bit : (v word bit : ℕ) → has_bit bit (requests v word)
    ≡ ((has_bit 0 word && bit == v % 16) || (has_bit 1 word && bit == 16 + v % 16))
requests-bit v word bit =
    set_if-bit (has_bit 0 word) (v % 16) _ bit
    ∙ ap (λ b. (has_bit 0 word && bit == v % 16) || b)
    (set_if-bit (has_bit 1 word) (16 + v % 16) 0 bit
    ∙ ap (λ b. (has_bit 1 word && bit == 16 + v % 16) || b) (has_bit-zero bit)
    ∙ or-false (has_bit 1 word && bit == 16 + v % 16))

module _ (r : Registers) (h : HasShape r) (v word : ℕ) (there : v < 64) (k : ℕ) where
  abbrev Held : Registers
  Held = with_mail r v (function_wrote (mail_of r v) word)

  -- Neither the mailbox's word nor a cause's word is a word of PFMBICR.
  by_mail : word_of Held row.Pfmbicr k ≡ word_of r row.Pfmbicr k
  by_mail =
      word_at-put_other r.words (place row.Pvfmailbox v) (place row.Pfmbicr k) _
      (λ same. let rows : row.Pfmbicr ≡ row.Pvfmailbox = ap (λ (q : Place). q.row) same in cc)

  by_cause : (t : Registers) → word_of (cause_set t Pf (2 ^ 19)) row.Pfmbicr k ≡ word_of t row.Pfmbicr k
  by_cause t =
      word_at-put_other t.words (place row.Eicr 0) (place row.Pfmbicr k) _
      (λ same. let rows : row.Pfmbicr ≡ row.Eicr = ap (λ (q : Place). q.row) same in cc)

  reported : (t : Registers) → word_of (physical_signalled t v word) row.Pfmbicr k ≡ word_of t row.Pfmbicr k
  reported t =
      cond_both (sends word && has_bit (v % 32) (word_of t row.Pfmbimr (v / 32))) (cause_set t Pf (2 ^ 19)) t
      (λ u. word_of u row.Pfmbicr k ≡ word_of t row.Pfmbicr k) (λ on. by_cause t) (λ off. refl)

  asked : (k ≡ v / 16) ⊎ (k ≢ v / 16) → (bit : ℕ) → has_bit bit (word_of (with_requests Held v word) row.Pfmbicr k)
      ≡ (has_bit bit (word_of r row.Pfmbicr k) || asks_by v word k bit)
  asked (inl same) bit =
      let low : v / 16 < 4 = omega arith in
      let old = word_of Held row.Pfmbicr (v / 16) in
      ap (λ i. has_bit bit (word_of (with_requests Held v word) row.Pfmbicr i)) same
      ∙ ap (has_bit bit) (put_stands Held (place row.Pfmbicr (v / 16)) _
      (HasShape-put r (place row.Pvfmailbox v) (function_wrote (mail_of r v) word) h) low)
      ∙ has_bit-or bit old (requests v word)
      ∙ (λ j. has_bit bit (word_of Held row.Pfmbicr (sym same j)) || requests-bit v word bit j)
      ∙ (λ j. has_bit bit (by_mail j) || (sym (eq-eqb k (v / 16) same) j
      && ((has_bit 0 word && bit == v % 16) || (has_bit 1 word && bit == 16 + v % 16))))
  asked (inr apart) bit =
      ap (has_bit bit) (word_at-put_other Held.words (place row.Pfmbicr (v / 16)) (place row.Pfmbicr k) _
      (λ same. apart (ap (λ (q : Place). q.index) same)) ∙ by_mail)
      ∙ sym (or-false (has_bit bit (word_of r row.Pfmbicr k)))
      ∙ (λ j. has_bit bit (word_of r row.Pfmbicr k) || (sym (ne_eqb k (v / 16) apart) j
      && ((has_bit 0 word && bit == v % 16) || (has_bit 1 word && bit == 16 + v % 16))))

  sent : (bit : ℕ) → has_bit bit (word_of (function_writes r v word) row.Pfmbicr k)
      ≡ (has_bit bit (word_of r row.Pfmbicr k) || asks_by v word k bit)
  sent bit = ap (has_bit bit) (reported (with_requests Held v word)) ∙ asked (cases_eq k (v / 16)) bit

-- A bit that reads of PFMBICR show.
shown : (s : State) (k bit : ℕ) → k < 4 → bit < 32
    → reads_one s (requests_address k) bit ≡ has_bit bit (word_of s.registers row.Pfmbicr k)
shown s k bit there b =
    whole-read s (requests_address k) bit (place row.Pfmbicr k)
    (address_of (place row.Pfmbicr k) _ (first_address (place row.Pfmbicr k) there)) b

pub requests_apart : RequestsAreApart
unfolding step_of
requests_apart s sound v there port number view word is k bit row_there b =
    let t : State = after s (event.Write port number word) in
    shown t k bit row_there b
    ∙ ap (λ m. has_bit bit (word_of (named_written s m word).state.registers row.Pfmbicr k)) is
    ∙ sent s.registers sound.registers.shape v word there k bit
    ∙ ap (λ b. b || asks_by v word k bit) (sym (shown s k bit row_there b))
