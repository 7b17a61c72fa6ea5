-- At most one side holds a mailbox, and each access preserves this.
use Rattle.std.proofs.Common.{◌≡◌, ℕ, ◌<◌, Bool, true, false, cond, ◌&&◌, refl, ap, sym, ◌∙◌, subst, inl, inr, arith}
use Rattle.register_file.specs.RegTable.declared.kind.Kind.TheVariants as kind
use Rattle.register_file.specs.Mailbox.{function_wrote, released, taken, physical_wrote, reported_once, reset_reported, mail_of}
use Rattle.register_laws.specs.Prelude.{Kind, Place, Pvfmailbox, Registers, bit_cleared, bit_set, has_bit, place, put}
use Rattle.register_laws.specs.Prelude.{reset_registers, row_of, row_words, word_at}
use Rattle.register_laws.proofs.Prelude.{both_ways, cases_Bool, cases_lt, get_or_past, word_at-reset}
use Rattle.register_laws.specs.Footprint.{is_place}
use Rattle.register_laws.specs.Sound.{IsMail}
use Rattle.register_laws.proofs.Bits.{has_bit-clear}
use Rattle.register_laws.proofs.MailBits.{has_bit-set_other, has_bit-clear_other, function_keeps, once_keeps, reset_keeps}
use Rattle.register_laws.proofs.Owners.{apart, is_place-itself, is_place-same}
use Rattle.register_laws.proofs.Puts.{word_at-put_other, put_cases}
use Rattle.register_laws.proofs.Shape.{HasShape-reset}

-- Whether the words of a kind are mailboxes.
abbrev pub is_mail : Kind → Bool
is_mail kind.Vfmail = true
is_mail other = false

-- If a new bit is set only when the old bit was set, the new bit excludes what the old bit excluded.
fewer : (new old third : Bool) → (new ≡ true → old ≡ true) → (old && third) ≡ false → (new && third) ≡ false
fewer true old third less none = ap (λ b. b && third) (sym (less refl)) ∙ none
fewer false old third less none = refl

pub mail_fewer : (old new : ℕ) → (has_bit 2 new ≡ true → has_bit 2 old ≡ true)
    → has_bit 3 new ≡ has_bit 3 old → has_bit 6 new ≡ has_bit 6 old → has_bit 7 new ≡ has_bit 7 old
    → IsMail old → IsMail new
mail_fewer old new less third sixth seventh is = record {
  holder = ap (λ b. has_bit 2 new && b) third ∙ fewer (has_bit 2 new) (has_bit 2 old) (has_bit 3 old) less is.holder;
  end = (λ k. sixth k && seventh k) ∙ is.end;
}

pub mail_same : (old new : ℕ) → new ≡ old → IsMail old → IsMail new
mail_same old new same is = subst IsMail (sym same) is

off_and : (a b : Bool) → a ≡ false → (a && b) ≡ false
off_and true b off = cc
off_and false b off = refl

and_off : (a b : Bool) → b ≡ false → (a && b) ≡ false
and_off true b off = off
and_off false b off = refl

-- One of two words.
mail_if : (b : Bool) (x y : ℕ) → (b ≡ true → IsMail x) → (b ≡ false → IsMail y) → IsMail (cond b x y)
mail_if true x y on off = on refl
mail_if false x y on off = off refl

-- A write by the function.
pub function_mail : (mail word : ℕ) → IsMail mail → IsMail (function_wrote mail word)
function_mail mail word is =
    let keeps = function_keeps mail word in
    record {
      holder = held (has_bit 2 word);
      end = (λ k. keeps 6 refl k && keeps 7 refl k) ∙ is.end;
    }
  where
    free : (b : Bool) → has_bit 3 mail ≡ b
        → (has_bit 2 (cond b mail (bit_set 2 mail)) && has_bit 3 (cond b mail (bit_set 2 mail))) ≡ false
    free true e = is.holder
    free false e =
        and_off (has_bit 2 (bit_set 2 mail)) (has_bit 3 (bit_set 2 mail))
        (has_bit-set_other 2 3 mail (λ same. omega arith) ∙ e)

    held : (b : Bool)
        → (has_bit 2 (cond b (cond (has_bit 3 mail) mail (bit_set 2 mail)) (bit_cleared 2 mail))
        && has_bit 3 (cond b (cond (has_bit 3 mail) mail (bit_set 2 mail)) (bit_cleared 2 mail))) ≡ false
    held true = free (has_bit 3 mail) refl
    held false = off_and (has_bit 2 (bit_cleared 2 mail)) (has_bit 3 (bit_cleared 2 mail)) (has_bit-clear 2 mail)

-- A write by the physical function.
cleared_less : (mail : ℕ) → has_bit 2 (bit_cleared 2 mail) ≡ true → has_bit 2 mail ≡ true
cleared_less mail on = absurd (both_ways _ (has_bit-clear 2 mail) on)

released_mail : (mail word : ℕ) → IsMail mail → IsMail (released mail word)
released_mail mail word is =
    mail_if (has_bit 4 word) (bit_cleared 2 mail) mail
    (λ on. mail_fewer mail (bit_cleared 2 mail) (cleared_less mail)
    (has_bit-clear_other 2 3 mail (λ same. omega arith)) (has_bit-clear_other 2 6 mail (λ same. omega arith))
    (has_bit-clear_other 2 7 mail (λ same. omega arith)) is)
    (λ off. is)

taken_mail : (mail word : ℕ) → IsMail mail → IsMail (taken mail word)
taken_mail mail word is =
    mail_if (has_bit 3 word) (cond (has_bit 2 mail) mail (bit_set 3 mail)) (bit_cleared 3 mail)
    (λ on. mail_if (has_bit 2 mail) mail (bit_set 3 mail) (λ held. is) (λ free. record {
      holder = off_and (has_bit 2 (bit_set 3 mail)) (has_bit 3 (bit_set 3 mail))
          (has_bit-set_other 3 2 mail (λ same. omega arith) ∙ free);
      end = (λ k. has_bit-set_other 3 6 mail (λ same. omega arith) k
          && has_bit-set_other 3 7 mail (λ same. omega arith) k) ∙ is.end;
    }))
    (λ off. record {
      holder = and_off (has_bit 2 (bit_cleared 3 mail)) (has_bit 3 (bit_cleared 3 mail)) (has_bit-clear 3 mail);
      end = (λ k. has_bit-clear_other 3 6 mail (λ same. omega arith) k
          && has_bit-clear_other 3 7 mail (λ same. omega arith) k) ∙ is.end;
    })

-- A bit that concerns neither holders nor resets.
sent_mail : (b : Bool) (n mail : ℕ) → (2 < n) → (n < 6) → 3 < n → IsMail mail → IsMail (cond b (bit_set n mail) mail)
sent_mail true n mail low high more is = record {
  holder = (λ k. has_bit-set_other n 2 mail (λ same. omega arith) k
      && has_bit-set_other n 3 mail (λ same. omega arith) k) ∙ is.holder;
  end = (λ k. has_bit-set_other n 6 mail (λ same. omega arith) k
      && has_bit-set_other n 7 mail (λ same. omega arith) k) ∙ is.end;
}
sent_mail false n mail low high more is = is

pub physical_mail : (mail word : ℕ) → IsMail mail → IsMail (physical_wrote mail word)
physical_mail mail word is =
    sent_mail (has_bit 0 word) 4 _ (omega arith) (omega arith) (omega arith)
    (sent_mail (has_bit 1 word) 5 _ (omega arith) (omega arith) (omega arith)
    (taken_mail (released mail word) word (released_mail mail word is)))

-- A read by the function, and the end of a reset.
pub once_mail : (mail : ℕ) → IsMail mail → IsMail (reported_once mail)
once_mail mail is =
    let keeps = once_keeps mail in
    let done = bit_cleared 5 (bit_cleared 7 mail) in
    let reported : has_bit 7 (reported_once mail) ≡ false = has_bit-clear_other 4 7 done (λ same. omega arith)
    ∙ has_bit-clear_other 5 7 (bit_cleared 7 mail) (λ same. omega arith) ∙ has_bit-clear 7 mail in
    record {
      holder = (λ k. keeps 2 refl k && keeps 3 refl k) ∙ is.holder;
      end = and_off (has_bit 6 (reported_once mail)) (has_bit 7 (reported_once mail)) reported;
    }

pub reset_mail : (mail : ℕ) → IsMail mail → IsMail (reset_reported mail)
reset_mail mail is =
    let keeps = reset_keeps mail in
    record { holder = (λ k. keeps 2 refl k && keeps 3 refl k) ∙ is.holder; end = ended (has_bit 6 mail) }
  where
    ended : (b : Bool) → (has_bit 6 (cond b (bit_set 7 (bit_cleared 6 mail)) mail)
        && has_bit 7 (cond b (bit_set 7 (bit_cleared 6 mail)) mail)) ≡ false
    ended true =
        off_and (has_bit 6 (bit_set 7 (bit_cleared 6 mail))) (has_bit 7 (bit_set 7 (bit_cleared 6 mail)))
        (has_bit-set_other 7 6 (bit_cleared 6 mail) (λ same. omega arith) ∙ has_bit-clear 6 mail)
    ended false = is.end

-- ---- in registers

pub no_mail : IsMail 0
no_mail = record { holder = refl; end = refl }

pub mail-reset : (v : ℕ) → IsMail (mail_of reset_registers v)
mail-reset v = elim (cases_lt v 64) as (λ _. IsMail (mail_of reset_registers v)) [
  | inl b ↦ mail_same 0x40 _ (word_at-reset (place Pvfmailbox v) b) (record { holder = refl; end = refl })
  | inr past ↦
      let short = HasShape-reset.has_indices Pvfmailbox in
      mail_same 0 _ (get_or_past (row_words reset_registers.words Pvfmailbox) v 0 (omega arith)) no_mail
]

-- A word stored elsewhere, and a stored mailbox.
mail_place : (p : Place) (v : ℕ) → is_place p (place Pvfmailbox v) ≡ true → is_mail (row_of p.row).kind ≡ true
mail_place p v same = ap (λ (q : Place). is_mail (row_of q.row).kind) (is_place-same p (place Pvfmailbox v) same)

pub mail-put : (r : Registers) (p : Place) (word : ℕ) → (is_mail (row_of p.row).kind ≡ true → IsMail word)
    → ((v : ℕ) → IsMail (mail_of r v)) → (v : ℕ) → IsMail (word_at (put r.words p word) (place Pvfmailbox v))
mail-put r p word own each v =
    elim (cases_Bool (is_place p (place Pvfmailbox v))) as
    (λ _. IsMail (word_at (put r.words p word) (place Pvfmailbox v))) [
      | inr other ↦ mail_same _ _ (word_at-put_other r.words p (place Pvfmailbox v) word
          (apart (is_place p) p (place Pvfmailbox v) (is_place-itself p) other)) (each v)
      | inl same ↦
          let here : p ≡ place Pvfmailbox v = is_place-same p (place Pvfmailbox v) same in
          subst (λ q. IsMail (word_at (put r.words p word) q)) here
          (put_cases r.words p word IsMail (own (mail_place p v same))
          (subst (λ q. IsMail (word_at r.words q)) (sym here) (each v)))
    ]
