-- What accesses to mailboxes change, and how registers stay sound.
use Rattle.std.proofs.Common.{◌≡◌, ℕ, ◌/◌, ◌%◌, ◌^◌, ◌<◌, ◌≤◌, Bool, true, false, ◌==◌, ◌&&◌, ◌||◌, List, [], ◌∷◌, refl, ap, sym, ◌∙◌, subst, inl, inr, arith, lit<}
use Rattle.std.specs.Prelude.{fold, bit_or}
use Rattle.std.proofs.lemmas.Bool.{cases_Bool, cases_lt, both_ways, false_from_ne_true, and_parts, and_from, or_cases, or_left, or_right, eqb-true}
use Rattle.std.proofs.lemmas.Nat.Bits.{bit_at_above}
use Rattle.register_file.specs.RegTable.declared.rows.RowId.TheVariants.{Eicr, Pvteicr, Pfmbicr, Pfmbimr, Pvfmailbox, PvtivarMisc}
use Rattle.register_file.specs.IntrUnit.Group.{group_bits, queue_causes}
use Rattle.register_file.specs.Mailbox.{function_wrote, physical_wrote, reported_once, with_mail, mail_of, cause_set, sends, requests, with_requests, physical_signalled, mail_read, function_writes, physical_writes, done_reported, resets_reported, by_mail_read, by_sending, by_function, by_physical, by_telling}
use Rattle.register_file.proofs.IntrUnit.Groups.{group_bits-Vf}
use Rattle.register_file.proofs.IntrUnit.SetLaws.{contains-past, contains-intersection}
use Rattle.register_file.proofs.Own.{intersection-lt}
use Rattle.register_file.proofs.Raising.{mail_cause, queue_cause}
use Rattle.register_laws.specs.Prelude.{BitSet, Group, IsSubset, Pf, Place, Registers, Vf, cause_row, contains, has_bit}
use Rattle.register_laws.specs.Prelude.{index_of, intersection, is_group, mask_row, number_of, place, range_with_len}
use Rattle.register_laws.specs.Prelude.{reported_by, row_of, word_at, word_of}
use Rattle.register_laws.proofs.Prelude.{nat_tests, or_lt}
use Rattle.register_laws.specs.Footprint.{Footprint, ChangesWithin, Covers, is_place, the_word, the_bits, pending}
use Rattle.register_laws.specs.Sound.{AreSound, IsMail, bits_of_row, pending_bits}
use Rattle.register_laws.proofs.Covers.{covers-first, covers-second, misses-narrower, cause_is_pending}
use Rattle.register_laws.proofs.Fields.{reported_by-put}
use Rattle.register_laws.proofs.Footprints.{within-refl, within-trans, within-wider, within-if}
use Rattle.register_laws.proofs.Holders.{is_mail, mail-put, function_mail, physical_mail, once_mail, reset_mail}
use Rattle.register_laws.proofs.MailBits.{KeepsOut, has_bit-zero, out-or, out-pow, out-within, is_vfu, is_physical, is_once, is_reset_bit, is_asked, function_keeps, physical_keeps, once_keeps, reset_keeps, requests_keep, requests-lt}
use Rattle.register_laws.proofs.Owners.{is_group-same, is_place-same}
use Rattle.register_laws.proofs.Puts.{word_at-put_other}
use Rattle.register_laws.proofs.RowBits.{IsSubset-ones, IsSubset-or, IsSubset-or_left, IsSubset-trans, row_bits-put, word_small}
use Rattle.register_laws.proofs.Shape.{put_stands, HasShape-put}
use Rattle.register_laws.proofs.SoundParts.{plain, reported_stands, others_miss, sound-put, sound-if, cause_bits}
use Rattle.register_laws.proofs.Standing.{cause_index, cause_not_mask}
use Rattle.register_laws.proofs.WithinParts.{within-bits, within-word}

-- ---- what they change

within-mail : (r : Registers) (v new : ℕ) (has : ℕ → Bool) → KeepsOut has (mail_of r v) new
    → ChangesWithin (the_bits (place Pvfmailbox v) has) r (with_mail r v new)
within-mail r v new has keeps = within-bits r (place Pvfmailbox v) new has keeps

pub within-mail_read : (r : Registers) (v : ℕ) → ChangesWithin (by_mail_read v) r (mail_read r v)
within-mail_read r v = within-mail r v (reported_once (mail_of r v)) is_once (once_keeps (mail_of r v))

-- A cause is set.
within-cause : (r : Registers) (g : Group) (bits : ℕ) (has : ℕ → Bool) → KeepsOut has 0 bits
    → ChangesWithin (the_bits (place (cause_row g) (index_of g)) has) r (cause_set r g bits)
within-cause r g bits has only =
    within-bits r (place (cause_row g) (index_of g)) _ has (out-or has (word_of r (cause_row g) (index_of g)) bits only)

-- What a function sends.
requests_covered : (v : ℕ) → Covers (by_sending v) (the_bits (place Pfmbicr (v / 16)) (is_asked v))
requests_covered v = record {
  bits = λ p bit is. or_left _ (is_place (place Eicr 0) p && bit == 19) is;
  wanted = λ dir queue is. is;
  reported = λ g is. is;
}

cause_covered : (v : ℕ) → Covers (by_sending v) (the_bits (place Eicr 0) (λ bit. bit == 19))
cause_covered v = record {
  bits = λ p bit is. or_right (is_place (place Pfmbicr (v / 16)) p && is_asked v bit) _ is;
  wanted = λ dir queue is. is;
  reported = λ g is. is;
}

pub within-sent : (r : Registers) (v word : ℕ)
    → ChangesWithin (by_sending v) r (physical_signalled (with_requests r v word) v word)
within-sent r v word =
    let asked : Registers = with_requests r v word in
    let masked = has_bit (v % 32) (word_of asked Pfmbimr (v / 32)) in
    within-trans (by_sending v) r asked (physical_signalled asked v word)
    (within-wider (by_sending v) (the_bits (place Pfmbicr (v / 16)) (is_asked v)) r asked (requests_covered v)
    (within-bits r (place Pfmbicr (v / 16)) _ (is_asked v)
    (out-or (is_asked v) (word_of r Pfmbicr (v / 16)) (requests v word) (requests_keep v word))))
    (within-if (by_sending v) (sends word && masked) asked (cause_set asked Pf (2 ^ 19)) asked
    (within-wider (by_sending v) (the_bits (place Eicr 0) (λ bit. bit == 19)) asked _ (cause_covered v)
    (within-cause asked Pf (2 ^ 19) (λ bit. bit == 19) (out-pow 19)))
    (within-refl (by_sending v) asked))

pub within-function : (r : Registers) (v word : ℕ) → ChangesWithin (by_function v) r (function_writes r v word)
within-function r v word =
    let mail : Footprint = the_bits (place Pvfmailbox v) is_vfu in
    let held : Registers = with_mail r v (function_wrote (mail_of r v) word) in
    within-trans (by_function v) r held (function_writes r v word)
    (within-wider (by_function v) mail r held (covers-first mail (by_sending v))
    (within-mail r v _ is_vfu (function_keeps (mail_of r v) word)))
    (within-wider (by_function v) (by_sending v) held (function_writes r v word) (covers-second mail (by_sending v))
    (within-sent held v word))

-- A function has three causes.
abbrev is_cause : ℕ → Bool
is_cause bit = bit == 0 || bit == 1 || bit == 2

past_causes : (bit : ℕ) → is_cause bit ≡ false → 3 ≤ bit
past_causes bit off = grind (arith, nat_tests)

no_cause : (bit : ℕ) → 3 ≤ bit → contains 7 bit ≡ false
unfolding contains
no_cause bit high = ap (λ d. d == 1) (bit_at_above 7 3 bit (lit< tt) high)

cause_keeps : (v entry : ℕ) → KeepsOut is_cause 0 (queue_causes (Vf v) entry)
unfolding contains
cause_keeps v entry bit off =
    let raised = queue_causes (Vf v) entry in
    let none = no_cause bit (past_causes bit off) in
    false_from_ne_true (has_bit bit raised)
    (λ on. both_ways (contains 7 bit) none
    (subst (λ set. contains set bit ≡ true) (group_bits-Vf v) ((queue_cause v entry).member bit on)))
    ∙ sym (has_bit-zero bit)

pub within-physical : (r : Registers) (v word : ℕ) → ChangesWithin (by_physical v) r (physical_writes r v word)
within-physical r v word =
    let f : Footprint = by_physical v in
    let mail : Footprint = the_bits (place Pvfmailbox v) is_physical in
    let cause : Footprint = the_bits (place Pvteicr v) is_cause in
    let held : Registers = with_mail r v (physical_wrote (mail_of r v) word) in
    let raised = queue_causes (Vf v) (word_of held PvtivarMisc v % 256) in
    within-trans f r held (physical_writes r v word)
    (within-wider f mail r held (covers-first mail cause)
    (within-mail r v _ is_physical (physical_keeps (mail_of r v) word)))
    (within-if f (sends word) held (cause_set held (Vf v) raised) held
    (within-wider f cause held _ (covers-second mail cause)
    (within-cause held (Vf v) raised is_cause (cause_keeps v (word_of held PvtivarMisc v % 256))))
    (within-refl f held))

-- Reporting resets.
mail_telling : (v : ℕ) → Covers by_telling (the_bits (place Pvfmailbox v) is_reset_bit)
mail_telling v = record {
  bits = λ p bit is.
      let parts = and_parts (is_place (place Pvfmailbox v) p) (is_reset_bit bit) is in
      and_from _ _ (and_parts (number_of Pvfmailbox == number_of p.row) (v == p.index) parts.0).0 parts.1;
  wanted = λ dir queue is. is;
  reported = λ g is. is;
}

within-done : (r : Registers) (v : ℕ) → ChangesWithin by_telling r (done_reported r v)
within-done r v =
    within-wider by_telling (the_bits (place Pvfmailbox v) is_reset_bit) r (done_reported r v) (mail_telling v)
    (within-mail r v _ is_reset_bit (reset_keeps (mail_of r v)))

within-all_done : (vs : List ℕ) (r : Registers) → ChangesWithin by_telling r (fold done_reported r vs)
within-all_done [] r = within-refl by_telling r
within-all_done (v ∷ vs) r =
    within-trans by_telling r (done_reported r v) (fold done_reported (done_reported r v) vs) (within-done r v)
    (within-all_done vs (done_reported r v))

pub within-telling : (r : Registers) → ChangesWithin by_telling r (resets_reported r)
unfolding resets_reported
within-telling r = within-all_done (range_with_len 0 64) r

-- ---- registers stay sound

-- The bits of a mailbox's word.
sound-mail : (r : Registers) (v new : ℕ) (has : ℕ → Bool) → KeepsOut has (mail_of r v) new
    → ((bit : ℕ) → has bit ≡ true → has_bit bit 0xFC ≡ true) → (IsMail (mail_of r v) → IsMail new) → AreSound r
    → AreSound (with_mail r v new)
sound-mail r v new has keeps own mail sound =
    sound-put r (place Pvfmailbox v) new sound
    (out-within has (mail_of r v) new 0xFC keeps own (sound.words (place Pvfmailbox v))) refl
    (λ is. mail (sound.mail v))

at_bit : (bit n : ℕ) (P : ℕ → Type 0) → (bit == n) ≡ true → P n → P bit
at_bit bit n P is there = subst P (sym (eqb-true bit n is)) there

abbrev HasMail : ℕ → Type 0
HasMail bit = has_bit bit 0xFC ≡ true

vfu_in : (bit : ℕ) → is_vfu bit ≡ true → HasMail bit
vfu_in bit is = at_bit bit 2 HasMail is refl

physical_in : (bit : ℕ) → is_physical bit ≡ true → HasMail bit
physical_in bit is =
    elim (or_cases (bit == 2 || bit == 3 || bit == 4) (bit == 5) is) as (λ _. HasMail bit) [
      | inr five ↦ at_bit bit 5 HasMail five refl
      | inl less ↦ elim (or_cases (bit == 2 || bit == 3) (bit == 4) less) as (λ _. HasMail bit) [
        | inr four ↦ at_bit bit 4 HasMail four refl
        | inl held ↦ elim (or_cases (bit == 2) (bit == 3) held) as (λ _. HasMail bit) [
          | inl two ↦ at_bit bit 2 HasMail two refl
          | inr three ↦ at_bit bit 3 HasMail three refl
        ]
      ]
    ]

once_in : (bit : ℕ) → is_once bit ≡ true → HasMail bit
once_in bit is =
    elim (or_cases (bit == 4 || bit == 5) (bit == 7) is) as (λ _. HasMail bit) [
      | inr seven ↦ at_bit bit 7 HasMail seven refl
      | inl sent ↦ elim (or_cases (bit == 4) (bit == 5) sent) as (λ _. HasMail bit) [
        | inl four ↦ at_bit bit 4 HasMail four refl
        | inr five ↦ at_bit bit 5 HasMail five refl
      ]
    ]

reset_in : (bit : ℕ) → is_reset_bit bit ≡ true → HasMail bit
reset_in bit is =
    elim (or_cases (bit == 6) (bit == 7) is) as (λ _. HasMail bit) [
      | inl six ↦ at_bit bit 6 HasMail six refl
      | inr seven ↦ at_bit bit 7 HasMail seven refl
    ]

-- Setting a cause keeps the pending state of other groups, and adds to the pending state of the cause's own group.
more_pending : (a b c : BitSet) → IsSubset (intersection a c) (intersection (bit_or a b) c)
more_pending a b c = record {
  member = λ k h. elim (cases_lt k 32) as (λ _. contains (intersection (bit_or a b) c) k ≡ true) [
    | inr past ↦ absurd (both_ways _ (contains-past (intersection a c) k (intersection-lt a c) past) h)
    | inl low ↦
        let parts = and_parts (contains a k) (contains c k) (sym (contains-intersection a c k low) ∙ h) in
        contains-intersection (bit_or a b) c k low
        ∙ and_from _ _ ((IsSubset-or_left a b).member k parts.0) parts.1
  ];
}

module _ (r : Registers) (g : Group) (bits : ℕ) (sound : AreSound r) where
  reported_beside : (h : Group) → is_group g h ≡ false → IsSubset (reported_by r h) (pending_bits r h)
      → IsSubset (reported_by (cause_set r g bits) h) (pending_bits (cause_set r g bits) h)
  reported_beside h other reported =
      let cause : Place = place (cause_row g) (index_of g) in
      reported_stands (the_word cause) r (cause_set r g bits) h
      (misses-narrower (pending g) (the_word cause) (pending h) (record {
        bits = λ p bit same. subst (λ q. (pending g).bits q bit ≡ true) (is_place-same cause p same)
            (cause_is_pending g bit);
        wanted = λ dir queue is. is;
        reported = λ i is. cc;
      })
      (others_miss h g other))
      (within-word r (cause_row g) (index_of g) _) reported

  reported_grown : index_of g < 64 → IsSubset (reported_by (cause_set r g bits) g) (pending_bits (cause_set r g bits) g)
  reported_grown b =
      let cause : Place = place (cause_row g) (index_of g) in
      let mask : Place = place (mask_row g) (index_of g) in
      let old = word_at r.words cause in
      let reported = sym (reported_by-put r cause (bit_or old bits) g) in
      let causes = sym (put_stands r cause (bit_or old bits) sound.shape (cause_index g b)) in
      let masks = sym (word_at-put_other r.words cause mask (bit_or old bits) (λ same. cause_not_mask g (sym same))) in
      subst (λ (x : ℕ × ℕ × ℕ). IsSubset x.0 (intersection x.1 x.2)) (λ k. (reported k, causes k, masks k))
      (IsSubset-trans _ _ _ (sound.reported g b) (more_pending old bits (word_at r.words mask)))

cause_other : (g : Group) → is_mail (row_of (cause_row g)).kind ≡ false
cause_other Pf = refl
cause_other (Vf v) = refl

sound-cause : (r : Registers) (g : Group) (bits : ℕ) → IsSubset bits (group_bits g) → AreSound r
    → AreSound (cause_set r g bits)
sound-cause r g bits within sound =
    let cause : Place = place (cause_row g) (index_of g) in
    let old = word_at r.words cause in
    let new : Registers = cause_set r g bits in
    record {
      shape = HasShape-put r cause (bit_or old bits) sound.shape;
      words = row_bits-put r cause (bit_or old bits) sound.shape sound.words
          (IsSubset-or old bits (bits_of_row (cause_row g)) (sound.words cause)
          (subst (IsSubset bits) (sym (cause_bits g)) within));
      reported = λ h b. elim (cases_Bool (is_group g h)) as (λ _. IsSubset (reported_by new h) (pending_bits new h)) [
        | inr other ↦ reported_beside r g bits sound h other (sound.reported h b)
        | inl same ↦ subst (λ x. IsSubset (reported_by new x) (pending_bits new x)) (is_group-same g h same)
            (reported_grown r g bits sound (subst (λ x. index_of x < 64) (sym (is_group-same g h same)) b))
      ];
      mail = mail-put r cause (bit_or old bits) (plain _ _ (cause_other g)) sound.mail;
    }

-- What is sent.
sound-requests : (r : Registers) (v word : ℕ) → AreSound r → AreSound (with_requests r v word)
sound-requests r v word sound =
    let asked : Place = place Pfmbicr (v / 16) in
    let old = word_at r.words asked in
    sound-put r asked (bit_or old (requests v word)) sound
    (IsSubset-ones 32 (bit_or old (requests v word))
    (or_lt 32 old (requests v word) (word_small r sound asked) (requests-lt v word)))
    refl (plain false _ refl)

pub sound-mail_read : (r : Registers) (v : ℕ) → AreSound r → AreSound (mail_read r v)
sound-mail_read r v sound = sound-mail r v _ is_once (once_keeps (mail_of r v)) once_in (once_mail (mail_of r v)) sound

pub sound-function : (r : Registers) (v word : ℕ) → AreSound r → AreSound (function_writes r v word)
sound-function r v word sound =
    let held : Registers = with_mail r v (function_wrote (mail_of r v) word) in
    let asked : Registers = with_requests held v word in
    let kept = sound-requests held v word
    (sound-mail r v _ is_vfu (function_keeps (mail_of r v) word) vfu_in (function_mail (mail_of r v) word) sound) in
    sound-if (sends word && has_bit (v % 32) (word_of asked Pfmbimr (v / 32))) (cause_set asked Pf (2 ^ 19)) asked
    (sound-cause asked Pf (2 ^ 19) mail_cause kept) kept

pub sound-physical : (r : Registers) (v word : ℕ) → AreSound r → AreSound (physical_writes r v word)
sound-physical r v word sound =
    let held : Registers = with_mail r v (physical_wrote (mail_of r v) word) in
    let kept = sound-mail r v _ is_physical (physical_keeps (mail_of r v) word) physical_in
    (physical_mail (mail_of r v) word) sound in
    sound-if (sends word) (cause_set held (Vf v) _) held
    (sound-cause held (Vf v) _ (queue_cause v (word_of held PvtivarMisc v % 256)) kept) kept

sound-all_done : (vs : List ℕ) (r : Registers) → AreSound r → AreSound (fold done_reported r vs)
sound-all_done [] r sound = sound
sound-all_done (v ∷ vs) r sound =
    sound-all_done vs (done_reported r v)
    (sound-mail r v _ is_reset_bit (reset_keeps (mail_of r v)) reset_in (reset_mail (mail_of r v)) sound)

pub sound-telling : (r : Registers) → AreSound r → AreSound (resets_reported r)
unfolding resets_reported
sound-telling r sound = sound-all_done (range_with_len 0 64) r sound
