-- Which properties accesses to each kind of mailbox register preserve.
use Rattle.std.proofs.Common.{◌≡◌, ℕ, ◌+◌, ◌%◌, ◌/◌, true, false, ◌==◌, ◌&&◌, ◌||◌, refl, ap, sym, ◌∙◌, subst}
use Rattle.std.specs.Prelude.{bit_and, if◌then◌else◌}
use Rattle.register_file.specs.RegTable.declared.kind.Kind.TheVariants as kind
use Rattle.register_file.specs.RegTable.declared.rows.RowId.TheVariants.{Eicr, Pvteicr, Pfmbicr, Pvfmailbox}
use Rattle.register_file.proofs.IntrUnit.Subsets.{IsSubset-itself}
use Rattle.register_file.specs.Access.{stored, ones_cleared}
use Rattle.register_file.specs.Mailbox.{function_wrote, reported_once, with_mail, mail_of, mail_read, function_writes, physical_writes, holders, resets_reported, by_mail_read, by_sending, by_function, by_physical, by_telling}
use Rattle.register_file.specs.declared.owner.Owner.TheVariants as owner
use Rattle.register_laws.specs.Prelude.{Mode, Place, Registers, RowId, has_bit, is_of_pool, is_of_pool_by, number_of}
use Rattle.register_laws.specs.Prelude.{owner_in, place, row_of, word_at}
use Rattle.register_laws.proofs.Prelude.{and_parts, both_ways, eqb-true, false_from_ne_true, same_number}
use Rattle.register_laws.specs.Footprint.{Footprint, ChangesWithin, Covers, either, is_place, the_word, of_owner, of_side, AgreeWithin, pool_agrees, is_alone, is_pending}
use Rattle.register_laws.proofs.Agreeing.{agree-put}
use Rattle.register_laws.proofs.Covers.{covers-trans, covers-first, covers-second, covers-the_word, misses-narrower, misses-owner}
use Rattle.register_laws.proofs.Footprints.{within-trans, within-wider, within-if}
use Rattle.register_laws.proofs.Giving.{GivesTheSame}
use Rattle.register_laws.proofs.Holders.{is_mail}
use Rattle.register_laws.proofs.Mailbox.{within-mail_read, within-sent, within-function, within-physical, within-telling, sound-mail_read, sound-function, sound-physical, sound-telling}
use Rattle.register_laws.proofs.MailPools.{mail_row, physical_is_the_devices, extended_is_the_devices, causes_are_the_devices, sending_misses}
use Rattle.register_laws.proofs.Owners.{is_place-itself, is_place-same}
use Rattle.register_laws.proofs.PoolsApart.{agreement_stands}
use Rattle.register_laws.proofs.Reading.{KeepsReading}
use Rattle.register_laws.proofs.RowBits.{IsSubset-and_left, IsSubset-trans}
use Rattle.register_laws.proofs.SoundParts.{plain, sound-if, sound-put, sound-stored}
use Rattle.register_laws.proofs.WithinParts.{within-put, within-stored}
use Rattle.register_laws.proofs.Writing.{KeepsWriting}

-- A place with words that other accesses change isn't alone.
not_alone : (x : RowId) (i : ℕ) (q : Place) → is_alone (row_of x).kind ≡ false → is_alone (row_of q.row).kind ≡ true
    → is_place (place x i) q ≡ false
not_alone x i q off alone =
    false_from_ne_true (is_place (place x i) q)
    (λ same. both_ways (is_alone (row_of q.row).kind)
    (ap (λ (z : Place). is_alone (row_of z.row).kind) (sym (is_place-same (place x i) q same)) ∙ off) alone)

no_mail_row : (q : Place) → is_alone (row_of q.row).kind ≡ true → (number_of Pvfmailbox == number_of q.row) ≡ false
no_mail_row q alone =
    false_from_ne_true (number_of Pvfmailbox == number_of q.row)
    (λ same. both_ways (is_alone (row_of q.row).kind)
    (ap (λ x. is_alone (row_of x).kind) (sym (same_number Pvfmailbox q.row (eqb-true _ _ same)))) alone)

-- The mailbox at a place of the pool is the pool's.
in_pool : (mode : Mode) (v : ℕ) (p : Place) → (row_of p.row).kind ≡ kind.Vfmail → is_of_pool mode v p ≡ true
    → is_of_pool mode v (place Pvfmailbox p.index) ≡ true
in_pool mode v p e is = ap (λ x. is_of_pool_by (row_of x).bank mode v p.index) (sym (mail_row p.row e)) ∙ is

mail_same : (mode : Mode) (v : ℕ) (a b : Registers) → AgreeWithin (pool_agrees mode v) a b → (p : Place)
    → (row_of p.row).kind ≡ kind.Vfmail → is_of_pool mode v p ≡ true → mail_of a p.index ≡ mail_of b p.index
mail_same mode v a b same p e is = same.words (place Pvfmailbox p.index) (in_pool mode v p e is)

-- What a read may change belongs to the pool.
covers-mail : (v : ℕ) → Covers (of_owner (owner.Pool v)) (by_mail_read v)
covers-mail v =
    covers-trans (of_owner (owner.Pool v)) (the_word (place Pvfmailbox v)) (by_mail_read v)
    (covers-the_word (place Pvfmailbox v))
    (record {
      bits = λ q bit is. (and_parts (is_place (place Pvfmailbox v) q) (bit == 4 || bit == 5 || bit == 7) is).0;
      wanted = λ dir queue is. is;
      reported = λ g is. is;
    })

pub mail_reading : KeepsReading kind.Vfmail (λ r p. mail_read r p.index) (λ p. by_mail_read p.index)
mail_reading = record {
  within = λ r p. within-mail_read r p.index;
  owned = λ p e. subst (λ x. Covers (of_owner (owner_in (row_of x).bank p.index)) (by_mail_read p.index))
      (sym (mail_row p.row e)) (covers-mail p.index);
  calm = λ p q n alone bit. ap (λ b. b && (bit == 4 || bit == 5 || bit == 7))
      (not_alone Pvfmailbox p.index q refl alone);
  no_side = λ p e dir queue. misses-narrower (of_owner (owner.Pool p.index)) (by_mail_read p.index) (of_side dir queue)
      (covers-mail p.index) (misses-owner (owner.Pool p.index) (owner.Side dir queue) refl);
  sound = λ r p e sound. sound-mail_read r p.index sound;
  agree = λ mode v a b ha hb same p e is. agree-put (pool_agrees mode v) a b ha hb same (place Pvfmailbox p.index) _ _
      (ap reported_once (mail_same mode v a b same p e is));
}

pub function_write : KeepsWriting kind.Vfmail (λ r p view word. function_writes r p.index word)
    (λ p. by_function p.index)
function_write = record {
  within = λ r p view word. within-function r p.index word;
  owned = λ own p e. cc;
  calm = λ p q n alone bit.
      let no = λ (x : RowId) (i : ℕ) (off : is_alone (row_of x).kind ≡ false). not_alone x i q off alone in
      λ k. (no Pvfmailbox p.index refl k && bit == 2)
      || ((no Pfmbicr (p.index / 16) refl k && (bit == p.index % 16 || bit == 16 + p.index % 16))
      || (no Eicr 0 refl k && bit == 19));
  sound = λ r p e sound view word. sound-function r p.index word sound;
  agree = λ view word mode v a b ha hb same p e is.
      let left = with_mail a p.index (function_wrote (mail_of a p.index) word) in
      let right = with_mail b p.index (function_wrote (mail_of b p.index) word) in
      agreement_stands (by_sending p.index) (pool_agrees mode v) left right _ _ (sending_misses mode p.index v)
      (within-sent left p.index word) (within-sent right p.index word)
      (agree-put (pool_agrees mode v) a b ha hb same (place Pvfmailbox p.index) _ _
      (ap (λ mail. function_wrote mail word) (mail_same mode v a b same p e is)));
}

pub physical_given : GivesTheSame kind.Pfmail (λ r around p. holders r p.index)
physical_given mode v a b same around p e is =
    absurd (both_ways _ (physical_is_the_devices p.row mode v p.index e) is)

pub physical_write : KeepsWriting kind.Pfmail (λ r p view word. physical_writes r p.index word)
    (λ p. by_physical p.index)
physical_write = record {
  within = λ r p view word. within-physical r p.index word;
  owned = λ own p e. cc;
  calm = λ p q n alone bit k.
      (not_alone Pvfmailbox p.index q refl alone k && (bit == 2 || bit == 3 || bit == 4 || bit == 5))
      || (not_alone Pvteicr p.index q refl alone k && (bit == 0 || bit == 1 || bit == 2));
  sound = λ r p e sound view word. sound-physical r p.index word sound;
  agree = λ view word mode v a b ha hb same p e is.
      absurd (both_ways _ (physical_is_the_devices p.row mode v p.index e) is);
}

abbrev pub extended : Registers → Place → (view word : ℕ) → Registers
extended r p view word = if has_bit 14 word then resets_reported (stored r p view word) else stored r p view word

pub extended_write : KeepsWriting kind.Ctrlext extended (λ p. either (the_word p) by_telling)
extended_write = record {
  within = λ r p view word.
      let f : Footprint = either (the_word p) by_telling in
      let kept : ChangesWithin f r (stored r p view word) = within-wider f (the_word p) r (stored r p view word)
      (covers-first (the_word p) by_telling)
      (within-stored (the_word p) r p view word (λ bit. is_place-itself p)) in
      within-if f (has_bit 14 word) r (resets_reported (stored r p view word)) (stored r p view word)
      (within-trans f r (stored r p view word) (resets_reported (stored r p view word)) kept
      (within-wider f by_telling (stored r p view word) _ (covers-second (the_word p) by_telling)
      (within-telling (stored r p view word))))
      kept;
  owned = λ own p e. cc;
  calm = λ p q n alone bit k. n k || (no_mail_row q alone k && (bit == 6 || bit == 7));
  sound = λ r p e sound view word.
      let kept = sound-stored kind.Ctrlext r p view word e refl refl (IsSubset-itself _) sound in
      sound-if (has_bit 14 word) _ _ (sound-telling (stored r p view word) kept) kept;
  agree = λ view word mode v a b ha hb same p e is.
      absurd (both_ways _ (extended_is_the_devices p.row mode v p.index e) is);
}

pub ones_write : KeepsWriting kind.W1c (λ r p view word. ones_cleared r p (bit_and word view)) the_word
ones_write = record {
  within = λ r p view word. within-put (the_word p) r p _ (λ bit. is_place-itself p);
  owned = λ own p e. covers-the_word p;
  calm = λ p q n alone bit. n;
  sound = λ r p e sound view word.
      sound-put r p _ sound (IsSubset-trans _ _ _ (IsSubset-and_left (word_at r.words p) _) (sound.words p))
      (ap is_pending e) (plain _ _ (ap is_mail e));
  agree = λ view word mode v a b ha hb same p e is.
      absurd (both_ways _ (causes_are_the_devices p.row mode v p.index e) is);
}
