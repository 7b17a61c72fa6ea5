-- Registers stay sound when a word is stored at a place, another side is requested, or a group gets other interrupts.
use Rattle.std.proofs.Common.{◌≡◌, ℕ, ◌<◌, Bool, true, false, refl, ap, sym, ◌∙◌, subst, inl, inr}
use Rattle.register_file.specs.declared.owner.Owner.TheVariants as owner
use Rattle.register_laws.specs.Prelude.{Dir, Group, Interrupts, IsConsistent, IsSubset, Kind, Owner, Pf, Place}
use Rattle.register_laws.specs.Prelude.{Pvfmailbox, Registers, Vf, asked, cause_row, group_bits, index_of, intersection}
use Rattle.register_laws.specs.Prelude.{is_group, mask_row, option_map_or, place, put, reported_by, row_of, stored}
use Rattle.register_laws.specs.Prelude.{with_interrupts, with_wanted, word_at}
use Rattle.register_laws.proofs.Prelude.{both_ways, cases_Bool}
use Rattle.register_laws.proofs.Holders.{is_mail, mail_same, mail-put}
use Rattle.register_laws.proofs.Pending.{none_pending}
use Rattle.register_laws.proofs.Settled.{IsSettled}
use Rattle.register_laws.specs.Footprint.{Footprint, ChangesWithin, Misses, is_place, is_pending, nothing, the_word, of_group, pending, any_pending}
use Rattle.register_laws.specs.Sound.{AreSound, IsMail, bits_of_row, pending_bits}
use Rattle.register_laws.proofs.Fields.{words-with_wanted, words-with_reported}
use Rattle.register_laws.proofs.Covers.{fails, cause_is_pending, mask_is_pending}
use Rattle.register_laws.proofs.Footprints.{word_stands, misses-narrower, misses-within, misses-owner, covers-pending, covers-any_pending}
use Rattle.register_laws.proofs.Owners.{is_group-itself, is_group-same, is_place-itself, is_place-same}
use Rattle.register_laws.proofs.Shape.{HasShape-put, HasShape-with_wanted, HasShape-with_interrupts}
use Rattle.register_laws.proofs.Standing.{causes_there, enabled_there, report_there}
use Rattle.register_laws.proofs.WithinParts.{within-put, within-with_wanted, within-with_interrupts}
use Rattle.register_laws.proofs.ReadBack.{masks}
use Rattle.register_laws.proofs.RowBits.{HaveRowBits, row_bits-put}
use Rattle.std.specs.Prelude.{Option, Some, None, bit_and}
use Rattle.std.proofs.Common.{cond}
use Rattle.register_laws.specs.Sound.{bits_of_kind}
use Rattle.register_laws.proofs.GroupChanges.{GroupChange, kept, changed}
use Rattle.register_laws.proofs.RowBits.{IsSubset-trans, IsSubset-and_left, IsSubset-merged, within_row}

-- If a footprint has nothing in common with the pending state of a group, the cause and the mask of each reported bit
-- of the group remain 1.
pub reported_stands : (f : Footprint) (r s : Registers) (g : Group) → Misses f (pending g) → ChangesWithin f r s
    → IsSubset (reported_by r g) (pending_bits r g) → IsSubset (reported_by s g) (pending_bits s g)
reported_stands f r s g out only reported =
    let cause : Place = place (cause_row g) (index_of g) in
    let mask : Place = place (mask_row g) (index_of g) in
    let causes = word_stands only cause (λ bit. out.bits cause bit (cause_is_pending g bit)) in
    let masks = word_stands only mask (λ bit. out.bits mask bit (mask_is_pending g bit)) in
    let tells = only.reported g (out.reported g (is_group-itself g)) in
    subst (λ (x : ℕ × ℕ × ℕ). IsSubset x.0 (intersection x.1 x.2)) (λ k. (sym tells k, sym causes k, sym masks k))
    reported

-- A word at a place without causes and masks, and a request.
steady_misses : (p : Place) (g : Group) → is_pending (row_of p.row).kind ≡ false → Misses (the_word p) (pending g)
steady_misses p g steady = misses-within (the_word p) any_pending (pending g) (covers-any_pending g) (record {
  bits = λ q bit is. fails (is_place p q) (is_pending (row_of p.row).kind)
      (λ same. ap (λ (x : Place). is_pending (row_of x.row).kind) (is_place-same p q same) ∙ is) steady;
  wanted = λ dir queue is. refl;
  reported = λ h is. refl;
})

pub sound-put : (r : Registers) (p : Place) (v : ℕ) → AreSound r → IsSubset v (bits_of_row p.row)
    → is_pending (row_of p.row).kind ≡ false → (is_mail (row_of p.row).kind ≡ true → IsMail v)
    → AreSound (record r { words = put r.words p v })
sound-put r p v sound own steady mail = record {
  shape = HasShape-put r p v sound.shape;
  words = row_bits-put r p v sound.shape sound.words own;
  reported = λ g b. reported_stands (the_word p) r (record r { words = put r.words p v }) g (steady_misses p g steady)
      (within-put (the_word p) r p v (λ bit. is_place-itself p)) (sound.reported g b);
  mail = mail-put r p v mail sound.mail;
}

-- A word that isn't a mailbox.
pub plain : (b : Bool) (word : ℕ) → b ≡ false → b ≡ true → IsMail word
plain b word off on = absurd (both_ways b off on)

wanted_alone : Dir → ℕ → Footprint
wanted_alone dir queue = record nothing { wanted = λ other number. true }

pub sound-with_wanted : (r : Registers) (dir : Dir) (queue : ℕ) (wanted : Bool) → AreSound r
    → AreSound (with_wanted r dir queue wanted)
unfolding wanted_alone
sound-with_wanted r dir queue wanted sound = record {
  shape = HasShape-with_wanted r dir queue wanted sound.shape;
  words = λ p. subst (λ ws. IsSubset (word_at ws p) (bits_of_row p.row)) (sym (words-with_wanted r dir queue wanted))
      (sound.words p);
  reported = λ g b. reported_stands (wanted_alone dir queue) r (with_wanted r dir queue wanted) g
      (record { bits = λ p bit is. refl; wanted = λ other number is. cc; reported = λ h is. refl })
      (within-with_wanted (wanted_alone dir queue) r dir queue wanted refl) (sound.reported g b);
  mail = λ v. mail_same _ _ (ap (λ ws. word_at ws (place Pvfmailbox v)) (words-with_wanted r dir queue wanted))
      (sound.mail v);
}

-- The interrupts of a group.
pub others_miss : (g h : Group) → is_group h g ≡ false → Misses (pending h) (pending g)
others_miss g h other =
    misses-narrower (of_group h) (pending h) (pending g) (covers-pending h)
    (misses-within (of_group h) (of_group g) (pending g) (covers-pending g)
    (misses-owner (owner.Group h) (owner.Group g) other))

-- A group's causes and masks have only bits of the group.
pub cause_bits : (g : Group) → bits_of_row (cause_row g) ≡ group_bits g
cause_bits Pf = (masks Pf).0
cause_bits (Vf v) = (masks (Vf v)).0

mask_bits : (g : Group) → bits_of_row (mask_row g) ≡ group_bits g
mask_bits Pf = (masks Pf).1
mask_bits (Vf v) = (masks (Vf v)).1

bits-with_interrupts : (r : Registers) (s : Interrupts) → AreSound r → IsConsistent s
    → HaveRowBits (with_interrupts r s)
bits-with_interrupts r s sound c p =
    let cause : Place = place (cause_row s.group) (index_of s.group) in
    let caused : Registers = record r { words = put r.words cause s.causes } in
    let mask : Place = place (mask_row s.group) (index_of s.group) in
    let masked : Registers = record caused { words = put caused.words mask s.enabled } in
    subst (λ ws. IsSubset (word_at ws p) (bits_of_row p.row)) (sym (words-with_reported masked s.group s.reported))
    (row_bits-put caused mask s.enabled (HasShape-put r cause s.causes sound.shape)
    (row_bits-put r cause s.causes sound.shape sound.words
    (subst (IsSubset s.causes) (sym (cause_bits s.group)) c.causes_exist))
    (subst (IsSubset s.enabled) (sym (mask_bits s.group)) c.masks_exist) p)

pub sound-with_interrupts : (r : Registers) (s : Interrupts) → AreSound r → IsSettled s → AreSound (with_interrupts r s)
sound-with_interrupts r s sound settled = record {
  shape = HasShape-with_interrupts r s sound.shape;
  words = bits-with_interrupts r s sound settled.consistent;
  reported =
      λ g b. elim (cases_Bool (is_group s.group g)) as (λ _. IsSubset (reported_by (with_interrupts r s) g)
      (pending_bits (with_interrupts r s) g)) [
        | inr other ↦ reported_stands (pending s.group) r (with_interrupts r s) g (others_miss g s.group other)
            (within-with_interrupts r s) (sound.reported g b)
        | inl same ↦
            let own : index_of s.group < 64 = subst (λ h. index_of h < 64) (sym (is_group-same s.group g same)) b in
            let reported = sym (report_there r sound.shape s own) in
            let causes = sym (causes_there r sound.shape s own) in
            let enabled = sym (enabled_there r sound.shape s own) in
            subst (λ h. IsSubset (reported_by (with_interrupts r s) h) (pending_bits (with_interrupts r s) h))
            (is_group-same s.group g same)
            (subst (λ (x : ℕ × ℕ × ℕ). IsSubset x.0 (intersection x.1 x.2))
            (λ k. (reported k, causes k, enabled k))
            settled.consistent.reported_is_pending)
      ];
  mail = λ v. mail_same _ _ (word_stands (within-with_interrupts r s) (place Pvfmailbox v)
      (none_pending (place Pvfmailbox v) refl s.group)) (sound.mail v);
}

-- One of two outcomes; accesses to a group, a side, and a stored word.
pub sound-if : (b : Bool) (r s : Registers) → AreSound r → AreSound s → AreSound (cond b r s)
sound-if true r s sound other = sound
sound-if false r s sound other = other

pub sound-change : (r : Registers) (g : Group) (s : Registers) → AreSound r → GroupChange r g s → AreSound s
sound-change r g s sound kept = sound
sound-change r g s sound (changed made same is) = sound-with_interrupts r made sound is

pub sound_group : (r : Registers) (change : Group → Registers) → AreSound r → ((g : Group) → GroupChange r g (change g))
    → (o : Option Group) → AreSound (option_map_or change o r)
sound_group r change sound each None = sound
sound_group r change sound each (Some g) = sound-change r g (change g) sound (each g)

pub sound-asked : (r : Registers) (o : Owner) (wanted : Bool) → AreSound r → AreSound (asked r o wanted)
sound-asked r (owner.Side dir queue) wanted sound = sound-with_wanted r dir queue wanted sound
sound-asked r other wanted sound = sound

-- A written word takes bits of the mask, if the kind can have all of them.
pub sound-stored : (k : Kind) (r : Registers) (p : Place) (view word : ℕ) → (row_of p.row).kind ≡ k
    → is_pending k ≡ false → is_mail k ≡ false → IsSubset (row_of p.row).mask (bits_of_kind k (row_of p.row).mask)
    → AreSound r
    → AreSound (stored r p view word)
sound-stored k r p view word e steady other has sound =
    let mask = (row_of p.row).mask in
    let own = within_row p.row mask (subst (λ j. IsSubset mask (bits_of_kind j mask)) (sym e) has) in
    sound-put r p _ sound (IsSubset-merged (bit_and mask view) (word_at r.words p) word (bits_of_row p.row)
    (sound.words p) (IsSubset-trans (bit_and mask view) mask (bits_of_row p.row) (IsSubset-and_left mask view) own))
    (ap is_pending e ∙ steady) (plain _ _ (ap is_mail e ∙ other))
