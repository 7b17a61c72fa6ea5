-- Registers stay sound when a pool is reset.
use Rattle.std.proofs.Common.{◌≡◌, ℕ, true, false, refl, ap, sym, ◌∙◌, subst, inl, inr, arith}
use Rattle.register_file.specs.RegTable.declared.bank.Bank.TheVariants as bank
use Rattle.register_file.specs.declared.owner.Owner.TheVariants as owner
use Rattle.register_laws.specs.Prelude.{Bank, Group, IsSubset, Mode, Place, Pvfmailbox, Registers, Vf, contains}
use Rattle.register_laws.specs.Prelude.{has_bit, is_group, is_of_pool, is_of_pool_by, mail_of, owner_in, owner_of}
use Rattle.register_laws.specs.Prelude.{place, pool_reset, reported_by, row_of, row_words, word_at}
use Rattle.register_laws.proofs.Prelude.{IsSubset-no_bits, both_ways, cases_Bool, cases_lt, get_or_past}
use Rattle.register_laws.specs.Footprint.{Misses, of_group, pool_has, pool_renews, pending}
use Rattle.register_laws.specs.Sound.{AreSound, bits_of_row, pending_bits}
use Rattle.register_laws.proofs.Footprints.{misses-within, covers-pending}
use Rattle.register_laws.proofs.Holders.{mail_fewer}
use Rattle.register_laws.proofs.Owners.{is_group-same, is_owner-same}
use Rattle.register_laws.proofs.PoolQueues.{turned}
use Rattle.register_laws.proofs.PoolReset.{renewed-pool, within-pool_reset}
use Rattle.register_laws.proofs.RowBits.{HaveRowBits, bits_where_inside, reset_bits}
use Rattle.register_laws.proofs.SoundParts.{reported_stands}

-- Each bit of a word is the reset value's bit, or is unchanged.
own_bits : (r : Registers) (mode : Mode) (v : ℕ) → AreSound r → HaveRowBits (pool_reset mode v r)
unfolding contains
own_bits r mode v sound p =
    let new = renewed-pool r mode v in
    let word = word_at (pool_reset mode v r).words p in
    bits_where_inside (pool_reset mode v r) (new.shape sound.shape) p (λ b. record {
      member = λ bit h. elim (cases_Bool ((pool_renews mode v).bits p bit)) as
          (λ _. contains (bits_of_row p.row) bit ≡ true) [
            | inl taken ↦ (reset_bits p.row).member bit (sym (new.bits sound.shape p bit taken b) ∙ h)
            | inr out ↦ (sound.words p).member bit (sym (new.alone.bits p bit out) ∙ h)
          ];
    })

-- The pending state of another group doesn't belong to the pool.
not_of_pool : (b : Bank) (mode : Mode) (v i : ℕ) (g : Group) → owner.Group g ≡ owner_in b i → is_group (Vf v) g ≡ false
    → is_of_pool_by b mode v i ≡ false
not_of_pool bank.Interrupts mode v i g e n = refl
not_of_pool bank.VfInterrupts mode v i g e n =
    let same : g ≡ Vf i = cc in
    turned i v ∙ ap (is_group (Vf v)) (sym same) ∙ n
not_of_pool other mode v i g e n = cc

others_miss : (mode : Mode) (v : ℕ) (g : Group) → is_group (Vf v) g ≡ false → Misses (pool_has mode v) (pending g)
others_miss mode v g n = misses-within (pool_has mode v) (of_group g) (pending g) (covers-pending g) (record {
  bits =
      λ p bit is. not_of_pool (row_of p.row).bank mode v p.index g (is_owner-same (owner.Group g) (owner_of p) is) n;
  wanted = λ dir queue is. cc;
  reported = λ h is. ap (is_group (Vf v)) (sym (is_group-same g h is)) ∙ n;
})

-- The pool's function doesn't hold its mailbox, or the mailbox doesn't exist.
mail_renewed : (r : Registers) (mode : Mode) (v w : ℕ) → AreSound r → is_of_pool mode v (place Pvfmailbox w) ≡ true
    → has_bit 2 (mail_of (pool_reset mode v r) w) ≡ false
mail_renewed r mode v w sound own =
    let new = renewed-pool r mode v in
    elim (cases_lt w 64) as (λ _. has_bit 2 (mail_of (pool_reset mode v r) w) ≡ false) [
      | inl b ↦ new.bits sound.shape (place Pvfmailbox w) 2 own b
      | inr past ↦
          let short = (new.shape sound.shape).has_indices Pvfmailbox in
          ap (has_bit 2) (get_or_past (row_words (pool_reset mode v r).words Pvfmailbox) w 0 (omega arith))
    ]

pub sound-pool_reset : (r : Registers) (mode : Mode) (v : ℕ) → AreSound r → AreSound (pool_reset mode v r)
sound-pool_reset r mode v sound =
    let new = renewed-pool r mode v in
    record {
      shape = new.shape sound.shape;
      words = own_bits r mode v sound;
      reported = λ g b. elim (cases_Bool (is_group (Vf v) g)) as
          (λ _. IsSubset (reported_by (pool_reset mode v r) g) (pending_bits (pool_reset mode v r) g)) [
            | inr out ↦ reported_stands (pool_has mode v) r (pool_reset mode v r) g (others_miss mode v g out)
                (within-pool_reset r mode v) (sound.reported g b)
            | inl own ↦ subst (λ t. IsSubset t (pending_bits (pool_reset mode v r) g))
                (sym (new.reported sound.shape g own b))
                (IsSubset-no_bits (pending_bits (pool_reset mode v r) g))
          ];
      mail = λ w.
          let there : Place = place Pvfmailbox w in
          let only = new.alone in
          mail_fewer (mail_of r w) (mail_of (pool_reset mode v r) w)
          (λ on. elim (cases_Bool (is_of_pool mode v there)) as (λ _. has_bit 2 (mail_of r w) ≡ true) [
            | inr out ↦ sym (only.bits there 2 out) ∙ on
            | inl own ↦ absurd (both_ways _ (mail_renewed r mode v w sound own) on)
          ])
          (only.bits there 3 refl) (only.bits there 6 refl) (only.bits there 7 refl) (sound.mail w);
    }
