-- If a write to a register requests no reset: which properties the write preserves, given what it leaves and what it
-- may change.
use Rattle.std.proofs.Common.{◌≡◌, ℕ, true, false, refl}
use Rattle.std.specs.Prelude.{bit_and, if◌then◌else◌}
use Rattle.register_file.specs.Access.{group_in, in_group, is_running, asked, stored}
use Rattle.register_laws.specs.Prelude.{Group, IsSubset, Kind, Place, Registers, RowId, has_bit, owner_of, row_of}
use Rattle.register_laws.specs.Footprint.{Footprint, LacksWord, ChangesWithin, Covers, nothing, is_place, the_word, the_enable, of_owner, pending_of, pool_agrees, is_pending, is_alone, is_own}
use Rattle.register_laws.specs.Sound.{AreSound, bits_of_kind}
use Rattle.register_laws.proofs.Agreeing.{agree-if}
use Rattle.register_laws.proofs.Covers.{covers-nothing, covers-the_word, covers-the_enable}
use Rattle.register_laws.proofs.Footprints.{within-refl, within-trans, within-if}
use Rattle.register_laws.proofs.GroupChanges.{ChangesGroup}
use Rattle.register_laws.proofs.Holders.{is_mail}
use Rattle.register_laws.proofs.Owners.{is_place-itself}
use Rattle.register_laws.proofs.Pending.{covers-pending_of, alone_pending_of}
use Rattle.register_laws.proofs.PoolAccessed.{KeepsGroupAgreement, agree-stored, agree-asked, agree-in_group, running_at}
use Rattle.register_laws.proofs.Reading.{KeepsAgreement}
use Rattle.register_laws.proofs.SoundParts.{sound-if, sound-stored, sound-asked, sound_group}
use Rattle.register_laws.proofs.WithinParts.{within-stored, within-asked, within_group}

-- A write changes only what it may change. This belongs to the owner of its place, if the kind says so, and contains no
-- part of another place that is alone. The write keeps registers sound, and keeps agreement in a pool.
pub record KeepsWriting (k : Kind) (written : Registers → Place → ℕ → ℕ → Registers) (by : Place → Footprint)
    : Type 0 where
  pub within : (r : Registers) (p : Place) (view word : ℕ) → ChangesWithin (by p) r (written r p view word)
  pub owned : is_own k ≡ true → (p : Place) → (row_of p.row).kind ≡ k → Covers (of_owner (owner_of p)) (by p)
  pub calm : (p q : Place) → is_place p q ≡ false → is_alone (row_of q.row).kind ≡ true → LacksWord (by p) q
  pub sound : (r : Registers) (p : Place) → (row_of p.row).kind ≡ k → AreSound r → (view word : ℕ)
      → AreSound (written r p view word)
  pub agree : (view word : ℕ) → KeepsAgreement k (λ r p. written r p view word)

-- A write that changes nothing.
pub no_write : (k : Kind) → KeepsWriting k (λ r p view word. r) (λ p. nothing)
no_write k = record {
  within = λ r p view word. within-refl nothing r;
  owned = λ own p e. covers-nothing _;
  calm = λ p q n alone bit. refl;
  sound = λ r p e sound view word. sound;
  agree = λ view word mode v a b ha hb same p e is. same;
}

-- A row of the kind can have all bits of its mask.
abbrev pub HasMask : Kind → Type 0
HasMask k = (row : RowId) → IsSubset (row_of row).mask (bits_of_kind k (row_of row).mask)

-- The stored word is the written one, or what the kind takes of it.
pub stored_write : (k : Kind) (taken : ℕ → ℕ) → is_pending k ≡ false → is_mail k ≡ false → HasMask k
    → KeepsWriting k (λ r p view word. stored r p view (taken word)) the_word
stored_write k taken steady other has = record {
  within = λ r p view word. within-stored (the_word p) r p view (taken word) (λ bit. is_place-itself p);
  owned = λ own p e. covers-the_word p;
  calm = λ p q n alone bit. n;
  sound = λ r p e sound view word. sound-stored k r p view (taken word) e steady other (has p.row) sound;
  agree = λ view word mode v a b ha hb same p e is. agree-stored mode v a b same ha hb p view (taken word) is;
}

-- A ring's word is stored while its side is disabled.
pub held_write : (k : Kind) → is_pending k ≡ false → is_mail k ≡ false → HasMask k
    → KeepsWriting k (λ r p view word. if is_running r (owner_of p) then r else stored r p view word) the_word
held_write k steady other has = record {
  within = λ r p view word.
      within-if (the_word p) (is_running r (owner_of p)) r r (stored r p view word) (within-refl (the_word p) r)
      (within-stored (the_word p) r p view word (λ bit. is_place-itself p));
  owned = λ own p e. covers-the_word p;
  calm = λ p q n alone bit. n;
  sound = λ r p e sound view word.
      sound-if (is_running r (owner_of p)) r (stored r p view word) sound
      (sound-stored k r p view word e steady other (has p.row) sound);
  agree = λ view word mode v a b ha hb same p e is.
      agree-if (pool_agrees mode v) (is_running a (owner_of p)) (is_running b (owner_of p)) a b (stored a p view word)
      (stored b p view word) (running_at mode v a b same ha hb p is) same
      (agree-stored mode v a b same ha hb p view word is);
}

-- A write to an enable word requests a state of its side.
pub enable_write : (k : Kind) → is_pending k ≡ false → is_mail k ≡ false → HasMask k
    → KeepsWriting k (λ r p view word. asked (stored r p view word) (owner_of p) (has_bit 25 word)) the_enable
enable_write k steady other has = record {
  within = λ r p view word.
      within-trans (the_enable p) r (stored r p view word) (asked (stored r p view word) (owner_of p) (has_bit 25 word))
      (within-stored (the_enable p) r p view word (λ bit. is_place-itself p))
      (within-asked (the_enable p) (stored r p view word) (owner_of p) (has_bit 25 word) (λ dir queue is. is));
  owned = λ own p e. covers-the_enable p;
  calm = λ p q n alone bit. n;
  sound = λ r p e sound view word.
      sound-asked (stored r p view word) (owner_of p) (has_bit 25 word)
      (sound-stored k r p view word e steady other (has p.row) sound);
  agree = λ view word mode v a b ha hb same p e is.
      agree-asked mode v a b same ha hb p view word is (owner_of p) (has_bit 25 word);
}

-- The interrupts of a group change according to the written bits that the address shows.
pub group_write : (k : Kind) (change : Registers → Group → ℕ → Registers) → ChangesGroup change
    → KeepsGroupAgreement change
    → KeepsWriting k (λ r p view word. in_group r p (λ g. change r g (bit_and word view)))
    (λ p. pending_of (owner_of p))
group_write k change each agree = record {
  within = λ r p view word.
      within_group r (λ g. change r g (bit_and word view)) (λ g. each r g (bit_and word view)) (owner_of p);
  owned = λ own p e. covers-pending_of (owner_of p);
  calm = λ p q n alone. alone_pending_of q alone (owner_of p);
  sound = λ r p e sound view word.
      sound_group r (λ g. change r g (bit_and word view)) sound (λ g. each r g (bit_and word view))
      (group_in (owner_of p));
  agree = λ view word mode v a b ha hb same p e is.
      agree-in_group mode v a b same ha hb p (λ g. change a g (bit_and word view)) (λ g. change b g (bit_and word view))
      is (agree mode v a b ha hb same (bit_and word view));
}
