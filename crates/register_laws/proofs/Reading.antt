-- Which properties a read of a register preserves, given what it leaves and what it may change.
use Rattle.std.proofs.Common.{◌≡◌, ℕ, true, false, refl, ap}
use Rattle.register_file.specs.RegTable.declared.kind.Kind.TheVariants as kind
use Rattle.register_file.specs.Access.{group_in, in_group, group_read}
use Rattle.register_file.specs.declared.owner.Owner.TheVariants as owner
use Rattle.register_laws.specs.Prelude.{Dir, Kind, Mode, Place, Registers, is_of_pool, is_owner, owner_of, put, row_of}
use Rattle.register_laws.proofs.Prelude.{IsSubset-no_bits}
use Rattle.register_laws.specs.Footprint.{Footprint, LacksWord, ChangesWithin, Covers, Misses, AgreeWithin, nothing, is_place, the_word, of_owner, of_side, pending_of, pool_agrees, is_pending, is_alone}
use Rattle.register_laws.specs.Sound.{HasShape, AreSound}
use Rattle.register_laws.proofs.Agreeing.{agree-put}
use Rattle.register_laws.proofs.Covers.{misses-narrower, misses-nothing, misses-owner, covers-nothing, covers-the_word}
use Rattle.register_laws.proofs.Footprints.{within-refl}
use Rattle.register_laws.proofs.GroupChanges.{change-group_read}
use Rattle.register_laws.proofs.Holders.{is_mail}
use Rattle.register_laws.proofs.NoSide.{counters_own, pending_misses_sides}
use Rattle.register_laws.proofs.Owners.{is_place-itself}
use Rattle.register_laws.proofs.Pending.{covers-pending_of, alone_pending_of}
use Rattle.register_laws.proofs.PoolAccessed.{agree-group_read, agree-in_group}
use Rattle.register_laws.proofs.SoundParts.{plain, sound-put, sound_group}
use Rattle.register_laws.proofs.WithinParts.{within-put, within_group}

-- Registers that agree in a pool still agree after the same change at one of its places.
abbrev pub KeepsAgreement : Kind → (Registers → Place → Registers) → Type 0
KeepsAgreement k change =
    (mode : Mode) (v : ℕ) (a b : Registers) → HasShape a → HasShape b → AgreeWithin (pool_agrees mode v) a b →
    (p : Place) → (row_of p.row).kind ≡ k → is_of_pool mode v p ≡ true →
    AgreeWithin (pool_agrees mode v) (change a p) (change b p)

-- A read changes only what it may change. This belongs to the owner of its place, and contains no part of another place
-- that is alone and no part of a side. The read keeps registers sound, and keeps agreement in a pool.
pub record KeepsReading (k : Kind) (leaves : Registers → Place → Registers) (by : Place → Footprint) : Type 0 where
  pub within : (r : Registers) (p : Place) → ChangesWithin (by p) r (leaves r p)
  pub owned : (p : Place) → (row_of p.row).kind ≡ k → Covers (of_owner (owner_of p)) (by p)
  pub calm : (p q : Place) → is_place p q ≡ false → is_alone (row_of q.row).kind ≡ true → LacksWord (by p) q
  pub no_side : (p : Place) → (row_of p.row).kind ≡ k → (dir : Dir) (queue : ℕ) → Misses (by p) (of_side dir queue)
  pub sound : (r : Registers) (p : Place) → (row_of p.row).kind ≡ k → AreSound r → AreSound (leaves r p)
  pub agree : KeepsAgreement k leaves

-- A read that changes nothing.
pub quiet_read : (k : Kind) → KeepsReading k (λ r p. r) (λ p. nothing)
quiet_read k = record {
  within = λ r p. within-refl nothing r;
  owned = λ p e. covers-nothing _;
  calm = λ p q n alone bit. refl;
  no_side = λ p e dir queue. misses-nothing _;
  sound = λ r p e sound. sound;
  agree = λ mode v a b ha hb same p e is. same;
}

-- A read that sets a counter to 0.
pub counter_read : KeepsReading kind.Rc (λ r p. record r { words = put r.words p 0 }) the_word
counter_read = record {
  within = λ r p. within-put (the_word p) r p 0 (λ bit. is_place-itself p);
  owned = λ p e. covers-the_word p;
  calm = λ p q n alone bit. n;
  no_side = λ p e dir queue.
      misses-narrower (of_owner (owner_of p)) (the_word p) (of_side dir queue) (covers-the_word p)
      (misses-owner (owner_of p) (owner.Side dir queue)
      (ap (λ o. is_owner o (owner.Side dir queue)) (counters_own p e)));
  sound = λ r p e sound. sound-put r p 0 sound (IsSubset-no_bits _) (ap is_pending e)
      (plain _ 0 (ap is_mail e));
  agree = λ mode v a b ha hb same p e is. agree-put (pool_agrees mode v) a b ha hb same p 0 0 refl;
}

-- A read of a group's causes.
pub causes_read : (k : Kind) → KeepsReading k (λ r p. in_group r p (group_read r)) (λ p. pending_of (owner_of p))
causes_read k = record {
  within = λ r p. within_group r (group_read r) (change-group_read r) (owner_of p);
  owned = λ p e. covers-pending_of (owner_of p);
  calm = λ p q n alone. alone_pending_of q alone (owner_of p);
  no_side = λ p e dir queue. pending_misses_sides (owner_of p) dir queue;
  sound = λ r p e sound. sound_group r (group_read r) sound (change-group_read r) (group_in (owner_of p));
  agree = λ mode v a b ha hb same p e is.
      agree-in_group mode v a b same ha hb p (group_read a) (group_read b) is
      (agree-group_read mode v a b same ha hb);
}
