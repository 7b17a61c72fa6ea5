-- Lemmas about what is pending for an owner, and about the places at which nothing is pending.
use Rattle.std.proofs.Common.{◌≡◌, true, false, refl}
use Rattle.register_file.specs.RegTable.declared.kind.Kind.TheVariants as kind
use Rattle.register_file.specs.declared.owner.Owner.TheVariants as owner
use Rattle.register_laws.specs.Prelude.{Group, Kind, Owner, Place, row_of}
use Rattle.register_laws.specs.Footprint.{LacksWord, Covers, of_owner, pending, pending_of, any_pending, is_pending, is_alone}
use Rattle.register_laws.proofs.Covers.{fails, covers-nothing, covers-pending, covers-any_pending}

pub covers-pending_of : (o : Owner) → Covers (of_owner o) (pending_of o)
covers-pending_of (owner.Group g) = covers-pending g
covers-pending_of other = covers-nothing _

-- Words that no access to another place changes are neither causes nor masks.
pub alone_steady : (k : Kind) → is_alone k ≡ true → is_pending k ≡ false
alone_steady kind.Cause alone = cc
alone_steady kind.Ones alone = cc
alone_steady other alone = refl

-- At a place that contains neither causes nor masks, nothing is pending.
module _ (q : Place) (steady : is_pending (row_of q.row).kind ≡ false) where
  pub none_pending : (g : Group) → LacksWord (pending g) q
  none_pending g bit =
      fails ((pending g).bits q bit) (any_pending.bits q bit) ((covers-any_pending g).bits q bit) steady

  pub none_pending_of : (o : Owner) → LacksWord (pending_of o) q
  none_pending_of (owner.Group g) = none_pending g
  none_pending_of other = λ bit. refl

pub alone_pending_of : (q : Place) → is_alone (row_of q.row).kind ≡ true → (o : Owner) → LacksWord (pending_of o) q
alone_pending_of q alone o = none_pending_of q (alone_steady (row_of q.row).kind alone) o
