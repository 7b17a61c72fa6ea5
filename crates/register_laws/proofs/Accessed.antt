-- Lemmas about what an access to a place may change.
use Rattle.std.proofs.Common.{◌≡◌, true, false, refl}
use Rattle.register_laws.specs.Prelude.{Kind, Place, owner_of, row_of}
use Rattle.register_laws.specs.Footprint.{LacksWord, Covers, is_place, of_owner, is_alone, is_own, read_by, of_read, written_by, of_write}
use Rattle.register_laws.specs.Laws.{ReadMissesSides}
use Rattle.register_laws.proofs.Keeps.{keeps}
pub use Rattle.register_laws.proofs.Pending.{none_pending, none_pending_of}

-- An access changes only what belongs to the place's owner; a write does so if the row's kind says so.
pub covers-of_read : (p : Place) → Covers (of_owner (owner_of p)) (of_read p)
covers-of_read p = (keeps (row_of p.row).kind).read.owned p refl

pub covers-of_write : (p : Place) → is_own (row_of p.row).kind ≡ true → Covers (of_owner (owner_of p)) (of_write p)
covers-of_write p own = (keeps (row_of p.row).kind).write.owned own p refl

-- A read changes no part of a side.
pub read_misses_sides : ReadMissesSides
read_misses_sides p dir queue = (keeps (row_of p.row).kind).read.no_side p refl dir queue

-- Only accesses to a word's own place change the word if its kind is alone.
module _ (q : Place) (alone : is_alone (row_of q.row).kind ≡ true) where
  pub none_read_by : (k : Kind) (p : Place) → is_place p q ≡ false → LacksWord (read_by k p) q
  none_read_by k p n = (keeps k).read.calm p q n alone

  pub none_written_by : (k : Kind) (p : Place) → is_place p q ≡ false → LacksWord (written_by k p) q
  none_written_by k p n = (keeps k).write.calm p q n alone
