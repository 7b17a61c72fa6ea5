-- The parts of the registers that an operation may change.
use Rattle.std.specs.Prelude.{ℕ, ◌≡◌, Bool, true, false, ◌&&◌, IsTrue, IsFalse}
use Rattle.register_file.specs.declared.owner.Owner.TheVariants as owner
pub use Rattle.register_file.specs.Footprint.{Footprint, nothing, either, is_place, the_word, the_bits, the_enable}
pub use Rattle.register_file.specs.Footprint.{pending, pending_of}
use Rattle.register_laws.specs.Prelude.{Dir, Group, Kind, Mode, Owner, Place, Registers, Vf, behaviour_of, by_sending}
use Rattle.register_laws.specs.Prelude.{has_bit, has_queue, is_group, is_of_pool, is_owner, is_renewed, is_wanted}
use Rattle.register_laws.specs.Prelude.{owner_of, reported_by, row_of, word_at}

-- A part of the registers: whole words at places, the enable requests of sides, and the reported bits of groups.
pub record Part : Type 0 where
  pub words : Place → Bool
  pub wanted : Dir → ℕ → Bool
  pub reported : Group → Bool

-- The footprint that covers a part: all bits of each of the part's words, and its enable requests and reported bits.
abbrev pub all_of : Part → Footprint
all_of part = record { bits = λ p bit. part.words p; wanted = part.wanted; reported = part.reported }

-- The footprint contains no bit of the word.
abbrev pub LacksWord : Footprint → Place → Type 0
LacksWord f p = (bit : ℕ) → IsFalse (f.bits p bit)

-- Everything outside the footprint is unchanged.
pub record ChangesWithin (f : Footprint) (old new : Registers) : Type 0 where
  pub bits : (p : Place) (bit : ℕ) → IsFalse (f.bits p bit)
      → has_bit bit (word_at new.words p) ≡ has_bit bit (word_at old.words p)
  pub wanted : (dir : Dir) (queue : ℕ) → IsFalse (f.wanted dir queue)
      → is_wanted new dir queue ≡ is_wanted old dir queue
  pub reported : (g : Group) → IsFalse (f.reported g) → reported_by new g ≡ reported_by old g

-- The footprint `f` contains everything that `e` contains.
pub record Covers (f e : Footprint) : Type 0 where
  pub bits : (p : Place) (bit : ℕ) → IsTrue (e.bits p bit) → IsTrue (f.bits p bit)
  pub wanted : (dir : Dir) (queue : ℕ) → IsTrue (e.wanted dir queue) → IsTrue (f.wanted dir queue)
  pub reported : (g : Group) → IsTrue (e.reported g) → IsTrue (f.reported g)

-- The footprints `f` and `g` have nothing in common.
pub record Misses (f g : Footprint) : Type 0 where
  pub bits : (p : Place) (bit : ℕ) → IsTrue (g.bits p bit) → IsFalse (f.bits p bit)
  pub wanted : (dir : Dir) (queue : ℕ) → IsTrue (g.wanted dir queue) → IsFalse (f.wanted dir queue)
  pub reported : (h : Group) → IsTrue (g.reported h) → IsFalse (f.reported h)

-- Two register files agree in everything that belongs to the part.
pub record AgreeWithin (f : Part) (a b : Registers) : Type 0 where
  pub words : (p : Place) → IsTrue (f.words p) → word_at a.words p ≡ word_at b.words p
  pub wanted : (dir : Dir) (queue : ℕ) → IsTrue (f.wanted dir queue) → is_wanted a dir queue ≡ is_wanted b dir queue
  pub reported : (g : Group) → IsTrue (f.reported g) → reported_by a g ≡ reported_by b g

-- The footprint of everything.
abbrev pub everything : Footprint
everything = record { bits = λ p bit. true; wanted = λ dir queue. true; reported = λ g. true }

-- Everything that belongs to an owner: the words at the owner's places, a side's enable request, and a group's reported
-- bits.
abbrev pub of_owner : Owner → Footprint
of_owner o =
    record {
      bits = λ p bit. is_owner o (owner_of p);
      wanted = λ dir queue. is_owner o (owner.Side dir queue);
      reported = λ g. is_owner o (owner.Group g);
    }

abbrev pub counters : Footprint
counters = of_owner owner.Counters

abbrev pub of_side : Dir → ℕ → Footprint
of_side dir queue = of_owner (owner.Side dir queue)

abbrev pub of_group : Group → Footprint
of_group g = of_owner (owner.Group g)

-- Everything that belongs to a pool: the words at the pool's places, the enable requests of its queues' sides, and the
-- reported bits of the virtual function with the pool's number.
abbrev pub pool_agrees : Mode → ℕ → Part
pool_agrees mode v =
    record {
      words = is_of_pool mode v;
      wanted = λ dir queue. has_queue mode v queue;
      reported = is_group (Vf v);
    }

abbrev pub pool_has : Mode → ℕ → Footprint
pool_has mode v = all_of (pool_agrees mode v)

-- What accesses to a pool's places may change: everything that belongs to the pool, and what the pool's function
-- changes when it sends: its bits of PFMBICR, and the physical function's mailbox cause.
abbrev pub pool_changes : Mode → ℕ → Footprint
pool_changes mode v = either (pool_has mode v) (by_sending v)

-- What a pool reset covers, according to the table of the reset: the covered part of a footprint (`renewed_of`), and of
-- everything that belongs to the pool (`pool_renews`).
abbrev pub renewed_of : Footprint → Footprint
renewed_of f = record f { bits = λ p bit. is_renewed p.row bit && f.bits p bit }

abbrev pub pool_renews : Mode → ℕ → Footprint
pool_renews mode v = renewed_of (pool_has mode v)

-- Whether the words of a kind are causes or masks (`is_pending`), and whether no access to another place changes them
-- (`is_alone`).
abbrev pub is_pending : Kind → Bool
is_pending k = (behaviour_of k).is_pending

abbrev pub is_alone : Kind → Bool
is_alone k = (behaviour_of k).is_alone

-- Whether a write changes only what belongs to the place's owner.
abbrev pub is_own : Kind → Bool
is_own k = (behaviour_of k).is_own

-- The causes, masks and reported bits of all groups.
abbrev pub any_pending : Footprint
any_pending =
    record { bits = λ p bit. is_pending (row_of p.row).kind; wanted = λ dir queue. false; reported = λ g. true }

-- What a read of a place may change, and what a write to it may change if the write requests no reset of the device or
-- of a pool. The row's kind determines both.
abbrev pub read_by : Kind → Place → Footprint
read_by k = (behaviour_of k).by_read

abbrev pub of_read : Place → Footprint
of_read p = read_by (row_of p.row).kind p

abbrev pub written_by : Kind → Place → Footprint
written_by k = (behaviour_of k).by_write

abbrev pub of_write : Place → Footprint
of_write p = written_by (row_of p.row).kind p
