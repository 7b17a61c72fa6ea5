-- Footprints: the parts of the registers that an access may change.
use Rattle.std.specs.Prelude.{ℕ, ◌==◌, Bool, false, ◌&&◌, ◌||◌}
use Rattle.reg_table.specs.Rows.{number_of}
use Rattle.reg_table.specs.declared.place.Place.{Place}
use Rattle.intr_unit.specs.declared.group.Group.{Group}
use Rattle.register_file.specs.Columns.{place}
use Rattle.register_file.specs.Groups.{cause_row, mask_row, index_of}
use Rattle.register_file.specs.Owner.{owner_of, is_owner, is_group}
use Rattle.dma_ring.specs.declared.dir.Dir.{Dir}
use Rattle.register_file.specs.declared.owner.Owner.{Owner}
use Rattle.register_file.specs.declared.owner.Owner.TheVariants as owner

-- The parts of the registers that may change: bits of words, enable requests of queues' sides, and reported bits of
-- groups.
pub record Footprint : Type 0 where
  pub bits : Place → ℕ → Bool
  pub wanted : Dir → ℕ → Bool
  pub reported : Group → Bool

abbrev pub nothing : Footprint
nothing = record { bits = λ p bit. false; wanted = λ dir queue. false; reported = λ g. false }

-- The union of two footprints.
abbrev pub either : Footprint → Footprint → Footprint
either f g =
    record {
      bits = λ p bit. f.bits p bit || g.bits p bit;
      wanted = λ dir queue. f.wanted dir queue || g.wanted dir queue;
      reported = λ h. f.reported h || g.reported h;
    }

-- Whether two places are equal.
abbrev pub is_place : Place → Place → Bool
is_place p q = number_of p.row == number_of q.row && p.index == q.index

-- The word at one place.
abbrev pub the_word : Place → Footprint
the_word p = record { bits = λ q bit. is_place p q; wanted = λ dir queue. false; reported = λ g. false }

-- Some bits of the word at one place.
abbrev pub the_bits : Place → (ℕ → Bool) → Footprint
the_bits p has = record nothing { bits = λ q bit. is_place p q && has bit }

-- The word at a place, and the enable request of the side that it belongs to.
abbrev pub the_enable : Place → Footprint
the_enable p =
    record {
      bits = λ q bit. is_place p q;
      wanted = λ dir queue. is_owner (owner_of p) (owner.Side dir queue);
      reported = λ g. false;
    }

-- The pending state of a group: its causes, masks and reported bits.
abbrev pub pending : Group → Footprint
pending g =
    record {
      bits = λ p bit.
          is_place (place (cause_row g) (index_of g)) p || is_place (place (mask_row g) (index_of g)) p;
      wanted = λ dir queue. false;
      reported = is_group g;
    }

-- The pending state of an owner. Only groups have any.
abbrev pub pending_of : Owner → Footprint
pending_of owner.Device = nothing
pending_of owner.Counters = nothing
pending_of (owner.Side dir queue) = nothing
pending_of (owner.Group g) = pending g
pending_of (owner.Pool number) = nothing
pending_of (owner.VfCounters number) = nothing
pending_of (owner.Vectors number) = nothing
