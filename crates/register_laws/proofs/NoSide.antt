-- The footprints of reads, counts and interrupts contain no part of a side.
use Rattle.std.proofs.Common.{◌≡◌, ℕ, refl}
use Rattle.register_file.specs.RegTable.declared.kind.Kind.TheVariants as kind
use Rattle.register_file.specs.RegTable.declared.rows.RowId.TheVariants as row
use Rattle.register_file.specs.declared.owner.Owner.TheVariants as owner
use Rattle.register_laws.specs.Prelude.{RowId, owner_in, row_of}
use Rattle.register_laws.specs.Footprint.{of_side, of_group, pending}
use Rattle.register_laws.specs.Laws.{CountersAreTheirOwn, PendingMissesSides}
use Rattle.register_laws.proofs.Covers.{misses-narrower, misses-owner, covers-pending, misses-nothing}

counter_owner : (row : RowId) (index : ℕ) → (row_of row).kind ≡ kind.Rc
    → owner_in (row_of row).bank index ≡ owner.Counters
counter_owner row.Qprc index e = refl
counter_owner row.Qprdc index e = refl
counter_owner row.Mpc index e = refl
counter_owner row.Gprc index e = refl
counter_owner row.Gptc index e = refl
counter_owner row.Ruc index e = refl
counter_owner row.Roc index e = refl
counter_owner row.Qptc index e = refl
counter_owner other index e = cc

pub counters_own : CountersAreTheirOwn
counters_own p e = counter_owner p.row p.index e

pub pending_misses_sides : PendingMissesSides
pending_misses_sides (owner.Group g) dir queue =
    misses-narrower (of_group g) (pending g) (of_side dir queue) (covers-pending g)
    (misses-owner (owner.Group g) (owner.Side dir queue) refl)
pending_misses_sides other dir queue = misses-nothing (of_side dir queue)
