-- What is outside a footprint.
use Rattle.std.proofs.Common.{◌≡◌, ◌≢◌, ◌+◌, ◌*◌, inl, inr, ℕ, Bool, true, false, refl, ap, sym, ◌∙◌}
use Rattle.std.specs.Prelude.{◌||◌, ◌&&◌, nat_lt}
use Rattle.std.proofs.Math.Bool.{and-false}
use Rattle.std.proofs.lemmas.Bool.{le-ltb, ne_eqb}
use Rattle.nic_device.specs.RegTable.declared.rows.RowId.TheVariants as row
use Rattle.nic_device.specs.RegisterFile.declared.owner.Owner.TheVariants as owner
use Rattle.nic_device.specs.RegisterLaws.Footprint.{Footprint, Misses, either, of_side, of_group, counters, pending, any_pending, is_pending}
use Rattle.nic_device.proofs.RegisterLaws.Footprints.{misses-narrower, misses-owner, covers-pending}
use Rattle.nic_device.proofs.RegisterLaws.NoSide.{pending_misses_sides}
use Rattle.nic_device.proofs.RegisterLaws.ReadBack.{owners_differ}
use Rattle.device_laws.specs.Prelude.{Avoids, Dir, Group, RowId, Rx, Tx, is_owner, owner_in, row_of}
use Rattle.device_laws.proofs.FunctionCounts.{function_counts-miss_side}
use Rattle.nic_device.specs.Footprint.{function_counts, counts_and_causes, has_some_of}

pub neither : (b c : Bool) → b ≡ false → c ≡ false → (b || c) ≡ false
neither true c e f = cc
neither false c e f = f

pub misses-either : (f g h : Footprint) → Misses f h → Misses g h → Misses (either f g) h
misses-either f g h first second = record {
  bits = λ p bit is. neither (f.bits p bit) (g.bits p bit) (first.bits p bit is) (second.bits p bit is);
  wanted = λ dir queue is.
      neither (f.wanted dir queue) (g.wanted dir queue) (first.wanted dir queue is) (second.wanted dir queue is);
  reported = λ i is. neither (f.reported i) (g.reported i) (first.reported i is) (second.reported i is);
}

pub misses-other_side : (dir : Dir) (queue other : ℕ) → other ≢ queue → Misses (of_side dir queue) (of_side dir other)
misses-other_side Rx queue other n =
    misses-owner (owner.Side Rx queue) (owner.Side Rx other) (ne_eqb queue other (λ e. n (sym e)))
misses-other_side Tx queue other n =
    misses-owner (owner.Side Tx queue) (owner.Side Tx other) (ne_eqb queue other (λ e. n (sym e)))

pub misses-other_group : (g h : Group) → h ≢ g → Misses (pending g) (of_group h)
misses-other_group g h n =
    misses-narrower (of_group g) (pending g) (of_group h) (covers-pending g)
    (misses-owner (owner.Group g) (owner.Group h)
    (owners_differ (owner.Group g) (owner.Group h) (λ e. let same : g ≡ h = cc in n (sym same))))

pub pending-misses_side : (g : Group) (dir : Dir) (queue : ℕ) → Misses (pending g) (of_side dir queue)
pending-misses_side g = pending_misses_sides (owner.Group g)

-- No register that belongs to a side contains causes or masks.
side_quiet : (row : RowId) (index : ℕ) (dir : Dir) (queue : ℕ)
    → is_owner (owner.Side dir queue) (owner_in (row_of row).bank index) ≡ true → is_pending (row_of row).kind ≡ false
side_quiet row.Eicr index dir queue e = cc
side_quiet row.Eims index dir queue e = cc
side_quiet row.Pvteicr index dir queue e = cc
side_quiet row.Pvteims index dir queue e = cc
side_quiet other index dir queue e = refl

any_pending-misses_side : (dir : Dir) (queue : ℕ) → Misses any_pending (of_side dir queue)
any_pending-misses_side dir queue = record {
  bits = λ p bit is. side_quiet p.row p.index dir queue is;
  wanted = λ other number is. refl;
  reported = λ g is. cc;
}

pub counts-miss_side : (dir : Dir) (queue : ℕ) → Misses counts_and_causes (of_side dir queue)
counts-miss_side dir queue =
    misses-either (either counters function_counts) any_pending (of_side dir queue)
    (misses-either counters function_counts (of_side dir queue)
    (misses-owner owner.Counters (owner.Side dir queue) refl)
    (function_counts-miss_side dir queue))
    (any_pending-misses_side dir queue)

-- A block outside a range of bytes contains none of these bytes.
pub has-none : (number address len : ℕ) → Avoids number address len → has_some_of number address len ≡ false
has-none number address len (inl low) =
    ap (λ b. b && nat_lt address (2048 * number + 2048)) (le-ltb (2048 * number) (address + len) low)
has-none number address len (inr high) =
    ap (λ b. nat_lt (2048 * number) (address + len) && b) (le-ltb address (2048 * number + 2048) high)
    ∙ and-false (nat_lt (2048 * number) (address + len))
