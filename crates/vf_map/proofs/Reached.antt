-- The laws of the map of the virtual functions.
use Rattle.std.proofs.Common.{◌≡◌, ◌≢◌, ℕ, ◌*◌, ◌/◌, ◌%◌, true, Option, Some, None, refl, ap, sym, ◌∙◌, ◌⊎◌, inl, inr}
use Rattle.std.specs.Prelude.{IsTrue}
use Rattle.std.proofs.lemmas.Bool.{eqb-true}
use Rattle.reg_table.specs.Place.{place_among, view_among, address_among}
use Rattle.reg_table.specs.Rows.{row_of}
use Rattle.reg_table.specs.Runs.{runs}
use Rattle.reg_table.specs.declared.bank.Bank.{Bank}
use Rattle.reg_table.specs.declared.bank.Bank.TheVariants as bank
use Rattle.reg_table.specs.declared.place.Place.{Place}
use Rattle.reg_table.proofs.Aligned.{whole_words}
use Rattle.reg_table.proofs.FirstAddresses.{first_addresses_read_back, first_address_names, found_back}
use Rattle.reg_table.proofs.FirstViews.{first_view}
use Rattle.vf_map.specs.declared.mode.Mode.{Mode}
use Rattle.vf_map.specs.declared.located.Located.{Located}
use Rattle.vf_map.specs.declared.located.Located.TheVariants.{Register}
use Rattle.vf_map.specs.declared.mapped.Mapped.TheVariants.{Pf}
use Rattle.vf_map.specs.declared.mapped.Mapped.TheVariants as mapped_as
use Rattle.vf_map.specs.Pools.{pool_of}
use Rattle.vf_map.specs.Owner.{is_pool, is_of_pool, is_of_pool_by, is_shared}
use Rattle.vf_map.specs.Map.{located, mapped, mapped_to, at_address}
use Rattle.vf_map.specs.Laws.{IsInRange}
use Rattle.vf_map.proofs.Owners.{located_aligned, located_in_range, located_owner}

-- A located place's index is below its row's count.
pub in_range : (m : Located) (mode : Mode) (vfs v o : ℕ) → m ≡ located mode vfs v o → IsInRange m
in_range Located.Absent mode vfs v o e = tt
in_range Located.Hole mode vfs v o e = tt
in_range (Register p) mode vfs v o e = located_in_range mode vfs v o p (sym e)

-- If an offset reaches a place, the offset is mapped to an address that has this place and shows all its bits.
pub reads_back : (mode : Mode) (vfs v o : ℕ) (p : Place) → located mode vfs v o ≡ Register p →
    (a : ℕ) × (mapped mode vfs v o ≡ Pf a) × (place_among runs a ≡ Some p) × (view_among runs a ≡ 0xFFFFFFFF)
reads_back mode vfs v o p e =
    let first = first_addresses_read_back p (located_in_range mode vfs v o p e) in
    let at : address_among runs p ≡ Some first.0 = first.1.0 in
    (first.0, ap mapped_to e ∙ ap at_address at, found_back p first.0 at, first_view p first.0 at)

at_address-found : (o : Option ℕ) (a : ℕ) → at_address o ≡ Pf a → o ≡ Some a
at_address-found None a e = cc
at_address-found (Some b) a e = cc

pub mapped_from : (m : Located) (a : ℕ) → mapped_to m ≡ Pf a →
    (p : Place) × (m ≡ Register p) × (address_among runs p ≡ Some a)
mapped_from Located.Absent a e = cc
mapped_from Located.Hole a e = cc
mapped_from (Register p) a e = (p, refl, at_address-found (address_among runs p) a e)

pub aligned : (mode : Mode) (vfs v o a : ℕ) → mapped mode vfs v o ≡ Pf a → (o % 4 ≡ 0) × (a % 4 ≡ 0)
aligned mode vfs v o a e =
    let from = mapped_from (located mode vfs v o) a e in
    (located_aligned mode vfs v o from.0 from.1, whole_words a from.0 (first_address_names from.0 a from.2))

pub the_pools : (mode : Mode) (vfs v o : ℕ) (p : Place) → located mode vfs v o ≡ Register p →
    IsTrue (is_of_pool mode v p) ⊎ IsTrue (is_shared p)
the_pools mode vfs v o p e = located_owner mode vfs v o p e

-- A place belongs to at most one pool.

is_pool-one : (v w : ℕ) (o : Option ℕ) → is_pool v o ≡ true → is_pool w o ≡ true → v ≡ w
is_pool-one v w None e f = cc
is_pool-one v w (Some pool) e f = sym (eqb-true pool v e) ∙ eqb-true pool w f

one_pool_by : (b : Bank) (mode : Mode) (v w index : ℕ) → is_of_pool_by b mode v index ≡ true →
    is_of_pool_by b mode w index ≡ true → v ≡ w
one_pool_by bank.Device mode v w index e f = cc
one_pool_by bank.Counters mode v w index e f = cc
one_pool_by bank.Receive mode v w index e f = is_pool-one v w (pool_of mode index) e f
one_pool_by bank.Transmit mode v w index e f = is_pool-one v w (pool_of mode index) e f
one_pool_by bank.Interrupts mode v w index e f = cc
one_pool_by bank.VfInterrupts mode v w index e f = sym (eqb-true index v e) ∙ eqb-true index w f
one_pool_by bank.Pool mode v w index e f = sym (eqb-true index v e) ∙ eqb-true index w f
one_pool_by bank.Vectors mode v w index e f = is_pool-one v w (pool_of mode (2 * index)) e f
one_pool_by bank.Messages mode v w index e f = sym (eqb-true (index / 16) v e) ∙ eqb-true (index / 16) w f
one_pool_by bank.VfCounters mode v w index e f = sym (eqb-true index v e) ∙ eqb-true index w f

pub one_pool : (mode : Mode) (v w : ℕ) (p : Place) → is_of_pool mode v p ≡ true → is_of_pool mode w p ≡ true → v ≡ w
one_pool mode v w p e f = one_pool_by (row_of p.row).bank mode v w p.index e f

pub apart : (mode : Mode) (vfs v w o r : ℕ) (p : Place) → v ≢ w → located mode vfs v o ≡ Register p →
    located mode vfs w r ≡ Register p → IsTrue (is_shared p)
apart mode vfs v w o r p d e f =
    elim (located_owner mode vfs v o p e) [
      | inr shared ↦ shared
      | inl own ↦ elim (located_owner mode vfs w r p f) [
        | inr shared ↦ shared
        | inl other ↦ absurd (d (one_pool mode v w p own other))
      ]
    ]

-- Only a hole is mapped to a hole.

hole_from : (m : Located) → IsInRange m → mapped_to m ≡ mapped_as.Hole → m ≡ Located.Hole
hole_from Located.Absent inside e = cc
hole_from Located.Hole inside e = refl
hole_from (Register p) inside e =
    let first = first_addresses_read_back p inside in
    let at : mapped_to (Register p) ≡ Pf first.0 = ap at_address first.1.0 in
    let no : Pf first.0 ≡ mapped_as.Hole = sym at ∙ e in
    cc

pub located_hole : (mode : Mode) (vfs v o : ℕ) → mapped mode vfs v o ≡ mapped_as.Hole →
    located mode vfs v o ≡ Located.Hole
located_hole mode vfs v o e =
    hole_from (located mode vfs v o) (in_range (located mode vfs v o) mode vfs v o refl) e

not_absent : (o : Option ℕ) → at_address o ≡ mapped_as.Absent → ⊥
not_absent None e = cc
not_absent (Some a) e = cc

pub located_absent : (m : Located) → mapped_to m ≡ mapped_as.Absent → m ≡ Located.Absent
located_absent Located.Absent e = refl
located_absent Located.Hole e = cc
located_absent (Register p) e = absurd (not_absent (address_among runs p) e)
