-- Registers derived from others within a footprint.
use Rattle.std.proofs.Common.{◌≡◌, ℕ, subst}
use Rattle.std.proofs.lemmas.Bool.{or_left, or_right}
use Rattle.register_file.specs.IntrUnit.Group.{queue_causes}
use Rattle.register_file.specs.IntrUnit.declared.group.Group.{Group}
use Rattle.register_file.specs.RegTable.Rows.{row_of}
use Rattle.register_file.specs.RegTable.declared.bank.Bank.TheVariants.{Counters}
use Rattle.register_file.specs.RegTable.declared.kind.Kind.TheVariants.{Rc}
use Rattle.register_file.specs.RegTable.declared.rows.RowId.{RowId}
use Rattle.register_file.specs.Columns.{place}
use Rattle.register_file.specs.Counters.{counted}
use Rattle.register_file.specs.Groups.{vector_entry, causes_raised}
use Rattle.register_file.specs.Owner.{owner_in}
use Rattle.register_file.specs.Registers.{Registers}
use Rattle.rx_ring.specs.DmaRing.declared.dir.Dir.{Dir}
use Rattle.register_laws.specs.Footprint.{Footprint, ChangesWithin, Covers, either, counters, any_pending, pending, the_word, of_owner}
use Rattle.register_laws.specs.Sound.{AreSound}
use Rattle.register_laws.proofs.Covers.{covers-trans}
use Rattle.register_laws.proofs.Footprints.{within-trans, within-wider, covers-the_word, covers-any_pending}
use Rattle.register_laws.proofs.Sound.{sound-counted, sound-causes_raised}
use Rattle.register_laws.proofs.Within.{within-counted, within-causes_raised}
use Rattle.nic_device.specs.Interrupt.{group_of_queue, raised_by}

-- A footprint is within each union that contains it, and within each wider footprint.

pub covers-first : (f g : Footprint) → Covers (either f g) f
covers-first f g = record {
  bits = λ p bit is. or_left (f.bits p bit) (g.bits p bit) is;
  wanted = λ dir queue is. or_left (f.wanted dir queue) (g.wanted dir queue) is;
  reported = λ h is. or_left (f.reported h) (g.reported h) is;
}

pub covers-second : (f g : Footprint) → Covers (either f g) g
covers-second f g = record {
  bits = λ p bit is. or_right (f.bits p bit) (g.bits p bit) is;
  wanted = λ dir queue is. or_right (f.wanted dir queue) (g.wanted dir queue) is;
  reported = λ h is. or_right (f.reported h) (g.reported h) is;
}

-- Registers derived from others: they differ only within the footprint, and they are sound if the old registers are
-- sound and `good` holds.
pub record Comes (good : Type 0) (f : Footprint) (r new : Registers) : Type 0 where
  pub sound : good → AreSound r → AreSound new
  pub within : ChangesWithin f r new

-- A row of counters.
pub record IsCounter (row : RowId) : Type 0 where
  pub bank : (row_of row).bank ≡ Counters
  pub kind : (row_of row).kind ≡ Rc

pub then_within : {good : Type 0} (f e : Footprint) (r s t : Registers) → Comes good f r s → Covers f e
    → ChangesWithin e s t → (good → AreSound s → AreSound t) → Comes good f r t
then_within f e r s t first has next sound = record {
  sound = λ g h. sound g (first.sound g h);
  within = within-trans f r s t first.within (within-wider f e s t has next);
}

-- Raised causes and counted frames.
pub raised : {good : Type 0} (f : Footprint) (r s : Registers) (g : Group) (bits : ℕ) → Covers f any_pending
    → Comes good f r s → Comes good f r (causes_raised s g bits)
raised f r s g bits has first =
    then_within f (pending g) r s (causes_raised s g bits) first
    (covers-trans f any_pending (pending g) has (covers-any_pending g)) (within-causes_raised s g bits)
    (λ is h. sound-causes_raised s g bits h)

pub counted_in : {good : Type 0} (f : Footprint) (r s : Registers) (row : RowId) (index : ℕ) → Covers f counters
    → IsCounter row → Comes good f r s → Comes good f r (counted s row index)
counted_in f r s row index has counter first =
    then_within f (the_word (place row index)) r s (counted s row index) first
    (covers-trans f counters (the_word (place row index)) has
    (subst (λ b. Covers (of_owner (owner_in b index)) (the_word (place row index))) counter.bank
    (covers-the_word (place row index))))
    (within-counted s row index) (λ is h. sound-counted s row index counter.kind h)

pub raised_by_queue : {good : Type 0} (f : Footprint) (r s : Registers) (vfs : ℕ) (dir : Dir) (queue : ℕ)
    → Covers f any_pending → Comes good f r s → Comes good f r (raised_by s vfs dir queue)
unfolding raised_by
raised_by_queue f r s vfs dir queue has first =
    let g = group_of_queue s vfs queue in
    raised f r s g (queue_causes g (vector_entry s g dir queue)) has first
