-- An access to one group's register leaves the other groups unchanged.
use Rattle.std.proofs.Common.{◌≡◌, ◌≢◌, ℕ, true, ◌&&◌, refl, ap, sym, ◌∙◌}
use Rattle.std.specs.Prelude.{bit_and, IsFalse}
use Rattle.nic_device.specs.RegisterFile.Access.{asks_reset, asks_pool_reset}
use Rattle.nic_device.specs.RegisterFile.declared.owner.Owner.TheVariants as owner
use Rattle.nic_device.specs.RegisterLaws.Footprint.{is_own, of_owner, of_group, of_write}
use Rattle.nic_device.proofs.RegisterLaws.ReadBack.{owners_differ}
use Rattle.nic_device.specs.declared.event.Event.TheVariants as event
use Rattle.nic_device.specs.declared.event.Port.TheVariants as port
use Rattle.device_laws.proofs.StandingAccesses.{read_rest, write_rest}
use Rattle.datasheet_laws.specs.Prelude.{CtrlExt, Group, Names, Pfmailbox, Place, Pvfmailbox, Register, RowId, State}
use Rattle.datasheet_laws.specs.Prelude.{after, after_write, contains, has_bit, interrupts_of, owner_in, owner_of}
use Rattle.datasheet_laws.specs.Prelude.{row_of, runs, view_among}
use Rattle.datasheet_laws.proofs.Prelude.{covers-of_write, misses-narrower, misses-owner}
use Rattle.datasheet_laws.proofs.Bits.{has_bit-and}
use Rattle.datasheet_laws.proofs.Words.{named-at}

group_apart : (g h : Group) → h ≢ g → owner.Group g ≢ owner.Group h
group_apart g h apart e = let same : h ≡ g = cc in apart same

-- A write to a group's register changes only what belongs to the group.
own_by_row : (x : RowId) (i : ℕ) (g : Group) → owner_in (row_of x).bank i ≡ owner.Group g
    → is_own (row_of x).kind ≡ true
own_by_row Pvfmailbox i g e = cc
own_by_row Pfmailbox i g e = cc
own_by_row CtrlExt i g e = cc
own_by_row other i g e = refl

pub write_alone : (s : State) (g : Group) (p : Place) (a word : ℕ) → Names a p → owner_of p ≡ owner.Group g
    → IsFalse (asks_reset (row_of p.row).kind word) → IsFalse (asks_pool_reset (row_of p.row).kind word)
    → (h : Group) → h ≢ g → interrupts_of (after_write s a word).registers h ≡ interrupts_of s.registers h
write_alone s g p a word is own none plain h apart =
    (write_rest s port.Pf a word p (view_among runs a) (named-at s a p is) none plain).groups h
    (misses-narrower (of_owner (owner_of p)) (of_write p) (of_group h)
    (covers-of_write p (own_by_row p.row p.index g own))
    (misses-owner (owner_of p) (owner.Group h)
    (owners_differ (owner_of p) (owner.Group h) (λ e. group_apart g h apart (sym own ∙ e)))))

pub read_alone : (s : State) (g : Group) (p : Place) (a : ℕ) → Names a p → owner_of p ≡ owner.Group g
    → (h : Group) → h ≢ g
    → interrupts_of (after s (event.Read port.Pf a)).registers h ≡ interrupts_of s.registers h
read_alone s g p a is own h apart =
    (read_rest s port.Pf a).groups h (λ q view found e.
    let same : Register p (view_among runs a) ≡ Register q view = sym (named-at s a p is) ∙ found in
    let one : p ≡ q = cc in
    group_apart g h apart (sym own ∙ ap owner_of one ∙ e))

-- A bit that is written through a view.
pub written : (word view bit : ℕ) → contains (bit_and word view) bit ≡ (has_bit bit word && has_bit bit view)
unfolding contains
written word view bit = has_bit-and word view bit
