-- Every event that spares a mask keeps it.
use Rattle.std.proofs.Common.{◌≡◌, ◌≢◌, ℕ, ◌<◌, Bool, true, false, not, ◌&&◌, Option, Some, None, refl, ap, sym, ◌∙◌, subst, arith, inl, inr}
use Rattle.std.specs.Prelude.{IsFalse, is_some}
use Rattle.nic_device.specs.RegTable.Place.{place_among, view_among}
use Rattle.nic_device.proofs.RegTable.Finding.{found-named}
use Rattle.nic_device.proofs.RegTable.InRange.{named_in_range}
use Rattle.nic_device.specs.IntrUnit.BitSet.{contains, only}
use Rattle.nic_device.proofs.IntrUnit.BitLaws.{raises_change}
use Rattle.nic_device.proofs.IntrUnit.SetLaws.{contains-difference, contains-acting}
use Rattle.nic_device.specs.VfMap.Map.{located}
use Rattle.nic_device.specs.VfMap.declared.located.Located.{Located}
use Rattle.nic_device.specs.VfMap.declared.located.Located.TheVariants as located_as
use Rattle.nic_device.proofs.VfMap.Owners.{located_in_range}
use Rattle.nic_device.specs.RegisterFile.Groups.{interrupts_of, with_interrupts, message_of, message_made, masks_by_message}
use Rattle.nic_device.specs.RegisterLaws.Sound.{HasShape}
use Rattle.nic_device.proofs.RegisterLaws.Settled.{settled-after_message_of}
use Rattle.nic_device.specs.declared.event.Event.TheVariants as event
use Rattle.nic_device.specs.declared.event.Port.TheVariants as port
use Rattle.nic_device.proofs.Cases.{interrupted_cases}
use Rattle.device_laws.proofs.StandingRest.{message_rest}
use Rattle.datasheet_laws.specs.Prelude.{Block, Causes, Event, Group, Interrupts, IsOfTheDevice, IsSound, IvarMisc}
use Rattle.datasheet_laws.specs.Prelude.{Named, Nothing, Outcome, Place, Port, Register, Registers, State, after}
use Rattle.datasheet_laws.specs.Prelude.{after_causes, after_message_of, at_location, at_place, is_group, mode_in}
use Rattle.datasheet_laws.specs.Prelude.{named, named_read, named_written, next_bit, row_of, runs, step_of, word_of}
use Rattle.datasheet_laws.proofs.Prelude.{both_ways, cases_Bool, cond_both, events_raise, interrupts_of-with_interrupts}
use Rattle.datasheet_laws.proofs.Prelude.{intersection-lt, is_group-itself, is_group-same, or_left, settled}
use Rattle.datasheet_laws.specs.Lasting.{SparesMask, MasksLast, masks_itself}
use Rattle.datasheet_laws.specs.Names.{IsGroup, bits_in, cause_register, general_address}
use Rattle.datasheet_laws.specs.Shown.{Bit, bit_of, reads_one}
use Rattle.datasheet_laws.proofs.Groups.{index_small, bit_of-in, bit_stands}
use Rattle.datasheet_laws.proofs.LastingAccesses.{read_keeps, write_keeps}
use Rattle.datasheet_laws.proofs.Words.{general_bit, small}

-- The register that a number names is in its row.

among_in_range : (s : State) (a : ℕ) (o : Option Place) → place_among runs a ≡ o → (p : Place) (view : ℕ)
    → at_place o (view_among runs a) ≡ Register p view → p.index < (row_of p.row).count
among_in_range s a None found p view e = absurd (cc)
among_in_range s a (Some q) found p view e =
    let same : q ≡ p = cc in
    subst (λ (x : Place). x.index < (row_of x.row).count) same (named_in_range a q ((found-named a q).0 found))

at_in_range : (s : State) (v n : ℕ) (l : Located) → located (mode_in s.registers) s.vfs v n ≡ l
    → (p : Place) (view : ℕ) → at_location l ≡ Register p view → p.index < (row_of p.row).count
at_in_range s v n located_as.Absent found p view e = absurd (cc)
at_in_range s v n located_as.Hole found p view e = absurd (cc)
at_in_range s v n (located_as.Register q) found p view e =
    let same : q ≡ p = cc in
    subst (λ (x : Place). x.index < (row_of x.row).count) same
    (located_in_range (mode_in s.registers) s.vfs v n q found)

pub in_range : (s : State) (w : Port) (n : ℕ) (p : Place) (view : ℕ) → named s w n ≡ Register p view
    → p.index < (row_of p.row).count
in_range s port.Pf n p view e = among_in_range s n (place_among runs n) refl p view e
in_range s (port.Vf v) n p view e = at_in_range s v n (located (mode_in s.registers) s.vfs v n) refl p view e

-- Register accesses.

read_lasts : (s : State) → IsSound s → (g : Group) → IsGroup g → (bit : ℕ) → bit < bits_in g
    → (bit_of s g bit).mask ≡ true → (w : Port) (n : ℕ) (m : Named) → named s w n ≡ m
    → ((p : Place) (view : ℕ) → m ≡ Register p view → p ≡ cause_register g → IsFalse (masks_itself s g bit))
    → (bit_of (named_read s m).state g bit).mask ≡ true
read_lasts s h g there bit b m w n (Nothing seen) is spares = m
read_lasts s h g there bit b m w n (Register p view) is spares =
    read_keeps s h g there bit b m p (in_range s w n p view is) (spares p view refl)

write_lasts : (s : State) → IsSound s → (g : Group) → IsGroup g → (bit : ℕ) → bit < bits_in g
    → (bit_of s g bit).mask ≡ true → (w : Port) (n word : ℕ) (m : Named) → named s w n ≡ m
    → ((p : Place) (view : ℕ) → m ≡ Register p view → SparesMask s g bit p view word)
    → (bit_of (named_written s m word).state g bit).mask ≡ true
write_lasts s h g there bit b m w n word (Nothing seen) is spares = m
write_lasts s h g there bit b m w n word (Register p view) is spares =
    write_keeps s h g there bit b m p view word (in_range s w n p view is) (spares p view refl)

-- The device's own events.

raised_mask : (o : Option Causes) (g : Group) (i : Interrupts) (bit : ℕ) → bit < 32 → contains i.enabled bit ≡ true
    → contains (after_causes o g i).enabled bit ≡ true
raised_mask None g i bit high m = m
raised_mask (Some c) g i bit high m =
    cond_both (is_group c.group g) _ i (λ (j : Interrupts). contains j.enabled bit ≡ true)
    (λ own. (raises_change i c.bits false).masks bit high ∙ or_left _ _ m) (λ other. m)

own_mask : (s : State) (g : Group) → IsGroup g → (bit : ℕ) → bit < bits_in g
    → (bit_of s g bit).mask ≡ contains (interrupts_of s.registers g).enabled bit
own_mask s g there bit b = ap (λ (x : Bit). x.mask) (bit_of-in s g there bit b)

device_lasts : (s : State) → IsSound s → (g : Group) → IsGroup g → (bit : ℕ) → bit < bits_in g
    → (bit_of s g bit).mask ≡ true → (e : Event Block) → IsOfTheDevice e → (bit_of (after s e) g bit).mask ≡ true
device_lasts s h g there bit b m e is =
    own_mask (after s e) g there bit b
    ∙ ap (λ (i : Interrupts). contains i.enabled bit) (events_raise s h e is g)
    ∙ raised_mask _ g (interrupts_of s.registers g) bit (small g bit b) (sym (own_mask s g there bit b) ∙ m)

-- Messages.

unreported : (mask eiame one has : Bool) → mask ≡ true → (eiame && has) ≡ false
    → (mask && not (eiame && one && has)) ≡ true
unreported mask eiame one has m none = grind arith

reported_mask : (i : Interrupts) (eiame : Bool) (next : Option ℕ) (bit : ℕ) → bit < 32 → contains i.enabled bit ≡ true
    → (eiame && contains i.auto_mask bit) ≡ false → contains (after_message_of i eiame next).enabled bit ≡ true
reported_mask i eiame None bit high m none = m
reported_mask i eiame (Some chosen) bit high m none =
    contains-difference i.enabled _ bit high
    ∙ ap (λ x. contains i.enabled bit && not x) (contains-acting eiame (only chosen) i.auto_mask bit high)
    ∙ unreported (contains i.enabled bit) eiame (contains (only chosen) bit) (contains i.auto_mask bit) m none

put_there : (r : Registers) (g : Group) (eiame : Bool) (next : Option ℕ) → HasShape r → IsGroup g
    → interrupts_of (with_interrupts r (after_message_of (interrupts_of r g) eiame next)) g
    ≡ after_message_of (interrupts_of r g) eiame next
put_there r g eiame None h there =
    let is = settled r g in
    interrupts_of-with_interrupts r h (interrupts_of r g) (index_small g there) is.consistent is.causes is.enabled
    (intersection-lt _ _)
put_there r g eiame (Some bit) h there =
    let is = settled-after_message_of (interrupts_of r g) (settled r g) eiame (Some bit) in
    interrupts_of-with_interrupts r h (after_message_of (interrupts_of r g) eiame (Some bit)) (index_small g there)
    is.consistent is.causes is.enabled (intersection-lt _ _)

message_mask : (r : Registers) (g : Group) (bit : ℕ) → HasShape r → IsGroup g → bit < 32
    → contains (interrupts_of r g).enabled bit ≡ true
    → (masks_by_message r && contains (interrupts_of r g).auto_mask bit) ≡ false
    → contains (interrupts_of (message_made r g) g).enabled bit ≡ true
message_mask r g bit h there high m none =
    let i = interrupts_of r g in
    let next = next_bit i (word_of r IvarMisc 0) in
    cond_both (is_some (message_of r g)) (with_interrupts r (after_message_of i (masks_by_message r) next)) r
    (λ t. contains (interrupts_of t g).enabled bit ≡ true)
    (λ some. ap (λ (j : Interrupts). contains j.enabled bit) (put_there r g (masks_by_message r) next h there)
    ∙ reported_mask i (masks_by_message r) next bit high m none)
    (λ nothing. m)

message_lasts : (s : State) → IsSound s → (g : Group) → IsGroup g → (bit : ℕ) → bit < bits_in g
    → (bit_of s g bit).mask ≡ true → IsFalse (reads_one s general_address 30 && (bit_of s g bit).auto_mask)
    → (bit_of (after s (event.IntStep g)) g bit).mask ≡ true
unfolding step_of
message_lasts s h g there bit b m none =
    let auto = ap (λ (x : Bit). x.auto_mask) (bit_of-in s g there bit b) in
    let spares = (λ k. sym (general_bit s 30 (omega arith)) k && sym auto k) ∙ none in
    interrupted_cases (λ (o : Outcome). (bit_of o.state g bit).mask ≡ true) s g m m
    (own_mask (record s { registers = message_made s.registers g }) g there bit b
    ∙ message_mask s.registers g bit h.registers.shape there (small g bit b) (sym (own_mask s g there bit b) ∙ m)
    spares)

int_lasts : (s : State) → IsSound s → (g : Group) → IsGroup g → (bit : ℕ) → bit < bits_in g
    → (bit_of s g bit).mask ≡ true → (other : Group)
    → (other ≡ g → IsFalse (reads_one s general_address 30 && (bit_of s g bit).auto_mask))
    → (bit_of (after s (event.IntStep other)) g bit).mask ≡ true
int_lasts s h g there bit b m other spares =
    elim (cases_Bool (is_group other g)) [
      | inl t ↦ let same = is_group-same other g t in
          subst (λ o. (bit_of (after s (event.IntStep o)) g bit).mask ≡ true) (sym same)
          (message_lasts s h g there bit b m (spares same))
      | inr f ↦ let apart : g ≢ other = λ e. both_ways (is_group other g) f
          (subst (λ o. is_group o g ≡ true) e (is_group-itself g)) in
          ap (λ (x : Bit). x.mask) (bit_stands s (after s (event.IntStep other)) g there
          ((message_rest s other).groups g apart) bit b) ∙ m
    ]

pub masks_last : MasksLast
unfolding step_of
masks_last s h g there bit b (event.Read w n) spares m =
    read_lasts s h g there bit b m w n (named s w n) refl spares
masks_last s h g there bit b (event.Write w n word) spares m =
    write_lasts s h g there bit b m w n word (named s w n) refl spares
masks_last s h g there bit b (event.IntStep other) spares m = int_lasts s h g there bit b m other spares
masks_last s h g there bit b (event.Poke16 a bytes) spares m =
    device_lasts s h g there bit b m (event.Poke16 a bytes) tt
masks_last s h g there bit b (event.QueueStep dir queue) spares m =
    device_lasts s h g there bit b m (event.QueueStep dir queue) tt
masks_last s h g there bit b other spares m = device_lasts s h g there bit b m other tt
