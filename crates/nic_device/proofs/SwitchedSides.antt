-- Enable steps leave the device sound and change nothing outside their reach.
use Rattle.std.proofs.Common.{◌≡◌, ℕ, true, false, [], get_or, refl, sym, ◌∙◌, inl, inr}
use Rattle.std.specs.Prelude.{⊤, ◌==◌, slice_set}
use Rattle.std.proofs.lemmas.Bool.{cases_eq, cond_both, eqb-false, ne_eqb}
use Rattle.std.proofs.lemmas.List.{get_or-set_other}
use Rattle.std.proofs.lemmas.List.Elements.{All-weaker}
use Rattle.register_file.specs.Columns.{place}
use Rattle.register_file.specs.Queue.{enable_row, is_on, switched}
use Rattle.register_file.specs.Registers.{Registers, is_wanted}
use Rattle.rx_ring.specs.DmaRing.declared.dir.Dir.{Dir}
use Rattle.rx_ring.specs.DmaRing.declared.dir.Dir.TheVariants.{Rx, Tx}
use Rattle.register_laws.specs.Footprint.{Covers, of_side, the_word}
use Rattle.register_laws.proofs.Footprints.{within-wider, covers-the_word}
use Rattle.register_laws.proofs.Sound.{sound-switched}
use Rattle.register_laws.proofs.Within.{within-switched}
use Rattle.nic_device.specs.Footprint.{switch_reach, StaysWithin}
use Rattle.nic_device.specs.Outcome.{gives}
use Rattle.nic_device.specs.Sound.{IsBegunWhileOn, IsSound}
use Rattle.nic_device.specs.State.{State}
use Rattle.nic_device.specs.Transmit.{staged_by}
use Rattle.nic_device.specs.Switching.{queue_switched, side_switched, emptied, without_part}
use Rattle.nic_device.proofs.Cases.{switched_cases}
use Rattle.nic_device.proofs.Keeping.{sound-changed, sound-registers, stays-registers, AreStaged-set, IsStaged-none, dropped-none}
use Rattle.nic_device.proofs.Leads.{Leads, leads-still, leads-to}
use Rattle.nic_device.proofs.Queued.{AreWaiting-without_part, begun-without_part, length-without_part}
use Rattle.nic_device.proofs.SidesOn.{others_switched, wanted_keeps}
use Rattle.nic_device.proofs.Coming.{Comes}
use Rattle.nic_device.specs.declared.event.Event.TheVariants as event
use Rattle.nic_device.specs.declared.event.Reply.TheVariants.{Done, Idle, NoQueue}

covers-enable : (dir : Dir) (queue : ℕ) → Covers (of_side dir queue) (the_word (place (enable_row dir) queue))
covers-enable Rx queue = covers-the_word (place (enable_row Rx) queue)
covers-enable Tx queue = covers-the_word (place (enable_row Tx) queue)

switched-comes : (r : Registers) (dir : Dir) (queue : ℕ) → Comes ⊤ (of_side dir queue) r (switched r dir queue)
switched-comes r dir queue = record {
  sound = λ is h. sound-switched r dir queue h;
  within = within-wider (of_side dir queue) (the_word (place (enable_row dir) queue)) r (switched r dir queue)
      (covers-enable dir queue) (within-switched r dir queue);
}

-- Other sides of the same kind are unchanged.
apart_switched : (r : Registers) (dir : Dir) (queue other : ℕ) → (queue ≡ other → ⊥)
    → is_on (switched r dir queue) dir other ≡ is_on r dir other
apart_switched r Rx queue other apart = others_switched r Rx Rx queue other (rw (ne_eqb queue other apart) refl)
apart_switched r Tx queue other apart = others_switched r Tx Tx queue other (rw (ne_eqb queue other apart) refl)

-- A side that is disabled loses its partly written frame or its staged bytes.
switched_off_sound : (s : State) (dir : Dir) (queue : ℕ) → IsSound s
    → IsSound (record (emptied s dir queue) { registers = switched s.registers dir queue })
switched_off_sound s Rx queue h =
    let r = switched s.registers Rx queue in
    sound-changed s r (without_part queue s.waiting) s.staged h (sound-switched s.registers Rx queue h.registers)
    (AreWaiting-without_part queue s.waiting h.waiting)
    (begun-without_part s.registers r queue (apart_switched s.registers Rx queue) s.waiting h.waiting h.begun)
    (length-without_part queue s.waiting s.fifo h.room) h.staged
    (λ other off. h.bare other (sym (others_switched s.registers Rx Tx queue other refl) ∙ off))
switched_off_sound s Tx queue h =
    let r = switched s.registers Tx queue in
    let begun = All-weaker (IsBegunWhileOn s.registers) (IsBegunWhileOn r)
    (λ w was some. others_switched s.registers Tx Rx queue w.queue refl ∙ was some) s.waiting h.begun in
    sound-changed s r s.waiting (slice_set s.staged queue []) h (sound-switched s.registers Tx queue h.registers)
    h.waiting begun h.room (AreStaged-set s.staged queue [] h.staged IsStaged-none)
    (λ other off. elim (cases_eq other queue) as (λ _. get_or (slice_set s.staged queue []) other [] ≡ []) [
      | inl same ↦ rw same (dropped-none s.staged queue)
      | inr apart ↦ get_or-set_other s.staged queue other [] [] apart
          ∙ h.bare other (sym (apart_switched s.registers Tx queue other (λ same. apart (sym same))) ∙ off)
    ])

-- A side that is or stays enabled loses nothing.
switched_on_sound : (s : State) (dir : Dir) (queue : ℕ) → is_wanted s.registers dir queue ≡ true → IsSound s
    → IsSound (record s { registers = switched s.registers dir queue })
switched_on_sound s dir queue wanted h =
    sound-registers s (switched s.registers dir queue) h (sound-switched s.registers dir queue h.registers)
    (wanted_keeps s.registers h.registers.shape dir queue wanted)

wanted_stays : (s : State) (dir : Dir) (queue : ℕ)
    → StaysWithin (switch_reach dir queue) s (record s { registers = switched s.registers dir queue })
wanted_stays s Rx queue =
    stays-registers (switch_reach Rx queue) s _ (switched-comes s.registers Rx queue).within
wanted_stays s Tx queue =
    stays-registers (switch_reach Tx queue) s _ (switched-comes s.registers Tx queue).within

emptied_stays : (s : State) (dir : Dir) (queue : ℕ)
    → StaysWithin (switch_reach dir queue) s
    (record (emptied s dir queue) { registers = switched s.registers dir queue })
emptied_stays s Rx queue =
    let fewer : true ≡ false → without_part queue s.waiting ≡ s.waiting = λ no. cc in
    assumption ((switched-comes s.registers Rx queue).within, fewer)
emptied_stays s Tx queue =
    let others : (other : ℕ) → (other == queue) ≡ false → staged_by (emptied s Tx queue) other ≡ staged_by s other =
    λ other no. get_or-set_other s.staged queue other [] [] (eqb-false other queue no) in
    assumption ((switched-comes s.registers Tx queue).within, others)

emptied_memory : (s : State) (dir : Dir) (queue : ℕ) → (emptied s dir queue).memory ≡ s.memory
emptied_memory s Rx queue = refl
emptied_memory s Tx queue = refl

side_leads : (s : State) (dir : Dir) (queue : ℕ)
    → Leads s (event.QueueStep dir queue) (gives Done (side_switched s dir queue))
side_leads s dir queue =
    let e = event.QueueStep dir queue in
    let r = switched s.registers dir queue in
    cond_both (is_wanted s.registers dir queue) (record s { registers = r })
    (record (emptied s dir queue) { registers = r }) (λ (t : State). Leads s e (gives Done t))
    (λ wanted. leads-to s e Done _ (λ h is. switched_on_sound s dir queue wanted h) (wanted_stays s dir queue) refl
    refl)
    (λ unwanted. leads-to s e Done _ (λ h is. switched_off_sound s dir queue h) (emptied_stays s dir queue) refl
    (emptied_memory s dir queue))

pub switch_leads : (s : State) (dir : Dir) (queue : ℕ)
    → Leads s (event.QueueStep dir queue) (queue_switched s dir queue)
switch_leads s dir queue =
    let e = event.QueueStep dir queue in
    switched_cases (Leads s e) s dir queue (leads-still s e NoQueue (λ no. refl)) (leads-still s e Idle (λ no. refl))
    (side_leads s dir queue)
