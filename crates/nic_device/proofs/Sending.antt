-- Transmit steps leave the device sound and change nothing outside their reach.
use Rattle.std.proofs.Common.{◌≡◌, ◌<◌, ◌^◌, ℕ, Bool, true, false, not, ◌||◌, nat_lt, List, [], get_or, refl, ap, sym, ◌∙◌, subst, inl, inr, arith, Option, Some, None, Ok, Err}
use Rattle.std.specs.Prelude.{◌==◌, slice_set}
use Rattle.std.specs.FinMap as map
use Rattle.std.proofs.lemmas.Bool.{both_ways, cases_Bool, cases_eq, cond_both, eqb-false, ltb-true, ne_eqb}
use Rattle.std.proofs.lemmas.List.Elements.{All-weaker}
use Rattle.std.proofs.lemmas.List.{get_or-set_other}
use Rattle.rx_ring.specs.DmaArena.Memory.{Memory}
use Rattle.rx_ring.specs.DmaRing.Ring.{slots_of}
use Rattle.rx_ring.specs.DmaRing.declared.fault.RingFault.{RingFault}
use Rattle.tx_ring.specs.Laws.{ChangesOnlyReport}
use Rattle.tx_ring.specs.Report.{report_length}
use Rattle.tx_ring.specs.declared.fetched.Fetched.{Fetched}
use Rattle.tx_ring.specs.declared.tx.Tx.{Tx as Sending}
use Rattle.tx_ring.proofs.Fetches.{takes_slot}
use Rattle.tx_ring.proofs.Reported.{writes_inside_report, fetch_keeps_blocks}
use Rattle.register_file.specs.Queue.{is_on}
use Rattle.register_file.specs.Registers.{Registers}
use Rattle.register_file.specs.Settings.{is_stopped, can_transmit}
use Rattle.register_laws.specs.Sides.{transmit_queue_of}
use Rattle.nic_device.specs.Footprint.{reported_address, back_into}
use Rattle.nic_device.specs.Outcome.{gives}
use Rattle.nic_device.specs.Receive.{is_empty}
use Rattle.nic_device.specs.Sound.{AreStagedWhileOn, IsBegunWhileOn, IsSound}
use Rattle.nic_device.specs.State.{State}
use Rattle.nic_device.specs.Interrupt.{side_failed}
use Rattle.nic_device.specs.Step.{hands_out, is_fault}
use Rattle.nic_device.specs.Transmit.{transmitted, queue_sent, slot_fetched, is_muted, is_silent, slot_done, staged_by, sending_of, fetched_reply, slot_reported}
use Rattle.nic_device.proofs.QueueCases.{fetched_by, transmitted_cases}
use Rattle.nic_device.proofs.Fetched.{AreBlocks-fetched, AreOut-with_frame, IsOut-fetched, IsStaged-fetched, frame_limit-lt, IsStaged-by}
use Rattle.nic_device.proofs.Keeping.{sound-changed, sound-registers, sound-memory, sound-staged, sound-out, AreStaged-set, IsStaged-none, bare-set, dropped-none}
use Rattle.nic_device.proofs.Leads.{Leads, leads-still, leads-to}
use Rattle.nic_device.proofs.Memory.{avoids-none}
use Rattle.nic_device.proofs.Raising.{slot-comes, side_failed-comes, sides-failed, sides-slot}
use Rattle.nic_device.proofs.SidesOn.{on_kept}
use Rattle.rx_ring.specs.DmaRing.declared.dir.Dir.TheVariants.{Rx, Tx}
use Rattle.nic_device.specs.declared.event.Event.TheVariants as event
use Rattle.nic_device.specs.declared.event.Reply.TheVariants.{Idle, NoQueue, Fault}

-- What the reply to a fetched slot reports.
back_reported : (queue : ℕ) (f : Fetched) (o : Option (List ℕ)) → reported_address (fetched_reply queue f o) ≡ f.back
back_reported queue f (Some frame) = refl
back_reported queue f None = refl

no_fault : (queue : ℕ) (f : Fetched) (o : Option (List ℕ)) → is_fault (fetched_reply queue f o) ≡ false
no_fault queue f (Some frame) = refl
no_fault queue f None = refl

none_handed : (queue : ℕ) (f : Fetched) (o : Option (List ℕ)) → hands_out (fetched_reply queue f o) ≡ false
none_handed queue f (Some frame) = refl
none_handed queue f None = refl

-- A fetched slot changes only the blocks that it is written back to.
back_stays : (old new : Memory) (tx : Sending) (f : Fetched) (o : Option ℕ) → f.back ≡ o
    → ChangesOnlyReport old new tx f
    → (number : ℕ) → back_into o (report_length tx.writeback) number ≡ false → map.get new number ≡ map.get old number
back_stays old new tx f None is only number none = ap (λ (m : Memory). map.get m number) (only.none is)
back_stays old new tx f (Some back) is only number none =
    only.blocks number back is (avoids-none number back (report_length tx.writeback) none)

staged_stays : (staged : List (List ℕ)) (queue : ℕ) (bytes : List ℕ) (other : ℕ) → (other == queue) ≡ false
    → get_or (slice_set staged queue bytes) other [] ≡ get_or staged other []
staged_stays staged queue bytes other apart =
    get_or-set_other staged queue other bytes [] (eqb-false other queue apart)

-- A fault drops the staged bytes and disables its side.
other_side : (r : Registers) (queue other : ℕ) → (other ≡ queue → ⊥)
    → is_on (side_failed r Tx queue) Tx other ≡ is_on r Tx other
other_side r queue other apart =
    let ne : (queue == other) ≡ false = ne_eqb queue other (λ same. apart (sym same)) in
    sides-failed r Tx Tx queue other (λ bit. rw ne refl)

failed_bare : (s : State) (queue : ℕ) → AreStagedWhileOn s.registers s.staged
    → AreStagedWhileOn (side_failed s.registers Tx queue) (slice_set s.staged queue [])
failed_bare s queue bare other off =
    elim (cases_eq other queue) as (λ _. get_or (slice_set s.staged queue []) other [] ≡ []) [
      | inl same ↦ rw same (dropped-none s.staged queue)
      | inr apart ↦ get_or-set_other s.staged queue other [] [] apart
          ∙ bare other (sym (other_side s.registers queue other apart) ∙ off)
    ]

failed_sound : (s : State) (queue : ℕ) → IsSound s
    → IsSound (record s { registers = side_failed s.registers Tx queue; staged = slice_set s.staged queue [] })
failed_sound s queue h =
    let r = side_failed s.registers Tx queue in
    let comes = side_failed-comes s.registers Tx queue in
    let begun = All-weaker (IsBegunWhileOn s.registers) (IsBegunWhileOn r)
    (λ w was some. sides-failed s.registers Tx Rx queue w.queue (λ bit. refl) ∙ was some) s.waiting h.begun in
    sound-changed s r s.waiting (slice_set s.staged queue []) h (comes.sound tt h.registers) h.waiting begun h.room
    (AreStaged-set s.staged queue [] h.staged IsStaged-none) (failed_bare s queue h.bare)

fault_leads : (s : State) (queue : ℕ) (fault : RingFault) (memory : Memory) (bytes : List ℕ)
    → Leads s (event.TxStep queue) (slot_done s queue (Err fault) memory bytes)
fault_leads s queue fault memory bytes =
    let comes = side_failed-comes s.registers Tx queue in
    leads-to s (event.TxStep queue) (Fault queue fault) _
    (λ h is. failed_sound s queue h)
    (assumption (comes.within, staged_stays s.staged queue [])) refl refl

head-small : (s : State) (queue : ℕ) (f : Fetched) → f.head < slots_of (transmit_queue_of s.registers queue).ring
    → f.head < 2 ^ 16
head-small s queue f inside = omega arith

fetched_sound : (s : State) (queue : ℕ) (f : Fetched) → (fetched_by s queue).answer ≡ Ok f → queue < 128
    → is_on s.registers Tx queue ≡ true → IsSound s
    → IsSound (slot_done s queue (Ok f) (fetched_by s queue).memory (fetched_by s queue).staged).state
fetched_sound s queue f is few on h =
    let q = transmit_queue_of s.registers queue in
    let tx = sending_of s.registers q in
    let o = fetched_by s queue in
    let taken = takes_slot _ _ _ _ f is in
    let small = head-small s queue f taken.inside in
    let short = IsStaged-by s queue h.staged in
    let limit = frame_limit-lt s.registers h.registers in
    let kept = IsStaged-fetched s.memory (staged_by s queue) q.ring tx h.blocks short limit in
    let sent = IsOut-fetched s.memory (staged_by s queue) q.ring tx queue h.blocks short limit few f is in
    sound-registers _ (slot_reported s.registers s.vfs queue f)
    (sound-staged _ (slice_set s.staged queue o.staged)
    (sound-memory _ o.memory (sound-out s _ h (AreOut-with_frame s.out queue f.frame h.out sent))
    (AreBlocks-fetched s.memory (staged_by s queue) q.ring tx h.blocks))
    (AreStaged-set s.staged queue o.staged h.staged kept)
    (bare-set s.registers s.staged queue o.staged h.bare (λ off. absurd (both_ways _ off on))))
    ((slot-comes s.registers s.vfs queue f).sound small h.registers)
    (on_kept s.registers (slot_reported s.registers s.vfs queue f) (sides-slot s.registers s.vfs queue f))

fetched_leads : (s : State) (queue : ℕ) (f : Fetched) → (fetched_by s queue).answer ≡ Ok f → queue < 128
    → is_on s.registers Tx queue ≡ true
    → Leads s (event.TxStep queue) (slot_done s queue (Ok f) (fetched_by s queue).memory (fetched_by s queue).staged)
fetched_leads s queue f is few on =
    let q = transmit_queue_of s.registers queue in
    let tx = sending_of s.registers q in
    record {
      sound = λ h made. fetched_sound s queue f is few on h;
      stays = record {
        registers = (slot-comes s.registers s.vfs queue f).within;
        blocks = λ n none.
            back_stays s.memory (fetched_by s queue).memory tx f f.back refl
            (writes_inside_report s.memory (staged_by s queue) q.ring tx f is) n
            (subst (λ o. back_into o (report_length q.writeback) n ≡ false) (back_reported queue f f.frame) none);
        lent = λ n no. (fetch_keeps_blocks s.memory (staged_by s queue) q.ring tx).0 n;
        staged = λ other no. staged_stays s.staged queue (fetched_by s queue).staged other no;
        waiting = λ no. refl;
        out = λ no. cc;
        link = λ no. refl;
        image = refl;
        vfs = refl;
        fifo = refl;
      };
      hands = λ no. none_handed queue f f.frame;
      faults = λ reported. let no = no_fault queue f f.frame in cc;
    }

-- A queue whose transmit side is enabled, and a queue whose transmit side is disabled.

on_leads : (s : State) (queue : ℕ) → queue < 128 → is_on s.registers Tx queue ≡ true
    → Leads s (event.TxStep queue) (transmitted s queue)
on_leads s queue few on = transmitted_cases (Leads s (event.TxStep queue)) s queue (record {
  none = leads-still s (event.TxStep queue) NoQueue (λ no. refl);
  idle = leads-still s (event.TxStep queue) Idle (λ no. refl);
  fault = λ fault. fault_leads s queue fault (fetched_by s queue).memory (fetched_by s queue).staged;
  fetched = λ f is. fetched_leads s queue f is few on;
})

silent_off : (a b c d e f : Bool) → d ≡ true → (a || b || c || d || e || f) ≡ true
silent_off true b c d e f is = refl
silent_off false true c d e f is = refl
silent_off false false true d e f is = refl
silent_off false false false d e f is = rw is refl

pub off_silent : (s : State) (queue : ℕ) → is_on s.registers Tx queue ≡ false
    → is_silent s queue (transmit_queue_of s.registers queue) ≡ true
off_silent s queue off =
    let q = transmit_queue_of s.registers queue in
    silent_off (is_stopped s.registers) (not s.link) (not (can_transmit s.registers)) (not q.on)
    (is_muted s.registers queue) (is_empty q.ring) (ap not off)

off_leads : (s : State) (queue : ℕ) → is_on s.registers Tx queue ≡ false
    → Leads s (event.TxStep queue) (queue_sent s queue (transmit_queue_of s.registers queue))
off_leads s queue off =
    let e = event.TxStep queue in
    let q = transmit_queue_of s.registers queue in
    cond_both (is_silent s queue q) (gives Idle s) (slot_fetched s queue q) (Leads s e)
    (λ silent. leads-still s e Idle (λ no. refl)) (λ sends. absurd (both_ways _ sends (off_silent s queue off)))

pub transmit_leads : (s : State) (queue : ℕ) → Leads s (event.TxStep queue) (transmitted s queue)
transmit_leads s queue =
    let e = event.TxStep queue in
    let q = transmit_queue_of s.registers queue in
    cond_both (nat_lt queue 128) (queue_sent s queue q) (gives NoQueue s) (Leads s e)
    (λ few. elim (cases_Bool (is_on s.registers Tx queue)) as (λ _. Leads s e (queue_sent s queue q)) [
      | inl on ↦
          let there : transmitted s queue ≡ queue_sent s queue q = rw few refl in
          subst (Leads s e) there (on_leads s queue (ltb-true _ _ few) on)
      | inr off ↦ off_leads s queue off
    ]) (λ many. leads-still s e NoQueue (λ no. refl))
