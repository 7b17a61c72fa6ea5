-- What a transmit step reports about its queue.
use Rattle.std.proofs.Common.{cond, ◌≡◌, ◌<◌, ℕ, List, [], refl, ap, sym, ◌∙◌, subst, arith, inl, inr, nat_lt, Option, Some, None, Ok, Err}
use Rattle.std.specs.Prelude.{⊤}
use Rattle.std.proofs.lemmas.List.{get_or-set_same}
use Rattle.nic_device.specs.IntrUnit.declared.group.Group.TheVariants as group
use Rattle.nic_device.proofs.RegisterLaws.SideWords.{transmit-with_head}
use Rattle.nic_device.proofs.RegisterLaws.Switches.{transmit-shut}
use Rattle.nic_device.specs.Footprint.{counts_and_causes}
use Rattle.nic_device.specs.Interrupt.{raised_by, fault_cause}
use Rattle.device_laws.specs.Prelude.{ChangesWithin, Fetched, Gptc, IsSound, NoQueue, Outcome, Qptc, Registers}
use Rattle.device_laws.specs.Prelude.{RingFault, State, Tx, Vfgptc, counted, counter_of, function_of_queue, gives}
use Rattle.device_laws.specs.Prelude.{pending, ring_of, shut, slots_of, step_of, transmit_queue_of, with_head}
use Rattle.device_laws.proofs.Prelude.{cases_Bool, either_way, fetched_by, function_counted_in, ltb-true, takes_slot}
use Rattle.device_laws.proofs.Prelude.{transmit_stands, transmitted_cases, within-causes_raised}
use Rattle.device_laws.specs.Replies.{sent_tells, TookTransmit, TransmittingTells}
use Rattle.nic_device.specs.Transmit.{transmitted, queue_sent, slot_counted, slot_reported, slot_done, fetched_reply}
use Rattle.nic_device.proofs.Coming.{Comes, counted_in, raised_by_queue}
use Rattle.device_laws.proofs.Missed.{counts-miss_side, pending-misses_side}
use Rattle.nic_device.proofs.Raising.{comes-itself, have_counters, have_functions, have_causes}
use Rattle.device_laws.proofs.Reporting.{reports_at}

-- A fetched slot changes only the head, counters and causes.
slot_rest : (r : Registers) (vfs queue : ℕ) (f : Fetched) (o : Option (List ℕ))
    → Comes ⊤ counts_and_causes (with_head r Tx queue f.head) (slot_counted r vfs queue f o)
slot_rest r vfs queue f (Some frame) =
    let moved = with_head r Tx queue f.head in
    function_counted_in counts_and_causes moved _ (function_of_queue r vfs queue) Vfgptc have_functions
    (record { bank = refl; kind = refl })
    (counted_in counts_and_causes moved (counted moved Gptc 0) Qptc (counter_of r Tx queue) have_counters
    (record { bank = refl; kind = refl })
    (counted_in counts_and_causes moved moved Gptc 0 have_counters (record { bank = refl; kind = refl })
    (comes-itself counts_and_causes moved)))
slot_rest r vfs queue f None = comes-itself counts_and_causes (with_head r Tx queue f.head)

reported_rest : (r : Registers) (vfs queue : ℕ) (f : Fetched)
    → ChangesWithin counts_and_causes (with_head r Tx queue f.head) (slot_reported r vfs queue f)
reported_rest r vfs queue f =
    let moved = with_head r Tx queue f.head in
    let counts = slot_counted r vfs queue f f.frame in
    let rest = slot_rest r vfs queue f f.frame in
    either_way (ChangesWithin counts_and_causes moved) f.rs (raised_by counts vfs Tx queue) counts
    (raised_by_queue counts_and_causes moved counts vfs Tx queue have_causes rest).within
    rest.within

-- A fetched slot.
fetched_tells : (s new : State) (queue : ℕ) (f : Fetched) (o : Option (List ℕ))
    → f.slot ≡ (ring_of s.registers Tx queue).head → TookTransmit queue queue f.back s new
    → sent_tells queue (fetched_reply queue f o) s new
fetched_tells s new queue f (Some frame) slot took = took
fetched_tells s new queue f None slot took = (took, slot)

side_moved : (s : State) (queue : ℕ) (f : Fetched) → IsSound s → queue < 128
    → f.head < slots_of (ring_of s.registers Tx queue)
    → transmit_queue_of (slot_reported s.registers s.vfs queue f) queue
    ≡ record (transmit_queue_of s.registers queue) { ring = record (ring_of s.registers Tx queue) { head = f.head } }
side_moved s queue f h small inside =
    transmit_stands counts_and_causes _ _ queue (counts-miss_side Tx queue) (reported_rest s.registers s.vfs queue f)
    ∙ transmit-with_head s.registers h.registers.shape queue small f.head (omega arith)

abbrev Tells : State → ℕ → Outcome → Type 0
Tells s queue o = sent_tells queue o.reply s o.state

slot_tells : (s : State) (queue : ℕ) (f : Fetched) → (fetched_by s queue).answer ≡ Ok f → IsSound s → queue < 128
    → Tells s queue (slot_done s queue (Ok f) (fetched_by s queue).memory (fetched_by s queue).staged)
slot_tells s queue f is h small =
    let taken = takes_slot _ _ _ _ f is in
    fetched_tells s _ queue f f.frame taken.slot (record {
      named = refl;
      side = side_moved s queue f h small taken.inside
          ∙ ap (λ head. record (transmit_queue_of s.registers queue) {
            ring = record (ring_of s.registers Tx queue) { head = head };
          }) taken.head;
      reported = reports_at s queue f is;
    })

-- A fault.
fault_tells : (s : State) (queue : ℕ) (fault : RingFault) → IsSound s → queue < 128
    → Tells s queue (slot_done s queue (Err fault) (fetched_by s queue).memory (fetched_by s queue).staged)
fault_tells s queue fault h small = record {
  named = refl;
  side =
      transmit_stands (pending group.Pf) _ _ queue (pending-misses_side group.Pf Tx queue)
      (within-causes_raised (shut s.registers Tx queue) group.Pf fault_cause)
      ∙ transmit-shut s.registers h.registers.shape queue small;
  staged = get_or-set_same s.staged queue [] [] (subst (λ n. queue < n) (sym h.staged.queues) small);
}

-- Queues 128 and above have no steps.
below : (s : State) (queue : ℕ) → (queue < 128 → Tells s queue (transmitted s queue))
    → Tells s queue (transmitted s queue)
below s queue small =
    elim (cases_Bool (nat_lt queue 128)) as (λ _. Tells s queue (transmitted s queue)) [
      | inl few ↦ small (ltb-true queue 128 few)
      | inr past ↦
          subst (λ b. Tells s queue (cond b (queue_sent s queue (transmit_queue_of s.registers queue))
          (gives NoQueue s))) (sym past) tt
    ]

pub transmitting_tells : TransmittingTells
unfolding step_of
transmitting_tells s h queue =
    below s queue (λ small. transmitted_cases (Tells s queue) s queue (record {
      none = tt;
      idle = tt;
      fault = λ fault. fault_tells s queue fault h small;
      fetched = λ f is. slot_tells s queue f is h small;
    }))
