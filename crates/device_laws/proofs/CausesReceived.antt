-- What a receive step raises, and what a fault raises.
use Rattle.std.proofs.Common.{cond, ◌≡◌, ◌∙◌, ℕ, Bool, true, false, refl, ap, arith, Some, None}
use Rattle.nic_device.proofs.RegisterLaws.Sound.{sound-shut}
use Rattle.nic_device.specs.Interrupt.{function_of_queue, device_raised, raised_by, fault_cause}
use Rattle.device_laws.specs.Prelude.{Block, Dir, Event, Filled, Group, HasShape, IsSound, Outcome, Qprc, Qprdc}
use Rattle.device_laws.specs.Prelude.{Registers, Rx, State, Vfgprc, counted, counter_of, frame_counted, head_row}
use Rattle.device_laws.specs.Prelude.{interrupts_of, piece_done, place, received, shut, with_head}
use Rattle.device_laws.proofs.Prelude.{HasShape-put, counted_in, function_counted_in, received_cases}
use Rattle.device_laws.specs.Raising.{raises, after_causes, device_cause, queue_cause}
use Rattle.device_laws.proofs.CausesKept.{word_kept, shut_kept, head_kept, function_kept, function_shape}
use Rattle.device_laws.proofs.Caused.{group_raised, queue_raises}
use Rattle.nic_device.proofs.Raising.{have_counters, have_functions, covers-counts, of_step, head_moved}
use Rattle.nic_device.specs.declared.event.Event.TheVariants as event

abbrev pub Raises : State → Event Block → Outcome → Type 0
Raises s e o =
    (g : Group) → interrupts_of o.state.registers g ≡ after_causes (raises s e o.reply) g (interrupts_of s.registers g)

-- A cause of the device.
pub device_raises : (r t : Registers) (bits : ℕ) → HasShape t → (g : Group) → interrupts_of t g ≡ interrupts_of r g
    → interrupts_of (device_raised t bits) g ≡ after_causes (Some (device_cause bits)) g (interrupts_of r g)
device_raises r t bits h g same =
    group_raised t (device_cause bits) h (omega arith) g ∙ ap (after_causes (Some (device_cause bits)) g) same

-- Receive steps.

pub fault_raises : (s : State) (dir : Dir) (queue : ℕ) → IsSound s → (g : Group)
    → interrupts_of (device_raised (shut s.registers dir queue) fault_cause) g
    ≡ after_causes (Some (device_cause fault_cause)) g (interrupts_of s.registers g)
fault_raises s dir queue h g =
    device_raises s.registers (shut s.registers dir queue) fault_cause
    (sound-shut s.registers dir queue h.registers).shape g (shut_kept s.registers dir queue g)

piece_raises : (s : State) (queue : ℕ) (f : Filled) → IsSound s → (g : Group)
    → interrupts_of (piece_done s.registers s.vfs queue f) g
    ≡ after_causes (cond f.end (Some (queue_cause s Rx queue)) None) g (interrupts_of s.registers g)
piece_raises s queue f h g =
    let r = s.registers in
    let moved = with_head r Rx queue f.head in
    let shape = HasShape-put r (place (head_row Rx) queue) f.head h.registers.shape in
    let counter = place Qprc (counter_of moved Rx queue) in
    let head = head_moved {good = ⊥} r Rx queue f.head (λ never. absurd never) in
    let v = function_of_queue moved s.vfs queue in
    let one = counted moved Qprc (counter_of moved Rx queue) in
    let within = (function_counted_in (of_step Rx queue) r one v Vfgprc (covers-counts Rx queue have_functions)
    (record { bank = refl; kind = refl })
    (counted_in (of_step Rx queue) r moved Qprc (counter_of moved Rx queue) (covers-counts Rx queue have_counters)
    (record { bank = refl; kind = refl }) head)).within in
    ends f.end
    (queue_raises s (frame_counted moved s.vfs queue) Rx queue
    (function_shape one v Vfgprc (HasShape-put moved counter _ shape)) h.vfs within g
    (function_kept one v Vfgprc refl g ∙ word_kept moved counter _ g refl ∙ head_kept r Rx queue f.head g))
    (head_kept r Rx queue f.head g)
  where
    ends : (b : Bool)
        → interrupts_of (raised_by (frame_counted (with_head s.registers Rx queue f.head) s.vfs queue) s.vfs Rx queue) g
        ≡ after_causes (Some (queue_cause s Rx queue)) g (interrupts_of s.registers g)
        → interrupts_of (with_head s.registers Rx queue f.head) g ≡ interrupts_of s.registers g
        → interrupts_of (cond b
        (raised_by (frame_counted (with_head s.registers Rx queue f.head) s.vfs queue) s.vfs Rx queue)
        (with_head s.registers Rx queue f.head)) g
        ≡ after_causes (cond b (Some (queue_cause s Rx queue)) None) g (interrupts_of s.registers g)
    ends true p q = p
    ends false p q = q

pub received_raises : (s : State) → IsSound s → Raises s event.RxStep (received s)
received_raises s h = received_cases (Raises s event.RxStep) s (record {
  idle = λ g. refl;
  dropped = λ w others e why g. refl;
  slotless = λ w others e g. word_kept s.registers (place Qprdc (counter_of s.registers Rx w.queue)) _ g refl;
  fault = λ w others e fault g. fault_raises s Rx w.queue h g;
  filled = λ w others e f is g. piece_raises s w.queue f h g;
})
