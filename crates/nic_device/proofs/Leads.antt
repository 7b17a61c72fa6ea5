-- The state after an event is sound and unchanged outside the event's reach.
use Rattle.std.proofs.Common.{◌≡◌, ℕ, refl}
use Rattle.std.specs.FinMap as map
use Rattle.std.specs.Prelude.{IsTrue, IsFalse}
use Rattle.rx_ring.specs.DmaArena.Block.{Block}
use Rattle.rx_ring.specs.DmaArena.Memory.{Memory, has_block}
use Rattle.register_file.specs.Registers.{Registers}
use Rattle.register_laws.proofs.Footprints.{within-refl}
use Rattle.nic_device.specs.Footprint.{reach_by, StaysWithin}
use Rattle.nic_device.specs.Outcome.{Outcome, gives}
use Rattle.nic_device.specs.Sound.{AreBlocks, IsEvent, IsSound}
use Rattle.nic_device.specs.State.{State}
use Rattle.nic_device.specs.Step.{moves_block, hands_out, is_fault}
use Rattle.nic_device.proofs.Keeping.{sound-registers, sound-memory, stays-still, stays-registers}
use Rattle.nic_device.proofs.Coming.{Comes}
use Rattle.nic_device.proofs.SidesOn.{SparesEnables, on_kept, sides_kept}
use Rattle.nic_device.specs.declared.event.Event.{Event}
use Rattle.nic_device.specs.declared.event.Reply.{Reply}

pub record Leads (s : State) (e : Event Block) (o : Outcome) : Type 0 where
  pub sound : IsSound s → IsEvent e → IsSound o.state
  pub stays : StaysWithin (reach_by s e o.reply) s o.state
  pub hands : IsFalse (moves_block e) → IsFalse (hands_out o.reply)
  pub faults : IsTrue (is_fault o.reply) → o.state.memory ≡ s.memory

-- A reply that changes nothing.
pub leads-still : (s : State) (e : Event Block) (reply : Reply Block)
    → (IsFalse (moves_block e) → IsFalse (hands_out reply)) → Leads s e (gives reply s)
leads-still s e reply none = assumption (stays-still (reach_by s e reply) s)

-- A reply that returns no block and leaves memory unchanged.
pub leads-to : (s : State) (e : Event Block) (reply : Reply Block) (t : State) → (IsSound s → IsEvent e → IsSound t)
    → StaysWithin (reach_by s e reply) s t → IsFalse (hands_out reply) → t.memory ≡ s.memory → Leads s e (gives reply t)
leads-to s e reply t sound stays none same = assumption

-- A reply that changes only memory and isn't a fault.
pub leads-memory : (s : State) (e : Event Block) (reply : Reply Block) (m : Memory)
    → (IsSound s → IsEvent e → AreBlocks m)
    → ((number : ℕ) → IsFalse ((reach_by s e reply).blocks number) → map.get m number ≡ map.get s.memory number)
    → ((number : ℕ) → IsFalse ((reach_by s e reply).lent number) → has_block m number ≡ has_block s.memory number)
    → (IsFalse (moves_block e) → IsFalse (hands_out reply)) → IsFalse (is_fault reply)
    → Leads s e (gives reply (record s { memory = m }))
leads-memory s e reply m sound blocks lent hands no_fault = record {
  sound = λ h is. sound-memory s m h (sound h is);
  stays = assumption (within-refl (reach_by s e reply).registers s.registers);
  hands = hands;
  faults = λ reported. cc;
}

-- A reply that changes only registers, and neither enables nor disables a side.
pub leads-registers : (s : State) (e : Event Block) (reply : Reply Block) (r : Registers) {good : Type 0}
    → (IsSound s → IsEvent e → good) → Comes good (reach_by s e reply).registers s.registers r
    → SparesEnables (reach_by s e reply).registers → IsFalse (hands_out reply)
    → Leads s e (gives reply (record s { registers = r }))
leads-registers s e reply r is comes spares none =
    let sides = sides_kept (reach_by s e reply).registers s.registers r spares comes.within in
    leads-to s e reply _
    (λ h made. sound-registers s r h (comes.sound (is h made) h.registers) (on_kept s.registers r sides))
    (stays-registers (reach_by s e reply) s r comes.within) none refl
