-- What every event leaves unchanged, given its reach, and what memory calls do.
use Rattle.std.proofs.Common.{◌≡◌, ℕ, length, refl}
use Rattle.std.specs.Prelude.{IsFalse}
use Rattle.std.specs.Cmp.{nat_cmp_total}
use Rattle.std.specs.FinMap as map
use Rattle.nic_device.specs.Footprint.{Reach, StaysWithin}
use Rattle.device_laws.specs.Prelude.{Dir, Group, Memory, Misses, Rx, State, Tx, after, of_group, of_side}
use Rattle.device_laws.proofs.Prelude.{group_stands, misses-nothing, ne_eqb, receive_stands, transmit_stands}
use Rattle.device_laws.specs.Leaving.{LeavesQueues, LeavesMissed, LeavesAllButMemory, EventStaysWithinReach, EventLeavesMissed, MemoryCallsLeaveTheRest, MemoryCallsLeaveOtherBlocks}
use Rattle.device_laws.proofs.Missed.{has-none}
use Rattle.nic_device.proofs.Steps.{step_leads}
use Rattle.nic_device.specs.declared.event.Event.TheVariants as event

pub stays_within : EventStaysWithinReach
stays_within s e = (step_leads s e).stays

pub missed : (r : Reach) (s t : State) → StaysWithin r s t → LeavesMissed r s t
missed r s t stays = record {
  receive = λ queue m. receive_stands r.registers s.registers t.registers queue m stays.registers;
  transmit = λ queue m no. record {
    side = transmit_stands r.registers s.registers t.registers queue m stays.registers;
    staged = stays.staged queue no;
  };
  group = λ g m. group_stands r.registers s.registers t.registers g m stays.registers;
}

pub leaves_missed : EventLeavesMissed
leaves_missed s e = missed _ s (after s e) (stays_within s e)

pub same_memory : (old new : Memory) → ((number : ℕ) → map.get new number ≡ map.get old number) → new ≡ old
same_memory old new same = map.same_map nat_cmp_total map.nat_cmp-IsAntisymmetric new old same

-- All queues are unchanged if the reach contains no part of a side and no staged bytes.
pub queues_stand : (r : Reach) (s t : State) → StaysWithin r s t
    → ((dir : Dir) (queue : ℕ) → Misses r.registers (of_side dir queue))
    → ((queue : ℕ) → IsFalse (r.staged queue)) → LeavesQueues s t
queues_stand r s t stays misses none = record {
  receive = λ queue. (missed r s t stays).receive queue (misses Rx queue);
  transmit = λ queue. (missed r s t stays).transmit queue (misses Tx queue) (none queue);
}

-- A reach without registers.
all_but_memory : (r : Reach) (s t : State) → StaysWithin r s t
    → ((dir : Dir) (queue : ℕ) → Misses r.registers (of_side dir queue))
    → ((g : Group) → Misses r.registers (of_group g))
    → ((queue : ℕ) → IsFalse (r.staged queue)) → IsFalse r.waiting → IsFalse r.out → LeavesAllButMemory s t
all_but_memory r s t stays sides groups staged waiting out = record {
  queues = queues_stand r s t stays sides staged;
  groups = λ g. (missed r s t stays).group g (groups g);
  frames = record { waiting = stays.waiting waiting; out = stays.out out };
}

-- Memory calls.

pub memory_rest : MemoryCallsLeaveTheRest
memory_rest = record {
  lend = λ s block. all_but_memory _ s _ (stays_within s (event.Lend block)) (λ dir queue. misses-nothing _)
      (λ g. misses-nothing _) (λ queue. refl) refl refl;
  take = λ s number. all_but_memory _ s _ (stays_within s (event.Take number)) (λ dir queue. misses-nothing _)
      (λ g. misses-nothing _) (λ queue. refl) refl refl;
  peek = λ s a. all_but_memory _ s _ (stays_within s (event.Peek16 a)) (λ dir queue. misses-nothing _)
      (λ g. misses-nothing _) (λ queue. refl) refl refl;
  poke = λ s a bytes. all_but_memory _ s _ (stays_within s (event.Poke16 a bytes)) (λ dir queue. misses-nothing _)
      (λ g. misses-nothing _) (λ queue. refl) refl refl;
}

pub memory_blocks : MemoryCallsLeaveOtherBlocks
memory_blocks = record {
  lend = λ s block number n. (stays_within s (event.Lend block)).blocks number (ne_eqb number block.number n);
  take = λ s taken number n. (stays_within s (event.Take taken)).blocks number (ne_eqb number taken n);
  peek = λ s a. same_memory s.memory _ (λ number. (stays_within s (event.Peek16 a)).blocks number refl);
  poke = λ s a bytes number avoids.
      (stays_within s (event.Poke16 a bytes)).blocks number (has-none number a (length bytes) avoids);
}
