use Rattle.std.proofs.Common.{◌≡◌, ◌+◌, ◌*◌, [], ◌∷◌, ◌++◌, length}
use Rattle.nic82599_c.specs.Settling.{enables, of_each}
use Rattle.nic82599_c.specs.declared.settling.Step.TheVariants as step
use Rattle.nic82599_c.proofs.settling.round_of.Given as goal

abbrev pub invariant-loop-queue : goal.invariant-loop-queue
invariant-loop-queue l = record {
  steps : l.steps.items ≡ enables l.queue;
  count : length l.steps.items ≡ 2 * l.queue;
}

abbrev pub invariant-loop-queue-2 : goal.invariant-loop-queue-2
invariant-loop-queue-2 l = record {
  steps : l.steps.items ≡ (enables l.queues ++ step.Eeprom ∷ []) ++ of_each step.Transmit l.queue;
  count : length l.steps.items ≡ 2 * l.queues + 1 + l.queue;
}

abbrev pub invariant-loop-group : goal.invariant-loop-group
invariant-loop-group l = record {
  steps : l.steps.items
      ≡ (((enables l.queues ++ step.Eeprom ∷ []) ++ of_each step.Transmit l.queues) ++ step.Receive ∷ [])
      ++ of_each step.Interrupt l.group;
  count : length l.steps.items ≡ 3 * l.queues + 2 + l.group;
}
