-- What queue steps leave unchanged.
use Rattle.std.proofs.Common.{◌≡◌, ◌≢◌, ℕ, false, List, [], ◌∷◌, refl, sym, inl, inr, ◌⊎◌, Option, Some, None}
use Rattle.nic_device.specs.RegisterFile.declared.owner.Owner.TheVariants as owner
use Rattle.nic_device.specs.Footprint.{receive_reach, received_into, back_into, reported_address, counts_and_causes}
use Rattle.device_laws.specs.Prelude.{Avoids, Block, Misses, Reply, Rx, Tx, Waiting, Wrote, of_side, step_of}
use Rattle.device_laws.proofs.Prelude.{misses-nothing, misses-owner, ne_eqb}
use Rattle.device_laws.specs.Leaving.{IsFirstFor, ReceivingLeavesTheRest, ReceivesOutside, ReceivingLeavesOtherBlocks, TransmittingLeavesTheRest, TransmittingLeavesOtherBlocks, SwitchingLeavesTheRest}
use Rattle.device_laws.proofs.Missed.{neither, misses-either, misses-other_side, counts-miss_side, has-none}
use Rattle.device_laws.proofs.Standing.{stays_within, missed, leaves_missed, same_memory}
use Rattle.nic_device.specs.declared.event.Event.TheVariants as event

-- Receive steps.

-- What a receive step for the oldest frame leaves unchanged.
module _ (reply : Reply Block) where
  receive_misses : (ws : List Waiting) (queue : ℕ) → ¬ IsFirstFor queue ws
      → Misses (receive_reach ws reply).registers (of_side Rx queue)
  receive_misses [] queue n = misses-nothing (of_side Rx queue)
  receive_misses (w ∷ others) queue n =
      misses-either (of_side Rx w.queue) counts_and_causes (of_side Rx queue)
      (misses-other_side Rx w.queue queue (λ e. n (sym e))) (counts-miss_side Rx queue)

  receive_misses_sent : (ws : List Waiting) (queue : ℕ) → Misses (receive_reach ws reply).registers (of_side Tx queue)
  receive_misses_sent [] queue = misses-nothing (of_side Tx queue)
  receive_misses_sent (w ∷ others) queue =
      misses-either (of_side Rx w.queue) counts_and_causes (of_side Tx queue)
      (misses-owner (owner.Side Rx w.queue) (owner.Side Tx queue) refl) (counts-miss_side Tx queue)

  receive_no_staged : (ws : List Waiting) (queue : ℕ) → (receive_reach ws reply).staged queue ≡ false
  receive_no_staged [] queue = refl
  receive_no_staged (w ∷ others) queue = refl

  receive_no_out : (ws : List Waiting) → (receive_reach ws reply).out ≡ false
  receive_no_out [] = refl
  receive_no_out (w ∷ others) = refl

no_block_received : (reply : Reply Block) (number : ℕ) → ReceivesOutside reply number
    → received_into reply number ≡ false
no_block_received (Wrote queue slot end desc at len) number outside =
    neither _ _ (has-none number desc 16 outside.0) (has-none number at len outside.1)
no_block_received other number outside = refl

receive_no_block : (ws : List Waiting) (reply : Reply Block) (number : ℕ) → ReceivesOutside reply number
    → (receive_reach ws reply).blocks number ≡ false
receive_no_block [] reply number outside = refl
receive_no_block (w ∷ others) reply number outside = no_block_received reply number outside

pub receiving_rest : ReceivingLeavesTheRest
receiving_rest s =
    let stays = stays_within s event.RxStep in
    let rest = leaves_missed s event.RxStep in
    let reply = (step_of s event.RxStep).reply in
    record {
      receive = λ queue n. rest.receive queue (receive_misses reply s.waiting queue n);
      transmit = λ queue.
          rest.transmit queue (receive_misses_sent reply s.waiting queue) (receive_no_staged reply s.waiting queue);
      out = stays.out (receive_no_out reply s.waiting);
    }

pub receiving_blocks : ReceivingLeavesOtherBlocks
receiving_blocks s number outside =
    (stays_within s event.RxStep).blocks number (receive_no_block s.waiting _ number outside)

-- Transmit steps.

sent_apart : (queue other : ℕ) → (Tx ≡ Rx) ⊎ (other ≢ queue) → other ≢ queue
sent_apart queue other (inl e) = cc
sent_apart queue other (inr n) = n

pub transmitting_rest : TransmittingLeavesTheRest
transmitting_rest s queue =
    let stays = stays_within s (event.TxStep queue) in
    let rest = leaves_missed s (event.TxStep queue) in
    record {
      sides = record {
        receive = λ other h. rest.receive other
            (misses-either (of_side Tx queue) counts_and_causes (of_side Rx other)
            (misses-owner (owner.Side Tx queue) (owner.Side Rx other) refl) (counts-miss_side Rx other));
        transmit = λ other h. rest.transmit other
            (misses-either (of_side Tx queue) counts_and_causes (of_side Tx other)
            (misses-other_side Tx queue other (sent_apart queue other h)) (counts-miss_side Tx other))
            (ne_eqb other queue (sent_apart queue other h));
      };
      waiting = stays.waiting refl;
    }

no_block_back : (o : Option ℕ) (len number : ℕ) → ((back : ℕ) → o ≡ Some back → Avoids number back len)
    → back_into o len number ≡ false
no_block_back None len number avoids = refl
no_block_back (Some back) len number avoids = has-none number back len (avoids back refl)

pub transmitting_blocks : TransmittingLeavesOtherBlocks
transmitting_blocks s queue number avoids =
    (stays_within s (event.TxStep queue)).blocks number
    (no_block_back (reported_address (step_of s (event.TxStep queue)).reply) _ number avoids)

-- Enable steps.

received_apart : (queue other : ℕ) → (Rx ≡ Tx) ⊎ (other ≢ queue) → other ≢ queue
received_apart queue other (inl e) = cc
received_apart queue other (inr n) = n

pub switching_rest : SwitchingLeavesTheRest
switching_rest s Rx queue =
    let stays = stays_within s (event.QueueStep Rx queue) in
    let rest = missed _ s _ stays in
    record {
      sides = record {
        receive = λ other h. rest.receive other (misses-other_side Rx queue other (received_apart queue other h));
        transmit = λ other h.
            rest.transmit other (misses-owner (owner.Side Rx queue) (owner.Side Tx other) refl) refl;
      };
      groups = λ g. rest.group g (misses-owner (owner.Side Rx queue) (owner.Group g) refl);
      memory = same_memory s.memory _ (λ number. stays.blocks number refl);
      out = stays.out refl;
    }
switching_rest s Tx queue =
    let stays = stays_within s (event.QueueStep Tx queue) in
    let rest = missed _ s _ stays in
    record {
      sides = record {
        receive = λ other h. rest.receive other (misses-owner (owner.Side Tx queue) (owner.Side Rx other) refl);
        transmit = λ other h. rest.transmit other (misses-other_side Tx queue other (sent_apart queue other h))
            (ne_eqb other queue (sent_apart queue other h));
      };
      groups = λ g. rest.group g (misses-owner (owner.Side Tx queue) (owner.Group g) refl);
      memory = same_memory s.memory _ (λ number. stays.blocks number refl);
      out = stays.out refl;
    }
