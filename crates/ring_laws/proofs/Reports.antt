-- The blocks that an event leaves unchanged.
use Rattle.device_laws.proofs.{RepliesOut.misaligned, RepliesSent.transmitting_tells, Standing.memory_blocks}
use Rattle.device_laws.proofs.{Standing.stays_within, StandingQueues.transmitting_blocks}
use Rattle.device_laws.specs.Replies.{report_of, sent_tells}
use Rattle.device_lock.specs.Alone.{IsClear}
use Rattle.ring_laws.specs.Prelude.{Event, Filled, IsEvent, IsSound, LeavesBlock, LeavesBlocks, Reply, State, Tx}
use Rattle.ring_laws.specs.Prelude.{Waiting, WritesOutside, Wrote, after, reply_to, step_of, reported_address, write_at}
use Rattle.ring_laws.specs.{Left.IsOutside, Left.SendsNone, Prelude.Avoids, Prelude.Block, Prelude.Blocks}
use Rattle.ring_laws.specs.{Reports.ReportsLieInBlocks, Segments.pieces, Segments.reported_pieces}
use Rattle.device_lock.proofs.NicDevice.DmaArena.{Blocks.get-write_at_out, Inside.inside_avoids}
use Rattle.device_lock.proofs.NicDevice.{DmaRing.Fields.halves_come_back, QueueCases.filled_by, QueueCases.received_cases}
use Rattle.device_lock.proofs.NicDevice.{RegisterLaws.SoundWords.rings_aligned, RxRing.Fills.takes_piece}
use Rattle.std.proofs.Common.{List, Ok, Some, [], arith, inl, inr, length, ℕ, ◌*◌, ◌/◌, ◌<◌, ◌≡◌, ◌≢◌}
use Rattle.std.proofs.lemmas.{Bool.cases_eq, Bool.eq-eqb, Grind.common_steps}
use Rattle.std.specs.Prelude.{IsFalse, IsTrue, ⊤}
use Rattle.device_lock.specs.NicDevice.declared.event.Event.TheVariants as event
use Rattle.std.specs.FinMap as map

-- The bytes that a transmit step reports are inside the block in which they begin, because rings are aligned.

-- The reported address is the address where the queue reports.
pub reported : (own : ℕ) (r : Reply Block) (s t : State) → sent_tells own r s t → (back : ℕ)
    → reported_address r ≡ Some back → back ≡ report_of s.registers own
reported own r s t tells back is = grind arith

pub reports_lie : ReportsLieInBlocks
reports_lie s sound queue back reported =
    let tells = transmitting_tells s sound queue in
    let aligned = rings_aligned s.registers sound.registers Tx queue in
    grind (arith, reported)

-- Blocks into which a receive step writes nothing, even if the step writes no byte of a frame.

-- The bytes that a reply reports as received are outside a block.
abbrev pub IsSparedBy : Reply Block → ℕ → Type 0
IsSparedBy (Wrote on slot end desc at len) b = IsOutside desc at len b
IsSparedBy other b = ⊤

-- Filling a slot outside a block leaves the block unchanged.
spares : (s : State) (w : Waiting) (f : Filled) (b : ℕ) → (filled_by s w).answer ≡ Ok f
    → IsOutside f.desc f.at f.len b → map.get (filled_by s w).memory b ≡ map.get s.memory b
unfolding write_at
spares s w f b is outside =
    rw (takes_piece s.memory _ _ _ f is).memory (grind (arith, common_steps, get-write_at_out, halves_come_back))

pub spared_block : (s : State) (b : ℕ) → IsSparedBy (reply_to s event.RxStep) b
    → LeavesBlock b s (after s event.RxStep)
unfolding step_of
spared_block s b =
    received_cases (λ o. IsSparedBy o.reply b → map.get o.state.memory b ≡ map.get s.memory b) s (search spares)

-- An event that leaves blocks alone, and neither receives nor sends on their queue, leaves each of them unchanged.

-- Bytes that are in none of these blocks are outside each of them.
pub clear_avoids : (mine : Blocks) (at len b : ℕ) → IsClear mine at len → IsTrue (mine b) → 0 < len → Avoids b at len
clear_avoids mine at len b clear is some = grind (arith, common_steps, clear at, clear (2048 * b))

-- The bytes that a step writes on another queue are outside these blocks.
pub clear_outside : (mine : Blocks) (desc at len b : ℕ) → IsClear mine at len × IsClear mine desc 16 → IsTrue (mine b)
    → IsOutside desc at len b
clear_outside mine desc at len b clear is =
    assumption (clear_avoids mine desc 16 b clear.1 is (omega arith), clear_avoids mine at len b clear.0 is)

-- A step that wrote nothing on the queue spares these blocks.
spared_reply : (queue : ℕ) (mine : Blocks) (ws : List Waiting) (r : Reply Block) (b : ℕ) → IsTrue (mine b)
    → reported_pieces queue ws r ≡ [] → WritesOutside queue mine r → IsSparedBy r b
spared_reply queue mine ws (Wrote on slot end desc at len) b is none outside =
    search (clear_outside mine, outside (grind (arith, common_steps, eq-eqb)))
spared_reply queue mine ws other b is none outside = tt

-- A transmit step that reports in another block leaves this block unchanged.
pub reported_elsewhere : (s : State) → IsSound s → (on b : ℕ)
    → ((back : ℕ) → reported_address (reply_to s (event.TxStep on)) ≡ Some back → b ≢ back / 2048)
    → LeavesBlock b s (after s (event.TxStep on))
reported_elsewhere s sound on b apart =
    transmitting_blocks s on b (λ back reported. search (inside_avoids, reports_lie s sound on back))

module _ (queue : ℕ) (mine : Blocks) (s : State) (sound : IsSound s) (b : ℕ) (is : IsTrue (mine b)) where
  poked : (a : ℕ) (bytes : List ℕ) → length bytes ≡ 16 → IsFalse (mine (a / 2048))
      → LeavesBlock b s (after s (event.Poke16 a bytes))
  poked a bytes size other = grind (arith, common_steps, memory_blocks.poke, inside_avoids, misaligned s a)

  pub left-block : (e : Event Block) → IsEvent e → LeavesBlocks mine e → WritesOutside queue mine (reply_to s e)
      → pieces queue s e ≡ [] → SendsNone queue s e → LeavesBlock b s (after s e)
  left-block (event.Poke16 a bytes) made left outside none quiet = poked a bytes made.1 left
  left-block event.RxStep made left outside none quiet =
      spared_block s b (spared_reply queue mine s.waiting _ b is none outside)
  left-block (event.TxStep on) made left outside none quiet = elim (cases_eq on queue) [
    | inl own ↦ grind (arith, common_steps)
    | inr ne ↦
        reported_elsewhere s sound on b (λ back reported e. grind (arith, common_steps, transmitting_tells s sound on))
  ]
  left-block e made left outside none quiet = (stays_within s e).blocks b (grind (arith, common_steps))
