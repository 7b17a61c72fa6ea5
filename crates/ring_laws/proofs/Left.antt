-- An event that leaves a queue alone writes no setting, and leaves each side of the queue unchanged unless it is a step
-- of that side.
use Rattle.device_laws.proofs.StandingQueues.{switching_rest, transmitting_rest}
use Rattle.device_laws.proofs.StandingRest.{arrival_rest, collecting_rest, eeprom_rest, link_rest, message_rest}
use Rattle.device_laws.proofs.{Standing.leaves_missed, Standing.memory_rest, StandingAccesses.read_rest}
use Rattle.device_laws.proofs.{StandingAccesses.write_rest, StandingQueues.receiving_rest}
use Rattle.device_lock.specs.Alone.{Spares, is_setting}
use Rattle.ring_laws.specs.Prelude.{LeavesReceive, LeavesRegisters, LeavesTransmit, Mode, Place, Port, ReceiveQueue}
use Rattle.ring_laws.specs.Prelude.{Register, Rx, State, Tx, Watched, WritesNoSetting, after}
use Rattle.ring_laws.specs.Prelude.{asks_pool_reset, asks_reset, has_queue, mode_in, named, row_of, step_of}
use Rattle.ring_laws.specs.Sides.{LeavesSide, Side, receive_side, transmit_side}
use Rattle.ring_laws.specs.{Left.is_switch_of, Prelude.Block, Prelude.Dir, Prelude.Event, Prelude.LeavesQueues}
use Rattle.ring_laws.{proofs.Written.place_in, proofs.Written.place_named, specs.Left.is_step_of}
use Rattle.device_lock.proofs.NicDevice.RegisterLaws.Covers.{covers-renewed, misses-narrower}
use Rattle.device_lock.specs.NicDevice.RegisterLaws.Footprint.{Misses, of_side, pool_renews}
use Rattle.device_lock.specs.NicDevice.VfMap.Owner.{is_of_pool_by}
use Rattle.device_lock.specs.NicDevice.{RegTable.declared.bank.Bank.Bank, RegisterFile.Owner.is_owner, RegisterFile.Owner.owner_in}
use Rattle.std.proofs.Common.{ap, arith, false, inl, inr, true, ℕ, ◌≡◌}
use Rattle.std.proofs.lemmas.{Bool.cases_Bool, Bool.eqb-true, Grind.common_steps}
use Rattle.device_lock.specs.NicDevice.RegisterFile.declared.owner.Owner.TheVariants as owner
use Rattle.device_lock.specs.NicDevice.declared.event.Event.TheVariants as event

-- A side of a queue, and the records for its direction.

-- A side as a record for its direction.
abbrev pub receive_of : Side → ReceiveQueue
receive_of x = record { ring = x.ring; control = x.control; on = x.on; wanted = x.wanted }

module _ (queue : ℕ) (s t : State) where
  pub receive_left : LeavesReceive queue s t → LeavesSide Rx queue s t
  receive_left left = ap receive_side left

  pub transmit_left : LeavesTransmit queue s t → LeavesSide Tx queue s t
  transmit_left left = λ k. transmit_side (left.side k) (left.staged k)

  pub queues_left : (dir : Dir) → LeavesQueues s t → LeavesSide dir queue s t
  queues_left dir left = grind (arith, left.receive queue, left.transmit queue)

  pub left_transmit : LeavesSide Tx queue s t → LeavesTransmit queue s t
  left_transmit left = grind arith

-- Writes to registers that a queue doesn't rely on, and the register that each address or offset names if no setting is
-- written.

-- A pool that doesn't contain the queue contains no register of the queue's sides.

pool_none : (b : Bank) (dir : Dir) (mode : Mode) (v index queue : ℕ) → has_queue mode v queue ≡ false
    → is_owner (owner.Side dir queue) (owner_in b index) ≡ true → is_of_pool_by b mode v index ≡ false
pool_none b dir mode v index queue h1 h2 = grind (arith, common_steps, eqb-true)

pub pool_misses : (side : Dir) (mode : Mode) (v queue : ℕ) → has_queue mode v queue ≡ false
    → Misses (pool_renews mode v) (of_side side queue)
pool_misses side mode v queue none =
    grind (arith, common_steps, misses-narrower, covers-renewed, pool_none, eqb-true)

-- A number still identifies the same register while the queues are separated in the same way.
pub named-same : (s t : State) → mode_in t.registers ≡ mode_in s.registers → t.vfs ≡ s.vfs → (port : Port) (n : ℕ)
    → named t port n ≡ named s port n
named-same s t mode vfs port n = grind arith

-- A write to a register that isn't a setting.
pub plain-write : (s : State) (port : Port) (n word : ℕ) (q : Place) (view : ℕ) → named s port n ≡ Register q view
    → is_setting q.row ≡ false → WritesNoSetting s (event.Write port n word)
plain-write s port n word q view names plain p seen there = grind (arith, common_steps, plain)

-- An event that leaves a queue alone writes no setting, and leaves each side of the queue unchanged unless it is a step
-- of that side.

abbrev pub step_event : Dir → ℕ → Event Block
step_event Rx queue = event.RxStep
step_event Tx queue = event.TxStep queue

pub step_is : (dir : Dir) (queue : ℕ) (e : Event Block) → is_step_of dir queue e ≡ true → e ≡ step_event dir queue
step_is dir queue e h1 = grind (arith, common_steps, eqb-true)

pub switch_is : (dir : Dir) (queue : ℕ) (e : Event Block) → is_switch_of dir queue e ≡ true
    → e ≡ event.QueueStep dir queue
switch_is dir queue e h1 = grind (arith, common_steps, eqb-true)

module _ (w : Watched) (s : State) (functions : w.vfs ≡ s.vfs) where
  -- An event that leaves a queue alone writes no setting.
  pub left-setting : (e : Event Block) → LeavesRegisters w (mode_in s.registers) e → WritesNoSetting s e
  left-setting e h1 = grind (arith, common_steps, place_named, place_in)

  module _ (dir : Dir) where
    -- A write to a register that the queue doesn't rely on changes neither side of the queue.
    spared_written : (port : Port) (n word : ℕ) (p : Place) (view : ℕ) → named s port n ≡ Register p view
        → Spares w.queue (mode_in s.registers) p word → LeavesSide dir w.queue s (after s (event.Write port n word))
    spared_written port n word p view is spares =
        let plain : asks_reset (row_of p.row).kind word ≡ false = grind (arith, spares.setting) in
        elim (cases_Bool (asks_pool_reset (row_of p.row).kind word)) [
          | inl asks ↦
              let missed = leaves_missed s (event.Write port n word) in
              let misses = λ (side : Dir). pool_misses side (mode_in s.registers) p.index w.queue (spares.pool asks) in
              grind (arith, missed.receive w.queue, missed.transmit w.queue, misses Rx, misses Tx)
          | inr none ↦
              let rest = write_rest s port n word p view is plain none in
              grind (arith, common_steps, rest.receive w.queue, rest.transmit w.queue)
        ]

    written_side : (port : Port) (n word : ℕ) → LeavesRegisters w (mode_in s.registers) (event.Write port n word)
        → LeavesSide dir w.queue s (after s (event.Write port n word))
    unfolding step_of
    written_side port n word left = grind (arith, place_named s port n, spared_written port n word)

    -- An event that leaves a queue alone leaves each side of the queue unchanged, unless the event is a step of that
    -- side.
    pub left-side : (e : Event Block) → LeavesRegisters w (mode_in s.registers) e → is_step_of dir w.queue e ≡ false
        → is_switch_of dir w.queue e ≡ false → LeavesSide dir w.queue s (after s e)
    left-side (event.Write port n word) left other apart = written_side port n word left
    left-side (event.Read port n) left other apart = queues_left w.queue s _ dir (read_rest s port n).queues
    left-side event.RxStep left other apart = grind (arith, common_steps, transmit_left, receiving_rest)
    left-side (event.TxStep on) left other apart =
        let sides = (transmitting_rest s on).sides in grind (arith, sides.receive w.queue, sides.transmit w.queue)
    left-side (event.QueueStep side on) left other apart =
        let sides = (switching_rest s side on).sides in grind (arith, sides.receive w.queue, sides.transmit w.queue)
    left-side e left other apart =
        queues_left w.queue s _ dir
        (grind (arith, memory_rest, arrival_rest, message_rest, eeprom_rest, link_rest, collecting_rest))
