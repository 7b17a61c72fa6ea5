-- Reaches: the parts of a device that an event may change.
use Rattle.std.specs.Prelude.{ℕ, ◌≡◌, ◌+◌, ◌*◌, ◌==◌, nat_lt, Bool, true, false, ◌&&◌, ◌||◌, IsFalse, List, [], ◌∷◌, length, Option, Some, None, if◌then◌else◌}
use Rattle.std.specs.FinMap as map
use Rattle.rx_ring.specs.DmaArena.Block.{Block}
use Rattle.rx_ring.specs.DmaArena.Memory.{has_block}
use Rattle.register_file.specs.RegTable.Rows.{row_of}
use Rattle.register_file.specs.RegTable.declared.bank.Bank.{Bank}
use Rattle.register_file.specs.RegTable.declared.bank.Bank.TheVariants as bank
use Rattle.register_file.specs.RegTable.declared.place.Place.{Place}
use Rattle.register_file.specs.RegTable.declared.rows.RowId.TheVariants.{Eerd}
use Rattle.register_file.specs.VfMap.Owner.{has_queue}
use Rattle.register_file.specs.VfMap.declared.mode.Mode.{Mode}
use Rattle.register_file.specs.IntrUnit.declared.group.Group.TheVariants as group
use Rattle.register_file.specs.Access.{asks_reset, asks_pool_reset}
use Rattle.register_file.specs.Columns.{place}
use Rattle.register_file.specs.Pools.{mode_in}
use Rattle.rx_ring.specs.DmaRing.declared.dir.Dir.{Dir}
use Rattle.rx_ring.specs.DmaRing.declared.dir.Dir.TheVariants.{Rx, Tx}
use Rattle.register_laws.specs.Footprint.{Footprint, ChangesWithin, nothing, everything, either, the_word, counters, of_side, pool_renews, pending, any_pending, of_read, of_write}
use Rattle.register_laws.specs.Sides.{transmit_queue_of}
use Rattle.tx_ring.specs.Report.{report_length}
use Rattle.nic_device.specs.Named.{named}
use Rattle.nic_device.specs.State.{State, Waiting}
use Rattle.nic_device.specs.Step.{step_of}
use Rattle.nic_device.specs.Transmit.{staged_by}
use Rattle.nic_device.specs.declared.event.Event.{Event}
use Rattle.nic_device.specs.declared.event.Event.TheVariants as event
use Rattle.nic_device.specs.declared.event.Reply.{Reply}
use Rattle.nic_device.specs.declared.named.Named.{Named}
use Rattle.nic_device.specs.declared.named.Named.TheVariants.{Nothing, Register}
use Rattle.nic_device.specs.declared.event.Reply.TheVariants.{Wrote, Advanced, Sent}

-- The parts that may change: registers, the bytes of lent blocks, which block numbers are lent, the staged bytes of
-- queues, the receive list, the transmitted frames, and the link.
pub record Reach : Type 0 where
  pub registers : Footprint
  pub blocks : ℕ → Bool
  pub lent : ℕ → Bool
  pub staged : ℕ → Bool
  pub waiting : Bool
  pub out : Bool
  pub link : Bool

-- Everything outside the reach is unchanged, and so are the EEPROM image and the configuration.
pub record StaysWithin (r : Reach) (old new : State) : Type 0 where
  pub registers : ChangesWithin r.registers old.registers new.registers
  pub blocks : (number : ℕ) → IsFalse (r.blocks number) → map.get new.memory number ≡ map.get old.memory number
  pub lent : (number : ℕ) → IsFalse (r.lent number) → has_block new.memory number ≡ has_block old.memory number
  pub staged : (queue : ℕ) → IsFalse (r.staged queue) → staged_by new queue ≡ staged_by old queue
  pub waiting : IsFalse r.waiting → new.waiting ≡ old.waiting
  pub out : IsFalse r.out → new.out ≡ old.out
  pub link : IsFalse r.link → new.link ≡ old.link
  pub image : new.image ≡ old.image
  pub vfs : new.vfs ≡ old.vfs
  pub fifo : new.fifo ≡ old.fifo

abbrev pub nowhere : Reach
nowhere = record {
  registers = nothing;
  blocks = λ number. false;
  lent = λ number. false;
  staged = λ queue. false;
  waiting = false;
  out = false;
  link = false;
}

-- Only these parts of the registers.
abbrev pub in_registers : Footprint → Reach
in_registers f = record nowhere { registers = f }

-- One block, which is lent or taken back.
abbrev pub the_block : ℕ → Reach
the_block number = record nowhere { blocks = λ other. other == number; lent = λ other. other == number }

-- What a read may change, given what its number refers to.
abbrev pub read_reach : Named → Reach
read_reach (Nothing seen) = nowhere
read_reach (Register p view) = in_registers (of_read p)

-- A reset leaves lent memory, transmitted frames, the link and the image unchanged.
abbrev pub reset_reach : Reach
reset_reach = record nowhere { registers = everything; staged = λ queue. true; waiting = true }

-- A pool reset changes only the pool's registers that the reset covers, the staged bytes of the pool's queues, and the
-- receive list. Lent memory, transmitted frames and the link are unchanged.
abbrev pub pool_reach : Mode → ℕ → Reach
pool_reach mode v = record nowhere {
  registers = pool_renews mode v;
  staged = λ queue. has_queue mode v queue;
  waiting = true;
}

-- What a write may change if it doesn't request a device reset.
abbrev pub below_reset_reach : Mode → Place → ℕ → Reach
below_reset_reach mode p word =
    if asks_pool_reset (row_of p.row).kind word then pool_reach mode p.index else in_registers (of_write p)

-- What a write may change, given what its number refers to and how the queues are divided into pools.
abbrev pub write_reach : Mode → Named → ℕ → Reach
write_reach mode (Nothing seen) word = nowhere
write_reach mode (Register p view) word =
    if asks_reset (row_of p.row).kind word then reset_reach else below_reset_reach mode p word

-- Whether a block overlaps this many bytes starting at an address.
abbrev pub has_some_of : ℕ → ℕ → ℕ → Bool
has_some_of number address len = nat_lt (2048 * number) (address + len) && nat_lt address (2048 * number + 2048)

-- Whether a block overlaps the descriptor or the bytes that a `Wrote` reply reports.
abbrev pub received_into : Reply Block → ℕ → Bool
received_into (Wrote queue slot end desc at len) number = has_some_of number desc 16 || has_some_of number at len
received_into other number = false

-- Whether a bank holds the counters of the virtual functions.
abbrev pub is_function_count : Bank → Bool
is_function_count bank.Device = false
is_function_count bank.Counters = false
is_function_count bank.Receive = false
is_function_count bank.Transmit = false
is_function_count bank.Interrupts = false
is_function_count bank.VfInterrupts = false
is_function_count bank.Pool = false
is_function_count bank.VfCounters = true
is_function_count bank.Vectors = false
is_function_count bank.Messages = false

-- The counters of all virtual functions.
abbrev pub function_counts : Footprint
function_counts =
    record {
      bits = λ p bit. is_function_count (row_of p.row).bank;
      wanted = λ dir queue. false;
      reported = λ g. false;
    }

-- The counters and the causes that a step may change.
abbrev pub counts_and_causes : Footprint
counts_and_causes = either (either counters function_counts) any_pending

-- What a receive step may change: the receive side of the oldest frame's queue, the counters and the causes, the blocks
-- that the step writes to, and the receive list. Without a frame, nothing changes.
abbrev pub receive_reach : List Waiting → Reply Block → Reach
receive_reach [] reply = nowhere
receive_reach (w ∷ others) reply = record nowhere {
  registers = either (of_side Rx w.queue) counts_and_causes;
  blocks = received_into reply;
  waiting = true;
}

-- The write-back address that a reply reports.
abbrev pub reported_address : Reply Block → Option ℕ
reported_address (Advanced queue slot back) = back
reported_address (Sent queue len back) = back
reported_address other = None

-- Whether a block overlaps a write-back of this many bytes. False if nothing is written back.
abbrev pub back_into : Option ℕ → ℕ → ℕ → Bool
back_into (Some back) len number = has_some_of number back len
back_into None len number = false

-- What a transmit step may change: the queue's transmit side and staged bytes, the counters and the causes, the blocks
-- that the step writes back to, and the transmitted frames.
abbrev pub transmit_reach : State → ℕ → Reply Block → Reach
transmit_reach s queue reply = record nowhere {
  registers = either (of_side Tx queue) counts_and_causes;
  blocks = back_into (reported_address reply) (report_length (transmit_queue_of s.registers queue).writeback);
  staged = λ other. other == queue;
  out = true;
}

-- What an enable step may change: a transmit side and its staged bytes, or a receive side and the receive list.
abbrev pub switch_reach : Dir → ℕ → Reach
switch_reach Rx queue = record nowhere { registers = of_side Rx queue; waiting = true }
switch_reach Tx queue = record nowhere { registers = of_side Tx queue; staged = λ other. other == queue }

-- What an event may change, given the reply to it.
abbrev pub reach_by : State → Event Block → Reply Block → Reach
reach_by s (event.Read port number) reply = read_reach (named s port number)
reach_by s (event.Write port number word) reply =
    write_reach (mode_in s.registers) (named s port number) word
reach_by s (event.Lend block) reply = the_block block.number
reach_by s (event.Take number) reply = the_block number
reach_by s (event.Peek16 address) reply = nowhere
reach_by s (event.Poke16 address bytes) reply =
    record nowhere { blocks = λ number. has_some_of number address (length bytes) }
reach_by s (event.Arrive frame) reply =
    record nowhere { registers = either counters (pending group.Pf); waiting = true }
reach_by s event.RxStep reply = receive_reach s.waiting reply
reach_by s (event.TxStep queue) reply = transmit_reach s queue reply
reach_by s (event.IntStep g) reply = in_registers (pending g)
reach_by s (event.QueueStep dir queue) reply = switch_reach dir queue
reach_by s event.EepromStep reply = in_registers (the_word (place Eerd 0))
reach_by s (event.Link up) reply = record nowhere { registers = pending group.Pf; link = true }
reach_by s event.Collect reply = record nowhere { out = true }

abbrev pub reach_of : State → Event Block → Reach
reach_of s e = reach_by s e (step_of s e).reply
