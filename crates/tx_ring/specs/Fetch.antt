-- The result of fetching the slot at the head, and the memory and staged bytes after the call.
use Rattle.std.specs.Prelude.{ℕ, ◌+◌, ◌≢◌, ◌≤◌, nat_lt, Bool, false, ◌==◌, not, if◌then◌else◌, IsTrue, IsFalse, List, [], ◌++◌, length, Option, Some, None, unwrap_or, Result, Ok, Err}
use Rattle.dma_arena.specs.Memory.{Memory, is_lent, read_at}
use Rattle.dma_ring.specs.declared.ring.Ring.{Ring}
use Rattle.dma_ring.specs.declared.transmit.Command.{Command}
use Rattle.dma_ring.specs.declared.fault.RingFault.{RingFault}
use Rattle.dma_ring.specs.declared.fault.RingFault.TheVariants.{Outside, NotLent, Offload, Legacy, TooLong, UnknownType}
use Rattle.dma_ring.specs.Ring.{is_outside}
use Rattle.dma_ring.specs.Descriptor.{first_half, second_half}
use Rattle.dma_ring.specs.Transmit.{command_of}
use Rattle.tx_ring.specs.declared.tx.Tx.{Tx}
use Rattle.tx_ring.specs.declared.fetched.Fetched.{Fetched}
use Rattle.tx_ring.specs.Frame.{frame_of}
use Rattle.tx_ring.specs.Report.{head_address, new_head, report_address, can_report, back_of, reported}

-- The result of a fetch, with the memory and the staged bytes after the call.
pub record Outcome : Type 0 where
  pub answer : Result Fetched RingFault
  pub memory : Memory
  pub staged : List ℕ

-- The device owns a slot of the ring, or the head or the tail is outside the ring.
abbrev pub IsReady : Ring → Type 0
IsReady r = IsFalse (is_outside r) → r.head ≢ r.tail

-- The descriptor at the head (`descriptor_of`), its command (`command_in`) and its buffer's address (`buffer_in`).
abbrev pub descriptor_of : Memory → Ring → List ℕ
descriptor_of m r = read_at m (head_address r) 16

abbrev pub command_in : List ℕ → Command
command_in descriptor = command_of (second_half descriptor)

abbrev pub buffer_in : List ℕ → ℕ
buffer_in descriptor = first_half descriptor

-- Whether a descriptor is a context descriptor (`is_context`) or a data descriptor (`is_data`).
abbrev pub is_context : Command → Bool
is_context c = c.kind == 2

abbrev pub is_data : Command → Bool
is_data c = c.kind == 3

-- The bytes in a data descriptor's buffer.
abbrev pub buffer_bytes : Memory → List ℕ → List ℕ
buffer_bytes m descriptor = read_at m (buffer_in descriptor) (command_in descriptor).len

-- The tests, in order. Each test returns its own fault if it fails.

-- Third, the tests of a data descriptor, given that `staged` bytes are staged.
unfoldable pub data_fault_of : Memory → Ring → Tx → ℕ → List ℕ → Option RingFault
data_fault_of m r tx staged descriptor =
    if (command_in descriptor).offload then Some Offload
    else if nat_lt tx.limit (staged + (command_in descriptor).len) then Some TooLong
    else if not (is_lent m (buffer_in descriptor) (command_in descriptor).len) then Some
    (NotLent (buffer_in descriptor))
    else if not (can_report m r tx (command_in descriptor).report) then Some (NotLent (report_address r tx))
    else None

-- Second, the tests of the descriptor's type. A context descriptor has no further test.
unfoldable pub descriptor_fault_of : Memory → Ring → Tx → ℕ → List ℕ → Option RingFault
descriptor_fault_of m r tx staged descriptor =
    if not (command_in descriptor).extended then Some Legacy
    else if is_context (command_in descriptor) then None
    else if is_data (command_in descriptor) then data_fault_of m r tx staged descriptor
    else Some UnknownType

-- First, the tests of the ring and of the descriptor's address.
unfoldable pub fault_of : Memory → Ring → Tx → ℕ → Option RingFault
fault_of m r tx staged =
    if is_outside r then Some Outside
    else if not (is_lent m (head_address r) 16) then Some (NotLent (head_address r))
    else descriptor_fault_of m r tx staged (descriptor_of m r)

-- A data descriptor passes its tests, given that `staged` bytes are staged.
pub record CanSend (m : Memory) (r : Ring) (tx : Tx) (staged : ℕ) (descriptor : List ℕ) : Type 0 where
  pub no_offload : IsFalse (command_in descriptor).offload
  pub room : staged + (command_in descriptor).len ≤ tx.limit
  pub buffer : IsTrue (is_lent m (buffer_in descriptor) (command_in descriptor).len)
  pub report : IsTrue (can_report m r tx (command_in descriptor).report)

-- The results of a fetch.

-- A fault changes nothing.
abbrev pub fault_outcome : Memory → List ℕ → RingFault → Outcome
fault_outcome m staged fault = record { answer = Err fault; memory = m; staged = staged }

-- A context descriptor advances the head and does nothing else.
abbrev pub context_outcome : Memory → List ℕ → Ring → Outcome
context_outcome m staged r = record {
  answer = Ok (record { slot = r.head; head = new_head r; back = None; rs = false; frame = None });
  memory = m;
  staged = staged;
}

-- A data descriptor's bytes are staged. At the end of the packet, all staged bytes are sent as the packet's frame. If
-- RS is 1, the descriptor is reported.
abbrev pub data_outcome : Memory → List ℕ → Ring → Tx → List ℕ → Outcome
data_outcome m staged r tx descriptor = record {
  answer = Ok (record {
    slot = r.head;
    head = new_head r;
    back = back_of r tx (command_in descriptor).report;
    rs = (command_in descriptor).report;
    frame = if (command_in descriptor).end then Some (frame_of tx.pad (staged ++ buffer_bytes m descriptor)) else None;
  });
  memory = reported m r tx (command_in descriptor).report descriptor;
  staged = if (command_in descriptor).end then [] else staged ++ buffer_bytes m descriptor;
}

abbrev pub outcome_of : Memory → List ℕ → Ring → Tx → Option RingFault → Outcome
outcome_of m staged r tx (Some fault) = fault_outcome m staged fault
outcome_of m staged r tx None =
    if is_context (command_in (descriptor_of m r)) then context_outcome m staged r
    else data_outcome m staged r tx (descriptor_of m r)

-- Fetching the slot at the head. The first test that fails determines the fault. If no test fails, the descriptor is
-- completed.
unfoldable pub fetch_of : Memory → List ℕ → Ring → Tx → Outcome
fetch_of m staged r tx = outcome_of m staged r tx (fault_of m r tx (length staged))

-- The bytes for which the queue needs memory: the bytes of the frame that is sent, or the staged bytes if no frame is
-- sent.
abbrev pub bytes_held : Outcome → List ℕ
bytes_held o = held_in o.staged o.answer
  where
    held_in : List ℕ → Result Fetched RingFault → List ℕ
    held_in staged (Ok f) = unwrap_or f.frame staged
    held_in staged (Err fault) = staged
