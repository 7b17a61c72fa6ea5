-- The numbers by which C receives a reply from the device.
use Rattle.std.specs.Prelude.{ℕ, ◌+◌, ◌-◌, ◌==◌, Bool, List, ◌++◌, drop, length, Option, Some, None, if◌then◌else◌}
use Rattle.nic_device.specs.DmaArena.Block.{Block}
use Rattle.nic_device.specs.declared.event.Reply.{Reply}
use Rattle.nic_device.specs.declared.event.Reply.TheVariants as reply
use Rattle.nic_device.specs.declared.event.Why.{Why}
use Rattle.nic_device.specs.declared.event.Why.TheVariants as why
use Rattle.nic_device.specs.DmaRing.declared.fault.RingFault.{RingFault}
use Rattle.nic_device.specs.DmaRing.declared.fault.RingFault.TheVariants as fault
use Rattle.nic_device.specs.IntrUnit.declared.group.Group.{Group}
use Rattle.nic_device.specs.IntrUnit.declared.group.Group.TheVariants as group
use Rattle.nic_device.specs.DmaRing.declared.dir.Dir.{Dir}
use Rattle.nic_device.specs.DmaRing.declared.dir.Dir.TheVariants as dir
use Rattle.nic82599_c.specs.declared.outcome.Outcome.{Outcome}

-- The status for a reply.
abbrev pub status_of : Reply Block → ℕ
status_of (reply.Word word) = 0
status_of (reply.Stray word) = 1
status_of reply.Done = 0
status_of (reply.Bytes bytes) = 0
status_of (reply.Buf block) = 0
status_of (reply.Twice block) = 17
status_of reply.NotLent = 16
status_of reply.Misaligned = 20
status_of reply.NoQueue = 18
status_of reply.NoGroup = 19
status_of reply.Idle = 2
status_of (reply.Dropped why) = 3
status_of (reply.Wrote queue slot end desc at len) = 4
status_of (reply.Advanced queue slot back) = 5
status_of (reply.Sent queue len back) = 6
status_of (reply.Fault queue fault) = 7
status_of (reply.Message group vector) = 8
status_of (reply.Frame queue bytes) = 9

-- The value that a read returns, stray or not.
abbrev pub word_of : Reply Block → ℕ
word_of (reply.Word word) = word
word_of (reply.Stray word) = word
word_of other = 0

-- A report with all fields 0.
abbrev pub nothing : Outcome
nothing = record {
  desc = 0;
  at = 0;
  len = 0;
  bus = 0;
  queue = 0;
  slot = 0;
  group = 0;
  of = 0;
  status = 0;
  step = 0;
  end = 0;
  back = 0;
  why = 0;
  vector = 0;
}

-- The number for the reason why a frame was dropped.
abbrev pub number_of_why : Why → ℕ
number_of_why why.LinkDown = 1
number_of_why why.Off = 2
number_of_why why.Short = 3
number_of_why why.Long = 4
number_of_why why.Filter = 5
number_of_why why.NoPool = 6
number_of_why why.PoolOff = 7
number_of_why why.Full = 8
number_of_why why.QueueOff = 9
number_of_why why.NoSlot = 10

-- The number for the reason why a descriptor couldn't be processed.
abbrev pub number_of_fault : RingFault → ℕ
number_of_fault fault.Outside = 1
number_of_fault (fault.NotLent bus) = 2
number_of_fault fault.DescType = 3
number_of_fault fault.NoBufferSize = 4
number_of_fault fault.Offload = 5
number_of_fault fault.Legacy = 6
number_of_fault fault.TooLong = 7
number_of_fault fault.UnknownType = 8

-- The bus address that a fault reports; 0 if it reports none.
abbrev pub bus_of_fault : RingFault → ℕ
bus_of_fault (fault.NotLent bus) = bus
bus_of_fault other = 0

-- The number of a group: 0 for the physical function, v + 1 for virtual function v.
abbrev pub number_of_group : Group → ℕ
number_of_group group.Pf = 0
number_of_group (group.Vf v) = v + 1

abbrev pub group_of : ℕ → Group
group_of number = if number == 0 then group.Pf else group.Vf (number - 1)

-- The report, with a write-back's address added if there was a write-back.
abbrev pub with_back : Outcome → Option ℕ → Outcome
with_back outcome (Some at) = record outcome { at = at; back = 1 }
with_back outcome None = outcome

-- 1 for true, 0 for false.
abbrev pub bit_of : Bool → ℕ
bit_of b = if b then 1 else 0

-- The report for a reply, without the status.
abbrev pub fields_of : Reply Block → Outcome
fields_of (reply.Dropped why) = record nothing { why = number_of_why why }
fields_of (reply.Wrote queue slot end desc at len) = record nothing {
  queue = queue;
  slot = slot;
  end = bit_of end;
  desc = desc;
  at = at;
  len = len;
}
fields_of (reply.Advanced queue slot back) = with_back (record nothing { queue = queue; slot = slot }) back
fields_of (reply.Sent queue len back) = with_back (record nothing { queue = queue; len = len }) back
fields_of (reply.Fault queue fault) =
    record nothing { queue = queue; why = number_of_fault fault; bus = bus_of_fault fault }
fields_of (reply.Message group vector) = record nothing { group = number_of_group group; vector = vector }
fields_of (reply.Frame queue bytes) = record nothing { queue = queue; len = length bytes }
fields_of other = nothing

-- The report for a reply, with the status.
abbrev pub outcome_of : Reply Block → Outcome
outcome_of r = record (fields_of r) { status = status_of r }

-- The caller's buffer, with a reply's frame at its start.
abbrev pub with_frame : List ℕ → Reply Block → List ℕ
with_frame room (reply.Frame queue bytes) = bytes ++ drop (length bytes) room
with_frame room other = room

-- The side of a queue: transmit if true, receive if false.
abbrev pub dir_of : Bool → Dir
dir_of transmit = if transmit then dir.Tx else dir.Rx
