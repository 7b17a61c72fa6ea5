-- What a step of the machine does, instruction by instruction.
use Rattle.std.specs.Prelude.{ℕ, ◌≡◌, ◌≢◌, ◌+◌, ◌*◌, ◌==◌, Bool, true, false, bit_and, length, slice_index, Some}
use Rattle.std.specs.Prelude.{if◌then◌else◌}
use Rattle.machine.specs.Machine.{Step, machine_step, next_instruction}
use Rattle.machine.specs.MachineState.{MachineState}
use Rattle.machine.specs.declared.machine.Status.{Status}
use Rattle.machine.specs.declared.machine.Status.TheVariants.{Running, Ended, Failed}
use Rattle.machine.specs.declared.machine.StepAnswer.TheVariants as answer
use Rattle.nic_device.specs.Step.{step_of}
use Rattle.nic_device.specs.declared.event.Event.{Event}
use Rattle.nic_device.specs.declared.event.Event.TheVariants as event
use Rattle.nic_device.specs.declared.event.Port.TheVariants.{Pf, Vf}
use Rattle.nic_device.specs.declared.event.Reply.{Reply}
use Rattle.nic_device.specs.declared.event.Reply.TheVariants.{Word, Stray, Bytes, Buf, Twice}
use Rattle.program.specs.DmaArena.Block.{Block, zero_block}
use Rattle.program.specs.DmaArena.Numbers.{Numbers, is_free, with_free}
use Rattle.program.specs.DmaRing.declared.dir.Dir.{Dir}
use Rattle.program.specs.IntrUnit.declared.group.Group.{Group}
use Rattle.program.specs.Listing.{Listing, string_at}
use Rattle.program.specs.declared.instruction.Instruction.{Instruction}
use Rattle.program.specs.declared.instruction.Instruction.TheVariants as instr

-- After the last instruction, a machine has ended.
abbrev pub status_after : Listing → ℕ → Status
status_after program pc = if pc == length program.instructions then Ended else Running

-- The accumulator after a reply to a read: the word in the reply, even if no register exists at the address.
abbrev pub acc_read : Reply Block → ℕ → ℕ
acc_read (Word w) acc = w
acc_read (Stray w) acc = w
acc_read other acc = acc

-- The accumulator after a reply to a peek at 16 bytes: word `i` of these bytes, with the low byte first.
abbrev pub acc_seen : ℕ → Reply Block → ℕ → ℕ
acc_seen i (Bytes bytes) acc =
    slice_index bytes (4 * i) + 0x100 * slice_index bytes (4 * i + 1) + 0x10000 * slice_index bytes (4 * i + 2)
    + 0x1000000 * slice_index bytes (4 * i + 3)
acc_seen i other acc = acc

-- The free blocks after a reply. A block that the reply returns is free again.
abbrev pub freed : Reply Block → Numbers → Numbers
freed (Buf block) blocks = with_free blocks block.number true
freed (Twice block) blocks = with_free blocks block.number true
freed other blocks = blocks

-- A step that runs an event while these blocks are free. The event is applied to the device, the step returns the
-- device's reply, and `kept` determines the accumulator from that reply and the old accumulator.
pub record Made (program : Listing) (s : MachineState) (step : Step) (e : Event Block) (kept : Reply Block → ℕ → ℕ)
    (blocks : Numbers) : Type 0 where
  pub answer : step.answer ≡ answer.Made (step_of s.device e).reply
  pub device : step.state.device ≡ (step_of s.device e).state
  pub arena : step.state.arena ≡ freed (step_of s.device e).reply blocks
  pub acc : step.state.acc ≡ kept (step_of s.device e).reply s.acc
  pub pc : step.state.pc ≡ s.pc + 1
  pub status : step.state.status ≡ status_after program (s.pc + 1)
  pub steps : step.state.steps ≡ s.steps + 1

-- A step that runs no event: the device and the blocks are unchanged, the accumulator contains `word`, and instruction
-- `next` is next.
pub record Acted (s : MachineState) (step : Step) (word next : ℕ) (now : Status) : Type 0 where
  pub answer : step.answer ≡ answer.Local
  pub device : step.state.device ≡ s.device
  pub arena : step.state.arena ≡ s.arena
  pub acc : step.state.acc ≡ word
  pub pc : step.state.pc ≡ next
  pub status : step.state.status ≡ now
  pub steps : step.state.steps ≡ s.steps + 1

-- If the block to lend isn't free, no event is run.
pub record LentNone (program : Listing) (s : MachineState) (step : Step) : Type 0 where
  pub answer : step.answer ≡ answer.NoBlock
  pub device : step.state.device ≡ s.device
  pub arena : step.state.arena ≡ s.arena
  pub acc : step.state.acc ≡ s.acc
  pub pc : step.state.pc ≡ s.pc + 1
  pub status : step.state.status ≡ status_after program (s.pc + 1)
  pub steps : step.state.steps ≡ s.steps + 1

-- The machine's next step, with or without an event.
abbrev pub Makes : Listing → MachineState → Event Block → (Reply Block → ℕ → ℕ) → Type 0
Makes program s e acc = Made program s (machine_step program s) e acc s.arena

abbrev pub Acts : Listing → MachineState → (acc pc : ℕ) → Status → Type 0
Acts program s acc pc status = Acted s (machine_step program s) acc pc status

-- The machine is running, and this instruction is next.
abbrev pub IsNext : Listing → MachineState → Instruction ℕ ℕ → Type 0
IsNext program s i = next_instruction program s ≡ Some i

abbrev pub as_it_was : Reply Block → ℕ → ℕ
as_it_was reply acc = acc

-- Each instruction runs its event. A lent block is no longer free.
pub record EventsAreMade (program : Listing) (s : MachineState) : Type 0 where
  pub write : (address word : ℕ) → IsNext program s (instr.Write address word) →
      Makes program s (event.Write Pf address word) as_it_was
  pub read : (address : ℕ) → IsNext program s (instr.Read address) → Makes program s (event.Read Pf address) acc_read
  pub vf_write : (v offset word : ℕ) → IsNext program s (instr.VfWrite v offset word) →
      Makes program s (event.Write (Vf v) offset word) as_it_was
  pub vf_read : (v offset : ℕ) → IsNext program s (instr.VfRead v offset) →
      Makes program s (event.Read (Vf v) offset) acc_read
  pub lend : (block : ℕ) → IsNext program s (instr.Lend block) → is_free s.arena block ≡ true →
      Made program s (machine_step program s) (event.Lend (zero_block block)) as_it_was
      (with_free s.arena block false)
  pub lend_none : (block : ℕ) → IsNext program s (instr.Lend block) → is_free s.arena block ≡ false →
      LentNone program s (machine_step program s)
  pub unlend : (block : ℕ) → IsNext program s (instr.Unlend block) → Makes program s (event.Take block) as_it_was
  pub poke : (address number : ℕ) → IsNext program s (instr.Poke address number) →
      Makes program s (event.Poke16 address (string_at program.strings number)) as_it_was
  pub peek : (address i : ℕ) → IsNext program s (instr.Peek address i) →
      Makes program s (event.Peek16 address) (acc_seen i)
  pub arrive : (number : ℕ) → IsNext program s (instr.Arrive number) →
      Makes program s (event.Arrive (string_at program.strings number)) as_it_was
  pub rx : IsNext program s instr.RxStep → Makes program s event.RxStep as_it_was
  pub tx : (queue : ℕ) → IsNext program s (instr.TxStep queue) → Makes program s (event.TxStep queue) as_it_was
  pub int : (group : Group) → IsNext program s (instr.IntStep group) →
      Makes program s (event.IntStep group) as_it_was
  pub switch : (dir : Dir) (queue : ℕ) → IsNext program s (instr.QueueStep dir queue) →
      Makes program s (event.QueueStep dir queue) as_it_was
  pub eeprom : IsNext program s instr.EepromStep → Makes program s event.EepromStep as_it_was
  pub link : (up : Bool) → IsNext program s (instr.Link up) → Makes program s (event.Link up) as_it_was
  pub collect : IsNext program s instr.Collect → Makes program s event.Collect as_it_was

-- An `expect` continues exactly if acc & M is V. Otherwise the `expect` fails with acc & M and V, and the machine stays
-- at that instruction. An `and` with V leaves acc & V. A jump that isn't taken continues at the next instruction. A
-- `halt` ends the machine at the `halt`.
pub record MachinesAct (program : Listing) (s : MachineState) : Type 0 where
  pub expected : (want mask : ℕ) → IsNext program s (instr.Expect want mask) → bit_and s.acc mask ≡ want →
      Acts program s s.acc (s.pc + 1) (status_after program (s.pc + 1))
  pub unexpected : (want mask : ℕ) → IsNext program s (instr.Expect want mask) → bit_and s.acc mask ≢ want →
      Acts program s s.acc s.pc (Failed s.pc (bit_and s.acc mask) want)
  pub mask : (word : ℕ) → IsNext program s (instr.And word) →
      Acts program s (bit_and s.acc word) (s.pc + 1) (status_after program (s.pc + 1))
  pub equal : (word target : ℕ) → IsNext program s (instr.JumpIfEqual word target) → s.acc ≡ word →
      Acts program s s.acc target (status_after program target)
  pub not_equal : (word target : ℕ) → IsNext program s (instr.JumpIfEqual word target) → s.acc ≢ word →
      Acts program s s.acc (s.pc + 1) (status_after program (s.pc + 1))
  pub unless_equal : (word target : ℕ) → IsNext program s (instr.JumpUnlessEqual word target) → s.acc ≡ word →
      Acts program s s.acc (s.pc + 1) (status_after program (s.pc + 1))
  pub unless_other : (word target : ℕ) → IsNext program s (instr.JumpUnlessEqual word target) → s.acc ≢ word →
      Acts program s s.acc target (status_after program target)
  pub jump : (target : ℕ) → IsNext program s (instr.Jump target) →
      Acts program s s.acc target (status_after program target)
  pub halt : IsNext program s instr.Halt → Acts program s s.acc s.pc Ended

abbrev pub InstructionsMakeEvents : Type 0
InstructionsMakeEvents = (program : Listing) (s : MachineState) → EventsAreMade program s

abbrev pub InstructionsAct : Type 0
InstructionsAct = (program : Listing) (s : MachineState) → MachinesAct program s
