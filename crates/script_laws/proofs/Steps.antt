-- Proves what a step of the machine does.
use Rattle.std.proofs.Common.{◌≡◌, ℕ, ◌+◌, bit_and, false, Some, refl, ap, sym, subst, ◌∙◌}
use Rattle.std.proofs.lemmas.Bool.{eq-eqb, ne_eqb}
use Rattle.card.specs.Card.{arena_after}
use Rattle.machine.specs.Machine.{Step, executed_if_some, machine_step, word_peeked, word_read}
use Rattle.machine.specs.MachineState.{MachineState}
use Rattle.machine.specs.declared.machine.Status.{Status}
use Rattle.machine.specs.declared.machine.Status.TheVariants.{Ended, Failed}
use Rattle.machine.specs.declared.machine.StepAnswer.TheVariants as answer
use Rattle.nic_device.specs.Outcome.{Outcome}
use Rattle.nic_device.specs.Step.{step_of}
use Rattle.nic_device.specs.declared.event.Event.{Event}
use Rattle.nic_device.specs.declared.event.Event.TheVariants as event
use Rattle.nic_device.specs.declared.event.Port.TheVariants.{Pf, Vf}
use Rattle.nic_device.specs.declared.event.Reply.{Reply}
use Rattle.nic_device.specs.declared.event.Reply.TheVariants as reply
use Rattle.program.specs.DmaArena.Block.{Block, zero_block}
use Rattle.program.specs.DmaArena.Numbers.{Numbers, with_free}
use Rattle.program.specs.Listing.{Listing, string_at}
use Rattle.program.specs.declared.instruction.Instruction.{Instruction}
use Rattle.program.specs.declared.instruction.Instruction.TheVariants as instr
use Rattle.script_laws.specs.Steps.{acc_read, acc_seen, as_it_was, freed, status_after, IsNext, Made, Makes, Acted, Acts, LentNone}
use Rattle.script_laws.specs.Steps.{EventsAreMade, MachinesAct, InstructionsMakeEvents, InstructionsAct}

-- The step that runs the next instruction.
stepped : (program : Listing) (s : MachineState) (i : Instruction ℕ ℕ) → IsNext program s i →
    machine_step program s ≡ executed_if_some program s (Some i)
unfolding machine_step
stepped program s i next = ap (executed_if_some program s) next

-- Both descriptions keep the same part of a reply to a read, and of a reply to a peek, in the accumulator.
same_read : (r : Reply Block) (acc : ℕ) → word_read r acc ≡ acc_read r acc
same_read (reply.Word w) acc = refl
same_read other acc = refl

same_seen : (i : ℕ) (r : Reply Block) (acc : ℕ) → word_peeked i r acc ≡ acc_seen i r acc
same_seen i (reply.Bytes bytes) acc = refl
same_seen i other acc = refl

-- Both descriptions free the same block after a reply: the block that the reply returns.
same_freed : (r : Reply Block) (blocks : Numbers) → arena_after blocks r ≡ freed r blocks
same_freed (reply.Buf block) blocks = refl
same_freed (reply.Twice block) blocks = refl
same_freed other blocks = refl

-- The machine after a step with an event, while these blocks are free.
abbrev all_made : Listing → MachineState → (blocks : Numbers) (acc : ℕ) → Outcome → Step
all_made program s blocks acc outcome = record {
  answer = answer.Made outcome.reply;
  state = record s {
    device = outcome.state;
    arena = arena_after blocks outcome.reply;
    acc = acc;
    pc = s.pc + 1;
    status = status_after program (s.pc + 1);
    steps = s.steps + 1;
  };
}

module _ (program : Listing) (s : MachineState) where
  -- A step whose event is run, while these blocks are free.
  made_by : (i : Instruction ℕ ℕ) (e : Event Block) (acc : Reply Block → ℕ → ℕ) (blocks : Numbers)
      → IsNext program s i
      → executed_if_some program s (Some i)
      ≡ all_made program s blocks (acc (step_of s.device e).reply s.acc) (step_of s.device e)
      → Made program s (machine_step program s) e acc blocks
  made_by i e acc blocks next is =
      subst (λ (t : Step). Made program s t e acc blocks) (sym (stepped program s i next ∙ is)) (record {
        answer = refl;
        device = refl;
        arena = same_freed (step_of s.device e).reply blocks;
        acc = refl;
        pc = refl;
        status = refl;
        steps = refl;
      })

  -- An event whose reply doesn't change the accumulator.
  plain : (i : Instruction ℕ ℕ) (e : Event Block) → IsNext program s i
      → executed_if_some program s (Some i) ≡ all_made program s s.arena s.acc (step_of s.device e)
      → Makes program s e as_it_was
  plain i e next is = made_by i e as_it_was s.arena next is

  -- An event for which the accumulator keeps this word of the reply, in both descriptions.
  kept : (i : Instruction ℕ ℕ) (e : Event Block) (acc : Reply Block → ℕ → ℕ) (word : ℕ) → IsNext program s i
      → word ≡ acc (step_of s.device e).reply s.acc
      → executed_if_some program s (Some i) ≡ all_made program s s.arena word (step_of s.device e)
      → Makes program s e acc
  kept i e acc word next same is =
      made_by i e acc s.arena next (is ∙ ap (λ w. all_made program s s.arena w (step_of s.device e)) same)

  acted_by : (i : Instruction ℕ ℕ) (acc pc : ℕ) (status : Status) → IsNext program s i →
      Acted s (executed_if_some program s (Some i)) acc pc status → Acts program s acc pc status
  acted_by i acc pc status next acted =
      subst (λ (t : Step). Acted s t acc pc status) (sym (stepped program s i next)) acted

events_made : (program : Listing) (s : MachineState) → EventsAreMade program s
events_made program s = record {
  write = λ address word next. plain program s (instr.Write address word) (event.Write Pf address word) next refl;
  read = λ address next.
      let r = (step_of s.device (event.Read Pf address)).reply in
      kept program s (instr.Read address) (event.Read Pf address) acc_read (word_read r s.acc) next (same_read r s.acc)
      refl;
  vf_write = λ v offset word next.
      plain program s (instr.VfWrite v offset word) (event.Write (Vf v) offset word) next refl;
  vf_read = λ v offset next.
      let r = (step_of s.device (event.Read (Vf v) offset)).reply in
      kept program s (instr.VfRead v offset) (event.Read (Vf v) offset) acc_read (word_read r s.acc) next
      (same_read r s.acc) refl;
  lend = λ block next free.
      made_by program s (instr.Lend block) (event.Lend (zero_block block)) as_it_was
      (with_free s.arena block false) next (rw free refl);
  lend_none = λ block next taken.
      subst (λ (t : Step). LentNone program s t) (sym (stepped program s (instr.Lend block) next))
      (rw taken (record {
        answer = refl;
        device = refl;
        arena = refl;
        acc = refl;
        pc = refl;
        status = refl;
        steps = refl;
      }));
  unlend = λ block next. plain program s (instr.Unlend block) (event.Take block) next refl;
  poke = λ address number next.
      plain program s (instr.Poke address number) (event.Poke16 address (string_at program.strings number)) next refl;
  peek = λ address i next.
      let r = (step_of s.device (event.Peek16 address)).reply in
      kept program s (instr.Peek address i) (event.Peek16 address) (acc_seen i) (word_peeked i r s.acc) next
      (same_seen i r s.acc) refl;
  arrive = λ number next.
      plain program s (instr.Arrive number) (event.Arrive (string_at program.strings number)) next refl;
  rx = λ next. plain program s instr.RxStep event.RxStep next refl;
  tx = λ queue next. plain program s (instr.TxStep queue) (event.TxStep queue) next refl;
  int = λ group next. plain program s (instr.IntStep group) (event.IntStep group) next refl;
  switch = λ dir queue next. plain program s (instr.QueueStep dir queue) (event.QueueStep dir queue) next refl;
  eeprom = λ next. plain program s instr.EepromStep event.EepromStep next refl;
  link = λ up next. plain program s (instr.Link up) (event.Link up) next refl;
  collect = λ next. plain program s instr.Collect event.Collect next refl;
}

pub make : InstructionsMakeEvents
make program s = events_made program s

-- The machine after a step without an event.
abbrev left : MachineState → (acc pc : ℕ) → Status → Step
left s acc pc status =
    record { answer = answer.Local; state = record s { acc = acc; pc = pc; status = status; steps = s.steps + 1 } }

acted_so : (program : Listing) (s : MachineState) (i : Instruction ℕ ℕ) (acc pc : ℕ) (status : Status) →
    IsNext program s i → executed_if_some program s (Some i) ≡ left s acc pc status → Acts program s acc pc status
acted_so program s i acc pc status next is =
    acted_by program s i acc pc status next (subst (λ (t : Step). Acted s t acc pc status) (sym is) (record {
      answer = refl;
      device = refl;
      arena = refl;
      acc = refl;
      pc = refl;
      status = refl;
      steps = refl;
    }))

machines_act : (program : Listing) (s : MachineState) → MachinesAct program s
machines_act program s = record {
  expected = λ want mask next is.
      acted_so program s (instr.Expect want mask) s.acc (s.pc + 1) (status_after program (s.pc + 1)) next
      (rw (eq-eqb (bit_and s.acc mask) want is) refl);
  unexpected = λ want mask next isnt.
      acted_so program s (instr.Expect want mask) s.acc s.pc (Failed s.pc (bit_and s.acc mask) want) next
      (rw (ne_eqb (bit_and s.acc mask) want isnt) refl);
  mask = λ word next.
      acted_so program s (instr.And word) (bit_and s.acc word) (s.pc + 1) (status_after program (s.pc + 1)) next refl;
  equal = λ word target next is.
      acted_so program s (instr.JumpIfEqual word target) s.acc target (status_after program target) next
      (rw (eq-eqb s.acc word is) refl);
  not_equal = λ word target next isnt.
      acted_so program s (instr.JumpIfEqual word target) s.acc (s.pc + 1) (status_after program (s.pc + 1)) next
      (rw (ne_eqb s.acc word isnt) refl);
  unless_equal = λ word target next is.
      acted_so program s (instr.JumpUnlessEqual word target) s.acc (s.pc + 1) (status_after program (s.pc + 1)) next
      (rw (eq-eqb s.acc word is) refl);
  unless_other = λ word target next isnt.
      acted_so program s (instr.JumpUnlessEqual word target) s.acc target (status_after program target) next
      (rw (ne_eqb s.acc word isnt) refl);
  jump = λ target next. acted_so program s (instr.Jump target) s.acc target (status_after program target) next refl;
  halt = λ next. acted_so program s instr.Halt s.acc s.pc Ended next refl;
}

pub act_so : InstructionsAct
act_so program s = machines_act program s
