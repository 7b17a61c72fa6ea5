-- A card: a device and its packet memory, in which each block is free or lent.
use Rattle.std.specs.Prelude.{◌≡◌, ℕ, zero, suc, Bool, not, true, false, ⊤, List, Option, Some, None, refl, if◌then◌else◌}
use Rattle.std.specs.Coded.{Coded, code_by, coded×, coded_ℕ, coded_bool, coded_list}
use Rattle.std.specs.FinMap as map
use Rattle.nic_device.specs.DmaArena.Block.{Block, zero_block}
use Rattle.nic_device.specs.DmaArena.Memory.{Memory, has_block, write_at}
use Rattle.nic_device.specs.DmaArena.Numbers.{Numbers, is_own, is_free, with_free, all_free}
use Rattle.nic_device.specs.State.{State, state_code, new_state}
use Rattle.nic_device.specs.Step.{after, reply_to, handed_block}
use Rattle.nic_device.specs.declared.event.Event.{Event}
use Rattle.nic_device.specs.declared.event.Event.TheVariants as event
use Rattle.nic_device.specs.declared.event.Reply.{Reply}
use Rattle.nic_device.specs.declared.event.Reply.TheVariants.{Buf, Twice, Word, Stray, Done}

-- A device, and which blocks are free.
pub record Holdings : Type 0 where
  pub device : State
  pub arena : Numbers

abbrev pub numbers_code : Coded Numbers
numbers_code =
    code_by (ℕ × List Bool) (coded× coded_ℕ (coded_list coded_bool)) (λ a. (a.first, a.free))
    (λ p. record { first = p.0; free = p.1 }) (λ _. refl)

-- A card is stored as the pair of its fields.
abbrev pub holdings_code : Coded Holdings
holdings_code =
    code_by (State × Numbers) (coded× state_code numbers_code) (λ b. (b.device, b.arena))
    (λ p. record { device = p.0; arena = p.1 }) (λ _. refl)

-- The blocks are numbered from 0. Each of them is free or lent, and no other block is lent.
pub record AreShared (memory : Memory) (arena : Numbers) : Type 0 where
  pub first : arena.first ≡ 0
  pub either : (number : ℕ) → is_own arena number ≡ true → is_free arena number ≡ not (has_block memory number)
  pub few : (number : ℕ) → has_block memory number ≡ true → is_own arena number ≡ true

-- A new card: a new device, and this many blocks, all free.
abbrev pub new_card : ℕ → ℕ → ℕ → Holdings
new_card vfs fifo blocks = record { device = new_state vfs fifo; arena = all_free 0 blocks }

-- The card after an event that moves no block.
abbrev pub made : Holdings → Event Block → Holdings
made c e = record c { device = after c.device e }

-- The device's reply to a read, given the value and whether the access was stray.
abbrev pub reply_of_read : (word : ℕ) (stray : Bool) → Reply Block
reply_of_read word true = Stray word
reply_of_read word false = Word word

-- The device's reply to a write, given whether the access was stray.
abbrev pub reply_of_write : (stray : Bool) → Reply Block
reply_of_write true = Stray 0
reply_of_write false = Done

-- A reply that the device can give to a write.
abbrev pub IsOfWrite : Reply Block → Type 0
IsOfWrite (Stray word) = word ≡ 0
IsOfWrite Done = ⊤
IsOfWrite other = ⊥

-- The card after a block was lent, if the block is free. The block's bytes are 0. If the block isn't free, the card is
-- unchanged.
abbrev pub with_lent : Holdings → ℕ → Holdings
with_lent c block =
    if is_free c.arena block
    then record {
      device = after c.device (event.Lend (zero_block block));
      arena = with_free c.arena block false;
    }
    else c

-- If a reply contains a block, the block belongs to the arena and isn't free there, so the block can be returned to the
-- arena.
abbrev pub CanReturn : Numbers → Reply Block → Type 0
CanReturn arena (Buf block) = (is_own arena block.number ≡ true) × (is_free arena block.number ≡ false)
CanReturn arena (Twice block) = ⊥
CanReturn arena other = ⊤

-- The arena after a block, if any, was returned to it: the block is free again.
abbrev pub given_back : Numbers → Option Block → Numbers
given_back arena (Some block) = with_free arena block.number true
given_back arena None = arena

-- The arena after a reply: a block in the reply is returned to the arena.
abbrev pub arena_after : Numbers → Reply Block → Numbers
arena_after arena reply = given_back arena (handed_block reply)

-- The card after a block was taken back. If the block was lent, it is free again.
abbrev pub with_taken : Holdings → ℕ → Holdings
with_taken c block = record {
  device = after c.device (event.Take block);
  arena = arena_after c.arena (reply_to c.device (event.Take block));
}

-- The card after each free block below a number was lent.
unfoldable pub lent_below : Holdings → ℕ → Holdings
lent_below c zero = c
lent_below c (suc block) = with_lent (lent_below c block) block

-- The card after bytes were written over the bus.
abbrev pub written : Holdings → ℕ → List ℕ → Holdings
written c bus bytes = record c { device = record c.device { memory = write_at c.device.memory bus bytes } }

-- The card after the bytes of a lent block were replaced.
abbrev pub with_bytes : Holdings → ℕ → List ℕ → Holdings
with_bytes c block bytes = record c { device = record c.device { memory = map.insert c.device.memory block bytes } }

-- The card with its EEPROM image replaced.
abbrev pub with_image : Holdings → List ℕ → Holdings
with_image c image = record c { device = record c.device { image = image } }
