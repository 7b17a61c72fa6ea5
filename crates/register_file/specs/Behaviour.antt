-- The behaviour of each kind of register, as one record per kind.
use Rattle.std.specs.Prelude.{ℕ, ◌^◌, Bool, true, false, ◌||◌, bit_and, bit_or, if◌then◌else◌}
use Rattle.intr_unit.specs.declared.group.Group.{Group}
use Rattle.reg_table.specs.declared.place.Place.{Place}
use Rattle.reg_table.specs.declared.kind.Kind.{Kind}
use Rattle.reg_table.specs.declared.kind.Kind.TheVariants as kind
use Rattle.register_file.specs.Bits.{has_bit}
use Rattle.register_file.specs.Effects.{calculated, group_read, in_group, is_running, asked, stored, ones_cleared, causes_written, masks_set, causes_set, masks_cleared}
use Rattle.register_file.specs.Footprint.{Footprint, nothing, either, the_word, the_enable, pending_of}
use Rattle.register_file.specs.Mailbox.{mail_read, function_writes, physical_writes, holders, resets_reported, by_mail_read, by_function, by_physical, by_telling}
use Rattle.register_file.specs.Owner.{owner_of}
use Rattle.register_file.specs.Registers.{Registers}
use Rattle.register_file.specs.Words.{word_at, put}
use Rattle.register_file.specs.declared.surroundings.Surroundings.{Surroundings}

-- How accesses affect a register of one kind, and what the register's words are.
pub record Behaviour : Type 0 where
  -- The value that a read returns, not yet masked to the bits that the address shows; and the registers after the read.
  pub gives : Registers → Surroundings → Place → ℕ
  pub leaves : Registers → Place → Registers
  -- Whether a write requests a reset of the device, or of the pool with the place's index, and has no other effect.
  pub asks_reset : (word : ℕ) → Bool
  pub asks_pool_reset : (word : ℕ) → Bool
  -- The registers after any other write, through an address that shows the bits of `view`.
  pub written : Registers → Place → (view word : ℕ) → Registers
  -- What a read, and a write that requests no reset, may change.
  pub by_read : Place → Footprint
  pub by_write : Place → Footprint
  -- `is_stored`: the register's words are stored as they are. `is_pending`: the words are causes or masks. `is_alone`:
  -- no access to another place changes the words. `keeps_none`, below: the register stores no word.
  pub is_stored : Bool
  pub is_pending : Bool
  pub is_alone : Bool
  -- Whether a write changes only what belongs to the owner of the place.
  pub is_own : Bool
  pub keeps_none : Bool
  -- The bits of the register's words that can become 1, given the row's mask.
  pub bits : (mask : ℕ) → ℕ

-- Reads as 0. No access changes anything.
abbrev pub inert : Behaviour
inert =
    record {
      gives = λ r around p. 0;
      leaves = λ r p. r;
      asks_reset = λ word. false;
      asks_pool_reset = λ word. false;
      written = λ r p view word. r;
      by_read = λ p. nothing;
      by_write = λ p. nothing;
      is_stored = false;
      is_pending = false;
      is_alone = true;
      is_own = true;
      keeps_none = true;
      bits = λ mask. 0;
    }

-- Stores a word that the device sets and that reads return.
abbrev pub kept : Behaviour
kept =
    record inert {
      gives = λ r around p. word_at r.words p;
      is_stored = true;
      keeps_none = false;
      bits = λ mask. 0xFFFFFFFF;
    }

-- Stores a written word: the bits that are in the row's mask and that the address shows.
abbrev pub plain : Behaviour
plain = record kept { written = stored; by_write = the_word; bits = λ mask. mask }

-- A write changes the interrupts of the place's group, according to the bits that are written as 1 and that the address
-- shows.
abbrev pub acting : (Registers → Group → ℕ → Registers) → Behaviour
acting change =
    record inert {
      written = λ r p view word. in_group r p (λ g. change r g (bit_and word view));
      by_write = λ p. pending_of (owner_of p);
    }

-- Like `acting`, but reads return the place's word.
abbrev pub interrupts : (Registers → Group → ℕ → Registers) → Behaviour
interrupts change =
    record (acting change) {
      gives = λ r around p. word_at r.words p;
      is_pending = true;
      is_alone = false;
      keeps_none = false;
      bits = λ mask. mask;
    }

-- Reading a counter resets it to 0, unless it is read-only. Reading causes clears them. Writes don't change the base,
-- length or head of a queue's ring while the ring's side is enabled. Bit 25 of a write to a side's enable register
-- becomes the enable request. The write leaves the register's own bit 25 unchanged; an enable step then sets or clears
-- it. A write to CTRL with bit 3 or bit 26 set requests a device reset, and a write to PVFCTRL with bit 26 set requests
-- a pool reset. A write to EERD clears bit 1, DONE, and the data that was read. PFMAILBOX stores no word: reading it
-- shows bits 2 and 3 of PVFMAILBOX, and writing it changes the word of PVFMAILBOX. A write to CTRL_EXT with bit 14 set
-- reports to all functions that a reset is done.
abbrev pub behaviour_of : Kind → Behaviour
behaviour_of kind.Rw = plain
behaviour_of kind.Ro = kept
behaviour_of kind.Calc = record inert { gives = λ r around p. calculated p.row r around }
behaviour_of kind.Rc = record kept { leaves = λ r p. record r { words = put r.words p 0 }; by_read = the_word }
behaviour_of kind.Cause =
    record (interrupts causes_written) {
      leaves = λ r p. in_group r p (group_read r);
      by_read = λ p. pending_of (owner_of p);
    }
behaviour_of kind.Ones = interrupts masks_set
behaviour_of kind.Set = acting causes_set
behaviour_of kind.Clear = acting masks_cleared
behaviour_of kind.Held =
    record plain {
      written = λ r p view word. if is_running r (owner_of p) then r else stored r p view word;
    }
behaviour_of kind.Enable =
    record plain {
      written = λ r p view word. asked (stored r p view word) (owner_of p) (has_bit 25 word);
      by_write = the_enable;
      bits = λ mask. bit_or mask (2 ^ 25);
    }
behaviour_of kind.Ctrl = record plain { asks_reset = λ word. has_bit 3 word || has_bit 26 word }
behaviour_of kind.Vreset = record inert { asks_pool_reset = λ word. has_bit 26 word }
behaviour_of kind.Eerd =
    record plain {
      written = λ r p view word. stored r p view (bit_and word 0xFFFD);
      bits = λ mask. 0xFFFFFFFF;
    }
behaviour_of kind.W1c =
    record plain { written = λ r p view word. ones_cleared r p (bit_and word view); is_alone = false }
behaviour_of kind.Vfmail =
    record plain {
      leaves = λ r p. mail_read r p.index;
      written = λ r p view word. function_writes r p.index word;
      by_read = λ p. by_mail_read p.index;
      by_write = λ p. by_function p.index;
      is_alone = false;
      is_own = false;
      bits = λ mask. 0xFC;
    }
behaviour_of kind.Pfmail =
    record inert {
      gives = λ r around p. holders r p.index;
      written = λ r p view word. physical_writes r p.index word;
      by_write = λ p. by_physical p.index;
      is_own = false;
    }
behaviour_of kind.Ctrlext =
    record plain {
      written = λ r p view word.
          if has_bit 14 word then resets_reported (stored r p view word) else stored r p view word;
      by_write = λ p. either (the_word p) by_telling;
      is_own = false;
    }
