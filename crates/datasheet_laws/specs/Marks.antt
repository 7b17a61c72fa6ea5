-- Which bits messages reported (the reported marks), and these marks after events.
use Rattle.std.specs.Prelude.{ℕ, ◌≡◌, ◌≢◌, ◌<◌, ◌==◌, Bool, ◌&&◌, ◌||◌, ⊤, IsFalse}
use Rattle.nic_device.specs.declared.event.Event.TheVariants as event
use Rattle.datasheet_laws.specs.Prelude.{Block, Ctrl, Event, Group, IsEvent, IsSound, Place, Register, State, after}
use Rattle.datasheet_laws.specs.Prelude.{has_bit, named, place, reported_by}
use Rattle.datasheet_laws.specs.Lasting.{IsPoolReset}
use Rattle.datasheet_laws.specs.Names.{IsGroup, bits_in}
use Rattle.datasheet_laws.specs.Shown.{bit_of, reads_one}
use Rattle.datasheet_laws.specs.Steps.{control_address, HasGroup, IsDue, NoneIsDueBelow}

-- Whether a bit is marked as reported. A marked bit isn't due, so no message step reports it.
abbrev pub is_reported : State → Group → ℕ → Bool
is_reported s g bit = has_bit bit (reported_by s.registers g)

-- Exactly these bits are marked afterwards, except those with a cause or mask that then reads 0.
abbrev pub MarksThen : (new : State) → Group → (ℕ → Bool) → Type 0
MarksThen new g marked =
    (bit : ℕ) → bit < bits_in g →
    is_reported new g bit ≡ (marked bit && ((bit_of new g bit).cause && (bit_of new g bit).mask))

-- A write requests no reset of the device or of the function's pool.
pub record SparesMarks (g : Group) (p : Place) (word : ℕ) : Type 0 where
  pub control : p ≡ place Ctrl 0 → IsFalse (has_bit 3 word || has_bit 26 word)
  pub pool : IsPoolReset g p → IsFalse (has_bit 26 word)

-- An event is neither a write that requests such a reset nor a message of the group.
abbrev pub SparesReported : State → Group → Event Block → Type 0
SparesReported s g (event.Write port number word) =
    (p : Place) (view : ℕ) → named s port number ≡ Register p view → SparesMarks g p word
SparesReported s g (event.IntStep other) = other ≢ g
SparesReported s g other = ⊤

-- An event that isn't a message of the group, nor a write that requests a reset of the device or of the function's
-- pool, marks no bit. It removes no mark of a bit with a cause and mask that read 1 afterwards.
abbrev pub MarksLast : Type 0
MarksLast =
    (s : State) → IsSound s → (g : Group) → IsGroup g → (e : Event Block) → IsEvent e → SparesReported s g e →
    MarksThen (after s e) g (λ bit. is_reported s g bit)

-- A message marks the bit that it reports, and no other.
abbrev pub MessagesMark : Type 0
MessagesMark =
    (s : State) → IsSound s → (g : Group) → HasGroup s g → IsFalse (reads_one s control_address 2) →
    (bit vector : ℕ) → IsDue s g bit vector → NoneIsDueBelow s g bit →
    MarksThen (after s (event.IntStep g)) g (λ other. is_reported s g other || other == bit)
