-- The holder of a mailbox keeps it, until one of the few writes that end this.
use Rattle.std.specs.Prelude.{ℕ, ◌≡◌, ◌<◌, ◌||◌, ⊤, IsTrue, IsFalse}
use Rattle.nic_device.specs.declared.event.Event.TheVariants as event
use Rattle.datasheet_laws.specs.Prelude.{Block, Ctrl, Event, IsSound, Pfmailbox, Place, Pvfctrl, Pvfmailbox, Register}
use Rattle.datasheet_laws.specs.Prelude.{State, after, has_bit, named, place}
use Rattle.datasheet_laws.specs.SharedMailbox.{function_mail}
use Rattle.datasheet_laws.specs.Shown.{reads_one}

-- A write doesn't end the function's hold on its mailbox. It is neither a write to PVFMAILBOX[v] with bit 2 clear nor a
-- write to PFMAILBOX[v] with bit 4 set. It requests no reset of the device or of the pool.
pub record SparesFunction (v : ℕ) (p : Place) (word : ℕ) : Type 0 where
  pub own : p ≡ place Pvfmailbox v → IsTrue (has_bit 2 word)
  pub physical : p ≡ place Pfmailbox v → IsFalse (has_bit 4 word)
  pub control : p ≡ place Ctrl 0 → IsFalse (has_bit 3 word || has_bit 26 word)
  pub pool : p ≡ place Pvfctrl v → IsFalse (has_bit 26 word)

-- A write doesn't end the physical function's hold: it isn't a write to PFMAILBOX[v] with bit 3 clear, and it requests
-- no reset of the device.
pub record SparesPhysical (v : ℕ) (p : Place) (word : ℕ) : Type 0 where
  pub physical : p ≡ place Pfmailbox v → IsTrue (has_bit 3 word)
  pub control : p ≡ place Ctrl 0 → IsFalse (has_bit 3 word || has_bit 26 word)

-- An event isn't a write, or is a write of this kind.
abbrev pub IsSparing : (Place → ℕ → Type 0) → State → Event Block → Type 0
IsSparing spares s (event.Write port number word) =
    (p : Place) (view : ℕ) → named s port number ≡ Register p view → spares p word
IsSparing spares s other = ⊤

-- The function keeps a mailbox that it holds through every event except a write that ends the hold, and so does the
-- physical function.
abbrev pub FunctionHoldsOn : Type 0
FunctionHoldsOn =
    (s : State) → IsSound s → (v : ℕ) → v < 64 → (e : Event Block) → IsSparing (SparesFunction v) s e →
    IsTrue (reads_one s (function_mail v) 2) → IsTrue (reads_one (after s e) (function_mail v) 2)

abbrev pub PhysicalHoldsOn : Type 0
PhysicalHoldsOn =
    (s : State) → IsSound s → (v : ℕ) → v < 64 → (e : Event Block) → IsSparing (SparesPhysical v) s e →
    IsTrue (reads_one s (function_mail v) 3) → IsTrue (reads_one (after s e) (function_mail v) 3)
