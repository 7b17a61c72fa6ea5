-- Lemmas about columns. A column is the list of one register's values, for all queues' sides or for all virtual
-- functions.
use Rattle.std.proofs.Common.{◌≡◌, ℕ, List, map, refl, sym, ◌∙◌, get_or}
use Rattle.std.proofs.Math.ListN.{set}
use Rattle.std.proofs.lemmas.List.{map-set}
use Rattle.std.proofs.Math.Seq.{map-set_same}
use Rattle.intr_unit.specs.Interrupts.{Interrupts}
use Rattle.register_file.specs.declared.side.ReceiveSide.{ReceiveSide}
use Rattle.register_file.specs.declared.side.TransmitSide.{TransmitSide}

-- Writing an element of a column back to its own position leaves the column unchanged.
abbrev pub IsWrittenBack : {A B : Type 0} → (A → B) → Type 0
IsWrittenBack {A} f = (xs : List A) (i : ℕ) (d : A) → set (map f xs) i (f (get_or xs i d)) ≡ map f xs

written_back : {A B : Type 0} (f : A → B) → IsWrittenBack f
written_back f xs i d = sym (map-set f xs i (get_or xs i d)) ∙ map-set_same f xs i (get_or xs i d) d refl

pub receive-base_low : IsWrittenBack (λ (q : ReceiveSide). q.base_low)
receive-base_low = written_back (λ q. q.base_low)

pub receive-base_high : IsWrittenBack (λ (q : ReceiveSide). q.base_high)
receive-base_high = written_back (λ q. q.base_high)

pub receive-length : IsWrittenBack (λ (q : ReceiveSide). q.length)
receive-length = written_back (λ q. q.length)

pub receive-head : IsWrittenBack (λ (q : ReceiveSide). q.head)
receive-head = written_back (λ q. q.head)

pub receive-control : IsWrittenBack (λ (q : ReceiveSide). q.control)
receive-control = written_back (λ q. q.control)

pub receive-tail : IsWrittenBack (λ (q : ReceiveSide). q.tail)
receive-tail = written_back (λ q. q.tail)

pub receive-enable : IsWrittenBack (λ (q : ReceiveSide). q.enable)
receive-enable = written_back (λ q. q.enable)

pub receive-wanted : IsWrittenBack (λ (q : ReceiveSide). q.wanted)
receive-wanted = written_back (λ q. q.wanted)

pub transmit-base_low : IsWrittenBack (λ (q : TransmitSide). q.base_low)
transmit-base_low = written_back (λ q. q.base_low)

pub transmit-base_high : IsWrittenBack (λ (q : TransmitSide). q.base_high)
transmit-base_high = written_back (λ q. q.base_high)

pub transmit-length : IsWrittenBack (λ (q : TransmitSide). q.length)
transmit-length = written_back (λ q. q.length)

pub transmit-head : IsWrittenBack (λ (q : TransmitSide). q.head)
transmit-head = written_back (λ q. q.head)

pub transmit-tail : IsWrittenBack (λ (q : TransmitSide). q.tail)
transmit-tail = written_back (λ q. q.tail)

pub transmit-enable : IsWrittenBack (λ (q : TransmitSide). q.enable)
transmit-enable = written_back (λ q. q.enable)

pub transmit-writeback_low : IsWrittenBack (λ (q : TransmitSide). q.writeback_low)
transmit-writeback_low = written_back (λ q. q.writeback_low)

pub transmit-writeback_high : IsWrittenBack (λ (q : TransmitSide). q.writeback_high)
transmit-writeback_high = written_back (λ q. q.writeback_high)

pub transmit-wanted : IsWrittenBack (λ (q : TransmitSide). q.wanted)
transmit-wanted = written_back (λ q. q.wanted)

pub group-causes : IsWrittenBack (λ (q : Interrupts). q.causes)
group-causes = written_back (λ q. q.causes)

pub group-enabled : IsWrittenBack (λ (q : Interrupts). q.enabled)
group-enabled = written_back (λ q. q.enabled)

pub group-auto_clear : IsWrittenBack (λ (q : Interrupts). q.auto_clear)
group-auto_clear = written_back (λ q. q.auto_clear)

pub group-auto_mask : IsWrittenBack (λ (q : Interrupts). q.auto_mask)
group-auto_mask = written_back (λ q. q.auto_mask)

pub group-reported : IsWrittenBack (λ (q : Interrupts). q.reported)
group-reported = written_back (λ q. q.reported)

-- Rules for setting a register on a receive side.
pub ruleset receive_columns = (
  map-set,
  receive-base_low,
  receive-base_high,
  receive-length,
  receive-head,
  receive-control,
  receive-tail,
  receive-enable,
  receive-wanted,
)

-- Rules for setting a register on a transmit side.
pub ruleset transmit_columns = (
  map-set,
  transmit-base_low,
  transmit-base_high,
  transmit-length,
  transmit-head,
  transmit-tail,
  transmit-enable,
  transmit-writeback_low,
  transmit-writeback_high,
  transmit-wanted,
)

-- Rules for setting a register in an interrupt group.
pub ruleset group_columns = (
  map-set,
  group-causes,
  group-enabled,
  group-auto_clear,
  group-auto_mask,
  group-reported,
)
