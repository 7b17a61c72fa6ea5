-- What a note stores about a block.
use Rattle.std.specs.Prelude.{ℕ, List}
use Rattle.nic_device.specs.declared.notes_holding.Parts.{Parts}
use Rattle.nic_device.specs.declared.notes_holding.Parts.TheVariants.{Own, Common}

-- The block's number, the number of zero bytes after the stored bytes, and the stored bytes.
pub record Held : Type 0 where
  pub number : ℕ
  pub zeros : ℕ
  pub kept : List ℕ

abbrev pub held_of : Parts → Held
held_of (Own number zeros kept) = record { number = number; zeros = zeros; kept = kept }
held_of (Common number zeros kept) = record { number = number; zeros = zeros; kept = kept.value }
