-- A footprint that contains all bits of a word.
use Rattle.std.specs.Prelude.{ℕ, IsTrue}
use Rattle.register_laws.specs.Prelude.{Place}
use Rattle.register_laws.specs.Footprint.{Footprint}

abbrev pub HasWord : Footprint → Place → Type 0
HasWord f p = (bit : ℕ) → IsTrue (f.bits p bit)
