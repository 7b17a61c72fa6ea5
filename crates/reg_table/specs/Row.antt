use Rattle.std.specs.Prelude.{ℕ, List}
use Rattle.reg_table.specs.declared.bank.Bank.{Bank}
use Rattle.reg_table.specs.declared.kind.Kind.{Kind}

-- The table's entry for a row: its name, the number of its registers, what an access does, the part of the device that
-- the row belongs to, the bits that a write can change, and the word after a reset.
pub record Row : Type 0 where
  pub name : List ℕ
  pub count : ℕ
  pub kind : Kind
  pub bank : Bank
  pub mask : ℕ
  pub reset : ℕ

abbrev pub row : List ℕ → ℕ → Kind → Bank → ℕ → ℕ → Row
row name count kind bank mask reset =
    record { name = name; count = count; kind = kind; bank = bank; mask = mask; reset = reset }
