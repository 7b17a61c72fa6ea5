-- Lemmas about what a reset of rows at an index does.
use Rattle.std.proofs.Common.{◌≡◌, ℕ, Bool, ◌==◌, ◌&&◌, ◌||◌, List, [], ◌∷◌, refl, ap, ◌∙◌, arith}
use Rattle.register_file.specs.PoolReset.{Renewal, takes, has_renewal, word_reset, rows_reset}
use Rattle.register_laws.specs.Prelude.{Place, Registers, number_of}
use Rattle.register_laws.specs.Footprint.{Footprint}
use Rattle.register_laws.proofs.Renewed.{IsRenewed, any_of, of_renewal, renewed-each, renewed-word}

distribute : (row at bit rest : Bool)
    → (((row && at) && bit) || (rest && at)) ≡ (((row && bit) || rest) && at)
distribute row at bit rest = grind arith

-- Renewals at an index.
abbrev pub at_rows : List Renewal → ℕ → Footprint
at_rows table index = any_of (of_renewal index) table

pub rows_words : (table : List Renewal) (index : ℕ) (p : Place) (bit : ℕ)
    → (at_rows table index).bits p bit ≡ (has_renewal table p.row bit && index == p.index)
rows_words [] index p bit = refl
rows_words (x ∷ xs) index p bit =
    let first = number_of x.row == number_of p.row in
    let same = index == p.index in
    ap (λ b. ((first && same) && takes x bit) || b) (rows_words xs index p bit)
    ∙ distribute first same (takes x bit) (has_renewal xs p.row bit)

pub renewed-rows : (table : List Renewal) (r : Registers) (index : ℕ)
    → IsRenewed (at_rows table index) r (rows_reset r table index)
renewed-rows table r index = renewed-each (of_renewal index) (word_reset index) (renewed-word index) table r
