-- Lemmas about the text that `{:08x}` prints.
use Rattle.std.proofs.Common.{arith, ◌∙◌, ap, ◌≡◌, ℕ, ◌-◌, ◌^◌, List, [], ◌++◌, length, false, append-nil}
use Rattle.std.specs.Prelude.{replicate}
use Rattle.std.specs.Fmt.{digits, format_spec, padded_integral, char_count}

framed : (a b : ℕ) (ds : List ℕ) → a ≡ b → replicate a 48 ++ (ds ++ []) ≡ replicate b 48 ++ ds
framed a b ds same = ap (λ k. replicate k 48 ++ (ds ++ [])) same ∙ ap (λ xs. replicate b 48 ++ xs) (append-nil ds)

pub padded_integral-hex : (places n : ℕ) (prefix : List ℕ)
    → padded_integral (format_spec 32 0 4 places (2 ^ 64 - 1)) false prefix (digits 16 false n)
    ≡ replicate (places - length (digits 16 false n)) 48 ++ digits 16 false n
unfolding padded_integral char_count
padded_integral-hex places n prefix = framed _ _ (digits 16 false n) (omega arith)
