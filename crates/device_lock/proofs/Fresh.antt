-- A lemma about passes without calls.
use Rattle.std.proofs.Common.{◌≡◌, ℕ, ◌+◌, List, [], ◌∷◌, ◌++◌, length, ◌∙◌, ap, arith}
use Rattle.device_lock.specs.Pass.{PassValue, fresh_pass, AreFresh}

pub fresh_more : (bench tag : ℕ) (ps : List PassValue) (p : PassValue) → AreFresh bench tag ps
    → p ≡ fresh_pass bench (tag + length ps) → AreFresh bench tag (ps ++ p ∷ [])
fresh_more bench tag [] p fresh is = (is ∙ ap (λ n. fresh_pass bench n) (omega arith), tt)
fresh_more bench tag (q ∷ ps) p fresh is =
    (fresh.0, fresh_more bench (tag + 1) ps p fresh.1 (is ∙ ap (λ n. fresh_pass bench n) (omega arith)))
