-- Lemma: a list with fewer than one element is empty.
use Rattle.std.proofs.Common.{◌≡◌, ◌<◌, List, [], ◌∷◌, length, refl, arith}

pub emptied : {A : Type 0} → (l : List A) → length l < 1 → l ≡ []
emptied [] none = refl
emptied (x ∷ l) none = absurd (omega (arith, none))
