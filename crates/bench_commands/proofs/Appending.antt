-- Lemmas about texts that are written one after the other.
use Rattle.std.proofs.Common.{sym, ◌∙◌, ap, ℕ, List, [], ◌++◌, append-nil, append_assoc, Option, Some, None}
use Rattle.std.specs.Io.KnownBytes.{Appends}

pub Appends-both : (a b c : Option (List ℕ)) (x y : List ℕ) → Appends a b x → Appends b c y → Appends a c (x ++ y)
Appends-both None b c x y first second = tt
Appends-both (Some p) None c x y first second = absurd first
Appends-both (Some p) (Some q) None x y first second = absurd second
Appends-both (Some p) (Some q) (Some r) x y first second = second ∙ ap (λ t. t ++ y) first ∙ append_assoc p x y

pub Appends-none : (a : Option (List ℕ)) → Appends a a []
Appends-none None = tt
Appends-none (Some p) = sym (append-nil p)
