-- Lemmas about the kinds of clap errors.
use Rattle.std.proofs.Common.{[], ◌∷◌, inl, inr}
use Rattle.clap.specs.Kinds.{HasKind, Kinds, or_else}
use Rattle.clap.specs.declared.error.Error.{Error}

-- If an error has one of the kinds in a list, it still has one after an empty list is replaced by other kinds.
pub HasKind-or_else : (kinds others : Kinds) (e : Error) → HasKind kinds e → HasKind (or_else kinds others) e
HasKind-or_else [] others e (inl memory) = inl memory
HasKind-or_else [] others e (inr among) = absurd among
HasKind-or_else (k ∷ ks) others e has = has
