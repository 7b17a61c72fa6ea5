-- Lemmas about successive driver calls through one `Nic`.
use Rattle.std.proofs.Common.{◌≡◌, Option, None, Result, Ok, Err, IfSome, IfErr, refl, ◌∙◌}
use Rattle.pmd_access.specs.Asks.{Asks, fault_in}
use Rattle.pmd_access.specs.Begun.{BeganAs, Origin}
use Rattle.pmd_access.specs.Refusals.{CanFail, Refusals}
use Rattle.pmd_access.specs.declared.fault.PmdFault.{PmdFault}

-- A property of the fault in a result holds if and only if it holds of the result's error.

pub fault_by : {A : Type 0} (P : PmdFault → Type 0) (r : Result A PmdFault) → IfSome (fault_in r) P → IfErr r P
fault_by P (Ok x) by = tt
fault_by P (Err f) by = by

pub by_fault : {A : Type 0} (P : PmdFault → Type 0) (r : Result A PmdFault) → IfErr r P → IfSome (fault_in r) P
by_fault P (Ok x) by = tt
by_fault P (Err f) by = by

module _ {N : Type 0} {known : N → Origin → Type 0} {may : N → Refusals} where
  pub asks_none : {n : N} → Asks known may None n n
  asks_none = record { began = λ o is. is; refuses = refl; refusal = tt }

  pub asks_then : {f h : Option PmdFault} {l m n : N} → Asks known may f l m → Asks known may h m n
      → Asks known may h l n
  asks_then p q = record {
    began = λ o is. q.began o (p.began o is);
    refuses = q.refuses ∙ p.refuses;
    refusal = q.refusal;
  }

  -- After a fault, the facts still hold for the next call.
  pub asks_on : {f : Option PmdFault} {m n : N} → Asks known may f m n → Asks known may None m n
  asks_on p = record { began = p.began; refuses = p.refuses; refusal = tt }

  -- Builds `Asks` from three separate clauses of a call.
  pub asks_of : {A : Type 0} (r : Result A PmdFault) {m n : N} → BeganAs known m n → may n ≡ may m
      → IfErr r (λ f. CanFail (may n) f) → Asks known may (fault_in r) m n
  asks_of r {m} {n} began refuses refusal =
      record { began = began; refuses = refuses; refusal = by_fault (λ f. CanFail (may n) f) r refusal }
