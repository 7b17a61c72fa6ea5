-- Lemmas: a history that passes close contains the calls of each of these passes.
use Rattle.driver_laws.proofs.Prelude.{Call, Entry, List, [], ap, append_assoc, around, arith, calls_joined, calls_of}
use Rattle.driver_laws.proofs.Prelude.{calls_own, common_steps, refl, same_from_push, subst, sym, ℕ, ⊎_elim, ◌++◌, ◌∙◌}
use Rattle.driver_laws.proofs.{Lent.last_or_none, Prelude.◌∷◌, Prelude.◌≡◌, Prelude.◌≢◌}
use Rattle.driver_laws.specs.Closed.{CallsStand, EndOwn, UpTo}
use Rattle.pmd_driver.specs.DeviceLock.Closing.{StandsIn}

pub isnt_none : {A : Type 0} (xs : List A) (x : A) (more : List A) → xs ++ x ∷ more ≢ []
isnt_none [] x more is = cc
isnt_none (y ∷ xs) x more is = cc

-- If a pass made these calls and perhaps more, the history has an initial part in which it made exactly these calls.
-- Unless it is empty, the part ends with an entry of the pass.
up_to : (tag : ℕ) (h : List Entry) (calls more : List Call) → calls_of tag h ≡ calls ++ more
    → (u : UpTo tag h calls) × EndOwn tag u.done
up_to tag h calls more is =
    ⊎_elim
    (λ none.
    (record { done = []; rest = h; all = refl; made = sym none }, λ before e both. absurd (isnt_none before e [] both)))
    (λ (l : (before : List Call) × (c : Call) × (calls ≡ before ++ c ∷ [])).
    let (front, c, ends) = l in
    let x = around tag h front c more
    (is ∙ ap (λ (l : List Call). l ++ more) ends ∙ append_assoc front (c ∷ []) more) in (
      record {
        done = x.before ++ x.entry ∷ [];
        rest = x.following;
        all = append_assoc x.before (x.entry ∷ []) x.following ∙ x.all;
        made = grind (arith, common_steps, calls_joined, calls_own);
      },
      λ before e both. ap (λ (f : Entry). f.pass) (same_from_push before x.before e x.entry both).1 ∙ x.own,
    ))
    (last_or_none calls)

pub calls_stand : CallsStand
calls_stand bench count h ps pass closes x =
    let (k, low, is) = x.among in
    let stands : calls_of x.later.tag h ≡ x.later.calls = subst (StandsIn h) is (closes.stand k x.later low) in
    up_to pass.tag h pass.calls x.more (ap (λ (tag : ℕ). calls_of tag h) (sym x.tag) ∙ stands ∙ x.calls)
