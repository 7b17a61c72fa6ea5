-- Lemmas about device steps among marked calls.
use Rattle.std.proofs.Common.{◌≡◌, Bool, false, List, [], ◌∷◌, ◌++◌, length, map, arith}
use Rattle.std.specs.Prelude.{IsTrue, ⊤}
use Rattle.device_lock.specs.NicDevice.DmaArena.Block.{Block}
use Rattle.device_lock.specs.NicDevice.declared.event.Event.{Event}
use Rattle.device_lock.specs.declared.entry.Call.{Call}
use Rattle.device_lock.specs.Events.{is_step}
use Rattle.pmd_access.specs.Made.{AreSteps, StepsWhere}

-- Each of these events is a device step.
abbrev pub AllSteps : List (Event Block) → Type 0
AllSteps [] = ⊤
AllSteps (e ∷ es) = IsTrue (is_step e) × AllSteps es

pub steps-append : (xs ys : List Call) → AreSteps xs → AreSteps ys → AreSteps (xs ++ ys)
steps-append [] ys first then = then
steps-append (x ∷ xs) ys first then = (first.0, steps-append xs ys first.1 then)

mine_is : {P : Type 0} (b : Bool) → b ≡ false → IsTrue b → P
mine_is b mine is = cc

module _ {D : Type 0} (other : D → Bool) where
  -- Steps that all have the same mark, followed by one driver call.
  pub steps_marked : (d : D) (calls : List Call) → AreSteps calls → StepsWhere other (map (λ (c : Call). d) calls) calls
  steps_marked d [] steps = tt
  steps_marked d (c ∷ calls) steps = (λ is. steps.0, steps_marked d calls steps.1)

  pub steps_last : (d own : D) (calls : List Call) (last : Call) → other own ≡ false → AreSteps calls
      → StepsWhere other (map (λ (c : Call). d) calls ++ own ∷ []) (calls ++ last ∷ [])
  steps_last d own [] last mine steps = (λ is. mine_is (other own) mine is, tt)
  steps_last d own (c ∷ calls) last mine steps = (λ is. steps.0, steps_last d own calls last mine steps.1)

  -- Two successive lists of marked calls.
  pub steps_both : (ds es : List D) (ms ns : List Call) → length ds ≡ length ms → StepsWhere other ds ms
      → StepsWhere other es ns → StepsWhere other (ds ++ es) (ms ++ ns)
  steps_both [] es [] ns long first then = then
  steps_both [] es (m ∷ ms) ns long first then = absurd (omega (arith, long))
  steps_both (d ∷ ds) es [] ns long first then = absurd (omega (arith, long))
  steps_both (d ∷ ds) es (m ∷ ms) ns long first then =
      (first.0, steps_both ds es ms ns (omega (arith, long)) first.1 then)

-- The property carries over to marks of another type.
pub steps_as : {D E : Type 0} (other : D → Bool) (none : E → Bool) (f : D → E) (ds : List D) (calls : List Call)
    → ((d : D) → IsTrue (none (f d)) → IsTrue (other d)) → StepsWhere other ds calls → StepsWhere none (map f ds) calls
steps_as other none f [] calls alike steps = steps
steps_as other none f (d ∷ ds) [] alike steps = tt
steps_as other none f (d ∷ ds) (c ∷ calls) alike steps =
    (λ is. steps.0 (alike d is), steps_as other none f ds calls alike steps.1)
