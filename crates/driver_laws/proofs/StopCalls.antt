-- Lemmas: the calls of a driver's stop, including the device steps between them, meet the definition of a stop's calls.
-- They take blocks back only after both sides have read as off. The same is true of the first calls of a stop, up to
-- any point.
use Rattle.driver_laws.proofs.CallKinds.{asks_end, bringing_ends, step_ends, switched_off_asks, unswitched_asks}
use Rattle.pmd_driver.specs.Stopping.{ComesHome, IsLeftDuring, StopFails, Stops, bringing, brought}
use Rattle.pmd_driver.specs.declared.home.Home.{Home}
use Rattle.driver_laws.proofs.Prelude.{AreMadeOf, Asks, AtPort, Block, Call, Each, Ends, EndsOnceOff, Event, Halted}
use Rattle.driver_laws.proofs.Prelude.{IsAsking, IsEnding, IsStopped, IsSwitched, List, None, Option, PmdFault, Rest}
use Rattle.driver_laws.proofs.Prelude.{Some, TakesOnceOff, [], after, ap, append_assoc, append_cancel_left, arith}
use Rattle.driver_laws.proofs.Prelude.{closed, common_steps, false, inl, inr, left, none_made, now, one_begins, refl}
use Rattle.driver_laws.proofs.Prelude.{some_made, sym, then_made, ⊎_elim, ◌++◌, ◌∙◌, ◌∷◌, ◌≡◌}
use Rattle.driver_laws.proofs.Shifted.{Shift, Shifts, given, joined, mapped, switched, then}
use Rattle.pmd_driver.specs.declared.start.Rest.TheVariants as rest

module _ (P : Event Block → Type 0) where
  each_first : (cs ds : List Call) → Each (λ c. P c.event) (cs ++ ds) → Each (λ c. P c.event) cs
  each_first [] ds are = tt
  each_first (c ∷ cs) ds are = (are.0, each_first cs ds are.1)

  pub made_first : (old new since rest : List Call) → AreMadeOf P old new → new ≡ (old ++ since) ++ rest
      → Each (λ c. P c.event) since
  made_first old new since rest (calls, is, are) all =
      grind (arith, common_steps, each_first, append_cancel_left, append_assoc)

  pub first_made : (old now new since rest : List Call) → AreMadeOf P old new → now ≡ old ++ since → new ≡ now ++ rest
      → AreMadeOf P old now
  first_made old now new since rest x some all =
      (since, some, made_first old new since rest x (all ∙ ap (λ (l : List Call). l ++ rest) some))

-- Both sides have read as off, and calls of a stop followed.
abbrev pub once_of : (q : AtPort) (old new mid off : List Call) → Asks q old mid → IsSwitched q mid off false 1000
    → Ends q off new → EndsOnceOff q old new
once_of q old new mid off asks on ends = record { mid = mid; off = off; asks = asks; switched = on; ends = ends }

-- Until both sides are off, the calls only disable sides or wait for that.
pub off_asks : (q : AtPort) (old new : List Call) (x : EndsOnceOff q old new) → Asks q old x.off
off_asks q old new x = then_made (IsAsking q) old x.mid x.off x.asks (switched_off_asks q x.mid x.off x.switched)

pub takes_ends : (q : AtPort) (old new : List Call) → TakesOnceOff q old new → Ends q old new
takes_ends q old new (inl asks) = asks_end q old new asks
takes_ends q old new (inr x) =
    then_made (IsEnding q) old x.off new (asks_end q old x.off (off_asks q old new x)) x.ends

module _ (q : AtPort) (old now new since rest : List Call) (some : now ≡ old ++ since) (all : new ≡ now ++ rest) where
  pub first_takes : TakesOnceOff q old new → TakesOnceOff q old now
  first_takes (inl asks) = inl (first_made (IsAsking q) old now new since rest asks some all)
  first_takes (inr x) =
      ⊎_elim (λ b. inl (first_made (IsAsking q) old now x.off since b.0 (off_asks q old new x) some (sym b.1)))
      (λ b. inr (once_of q old now x.mid x.off x.asks x.switched
      (first_made (IsEnding q) x.off now new b.0 rest x.ends (sym b.1) all)))
      (one_begins now rest x.off x.ends.0 (sym all ∙ x.ends.1))

-- Lemmas about the calls after a switch-off.

module _ (q : AtPort) (old : List Call) (h : Halted) (new : List Call) where
  pub home_ends : (home : Home) → ComesHome old h new home → Ends q old new
  home_ends home comes = bringing_ends q comes.brings.0 (bringing old h) (brought new home) comes.brings.1

  pub during_ends : (f : PmdFault) (left : Halted) → IsLeftDuring f old h new left → Ends q old new
  during_ends f left (refusal, is, (count, mid, some, more, arena, way, waits), same) =
      then_made (IsEnding q) old mid.made new (bringing_ends q count (bringing old h) mid some)
      (some_made (IsEnding q) (step_ends q) mid.made new more)

-- Lemmas: blocks are taken back only after a switch-off. This is true of a stop and of a failed stop, and so of a
-- driver that was started and later stopped.
module _ (q : AtPort) (old : List Call) (h : Halted) (new : List Call) where
  off_takes : (off : List Call) → IsSwitched q old off false 1000 → Ends q off new → TakesOnceOff q old new
  off_takes off switched ends = inr (once_of q old new old off (none_made (IsAsking q) old old refl) switched ends)

  pub stop_takes : (home : Home) → Stops q old h new home → TakesOnceOff q old new
  stop_takes home (off, switched, comes) = off_takes off switched (home_ends q off (closed h) new home comes)

  pub failed_takes : (f : PmdFault) (left : Halted) → StopFails f q old h new left → TakesOnceOff q old new
  failed_takes f left (inl (is, same, after)) = inl (none_made (IsAsking q) old new same)
  failed_takes f left (inr (inl (fails, same))) = inl (unswitched_asks f q old new fails)
  failed_takes f left (inr (inr (off, switched, during))) =
      off_takes off switched (during_ends q off _ new f left during)

  pub stopped_takes : (left : Rest) (late : Option PmdFault) → IsStopped q old h new left late → TakesOnceOff q old new
  stopped_takes (rest.Home home) None x = stop_takes home x
  stopped_takes (rest.Running p) (Some f) (after, is, fails) = failed_takes f after fails
  stopped_takes left late x = absurd x

  pub stopped_ends : (left : Rest) (late : Option PmdFault) → IsStopped q old h new left late → Ends q old new
  stopped_ends left late x = takes_ends q old new (stopped_takes left late x)

-- If one list of calls takes blocks back only after a switch-off, and so does the next list, the two lists together do
-- too.
pub takes_then : (q : AtPort) (old mid new : List Call) → TakesOnceOff q old mid → TakesOnceOff q mid new
    → TakesOnceOff q old new
takes_then q old mid new (inl asks) (inl more) = inl (then_made (IsAsking q) old mid new asks more)
takes_then q old mid new (inl asks) (inr y) =
    inr (once_of q old new y.mid y.off (then_made (IsAsking q) old mid y.mid asks y.asks) y.switched y.ends)
takes_then q old mid new (inr x) more =
    inr (once_of q _ _ _ _ x.asks x.switched (then_made (IsEnding q) x.off mid new x.ends (takes_ends q mid new more)))

-- Lemmas: the point where both sides were off depends only on the added calls, whatever calls came before.

pub of_kind : (P : Event Block → Type 0) → Shift (λ o n. AreMadeOf P o n)
of_kind P old new (calls, is, are) = given calls is (λ front. (calls, refl, are))

pub once_off_shift : (q : AtPort) (old new : List Call) (x : EndsOnceOff q old new) → (off : List Call)
    × (x.off ≡ old ++ off) × Shifts (λ o n. (y : EndsOnceOff q o n) × (y.off ≡ o ++ off)) old new
once_off_shift q old new x =
    let off = then (of_kind (IsAsking q)) (switched q false 1000) old x.off (x.mid, x.asks, x.switched) in (
      off.since,
      off.made,
      joined {R = λ o m. (y : (k : List Call) × Asks q o k × IsSwitched q k m false 1000) × (m ≡ o ++ off.since)}
          (given off.since off.made (λ front. (off.following front, refl))) (of_kind (IsEnding q) x.off new x.ends)
          (λ o m n y ends. (once_of q o n y.0.0 m y.0.1 y.0.2 ends, y.1)),
    )

pub takes_shift : (q : AtPort) → Shift (λ o n. TakesOnceOff q o n)
takes_shift q old new (inl asks) = mapped (of_kind (IsAsking q) old new asks) (λ o n x. inl x)
takes_shift q old new (inr x) = let (at, is, shifts) = once_off_shift q old new x in mapped shifts (λ o n y. inr y.0)
