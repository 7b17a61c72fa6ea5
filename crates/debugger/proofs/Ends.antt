-- Lemmas about the step at which a run ends.
use Rattle.std.proofs.Common.{◌≡◌, ◌⊎◌, refl, ◌∙◌, ap, ℕ, zero, suc, ◌+◌, ◌<◌, Bool, true, false, if◌then◌else◌, List, arith, inl, inr}
use Rattle.std.proofs.lemmas.Bool.Decides.{eqb_tells}
use Rattle.nic_device.specs.declared.Config.{Config}
use Rattle.machine.specs.Machine.{machine_at}
use Rattle.program.specs.Listing.{Listing}
use Rattle.debugger.specs.Breakpoints.{has_break}
use Rattle.debugger.specs.Laws.{EndsFirst, RunsEndFirst}
use Rattle.debugger.specs.Running.{stops_at, run_on}

module _ (p : Listing) (c : Config) (b : List ℕ) where
  ends-later : (n limit r : ℕ) → EndsFirst p c b (suc n) limit r → (r ≡ n + suc limit)
      ⊎ ((stops_at p c r ≡ true) ⊎ ((n < r) × (has_break b (machine_at p c r).pc ≡ true)))
  ends-later n limit r rest = elim rest.ends [
    | inl at_limit ↦ inl (omega arith)
    | inr other ↦ elim other [
      | inl stopped ↦ inr (inl stopped)
      | inr meets ↦ inr (inr (omega (arith, meets.0), meets.1))
    ]
  ]

  one-more : (n limit : ℕ) (stopped meets : Bool) → stops_at p c n ≡ stopped
      → has_break b (machine_at p c (suc n)).pc ≡ meets
      → EndsFirst p c b (suc n) limit (run_on p c b (suc n) limit)
      → EndsFirst p c b n (suc limit) (if stopped then n else if meets then suc n else run_on p c b (suc n) limit)
  one-more n limit true meets is at rest = record {
    from = omega arith;
    up_to = omega arith;
    goes = λ m low high. absurd (omega arith);
    passes = λ m low high. absurd (omega arith);
    ends = inr (inl is);
  }
  one-more n limit false true is at rest = record {
    from = omega arith;
    up_to = omega arith;
    goes = λ m low high. (let same : m ≡ n = omega arith in ap (stops_at p c) same ∙ is);
    passes = λ m low high. absurd (omega arith);
    ends = inr (inr (omega arith, at));
  }
  one-more n limit false false is at rest = record {
    from = omega (arith, rest.from);
    up_to = omega (arith, rest.up_to);
    goes = λ m low high. elim (eqb_tells m n) [
      | inl (test, same) ↦ ap (stops_at p c) same ∙ is
      | inr (test, other) ↦ rest.goes m (omega arith) high
    ];
    passes = λ m low high. elim (eqb_tells m (suc n)) [
      | inl (test, same) ↦ ap (λ k. has_break b (machine_at p c k).pc) same ∙ at
      | inr (test, other) ↦ rest.passes m (omega arith) high
    ];
    ends = ends-later n limit (run_on p c b (suc n) limit) rest;
  }

  ends : (n limit : ℕ) → EndsFirst p c b n limit (run_on p c b n limit)
  unfolding run_on
  ends n zero = record {
    from = omega arith;
    up_to = omega arith;
    goes = λ m low high. absurd (omega arith);
    passes = λ m low high. absurd (omega arith);
    ends = inl (omega arith);
  }
  ends n (suc limit) =
      one-more n limit (stops_at p c n) (has_break b (machine_at p c (suc n)).pc) refl refl (ends (suc n) limit)

pub runs_end_first : RunsEndFirst
runs_end_first = ends
