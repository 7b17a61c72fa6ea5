-- Lemmas about the arena returned by a driver that had all blocks of another arena.
use Rattle.std.proofs.Common.{◌≡◌, ℕ, ◌+◌, ◌||◌, nat_lt, Bool, true, false, cond, List, [], refl, ◌∙◌, arith}
use Rattle.std.proofs.lemmas.Bool.Decides.{nat_tests}
use Rattle.pmd_access.specs.NicDevice.DmaArena.Numbers.{Numbers, is_own, is_free}
use Rattle.pmd_access.specs.NicDevice.DmaArena.Whereabouts.{times_in_hand}
use Rattle.pmd_access.specs.DeviceLock.declared.entry.Call.{Call}
use Rattle.pmd_access.proofs.Outside.{times-append}
use Rattle.pmd_access.specs.Named.{AtPort}
use Rattle.pmd_driver.specs.Halted.{Halted, all_out, is_free_or_out}
use Rattle.pmd_driver.specs.Stopping.{Stops, bringing, brought, closed}
use Rattle.pmd_driver.specs.declared.home.Home.{Home}
use Rattle.pmd_driver.proofs.Bringing.{brings_few}
use Rattle.pmd_driver.specs.Blocks.{HasAll, LosesNone}

by_count : (f g : Bool) (t : ℕ) → cond f 1 0 + t ≡ cond g 1 0 → (f || nat_lt 0 t) ≡ g
by_count true true t same = refl
by_count true false t same = absurd (omega (arith, same))
by_count false true t same = grind (arith, nat_tests, same)
by_count false false t same = grind (arith, nat_tests, same)

free_or_out : (a : Numbers) (h : Halted) → HasAll a h [] → (n : ℕ) → is_free_or_out h.arena (all_out h) n ≡ is_free a n
free_or_out a h has n =
    by_count (is_free h.arena n) (is_free a n) (times_in_hand (all_out h) n)
    (omega (arith, has.each n, times-append (all_out h) [] n))

-- The number of lost blocks at an earlier time is at most the number at the end.
lost_before : (q : AtPort) (old new : List Call) (h : Halted) (home : Home) → Stops q old h new home
    → home.lost ≡ 0 → h.way.lost ≡ 0
lost_before q old new h home (mid, off, comes) none =
    let (count, brings, gone) = comes.brings in
    let few = brings_few count (bringing mid (closed h)) (brought new home) brings in
    omega (arith, few.0, none)

pub home_after : (a : Numbers) (q : AtPort) (old new : List Call) (h : Halted) (home : Home) → LosesNone a h
    → Stops q old h new home → ((n : ℕ) → is_own home.arena n ≡ is_own h.arena n)
    → (home.lost ≡ 0 → (n : ℕ) → is_free home.arena n ≡ is_free_or_out h.arena (all_out h) n)
    → ((n : ℕ) → is_own home.arena n ≡ is_own a n) × (home.lost ≡ 0 → (n : ℕ) → is_free home.arena n ≡ is_free a n)
home_after a q old new h home loses stops owns free = (
  λ n. owns n ∙ loses.0 n,
  λ none n. free none n ∙ free_or_out a h (loses.1 (lost_before q old new h home stops none)) n,
)
