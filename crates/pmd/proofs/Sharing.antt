-- Lemmas about arenas that share a block number.
use Rattle.std.proofs.Common.{◌≡◌, ℕ, zero, suc, ◌+◌, ◌<◌, inl, inr, Bool, true, false, List, [], ◌∷◌, length, slice_index_or, refl, sym, ◌∙◌, subst, arith}
use Rattle.std.proofs.lemmas.Bool.{cases_eq}
use Rattle.std.proofs.lemmas.Bool.Decides.{nat_tests}
use Rattle.pmd_driver.specs.NicDevice.DmaArena.Numbers.{Numbers, is_own}
use Rattle.pmd.specs.declared.job.Job.{Job}
use Rattle.pmd.specs.Overlap.{arena_at, Share}

arena_is : (jobs : List Job) (at : ℕ) (j : Job) → at < length jobs → (slice_index_or jobs at j).arena ≡ arena_at jobs at
arena_is [] at j inside = absurd (omega (arith, inside))
arena_is (k ∷ jobs) zero j inside = refl
arena_is (k ∷ jobs) (suc at) j inside = arena_is jobs at j (omega (arith, inside))

pub they_share : (jobs : List Job) (x y : ℕ) (i j : Job) → x < length jobs → y < length jobs
    → Share (slice_index_or jobs x i).arena (slice_index_or jobs y j).arena
    → Share (arena_at jobs x) (arena_at jobs y)
they_share jobs x y i j x_in y_in s =
    subst (λ (a : Numbers). Share a (arena_at jobs y)) (arena_is jobs x i x_in)
    (subst (λ (b : Numbers). Share (slice_index_or jobs x i).arena b) (arena_is jobs y j y_in) s)

pub shared_there : (jobs : List Job) (x y : ℕ) (i j : Job) → x < length jobs → y < length jobs
    → Share (arena_at jobs x) (arena_at jobs y)
    → Share (slice_index_or jobs x i).arena (slice_index_or jobs y j).arena
shared_there jobs x y i j x_in y_in s =
    subst (λ (a : Numbers). Share a (slice_index_or jobs y j).arena) (sym (arena_is jobs x i x_in))
    (subst (λ (b : Numbers). Share (arena_at jobs x) b) (sym (arena_is jobs y j y_in)) s)

-- An arena that owns a number belongs to a job.
pub job_there : (jobs : List Job) (at number : ℕ) → is_own (arena_at jobs at) number ≡ true → at < length jobs
job_there [] at number own = absurd (grind (arith, nat_tests, own))
job_there (j ∷ jobs) zero number own = omega arith
job_there (j ∷ jobs) (suc at) number own = omega (arith, job_there jobs at number own)

-- If no job so far shares a number, and the next job doesn't either, no job up to the next one does.
pub none_more : (P : ℕ → Type 0) (n : ℕ) → ((k : ℕ) → k < n → ¬ P k) → ¬ P n → (k : ℕ) → k < n + 1 → ¬ P k
none_more P n below here k less p =
    elim (cases_eq k n) [ inl e ↦ here (subst P e p) | inr ne ↦ below k (omega (arith, less, ne)) p ]

pub not_both : (b : Bool) → b ≡ false → b ≡ true → ⊥
not_both b off on = let e : false ≡ true = sym off ∙ on in cc
