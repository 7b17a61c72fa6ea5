-- Lemmas about where a driver's blocks are after each of its calls.
use Rattle.std.proofs.Common.{◌≡◌, ◌≢◌, ℕ, ◌+◌, ◌≤◌, ◌⊎◌, inl, inr, true, false, cond, List, ◌∷◌, ◌++◌, sym, subst, arith}
use Rattle.std.proofs.lemmas.Bool.{cases_eq}
use Rattle.pmd_access.specs.NicDevice.DmaArena.Numbers.{Numbers, is_own, is_free}
use Rattle.pmd_access.specs.NicDevice.DmaArena.Whereabouts.{times_in_hand}
use Rattle.pmd_access.specs.Home.{AreOut}
use Rattle.pmd_access.proofs.Outside.{times_first, times_rest, times-append, out_fewer, out_exchanged}
use Rattle.pmd_rx.specs.Keeping.{Keeps, blocks_out}
use Rattle.pmd_driver.specs.Running.{Running, IsUp, kept_out}

-- If `AreOut` holds for two lists of blocks together, it holds for each of them.

pub first_out : (a : Numbers) (xs ys : List ℕ) → AreOut a (xs ++ ys) → AreOut a xs
first_out a xs ys out = out_fewer a (xs ++ ys) xs out (λ k. omega (arith, times-append xs ys k))

pub second_out : (a : Numbers) (xs ys : List ℕ) → AreOut a (xs ++ ys) → AreOut a ys
second_out a xs ys out = out_fewer a (xs ++ ys) ys out (λ k. omega (arith, times-append xs ys k))

-- If the arena owns a block that is neither free nor in a list for which `AreOut` holds, the block can be added to the
-- list.
joined_at : (a : Numbers) (xs : List ℕ) (n : ℕ) → is_own a n ≡ true → is_free a n ≡ false → times_in_hand xs n ≡ 0
    → AreOut a xs → (k : ℕ) → (k ≡ n) ⊎ (k ≢ n)
    → cond (is_free a k) 1 0 + times_in_hand (n ∷ xs) k ≤ cond (is_own a k) 1 0
joined_at a xs n own away none out k (inl e) =
    let P : ℕ → Type 0 = λ x. cond (is_free a x) 1 0 + times_in_hand (n ∷ xs) x ≤ cond (is_own a x) 1 0 in
    subst P (sym e) (rw (own, away, times_first xs n) (omega (arith, none)))
joined_at a xs n own away none out k (inr ne) = rw (times_rest xs n k ne) (out k)

pub out_joined : (a : Numbers) (xs : List ℕ) (n : ℕ) → is_own a n ≡ true → is_free a n ≡ false
    → times_in_hand xs n ≡ 0 → AreOut a xs → AreOut a (n ∷ xs)
out_joined a xs n own away none out k = joined_at a xs n own away none out k (cases_eq k n)

-- A driver with both rings up stays so after a call made by its receive half.

pub received_up : (r s : Running) (out : List ℕ) → IsUp r → Keeps r.arena r.receive s.arena s.receive out
    → s.transmit ≡ r.transmit → IsUp s
received_up r s out up keeps same =
    let kept : List ℕ = kept_out r.transmit in
    let all : AreOut s.arena ((out ++ blocks_out s.receive) ++ kept) =
    out_exchanged r.arena (blocks_out r.receive) s.arena (out ++ blocks_out s.receive) kept up.home keeps.arena in
    record {
      home = rw same (out_fewer s.arena ((out ++ blocks_out s.receive) ++ kept) (blocks_out s.receive ++ kept) all
          (λ k. omega (
            arith,
            times-append (out ++ blocks_out s.receive) kept k,
            times-append out (blocks_out s.receive) k,
            times-append (blocks_out s.receive) kept k,
          )));
      filled = keeps.running up.filled;
      some = rw same up.some;
    }
