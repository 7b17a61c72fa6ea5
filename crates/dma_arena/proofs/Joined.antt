-- Lemmas about adjacent ranges of bus addresses.
use Rattle.std.proofs.Common.{◌≡◌, ℕ, zero, suc, ◌+◌, ◌/◌, Bool, true, false, ◌&&◌, List, [], ◌∷◌, ◌++◌, length, refl, sym, ◌∙◌, arith, add-zero, zero-add}
use Rattle.dma_arena.specs.Memory.{Memory, has_block, is_lent, read_at, set_byte, write_at}

pub write_at-append : (m : Memory) (a : ℕ) (bs cs : List ℕ)
    → write_at m a (bs ++ cs) ≡ write_at (write_at m a bs) (a + length bs) cs
unfolding write_at
write_at-append m a [] cs = rw add-zero refl
write_at-append m a (b ∷ bs) cs =
    let e : (a + 1) + length bs ≡ a + suc (length bs) = omega arith in
    write_at-append (set_byte m a b) (a + 1) bs cs ∙ rw e refl

pub read_at-append : (m : Memory) (a n k : ℕ) → read_at m a (n + k) ≡ read_at m a n ++ read_at m (a + n) k
unfolding read_at
read_at-append m a zero k = rw (zero-add, add-zero) refl
read_at-append m a (suc n) k =
    let e : (a + 1) + n ≡ a + suc n = omega arith in
    let f : suc n + k ≡ suc (n + k) = omega arith in
    rw (f, ← e, read_at-append m (a + 1) n k) refl

and_assoc : (x y z : Bool) → ((x && y) && z) ≡ (x && (y && z))
and_assoc true y z = refl
and_assoc false y z = refl

pub is_lent-append : (m : Memory) (a n k : ℕ) → is_lent m a (n + k) ≡ (is_lent m a n && is_lent m (a + n) k)
unfolding is_lent
is_lent-append m a zero k = rw (zero-add, add-zero) refl
is_lent-append m a (suc n) k =
    let e : (a + 1) + n ≡ a + suc n = omega arith in
    let f : suc n + k ≡ suc (n + k) = omega arith in
    rw (f, ← e, is_lent-append m (a + 1) n k)
    (sym (and_assoc (has_block m (a / 2048)) (is_lent m (a + 1) n) (is_lent m ((a + 1) + n) k)))
