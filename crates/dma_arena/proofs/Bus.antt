-- Lemmas about ranges of bus addresses, what a read of a range returns, and what a write leaves unchanged.
use Rattle.std.proofs.Common.{◌≡◌, ◌≢◌, ℕ, zero, suc, ◌+◌, ◌-◌, ◌/◌, ◌<◌, ◌≤◌, inl, inr, true, Option, Some, None, List, [], ◌∷◌, length, get_or, refl, ◌∙◌, arith, add-zero}
use Rattle.std.specs.Prelude.{is_some}
use Rattle.std.specs.FinMap as map
use Rattle.std.proofs.lemmas.Bool.{cases_eq, and_parts}
use Rattle.dma_arena.specs.Memory.{Memory, has_block, byte_at, is_lent, read_at, set_byte, write_at, IsWhole, SameLent, IsOutside, AreApart}
use Rattle.dma_arena.proofs.Single.{byte_at-set_byte_same, byte_at-set_byte_other, SameLent-set_byte, IsWhole-set_byte}
pub use Rattle.dma_arena.proofs.Single.{get-insert_same, get-insert_other, get-remove_same, get-remove_other}

-- A write doesn't change which blocks are lent.
pub SameLent-write_at : (m : Memory) (a : ℕ) (bs : List ℕ) → SameLent (write_at m a bs) m
unfolding write_at
SameLent-write_at m a [] q = refl
SameLent-write_at m a (b ∷ bs) q = SameLent-write_at (set_byte m a b) (a + 1) bs q ∙ SameLent-set_byte m a b q

-- A write keeps each block's length.
pub IsWhole-write_at : (m : Memory) (a : ℕ) (bs : List ℕ) → IsWhole m → IsWhole (write_at m a bs)
unfolding write_at
IsWhole-write_at m a [] whole = whole
IsWhole-write_at m a (b ∷ bs) whole = IsWhole-write_at (set_byte m a b) (a + 1) bs (IsWhole-set_byte m a b whole)

-- Lent ranges.

pub is_lent-same : (m n : Memory) → SameLent m n → (a k : ℕ) → is_lent m a k ≡ is_lent n a k
unfolding is_lent
is_lent-same m n same a zero = refl
is_lent-same m n same a (suc k) = rw (same (a / 2048), is_lent-same m n same (a + 1) k) refl

pub is_lent_first : (m : Memory) (a n : ℕ) → is_lent m a (suc n) ≡ true → has_block m (a / 2048) ≡ true
unfolding is_lent
is_lent_first m a n h = (and_parts _ (is_lent m (a + 1) n) h).0

pub is_lent_rest : (m : Memory) (a n : ℕ) → is_lent m a (suc n) ≡ true → is_lent m (a + 1) n ≡ true
unfolding is_lent
is_lent_rest m a n h = (and_parts _ (is_lent m (a + 1) n) h).1

pub of_some : {A : Type 0} (o : Option A) → is_some o ≡ true → (x : A) × (o ≡ Some x)
of_some None h = cc
of_some (Some x) h = (x, refl)

-- The number of a lent block is below 65,536.
pub small_of_lent : (m : Memory) (q : ℕ) → IsWhole m → has_block m q ≡ true → q < 65536
small_of_lent m q whole lent =
    let there : (xs : List ℕ) × (map.get m q ≡ Some xs) = of_some (map.get m q) lent in
    (whole.block q there.0 there.1).small

-- Each byte of a lent range is in a lent block.
pub is_lent_each : (m : Memory) (a n c : ℕ) → is_lent m a n ≡ true → a ≤ c → c < a + n → has_block m (c / 2048) ≡ true
is_lent_each m a zero c h low high = absurd (omega arith)
is_lent_each m a (suc n) c h low high = elim (cases_eq c a) [
  | inl e ↦ rw e (is_lent_first m a n h)
  | inr ne ↦ is_lent_each m (a + 1) n c (is_lent_rest m a n h) (omega arith) (omega arith)
]

pub is_lent_of_each : (m : Memory) (a n : ℕ) → ((c : ℕ) → a ≤ c → c < a + n → has_block m (c / 2048) ≡ true)
    → is_lent m a n ≡ true
unfolding is_lent
is_lent_of_each m a zero each = refl
is_lent_of_each m a (suc n) each =
    rw (each a (omega arith) (omega arith))
    (is_lent_of_each m (a + 1) n (λ c low high. each c (omega arith) (omega arith)))

-- A lent range doesn't extend past the last block number, so no address in it wraps.
pub lent_end : (m : Memory) (a n : ℕ) → IsWhole m → is_lent m a n ≡ true → 0 < n → a + n ≤ 134217728
lent_end m a n whole lent some =
    let last : has_block m ((a + n - 1) / 2048) ≡ true =
    is_lent_each m a n (a + n - 1) lent (omega arith) (omega arith) in
    let low : (a + n - 1) / 2048 < 65536 = small_of_lent m ((a + n - 1) / 2048) whole last in
    omega arith

-- Reads and writes.

outside_first : (c a k : ℕ) → IsOutside c a (suc k) → c ≢ a
outside_first c a k (inl h) e = absurd (omega arith)
outside_first c a k (inr h) e = absurd (omega arith)

outside_rest : (c a k : ℕ) → IsOutside c a (suc k) → IsOutside c (a + 1) k
outside_rest c a k (inl h) = inl (omega arith)
outside_rest c a k (inr h) = inr (omega arith)

-- A write changes no byte outside its range.
pub byte_at-write_at_other : (m : Memory) (a : ℕ) (bs : List ℕ) (c : ℕ) → IsOutside c a (length bs)
    → byte_at (write_at m a bs) c ≡ byte_at m c
unfolding write_at
byte_at-write_at_other m a [] c o = refl
byte_at-write_at_other m a (b ∷ bs) c o =
    byte_at-write_at_other (set_byte m a b) (a + 1) bs c (outside_rest c a (length bs) o)
    ∙ byte_at-set_byte_other m a b c (outside_first c a (length bs) o)

pub length-read_at : (m : Memory) (a n : ℕ) → length (read_at m a n) ≡ n
unfolding read_at
length-read_at m a zero = refl
length-read_at m a (suc n) = rw (length-read_at m (a + 1) n) refl

-- A read returns the bytes at the addresses in its range, in address order.
pub get_or-read_at : (m : Memory) (a n k : ℕ) → k < n → get_or (read_at m a n) k 0 ≡ byte_at m (a + k)
unfolding read_at
get_or-read_at m a zero k lt = absurd (omega arith)
get_or-read_at m a (suc n) zero lt = rw add-zero refl
get_or-read_at m a (suc n) (suc k) lt =
    let e : a + suc k ≡ (a + 1) + k = omega arith in
    rw e (get_or-read_at m (a + 1) n k (omega arith))

pub read_at-same : (m n : Memory) (a k : ℕ) → ((c : ℕ) → a ≤ c → c < a + k → byte_at m c ≡ byte_at n c)
    → read_at m a k ≡ read_at n a k
unfolding read_at
read_at-same m n a zero same = refl
read_at-same m n a (suc k) same =
    rw (same a (omega arith) (omega arith), read_at-same m n (a + 1) k (λ c h l. same c (omega arith) (omega arith)))
    refl

-- A write doesn't change what is read from a range that shares no byte with it.
pub read_at-write_at_apart : (m : Memory) (a : ℕ) (bs : List ℕ) (c k : ℕ) → AreApart c k a (length bs)
    → read_at (write_at m a bs) c k ≡ read_at m c k
read_at-write_at_apart m a bs c k (inl h) =
    read_at-same (write_at m a bs) m c k (λ d l r. byte_at-write_at_other m a bs d (inl (omega arith)))
read_at-write_at_apart m a bs c k (inr h) =
    read_at-same (write_at m a bs) m c k (λ d l r. byte_at-write_at_other m a bs d (inr (omega arith)))

-- A read of a lent range that was just written returns the bytes that were written.
pub read_at-write_at_same : (m : Memory) (a : ℕ) (bs : List ℕ) → IsWhole m → is_lent m a (length bs) ≡ true
    → read_at (write_at m a bs) a (length bs) ≡ bs
unfolding write_at read_at
read_at-write_at_same m a [] whole lent = refl
read_at-write_at_same m a (b ∷ bs) whole lent =
    let first : (xs : List ℕ) × (map.get m (a / 2048) ≡ Some xs) = of_some _ (is_lent_first m a (length bs) lent) in
    let here : byte_at (write_at (set_byte m a b) (a + 1) bs) a ≡ b =
    byte_at-write_at_other (set_byte m a b) (a + 1) bs a (inl (omega arith))
    ∙ byte_at-set_byte_same m a b first.0 first.1 (whole.block (a / 2048) first.0 first.1).size in
    let there : is_lent (set_byte m a b) (a + 1) (length bs) ≡ true =
    is_lent-same (set_byte m a b) m (SameLent-set_byte m a b) (a + 1) (length bs) ∙ is_lent_rest m a (length bs) lent in
    rw (here, read_at-write_at_same (set_byte m a b) (a + 1) bs (IsWhole-set_byte m a b whole) there) refl
