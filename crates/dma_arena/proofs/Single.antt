-- Lemmas about one block in the map of lent blocks, and about the byte at one bus address.
use Rattle.std.proofs.Common.{◌≡◌, ◌≢◌, ℕ, ◌/◌, ◌%◌, ◌<◌, ◌⊎◌, inl, inr, Option, Some, None, List, length, set, refl, sym, ◌∙◌, arith, rules}
use Rattle.std.specs.FinMap as map
use Rattle.std.specs.FinMap.{gets}
use Rattle.std.proofs.lemmas.Bool.{cases_eq}
use Rattle.std.proofs.lemmas.List.{length-set, get_or-set_same, get_or-set_other}
use Rattle.dma_arena.specs.Block.{IsBlock}
use Rattle.dma_arena.specs.Memory.{Memory, has_block, byte_at, with_byte, set_byte, IsWhole, SameLent}

-- The map of lent blocks.

pub get-insert_same : (m : Memory) (k : ℕ) (xs : List ℕ) → map.get (map.insert m k xs) k ≡ Some xs
get-insert_same m k xs = grind (gets, rules)

pub get-insert_other : (m : Memory) (k : ℕ) (xs : List ℕ) (q : ℕ) → q ≢ k → map.get (map.insert m k xs) q ≡ map.get m q
get-insert_other m k xs q ne = grind (gets, rules)

pub get-remove_same : (m : Memory) (k : ℕ) → map.get (map.remove m k) k ≡ None
get-remove_same m k = grind (gets, rules)

pub get-remove_other : (m : Memory) (k q : ℕ) → q ≢ k → map.get (map.remove m k) q ≡ map.get m q
get-remove_other m k q ne = grind (gets, rules)

-- One byte.

pub get-set_byte_same : (m : Memory) (a b q : ℕ) (xs : List ℕ) → a / 2048 ≡ q → map.get m q ≡ Some xs
    → map.get (set_byte m a b) q ≡ Some (set xs (a % 2048) b)
unfolding set_byte
get-set_byte_same m a b q xs at is =
    let e : map.get m (a / 2048) ≡ Some xs = rw at is in
    rw e (rw at (get-insert_same m q (set xs (a % 2048) b)))

get-with_byte_other : (m : Memory) (a b q : ℕ) (o : Option (List ℕ)) → a / 2048 ≢ q
    → map.get (with_byte m a b o) q ≡ map.get m q
get-with_byte_other m a b q None ne = refl
get-with_byte_other m a b q (Some xs) ne = get-insert_other m (a / 2048) (set xs (a % 2048) b) q (λ e. ne (sym e))

pub get-set_byte_other : (m : Memory) (a b q : ℕ) → a / 2048 ≢ q → map.get (set_byte m a b) q ≡ map.get m q
unfolding set_byte
get-set_byte_other m a b q ne = get-with_byte_other m a b q (map.get m (a / 2048)) ne

pub byte_at-set_byte_same : (m : Memory) (a b : ℕ) (xs : List ℕ) → map.get m (a / 2048) ≡ Some xs → length xs ≡ 2048
    → byte_at (set_byte m a b) a ≡ b
unfolding byte_at
byte_at-set_byte_same m a b xs is whole =
    let lt : a % 2048 < length xs = omega arith in
    rw (get-set_byte_same m a b (a / 2048) xs refl is) (get_or-set_same xs (a % 2048) b 0 lt)

byte_at-with_byte : (m : Memory) (a b c : ℕ) (o : Option (List ℕ)) → c ≢ a → map.get m (a / 2048) ≡ o
    → (c / 2048 ≡ a / 2048) ⊎ (c / 2048 ≢ a / 2048) → byte_at (with_byte m a b o) c ≡ byte_at m c
unfolding byte_at
byte_at-with_byte m a b c None ne is s = refl
byte_at-with_byte m a b c (Some xs) ne is (inl e) =
    let apart : c % 2048 ≢ a % 2048 = λ f. ne (omega arith) in
    rw (e, is, get-insert_same m (a / 2048) (set xs (a % 2048) b)) (get_or-set_other xs (a % 2048) (c % 2048) b 0 apart)
byte_at-with_byte m a b c (Some xs) ne is (inr e) =
    rw (get-insert_other m (a / 2048) (set xs (a % 2048) b) (c / 2048) e) refl

pub byte_at-set_byte_other : (m : Memory) (a b c : ℕ) → c ≢ a → byte_at (set_byte m a b) c ≡ byte_at m c
unfolding set_byte
byte_at-set_byte_other m a b c ne =
    byte_at-with_byte m a b c (map.get m (a / 2048)) ne refl (cases_eq (c / 2048) (a / 2048))

-- Which blocks are lent, and their lengths.

has_block-with_byte : (m : Memory) (a b q : ℕ) (o : Option (List ℕ)) → map.get m (a / 2048) ≡ o → (a / 2048 ≡ q)
    ⊎ (a / 2048 ≢ q) → has_block (with_byte m a b o) q ≡ has_block m q
has_block-with_byte m a b q None is s = refl
has_block-with_byte m a b q (Some xs) is (inl e) = rw (← e, get-insert_same m (a / 2048) (set xs (a % 2048) b), is) refl
has_block-with_byte m a b q (Some xs) is (inr ne) = rw (get-with_byte_other m a b q (Some xs) ne) refl

pub SameLent-set_byte : (m : Memory) (a b : ℕ) → SameLent (set_byte m a b) m
unfolding set_byte
SameLent-set_byte m a b q = has_block-with_byte m a b q (map.get m (a / 2048)) refl (cases_eq (a / 2048) q)

IsBlock-with_byte : (m : Memory) (a b q : ℕ) (o : Option (List ℕ))
    → IsWhole m → map.get m (a / 2048) ≡ o → (a / 2048 ≡ q) ⊎ (a / 2048 ≢ q)
    → (ys : List ℕ) → map.get (with_byte m a b o) q ≡ Some ys → IsBlock (record { number = q; bytes = ys })
IsBlock-with_byte m a b q None whole is s ys h = whole.block q ys h
IsBlock-with_byte m a b q (Some xs) whole is (inl e) ys h =
    let new : List ℕ = set xs (a % 2048) b in
    let f : Some new ≡ Some ys = sym (rw (← e) (get-insert_same m (a / 2048) new)) ∙ h in
    let g : new ≡ ys = cc in
    let old = whole.block (a / 2048) xs is in
    record { size = rw (← g, length-set) old.size; small = rw (← e) old.small }
IsBlock-with_byte m a b q (Some xs) whole is (inr ne) ys h =
    whole.block q ys (sym (get-with_byte_other m a b q (Some xs) ne) ∙ h)

pub IsWhole-set_byte : (m : Memory) (a b : ℕ) → IsWhole m → IsWhole (set_byte m a b)
unfolding set_byte
IsWhole-set_byte m a b whole = record {
  block = λ q ys h. IsBlock-with_byte m a b q (map.get m (a / 2048)) whole refl (cases_eq (a / 2048) q) ys h;
}
