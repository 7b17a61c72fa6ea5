-- Lemmas about changing an arena, counting its free numbers, and creating an arena.
use Rattle.std.proofs.Common.{◌≡◌, ◌≢◌, ℕ, suc, ◌+◌, ◌-◌, ◌<◌, ◌≤◌, inl, inr, Bool, true, false, cond, List, [], ◌∷◌, length, get_or, refl, sym, ap, ◌∙◌, arith, add-zero}
use Rattle.std.specs.Prelude.{nat_le}
use Rattle.std.specs.List.{list_all}
use Rattle.std.proofs.lemmas.Bool.{and_parts, cases_lt, le-leb, lt-leb}
use Rattle.std.proofs.lemmas.List.{length-set, get_or-set_same, get_or-set_other, length-replicate, get_or-replicate}
use Rattle.std.proofs.lemmas.List.Sums.{sum_by-set}
use Rattle.dma_arena.specs.Numbers.{Numbers, free_count, is_own, is_free, are_all_free, all_free, with_free, NoneFree}
use Rattle.dma_arena.specs.Laws.{ChangesOne, CountsFree}
use Rattle.dma_arena.proofs.Numbers.{all_set-is, is_free-of_no_count, count_by-of_none}
use Rattle.dma_arena.proofs.Owned.{set_within}
pub use Rattle.dma_arena.proofs.Owned.{own_within, own_of_within, is_free_from, is_own-of_free}

-- One number changes.

pub is_own-with_free : (a : Numbers) (number : ℕ) (free : Bool) (other : ℕ)
    → is_own (with_free a number free) other ≡ is_own a other
is_own-with_free a number free other = rw (length-set a.free (number - a.first) free) refl

pub is_free-with_free_same : (a : Numbers) (number : ℕ) (free : Bool) → is_own a number ≡ true
    → is_free (with_free a number free) number ≡ free
is_free-with_free_same a number free own =
    let within = own_within a number own in
    let lt : number - a.first < length a.free = omega (arith, within.0, within.1) in
    rw (le-leb a.first number within.0, get_or-set_same a.free (number - a.first) free false lt) refl

pub is_free-with_free_other : (a : Numbers) (number : ℕ) (free : Bool) (other : ℕ) → is_own a number ≡ true
    → other ≢ number → is_free (with_free a number free) other ≡ is_free a other
is_free-with_free_other a number free other own ne = elim (cases_lt other a.first) [
  | inl below ↦ rw (lt-leb a.first other below) refl
  | inr low ↦
      let within = own_within a number own in
      let apart : other - a.first ≢ number - a.first = λ e. ne (omega (arith, within.0, within.1)) in
      rw (get_or-set_other a.free (number - a.first) (other - a.first) free false apart) refl
]

pub ChangesOne-with_free : (a : Numbers) (number : ℕ) (free : Bool) → is_own a number ≡ true → ChangesOne a number free
ChangesOne-with_free a number free own = record {
  changed = is_free-with_free_same a number free own;
  others = λ other ne. is_free-with_free_other a number free other own ne;
  owned = is_own-with_free a number free;
}

-- The count of free numbers.

pub free_count_taken : (a : Numbers) (number : ℕ) → is_free a number ≡ true
    → free_count (with_free a number false) + 1 ≡ free_count a
free_count_taken a number free =
    let k : ℕ = number - a.first in
    let marked : get_or a.free k false ≡ true = (and_parts (nat_le a.first number) (get_or a.free k false) free).1 in
    let sums : free_count (with_free a number false) + cond (get_or a.free k false) 1 0 ≡ free_count a + 0 =
    sum_by-set (λ (x : Bool). cond x 1 0) a.free k false false (set_within a.free k marked) in
    ap (λ (x : Bool). free_count (with_free a number false) + cond x 1 0) (sym marked) ∙ sums ∙ add-zero (free_count a)

pub free_count_given : (a : Numbers) (number : ℕ) → is_own a number ≡ true → is_free a number ≡ false
    → free_count (with_free a number true) ≡ free_count a + 1
free_count_given a number own taken =
    let k : ℕ = number - a.first in
    let within = own_within a number own in
    let lt : k < length a.free = omega (arith, within.0, within.1) in
    let marked : get_or a.free k false ≡ false = sym (is_free_from a number within.0) ∙ taken in
    let sums : free_count (with_free a number true) + cond (get_or a.free k false) 1 0 ≡ free_count a + 1 =
    sum_by-set (λ (x : Bool). cond x 1 0) a.free k true false lt in
    let whole : free_count (with_free a number true) + 0 ≡ free_count (with_free a number true) =
    add-zero (free_count (with_free a number true)) in
    sym whole ∙ ap (λ (x : Bool). free_count (with_free a number true) + cond x 1 0) (sym marked) ∙ sums

none_counted : (a : Numbers) → NoneFree a → free_count a ≡ 0
none_counted a none =
    count_by-of_none a.free (λ k.
    let e : (a.first + k) - a.first ≡ k = omega arith in
    rw e at (sym (is_free_from a (a.first + k) (omega arith)) ∙ none (a.first + k)))

each_own : (a : Numbers) → are_all_free a ≡ true → (number : ℕ) → is_own a number ≡ true → is_free a number ≡ true
each_own a all number own =
    let within = own_within a number own in
    let lt : number - a.first < length a.free = omega (arith, within.0, within.1) in
    is_free_from a number within.0
    ∙ ap (λ (free : List Bool). get_or free (number - a.first) false) (all_set-is a.free all)
    ∙ get_or-replicate (length a.free) (number - a.first) true false lt

list_all-of_each : (xs : List Bool) → ((k : ℕ) → k < length xs → get_or xs k false ≡ true) → list_all (λ x. x) xs ≡ true
list_all-of_each [] each = refl
list_all-of_each (true ∷ xs) each = list_all-of_each xs (λ k lt. each (suc k) (omega arith))
list_all-of_each (false ∷ xs) each = each 0 (omega arith)

all_own : (a : Numbers) → ((number : ℕ) → is_own a number ≡ true → is_free a number ≡ true) → are_all_free a ≡ true
all_own a each =
    list_all-of_each a.free (λ k lt.
    let e : (a.first + k) - a.first ≡ k = omega arith in
    rw e at (sym (is_free_from a (a.first + k) (omega arith))
    ∙ each (a.first + k) (own_of_within a (a.first + k) (omega arith) (omega arith))))

pub CountsFree-numbers : (a : Numbers) → CountsFree a
CountsFree-numbers a = record {
  none = (λ none number. is_free-of_no_count a number none, none_counted a);
  all = (each_own a, all_own a);
  own = is_own-of_free a;
  taken = free_count_taken a;
  given = free_count_given a;
}

-- A new arena.

pub is_own-all_free : (first count number : ℕ) → first ≤ number → number < first + count
    → is_own (all_free first count) number ≡ true
is_own-all_free first count number low high =
    own_of_within (all_free first count) number low (rw (length-replicate count true) high)

pub own_within-all_free : (first count number : ℕ) → is_own (all_free first count) number ≡ true → (first ≤ number)
    × (number < first + count)
own_within-all_free first count number own = let within =
    own_within (all_free first count) number own in (within.0, rw (length-replicate count true) at within.1)

-- A number that the arena doesn't own isn't free.
pub not_free : (a : Numbers) (number : ℕ) (free : Bool) → is_free a number ≡ free → is_own a number ≡ false
    → free ≡ false
not_free a number true free own = sym (is_own-of_free a number free) ∙ own
not_free a number false free own = refl

free_all : (first count number : ℕ) (own : Bool) → is_own (all_free first count) number ≡ own
    → is_free (all_free first count) number ≡ own
free_all first count number true own =
    let within = own_within-all_free first count number own in
    is_free_from (all_free first count) number within.0
    ∙ get_or-replicate count (number - first) true false (omega (arith, within.0, within.1))
free_all first count number false own =
    not_free (all_free first count) number (is_free (all_free first count) number) refl own

pub is_free-all_free : (first count number : ℕ)
    → is_free (all_free first count) number ≡ is_own (all_free first count) number
is_free-all_free first count number = free_all first count number (is_own (all_free first count) number) refl
