-- Blocks that leave an arena to be lent, and return.
use Rattle.std.proofs.Common.{◌≡◌, ◌≢◌, ℕ, ◌+◌, ◌-◌, ◌<◌, inl, inr, true, false, Option, Some, None, List, [], length, drop, get_or, refl, sym, ap, ◌∙◌, arith}
use Rattle.std.specs.Prelude.{is_some}
use Rattle.std.specs.FinMap as map
use Rattle.std.specs.Cmp.{nat_cmp_total}
use Rattle.std.specs.Ordering.{nat_cmp}
use Rattle.std.proofs.lemmas.Bool.{cases_eq, cases_lt}
use Rattle.std.proofs.lemmas.List.{append-nil, ext_get_or, length-drop, length-replicate, length-set, nil_from_length}
use Rattle.rx_ring.specs.DmaArena.Block.{Block, zero_block}
use Rattle.rx_ring.specs.DmaArena.Memory.{Memory, has_block, block_at, put_bytes}
use Rattle.rx_ring.specs.DmaArena.Numbers.{Numbers, is_free, with_free}
use Rattle.rx_ring.proofs.DmaArena.Arenas.{is_own-of_free, is_own-with_free, is_free_from, is_free-with_free_same, is_free-with_free_other}
use Rattle.rx_ring.proofs.DmaArena.Cuts.{given_back}
use Rattle.rx_ring.proofs.DmaArena.Bus.{get-insert_same, get-insert_other, get-remove_same, get-remove_other}
use Rattle.nic_device.specs.Blocks.{AreAway, HaveLeft}
use Rattle.nic_device.specs.State.{State}

pub has-insert_other : (m : Memory) (n : ℕ) (bytes : List ℕ) (k : ℕ) → k ≢ n
    → has_block (map.insert m n bytes) k ≡ has_block m k
has-insert_other m n bytes k ne = ap is_some (get-insert_other m n bytes k ne)

has-remove_other : (m : Memory) (n k : ℕ) → k ≢ n → has_block (map.remove m n) k ≡ has_block m k
has-remove_other m n k ne = ap is_some (get-remove_other m n k ne)

has-remove : (m : Memory) (n k : ℕ) → has_block (map.remove m n) k ≡ true → k ≢ n
has-remove m n k has is =
    let none : has_block (map.remove m n) k ≡ false = rw is (ap is_some (get-remove_same m n)) in
    let no : true ≡ false = sym has ∙ none in absurd (cc)

pub has-empty : (n : ℕ) → has_block map.empty n ≡ false
has-empty n = ap is_some (map.get-empty {X = List ℕ} nat_cmp n)

-- At the start, no block has left the arena.
pub left-start : (a : Numbers) → HaveLeft a a map.empty
left-start a = record {
  first = refl;
  count = refl;
  lent = λ n has. let no : false ≡ true = sym (has-empty n) ∙ has in absurd (cc);
  others = λ n none. refl;
}

-- A block that isn't lent and is free now was free before.
pub free_after : (before after : Numbers) (m : Memory) (n : ℕ) → HaveLeft before after m → has_block m n ≡ false
    → is_free before n ≡ true → is_free after n ≡ true
free_after before after m n left none free = left.others n none ∙ free

-- One more block leaves.
pub left-more : (before after : Numbers) (m : Memory) (n : ℕ) (bytes : List ℕ) → HaveLeft before after m
    → has_block m n ≡ false → is_free before n ≡ true
    → HaveLeft before (with_free after n false) (map.insert m n bytes)
left-more before after m n bytes left none free =
    let own = is_own-of_free after n (free_after before after m n left none free) in record {
      first = left.first;
      count = length-set after.free (n - after.first) false ∙ left.count;
      lent = λ k has. elim (cases_eq k n) as
          (λ _. (is_free before k ≡ true) × (is_free (with_free after n false) k ≡ false)) [
            | inl is ↦ rw is (free, is_free-with_free_same after n false own)
            | inr ne ↦
                let old = left.lent k (sym (has-insert_other m n bytes k ne) ∙ has) in
                (old.0, is_free-with_free_other after n false k own ne ∙ old.1)
          ];
      others = λ k unlent. elim (cases_eq k n) as
          (λ _. is_free (with_free after n false) k ≡ is_free before k) [
            | inl is ↦
                let has : has_block (map.insert m n bytes) k ≡ true = rw is (ap is_some (get-insert_same m n bytes)) in
                let no : true ≡ false = sym has ∙ unlent in absurd (cc)
            | inr ne ↦
                is_free-with_free_other after n false k own ne
                ∙ left.others k (sym (has-insert_other m n bytes k ne) ∙ unlent)
          ];
    }

-- Blocks that have left belong to the arena and aren't free there.
pub away-left : (before after : Numbers) (m : Memory) → HaveLeft before after m → AreAway after m
away-left before after m left n has =
    let lent = left.lent n has in
    let own = is_own-of_free before n lent.0 in
    (rw (left.first, left.count) own, lent.1)

-- A block returns.

pub away-less : (a : Numbers) (m : Memory) (n : ℕ) → AreAway a m → has_block m n ≡ true
    → AreAway (with_free a n true) (map.remove m n)
away-less a m n away has k left =
    let ne = has-remove m n k left in
    let old = away k (sym (has-remove_other m n k ne) ∙ left) in
    (is_own-with_free a n true k ∙ old.0, is_free-with_free_other a n true k (away n has).0 ne ∙ old.1)

pub left-less : (before after : Numbers) (m : Memory) (n : ℕ) → HaveLeft before after m → has_block m n ≡ true
    → HaveLeft before (with_free after n true) (map.remove m n)
left-less before after m n left has =
    let own = (away-left before after m left n has).0 in record {
      first = left.first;
      count = length-set after.free (n - after.first) true ∙ left.count;
      lent = λ k still.
          let ne = has-remove m n k still in
          let old = left.lent k (sym (has-remove_other m n k ne) ∙ still) in
          (old.0, is_free-with_free_other after n true k own ne ∙ old.1);
      others = λ k none. elim (cases_eq k n) as (λ _. is_free (with_free after n true) k ≡ is_free before k) [
        | inl is ↦ rw is (is_free-with_free_same after n true own ∙ sym (left.lent n has).0)
        | inr ne ↦
            is_free-with_free_other after n true k own ne
            ∙ left.others k (sym (has-remove_other m n k ne) ∙ none)
      ];
    }

-- Arenas with the same numbers and the same free blocks.

at-index : (a : Numbers) (k : ℕ) → get_or a.free k false ≡ is_free a (a.first + k)
at-index a k =
    let e : a.first + k - a.first ≡ k = omega arith in
    sym (is_free_from a (a.first + k) (omega arith) ∙ ap (λ i. get_or a.free i false) e)

pub same-numbers : (a b : Numbers) → a.first ≡ b.first → length a.free ≡ length b.free
    → ((n : ℕ) → is_free a n ≡ is_free b n) → a ≡ b
same-numbers a b first count same =
    let free : a.free ≡ b.free = ext_get_or false a.free b.free count
    (λ k inside. at-index a k ∙ same (a.first + k) ∙ ap (λ f. is_free b (f + k)) first ∙ sym (at-index b k)) in
    ap (λ f. record a { first = f }) first
    ∙ ap (λ xs. let c : Numbers = record { first = b.first; free = xs } in c) free

-- When no block remains to be returned, the arena is as it was at the start.
pub left-none : (before after : Numbers) → HaveLeft before after map.empty → after ≡ before
left-none before after left =
    same-numbers after before left.first left.count (λ n. left.others n (has-empty n))

-- Fewer blocks are lent.

some-block : (m : Memory) (n : ℕ) → has_block m n ≡ true → 0 < map.len m
some-block m n has = elim (cases_lt 0 (map.len m)) as (λ _. 0 < map.len m) [
  | inl some ↦ some
  | inr none ↦
      let is : m ≡ map.empty = map.empty_of_len m (omega arith) in
      let no : true ≡ false = sym has ∙ rw is (has-empty n) in absurd (cc)
]

pub len-less : (m : Memory) (n : ℕ) → has_block m n ≡ true → map.len (map.remove m n) < map.len m
len-less m n has =
    let some = some-block m n has in
    let less : map.len (map.remove m n) ≡ map.len m - 1 = map.len-remove nat_cmp_total m n ∙ rw has refl in
    omega arith

-- A block that is taken back has the requested number.
taken-of : (m : Memory) (n : ℕ) (b : Block) (found : Option (List ℕ)) → map.get m n ≡ found
    → Some b ≡ block_at m n → (b.number ≡ n) × (has_block m n ≡ true)
taken-of m n b None is e = (let no : Some b ≡ None = rw is at e in cc)
taken-of m n b (Some bytes) is e =
    let same : Some b ≡ Some (let block : Block = record { number = n; bytes = bytes } in block) = rw is at e in
    let block : b ≡ (let block : Block = record { number = n; bytes = bytes } in block) = cc in
    (ap (λ (x : Block). x.number) block, ap is_some is)

-- The block returns to the arena.
module _ (a given : Numbers) (m less : Memory) (n : ℕ) (b : Block) (taken : Some b ≡ block_at m n)
    (left : less ≡ map.remove m n) (back : given ≡ with_free a b.number true) where
  number-is : b.number ≡ n
  number-is = (taken-of m n b (map.get m n) refl taken).0

  pub has-taken : has_block m n ≡ true
  has-taken = (taken-of m n b (map.get m n) refl taken).1

  pub back-away : AreAway a m → AreAway given less
  back-away away = rw (left, back, number-is) (away-less a m n away has-taken)

  pub back-left : (before : Numbers) → HaveLeft before a m → HaveLeft before given less
  back-left before was = rw (left, back, number-is) (left-less before a m n was has-taken)

-- A taken block is overwritten as a whole.
pub write-all : (block bytes : List ℕ) → length block ≡ 2048 → length bytes ≡ 2048 → put_bytes block 0 bytes ≡ bytes
unfolding put_bytes
write-all block bytes size long =
    let none : drop (0 + length bytes) block ≡ [] =
    nil_from_length (drop (0 + length bytes) block) (length-drop (0 + length bytes) block ∙ omega arith) in
    rw none (append-nil bytes)

pub lent-whole : (m later : Memory) (n : ℕ) (b p : Block) (bytes : List ℕ) → b ≡ zero_block n
    → p ≡ record b { bytes = put_bytes b.bytes 0 bytes } → length bytes ≡ 2048
    → later ≡ map.insert m p.number p.bytes → later ≡ map.insert m n bytes
lent-whole m later n b p bytes zero put long lent =
    let number : p.number ≡ n = ap (λ (x : Block). x.number) put ∙ ap (λ (x : Block). x.number) zero in
    let size : length b.bytes ≡ 2048 = ap (λ (x : Block). length x.bytes) zero ∙ length-replicate {A = ℕ} 2048 0 in
    let all : p.bytes ≡ bytes = ap (λ (x : Block). x.bytes) put ∙ write-all b.bytes bytes size long in
    lent ∙ ap (λ k. map.insert m k p.bytes) number ∙ ap (map.insert m n) all

-- A block that was taken and written is lent again.
pub put-back : (a taken given : Numbers) (n : ℕ) (b p q : Block) (bytes : List ℕ) → is_free a n ≡ true
    → b ≡ zero_block n → p ≡ record b { bytes = put_bytes b.bytes 0 bytes } → q ≡ p
    → taken ≡ with_free a n false → given ≡ with_free taken q.number true → given ≡ a
put-back a taken given n b p q bytes free zero put same away back =
    let number : q.number ≡ n =
    ap (λ (x : Block). x.number) same ∙ ap (λ (x : Block). x.number) put ∙ ap (λ (x : Block). x.number) zero in
    rw (back, away, number) (given_back a n free)

-- A device whose memory was replaced by lent memory of the same value.

pub lent-again : (rest copy : State) (m lent : Memory) (engine : State) → engine ≡ record copy { memory = lent }
    → copy ≡ rest → lent ≡ m → engine ≡ record rest { memory = m }
lent-again rest copy m lent engine is same all =
    is ∙ ap (λ (r : State). let t : State = record r { memory = lent } in t) same
    ∙ ap (λ (x : Memory). let t : State = record rest { memory = x } in t) all
