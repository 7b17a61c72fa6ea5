-- Lent blocks get their copied bytes back, and lent blocks without a copy return to their arena.
use Rattle.std.proofs.Common.{◌≡◌, ◌≢◌, ℕ, zero, suc, ◌+◌, ◌-◌, ◌*◌, ◌/◌, ◌<◌, ◌≤◌, ◌⊎◌, ◌↔◌, inl, inr, Bool, true, false, Option, Some, None, List, [], ◌∷◌, length, drop, refl, sym, ap, subst, ◌∙◌, arith}
use Rattle.std.specs.Prelude.{is_some}
use Rattle.std.specs.FinMap as map
use Rattle.std.specs.Cmp.{nat_cmp_total}
use Rattle.std.proofs.lemmas.Bool.{cases_eq, cases_lt}
use Rattle.rx_ring.specs.DmaArena.Memory.{Memory, has_block, is_lent, write_at, IsWhole}
use Rattle.rx_ring.specs.DmaArena.Numbers.{Numbers, is_own, is_free}
use Rattle.rx_ring.proofs.DmaArena.Blocks.{is_lent_in, write_at_in}
use Rattle.rx_ring.proofs.DmaArena.Bus.{get-insert_same, get-insert_other, get-remove_same, get-remove_other, is_lent_first, of_some}
use Rattle.rx_ring.proofs.DmaArena.Moves.{IsWhole-insert, IsWhole-remove}
use Rattle.nic_device.specs.Blocks.{memory_of, AreAmong, AreAway, AreBelow, AreRising, HaveLeft, StillLeft}
use Rattle.nic_device.proofs.BlockCopies.{IsFrom, IsNext, copy-of_none, from_none, from_past, from_some, get-drop, has-insert_same, memory-past}
use Rattle.nic_device.proofs.Leaving.{has-empty, has-insert_other, write-all}

-- A block with a lent range is lent.

pub lent-range : (m : Memory) (n k : ℕ) (lent : Bool) → k ≡ n → lent ≡ is_lent m (k * 2048) 2048 → lent ≡ true
    → has_block m n ≡ true
lent-range m n k lent is test has =
    let place : k * 2048 / 2048 ≡ n = omega arith in
    subst (λ (q : ℕ). has_block m q ≡ true) place (is_lent_first m (k * 2048) 2047 (sym test ∙ has))

-- One more copy is among the lent blocks.

pub among-none : (m : Memory) → AreAmong m (memory_of [])
among-none m n has = let no : false ≡ true = sym (has-empty n) ∙ has in absurd (cc)

pub among-more : (m : Memory) (copy : ℕ × List ℕ) (copies : List (ℕ × List ℕ)) → has_block m copy.0 ≡ true
    → AreAmong m (memory_of copies) → AreAmong m (memory_of (copy ∷ copies))
among-more m copy copies lent among n has = elim (cases_eq n copy.0) as (λ _. has_block m n ≡ true) [
  | inl is ↦ rw is lent
  | inr ne ↦ among n (sym (has-insert_other (memory_of copies) copy.0 copy.1 n ne) ∙ has)
]

-- A block that isn't lent isn't among the lent blocks.

pub missing-one : (m some : Memory) (n k : ℕ) (bytes : List ℕ) (lent : Bool) → map.get some n ≡ Some bytes → k ≡ n
    → lent ≡ is_lent m (k * 2048) 2048 → lent ≡ false → (false ≡ true) ↔ AreAmong m some
missing-one m some n k bytes lent there is test unlent = (
  λ no. absurd (cc),
  λ all. ap is_some (copy-of_none m n k lent is test unlent) ∙ all n (ap is_some there),
)

-- A lent block is overwritten as a whole.

pub range-lent : (m : Memory) (n k size : ℕ) → has_block m n ≡ true → k ≡ n → size ≡ 2048
    → is_lent m (k * 2048) size ≡ true
range-lent m n k size has is long = is_lent_in m (k * 2048) size n 0 has (omega arith) (omega arith)

pub written-whole : (m later : Memory) (n k : ℕ) (put bytes : List ℕ) → IsWhole m → has_block m n ≡ true → k ≡ n
    → put ≡ bytes → length bytes ≡ 2048 → later ≡ write_at m (k * 2048) put → later ≡ map.insert m n bytes
written-whole m later n k put bytes whole has is same long written =
    let there : (xs : List ℕ) × (map.get m n ≡ Some xs) = of_some (map.get m n) has in
    let size : length there.0 ≡ 2048 = (whole.block n there.0 there.1).size in
    let room : 0 + length bytes ≤ 2048 = omega arith in
    let start : k * 2048 ≡ 2048 * n + 0 = omega arith in
    written ∙ ap (λ (a : ℕ). write_at m a put) start ∙ ap (write_at m (2048 * n + 0)) same
    ∙ write_at_in m bytes n 0 there.0 there.1 size room
    ∙ ap (map.insert m n) (write-all there.0 bytes size long)

-- The same blocks are lent afterwards.

pub away-written : (a : Numbers) (m : Memory) (n : ℕ) (bytes : List ℕ) → AreAway a m → has_block m n ≡ true
    → AreAway a (map.insert m n bytes)
away-written a m n bytes away lent k has = elim (cases_eq k n) as
    (λ _. (is_own a k ≡ true) × (is_free a k ≡ false)) [
      | inl is ↦ rw is (away n lent)
      | inr ne ↦ away k (sym (has-insert_other m n bytes k ne) ∙ has)
    ]

pub left-written : (before a : Numbers) (m : Memory) (n : ℕ) (bytes : List ℕ) → has_block m n ≡ true
    → HaveLeft before a m → HaveLeft before a (map.insert m n bytes)
left-written before a m n bytes lent left = record {
  first = left.first;
  count = left.count;
  lent = λ k has. elim (cases_eq k n) as (λ _. (is_free before k ≡ true) × (is_free a k ≡ false)) [
    | inl is ↦ rw is (left.lent n lent)
    | inr ne ↦ left.lent k (sym (has-insert_other m n bytes k ne) ∙ has)
  ];
  others = λ k none. elim (cases_eq k n) as (λ _. is_free a k ≡ is_free before k) [
    | inl is ↦
        let has : has_block (map.insert m n bytes) k ≡ true = rw is (has-insert_same m n bytes) in
        let no : true ≡ false = sym has ∙ none in absurd (cc)
    | inr ne ↦ left.others k (sym (has-insert_other m n bytes k ne) ∙ none)
  ];
}

-- The highest copy below the blocks already visited.

has-later : (copies rest : List (ℕ × List ℕ)) (copy : ℕ × List ℕ) (at : ℕ) → AreRising copies
    → drop at copies ≡ copy ∷ rest → has_block (memory_of copies) copy.0 ≡ true
has-later copies rest copy at rising is =
    ap is_some (get-drop copies at copy.0 copy.1 rising
    (subst (λ (es : List (ℕ × List ℕ)). map.get (memory_of es) copy.0 ≡ Some copy.1) (sym is)
    (get-insert_same (memory_of rest) copy.0 copy.1)))

lies-below : (copy : ℕ × List ℕ) (copies rest : List (ℕ × List ℕ)) (at n : ℕ) → AreRising copies
    → drop at copies ≡ copy ∷ rest → has_block (memory_of copies) n ≡ true
    → (n ≤ copy.0) ⊎ (has_block (memory_of rest) n ≡ true)
lies-below copy [] rest zero n rising is has = (let no : [] ≡ copy ∷ rest = is in cc)
lies-below copy [] rest (suc at) n rising is has = (let no : [] ≡ copy ∷ rest = is in cc)
lies-below copy (c ∷ copies) rest zero n rising is has =
    let here : c ≡ copy = cc in
    let after : copies ≡ rest = cc in
    elim (cases_eq n c.0) as (λ _. (n ≤ copy.0) ⊎ (has_block (memory_of rest) n ≡ true)) [
      | inl same ↦ inl (rw (← here, same) (omega arith))
      | inr ne ↦ inr (rw (← after) (sym (has-insert_other (memory_of copies) c.0 c.1 n ne) ∙ has))
    ]
lies-below copy (c ∷ copies) rest (suc at) n rising is has =
    elim (cases_eq n c.0) as (λ _. (n ≤ copy.0) ⊎ (has_block (memory_of rest) n ≡ true)) [
      | inl same ↦ inl (let above = rising.0 copy.0 (has-later copies rest copy at rising.1 is) in omega arith)
      | inr ne ↦ lies-below copy copies rest at n rising.1 is
          (sym (has-insert_other (memory_of copies) c.0 c.1 n ne) ∙ has)
    ]

-- All numbers from this number up are visited: their blocks match the copies. The blocks below this number are
-- unchanged.
pub record IsReturned (copies : List (ℕ × List ℕ)) (a : Numbers) (m : Memory) (at number : ℕ) (b : Numbers)
    (n : Memory) : Type 0 where
  pub inside : at ≤ length copies
  pub from : IsFrom (memory_of copies) (memory_of (drop at copies)) number
  pub done : (k : ℕ) → number ≤ k → map.get n k ≡ map.get (memory_of copies) k
  pub rest : (k : ℕ) → k < number → map.get n k ≡ map.get m k
  pub whole : IsWhole n
  pub away : AreAway b n
  pub left : StillLeft a m b n

none-of : (o : Option (List ℕ)) → (is_some o ≡ true → ⊥) → o ≡ None
none-of None never = refl
none-of (Some bytes) never = absurd (never refl)

none-past : (m : Memory) (end k : ℕ) → AreBelow m end → end ≤ k → map.get m k ≡ None
none-past m end k below past = none-of (map.get m k) (λ has. let small = below k has in omega arith)

among-below : (m some : Memory) (end : ℕ) → AreAmong m some → AreBelow m end → AreBelow some end
among-below m some end among below k has = below k (among k has)

pub start-return : (copies : List (ℕ × List ℕ)) (a : Numbers) (m : Memory) (at end : ℕ) → length copies ≡ at
    → AreBelow m end → AreAmong m (memory_of copies) → IsWhole m → AreAway a m → IsReturned copies a m at end a m
start-return copies a m at end all below among whole away =
    let copied = among-below m (memory_of copies) end among below in
    record {
      inside = omega arith;
      from = subst (λ (part : Memory). IsFrom (memory_of copies) part end)
          (sym (memory-past copies at (omega arith))) (from_past (memory_of copies) end copied);
      done = λ k past.
          none-past m end k below past ∙ sym (none-past (memory_of copies) end k copied past);
      rest = λ k low. refl;
      whole = whole;
      away = away;
      left = λ before left. left;
    }

-- A block with a copy was lent and still is.
pub still-lent : (copies : List (ℕ × List ℕ)) (a b : Numbers) (m n : Memory) (at number : ℕ) (copy : ℕ × List ℕ)
    → IsReturned copies a m at number b n → AreAmong m (memory_of copies) → IsNext copies at copy → 0 < number
    → copy.0 ≡ number - 1 → has_block n (number - 1) ≡ true
still-lent copies a b m n at number copy is among next some here =
    ap is_some (is.rest (number - 1) (omega arith))
    ∙ subst (λ (k : ℕ). has_block m k ≡ true) here (among copy.0 (ap is_some next.there))

pub written-next : (copies : List (ℕ × List ℕ)) (a b : Numbers) (m n later : Memory) (at number : ℕ)
    (copy : ℕ × List ℕ) → IsReturned copies a m at number b n → AreAmong m (memory_of copies)
    → IsWhole (memory_of copies) → IsNext copies at copy → 0 < at → 0 < number → copy.0 ≡ number - 1
    → later ≡ map.insert n (number - 1) copy.1 → IsReturned copies a m (at - 1) (number - 1) b later
written-next copies a b m n later at number copy is among whole next some high here written =
    let lent = still-lent copies a b m n at number copy is among next high here in
    let there : map.get (memory_of copies) (number - 1) ≡ Some copy.1 =
    subst (λ (k : ℕ). map.get (memory_of copies) k ≡ Some copy.1) here next.there in
    let part : memory_of (drop (at - 1) copies) ≡ map.insert (memory_of (drop at copies)) (number - 1) copy.1 =
    ap memory_of next.next ∙ ap (λ (k : ℕ). map.insert (memory_of (drop at copies)) k copy.1) here in
    let made = subst (λ (x : Memory). IsReturned copies a m (at - 1) (number - 1) b x) (sym written) in
    made (record {
      inside = let old = is.inside in omega arith;
      from = subst (λ (x : Memory). IsFrom (memory_of copies) x (number - 1)) (sym part)
          (from_some (memory_of copies) (memory_of (drop at copies)) number copy.1 high is.from there);
      done = λ k past. elim (cases_eq k (number - 1)) as
          (λ _. map.get (map.insert n (number - 1) copy.1) k ≡ map.get (memory_of copies) k) [
            | inl same ↦ rw (same, there) (get-insert_same n (number - 1) copy.1)
            | inr ne ↦ get-insert_other n (number - 1) copy.1 k ne ∙ is.done k (omega arith)
          ];
      rest = λ k low.
          let ne : k ≢ number - 1 = omega arith in
          get-insert_other n (number - 1) copy.1 k ne ∙ is.rest k (omega arith);
      whole = IsWhole-insert n (number - 1) copy.1 is.whole (whole.block (number - 1) copy.1 there);
      away = away-written b n (number - 1) copy.1 is.away lent;
      left = λ before was. left-written before b n (number - 1) copy.1 lent (is.left before was);
    })

-- Block numbers are visited in descending order. The next number has no copy, unless the next copy has this number.

pub no-copy-left : (copies : List (ℕ × List ℕ)) (number : ℕ) → IsFrom (memory_of copies) (memory_of copies) number
    → 0 < number → map.get (memory_of copies) (number - 1) ≡ None
no-copy-left copies number from some = from.below (number - 1) (omega arith)

pub no-copy-here : (copies : List (ℕ × List ℕ)) (at number : ℕ) (copy : ℕ × List ℕ) → AreRising copies
    → IsFrom (memory_of copies) (memory_of (drop at copies)) number → IsNext copies at copy → 0 < number
    → copy.0 ≢ number - 1 → map.get (memory_of copies) (number - 1) ≡ None
no-copy-here copies at number copy rising from next some other =
    none-of (map.get (memory_of copies) (number - 1)) (λ has.
    elim (lies-below copy copies (drop at copies) (at - 1) (number - 1) rising next.next has) as (λ _. ⊥) [
      | inl high ↦ past (cases_lt copy.0 number) high
      | inr seen ↦
          let none : has_block (memory_of (drop at copies)) (number - 1) ≡ false =
          ap is_some (from.below (number - 1) (omega arith)) in
          let no : true ≡ false = sym seen ∙ none in cc
    ])
  where
    past : (copy.0 < number) ⊎ (number ≤ copy.0) → number - 1 ≤ copy.0 → ⊥
    past (inl low) high = omega arith
    past (inr far) high =
        let seen : has_block (memory_of (drop at copies)) copy.0 ≡ true =
        ap is_some (from.above copy.0 far ∙ next.there) in
        let no : true ≡ false = sym seen ∙ next.new in cc

pub returned-next : (copies : List (ℕ × List ℕ)) (a b c : Numbers) (m n later : Memory) (at number : ℕ)
    → IsReturned copies a m at number b n → 0 < number → map.get (memory_of copies) (number - 1) ≡ None
    → later ≡ map.remove n (number - 1) → AreAway c later → StillLeft b n c later
    → IsReturned copies a m at (number - 1) c later
returned-next copies a b c m n later at number is some none taken away left = record {
  inside = is.inside;
  from = from_none (memory_of copies) (memory_of (drop at copies)) number some is.from none;
  done = λ k past. elim (cases_eq k (number - 1)) as (λ _. map.get later k ≡ map.get (memory_of copies) k) [
    | inl same ↦ rw (same, taken, none) (get-remove_same n (number - 1))
    | inr ne ↦
        ap (λ (x : Memory). map.get x k) taken ∙ get-remove_other n (number - 1) k ne ∙ is.done k (omega arith)
  ];
  rest = λ k low.
      let ne : k ≢ number - 1 = omega arith in
      ap (λ (x : Memory). map.get x k) taken ∙ get-remove_other n (number - 1) k ne ∙ is.rest k (omega arith);
  whole = subst IsWhole (sym taken) (IsWhole-remove n (number - 1) is.whole);
  away = away;
  left = λ before was. left before (is.left before was);
}

-- All numbers are visited.
pub all-returned : (copies : List (ℕ × List ℕ)) (a b : Numbers) (m n : Memory) (at number : ℕ)
    → IsReturned copies a m at number b n → number ≡ 0 → n ≡ memory_of copies
all-returned copies a b m n at number is none =
    map.same_map nat_cmp_total map.nat_cmp-IsAntisymmetric n (memory_of copies) (λ k. is.done k (omega arith))
