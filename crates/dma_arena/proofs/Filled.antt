-- Lemmas about which slots of a table contain a block, and about what holds after slots are added or one slot changes.
use Rattle.std.proofs.Common.{◌≡◌, ◌≢◌, ℕ, ◌+◌, ◌-◌, ◌<◌, ◌≤◌, ◌++◌, inl, inr, min, true, false, cond, Option, Some, None, List, [], length, get_or, set, replicate, refl, sym, ap, ◌∙◌, arith}
use Rattle.std.specs.Prelude.{is_some, count_by, unwrap_or, IfSome}
use Rattle.std.specs.Ordering.{nat_cmp}
use Rattle.std.specs.FinMap as fin
use Rattle.std.proofs.lemmas.Bool.{cases_eq, cases_lt}
use Rattle.std.proofs.lemmas.List.{length-set, length-append, length-replicate, get_or-set_same, get_or-set_other, get_or_past, get_or-replicate, get_or_append_left, get_or-append_right, get_or_read, set-get_or}
use Rattle.std.proofs.lemmas.List.Folds.{sum_by-replicate}
use Rattle.std.proofs.lemmas.List.Sums.{sum_by-append, sum_by-set}
use Rattle.dma_arena.specs.Block.{Block}
use Rattle.dma_arena.specs.Memory.{Memory, has_block, block_at, put_bytes}
use Rattle.dma_arena.specs.Shown.{shown, at_place, is_filled, IsFirst, IsTable, NoneBetween}
use Rattle.dma_arena.proofs.Nodes.{within}
use Rattle.dma_arena.proofs.Shown.{get-shown, has_block-shown, block_at-shown, shown-is, shown-insert, shown-remove}

none_of : {A : Type 0} (o : Option A) → is_some o ≡ false → o ≡ None
none_of None h = refl
none_of (Some b) h = cc

-- What a slot adds to the count: 1 if it contains a block, otherwise 0.
abbrev mark : Option Block → ℕ
mark place = cond (is_some place) 1 0

-- A table without blocks.

no_block : (m : Memory) (q : ℕ) → m ≡ fin.empty → has_block m q ≡ false
no_block m q e = ap (λ (k : Memory). has_block k q) e ∙ rw (fin.get-empty {X = List ℕ} nat_cmp q) refl

pub none_there : (s : List (Option Block)) → shown s ≡ fin.empty → (q : ℕ) → at_place s q ≡ None
none_there s e q = none_of (at_place s q) (sym (has_block-shown s q) ∙ no_block (shown s) q e)

-- Slots are added.

none_made : (k q : ℕ) → get_or (replicate {A = Option Block} k None) q None ≡ None
none_made k q = elim (cases_lt q k) [
  | inl lt ↦ get_or-replicate k q None None lt
  | inr past ↦ get_or_past (replicate k None) q None (omega (arith, length-replicate {A = Option Block} k None, past))
]

at_place-made : (s : List (Option Block)) (k q : ℕ) → at_place (s ++ replicate k None) q ≡ at_place s q
at_place-made s k q = elim (cases_lt q (length s)) [
  | inl lt ↦ get_or_append_left s (replicate k None) None q lt
  | inr past ↦ get_or-append_right s (replicate k None) (length s) q None refl past ∙ none_made k (q - length s)
      ∙ sym (get_or_past s q None past)
]

shown-made : (s : List (Option Block)) (k : ℕ) → shown (s ++ replicate k None) ≡ shown s
shown-made s k = shown-is (s ++ replicate k None) (shown s) (λ q. rw (at_place-made s k q) (sym (get-shown s q)))

length-made : (s : List (Option Block)) (k : ℕ) → length (s ++ replicate k None) ≡ length s + k
length-made s k = simp (length-append, length-replicate)

counted-made : (s : List (Option Block)) (k : ℕ)
    → count_by (λ place. is_some place) (s ++ replicate k None) ≡ count_by (λ place. is_some place) s
counted-made s k =
    omega (
      arith,
      sum_by-append mark s (replicate k None),
      sum_by-replicate mark k None,
    )

IsFirst-same : (s t : List (Option Block)) (f : ℕ) → ((q : ℕ) → is_filled t q ≡ is_filled s q) → IsFirst s f
    → IsFirst t f
IsFirst-same s t f same first = record {
  below = λ q lt. same q ∙ first.below q lt;
  here = λ lt. same f ∙ first.here lt;
  small = first.small;
}

IsTable-made : (s : List (Option Block)) (f g n k : ℕ) → length s + k ≤ 65536 → IsTable s f g n
    → IsTable (s ++ replicate k None) f g n
IsTable-made s f g n k few table = record {
  numbered = λ q. rw (at_place-made s k q) (table.numbered q);
  few = rw (length-made s k) few;
  lowest = IsFirst-same s (s ++ replicate k None) f (λ q. ap is_some (at_place-made s k q)) table.lowest;
  gap = λ q over below. ap is_some (at_place-made s k q) ∙ table.gap q over below;
  counted = table.counted ∙ sym (counted-made s k);
}

-- One slot is set.

filled_same : (s : List (Option Block)) (q : ℕ) (y : Option Block) → q < length s → is_filled (set s q y) q ≡ is_some y
filled_same s q y lt = ap is_some (get_or-set_same s q y None lt)

filled_other : (s : List (Option Block)) (q : ℕ) (y : Option Block) (r : ℕ) → r ≢ q
    → is_filled (set s q y) r ≡ is_filled s r
filled_other s q y r ne = ap is_some (get_or-set_other s q r y None ne)

numbered-set : (s : List (Option Block)) (q : ℕ) (y : Option Block) → q < length s → IfSome y (λ b. b.number ≡ q)
    → ((r : ℕ) → IfSome (at_place s r) (λ b. b.number ≡ r)) → (r : ℕ)
    → IfSome (at_place (set s q y) r) (λ b. b.number ≡ r)
numbered-set s q y lt it numbered r = elim (cases_eq r q) [
  | inl e ↦ rw (e, get_or-set_same s q y None lt) it
  | inr ne ↦ rw (get_or-set_other s q r y None ne) (numbered r)
]

IsTable-set : (s : List (Option Block)) (f e n q : ℕ) (y : Option Block) (g h k : ℕ) → IsTable s f e n → q < length s
    → IfSome y (λ b. b.number ≡ q) → IsFirst (set s q y) g → NoneBetween (set s q y) g h
    → k + mark (at_place s q) ≡ n + mark y → IsTable (set s q y) g h k
IsTable-set s f e n q y g h k table lt it first gap counted = record {
  numbered = numbered-set s q y lt it table.numbered;
  few = rw (length-set s q y) table.few;
  lowest = first;
  gap = gap;
  counted = omega (arith, sum_by-set mark s q y None lt, table.counted, counted);
}

-- A block is overwritten or inserted.

IsFirst-written : (s : List (Option Block)) (f q : ℕ) (y : Option Block) → IsFirst s f → q < length s
    → is_some y ≡ is_filled s q → IsFirst (set s q y) f
IsFirst-written s f q y first lt it =
    IsFirst-same s (set s q y) f
    (λ r. elim (cases_eq r q) [
      | inl e ↦ rw e (filled_same s q y lt ∙ it)
      | inr ne ↦ filled_other s q y r ne
    ]) first

IsFirst-came : (s : List (Option Block)) (f q : ℕ) (y : Option Block) (g : ℕ) → IsFirst s f → q < length s → q < 65536
    → is_some y ≡ true → g ≡ min f q → IsFirst (set s q y) g
IsFirst-came s f q y g first lt small it least = elim (cases_lt f q) [
  | inl low ↦
      let e : g ≡ f = omega arith in
      rw e (record {
        below = λ r less. filled_other s q y r (omega (arith, less, low)) ∙ first.below r less;
        here = λ less. filled_other s q y f (omega (arith, low)) ∙ first.here less;
        small = first.small;
      })
  | inr high ↦
      let e : g ≡ q = omega arith in
      rw e (record {
        below = λ r less. filled_other s q y r (omega (arith, less)) ∙ first.below r (omega (arith, less, high));
        here = λ less. filled_same s q y lt ∙ it;
        small = omega (arith, small);
      })
]

gap-written : (s : List (Option Block)) (f e q : ℕ) (y : Option Block) → NoneBetween s f e → q < length s
    → is_some y ≡ is_filled s q → NoneBetween (set s q y) f e
gap-written s f e q y gap lt it =
    λ r over below. elim (cases_eq r q) [
      | inl is ↦ rw is (filled_same s q y lt ∙ it) ∙ gap r over below
      | inr ne ↦ filled_other s q y r ne ∙ gap r over below
    ]

-- A block is inserted below the first block, or above it.
gap-came : (s : List (Option Block)) (f e q : ℕ) (y : Option Block) (g h : ℕ) → IsFirst s f → NoneBetween s f e
    → g ≡ min f q → (q < f → h ≡ f) → (f ≤ q → h ≤ q) → (f ≤ q → h ≤ e) → NoneBetween (set s q y) g h
gap-came s f e q y g h first gap least low high within = elim (cases_lt q f) [
  | inl lt ↦
      let is : g ≡ q = omega (arith, least, lt) in
      λ r over below.
      filled_other s q y r (omega (arith, is, over)) ∙ first.below r (omega (arith, below, low lt))
  | inr past ↦
      let up : f ≤ q = omega (arith, past) in
      let is : g ≡ f = omega (arith, least, up) in
      λ r over below.
      filled_other s q y r (omega (arith, below, high up))
      ∙ gap r (omega (arith, is, over)) (omega (arith, below, within up))
]

module _ {s : List (Option Block)} {f e n : ℕ} (table : IsTable s f e n) {m : Memory} (view : shown s ≡ m) where
  pub filled_at : (q : ℕ) → has_block m q ≡ is_filled s q
  filled_at q = ap (λ (k : Memory). has_block k q) (sym view) ∙ has_block-shown s q

  pub block_at-table : (q : ℕ) → at_place s q ≡ block_at m q
  block_at-table q = block_at-shown s q (table.numbered q) ∙ ap (λ (k : Memory). block_at k q) view

  -- No block is lent if and only if the table has no lowest block.

  pub none_lent : f ≡ 65536 → m ≡ fin.empty
  none_lent e =
      sym view
      ∙ shown-is s fin.empty
      (λ q. elim (cases_lt q f) [
        | inl lt ↦ rw (none_of (at_place s q) (table.lowest.below q lt)) (sym (fin.get-empty {X = List ℕ} nat_cmp q))
        | inr past ↦
            rw (get_or_past s q None (omega (arith, table.few, past, e)))
            (sym (fin.get-empty {X = List ℕ} nat_cmp q))
      ])

  pub no_lowest : m ≡ fin.empty → f ≡ 65536
  no_lowest e = elim (cases_lt f 65536) [
    | inl lt ↦ let h : true ≡ false = sym (table.lowest.here lt) ∙ sym (filled_at f) ∙ no_block m f e in cc
    | inr past ↦ omega (arith, table.lowest.small, past)
  ]

  -- A lent number has a slot, which contains the block.

  pub place_of : (q : ℕ) → has_block m q ≡ true → q < length s
  place_of q has = within s q (sym (filled_at q) ∙ has)

  pub what_stands : (q : ℕ) (o : Option Block) → has_block m q ≡ true → o ≡ get_or s q o → at_place s q ≡ o
  what_stands q o has is = sym (get_or_read s q o (place_of q has) is None)

  -- A block is removed, or the slot was already empty.

  pub shown-left : (q : ℕ) (y : Option Block) → q < length s → y ≡ None → shown (set s q y) ≡ fin.remove m q
  shown-left q y lt gone =
      shown-remove s (set s q y) q (get_or-set_same s q y None lt ∙ gone) (λ r ne. get_or-set_other s q r y None ne)
      ∙ ap (λ (k : Memory). fin.remove k q) view

  pub shown-past : (q : ℕ) → at_place s q ≡ None → m ≡ fin.remove m q
  shown-past q none = sym view ∙ shown-remove s s q none (λ r ne. refl) ∙ ap (λ (k : Memory). fin.remove k q) view

  pub shown-same : (q : ℕ) (y : Option Block) → at_place s q ≡ None → y ≡ None → shown (set s q y) ≡ m
  shown-same q y none gone =
      ap (λ o. shown (set s q o)) (gone ∙ sym none) ∙ ap shown (set-get_or s q None) ∙ view

  -- A block is overwritten.

  pub IsTable-written : (q : ℕ) (b c : Block) → has_block m q ≡ true → at_place s q ≡ Some b → c.number ≡ b.number
      → IsTable (set s q (Some c)) f e n
  IsTable-written q b c has is same =
      IsTable-set s f e n q (Some c) f e n table (place_of q has) (same ∙ rw is at (table.numbered q))
      (IsFirst-written s f q (Some c) table.lowest (place_of q has) (ap is_some (sym is)))
      (gap-written s f e q (Some c) table.gap (place_of q has) (ap is_some (sym is))) (rw is refl)

  pub shown-written : (q : ℕ) (b c : Block) (at : ℕ) (bs : List ℕ) → has_block m q ≡ true → at_place s q ≡ Some b
      → c.bytes ≡ put_bytes b.bytes at bs
      → shown (set s q (Some c)) ≡ fin.insert m q (put_bytes (unwrap_or (fin.get m q) []) at bs)
  shown-written q b c at bs has is e =
      let had : fin.get m q ≡ Some b.bytes =
      ap (λ (k : Memory). fin.get k q) (sym view) ∙ get-shown s q ∙ rw is refl in
      rw (had, ← e)
      (shown-insert s (set s q (Some c)) q c (get_or-set_same s q (Some c) None (place_of q has))
      (λ r ne. get_or-set_other s q r (Some c) None ne)
      ∙ ap (λ (k : Memory). fin.insert k q c.bytes) view)

  -- A block's bytes are replaced, and its old bytes are the bytes in the memory.

  pub shown-exchanged : (q : ℕ) (c : Block) (bytes : List ℕ) → has_block m q ≡ true → c.bytes ≡ bytes
      → shown (set s q (Some c)) ≡ fin.insert m q bytes
  shown-exchanged q c bytes has e =
      rw (← e)
      (shown-insert s (set s q (Some c)) q c (get_or-set_same s q (Some c) None (place_of q has))
      (λ r ne. get_or-set_other s q r (Some c) None ne)
      ∙ ap (λ (k : Memory). fin.insert k q c.bytes) view)

  pub got-there : (q : ℕ) (b : Block) (bytes : List ℕ) → at_place s q ≡ Some b → bytes ≡ b.bytes
      → Some bytes ≡ fin.get m q
  got-there q b bytes is e =
      ap (λ bs. Some bs) e ∙ sym (ap (λ (k : Memory). fin.get k q) (sym view) ∙ get-shown s q ∙ rw is refl)

  -- Slots are added up to the slot of a number that isn't lent.
  module _ (q : ℕ) (small : q < 65536) (free : has_block m q ≡ false) {t : List (Option Block)}
      (made : t ≡ s ++ replicate (q + 1 - length s) None) where
    pub within_made : q < length t
    within_made = omega (arith, ap length made ∙ length-made s (q + 1 - length s))

    pub none_made_at : at_place t q ≡ None
    none_made_at =
        ap (λ (places : List (Option Block)). at_place places q) made ∙ at_place-made s (q + 1 - length s) q
        ∙ none_of (at_place s q) (sym (filled_at q) ∙ free)

    pub IsTable-came : (b : Block) (y : Option Block) (g h : ℕ) → b.number ≡ q → y ≡ Some b → g ≡ min f q
        → (q < f → h ≡ f) → (f ≤ q → h ≤ q) → (f ≤ q → h ≤ e) → IsTable (set t q y) g h (n + 1)
    IsTable-came b y g h number is least low high within =
        let few : length s + (q + 1 - length s) ≤ 65536 = omega (arith, table.few) in
        let grown : IsTable t f e n = rw made (IsTable-made s f e n (q + 1 - length s) few table) in
        let it : is_some y ≡ true = ap is_some is in
        IsTable-set t f e n q y g h (n + 1) grown within_made (rw is number)
        (IsFirst-came t f q y g grown.lowest within_made small it least)
        (gap-came t f e q y g h grown.lowest grown.gap least low high within) (rw (none_made_at, is) (omega arith))

    pub shown-came : (b : Block) (y : Option Block) → y ≡ Some b → shown (set t q y) ≡ fin.insert m q b.bytes
    shown-came b y is =
        shown-insert t (set t q y) q b (get_or-set_same t q y None within_made ∙ is)
        (λ r ne. get_or-set_other t q r y None ne)
        ∙ ap (λ (k : Memory). fin.insert k q b.bytes)
        (ap shown made ∙ shown-made s (q + 1 - length s) ∙ view)
