-- Lemmas about two lists of blocks to be returned, combined into one list.
use Rattle.std.proofs.Common.{◌≡◌, ℕ, zero, suc, ◌+◌, inl, inr, List, [], ◌++◌, length-append, refl, sym, ap, subst, arith}
use Rattle.pmd_access.specs.DeviceLock.declared.entry.Call.{Call}
use Rattle.pmd_access.specs.NicDevice.DmaArena.Numbers.{Numbers}
use Rattle.pmd_access.specs.Home.{AreOut, Homebound, Bringing, BringsOne, Brings, BringsAll, StopsBringing}
use Rattle.pmd_driver.specs.Halted.{both_ways}
use Rattle.pmd_driver.specs.Leaving.{bringing_both}
use Rattle.pmd_driver.proofs.Bringing.{brings_out}

-- If some blocks are returned and then some more, this is the same as returning all of them in one sequence.
brings_then : (count more : ℕ) (s m t : Bringing) → Brings count s m → Brings more m t
    → (all : ℕ) × Brings all s t
brings_then count zero s m t first same = (count, subst (λ (b : Bringing). Brings count s b) (sym same) first)
brings_then count (suc more) s m t first (mid, before, one) =
    let rest = brings_then count more s m mid first before in (suc rest.0, (mid, rest.1, one))

-- `before_others` appends further blocks to the list and adds to the number of lost blocks. `after_others` adds blocks
-- that were lost before.
abbrev before_others : List ℕ → ℕ → Bringing → Bringing
before_others others lost s = record s { way = record { lent = s.way.lent ++ others; lost = s.way.lost + lost } }

abbrev after_others : ℕ → Bringing → Bringing
after_others lost s = record s { way = record { lent = s.way.lent; lost = lost + s.way.lost } }

one_before : (others : List ℕ) (lost : ℕ) (s t : Bringing) → BringsOne s t
    → BringsOne (before_others others lost s) (before_others others lost t)
one_before others lost s t (n, is, inl brought) = (
  n,
  ap (λ (xs : List ℕ). xs ++ others) is,
  inl (record {
    taken = brought.taken;
    arena = brought.arena;
    lost = ap (λ (k : ℕ). k + lost) brought.lost;
  }),
)
one_before others lost s t (n, is, inr missed) = (
  n,
  ap (λ (xs : List ℕ). xs ++ others) is,
  inr (record {
    taken = missed.taken;
    arena = missed.arena;
    lost = omega (arith, missed.lost);
  }),
)

one_after : (lost : ℕ) (s t : Bringing) → BringsOne s t → BringsOne (after_others lost s) (after_others lost t)
one_after lost s t (n, is, inl brought) = (
  n,
  is,
  inl (record {
    taken = brought.taken;
    arena = brought.arena;
    lost = ap (λ (k : ℕ). lost + k) brought.lost;
  }),
)
one_after lost s t (n, is, inr missed) = (
  n,
  is,
  inr (record {
    taken = missed.taken;
    arena = missed.arena;
    lost = omega (arith, missed.lost);
  }),
)

all_before : (others : List ℕ) (lost count : ℕ) (s t : Bringing) → Brings count s t
    → Brings count (before_others others lost s) (before_others others lost t)
all_before others lost zero s t same = ap (λ (b : Bringing). before_others others lost b) same
all_before others lost (suc count) s t (mid, before, one) =
    (before_others others lost mid, all_before others lost count s mid before, one_before others lost mid t one)

all_after : (lost count : ℕ) (s t : Bringing) → Brings count s t
    → Brings count (after_others lost s) (after_others lost t)
all_after lost zero s t same = ap (λ (b : Bringing). after_others lost b) same
all_after lost (suc count) s t (mid, before, one) =
    (after_others lost mid, all_after lost count s mid before, one_after lost mid t one)

module _ (old mid : List Call) (a b : Numbers) (first left second : Homebound) where
  abbrev start : Bringing
  start = record { made = old; arena = a; way = first }

  abbrev halfway : Bringing
  halfway = record { made = mid; arena = b; way = left }

  abbrev onward : Bringing
  onward = record { made = mid; arena = b; way = second }

  -- Returning all blocks in the first list, then some in the second, returns the first blocks of the combined list.
  onto : (t : Bringing) (count more : ℕ) → Brings count start halfway → left.lent ≡ [] → Brings more onward t
      → (all : ℕ) × Brings all (bringing_both old a first second) (bringing_both t.made t.arena left t.way)
  onto t count more brings none then =
      let over : Brings more (bringing_both mid b left second) (bringing_both t.made t.arena left t.way) =
      subst (λ (xs : List ℕ). Brings more
      (bringing_both mid b (record { lent = xs; lost = left.lost }) second)
      (bringing_both t.made t.arena (record { lent = xs; lost = left.lost }) t.way))
      (sym none) (all_after left.lost more onward t then) in
      brings_then count more (bringing_both old a first second) (bringing_both mid b left second)
      (bringing_both t.made t.arena left t.way) (all_before second.lent second.lost count start halfway brings) over

  -- When the first list's blocks have been returned, `AreOut` still holds for the second list's blocks.
  pub second_out : BringsAll start halfway → AreOut a (first.lent ++ second.lent) → AreOut b second.lent
  second_out (count, brings, none) out =
      subst (λ (xs : List ℕ). AreOut b (xs ++ second.lent)) none
      (brings_out count (bringing_both old a first second) (bringing_both mid b left second)
      (all_before second.lent second.lost count start halfway brings) out)

  pub both_home : (t : Bringing) → BringsAll start halfway → BringsAll onward t
      → BringsAll (bringing_both old a first second) (bringing_both t.made t.arena left t.way)
  both_home t (count, brings, none) (more, then, gone) =
      let whole = onto t count more brings none then in (whole.0, whole.1, rw (none, gone) refl)

  pub first_stops : StopsBringing start halfway
      → StopsBringing (bringing_both old a first second) (bringing_both mid b left second)
  first_stops (count, m, brings, adds, same, way, waits) = (
    count,
    before_others second.lent second.lost m,
    all_before second.lent second.lost count start m brings,
    adds,
    same,
    ap (λ (w : Homebound). both_ways w second) way,
    omega (arith, waits, length-append m.way.lent second.lent),
  )

  pub second_stops : (t : Bringing) → BringsAll start halfway → StopsBringing onward t
      → StopsBringing (bringing_both old a first second) (bringing_both t.made t.arena left t.way)
  second_stops t (count, brings, none) (more, m, then, adds, same, way, waits) =
      let whole = onto m count more brings none then in (
        whole.0,
        bringing_both m.made m.arena left m.way,
        whole.1,
        adds,
        same,
        ap (λ (w : Homebound). both_ways left w) way,
        omega (arith, waits, length-append left.lent m.way.lent),
      )
