-- Proves that every block lent while a ring is filled was free before filling began.
use Rattle.std.proofs.Common.{◌≡◌, ◌≢◌, ◌<◌, ◌+◌, ℕ, ◌⊎◌, inl, inr, true, false, List, [], ◌∷◌, Option, Some, None, IfSome, sym, subst}
use Rattle.std.proofs.lemmas.Bool.{cases_eq}
use Rattle.pmd_access.specs.NicDevice.DmaArena.Numbers.{Numbers, free_count, is_free, with_free}
use Rattle.pmd_access.proofs.NicDevice.DmaArena.Arenas.{is_own-of_free, is_free-with_free_other}
use Rattle.pmd_access.specs.DeviceLock.declared.entry.Call.{Call}
use Rattle.pmd_access.specs.Home.{IsDrawn}
use Rattle.pmd_rx.specs.Filling.{PostsSome, StopsFilling}
use Rattle.pmd_rx.specs.Plays.{PlaysFrom}
use Rattle.pmd_rx.specs.Receive.{Receive}
use Rattle.pmd_rx.specs.Keeping.{Keeps}
use Rattle.pmd_rx.specs.Wrong.{IsFault, FailsBy}
use Rattle.pmd_access.specs.declared.fault.PmdFault.{PmdFault}
use Rattle.pmd_access.specs.declared.fault.PmdFault.TheVariants as fault
use Rattle.pmd_rx.proofs.Failing.{fails_of, fault_after, fault_among}
use Rattle.pmd_rx.proofs.Playing.{plays_both, plays_in}

-- A block that is free after other blocks were taken was also free before.

free_at : (a : Numbers) (n k : ℕ) → is_free a n ≡ true → (k ≡ n) ⊎ (k ≢ n) → is_free (with_free a n false) k ≡ true
    → is_free a k ≡ true
free_at a n k free (inl same) is = subst (λ (i : ℕ). is_free a i ≡ true) (sym same) free
free_at a n k free (inr ne) is =
    let own = is_own-of_free a n free in
    rw (is_free-with_free_other a n false k own ne) at is

pub free_before : (a : Numbers) (ns : List ℕ) (b : Numbers) → IsDrawn a ns b → (k : ℕ) → is_free b k ≡ true
    → is_free a k ≡ true
free_before a [] b is k free = subst (λ (x : Numbers). is_free x k ≡ true) is free
free_before a (n ∷ ns) b (first, is) k free =
    free_at a n k first (cases_eq k n) (free_before (with_free a n false) ns b is k free)

-- Calls that post some blocks, then further calls.
pub posts_then : (count : ℕ) (a b : Numbers) (old mid new : List Call) (v w x : Receive) → PlaysFrom a old v mid w
    → PostsSome count a v b w → PlaysFrom b mid w new x → PlaysFrom a old v new x
posts_then count a b old mid new v w x plays posts more =
    plays_both a old mid new v w x plays
    (plays_in a b (free_before a posts.blocks b posts.drawn) mid new w x more)

-- Calls that exchange blocks with an arena, then further calls.

pub plays_then : (a b : Numbers) (old mid new : List Call) (v w x : Receive) → PlaysFrom a old v mid w
    → Keeps a v b w [] → PlaysFrom b mid w new x → PlaysFrom a old v new x
plays_then a b old mid new v w x plays keeps more =
    plays_both a old mid new v w x plays
    (plays_in a b (free_before a keeps.arena.0 b keeps.arena.1) mid new w x more)

pub fails_then : (f : PmdFault) (a b d : Numbers) (old mid new : List Call) (v w x : Receive) → PlaysFrom a old v mid w
    → Keeps a v b w [] → IsFault f b mid w new x → FailsBy f old a v new d x
fails_then f a b d old mid new v w x plays keeps is =
    fails_of f old new a d v x
    (fault_after f a old mid new v w x plays
    (fault_among f a b mid new w x (free_before a keeps.arena.0 b keeps.arena.1) is))

pub all_fail_then : (o : Option PmdFault) (a b d : Numbers) (old mid new : List Call) (v w x : Receive)
    → PlaysFrom a old v mid w → Keeps a v b w [] → IfSome o (λ f. IsFault f b mid w new x)
    → IfSome o (λ f. FailsBy f old a v new d x)
all_fail_then None a b d old mid new v w x plays keeps is = tt
all_fail_then (Some f) a b d old mid new v w x plays keeps is = fails_then f a b d old mid new v w x plays keeps is

-- Calls that post some blocks, then a call that fails.
pub stops_filling : (f : PmdFault) (count : ℕ) (a b d : Numbers) (old mid new : List Call) (v w x : Receive)
    → count + 1 < v.layout.size → PlaysFrom a old v mid w → PostsSome count a v b w → PlaysFrom b mid w new x
    → FailsBy f mid b w new d x → (f ≡ fault.NoBuffer → free_count b ≡ 0) → StopsFilling f old a v new d x
stops_filling f count a b d old mid new v w x few plays posts more fails none = record {
  count = count;
  few = few;
  mid = mid;
  arena = b;
  ring = w;
  plays = plays.plays;
  free = plays.free;
  posts = posts;
  fails = fails;
  made = posts_then count a b old mid new v w x plays posts more;
  none = none;
}
