-- Lemmas about how a call extends the driver's calls.
use Rattle.std.proofs.Common.{◌≡◌, ℕ, suc, Bool, true, false, not, List, [], ◌∷◌, ◌++◌, length, map, refl, sym, ap, ◌∙◌, subst, append_assoc}
use Rattle.std.proofs.lemmas.List.{append-nil}
use Rattle.pmd_access.specs.NicDevice.DmaArena.Block.{Block}
use Rattle.pmd_access.specs.NicDevice.DmaArena.Numbers.{Numbers, is_free}
use Rattle.pmd_access.specs.NicDevice.declared.event.Event.{Event}
use Rattle.pmd_access.specs.NicDevice.declared.event.Event.TheVariants as event
use Rattle.pmd_access.specs.NicDevice.declared.event.Reply.{Reply}
use Rattle.pmd_access.specs.DeviceLock.declared.entry.Call.{Call}
use Rattle.pmd_access.specs.DeviceLock.Pass.{call_of}
use Rattle.pmd_access.specs.Made.{Adds, AddsSome}
use Rattle.pmd_access.proofs.Steps.{steps_marked, steps_last, steps_both}
use Rattle.pmd_rx.specs.Plays.{PlaysFrom, AllOwn, AllLendFree, LendsFree, played_by, after_call}
use Rattle.pmd_rx.specs.Receive.{Receive, IsOwn, drive}

abbrev pub none_own : List Call → List Bool
none_own calls = map (λ (n : Call). false) calls

own-none : (v : Receive) (calls : List Call) → AllOwn v (none_own calls) calls
own-none v [] = tt
own-none v (n ∷ calls) = (tt, own-none v calls)

played-none : (v : Receive) (calls : List Call) → played_by v (none_own calls) calls ≡ v
played-none v [] = refl
played-none v (n ∷ calls) = played-none v calls

own-last : (v : Receive) (before : List Call) (e : Event Block) (r : Reply Block) → IsOwn v e
    → AllOwn v (none_own before ++ true ∷ []) (before ++ call_of e r ∷ [])
own-last v [] e r own = (own, tt)
own-last v (n ∷ before) e r own = (tt, own-last v before e r own)

played-last : (v : Receive) (before : List Call) (e : Event Block) (r : Reply Block)
    → played_by v (none_own before ++ true ∷ []) (before ++ call_of e r ∷ []) ≡ drive v e r
played-last v [] e r = refl
played-last v (n ∷ before) e r = played-last v before e r

free-none : (arena : Numbers) (calls : List Call) → AllLendFree arena (none_own calls) calls
free-none arena [] = tt
free-none arena (n ∷ calls) = (tt, free-none arena calls)

free-last : (arena : Numbers) (before : List Call) (e : Event Block) (r : Reply Block) → LendsFree arena true e
    → AllLendFree arena (none_own before ++ true ∷ []) (before ++ call_of e r ∷ [])
free-last arena [] e r free = (free, tt)
free-last arena (n ∷ before) e r free = (tt, free-last arena before e r free)

-- The driver's own event after calls that aren't its own.
pub plays_adds : (arena : Numbers) (old new : List Call) (v : Receive) (e : Event Block) (r : Reply Block) → IsOwn v e
    → LendsFree arena true e → Adds old new e r → PlaysFrom arena old v new (drive v e r)
plays_adds arena old new v e r own free (before, is, steps) = record {
  plays = (
    none_own before ++ true ∷ [],
    before ++ call_of e r ∷ [],
    is,
    own-last v before e r own,
    sym (played-last v before e r),
    steps_last not false true before (call_of e r) refl steps,
  );
  free = free-last arena before e r free;
}

pub plays_some : (arena : Numbers) (old new : List Call) (v : Receive) → AddsSome old new
    → PlaysFrom arena old v new v
plays_some arena old new v (before, is, steps) = record {
  plays = (
    none_own before,
    before,
    is,
    own-none v before,
    sym (played-none v before),
    steps_marked not false before steps,
  );
  free = free-none arena before;
}

-- Lemmas about one sequence of calls followed by another.

own-both : (v : Receive) (m : List Bool) (s : List Call) (n : List Bool) (t : List Call) → AllOwn v m s
    → AllOwn (played_by v m s) n t → AllOwn v (m ++ n) (s ++ t)
own-both v [] [] n t a b = b
own-both v [] (x ∷ s) n t a b = absurd a
own-both v (k ∷ m) [] n t a b = absurd a
own-both v (k ∷ m) (x ∷ s) n t (own, a) b = (own, own-both (after_call v k x) m s n t a b)

played-both : (v : Receive) (m : List Bool) (s : List Call) (n : List Bool) (t : List Call) → AllOwn v m s
    → played_by v (m ++ n) (s ++ t) ≡ played_by (played_by v m s) n t
played-both v [] [] n t a = refl
played-both v [] (x ∷ s) n t a = absurd a
played-both v (k ∷ m) [] n t a = absurd a
played-both v (k ∷ m) (x ∷ s) n t (own, a) = played-both (after_call v k x) m s n t a

own-length : (v : Receive) (m : List Bool) (s : List Call) → AllOwn v m s → length m ≡ length s
own-length v [] [] own = refl
own-length v [] (x ∷ s) own = absurd own
own-length v (k ∷ m) [] own = absurd own
own-length v (k ∷ m) (x ∷ s) own = ap suc (own-length (after_call v k x) m s own.1)

free-both : (arena : Numbers) (v : Receive) (m : List Bool) (s : List Call) (n : List Bool) (t : List Call)
    → AllOwn v m s → AllLendFree arena m s → AllLendFree arena n t → AllLendFree arena (m ++ n) (s ++ t)
free-both arena v [] [] n t own a b = b
free-both arena v [] (x ∷ s) n t own a b = absurd own
free-both arena v (k ∷ m) [] n t own a b = absurd own
free-both arena v (k ∷ m) (x ∷ s) n t own a b =
    (a.0, free-both arena (after_call v k x) m s n t own.1 a.1 b)

pub plays_both : (arena : Numbers) (a b d : List Call) (v w x : Receive) → PlaysFrom arena a v b w
    → PlaysFrom arena b w d x → PlaysFrom arena a v d x
plays_both arena a b d v w x p q = record {
  plays = (
    p.plays.0 ++ q.plays.0,
    p.plays.1 ++ q.plays.1,
    q.plays.2 ∙ ap (λ (l : List Call). l ++ q.plays.1) p.plays.2 ∙ append_assoc a p.plays.1 q.plays.1,
    own-both v p.plays.0 p.plays.1 q.plays.0 q.plays.1 p.plays.3
        (subst (λ (y : Receive). AllOwn y q.plays.0 q.plays.1) p.plays.4 q.plays.3),
    q.plays.4 ∙ ap (λ (y : Receive). played_by y q.plays.0 q.plays.1) p.plays.4
        ∙ sym (played-both v p.plays.0 p.plays.1 q.plays.0 q.plays.1 p.plays.3),
    steps_both not p.plays.0 q.plays.0 p.plays.1 q.plays.1 (own-length v p.plays.0 p.plays.1 p.plays.3) p.plays.5
        q.plays.5,
  );
  free = free-both arena v p.plays.0 p.plays.1 q.plays.0 q.plays.1 p.plays.3 p.free q.free;
}

-- No call was made.
pub plays_none : (arena : Numbers) (old : List Call) (v : Receive) → PlaysFrom arena old v old v
plays_none arena old v = plays_some arena old old v ([], sym (append-nil old), tt)

-- Lemmas about two arenas, where each block that is free in `b` is also free in `a`.

module _ (a b : Numbers) (all : (n : ℕ) → is_free b n ≡ true → is_free a n ≡ true) where
  pub free-in : (m : Bool) (e : Event Block) → LendsFree b m e → LendsFree a m e
  free-in true (event.Lend block) free = all block.number free
  free-in m e free = tt

  all-free-in : (marks : List Bool) (calls : List Call) → AllLendFree b marks calls → AllLendFree a marks calls
  all-free-in [] calls free = tt
  all-free-in (m ∷ marks) [] free = tt
  all-free-in (m ∷ marks) (n ∷ calls) free = (free-in m n.event free.0, all-free-in marks calls free.1)

  pub plays_in : (old new : List Call) (v w : Receive) → PlaysFrom b old v new w → PlaysFrom a old v new w
  plays_in old new v w p = record { plays = p.plays; free = all-free-in p.plays.0 p.plays.1 p.free }
