-- Lemmas about accesses made in order.
use Rattle.std.proofs.Common.{◌≡◌, ℕ, ◌+◌, ◌<◌, List, [], ◌∷◌, ◌++◌, length, get_or, take, drop, refl, sym, ap, ◌∙◌, subst, append_assoc}
use Rattle.std.proofs.lemmas.List.{take_more, take-append-drop}
use Rattle.device_lock.specs.declared.entry.Call.{Call}
use Rattle.pmd_access.specs.declared.fault.PmdFault.{PmdFault}
use Rattle.pmd_access.specs.Named.{AtPort}
use Rattle.pmd_access.specs.QueueMade.{Access, AreMade, IsMade, FailsBy, StopsBy}

-- A list of accesses splits into the accesses before one of them, that access, and the later accesses.
access_part : (all : List Access) (i : ℕ) (d : Access) → i < length all
    → all ≡ take i all ++ get_or all i d ∷ drop (i + 1) all
access_part all i d below =
    sym (take-append-drop (i + 1) all)
    ∙ ap (λ (l : List Access). l ++ drop (i + 1) all) (take_more all i d below)
    ∙ append_assoc (take i all) (get_or all i d ∷ []) (drop (i + 1) all)

module _ (q : AtPort) where
  pub one_made : (old new : List Call) (a : Access) → IsMade q old new a → AreMade q old new (a ∷ [])
  one_made old new a made = (new, made, refl)

  pub both_made : (old mid new : List Call) (xs ys : List Access) → AreMade q old mid xs → AreMade q mid new ys
      → AreMade q old new (xs ++ ys)
  both_made old mid new [] ys first then = subst (λ (m : List Call). AreMade q m new ys) first then
  both_made old mid new (a ∷ xs) ys (next, one, rest) then = (next, one, both_made next mid new xs ys rest then)

  -- If some accesses were made, and then one more, all of them were made in order.
  pub next_made : (old mid new : List Call) (xs : List Access) (a : Access) → AreMade q old mid xs → IsMade q mid new a
      → AreMade q old new (xs ++ a ∷ [])
  next_made old mid new xs a first then = both_made old mid new xs (a ∷ []) first (one_made mid new a then)

  -- If an access fails after the earlier ones were made, the list stops there.
  pub stops_here : (f : PmdFault) (old mid new : List Call) (xs rest all : List Access) (a : Access)
      → AreMade q old mid xs → FailsBy f q mid new a → all ≡ xs ++ a ∷ rest → StopsBy f q old new all
  stops_here f old mid new xs rest all a first fails is = (xs, a, rest, mid, is, first, fails)

  -- The next access in a list is made, or the list stops at that access.
  pub made_next : (old mid new : List Call) (all : List Access) (i : ℕ) (d : Access) → i < length all
      → AreMade q old mid (take i all) → IsMade q mid new (get_or all i d) → AreMade q old new (take (i + 1) all)
  made_next old mid new all i d below made then =
      subst (λ (l : List Access). AreMade q old new l) (sym (take_more all i d below))
      (next_made old mid new (take i all) (get_or all i d) made then)

  pub made_stops : (f : PmdFault) (old mid new : List Call) (all : List Access) (i : ℕ) (d : Access)
      → i < length all → AreMade q old mid (take i all) → FailsBy f q mid new (get_or all i d)
      → StopsBy f q old new all
  made_stops f old mid new all i d below made fails =
      stops_here f old mid new (take i all) (drop (i + 1) all) all (get_or all i d) made fails
      (access_part all i d below)
