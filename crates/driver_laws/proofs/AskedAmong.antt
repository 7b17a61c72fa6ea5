-- The blocks that some calls try to lend are among those that a longer list of calls tries to lend.
use Rattle.driver_laws.specs.{Before.asks_for, Before.is_asked, StartPrelude.Call}
use Rattle.std.proofs.Common.{Bool, List, [], false, refl, true, ℕ, ◌++◌, ◌||◌, ◌∷◌, ◌≡◌}
use Rattle.std.proofs.lemmas.Bool.{or_left, or_right}

pub or_more : (a b c : Bool) → (b ≡ true → c ≡ true) → (a || b) ≡ true → (a || c) ≡ true
or_more true b c more is = refl
or_more false b c more is = more is

pub asked_past : (xs ys : List Call) (n : ℕ) → is_asked ys n ≡ true → is_asked (xs ++ ys) n ≡ true
asked_past [] ys n is = is
asked_past (x ∷ xs) ys n is = or_right (asks_for x.event n) _ (asked_past xs ys n is)

pub asked_ahead : (xs ys : List Call) (n : ℕ) → is_asked xs n ≡ true → is_asked (xs ++ ys) n ≡ true
asked_ahead [] ys n is = cc
asked_ahead (x ∷ xs) ys n is =
    or_more (asks_for x.event n) (is_asked xs n) (is_asked (xs ++ ys) n) (asked_ahead xs ys n) is

pub asked_last : (old before : List Call) (c : Call) (n : ℕ) → asks_for c.event n ≡ true
    → is_asked (old ++ (before ++ c ∷ [])) n ≡ true
asked_last old before c n is = asked_past old _ n (asked_past before (c ∷ []) n (or_left _ _ is))
