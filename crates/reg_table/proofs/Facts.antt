-- Facts about ranges of addresses, which a computation tests against the table.
use Rattle.std.proofs.Common.{◌≡◌, ℕ, ◌+◌, ◌%◌, ◌<◌, ◌≤◌, Bool, true, ◌&&◌, ◌==◌, List, [], ◌∷◌, Some, None}
use Rattle.std.specs.List.{list_all}
use Rattle.std.proofs.lemmas.Bool.{and_parts, eqb-true}
use Rattle.reg_table.specs.Run.{Run}
use Rattle.reg_table.specs.Runs.{runs}
use Rattle.reg_table.specs.Access.{access_at}
use Rattle.reg_table.proofs.Standing.{stands, access_in}
use Rattle.reg_table.proofs.Reached.{covers, words_at, steps_at}
use Rattle.reg_table.proofs.Missed.{misses, no_words_at, no_steps_at}

-- A fact about the words from a low address up to a high address, which is excluded. `Words`: one run has all of these
-- words. `Steps`: one run has the words that are in step with the run. `NoWords`: no run has any of them. `NoSteps`: no
-- run has a word whose address has a remainder, modulo the first number, from the second number up to the third.
pub data Fact : Type 0 where
  Words : Run → ℕ → ℕ → Fact
  Steps : Run → ℕ → ℕ → Fact
  NoWords : ℕ → ℕ → Fact
  NoSteps : ℕ → ℕ → ℕ → ℕ → ℕ → Fact

-- What the fact states about accesses.
abbrev pub Says : Fact → Type 0
Says (Words r low high) = (a : ℕ) → low ≤ a → a < high → a % 4 ≡ 0 → access_at a ≡ Some (access_in r a)
Says (Steps r low high) =
    (a : ℕ) → low ≤ a → a < high → r.first % r.stride ≤ a % r.stride → a % r.stride < r.first % r.stride + 4 → a % 4 ≡ 0
    → access_at a ≡ Some (access_in r a)
Says (NoWords low high) = (a : ℕ) → low ≤ a → a < high → access_at a ≡ None
Says (NoSteps m x y low high) = (a : ℕ) → low ≤ a → a < high → x ≤ a % m → a % m < y → access_at a ≡ None

-- Whether the table agrees with the fact.
abbrev pub is_so : Fact → Bool
is_so (Words r low high) = stands r runs && covers low high r && (r.stride == 4) && (r.first % 4 == 0)
is_so (Steps r low high) = stands r runs && covers low high r && (r.stride % 4 == 0) && (r.first % 4 == 0)
is_so (NoWords low high) = list_all (misses low high 1 0 1) runs
is_so (NoSteps m x y low high) = list_all (misses low high m x y) runs

all_four : (a b c d : Bool) → (a && b && c && d) ≡ true → (a ≡ true) × (b ≡ true) × (c ≡ true) × (d ≡ true)
all_four a b c d h =
    let p = and_parts (a && b && c) d h in
    let q = and_parts (a && b) c p.0 in
    let r = and_parts a b q.0 in (r.0, r.1, q.1, p.1)

said : (f : Fact) → is_so f ≡ true → Says f
said (Words r low high) e =
    let p = all_four (stands r runs) (covers low high r) (r.stride == 4) (r.first % 4 == 0) e in
    words_at r low high p.0 p.1 (eqb-true r.stride 4 p.2) (eqb-true (r.first % 4) 0 p.3)
said (Steps r low high) e =
    let p = all_four (stands r runs) (covers low high r) (r.stride % 4 == 0) (r.first % 4 == 0) e in
    steps_at r low high p.0 p.1 (eqb-true (r.stride % 4) 0 p.2) (eqb-true (r.first % 4) 0 p.3)
said (NoWords low high) e = λ a. no_words_at low high a e
said (NoSteps m x y low high) e = λ a. no_steps_at m x y low high a e

-- What the facts in a list state.
abbrev pub AllSay : List Fact → Type 0
AllSay [] = Unit {0}
AllSay (f ∷ fs) = Says f × AllSay fs

pub all_said : (fs : List Fact) → list_all is_so fs ≡ true → AllSay fs
all_said [] e = tt
all_said (f ∷ fs) e =
    let p = and_parts (is_so f) (list_all is_so fs) e in (said f p.0, all_said fs p.1)
