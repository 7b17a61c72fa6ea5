-- Lemmas about the positions of one pass's entries when the history grows by one entry.
use Rattle.std.proofs.Common.{◌≡◌, ℕ, ◌+◌, ◌<◌, ◌==◌, Bool, true, false, List, [], ◌∷◌, ◌++◌, length, get_or, take, refl, ◌∙◌, ap, arith, eq-eqb, ◌≢◌, append-nil}
use Rattle.std.proofs.lemmas.Grind.{common_steps}
use Rattle.std.proofs.lemmas.Bool.{ne_eqb}
use Rattle.std.proofs.lemmas.List.{take_more}
use Rattle.std.specs.Prelude.{if◌then◌else◌}
use Rattle.device_lock.specs.declared.entry.Entry.{Entry}
use Rattle.device_lock.specs.Positions.{positions_from, positions_of}

one_more : (b : Bool) (at : ℕ) (xs ys : List ℕ)
    → (if b then at ∷ (xs ++ ys) else xs ++ ys) ≡ (if b then at ∷ xs else xs) ++ ys
one_more true at xs ys = refl
one_more false at xs ys = refl

pub positions_more : (at tag : ℕ) (h : List Entry) (e : Entry)
    → positions_from at tag (h ++ e ∷ []) ≡ positions_from at tag h
    ++ (if e.pass == tag then (at + length h) ∷ [] else [])
positions_more at tag [] e = ap (λ n. if e.pass == tag then n ∷ [] else []) (omega arith)
positions_more at tag (x ∷ h) e =
    let rest : List ℕ = if e.pass == tag then (at + 1 + length h) ∷ [] else [] in
    let next = positions_more (at + 1) tag h e in
    ap (λ (z : List ℕ). if x.pass == tag then at ∷ z else z) next
    ∙ one_more (x.pass == tag) at (positions_from (at + 1) tag h) rest
    ∙ ap (λ n. positions_from at tag (x ∷ h) ++ (if e.pass == tag then n ∷ [] else [])) (omega arith)

-- An entry with this tag adds its position to the list of positions; an entry with another tag adds none.
pub positions_here : (tag : ℕ) (h : List Entry) (i : ℕ) (d : Entry) → i < length h → (get_or h i d).pass ≡ tag
    → positions_of tag (take (i + 1) h) ≡ positions_of tag (take i h) ++ i ∷ []
positions_here tag h i d lt is =
    let len : length (take i h) ≡ i = grind (arith, common_steps) in
    ap (λ (z : List Entry). positions_of tag z) (take_more h i d lt)
    ∙ positions_more 0 tag (take i h) (get_or h i d)
    ∙ ap (λ b. positions_of tag (take i h) ++ (if b then (0 + length (take i h)) ∷ [] else [])) (eq-eqb _ _ is)
    ∙ ap (λ n. positions_of tag (take i h) ++ n ∷ []) (omega (arith, len))

pub positions_there : (tag : ℕ) (h : List Entry) (i : ℕ) (d : Entry) → i < length h
    → (get_or h i d).pass ≢ tag → positions_of tag (take (i + 1) h) ≡ positions_of tag (take i h)
positions_there tag h i d lt other =
    let is : ((get_or h i d).pass == tag) ≡ false = ne_eqb (get_or h i d).pass tag other in
    ap (λ (z : List Entry). positions_of tag z) (take_more h i d lt)
    ∙ positions_more 0 tag (take i h) (get_or h i d)
    ∙ ap (λ b. positions_of tag (take i h) ++ (if b then (0 + length (take i h)) ∷ [] else [])) is
    ∙ append-nil (positions_of tag (take i h))
