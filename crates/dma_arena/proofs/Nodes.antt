-- Lemmas about the nodes of a list: the list's end and the free blocks.
use Rattle.std.proofs.Common.{◌≡◌, ◌≢◌, ℕ, zero, suc, ◌<◌, inl, inr, Option, Some, None, List, [], ◌∷◌, length, get_or, set, map, Bool, true, false, eqb, refl, sym, ap, ◌∙◌, arith}
use Rattle.std.specs.Prelude.{is_some}
use Rattle.std.proofs.lemmas.Bool.{cases_eq}
use Rattle.std.proofs.lemmas.Bool.Decides.{nat_tests}
use Rattle.std.proofs.lemmas.List.{length-set, get_or-set_same, get_or-set_other, length-map, map-set}
use Rattle.dma_arena.specs.Links.{list_end, nodes_of, Relinked}
use Rattle.dma_arena.specs.declared.links.Links.{Links}

pub nodes-end : (e : Links) (s : List (Option Links)) (p : ℕ) → p ≡ list_end → nodes_of e s p ≡ Some e
unfolding nodes_of
nodes-end e s p is = let t : eqb p list_end ≡ true = grind (arith, nat_tests) in rw t refl

pub nodes-block : (e : Links) (s : List (Option Links)) (p : ℕ) → p ≢ list_end → nodes_of e s p ≡ get_or s p None
unfolding nodes_of
nodes-block e s p ne = let t : eqb p list_end ≡ false = grind (arith, nat_tests) in rw t refl

-- An index whose slot contains a block is below the number of slots.
pub within : {A : Type 0} (s : List (Option A)) (p : ℕ) → is_some (get_or s p None) ≡ true → p < length s
within [] p h = cc
within (x ∷ s) zero h = omega arith
within (x ∷ s) (suc p) h = omega (arith, within s p h)

pub any_default : (s : List (Option Links)) (p : ℕ) (d : Option Links) → p < length s → get_or s p d ≡ get_or s p None
any_default [] p d lt = absurd (omega arith)
any_default (x ∷ s) zero d lt = refl
any_default (x ∷ s) (suc p) d lt = any_default s p d (omega arith)

pub marks_same : (s : List (Option Links)) (p : ℕ) (x y : Option Links) → is_some (get_or s p None) ≡ true
    → is_some y ≡ true → map is_some (set (set s p x) p y) ≡ map is_some s
marks_same [] p x y h k = cc
marks_same (o ∷ s) zero x y h k = rw (h, k) refl
marks_same (o ∷ s) (suc p) x y h k = ap (λ m. is_some o ∷ m) (marks_same s p x y h k)

pub nodes-set_other : (e : Links) (s : List (Option Links)) (p : ℕ) (y : Option Links) (r : ℕ) → r ≢ p
    → nodes_of e (set s p y) r ≡ nodes_of e s r
nodes-set_other e s p y r other = elim (cases_eq r list_end) [
  | inl ends ↦ nodes-end e (set s p y) r ends ∙ sym (nodes-end e s r ends)
  | inr inner ↦ nodes-block e (set s p y) r inner ∙ get_or-set_other s p r y None other ∙ sym (nodes-block e s r inner)
]

-- The marks of the free blocks.

pub marked : (s : List (Option Links)) (p : ℕ) → get_or (map is_some s) p false ≡ is_some (get_or s p None)
marked [] zero = refl
marked [] (suc p) = refl
marked (x ∷ s) zero = refl
marked (x ∷ s) (suc p) = marked s p

pub marked_same : (s t : List (Option Links)) (p : ℕ) → map is_some s ≡ map is_some t
    → is_some (get_or s p None) ≡ is_some (get_or t p None)
marked_same s t p same = sym (marked s p) ∙ ap (λ m. get_or m p false) same ∙ marked t p

pub length_same : (s t : List (Option Links)) → map is_some s ≡ map is_some t → length s ≡ length t
length_same s t same = sym (length-map s is_some) ∙ ap length same ∙ length-map t is_some

pub marks_set : (s t : List (Option Links)) (p : ℕ) (y : Option Links) (free : Bool) → map is_some s ≡ map is_some t
    → is_some y ≡ free → map is_some (set s p y) ≡ set (map is_some t) p free
marks_set s t p y free same is =
    map-set is_some s p y ∙ ap (λ m. set m p (is_some y)) same ∙ ap (set (map is_some t) p) is

-- The end's links are set.
pub Relinked-end : (e : Links) (s : List (Option Links)) (p : ℕ) (l : Links) → p ≡ list_end
    → Relinked (nodes_of e s) (nodes_of l s) p l
Relinked-end e s p l is = record {
  there = nodes-end l s p is;
  others = λ r ne. nodes-block l s r (λ h. ne (h ∙ sym is)) ∙ sym (nodes-block e s r (λ h. ne (h ∙ sym is)));
}

-- A block's links are set.
pub Relinked-block : (e : Links) (s : List (Option Links)) (p : ℕ) (y : Option Links) (l : Links) → p ≢ list_end
    → p < length s → y ≡ Some l → Relinked (nodes_of e s) (nodes_of e (set s p y)) p l
Relinked-block e s p y l ne lt is = record {
  there = nodes-block e (set s p y) p ne ∙ get_or-set_same s p y None lt ∙ is;
  others = nodes-set_other e s p y;
}

-- A block's links are set in two steps: it is taken from its slot and put back.
pub Relinked-again : (e : Links) (s : List (Option Links)) (p : ℕ) (x y : Option Links) (l : Links) → p ≢ list_end
    → p < length s → y ≡ Some l → Relinked (nodes_of e s) (nodes_of e (set (set s p x) p y)) p l
Relinked-again e s p x y l ne lt is = record {
  there =
      nodes-block e (set (set s p x) p y) p ne
      ∙ get_or-set_same (set s p x) p y None (rw (length-set s p x) lt) ∙ is;
  others = λ r other. nodes-set_other e (set s p x) p y r other ∙ nodes-set_other e s p x r other;
}
