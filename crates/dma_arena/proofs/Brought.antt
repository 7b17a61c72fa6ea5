-- A block is inserted into the list: it is linked to the end and to the first block, and the end and the first block
-- are linked to it.
use Rattle.std.proofs.Common.{◌≡◌, ◌≢◌, ℕ, ◌<◌, inl, inr, Option, Some, None, List, length, get_or, set, map, true, refl, sym, ap, ◌∙◌, subst, arith}
use Rattle.std.specs.Prelude.{is_some}
use Rattle.std.proofs.lemmas.List.{length-set}
use Rattle.std.proofs.lemmas.Bool.{cases_eq}
use Rattle.dma_arena.specs.Links.{Nodes, list_end, nodes_of, IsRing, IsLinked, LeadsTo, Comes, Relinked}
use Rattle.dma_arena.specs.declared.links.Links.{Links}
use Rattle.dma_arena.proofs.Ring.{same}
use Rattle.dma_arena.proofs.Nodes.{nodes-end, nodes-block, length_same, Relinked-end, Relinked-block}
use Rattle.dma_arena.proofs.Linked.{above, first_other, IsRing-comes}

-- Before the first block's links are set, the index to which the end's `next` link points has links.
pub first_linked : (nodes : Nodes) (rank : ℕ → ℕ) (ring : IsRing nodes rank) (p : ℕ) (free : nodes p ≡ None)
    → p ≢ list_end → (e : Links) (end_at : nodes list_end ≡ Some e) (n1 n2 : Nodes) (x z : Links)
    → Relinked nodes n1 p x → Relinked n1 n2 list_end z → is_some (n2 e.next) ≡ true
first_linked nodes rank ring p free apart e end_at n1 n2 x z own ends = elim (cases_eq e.next list_end) [
  | inl is ↦ ap is_some (ap n2 is ∙ ends.there)
  | inr not_end ↦
      ap is_some
      (ends.others e.next not_end ∙ own.others e.next (first_other nodes rank ring p free apart e end_at)
      ∙ (ring.next list_end e end_at).1)
]

module _ (nodes : Nodes) (rank : ℕ → ℕ) (ring : IsRing nodes rank) (p : ℕ) (free : nodes p ≡ None)
    (apart : p ≢ list_end) (e h : Links) (end_at : nodes list_end ≡ Some e) (n1 n2 n3 : Nodes)
    (own : Relinked nodes n1 p (record { next = e.next; prev = list_end }))
    (ends : Relinked n1 n2 list_end (record { next = p; prev = e.prev }))
    (h_at : n2 e.next ≡ Some h) (first : Relinked n2 n3 e.next (record { next = h.next; prev = p })) where
  p_first : p ≢ e.next
  p_first is = first_other nodes rank ring p free apart e end_at (sym is)

  there : n3 p ≡ Some (record { next = e.next; prev = list_end })
  there = first.others p p_first ∙ ends.others p apart ∙ own.there

  went_both : (r : ℕ) (x : Links) → nodes r ≡ Some x → r ≡ e.next → r ≡ list_end
      → (y : Links) × (n3 r ≡ Some y) × LeadsTo p e.next r x y
  went_both r x at is_first is_end =
      let it : h ≡ record { next = p; prev = e.prev } =
      same (n2 e.next) h (record { next = p; prev = e.prev }) h_at (ap n2 (sym is_first ∙ is_end) ∙ ends.there) in (
        record { next = h.next; prev = p },
        ap n3 is_first ∙ first.there,
        record {
          next_to = λ is. ap (λ (z : Links). z.next) it;
          next_kept = λ other. absurd (other is_end);
          prev_to = λ is. refl;
          prev_kept = λ other. absurd (other is_first);
        },
      )

  went_first : (r : ℕ) (x : Links) → nodes r ≡ Some x → r ≢ p → r ≡ e.next → r ≢ list_end
      → (y : Links) × (n3 r ≡ Some y) × LeadsTo p e.next r x y
  went_first r x at ne is_first not_end =
      let it : h ≡ x = same (n2 e.next) h x h_at
      (ap n2 (sym is_first) ∙ ends.others r not_end ∙ own.others r ne ∙ at) in (
        record { next = h.next; prev = p },
        ap n3 is_first ∙ first.there,
        record {
          next_to = λ is. absurd (not_end is);
          next_kept = λ other. ap (λ (z : Links). z.next) it;
          prev_to = λ is. refl;
          prev_kept = λ other. absurd (other is_first);
        },
      )

  went_end : (r : ℕ) (x : Links) → nodes r ≡ Some x → r ≢ e.next → r ≡ list_end
      → (y : Links) × (n3 r ≡ Some y) × LeadsTo p e.next r x y
  went_end r x at not_first is_end =
      let it : e ≡ x = same (nodes list_end) e x end_at (ap nodes (sym is_end) ∙ at) in (
        record { next = p; prev = e.prev },
        first.others r not_first ∙ ap n2 is_end ∙ ends.there,
        record {
          next_to = λ is. refl;
          next_kept = λ other. absurd (other is_end);
          prev_to = λ is. absurd (not_first is);
          prev_kept = λ other. ap (λ (z : Links). z.prev) it;
        },
      )

  went_other : (r : ℕ) (x : Links) → nodes r ≡ Some x → r ≢ p → r ≢ e.next → r ≢ list_end
      → (y : Links) × (n3 r ≡ Some y) × LeadsTo p e.next r x y
  went_other r x at ne not_first not_end = (
    x,
    first.others r not_first ∙ ends.others r not_end ∙ own.others r ne ∙ at,
    record {
      next_to = λ is. absurd (not_end is);
      next_kept = λ other. refl;
      prev_to = λ is. absurd (not_first is);
      prev_kept = λ other. refl;
    },
  )

  went : (r : ℕ) (x : Links) → nodes r ≡ Some x → r ≢ p → (y : Links) × (n3 r ≡ Some y) × LeadsTo p e.next r x y
  went r x at ne = elim (cases_eq r e.next) [
    | inl is_first ↦ elim (cases_eq r list_end) [
      | inl is_end ↦ went_both r x at is_first is_end
      | inr not_end ↦ went_first r x at ne is_first not_end
    ]
    | inr not_first ↦ elim (cases_eq r list_end) [
      | inl is_end ↦ went_end r x at not_first is_end
      | inr not_end ↦ went_other r x at ne not_first not_end
    ]
  ]

  -- Every index with links, except the new block's index, had links before.
  was : (r : ℕ) (y : Links) → n3 r ≡ Some y → r ≢ p → (x : Links) × (nodes r ≡ Some x)
  was r y at ne = elim (cases_eq r e.next) [
    | inl is_first ↦ let k = ring.next list_end e end_at in (k.0, ap nodes is_first ∙ k.1)
    | inr not_first ↦ elim (cases_eq r list_end) [
      | inl is_end ↦ (e, ap nodes is_end ∙ end_at)
      | inr not_end ↦
          (y, sym (own.others r ne) ∙ sym (ends.others r not_end) ∙ sym (first.others r not_first) ∙ at)
    ]
  ]

  came : (r : ℕ) (y : Links) → n3 r ≡ Some y → r ≢ p → (x : Links) × (nodes r ≡ Some x) × LeadsTo p e.next r x y
  came r y at ne =
      let x = was r y at ne in
      let z = went r x.0 x.1 ne in
      let it : z.0 ≡ y = same (n3 r) z.0 y z.1 at in
      (x.0, x.1, subst (λ (w : Links). LeadsTo p e.next r x.0 w) it z.2)

  pub Comes-relinked : Comes nodes n3 p e.next
  Comes-relinked = record { there = there; came = came; went = went }

-- The same lemmas for the slots.

module _ (e : Links) (s : List (Option Links)) (p : ℕ) (y : Option Links) (linked : IsLinked e s) (lt : p < length s)
    (free : get_or s p None ≡ None) (is : y ≡ Some (record { next = e.next; prev = list_end })) where
  pub apart_end : p ≢ list_end
  apart_end at = absurd (omega (arith, lt, linked.small, at))

  unlinked : nodes_of e s p ≡ None
  unlinked = nodes-block e s p apart_end ∙ free

  abbrev ends : Links
  ends = record { next = p; prev = e.prev }

  own_links : Relinked (nodes_of e s) (nodes_of e (set s p y)) p (record { next = e.next; prev = list_end })
  own_links = Relinked-block e s p y (record { next = e.next; prev = list_end }) apart_end lt is

  end_links : Relinked (nodes_of e (set s p y)) (nodes_of ends (set s p y)) list_end ends
  end_links = Relinked-end e (set s p y) list_end ends refl

  pub first_at : is_some (nodes_of ends (set s p y) e.next) ≡ true
  first_at =
      first_linked (nodes_of e s) linked.rank linked.ring p unlinked apart_end e (nodes-end e s list_end refl)
      (nodes_of e (set s p y)) (nodes_of ends (set s p y)) (record { next = e.next; prev = list_end }) ends
      own_links end_links

  pub IsLinked-comes : (h e3 : Links) (s3 : List (Option Links)) → nodes_of ends (set s p y) e.next ≡ Some h
      → Relinked (nodes_of ends (set s p y)) (nodes_of e3 s3) e.next (record { next = h.next; prev = p })
      → map is_some s3 ≡ map is_some (set s p y) → IsLinked e3 s3
  IsLinked-comes h e3 s3 h_at first same = record {
    small = omega (arith, linked.small, length-set s p y, length_same s3 (set s p y) same);
    rank = above linked.rank p e.next;
    ring =
        IsRing-comes (nodes_of e s) linked.rank linked.ring p unlinked apart_end e (nodes-end e s list_end refl)
        (nodes_of e3 s3)
        (Comes-relinked (nodes_of e s) linked.rank linked.ring p unlinked apart_end e h (nodes-end e s list_end refl)
        (nodes_of e (set s p y)) (nodes_of ends (set s p y)) (nodes_of e3 s3) own_links end_links h_at first);
  }
