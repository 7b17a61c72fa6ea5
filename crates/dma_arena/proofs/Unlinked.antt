-- A block is removed from the list: its neighbours are linked to each other, then the block is taken from its slot.
use Rattle.std.proofs.Common.{◌≡◌, ◌≢◌, ℕ, ◌<◌, inl, inr, Option, Some, None, List, length, get_or, set, map, true, refl, sym, ap, ◌∙◌, subst, rules, arith}
use Rattle.std.specs.Prelude.{is_some}
use Rattle.std.proofs.lemmas.List.{length-set, get_or-set_same}
use Rattle.std.proofs.lemmas.Bool.{cases_eq}
use Rattle.dma_arena.specs.Links.{Nodes, list_end, nodes_of, IsRing, IsLinked, LeadsPast, Leaves, Relinked}
use Rattle.dma_arena.specs.declared.links.Links.{Links}
use Rattle.dma_arena.proofs.Nodes.{nodes-block, nodes-set_other, within, marked_same, length_same}
use Rattle.dma_arena.proofs.Ring.{same, before, after, IsRing-leaves}

module _ (nodes : Nodes) (rank : ℕ → ℕ) (ring : IsRing nodes rank)
    (p : ℕ) (l : Links) (at : nodes p ≡ Some l)
    (b h : Links) (n1 n2 n3 : Nodes)
    (b_at : nodes l.prev ≡ Some b) (first : Relinked nodes n1 l.prev (record { next = l.next; prev = b.prev }))
    (h_at : n1 l.next ≡ Some h) (second : Relinked n1 n2 l.next (record { next = h.next; prev = l.prev }))
    (gone : n3 p ≡ None) (rest : (r : ℕ) → r ≢ p → n3 r ≡ n2 r) where
  -- The previous node's `next` link is the removed block, and so is the next node's `prev` link.
  to_it : (x : Links) → nodes l.prev ≡ Some x → x.next ≡ p
  to_it x there = let j = ring.prev p l at in
      ap (λ (z : Links). z.next) (same (nodes l.prev) x j.0 there j.1) ∙ j.2

  back_to_it : (x : Links) → nodes l.next ≡ Some x → x.prev ≡ p
  back_to_it x there = let k = ring.next p l at in
      ap (λ (z : Links). z.prev) (same (nodes l.next) x k.0 there k.1) ∙ k.2

  went_both : (r : ℕ) (x : Links) → nodes r ≡ Some x → r ≢ p → r ≡ l.next → r ≡ l.prev
      → (y : Links) × (n3 r ≡ Some y) × LeadsPast p l x y
  went_both r x there apart is_next is_prev =
      let it = same (n1 l.next) h (record { next = l.next; prev = b.prev }) h_at
      (ap n1 (sym is_next ∙ is_prev) ∙ first.there) in (
        record { next = h.next; prev = l.prev },
        rest r apart ∙ ap n2 is_next ∙ second.there,
        record {
          next_past = λ to. ap (λ (z : Links). z.next) it;
          next_kept = λ other. absurd (other (to_it x (ap nodes (sym is_prev) ∙ there)));
          prev_past = λ to. refl;
          prev_kept = λ other. absurd (other (back_to_it x (ap nodes (sym is_next) ∙ there)));
        },
      )

  went_next : (r : ℕ) (x : Links) → nodes r ≡ Some x → r ≢ p → r ≡ l.next → r ≢ l.prev
      → (y : Links) × (n3 r ≡ Some y) × LeadsPast p l x y
  went_next r x there apart is_next not_prev =
      let it : h ≡ x = same (n1 l.next) h x h_at
      (first.others l.next (λ e. not_prev (is_next ∙ e)) ∙ ap nodes (sym is_next) ∙ there) in (
        record { next = h.next; prev = l.prev },
        rest r apart ∙ ap n2 is_next ∙ second.there,
        record {
          next_past = λ to. absurd (not_prev (sym (before nodes rank ring r p x l there at to)));
          next_kept = λ other. ap (λ (z : Links). z.next) it;
          prev_past = λ to. refl;
          prev_kept = λ other. absurd (other (back_to_it x (ap nodes (sym is_next) ∙ there)));
        },
      )

  went_prev : (r : ℕ) (x : Links) → nodes r ≡ Some x → r ≢ p → r ≢ l.next → r ≡ l.prev
      → (y : Links) × (n3 r ≡ Some y) × LeadsPast p l x y
  went_prev r x there apart not_next is_prev =
      let it : b ≡ x = same (nodes l.prev) b x b_at (ap nodes (sym is_prev) ∙ there) in (
        record { next = l.next; prev = b.prev },
        rest r apart ∙ second.others r not_next ∙ ap n1 is_prev ∙ first.there,
        record {
          next_past = λ to. refl;
          next_kept = λ other. absurd (other (to_it x (ap nodes (sym is_prev) ∙ there)));
          prev_past = λ to. absurd (not_next (sym (after nodes rank ring r p x l there at to)));
          prev_kept = λ other. ap (λ (z : Links). z.prev) it;
        },
      )

  went_other : (r : ℕ) (x : Links) → nodes r ≡ Some x → r ≢ p → r ≢ l.next → r ≢ l.prev
      → (y : Links) × (n3 r ≡ Some y) × LeadsPast p l x y
  went_other r x there apart not_next not_prev = (
    x,
    rest r apart ∙ second.others r not_next ∙ first.others r not_prev ∙ there,
    record {
      next_past = λ to. absurd (not_prev (sym (before nodes rank ring r p x l there at to)));
      next_kept = λ other. refl;
      prev_past = λ to. absurd (not_next (sym (after nodes rank ring r p x l there at to)));
      prev_kept = λ other. refl;
    },
  )

  went : (r : ℕ) (x : Links) → nodes r ≡ Some x → r ≢ p → (y : Links) × (n3 r ≡ Some y) × LeadsPast p l x y
  went r x there apart = elim (cases_eq r l.next) [
    | inl is_next ↦ elim (cases_eq r l.prev) [
      | inl is_prev ↦ went_both r x there apart is_next is_prev
      | inr not_prev ↦ went_next r x there apart is_next not_prev
    ]
    | inr not_next ↦ elim (cases_eq r l.prev) [
      | inl is_prev ↦ went_prev r x there apart not_next is_prev
      | inr not_prev ↦ went_other r x there apart not_next not_prev
    ]
  ]

  -- Every index that has links had links before.
  was : (r : ℕ) (y : Links) → n3 r ≡ Some y → r ≢ p → (x : Links) × (nodes r ≡ Some x)
  was r y there apart = elim (cases_eq r l.next) [
    | inl is_next ↦ let k = ring.next p l at in (k.0, ap nodes is_next ∙ k.1)
    | inr not_next ↦ elim (cases_eq r l.prev) [
      | inl is_prev ↦ (b, ap nodes is_prev ∙ b_at)
      | inr not_prev ↦
          (y, sym (first.others r not_prev) ∙ sym (second.others r not_next) ∙ sym (rest r apart) ∙ there)
    ]
  ]

  not_it : (r : ℕ) (y : Links) → n3 r ≡ Some y → r ≢ p
  not_it r y there is = let e : Some y ≡ None = sym there ∙ ap n3 is ∙ gone in absurd (search rules)

  came : (r : ℕ) (y : Links) → n3 r ≡ Some y → (x : Links) × (nodes r ≡ Some x) × (r ≢ p) × LeadsPast p l x y
  came r y there =
      let apart = not_it r y there in
      let x = was r y there apart in
      let z = went r x.0 x.1 apart in
      let it : z.0 ≡ y = same (n3 r) z.0 y z.1 there in
      (x.0, x.1, apart, subst (λ (w : Links). LeadsPast p l x.0 w) it z.2)

  pub Leaves-relinked : Leaves nodes n3 p l
  Leaves-relinked = record { came = came; went = went }

-- The same lemmas for the slots.
pub IsLinked-leaves : (e0 e1 e2 : Links) (s0 s1 s2 : List (Option Links)) (p : ℕ) (y : Option Links) (l b h : Links)
    → IsLinked e0 s0 → is_some (get_or s0 p None) ≡ true → nodes_of e0 s0 p ≡ Some l
    → nodes_of e0 s0 l.prev ≡ Some b
    → Relinked (nodes_of e0 s0) (nodes_of e1 s1) l.prev (record { next = l.next; prev = b.prev })
    → nodes_of e1 s1 l.next ≡ Some h
    → Relinked (nodes_of e1 s1) (nodes_of e2 s2) l.next (record { next = h.next; prev = l.prev })
    → map is_some s2 ≡ map is_some s0 → y ≡ None → IsLinked e2 (set s2 p y)
IsLinked-leaves e0 e1 e2 s0 s1 s2 p y l b h linked free at b_at first h_at second same gone =
    let lt : p < length s0 = within s0 p free in
    let lt2 : p < length s2 = within s2 p (marked_same s2 s0 p same ∙ free) in
    let apart : p ≢ list_end = λ is. absurd (omega (arith, lt, linked.small, is)) in
    let left : nodes_of e2 (set s2 p y) p ≡ None =
    nodes-block e2 (set s2 p y) p apart ∙ get_or-set_same s2 p y None lt2 ∙ gone in
    record {
      small = omega (arith, linked.small, length-set s2 p y, length_same s2 s0 same);
      rank = linked.rank;
      ring =
          IsRing-leaves (nodes_of e0 s0) linked.rank linked.ring (nodes_of e2 (set s2 p y)) p l at apart
          (Leaves-relinked (nodes_of e0 s0) linked.rank linked.ring p l at b h (nodes_of e1 s1) (nodes_of e2 s2)
          (nodes_of e2 (set s2 p y)) b_at first h_at second left (nodes-set_other e2 s2 p y));
    }
