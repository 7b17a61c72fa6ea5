-- Lemmas about the list of free blocks: removing a block, inserting a block, and the empty list.
use Rattle.std.proofs.Common.{◌≡◌, ◌≢◌, ℕ, zero, suc, ◌<◌, inl, inr, Option, Some, sym, ap, ◌∙◌, arith, rules}
use Rattle.std.proofs.lemmas.Bool.{cases_eq}
use Rattle.dma_arena.specs.Links.{Nodes, list_end, IsRing, Leaves}
use Rattle.dma_arena.specs.declared.links.Links.{Links}

-- A node has exactly one pair of links.
pub same : (o : Option Links) (l m : Links) → o ≡ Some l → o ≡ Some m → l ≡ m
same o l m h k = let e : Some l ≡ Some m = sym h ∙ k in search rules

module _ (nodes : Nodes) (rank : ℕ → ℕ) (ring : IsRing nodes rank) where
  -- A block isn't its own neighbour.
  pub next_other : (p : ℕ) (l : Links) → nodes p ≡ Some l → p ≢ list_end → l.next ≢ p
  next_other p l at ne e = let lt : rank l.next < rank p = ring.falls p l at ne in
      absurd (omega (arith, lt, ap rank e))

  pub prev_other : (p : ℕ) (l : Links) → nodes p ≡ Some l → p ≢ list_end → l.prev ≢ p
  prev_other p l at ne e =
      let m = ring.prev p l at in
      let it : l ≡ m.0 = same (nodes p) l m.0 at (ap nodes (sym e) ∙ m.1) in
      next_other p l at ne (ap (λ (x : Links). x.next) it ∙ m.2)

  -- If the `next` link at `r` is `p`, then the `prev` link at `p` is `r`.
  pub before : (r p : ℕ) (x l : Links) → nodes r ≡ Some x → nodes p ≡ Some l → x.next ≡ p → l.prev ≡ r
  before r p x l there at e =
      let m = ring.next r x there in
      let it : l ≡ m.0 = same (nodes p) l m.0 at (ap nodes (sym e) ∙ m.1) in
      ap (λ (y : Links). y.prev) it ∙ m.2

  pub after : (r p : ℕ) (x l : Links) → nodes r ≡ Some x → nodes p ≡ Some l → x.prev ≡ p → l.next ≡ r
  after r p x l there at e =
      let m = ring.prev r x there in
      let it : l ≡ m.0 = same (nodes p) l m.0 at (ap nodes (sym e) ∙ m.1) in
      ap (λ (y : Links). y.next) it ∙ m.2

  -- A list whose end is linked to itself contains no block.
  pub no_block : (e : Links) → nodes list_end ≡ Some e → e.next ≡ list_end
      → (n p : ℕ) (l : Links) → rank p < n → p ≢ list_end → nodes p ≡ Some l → ⊥
  no_block e at first zero p l lt ne there = absurd (omega arith)
  no_block e at first (suc n) p l lt ne there =
      let m = ring.next p l there in
      let falls : rank l.next < rank p = ring.falls p l there ne in
      elim (cases_eq l.next list_end) [
        | inl last ↦ ne (sym (before p list_end l e there at last) ∙ before list_end list_end e e at at first)
        | inr more ↦ no_block e at first n l.next m.0 (omega (arith, falls, lt)) more m.1
      ]

  -- A block is removed from the list.
  module _ (new : Nodes) (p : ℕ) (l : Links) (at : nodes p ≡ Some l) (ne : p ≢ list_end)
      (left : Leaves nodes new p l) where
    leave_next : (r : ℕ) (y : Links) → new r ≡ Some y → (m : Links) × (new y.next ≡ Some m) × (m.prev ≡ r)
    leave_next r y there =
        let x = left.came r y there in
        elim (cases_eq x.0.next p) [
          | inl to ↦
              let k = ring.next p l at in
              let z = left.went l.next k.0 k.1 (next_other p l at ne) in (
                z.0,
                ap new (x.3.next_past to) ∙ z.1,
                z.2.prev_past k.2 ∙ before r p x.0 l x.1 at to,
              )
          | inr other ↦
              let k = ring.next r x.0 x.1 in
              let z = left.went x.0.next k.0 k.1 other in (
                z.0,
                ap new (x.3.next_kept other) ∙ z.1,
                z.2.prev_kept (λ e. x.2 (sym k.2 ∙ e)) ∙ k.2,
              )
        ]

    leave_prev : (r : ℕ) (y : Links) → new r ≡ Some y → (m : Links) × (new y.prev ≡ Some m) × (m.next ≡ r)
    leave_prev r y there =
        let x = left.came r y there in
        elim (cases_eq x.0.prev p) [
          | inl to ↦
              let k = ring.prev p l at in
              let z = left.went l.prev k.0 k.1 (prev_other p l at ne) in (
                z.0,
                ap new (x.3.prev_past to) ∙ z.1,
                z.2.next_past k.2 ∙ after r p x.0 l x.1 at to,
              )
          | inr other ↦
              let k = ring.prev r x.0 x.1 in
              let z = left.went x.0.prev k.0 k.1 other in (
                z.0,
                ap new (x.3.prev_kept other) ∙ z.1,
                z.2.next_kept (λ e. x.2 (sym k.2 ∙ e)) ∙ k.2,
              )
        ]

    leave_falls : (r : ℕ) (y : Links) → new r ≡ Some y → r ≢ list_end → rank y.next < rank r
    leave_falls r y there apart =
        let x = left.came r y there in
        let falls : rank x.0.next < rank r = ring.falls r x.0 x.1 apart in
        elim (cases_eq x.0.next p) [
          | inl to ↦
              let more : rank l.next < rank p = ring.falls p l at ne in
              omega (arith, falls, more, ap rank to, ap rank (x.3.next_past to))
          | inr other ↦ omega (arith, falls, ap rank (x.3.next_kept other))
        ]

    pub IsRing-leaves : IsRing new rank
    IsRing-leaves = record { next = leave_next; prev = leave_prev; falls = leave_falls }
