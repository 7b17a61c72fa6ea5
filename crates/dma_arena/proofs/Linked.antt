-- Lemmas about inserting a block before the list's first block.
use Rattle.std.proofs.Common.{◌≡◌, ◌≢◌, ℕ, suc, ◌<◌, inl, inr, Some, None, refl, sym, ap, ◌∙◌, rules, arith, cond, eqb, true, false}
use Rattle.std.proofs.lemmas.Bool.{cases_eq}
use Rattle.std.proofs.lemmas.Bool.Decides.{nat_tests}
use Rattle.dma_arena.specs.Links.{Nodes, list_end, IsRing, Comes}
use Rattle.dma_arena.specs.declared.links.Links.{Links}
use Rattle.dma_arena.proofs.Ring.{same}

-- The ranks after an insertion: the new block has a rank above the first block's rank.
abbrev pub above : (ℕ → ℕ) → ℕ → ℕ → ℕ → ℕ
above rank p first r = cond (eqb r p) (suc (rank first)) (rank r)

above_same : (rank : ℕ → ℕ) (p first : ℕ) → above rank p first p ≡ suc (rank first)
above_same rank p first = let e : eqb p p ≡ true = grind (arith, nat_tests) in rw e refl

above_other : (rank : ℕ → ℕ) (p first r : ℕ) → r ≢ p → above rank p first r ≡ rank r
above_other rank p first r ne = let e : eqb r p ≡ false = grind (arith, nat_tests) in rw e refl

module _ (nodes : Nodes) (rank : ℕ → ℕ) (ring : IsRing nodes rank) (p : ℕ) (free : nodes p ≡ None)
    (apart : p ≢ list_end) (e : Links) (end_at : nodes list_end ≡ Some e) where
  -- The new block's index differs from every index that has links.
  linked_other : (r : ℕ) (x : Links) → nodes r ≡ Some x → r ≢ p
  linked_other r x there is = let no : Some x ≡ None = sym there ∙ ap nodes is ∙ free in absurd (search rules)

  pub first_other : e.next ≢ p
  first_other = let m = ring.next list_end e end_at in linked_other e.next m.0 m.1

  -- The block right after the end is the first block.
  after_end : (r : ℕ) (x : Links) → nodes r ≡ Some x → x.prev ≡ list_end → r ≡ e.next
  after_end r x there is =
      let m = ring.prev r x there in
      let it : e ≡ m.0 = same (nodes list_end) e m.0 end_at (ap nodes (sym is) ∙ m.1) in
      sym m.2 ∙ ap (λ (z : Links). z.next) (sym it)

  before_first : (r : ℕ) (x : Links) → nodes r ≡ Some x → x.next ≡ e.next → r ≡ list_end
  before_first r x there is =
      let m = ring.next r x there in let k = ring.next list_end e end_at in
      let it : m.0 ≡ k.0 = same (nodes e.next) m.0 k.0 (ap nodes (sym is) ∙ m.1) k.1 in
      sym m.2 ∙ ap (λ (z : Links). z.prev) it ∙ k.2

  module _ (new : Nodes) (comes : Comes nodes new p e.next) where
    come_next : (r : ℕ) (y : Links) → new r ≡ Some y → (m : Links) × (new y.next ≡ Some m) × (m.prev ≡ r)
    come_next r y there = elim (cases_eq r p) [
      | inl is ↦
          let it : y ≡ record { next = e.next; prev = list_end } =
          same (new p) y (record { next = e.next; prev = list_end }) (ap new (sym is) ∙ there) comes.there in
          let k = ring.next list_end e end_at in let z = comes.went e.next k.0 k.1 first_other in
          (z.0, ap (λ (w : Links). new w.next) it ∙ z.1, z.2.prev_to refl ∙ sym is)
      | inr other ↦
          let x = comes.came r y there other in
          elim (cases_eq r list_end) [
            | inl ends ↦ (
              record { next = e.next; prev = list_end },
              ap new (x.2.next_to ends) ∙ comes.there,
              sym ends,
            )
            | inr inner ↦
                let m = ring.next r x.0 x.1 in
                let z = comes.went x.0.next m.0 m.1 (linked_other x.0.next m.0 m.1) in (
                  z.0,
                  ap new (x.2.next_kept inner) ∙ z.1,
                  z.2.prev_kept (λ is. inner (before_first r x.0 x.1 is)) ∙ m.2,
                )
          ]
    ]

    come_prev : (r : ℕ) (y : Links) → new r ≡ Some y → (m : Links) × (new y.prev ≡ Some m) × (m.next ≡ r)
    come_prev r y there = elim (cases_eq r p) [
      | inl is ↦
          let it : y ≡ record { next = e.next; prev = list_end } =
          same (new p) y (record { next = e.next; prev = list_end }) (ap new (sym is) ∙ there) comes.there in
          let z = comes.went list_end e end_at (λ is. apart (sym is)) in
          (z.0, ap (λ (w : Links). new w.prev) it ∙ z.1, z.2.next_to refl ∙ sym is)
      | inr other ↦
          let x = comes.came r y there other in
          elim (cases_eq r e.next) [
            | inl first ↦ (
              record { next = e.next; prev = list_end },
              ap new (x.2.prev_to first) ∙ comes.there,
              sym first,
            )
            | inr inner ↦
                let m = ring.prev r x.0 x.1 in
                let z = comes.went x.0.prev m.0 m.1 (linked_other x.0.prev m.0 m.1) in (
                  z.0,
                  ap new (x.2.prev_kept inner) ∙ z.1,
                  z.2.next_kept (λ is. inner (after_end r x.0 x.1 is)) ∙ m.2,
                )
          ]
    ]

    come_falls : (r : ℕ) (y : Links) → new r ≡ Some y → r ≢ list_end
        → above rank p e.next y.next < above rank p e.next r
    come_falls r y there inner = elim (cases_eq r p) [
      | inl is ↦
          let it : y ≡ record { next = e.next; prev = list_end } =
          same (new p) y (record { next = e.next; prev = list_end }) (ap new (sym is) ∙ there) comes.there in
          let low : above rank p e.next y.next ≡ rank e.next =
          ap (λ (w : Links). above rank p e.next w.next) it ∙ above_other rank p e.next e.next first_other in
          let high : above rank p e.next r ≡ suc (rank e.next) =
          ap (above rank p e.next) is ∙ above_same rank p e.next in
          omega (arith, low, high)
      | inr other ↦
          let x = comes.came r y there other in
          let m = ring.next r x.0 x.1 in
          let falls : rank x.0.next < rank r = ring.falls r x.0 x.1 inner in
          let low : above rank p e.next y.next ≡ rank x.0.next =
          ap (above rank p e.next) (x.2.next_kept inner)
          ∙ above_other rank p e.next x.0.next (linked_other x.0.next m.0 m.1) in
          let high : above rank p e.next r ≡ rank r = above_other rank p e.next r other in
          omega (arith, falls, low, high)
    ]

    pub IsRing-comes : IsRing new (above rank p e.next)
    IsRing-comes = record { next = come_next; prev = come_prev; falls = come_falls }
