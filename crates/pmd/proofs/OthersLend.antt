-- Lemmas: the test of a history decides whether nobody else lends a driver's blocks.
use Rattle.std.proofs.Common.{◌≡◌, ◌≢◌, ℕ, zero, suc, ◌+◌, ◌<◌, ◌≤◌, inl, inr, Bool, true, false, not, ◌&&◌, ◌||◌, List, [], ◌∷◌, refl, sym, ap, ◌∙◌, subst, arith}
use Rattle.std.specs.Prelude.{◌==◌, ◌↔◌, IsTrue}
use Rattle.std.proofs.lemmas.Bool.{and_from, and_parts, cases_eq, eq-eqb, le-leb, leb-true, lt-ltb, ltb-true, ne_eqb, not-true}
use Rattle.pmd_driver.specs.DeviceLock.Alone.{Blocks}
use Rattle.pmd_driver.specs.DeviceLock.Watching.{none_of}
use Rattle.pmd_driver.specs.DeviceLock.declared.alone.Watched.{Watched}
use Rattle.pmd_driver.specs.DeviceLock.declared.entry.Entry.{Entry}
use Rattle.pmd.specs.Before.{holds_of, known_before}
use Rattle.pmd.specs.Lending.{NoneLentBefore, OnlyPassLends, OthersLendNone, are_from, lends_none, lent_after, lent_through, no_block, only_pass_lends}
use Rattle.pmd.proofs.FirstOwn.{test_decides}

-- Whether no other pass lends, decided entry by entry.

module _ (pass : ℕ) (own : Blocks) where
  own_or : (e : Entry) → (e.pass ≢ pass → lends_none own e.event ≡ true)
      → ((e.pass == pass) || lends_none own e.event) ≡ true
  own_or e none = elim (cases_eq e.pass pass) [
    | inl same ↦ rw (eq-eqb e.pass pass same) refl
    | inr other ↦ rw (ne_eqb e.pass pass other) (none other)
  ]

  or_other : (e : Entry) → ((e.pass == pass) || lends_none own e.event) ≡ true → e.pass ≢ pass
      → lends_none own e.event ≡ true
  or_other e is other = subst (λ b. (b || lends_none own e.event) ≡ true) (ne_eqb e.pass pass other) is

  pub only_decides : (h : List Entry) → (only_pass_lends pass own h ≡ true) ↔ OnlyPassLends pass own h
  only_decides [] = ((λ is. tt), λ none. refl)
  only_decides (e ∷ es) =
      let more = only_decides es in (
        λ is. let parts = and_parts _ _ is in (or_other e parts.0, more.0 parts.1),
        λ none. and_from _ _ (own_or e none.0) (more.1 none.1),
      )

-- None of the `c` blocks is lent.

none_each : (lent : Blocks) (n c k : ℕ) → none_of lent n c ≡ true → n ≤ k → k < n + c → lent k ≡ false
unfolding none_of
none_each lent n zero k is low high = absurd (omega arith)
none_each lent n (suc c) k is low high =
    let parts = and_parts _ _ is in
    elim (cases_eq k n) [
      | inl same ↦ rw same (not-true _ parts.0)
      | inr other ↦ none_each lent (n + 1) c k parts.1 (omega (arith, other)) (omega arith)
    ]

none_from : (lent : Blocks) (n c : ℕ) → ((k : ℕ) → n ≤ k → k < n + c → lent k ≡ false) → none_of lent n c ≡ true
unfolding none_of
none_from lent n zero none = refl
none_from lent n (suc c) none =
    and_from _ _ (ap not (none n (omega arith) (omega arith)))
    (none_from lent (n + 1) c (λ k low high. none k (omega arith) (omega arith)))

none_decides : (lent : Blocks) (first count : ℕ)
    → (none_of lent first count ≡ true)
    ↔ ((number : ℕ) → are_from first count number ≡ true → lent number ≡ false)
none_decides lent first count = (
  λ is number own.
      let parts = and_parts _ _ own in
      none_each lent first count number is (leb-true first number parts.0) (ltb-true number (first + count) parts.1),
  λ none.
      none_from lent first count (λ k low high.
      none k (and_from _ _ (le-leb first k low) (lt-ltb k (first + count) high))),
)

-- The two tests together decide whether nobody else lends the blocks.

none_before_decides : (w : Watched) (from first count : ℕ) (h : List Entry)
    → (holds_of (λ lent. none_of lent first count) (known_before lent_after w no_block from h) ≡ true)
    ↔ NoneLentBefore w from (are_from first count) h
none_before_decides w from first count h =
    let decides = test_decides lent_after w (λ lent. none_of lent first count) no_block from h _ refl in (
      λ is old long x. (none_decides (lent_through x.before) first count).0 (decides.0 is old long x),
      λ none. decides.1 (λ old long x. (none_decides (lent_through x.before) first count).1 (none old long x)),
    )

pub others_decide : (w : Watched) (from first count : ℕ) (h : List Entry) (only none : Bool)
    → only ≡ only_pass_lends w.pass (are_from first count) h
    → none ≡ holds_of (λ lent. none_of lent first count) (known_before lent_after w no_block from h)
    → IsTrue (only && none) ↔ OthersLendNone w from (are_from first count) h
others_decide w from first count h only none is_only is_none =
    let only_so = only_decides w.pass (are_from first count) h in
    let none_so = none_before_decides w from first count h in (
      λ is.
          let parts = and_parts only none is in record {
            others = only_so.0 (sym is_only ∙ parts.0);
            none = none_so.0 (sym is_none ∙ parts.1);
          },
      λ x. and_from only none (is_only ∙ only_so.1 x.others) (is_none ∙ none_so.1 x.none),
    )
