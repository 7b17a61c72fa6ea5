-- No two runs of the table share an address.
use Rattle.std.proofs.Common.{◌≡◌, ℕ, ◌+◌, ◌-◌, ◌*◌, ◌/◌, ◌%◌, ◌≤◌, Bool, true, ◌&&◌, ◌||◌, not, nat_lt, ◌==◌, List, [], ◌∷◌, refl, ap, sym, ◌∙◌, inl, inr, arith}
use Rattle.std.specs.Prelude.{AllPairs, All}
use Rattle.std.specs.List.{list_all}
use Rattle.std.proofs.lemmas.Bool.{both_ways, not-true, eq-eqb, and_parts, or_cases, ltb-true, eqb-true}
use Rattle.std.proofs.lemmas.List.Kept.{AllPairs-cons}
use Rattle.std.proofs.lemmas.List.Elements.{All-cons, All-nil}
use Rattle.std.proofs.Math.Nat.{add-mul-mod_self_left, div-add-mod}
use Rattle.reg_table.specs.Run.{Run, has_address}
use Rattle.reg_table.specs.Runs.{runs}
use Rattle.reg_table.specs.Laws.{IsApart}
use Rattle.reg_table.proofs.Steps.{last, starts_after, ends_before, in_step, has_address-true}

-- Whether two runs are disjoint, computed from their first and last addresses and their strides.
abbrev pub apart : Run → Run → Bool
apart r s =
    nat_lt (last r) s.first || nat_lt (last s) r.first
    || ((r.stride == s.stride) && not (r.first % r.stride == s.first % s.stride))

abbrev pub all_apart : List Run → Bool
all_apart [] = true
all_apart (r ∷ rs) = list_all (apart r) rs && all_apart rs

residue : (first stride a : ℕ) → first ≤ a → (a - first) % stride ≡ 0 → a % stride ≡ first % stride
residue first stride a l w =
    let split : stride * ((a - first) / stride) + (a - first) % stride ≡ a - first = div-add-mod (a - first) stride in
    let whole : a ≡ first + stride * ((a - first) / stride) = omega arith in
    ap (λ x. x % stride) whole ∙ add-mul-mod_self_left first stride ((a - first) / stride)

same_residue : (r q : Run) (a : ℕ) → has_address r a ≡ true → has_address q a ≡ true → r.stride ≡ q.stride
    → r.first % r.stride ≡ q.first % q.stride
same_residue r q a h i e =
    sym (residue r.first r.stride a (starts_after r a h) (in_step r a h)) ∙ ap (λ n. a % n) e
    ∙ residue q.first q.stride a (starts_after q a i) (in_step q a i)

pub not_both : (r q : Run) (a : ℕ) → has_address r a ≡ true → has_address q a ≡ true → apart r q ≡ true → ⊥
not_both r q a h i e =
    elim (or_cases (nat_lt (last r) q.first || nat_lt (last q) r.first) ((r.stride == q.stride)
    && not (r.first % r.stride == q.first % q.stride)) e) [
      | inl far ↦ elim (or_cases (nat_lt (last r) q.first) (nat_lt (last q) r.first) far) [
        | inl x ↦ let y = ltb-true _ _ x in let l = starts_after q a i in let m = ends_before r a h in
            absurd (omega arith)
        | inr x ↦ let y = ltb-true _ _ x in let l = starts_after r a h in let m = ends_before q a i in
            absurd (omega arith)
      ]
      | inr x ↦ let y = and_parts (r.stride == q.stride) (not (r.first % r.stride == q.first % q.stride)) x in
          both_ways _ (not-true _ y.1) (eq-eqb _ _ (same_residue r q a h i (eqb-true _ _ y.0)))
    ]

IsApart-from_apart : (r q : Run) → apart r q ≡ true → IsApart r q
IsApart-from_apart r q e a p p' i j = not_both r q a (has_address-true r a p i) (has_address-true q a p' j) e

all_from_apart : (r : Run) (rs : List Run) → list_all (apart r) rs ≡ true → All (IsApart r) rs
all_from_apart r [] e = All-nil (IsApart r)
all_from_apart r (q ∷ rs) e =
    let f = and_parts (apart r q) (list_all (apart r) rs) e in
    All-cons (IsApart r) q rs (IsApart-from_apart r q f.0) (all_from_apart r rs f.1)

pairs_apart : (rs : List Run) → all_apart rs ≡ true → AllPairs IsApart rs
pairs_apart [] e = λ i j d h k. absurd (omega arith)
pairs_apart (r ∷ rs) e =
    let v = and_parts (list_all (apart r) rs) (all_apart rs) e in
    AllPairs-cons IsApart r rs (all_from_apart r rs v.0) (pairs_apart rs v.1)

-- No two runs of the table share an address.
pub table_apart : all_apart runs ≡ true
unfolding runs
table_apart = refl

pub table_pairs_apart : AllPairs IsApart runs
table_pairs_apart = pairs_apart runs table_apart
