-- If a run in a list of disjoint runs has an address, that run is the first one that has the address.
use Rattle.std.proofs.Common.{◌≡◌, ℕ, Bool, true, false, ◌&&◌, ◌==◌, List, [], ◌∷◌, Some, if◌then◌else◌, refl, sym, subst, inl, inr}
use Rattle.std.specs.Bool.{beq}
use Rattle.std.specs.List.{list_all, list_any}
use Rattle.std.proofs.lemmas.Bool.{and_parts, or_cases, eqb-true, false_from_ne_true}
use Rattle.reg_table.specs.declared.access.Access.{Access}
use Rattle.reg_table.specs.Rows.{number_of}
use Rattle.reg_table.specs.Run.{Run, has_address, place_in}
use Rattle.reg_table.specs.Place.{place_among, view_among}
use Rattle.reg_table.specs.Access.{access_of}
use Rattle.reg_table.proofs.Apart.{apart, all_apart, not_both}
use Rattle.reg_table.proofs.FirstAddresses.{same_number}

-- Whether two runs are equal.
abbrev pub same_run : Run → Run → Bool
same_run r q =
    (number_of r.row == number_of q.row) && (r.first == q.first) && (r.stride == q.stride)
    && (r.first_index == q.first_index) && (r.count == q.count) && beq r.low q.low

-- Whether the run is in the list.
abbrev pub stands : Run → List Run → Bool
stands r rs = list_any (same_run r) rs

-- The bits that a run shows.
abbrev pub view_in : Run → ℕ
view_in r = if r.low then 0xFFFF else 0xFFFFFFFF

-- The access that a run has at one of its addresses.
abbrev pub access_in : Run → ℕ → Access
access_in r a = record { place = place_in r a; view = view_in r }

same_flag : (a b : Bool) → beq a b ≡ true → a ≡ b
same_flag true true e = refl
same_flag true false e = cc
same_flag false true e = cc
same_flag false false e = refl

all_six : (a b c d e f : Bool) → (a && b && c && d && e && f) ≡ true
    → (a ≡ true) × (b ≡ true) × (c ≡ true) × (d ≡ true) × (e ≡ true) × (f ≡ true)
all_six a b c d e f h =
    let p = and_parts (a && b && c && d && e) f h in
    let q = and_parts (a && b && c && d) e p.0 in
    let r = and_parts (a && b && c) d q.0 in
    let s = and_parts (a && b) c r.0 in
    let t = and_parts a b s.0 in (t.0, t.1, s.1, r.1, q.1, p.1)

same_run-true : (r q : Run) → same_run r q ≡ true → r ≡ q
same_run-true r q h =
    let same =
    all_six (number_of r.row == number_of q.row) (r.first == q.first) (r.stride == q.stride)
    (r.first_index == q.first_index) (r.count == q.count) (beq r.low q.low) h in
    λ k. record {
      row = same_number r.row q.row (eqb-true _ _ same.0) k;
      first = eqb-true r.first q.first same.1 k;
      stride = eqb-true r.stride q.stride same.2 k;
      first_index = eqb-true r.first_index q.first_index same.3 k;
      count = eqb-true r.count q.count same.4 k;
      low = same_flag r.low q.low same.5 k;
    }

passes : (test : Run → Bool) (r : Run) (rs : List Run) → stands r rs ≡ true → list_all test rs ≡ true → test r ≡ true
passes test r [] s t = cc
passes test r (q ∷ rs) s t =
    let u = and_parts (test q) (list_all test rs) t in
    elim (or_cases (same_run r q) (stands r rs) s) [
      | inl is ↦ subst (λ x. test x ≡ true) (sym (same_run-true r q is)) u.0
      | inr more ↦ passes test r rs more u.1
    ]

-- If a run in a list of disjoint runs has an address, that run is the first one that has the address.
pub first_with : (r : Run) (rs : List Run) (a : ℕ) → stands r rs ≡ true → all_apart rs ≡ true → has_address r a ≡ true
    → access_of (place_among rs a) (view_among rs a) ≡ Some (access_in r a)
first_with r [] a s d h = cc
first_with r (q ∷ rs) a s d h =
    let v = and_parts (list_all (apart q) rs) (all_apart rs) d in
    elim (or_cases (same_run r q) (stands r rs) s) [
      | inl is ↦ subst (λ x. access_of (place_among (x ∷ rs) a) (view_among (x ∷ rs) a) ≡ Some (access_in r a))
          (same_run-true r q is) (rw h refl)
      | inr more ↦ let far = passes (apart q) r rs more v.0 in
          let other : has_address q a ≡ false = false_from_ne_true (has_address q a) (λ i. not_both q r a i h far) in
          rw other (first_with r rs a more v.1 h)
    ]
