-- Lemmas about an ordered map from names to numbers, viewed as a table of names.
use Rattle.std.proofs.Common.{map, ◌≡◌, ℕ, true, false, cond, Some, List, [], ◌∷◌, refl, sym, ap, ◌∙◌}
use Rattle.std.specs.BTreeMap as tree
use Rattle.std.specs.Cmp.{eq_by_cmp_equiv}
use Rattle.std.specs.Cmp.Lexicographic.{slice_cmp, nat_list_cmp_total}
use Rattle.std.specs.FinMap as fin
use Rattle.std.specs.Map.{update, lookup}
use Rattle.std.specs.Ordering.{nat_cmp, is_eq}
use Rattle.std.proofs.lemmas.Map.Text.{is_eq-slice_cmp}
use Rattle.script_asm.specs.Prelude.{BTreeMap, bytes_eq}
use Rattle.script_asm.specs.Places.{Places, place_of, with_place, shown}
use denote.Ref.{Bor}

abbrev Names : Type 0
Names = BTreeMap (Bor (List ℕ)) ℕ

find_shown : (es : List (Bor (List ℕ) × ℕ)) (q : List ℕ)
    → fin.find (slice_cmp nat_cmp) q (map (λ e. (e.0.now, e.1)) es)
    ≡ lookup (tree.is_at (λ k. slice_cmp nat_cmp q k.now)) es
find_shown [] q = refl
find_shown (e ∷ es) q =
    elim (is_eq (slice_cmp nat_cmp q e.0.now)) as
    (λ t. cond t (Some e.1) (fin.find (slice_cmp nat_cmp) q (map (λ e. (e.0.now, e.1)) es))
    ≡ cond t (Some e.1) (lookup (tree.is_at (λ k. slice_cmp nat_cmp q k.now)) es)) [
      | true ↦ refl
      | false ↦ find_shown es q
    ]

-- A name's number is the value that the map has for the name.
pub place_of-shown : (m : Names) (q : List ℕ) → place_of (shown m) q ≡ tree.get_by (λ k. slice_cmp nat_cmp q k.now) m
place_of-shown m q = fin.get-from_entries nat_list_cmp_total _ q ∙ find_shown m.entries q

-- A name's number after another name is defined.
pub place_of-with_place : (places : Places) (name : List ℕ) (number : ℕ) (q : List ℕ)
    → place_of (with_place places name number) q ≡ cond (bytes_eq name q) (Some number) (place_of places q)
place_of-with_place places name number q =
    fin.get-insert nat_list_cmp_total places name number q
    ∙ ap (λ b. cond b (Some number) (place_of places q)) ((eq_by_cmp_equiv nat_list_cmp_total).symm q name
    ∙ is_eq-slice_cmp name q)

-- Inserting a name into the map defines that name's number.
pub shown-inserted : (m n : Names) (name : List ℕ) (number : ℕ)
    → ((q : List ℕ) → tree.get_by (λ k. slice_cmp nat_cmp q k.now) n
    ≡ update bytes_eq (λ ds. tree.get_by (λ k. slice_cmp nat_cmp ds k.now) m) name (Some number) q)
    → shown n ≡ with_place (shown m) name number
shown-inserted m n name number changed =
    fin.same_map nat_list_cmp_total (fin.slice_cmp-IsAntisymmetric fin.nat_cmp-IsAntisymmetric) (shown n)
    (with_place (shown m) name number)
    (λ q. place_of-shown n q ∙ changed q ∙ ap (cond (bytes_eq name q) (Some number)) (sym (place_of-shown m q))
    ∙ sym (place_of-with_place (shown m) name number q))
