-- Lemmas about the names of rows, and about the bracket after a name.
use Rattle.std.proofs.Common.{◌≡◌, refl, ℕ, ◌<◌, Bool, true, false, ◌&&◌, ◌==◌, nat_lt, List, [], ◌∷◌, ◌++◌, length, length-append, arith}
use Rattle.std.proofs.Math.Seq.{take-append_seam, drop-append-add}
use Rattle.reg_table.specs.declared.rows.RowId.TheVariants.{Ctrl}
use Rattle.script_asm.specs.Prelude.{RowId, after_first, before_first, is_name, list_all, position_or_len, row_of}
use Rattle.script_asm.proofs.Prelude.{and_parts, le-ltb, lt-ltb, ltb-true, nat_tests}
use Rattle.script_asm.specs.Target.{has_byte}
use Rattle.script_asm.proofs.Numerals.{is_tame}
use Rattle.script_asm.proofs.Plain.{is_plain}

-- A row's name is a name without brackets, and the row has fewer than 65,536 registers.
pub good_row : RowId → Bool
good_row r = is_name (row_of r).name && (list_all is_tame (row_of r).name && nat_lt (row_of r).count 65536)

pub row-good : (r : RowId) → good_row r ≡ true
unfolding good_row is_name
row-good Ctrl = refl
row-good other = refl

pub record IsGood (r : RowId) : Type 0 where
  pub name : is_name (row_of r).name ≡ true
  pub tame : list_all is_tame (row_of r).name ≡ true
  pub few : (row_of r).count < 65536

pub row-IsGood : (r : RowId) → IsGood r
unfolding good_row
row-IsGood r =
    let first = and_parts (is_name (row_of r).name) (list_all is_tame (row_of r).name && nat_lt (row_of r).count 65536)
    (row-good r) in
    let second = and_parts (list_all is_tame (row_of r).name) (nat_lt (row_of r).count 65536) first.1 in
    record { name = first.0; tame = second.0; few = ltb-true (row_of r).count 65536 second.1 }

pub tame_none : (b : ℕ) → is_tame b ≡ true → (b == 91) ≡ false
tame_none b e = grind (arith, nat_tests)

pub tame_plain : (b : ℕ) → is_tame b ≡ true → is_plain b ≡ true
tame_plain b e = grind (arith, nat_tests)

-- The search for a bracket passes over bytes without one.
pub past_tame : (xs : List ℕ) → list_all is_tame xs ≡ true → position_or_len (λ b. b == 91) xs ≡ length xs
past_tame [] e = refl
past_tame (c ∷ cs) e =
    let parts = and_parts (is_tame c) (list_all is_tame cs) e in
    let rest = past_tame cs parts.1 in
    rw (tame_none c parts.0) (omega (arith, rest))

pub at_bracket : (xs ys : List ℕ) → list_all is_tame xs ≡ true
    → position_or_len (λ b. b == 91) (xs ++ 91 ∷ ys) ≡ length xs
at_bracket [] ys e = refl
at_bracket (c ∷ cs) ys e =
    let parts = and_parts (is_tame c) (list_all is_tame cs) e in
    let rest = at_bracket cs ys parts.1 in
    rw (tame_none c parts.0) (omega (arith, rest))

pub no_bracket : (xs : List ℕ) → list_all is_tame xs ≡ true → has_byte 91 xs ≡ false
no_bracket xs e = rw (past_tame xs e) (le-ltb (length xs) (length xs) (omega arith))

pub bracket : (xs ys : List ℕ) → list_all is_tame xs ≡ true → has_byte 91 (xs ++ 91 ∷ ys) ≡ true
bracket xs ys e = rw (at_bracket xs ys e)
    (lt-ltb (length xs) (length (xs ++ 91 ∷ ys)) (omega (arith, length-append xs (91 ∷ ys))))

pub before_bracket : (xs ys : List ℕ) → list_all is_tame xs ≡ true → before_first (λ b. b == 91) (xs ++ 91 ∷ ys) ≡ xs
before_bracket xs ys e = rw (at_bracket xs ys e) (take-append_seam xs (91 ∷ ys))

pub after_bracket : (xs ys : List ℕ) → list_all is_tame xs ≡ true → after_first (λ b. b == 91) (xs ++ 91 ∷ ys) ≡ ys
after_bracket xs ys e = rw (at_bracket xs ys e) (drop-append-add xs (91 ∷ ys) 1)
