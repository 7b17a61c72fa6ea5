-- Proves that the numbers written in a line are in range.
use Rattle.std.proofs.Common.{◌≡◌, ◌<◌, refl, ℕ, Bool, true, false, cond, nat_lt, List, [], ◌∷◌, Result, Ok, Err, IfOk, codes}
use Rattle.script_asm.specs.Prelude.{AllByRecursion, IsGroup, bytes_eq}
use Rattle.script_asm.proofs.Prelude.{ltb-true}
use Rattle.script_asm.specs.Fault.{both}
use Rattle.script_asm.specs.Operation.{Draft, looked_up, table_alone, table_of_one, table_of_two, table_of_three}
use Rattle.script_asm.specs.Operation.{instruction_in, direction_in, link_in, group_in, number16_in}
use Rattle.script_asm.specs.Resolved.{IsInRange}
use Rattle.script_asm.specs.Target.{number_in, number_below, name_in, target_of}
use Rattle.script_asm.specs.declared.faults.LineFault.{LineFault}
use Rattle.script_asm.specs.declared.faults.LineFault.TheVariants.{Range}
use Rattle.script_asm.proofs.Outcomes.{then-IfOk, then-IfOk_of, cond-IfOk, both-first, both-second}

pub number_below-fits : (limit : ℕ) (word : List ℕ) → IfOk (number_below limit word) (λ number. number < limit)
number_below-fits limit word =
    then-IfOk {E = LineFault} (λ number. number < limit) (number_in word) _
    (λ number. fits number (nat_lt number limit) refl)
  where
    fits : (number : ℕ) (b : Bool) → nat_lt number limit ≡ b
        → IfOk {E = LineFault} (cond b (Ok number) (Err Range)) (λ number. number < limit)
    fits number true is = ltb-true number limit is
    fits number false is = tt

number16_in-fits : (word : List ℕ) → IfOk (number16_in word) (λ number. number < 65536)
number16_in-fits word = number_below-fits 65536 word

group_in-fits : (word : List ℕ) → IfOk (group_in word) IsGroup
group_in-fits word =
    cond-IfOk {E = LineFault} IsGroup (bytes_eq word (codes "pf")) _ _ tt
    (then-IfOk_of {E = LineFault} IsGroup (λ v. v < 63) (number_below 63 word) _ (number_below-fits 63 word)
    (λ v small. small))

abbrev R : Draft → Type 0
R d = IsInRange d

-- If each row of a table has a property, the result of a lookup has this property.
looked_up-IfOk : (name : List ℕ) (table : List (List ℕ × Result Draft LineFault))
    → AllByRecursion (λ row. IfOk row.1 R) table → IfOk (looked_up name table) R
looked_up-IfOk name [] all = tt
looked_up-IfOk name (row ∷ more) all =
    cond-IfOk R (bytes_eq name row.0) row.1 (looked_up name more) all.0 (looked_up-IfOk name more all.1)

ranges_of_one : (a : List ℕ) → AllByRecursion (λ row. IfOk row.1 R) (table_of_one a)
ranges_of_one a = (
  then-IfOk R (target_of a) _ (λ x. tt),
  (
    then-IfOk_of R (λ n. n < 65536) (number16_in a) _ (number16_in-fits a) (λ n fits. fits),
    (
      then-IfOk_of R (λ n. n < 65536) (number16_in a) _ (number16_in-fits a) (λ n fits. fits),
      (
        then-IfOk R (name_in a) _ (λ x. tt),
        (
          then-IfOk_of R (λ n. n < 65536) (number16_in a) _ (number16_in-fits a) (λ n fits. fits),
          (
            then-IfOk_of R IsGroup (group_in a) _ (group_in-fits a) (λ n fits. fits),
            (
              then-IfOk R (link_in a) _ (λ x. tt),
              (
                then-IfOk R (number_in a) _ (λ x. tt),
                (
                  then-IfOk R (number_in a) _ (λ x. tt),
                  (
                    then-IfOk R (name_in a) _ (λ x. tt),
                    tt,
                  ),
                ),
              ),
            ),
          ),
        ),
      ),
    ),
  ),
)

ranges_of_two : (a b : List ℕ) → AllByRecursion (λ row. IfOk row.1 R) (table_of_two a b)
ranges_of_two a b = (
  then-IfOk R (both (target_of a) (number_in b)) _ (λ x. tt),
  (
    then-IfOk_of R (λ f. f.0 < 63) (both (number_below 63 a) (number_in b)) _
        (both-first (λ n. n < 63) (number_below 63 a) (number_in b) (number_below-fits 63 a)) (λ f fits. fits),
    (
      then-IfOk R (both (number_in a) (name_in b)) _ (λ x. tt),
      (
        then-IfOk_of R (λ f. f.1 < 4) (both (number_in a) (number_below 4 b)) _
            (both-second (λ n. n < 4) (number_in a) (number_below 4 b) (number_below-fits 4 b)) (λ f fits. fits),
        (
          then-IfOk_of R (λ f. f.1 < 65536) (both (direction_in a) (number16_in b)) _
              (both-second (λ n. n < 65536) (direction_in a) (number16_in b) (number16_in-fits b)) (λ f fits. fits),
          (
            then-IfOk R (both (number_in a) (number_in b)) _ (λ x. tt),
            (
              then-IfOk R (both (number_in a) (name_in b)) _ (λ x. tt),
              (
                then-IfOk R (both (number_in a) (name_in b)) _ (λ x. tt),
                tt,
              ),
            ),
          ),
        ),
      ),
    ),
  ),
)

ranges_of_three : (a b c : List ℕ) → AllByRecursion (λ row. IfOk row.1 R) (table_of_three a b c)
ranges_of_three a b c = (
  then-IfOk_of R (λ f. f.0 < 63) (both (number_below 63 a) (both (number_in b) (number_in c))) _
      (both-first (λ n. n < 63) (number_below 63 a) (both (number_in b) (number_in c)) (number_below-fits 63 a))
      (λ f fits. fits),
  tt,
)

pub instruction_in-range : (name : List ℕ) (operands : List (List ℕ)) → IfOk (instruction_in name operands) IsInRange
instruction_in-range name [] = looked_up-IfOk name table_alone (tt, (tt, (tt, (tt, tt))))
instruction_in-range name (a ∷ []) = looked_up-IfOk name (table_of_one a) (ranges_of_one a)
instruction_in-range name (a ∷ b ∷ []) = looked_up-IfOk name (table_of_two a b) (ranges_of_two a b)
instruction_in-range name (a ∷ b ∷ c ∷ []) = looked_up-IfOk name (table_of_three a b c) (ranges_of_three a b c)
instruction_in-range name (a ∷ b ∷ c ∷ d ∷ more) = tt
