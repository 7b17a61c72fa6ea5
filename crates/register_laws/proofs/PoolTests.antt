-- Lemmas about tests with parts that are always true or always false.
use Rattle.std.proofs.Common.{◌≡◌, Bool, true, false, ◌&&◌, ◌||◌, refl, arith}

pub and-true : (a : Bool) → (a && true) ≡ a
and-true true = refl
and-true false = refl

pub and-false : (a : Bool) → (a && false) ≡ false
and-false true = refl
and-false false = refl

pub both_ways_round : (a : Bool) → (a || false) ≡ (a && true)
both_ways_round true = refl
both_ways_round false = refl

pub first_alone : (a b : Bool) → ((a && true) || (b && false)) ≡ a
first_alone a b = grind arith

pub second_alone : (a b : Bool) → ((a && false) || (b && true)) ≡ b
second_alone a b = grind arith

pub own_alone : (c a b : Bool) → (c || ((a && false) || (b && false))) ≡ c
own_alone c a b = grind arith
