-- Lemmas about the value of a step that may be refused.
use Rattle.std.proofs.Common.{◌≡◌, refl, Bool, true, false, cond, Option, Some, None, Result, Ok, Err, IfOk, IfSome, subst}
use Rattle.script_asm.specs.Prelude.{ok_or}
use Rattle.script_asm.specs.Fault.{◌then◌, both}
use Rattle.script_asm.specs.declared.faults.LineFault.{LineFault}

-- A property of the second step's values is a property of both steps' values.
pub then-IfOk : {A B E : Type 0} (P : B → Type 0) (r : Result A E) (f : A → Result B E) → ((x : A) → IfOk (f x) P)
    → IfOk (r then f) P
then-IfOk P (Ok x) f h = h x
then-IfOk P (Err e) f h = tt

-- The same holds if the second step needs a property of the first step's value.
pub then-IfOk_of : {A B E : Type 0} (P : B → Type 0) (Q : A → Type 0) (r : Result A E) (f : A → Result B E) → IfOk r Q
    → ((x : A) → Q x → IfOk (f x) P) → IfOk (r then f) P
then-IfOk_of P Q (Ok x) f is h = h x is
then-IfOk_of P Q (Err e) f is h = tt

-- The same holds for three steps, the second of which can't be refused.
pub then_then-IfOk : {A B C E : Type 0} (P : C → Type 0) (Q : A → Type 0) (r : Result A E) (f : A → B)
    (g : B → Result C E) → IfOk r Q → ((x : A) → Q x → IfOk (g (f x)) P) → IfOk ((r then λ x. Ok (f x)) then g) P
then_then-IfOk P Q (Ok x) f g is h = h x is
then_then-IfOk P Q (Err e) f g is h = tt

pub cond-IfOk : {B E : Type 0} (P : B → Type 0) (b : Bool) (r s : Result B E) → IfOk r P → IfOk s P
    → IfOk (cond b r s) P
cond-IfOk P true r s h k = h
cond-IfOk P false r s h k = k

pub both-first : {A B : Type 0} (P : A → Type 0) (r : Result A LineFault) (q : Result B LineFault) → IfOk r P
    → IfOk (both r q) (λ found. P found.0)
both-first P (Ok a) (Ok b) h = h
both-first P (Ok a) (Err fault) h = tt
both-first P (Err fault) (Ok b) h = tt
both-first P (Err fault) (Err other) h = tt

pub both-second : {A B : Type 0} (P : B → Type 0) (r : Result A LineFault) (q : Result B LineFault) → IfOk q P
    → IfOk (both r q) (λ found. P found.1)
both-second P (Ok a) (Ok b) h = h
both-second P (Ok a) (Err fault) h = tt
both-second P (Err fault) (Ok b) h = tt
both-second P (Err fault) (Err other) h = tt

pub ok_or-IfOk : {A E : Type 0} (P : A → Type 0) (o : Option A) (e : E) → IfSome o P → IfOk (ok_or o e) P
ok_or-IfOk P (Some x) e h = h
ok_or-IfOk P None e h = tt

pub IfOk-of : {A E : Type 0} (P : A → Type 0) (r : Result A E) (x : A) → r ≡ Ok x → IfOk r P → P x
IfOk-of P r x is h = let P2 : Result _ _ → Type 0 = λ q. IfOk q P in subst P2 is h

-- If two steps together returned a value, then the first step returned a value, and the second step returned the
-- result.
pub stepped : {A B E : Type 0} (r : Result A E) (f : A → Result B E) (y : B) → (r then f) ≡ Ok y
    → (x : A) × (r ≡ Ok x) × (f x ≡ Ok y)
stepped (Ok x) f y e = (x, refl, e)
stepped (Err fault) f y e = cc

-- The same holds for three steps, the second of which can't be refused.
pub stepped_on : {A B C E : Type 0} (r : Result A E) (f : A → B) (g : B → Result C E) (y : C)
    → ((r then λ x. Ok (f x)) then g) ≡ Ok y → (x : A) × (r ≡ Ok x) × (g (f x) ≡ Ok y)
stepped_on (Ok x) f g y e = (x, refl, e)
stepped_on (Err fault) f g y e = cc

-- If a guarded value is present, the test was true.
pub passed : {A E : Type 0} (test : Bool) (x y : A) (e : E) → cond test (Ok x) (Err e) ≡ Ok y
    → (test ≡ true) × (x ≡ y)
passed true x y e is = (refl, cc)
passed false x y e is = cc
