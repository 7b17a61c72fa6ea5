-- Lemmas for proving that the line of an instruction reads back as that instruction.
use Rattle.std.proofs.Common.{◌≡◌, refl, ℕ, ◌^◌, ◌<◌, List, [], ◌∷◌, Ok}
use Rattle.std.specs.Prelude.{codes, decimal}
use Rattle.program.specs.declared.instruction.Instruction.{Instruction as Step}
use Rattle.program.specs.declared.instruction.Instruction.TheVariants.{Write, Read, VfWrite, VfRead, Lend, Unlend, Poke, Peek, Arrive, RxStep, TxStep, IntStep, QueueStep, EepromStep, Link, Collect, Expect, And, JumpIfEqual, JumpUnlessEqual, Jump, Halt}
use Rattle.script_asm.specs.Prelude.{AllByRecursion, Rx, Tx, Vf, word_text}
use Rattle.script_asm.proofs.Prelude.{lt-ltb}
use Rattle.script_asm.specs.Operation.{Draft}
use Rattle.script_asm.specs.Printing.{instruction_text}
use Rattle.script_asm.specs.Statement.{statement_of}
use Rattle.script_asm.specs.Target.{number_in, number_below, name_in, target_of}
use Rattle.script_asm.specs.declared.statements.Statement.TheVariants.{Instruction}
use Rattle.script_asm.proofs.Addresses.{number_in-word}
use Rattle.script_asm.proofs.Plain.{IsWord, joined}

-- The printed names of labels and of data strings.
abbrev pub label_name : ℕ → List ℕ
label_name pc = 76 ∷ decimal pc

abbrev pub data_name : ℕ → List ℕ
data_name number = 100 ∷ decimal number

-- An instruction with its label and its data by name.
abbrev pub named : Step ℕ ℕ → Draft
named (Write address word) = Write address word
named (Read address) = Read address
named (VfWrite function offset word) = VfWrite function offset word
named (VfRead function offset) = VfRead function offset
named (Lend block) = Lend block
named (Unlend block) = Unlend block
named (Poke address number) = Poke address (data_name number)
named (Peek address word) = Peek address word
named (Arrive number) = Arrive (data_name number)
named RxStep = RxStep
named (TxStep queue) = TxStep queue
named (IntStep group) = IntStep group
named (QueueStep direction queue) = QueueStep direction queue
named EepromStep = EepromStep
named (Link up) = Link up
named Collect = Collect
named (Expect want mask) = Expect want mask
named (And word) = And word
named (JumpIfEqual word pc) = JumpIfEqual word (label_name pc)
named (JumpUnlessEqual word pc) = JumpUnlessEqual word (label_name pc)
named (Jump pc) = Jump (label_name pc)
named Halt = Halt

pub number_below-word : (limit n : ℕ) → n < limit → n < 2 ^ 32 → number_below limit (word_text n) ≡ Ok n
number_below-word limit n below small = rw (number_in-word n small, lt-ltb n limit below) refl

-- The words of an instruction's line, which read back as that instruction.
pub record ReadsBack (i : Step ℕ ℕ) : Type 0 where
  pub words : List (List ℕ)
  pub are : AllByRecursion IsWord words
  pub text : instruction_text i ≡ joined words
  pub says : statement_of words ≡ Ok (Instruction (named i))

-- Lines with one operand, with two and with three.
pub says-write : (t v : List ℕ) (a w : ℕ) → target_of t ≡ Ok a → number_in v ≡ Ok w
    → statement_of (codes "w" ∷ t ∷ v ∷ []) ≡ Ok (Instruction (Write a w))
unfolding statement_of
says-write t v a w x y = rw (x, y) refl

pub says-read : (t : List ℕ) (a : ℕ) → target_of t ≡ Ok a
    → statement_of (codes "r" ∷ t ∷ []) ≡ Ok (Instruction (Read a))
unfolding statement_of
says-read t a x = rw x refl

pub says-vw : (f o v : List ℕ) (a b c : ℕ) → number_below 63 f ≡ Ok a → number_in o ≡ Ok b → number_in v ≡ Ok c
    → statement_of (codes "vw" ∷ f ∷ o ∷ v ∷ []) ≡ Ok (Instruction (VfWrite a b c))
unfolding statement_of
says-vw f o v a b c x y z = rw (x, y, z) refl

pub says-vr : (f o : List ℕ) (a b : ℕ) → number_below 63 f ≡ Ok a → number_in o ≡ Ok b
    → statement_of (codes "vr" ∷ f ∷ o ∷ []) ≡ Ok (Instruction (VfRead a b))
unfolding statement_of
says-vr f o a b x y = rw (x, y) refl

pub says-lend : (b : List ℕ) (n : ℕ) → number_below 65536 b ≡ Ok n
    → statement_of (codes "lend" ∷ b ∷ []) ≡ Ok (Instruction (Lend n))
unfolding statement_of
says-lend b n x = rw x refl

pub says-unlend : (b : List ℕ) (n : ℕ) → number_below 65536 b ≡ Ok n
    → statement_of (codes "unlend" ∷ b ∷ []) ≡ Ok (Instruction (Unlend n))
unfolding statement_of
says-unlend b n x = rw x refl

pub says-poke : (a d name : List ℕ) (n : ℕ) → number_in a ≡ Ok n → name_in d ≡ Ok name
    → statement_of (codes "poke" ∷ a ∷ d ∷ []) ≡ Ok (Instruction (Poke n name))
unfolding statement_of
says-poke a d name n x y = rw (x, y) refl

pub says-peek : (a v : List ℕ) (n w : ℕ) → number_in a ≡ Ok n → number_below 4 v ≡ Ok w
    → statement_of (codes "peek" ∷ a ∷ v ∷ []) ≡ Ok (Instruction (Peek n w))
unfolding statement_of
says-peek a v n w x y = rw (x, y) refl

pub says-arrive : (d name : List ℕ) → name_in d ≡ Ok name
    → statement_of (codes "arrive" ∷ d ∷ []) ≡ Ok (Instruction (Arrive name))
unfolding statement_of
says-arrive d name x = rw x refl

pub says-tx : (q : List ℕ) (n : ℕ) → number_below 65536 q ≡ Ok n
    → statement_of (codes "tx" ∷ q ∷ []) ≡ Ok (Instruction (TxStep n))
unfolding statement_of
says-tx q n x = rw x refl

pub says-int : (v : ℕ) → number_below 63 (word_text v) ≡ Ok v
    → statement_of (codes "int" ∷ word_text v ∷ []) ≡ Ok (Instruction (IntStep (Vf v)))
unfolding statement_of
says-int v x = rw x refl

pub says-qstep-rx : (q : List ℕ) (n : ℕ) → number_below 65536 q ≡ Ok n
    → statement_of (codes "qstep" ∷ codes "rx" ∷ q ∷ []) ≡ Ok (Instruction (QueueStep Rx n))
unfolding statement_of
says-qstep-rx q n x = rw x refl

pub says-qstep-tx : (q : List ℕ) (n : ℕ) → number_below 65536 q ≡ Ok n
    → statement_of (codes "qstep" ∷ codes "tx" ∷ q ∷ []) ≡ Ok (Instruction (QueueStep Tx n))
unfolding statement_of
says-qstep-tx q n x = rw x refl

pub says-expect : (a b : List ℕ) (n m : ℕ) → number_in a ≡ Ok n → number_in b ≡ Ok m
    → statement_of (codes "expect" ∷ a ∷ b ∷ []) ≡ Ok (Instruction (Expect n m))
unfolding statement_of
says-expect a b n m x y = rw (x, y) refl

pub says-and : (a : List ℕ) (n : ℕ) → number_in a ≡ Ok n
    → statement_of (codes "and" ∷ a ∷ []) ≡ Ok (Instruction (And n))
unfolding statement_of
says-and a n x = rw x refl

pub says-jeq : (a l name : List ℕ) (n : ℕ) → number_in a ≡ Ok n → name_in l ≡ Ok name
    → statement_of (codes "jeq" ∷ a ∷ l ∷ []) ≡ Ok (Instruction (JumpIfEqual n name))
unfolding statement_of
says-jeq a l name n x y = rw (x, y) refl

pub says-jne : (a l name : List ℕ) (n : ℕ) → number_in a ≡ Ok n → name_in l ≡ Ok name
    → statement_of (codes "jne" ∷ a ∷ l ∷ []) ≡ Ok (Instruction (JumpUnlessEqual n name))
unfolding statement_of
says-jne a l name n x y = rw (x, y) refl

pub says-jmp : (l n : List ℕ) → name_in l ≡ Ok n → statement_of (codes "jmp" ∷ l ∷ []) ≡ Ok (Instruction (Jump n))
unfolding statement_of
says-jmp l n x = rw x refl
