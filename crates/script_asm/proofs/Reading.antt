-- Proves that each instruction of a program reads back from its line.
use Rattle.std.proofs.Common.{refl, ℕ, List, [], ◌∷◌, arith}
use Rattle.std.specs.Prelude.{codes}
use Rattle.program.specs.declared.instruction.Instruction.{Instruction as Step}
use Rattle.program.specs.declared.instruction.Instruction.TheVariants.{Write, Read, VfWrite, VfRead, Lend, Unlend, Poke, Peek, Arrive, RxStep, TxStep, IntStep, QueueStep, EepromStep, Link, Collect, Expect, And, JumpIfEqual, JumpUnlessEqual, Jump, Halt}
use Rattle.script_asm.specs.Prelude.{HaveWidths, IsSound, fields_of, word_text}
use Rattle.script_asm.specs.Printing.{target_text}
use Rattle.script_asm.specs.Statement.{statement_of}
use Rattle.script_asm.proofs.Addresses.{number_in-word, target_of-text}
use Rattle.script_asm.proofs.AddressWords.{IsWord-target}
use Rattle.script_asm.proofs.Numerals.{IsWord-word, name_in-numbered, IsWord-numbered}
use Rattle.script_asm.proofs.Spelling.{ReadsBack, label_name, data_name, number_below-word, says-write, says-read}
use Rattle.script_asm.proofs.Spelling.{says-vw, says-vr, says-lend, says-unlend, says-poke, says-peek, says-arrive}
use Rattle.script_asm.proofs.Spelling.{says-tx, says-expect, says-and, says-jeq, says-jne, says-jmp}
use Rattle.script_asm.proofs.ReadingSteps.{reads-int, reads-qstep, reads-link}

pub reads : (strings : List (List ℕ)) (count : ℕ) (i : Step ℕ ℕ) → IsSound strings count i → HaveWidths (fields_of i)
    → ReadsBack i
unfolding statement_of
reads strings count (Write address word) sound w = record {
  words = codes "w" ∷ target_text address ∷ word_text word ∷ [];
  are = (record { long = refl; plain = refl }, (IsWord-target address w.a, (IsWord-word word w.b, tt)));
  text = refl;
  says = says-write (target_text address) (word_text word) address word (target_of-text address w.a)
      (number_in-word word w.b);
}
reads strings count (Read address) sound w = record {
  words = codes "r" ∷ target_text address ∷ [];
  are = (record { long = refl; plain = refl }, (IsWord-target address w.a, tt));
  text = refl;
  says = says-read (target_text address) address (target_of-text address w.a);
}
reads strings count (VfWrite function offset word) sound w = record {
  words = codes "vw" ∷ word_text function ∷ word_text offset ∷ word_text word ∷ [];
  are = (
    record { long = refl; plain = refl },
    (IsWord-word function (omega arith), (IsWord-word offset w.a, (IsWord-word word w.b, tt))),
  );
  text = refl;
  says = says-vw (word_text function) (word_text offset) (word_text word) function offset word
      (number_below-word 63 function sound (omega arith)) (number_in-word offset w.a) (number_in-word word w.b);
}
reads strings count (VfRead function offset) sound w = record {
  words = codes "vr" ∷ word_text function ∷ word_text offset ∷ [];
  are = (record { long = refl; plain = refl }, (IsWord-word function (omega arith), (IsWord-word offset w.a, tt)));
  text = refl;
  says = says-vr (word_text function) (word_text offset) function offset
      (number_below-word 63 function sound (omega arith)) (number_in-word offset w.a);
}
reads strings count (Lend block) sound w = record {
  words = codes "lend" ∷ word_text block ∷ [];
  are = (record { long = refl; plain = refl }, (IsWord-word block (omega arith), tt));
  text = refl;
  says = says-lend (word_text block) block (number_below-word 65536 block sound (omega arith));
}
reads strings count (Unlend block) sound w = record {
  words = codes "unlend" ∷ word_text block ∷ [];
  are = (record { long = refl; plain = refl }, (IsWord-word block (omega arith), tt));
  text = refl;
  says = says-unlend (word_text block) block (number_below-word 65536 block sound (omega arith));
}
reads strings count (Poke address number) sound w =
    let small = w.x in record {
      words = codes "poke" ∷ word_text address ∷ data_name number ∷ [];
      are = (
        record { long = refl; plain = refl },
        (IsWord-word address w.a, (IsWord-numbered 100 number refl small, tt)),
      );
      text = refl;
      says = says-poke (word_text address) (data_name number) (data_name number) address (number_in-word address w.a)
          (name_in-numbered 100 number refl small);
    }
reads strings count (Peek address word) sound w = record {
  words = codes "peek" ∷ word_text address ∷ word_text word ∷ [];
  are = (record { long = refl; plain = refl }, (IsWord-word address w.a, (IsWord-word word (omega arith), tt)));
  text = refl;
  says = says-peek (word_text address) (word_text word) address word (number_in-word address w.a)
      (number_below-word 4 word sound (omega arith));
}
reads strings count (Arrive number) sound w =
    let small = w.x in record {
      words = codes "arrive" ∷ data_name number ∷ [];
      are = (record { long = refl; plain = refl }, (IsWord-numbered 100 number refl small, tt));
      text = refl;
      says = says-arrive (data_name number) (data_name number) (name_in-numbered 100 number refl small);
    }
reads strings count RxStep sound w =
    record { words = codes "rx" ∷ []; are = (record { long = refl; plain = refl }, tt); text = refl; says = refl }
reads strings count (TxStep queue) sound w = record {
  words = codes "tx" ∷ word_text queue ∷ [];
  are = (record { long = refl; plain = refl }, (IsWord-word queue (omega arith), tt));
  text = refl;
  says = says-tx (word_text queue) queue (number_below-word 65536 queue sound (omega arith));
}
reads strings count (IntStep group) sound w = reads-int strings count group sound w
reads strings count (QueueStep dir queue) sound w = reads-qstep strings count dir queue sound w
reads strings count EepromStep sound w =
    record { words = codes "eestep" ∷ []; are = (record { long = refl; plain = refl }, tt); text = refl; says = refl }
reads strings count (Link up) sound w = reads-link strings count up sound w
reads strings count Collect sound w =
    record { words = codes "collect" ∷ []; are = (record { long = refl; plain = refl }, tt); text = refl; says = refl }
reads strings count (Expect want mask) sound w = record {
  words = codes "expect" ∷ word_text want ∷ word_text mask ∷ [];
  are = (record { long = refl; plain = refl }, (IsWord-word want w.a, (IsWord-word mask w.b, tt)));
  text = refl;
  says = says-expect (word_text want) (word_text mask) want mask (number_in-word want w.a) (number_in-word mask w.b);
}
reads strings count (And word) sound w = record {
  words = codes "and" ∷ word_text word ∷ [];
  are = (record { long = refl; plain = refl }, (IsWord-word word w.a, tt));
  text = refl;
  says = says-and (word_text word) word (number_in-word word w.a);
}
reads strings count (JumpIfEqual word pc) sound w =
    let small = w.x in record {
      words = codes "jeq" ∷ word_text word ∷ label_name pc ∷ [];
      are = (record { long = refl; plain = refl }, (IsWord-word word w.a, (IsWord-numbered 76 pc refl small, tt)));
      text = refl;
      says = says-jeq (word_text word) (label_name pc) (label_name pc) word (number_in-word word w.a)
          (name_in-numbered 76 pc refl small);
    }
reads strings count (JumpUnlessEqual word pc) sound w =
    let small = w.x in record {
      words = codes "jne" ∷ word_text word ∷ label_name pc ∷ [];
      are = (record { long = refl; plain = refl }, (IsWord-word word w.a, (IsWord-numbered 76 pc refl small, tt)));
      text = refl;
      says = says-jne (word_text word) (label_name pc) (label_name pc) word (number_in-word word w.a)
          (name_in-numbered 76 pc refl small);
    }
reads strings count (Jump pc) sound w =
    let small = w.x in record {
      words = codes "jmp" ∷ label_name pc ∷ [];
      are = (record { long = refl; plain = refl }, (IsWord-numbered 76 pc refl small, tt));
      text = refl;
      says = says-jmp (label_name pc) (label_name pc) (name_in-numbered 76 pc refl small);
    }
reads strings count Halt sound w =
    record { words = codes "halt" ∷ []; are = (record { long = refl; plain = refl }, tt); text = refl; says = refl }
