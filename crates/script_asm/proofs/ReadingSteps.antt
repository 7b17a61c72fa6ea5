-- Proves that the steps for interrupts, queues and the link read back from their lines.
use Rattle.std.proofs.Common.{refl, ℕ, Bool, true, false, List, [], ◌∷◌, arith}
use Rattle.std.specs.Prelude.{codes}
use Rattle.program.specs.declared.instruction.Instruction.TheVariants.{IntStep, QueueStep, Link}
use Rattle.script_asm.specs.Prelude.{Dir, Group, HaveWidths, IsSound, Pf, Rx, Tx, Vf, fields_of, word_text}
use Rattle.script_asm.specs.Statement.{statement_of}
use Rattle.script_asm.proofs.Numerals.{IsWord-word}
use Rattle.script_asm.proofs.Spelling.{ReadsBack, number_below-word, says-int, says-qstep-rx, says-qstep-tx}

pub reads-int : (strings : List (List ℕ)) (count : ℕ) (group : Group) → IsSound strings count (IntStep group)
    → HaveWidths (fields_of (IntStep group))
    → ReadsBack (IntStep group)
unfolding statement_of
reads-int strings count Pf sound w = record {
  words = codes "int" ∷ codes "pf" ∷ [];
  are = (record { long = refl; plain = refl }, (record { long = refl; plain = refl }, tt));
  text = refl;
  says = refl;
}
reads-int strings count (Vf function) sound w = record {
  words = codes "int" ∷ word_text function ∷ [];
  are = (record { long = refl; plain = refl }, (IsWord-word function (omega arith), tt));
  text = refl;
  says = says-int function (number_below-word 63 function sound (omega arith));
}

pub reads-qstep : (strings : List (List ℕ)) (count : ℕ) (dir : Dir) (queue : ℕ)
    → IsSound strings count (QueueStep dir queue) → HaveWidths (fields_of (QueueStep dir queue))
    → ReadsBack (QueueStep dir queue)
unfolding statement_of
reads-qstep strings count Rx queue sound w = record {
  words = codes "qstep" ∷ codes "rx" ∷ word_text queue ∷ [];
  are = (
    record { long = refl; plain = refl },
    (record { long = refl; plain = refl }, (IsWord-word queue (omega arith), tt)),
  );
  text = refl;
  says = says-qstep-rx (word_text queue) queue (number_below-word 65536 queue sound (omega arith));
}
reads-qstep strings count Tx queue sound w = record {
  words = codes "qstep" ∷ codes "tx" ∷ word_text queue ∷ [];
  are = (
    record { long = refl; plain = refl },
    (record { long = refl; plain = refl }, (IsWord-word queue (omega arith), tt)),
  );
  text = refl;
  says = says-qstep-tx (word_text queue) queue (number_below-word 65536 queue sound (omega arith));
}

pub reads-link : (strings : List (List ℕ)) (count : ℕ) (up : Bool) → IsSound strings count (Link up)
    → HaveWidths (fields_of (Link up))
    → ReadsBack (Link up)
unfolding statement_of
reads-link strings count true sound w = record {
  words = codes "link" ∷ codes "up" ∷ [];
  are = (record { long = refl; plain = refl }, (record { long = refl; plain = refl }, tt));
  text = refl;
  says = refl;
}
reads-link strings count false sound w = record {
  words = codes "link" ∷ codes "down" ∷ [];
  are = (record { long = refl; plain = refl }, (record { long = refl; plain = refl }, tt));
  text = refl;
  says = refl;
}
