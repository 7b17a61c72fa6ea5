-- The word of EERD after an EEPROM reply.
use Rattle.std.proofs.Common.{◌≡◌, ℕ, ◌+◌, ◌*◌, ◌/◌, ◌%◌, ◌^◌, ◌<◌, None, ap, ◌∙◌, arith, lit<}
use Rattle.std.proofs.lemmas.Bool.{cond-false, eq-eqb, ne_eqb}
use Rattle.register_laws.specs.Prelude.{Eerd, eeprom_answered, eeprom_index, has_bit, place, word_of}
use Rattle.register_laws.specs.Laws.{EepromAnswerIsRead}
use Rattle.register_laws.proofs.Shape.{put_stands}

-- The parts of the word of EERD after an EEPROM reply.
answer : ℕ → ℕ → ℕ
answer index word = index * 4 + 2 + word * 2 ^ 16

word_there : (index word : ℕ) → index < 2 ^ 14 → answer index word / 2 ^ 16 ≡ word
unfolding answer
word_there index word small = omega arith

index_there : (index word : ℕ) → index < 2 ^ 14 → answer index word / 4 % 2 ^ 14 ≡ index
unfolding answer
index_there index word small = omega arith

done_there : (index word : ℕ) → answer index word / 2 ^ 1 % 2 ≡ 1
unfolding answer
done_there index word = omega arith

start_gone : (index word : ℕ) → answer index word / 2 ^ 0 % 2 ≡ 1 → ⊥
unfolding answer
start_gone index word is = omega arith

pub answer_is_read : EepromAnswerIsRead
unfolding answer
answer_is_read r h word b =
    let there = put_stands r (place Eerd 0) (answer (eeprom_index r) word) h (lit< tt) in
    let small : eeprom_index r < 2 ^ 14 = omega arith in
    record {
      word = ap (λ w. w / 2 ^ 16) there ∙ word_there (eeprom_index r) word small;
      index = ap (λ w. w / 4 % 2 ^ 14) there ∙ index_there (eeprom_index r) word small;
      done = ap (has_bit 1) there ∙ eq-eqb _ _ (done_there (eeprom_index r) word);
      asks_no_more = cond-false (has_bit 0 (word_of (eeprom_answered r word) Eerd 0)) _ None
          (ap (has_bit 0) there ∙ ne_eqb _ _ (start_gone (eeprom_index r) word));
    }
