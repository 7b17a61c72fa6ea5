-- The laid-out words fit in 16 bits.
use Rattle.std.proofs.Common.{◌≡◌, ℕ, zero, suc, ◌-◌, ◌*◌, ◌%◌, ◌<◌, ◌≤◌, Bool, true, false, cond, nat_lt, nat_le, ◌==◌, ◌&&◌, List, [], ◌∷◌, length, get_or, inl, inr, arith}
use Rattle.std.specs.List.{flat_map, AllByRecursion}
use Rattle.std.proofs.lemmas.List.{get_or_past}
use Rattle.std.proofs.lemmas.Bool.{cases_lt}
use Rattle.std.proofs.lemmas.Bool.Decides.{eqb_tells}
use Rattle.eeprom_image.specs.Bytes.{word_at}
use Rattle.eeprom_image.specs.Content.{Content}
use Rattle.eeprom_image.specs.Fault.{section_end, triple_words, csr_section, given_word, csr_pointer, plain_word}
use Rattle.eeprom_image.specs.Layout.{IsLaidOut}
use Rattle.eeprom_image.proofs.Layouts.{value_after}
use Rattle.eeprom_image.proofs.Contents.{IsContent}

cond_fits : (b : Bool) (x y : ℕ) → x < 65536 → y < 65536 → cond b x y < 65536
cond_fits true x y h k = h
cond_fits false x y h k = k

value_after-fits : (index value : ℕ) (given : List (ℕ × ℕ)) → value < 65536 → AllByRecursion (λ g. g.1 < 65536) given
    → value_after index value given < 65536
value_after-fits index value [] small all = small
value_after-fits index value (g ∷ given) small all =
    value_after-fits index (cond (g.0 == index) g.1 value) given (cond_fits (g.0 == index) g.1 value all.0 small) all.1

csr_pointer-fits : (triples : List (ℕ × ℕ)) → csr_pointer triples < 65536
csr_pointer-fits [] = omega arith
csr_pointer-fits (triple ∷ triples) = omega arith

flat_fits : (triples : List (ℕ × ℕ))
    → AllByRecursion (λ triple. (triple.0 % 4 ≡ 0) × (triple.0 < 0x40000) × (triple.1 < 65536 * 65536)) triples
    → (k : ℕ) → get_or (flat_map triple_words triples) k 65535 < 65536
flat_fits [] fit k = omega arith
flat_fits (triple ∷ triples) fit zero = omega arith
flat_fits (triple ∷ triples) fit (suc zero) = omega arith
flat_fits (triple ∷ triples) fit (suc (suc zero)) = let high = fit.0.2 in omega arith
flat_fits (triple ∷ triples) fit (suc (suc (suc k))) = flat_fits triples fit.1 k

csr_section-fits : (triples : List (ℕ × ℕ))
    → AllByRecursion (λ triple. (triple.0 % 4 ≡ 0) × (triple.0 < 0x40000) × (triple.1 < 65536 * 65536)) triples
    → 3 * length triples < 65536 → (k : ℕ) → get_or (csr_section triples) k 65535 < 65536
csr_section-fits triples fit few zero = few
csr_section-fits triples fit few (suc k) = flat_fits triples fit k

pub few_triples : (triples : List (ℕ × ℕ)) → section_end triples ≤ 16384 → 3 * length triples < 65536
few_triples [] room = omega arith
few_triples (triple ∷ triples) room = omega arith

plain_word-fits : (content : Content) → IsContent content → 3 * length content.triples < 65536 → (index : ℕ)
    → plain_word content index < 65536
plain_word-fits content right few index =
    cond_fits (index == 13) (csr_pointer content.triples) _ (csr_pointer-fits content.triples)
    (cond_fits (nat_le 64 index && nat_lt index (section_end content.triples))
    (get_or (csr_section content.triples) (index - 64) 65535) (given_word content.words index)
    (csr_section-fits content.triples right.triples few (index - 64))
    (value_after-fits index 65535 content.words (omega arith) right.words))

pub laid_out-fits : (content : Content) (words : List ℕ) → IsContent content → 3 * length content.triples < 65536
    → IsLaidOut content words → (index : ℕ) → word_at words index < 65536
laid_out-fits content words right few laid index = elim (eqb_tells index 63) [
  | inl (t, here) ↦ rw (here, laid.zero) (omega arith)
  | inr (t, other) ↦ elim (cases_lt index content.size) [
    | inl there ↦ rw (laid.plain index there other) (plain_word-fits content right few index)
    | inr past ↦ let whole = laid.size in rw (get_or_past words index 65535 (omega arith)) (omega arith)
  ]
]
