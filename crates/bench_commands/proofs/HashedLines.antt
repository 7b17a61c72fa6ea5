-- Lemmas about hashing one more line of inputs.
use Rattle.std.proofs.Common.{◌≡◌, refl, sym, ap, ◌∙◌, ℕ, List, [], ◌∷◌, ◌++◌, append-nil, map, Some, Result, Ok, Err, ◌+◌, ◌<◌, codes, length, take, get_or}
use Rattle.std.specs.List.{flat_map}
use Rattle.std.proofs.Math.Seq.{take-length}
use Rattle.std.proofs.lemmas.Grind.{flat_map-append}
use Rattle.std.proofs.lemmas.List.{take_more}
use Rattle.std.proofs.lemmas.List.Folds.{flat_map-map}
use Rattle.text_format.specs.Lines.{NumberedLine}
use Rattle.text_format.specs.Words.{words_of}
use Rattle.nic_device.specs.RssHash.Toeplitz.{toeplitz_hash}
use Rattle.bench_commands.specs.Answer.{refused_at}
use Rattle.bench_commands.specs.Hash.{bytes_said, hashed, hashes, if_key, inputs_of, keyed_answer, line_and}
use Rattle.bench_commands.specs.Hash.{lines_answer, word_line, words_answer}

-- The inputs on the remaining lines are those on the next line and those on the lines after it.
pub inputs_of-line : (lines : List NumberedLine) (line : NumberedLine) (others : List NumberedLine)
    → lines ≡ line ∷ others
    → inputs_of lines ≡ line_and line.number (words_of line.text) (inputs_of others)
unfolding inputs_of
inputs_of-line lines line others is = rw is refl

pub inputs_of-none : (lines : List NumberedLine) → lines ≡ [] → inputs_of lines ≡ Ok []
unfolding inputs_of
inputs_of-none lines none = rw none refl

pub hashed-nil : (key before : List ℕ) (inputs : Result (List (List ℕ)) ℕ) → inputs ≡ Ok []
    → hashed key before inputs ≡ Ok before
hashed-nil key before inputs none = ap (hashed key before) none ∙ ap Ok (append-nil before)

pub hashed-refused : (key before : List ℕ) (inputs : Result (List (List ℕ)) ℕ) (number : ℕ) → inputs ≡ Err number
    → hashed key before inputs ≡ Err number
hashed-refused key before inputs number is = ap (hashed key before) is

-- The answer consists of the lines of the hashes.
hashes-hashed : (key : List ℕ) (inputs : Result (List (List ℕ)) ℕ) (words : List ℕ) → hashed key [] inputs ≡ Ok words
    → hashes key inputs ≡ words_answer words
hashes-hashed key (Ok inputs) words is =
    let same : map (toeplitz_hash key) inputs ≡ words = cc in
    ap (λ (t : List ℕ). record { text = t; status = 0 }) (sym (flat_map-map word_line (toeplitz_hash key) inputs)
    ∙ ap (flat_map word_line) same)
hashes-hashed key (Err number) words is = cc

hashes-refused : (key : List ℕ) (inputs : Result (List (List ℕ)) ℕ) (number : ℕ) → hashed key [] inputs ≡ Err number
    → hashes key inputs ≡ refused_at (codes "Syntax") number
hashes-refused key (Ok inputs) number is = cc
hashes-refused key (Err other) number is = let same : other ≡ number = cc in
    ap (λ n. refused_at (codes "Syntax") n) same

-- The answer to lines that start with this key.
lines_answer-keyed : (lines : List NumberedLine) (line : NumberedLine) (others : List NumberedLine) (key : List ℕ)
    → lines ≡ line ∷ others
    → if_key (bytes_said (words_of line.text)) ≡ Some key → lines_answer lines ≡ hashes key (inputs_of others)
lines_answer-keyed lines line others key first is =
    ap lines_answer first ∙ ap (λ k. keyed_answer line.number k others) is

pub lines_answer-hashed : (lines : List NumberedLine) (line : NumberedLine) (others : List NumberedLine)
    (key words : List ℕ) → lines ≡ line ∷ others
    → if_key (bytes_said (words_of line.text)) ≡ Some key → hashed key [] (inputs_of others) ≡ Ok words
    → lines_answer lines ≡ words_answer words
lines_answer-hashed lines line others key words first is hashed =
    lines_answer-keyed lines line others key first is ∙ hashes-hashed key (inputs_of others) words hashed

pub lines_answer-refused : (lines : List NumberedLine) (line : NumberedLine) (others : List NumberedLine) (key : List ℕ)
    (number : ℕ) → lines ≡ line ∷ others
    → if_key (bytes_said (words_of line.text)) ≡ Some key → hashed key [] (inputs_of others) ≡ Err number
    → lines_answer lines ≡ refused_at (codes "Syntax") number
lines_answer-refused lines line others key number first is faulty =
    lines_answer-keyed lines line others key first is ∙ hashes-refused key (inputs_of others) number faulty

-- The lines of the hashes so far, followed by the line of the next hash.
pub lines-more : (words : List ℕ) (i : ℕ) → i < length words
    → flat_map word_line (take i words) ++ word_line (get_or words i 0) ≡ flat_map word_line (take (i + 1) words)
lines-more words i inside =
    sym (ap (flat_map word_line) (take_more words i 0 inside)
    ∙ flat_map-append word_line (take i words) (get_or words i 0 ∷ [])
    ∙ ap (λ t. flat_map word_line (take i words) ++ t) (append-nil (word_line (get_or words i 0))))

pub lines-all : (words : List ℕ) (i : ℕ) → i ≡ length words
    → flat_map word_line (take i words) ≡ flat_map word_line words
lines-all words i all = ap (λ n. flat_map word_line (take n words)) all ∙ ap (flat_map word_line) (take-length words)
