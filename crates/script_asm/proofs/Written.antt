-- Lemmas about writing one more line of a text.
use Rattle.std.proofs.Common.{◌≡◌, ◌<◌, ◌≤◌, sym, ◌∙◌, ap, ℕ, suc, ◌+◌, List, ◌∷◌, ◌++◌, length, get_or, drop, add-one, drop-cons, append_assoc, append-nil, Result, Ok, Err, IfOk}
use Rattle.std.proofs.lemmas.List.{drop_all}
use Rattle.script_asm.specs.Prelude.{Instruction}
use Rattle.script_asm.specs.Disassembly.{data_line, data_lines, code_line, code_lines, label_line_at}

first_left : {X : Type 0} (xs : List X) (x : X) (k : ℕ) → k < length xs → x ≡ get_or xs k x
    → drop k xs ≡ x ∷ drop (k + 1) xs
first_left xs x k below at = drop-cons xs k x below ∙ ap (λ y. y ∷ drop (suc k) xs) (sym at)
    ∙ ap (λ n. x ∷ drop n xs) (sym (add-one k))

pub data_lines-added : (text after : List ℕ) (strings : List (List ℕ)) (string : List ℕ) (k : ℕ) → k < length strings
    → string ≡ get_or strings k string
    → after ≡ text ++ data_line k string
    → after ++ data_lines (k + 1) (drop (k + 1) strings) ≡ text ++ data_lines k (drop k strings)
unfolding data_lines
data_lines-added text after strings string k below at is =
    ap (λ t. t ++ data_lines (k + 1) (drop (k + 1) strings)) is
    ∙ append_assoc text (data_line k string) (data_lines (k + 1) (drop (k + 1) strings))
    ∙ ap (λ rest. text ++ data_lines k rest) (sym (first_left strings string k below at))

pub data_lines-ended : (text : List ℕ) (strings : List (List ℕ)) (k : ℕ) → length strings ≤ k
    → text ++ data_lines k (drop k strings) ≡ text
unfolding data_lines
data_lines-ended text strings k past =
    ap (λ rest. text ++ data_lines k rest) (drop_all k strings past) ∙ append-nil text

pub code_lines-added : (text after : List ℕ) (code rest : List (Instruction ℕ ℕ)) (d : Instruction ℕ ℕ) (k : ℕ)
    → k < length rest
    → after ≡ text ++ code_line code k (get_or rest k d)
    → after ++ code_lines code (k + 1) (drop (k + 1) rest) ≡ text ++ code_lines code k (drop k rest)
unfolding code_lines
code_lines-added text after code rest d k below is =
    ap (λ t. t ++ code_lines code (k + 1) (drop (k + 1) rest)) is
    ∙ append_assoc text (code_line code k (get_or rest k d)) (code_lines code (k + 1) (drop (k + 1) rest))
    ∙ ap (λ n. text ++ (code_line code k (get_or rest k d) ++ code_lines code (k + 1) (drop n rest))) (add-one k)
    ∙ ap (λ rest. text ++ code_lines code k rest) (sym (drop-cons rest k d below))

pub code_lines-ended : (text : List ℕ) (code rest : List (Instruction ℕ ℕ)) (k : ℕ) → length rest ≤ k
    → text ++ code_lines code k (drop k rest) ≡ text ++ label_line_at code k
unfolding code_lines
code_lines-ended text code rest k past = ap (λ rest. text ++ code_lines code k rest) (drop_all k rest past)

-- If a result's text equals `text`, and `text` equals `whole`, then the result's text equals `whole`.
pub written : {A E : Type 0} (r : Result A E) (text after whole : List ℕ) → IfOk r (λ _. after ≡ text) → text ≡ whole
    → IfOk r (λ _. after ≡ whole)
written (Ok x) text after whole is e = is ∙ e
written (Err fault) text after whole is e = tt
