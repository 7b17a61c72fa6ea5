-- Lemmas about adding the bytes of one more report, and the line of one more queue.
use Rattle.std.proofs.Common.{◌≡◌, ℕ, suc, ◌+◌, ◌<◌, List, [], ◌∷◌, ◌++◌, length, map, take, get_or, sym, ap, ◌∙◌, arith, append_assoc, append-nil}
use Rattle.std.proofs.lemmas.List.{length-map, length-take-le, map-append, take_more}
use Rattle.pmd.specs.declared.reports.Report.{Report}
use Rattle.bench.specs.Summary.{byte_count, queue_line, queue_lines}

byte_count-append : (before : List Report) (report : Report)
    → byte_count (before ++ report ∷ []) ≡ byte_count before + report.len
byte_count-append [] report = omega arith
byte_count-append (first ∷ before) report = let more = byte_count-append before report in omega (arith, more)

pub bytes-more : (reports : List Report) (at bytes len : ℕ) (d : Report) → bytes ≡ byte_count (take at reports)
    → len ≡ (get_or reports at d).len → at < length reports → bytes + len ≡ byte_count (take (at + 1) reports)
bytes-more reports at bytes len d sum is there =
    let all = ap byte_count (take_more reports at d there)
    ∙ byte_count-append (take at reports) (get_or reports at d) in
    omega (arith, sum, is, all)

queue_lines-append : (queue : ℕ) (before : List (List Report)) (reports : List Report)
    → queue_lines queue (before ++ reports ∷ [])
    ≡ queue_lines queue before ++ queue_line (queue + length before) reports
queue_lines-append queue [] reports =
    let e : queue ≡ queue + 0 = omega arith in
    append-nil (queue_line queue reports) ∙ ap (λ (n : ℕ). queue_line n reports) e
queue_lines-append queue (first ∷ before) reports =
    let e : suc queue + length before ≡ queue + suc (length before) = omega arith in
    ap (λ (l : List ℕ). queue_line queue first ++ l) (queue_lines-append (suc queue) before reports)
    ∙ ap (λ (n : ℕ). queue_line queue first ++ (queue_lines (suc queue) before ++ queue_line n reports)) e
    ∙ sym (append_assoc (queue_line queue first) (queue_lines (suc queue) before) _)

pub lines-more : {X : Type 0} (all : List X) (f : X → List Report) (at : ℕ) (x : X) (reports : List Report)
    → at < length all → x ≡ get_or all at x → reports ≡ f x
    → queue_lines 0 (map f (take at all)) ++ queue_line at reports ≡ queue_lines 0 (map f (take (at + 1) all))
lines-more {X = X} all f at x reports there is same =
    let before : List (List Report) = map f (take at all) in
    let taken : length before ≡ at = length-map (take at all) f ∙ length-take-le at all (omega (arith, there)) in
    let count : at ≡ 0 + length before = omega (arith, taken) in
    ap (λ (r : List Report). queue_lines 0 before ++ queue_line at r) (same ∙ ap f is)
    ∙ ap (λ (n : ℕ). queue_lines 0 before ++ queue_line n (f (get_or all at x))) count
    ∙ sym (ap (λ (l : List X). queue_lines 0 (map f l)) (take_more all at x there)
    ∙ ap (queue_lines 0) (map-append f (take at all) (get_or all at x ∷ []))
    ∙ queue_lines-append 0 before (f (get_or all at x)))
