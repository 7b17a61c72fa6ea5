use Rattle.std.proofs.Common.{sym, ◌∙◌}
use Rattle.std.proofs.lemmas.Result.{IfOk-weaker}
use Rattle.text_format.specs.Lines.{line_of, lines_of}
use Rattle.bench_commands.proofs.HashedLines.{lines_answer-hashed, lines_answer-refused}
use Rattle.bench_commands.proofs.hashing.hashes_in.Goals as goal

pub returns-in-Ok-clause-ok : goal.returns-in-Ok-clause-ok
returns-in-Ok-clause-ok c =
    IfOk-weaker c.hash_inputs.result _ _
    (λ hashes is. lines_answer-hashed (lines_of c.args.text.now) (line_of c.in-Some.first) c.next.new.self c.in-Ok.key.0
    hashes.items (sym c.of-lines.ensures ∙ c.in-Some.ensures.steps) (rw c.of.ensures at c.in-Ok.ensures.ok) is)
    c.hash_inputs.ensures.ok

pub returns-in-Ok-clause-syntax : goal.returns-in-Ok-clause-syntax
returns-in-Ok-clause-syntax c = λ n is.
    lines_answer-refused (lines_of c.args.text.now) (line_of c.in-Some.first) c.next.new.self c.in-Ok.key.0 n
    (sym c.of-lines.ensures ∙ c.in-Some.ensures.steps) (rw c.of.ensures at c.in-Ok.ensures.ok)
    (c.hash_inputs.ensures.syntax n is)
