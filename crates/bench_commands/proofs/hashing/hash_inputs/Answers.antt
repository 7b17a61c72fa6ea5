use Rattle.std.proofs.Common.{Err, sym, ap, ◌∙◌, ◌≡◌}
use Rattle.std.proofs.lemmas.Result.{err_from_is_err_and}
use Rattle.text_format.specs.Lines.{line_of}
use Rattle.bench_commands.specs.declared.hashing.HashFault.TheVariants.{Syntax}
use Rattle.bench_commands.specs.Hash.{hashed, inputs_of}
use Rattle.bench_commands.proofs.HashedLines.{hashed-nil, hashed-refused, inputs_of-line, inputs_of-none}
use Rattle.bench_commands.proofs.hashing.hash_inputs.Goals as goal

pub loop-line-preserved : goal.loop-line-preserved
loop-line-preserved c =
    sym (c.in_ok-add_line.ensures.ok (inputs_of c.next.new.self))
    ∙ ap (hashed c.args.key.now.0 c.loop-line.hashes.items)
    (sym (inputs_of-line c.loop-line.line-iterator (line_of c.in-Some.line) c.next.new.self
    c.in-Some.ensures.steps))
    ∙ c.loop-line.invariant

pub returns-in_err-add_line-clause-syntax : goal.returns-in_err-add_line-clause-syntax
returns-in_err-add_line-clause-syntax c =
    let returned = err_from_is_err_and c.from_residual.result c.from_residual.ensures.1 in
    rw (returned.1, returned.2) (λ n is. let fault : c.in_err-add_line.field-0.0 ≡ Syntax n = cc in
    sym c.loop-line.invariant ∙ hashed-refused c.args.key.now.0 c.loop-line.hashes.items _ n
    (inputs_of-line c.loop-line.line-iterator (line_of c.in-Some.line) c.next.new.self c.in-Some.ensures.steps
    ∙ c.in_err-add_line.ensures.syntax n (ap Err fault) (inputs_of c.next.new.self)))

pub returns-clause-ok : goal.returns-clause-ok
returns-clause-ok c =
    sym c.loop-line.invariant ∙ hashed-nil c.args.key.now.0 c.loop-line.hashes.items _
    (inputs_of-none c.loop-line.line-iterator c.in-None.ensures.steps.0)
