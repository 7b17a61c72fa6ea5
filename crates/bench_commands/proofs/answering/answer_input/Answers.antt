use Rattle.bench_commands.specs.declared.request.Request.TheVariants.{Text}
use Rattle.bench_commands.proofs.Requests.{given-no-text, given-text, given-to}
use Rattle.bench_commands.proofs.answering.answer_input.Goals as goal

pub returns-in-Ok : goal.returns-in-Ok
returns-in-Ok g c =
    given-to _ _ _ c.answer_text.result c.args.request (Text c.in-Text.request) c.args.bytes.now c.in-Text.is
    (given-text _ _ _ c.answer_text.result c.in-Text.request c.args.bytes.now c.in-Ok.text.now c.in-Ok.ensures.cases.0
    c.in-Ok.ensures.cases.1 c.answer_text.ensures)

pub returns-in-Err : goal.returns-in-Err
returns-in-Err g c =
    given-to _ _ _ c.write_refusal.result c.args.request (Text c.in-Text.request) c.args.bytes.now c.in-Text.is
    (given-no-text _ _ _ c.write_refusal.result c.in-Text.request c.args.bytes.now c.in-Err.ensures.cases.0
    (rw (c.named.ensures.name, c.named.ensures.number) at c.write_refusal.ensures.gives))
