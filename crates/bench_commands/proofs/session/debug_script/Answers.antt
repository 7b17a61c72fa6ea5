use Rattle.std.proofs.Common.{ap, Ok}
use Rattle.text_format.specs.Lines.{lines_of}
use Rattle.bench_commands.proofs.Giving.{gives-same}
use Rattle.bench_commands.proofs.Sessions.{missing-end}
use Rattle.bench_commands.proofs.session.debug_script.Goals as goal

pub returns-in-Ok-None : goal.returns-in-Ok-None
returns-in-Ok-None g c =
    let endless = rw c.of-lines.ensures at (c.in-Ok-None.ensures.endless (ap Ok c.in-Ok-None.field-0-is)) in
    gives-same _ _ _ c.write_refusal.result _ _
    (missing-end c.args.options (lines_of c.args.text.now) endless.0 endless.1)
    (rw (c.numbered.ensures.name, c.numbered.ensures.number, c.line_count.ensures.value)
    at c.write_refusal.ensures.gives)
