use Rattle.std.proofs.Common.{rules, ap, Err}
use Rattle.bench_commands.proofs.Requests.{answered, answered-too-long, never-unread, unwritten}
use Rattle.bench_commands.proofs.answering.answer.Goals as goal

pub returns-in-Ok-clause-answer : goal.returns-in-Ok-clause-answer
returns-in-Ok-clause-answer g c =
    answered c.args.request _ _ c.answer_input.new.output.has_failed (g.R.Read.remaining c.args.input.now.reader)
    c.answer_input.result c.in-Ok.bytes.items c.in-Ok.ensures.whole (search rules)
    (rw c.deref.ensures.value at c.answer_input.ensures)

pub returns-in-Ok-clause-unread : goal.returns-in-Ok-clause-unread
returns-in-Ok-clause-unread g c =
    λ is. absurd (never-unread c.args.request _ _ _ c.answer_input.result _ c.answer_input.ensures is)

pub returns-in-Ok-clause-unwritten : goal.returns-in-Ok-clause-unwritten
returns-in-Ok-clause-unwritten g c =
    λ is. unwritten c.args.request _ _ _ c.answer_input.result _ c.answer_input.ensures is

pub returns-in-Err-TooLong-clause-answer : goal.returns-in-Err-TooLong-clause-answer
returns-in-Err-TooLong-clause-answer g c =
    answered-too-long c.args.request _ _ c.write_refusal.new.output.has_failed
    (g.R.Read.remaining c.args.input.now.reader) c.write_refusal.result
    (c.in-Err-TooLong.ensures.too_long (ap Err c.in-Err-TooLong.field-0-is))
    (rw (c.named.ensures.name, c.named.ensures.number) at c.write_refusal.ensures.gives)
