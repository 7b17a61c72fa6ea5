use Rattle.std.proofs.Common.{ap, inl, subst, sym, ◌∙◌, Err}
use Rattle.bench_commands.specs.Ending.{EndsUnwritten, IsUnwritten, unwritten_status}
use Rattle.bench_commands.proofs.Endings.{ended-given-up}
use Rattle.bench_commands.proofs.ending.end_request.Goals as goal

pub returns-in-Ok : goal.returns-in-Ok
returns-in-Ok g c = inl c.in-Ok.ensures.answer

pub returns-in-Err : goal.returns-in-Err
returns-in-Err g c =
    ended-given-up _ (g.W.Write.contents c.answer.new.output.writer) _ _ c.args.request _ _ c.in-Err.failure
    c.end_given_up.result c.in-Err.ensures.answer
    (λ is. let reported = c.in-Err.ensures.unread (ap Err is) in
    (reported.0, ap (λ o. g.W.Write.contents o.writer) reported.1))
    c.end_given_up.ensures.read c.end_given_up.ensures.memory
    (λ is. let reported = c.end_given_up.ensures.write is in
    subst (EndsUnwritten (IsUnwritten c.end_given_up.new.output)) (sym reported.0) (
      ap (λ o. o.has_failed) reported.1 ∙ c.in-Err.ensures.unwritten (ap Err is),
      ap (λ o. unwritten_status o.lacked_memory) (sym reported.1),
    ))
