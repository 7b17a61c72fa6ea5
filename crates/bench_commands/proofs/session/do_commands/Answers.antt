use Rattle.std.proofs.Common.{arith, refl, rules, sym, Err, Ok, ◌∙◌, ◌≢◌}
use Rattle.std.proofs.lemmas.List.{drop_all, drop_more}
use Rattle.debugger.specs.declared.DebugRefusal.TheVariants.{OutOfMemory}
use Rattle.bench_commands.proofs.Sessions.{all-written, one-more}
use Rattle.bench_commands.proofs.session.do_commands.Goals as goal
use Rattle.bench_commands.proofs.session.do_commands.Goals.{in-Ok+in_ok-write_done-in-Ok}
use Rattle.bench_commands.proofs.session.do_commands.Goals.{in-Err+in_ok-write_refused-in-Err}

pub loop-command-preserved : goal.loop-command-preserved
loop-command-preserved g c = elim c.match-exec.branch [
  | in-Ok+in_ok-write_done-in-Ok w ↦
      let other : c.exec.result ≢ Err OutOfMemory = λ memory. cc in
      rw w.output-is (one-more _ _ _ _ _ _ c.loop-command.invariant _ c.exec.new.self _ _ (Ok w.in-Ok.view)
      (drop_more c.args.commands.now c.loop-command.command-index _ c.loop-command-test.true)
      (sym w.in-Ok.is ∙ c.exec.ensures.answer other) (c.exec.ensures.session other)
      w.in_ok-write_done-in-Ok.ensures.ok)
  | in-Err+in_ok-write_refused-in-Err w ↦
      let other : c.exec.result ≢ Err OutOfMemory = search rules in
      rw w.output-is (one-more _ _ _ _ _ _ c.loop-command.invariant _ c.exec.new.self _ _ (Err w.in-Err.refusal)
      (drop_more c.args.commands.now c.loop-command.command-index _ c.loop-command-test.true)
      (sym w.in-Err.is ∙ c.exec.ensures.answer other) (c.exec.ensures.session other)
      w.in_ok-write_refused-in-Err.ensures.ok)
]

pub returns : goal.returns
returns g c = (
  all-written _ _ _ _ _ _ c.loop-command.invariant
      (drop_all c.loop-command.command-index c.args.commands.now
      (omega (arith, c.loop-command-test.false, c.loop-command.auto.command-index-end))),
  refl,
)
