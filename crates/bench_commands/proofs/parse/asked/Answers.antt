use Rattle.std.proofs.Common.{map}
use Rattle.std.proofs.lemmas.Result.{err_from_is_err_and}
use Rattle.clap.specs.Words.{fault_of}
use Rattle.bench_commands.specs.Commands.{nicbench_app}
use Rattle.bench_commands.proofs.Refusals.{HasKind-or_else}
use Rattle.bench_commands.proofs.parse.asked.Goals as goal

pub returns-in_err-matches-clause-refused : goal.returns-in_err-matches-clause-refused
returns-in_err-matches-clause-refused g c =
    let p = err_from_is_err_and c.from_residual.result c.from_residual.ensures.1 in
    rw (p.1, p.2) (HasKind-or_else (fault_of nicbench_app (map g.S.AsStr.text c.args.words.now)) _
    c.in_err-matches.field-0.0 c.in_err-matches.ensures.faults)
