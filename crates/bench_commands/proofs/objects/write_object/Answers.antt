use Rattle.std.proofs.lemmas.Result.{err_from_is_err_and}
use Rattle.bench_commands.proofs.Giving.{begins-with-nothing}
use Rattle.bench_commands.proofs.objects.write_object.Goals as goal

pub returns-in_err-bytes-in-Ok : goal.returns-in_err-bytes-in-Ok
returns-in_err-bytes-in-Ok g c =
    let p = err_from_is_err_and c.from_residual.result c.from_residual.ensures.1 in
    rw (p.1, p.2) (begins-with-nothing _ _)
