use Rattle.std.proofs.Common.{refl}
use Rattle.bench_commands.specs.declared.request.BytesRequest.TheVariants.{Dis}
use Rattle.bench_commands.specs.Ending.{IsBytesAnswer}
use Rattle.bench_commands.proofs.Giving.{gives-right}
use Rattle.bench_commands.proofs.Requests.{given-to-bytes}
use Rattle.bench_commands.proofs.answering.answer_bytes.Goals as goal

pub returns-in-Dis : goal.returns-in-Dis
returns-in-Dis g c =
    given-to-bytes _ _ _ c.write_script.result c.args.request Dis c.args.bytes.now c.in-Dis.is
    (gives-right _ _ _ c.write_script.result _ (IsBytesAnswer Dis c.args.bytes.now) refl (λ answer is. is)
    c.write_script.ensures)
