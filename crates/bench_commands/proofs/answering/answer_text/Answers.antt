use Rattle.std.proofs.Common.{refl}
use Rattle.bench_commands.specs.declared.request.TextRequest.TheVariants.{Asm, Debug, Hash, Run}
use Rattle.bench_commands.specs.Ending.{IsTextAnswer}
use Rattle.bench_commands.proofs.Giving.{gives-right}
use Rattle.bench_commands.proofs.Requests.{given-to-text}
use Rattle.bench_commands.proofs.answering.answer_text.Goals as goal

pub returns-in-Run : goal.returns-in-Run
returns-in-Run g c =
    given-to-text _ _ _ c.run_script.result c.args.request (Run c.in-Run.options) c.args.text.now c.in-Run.is
    (gives-right _ _ _ c.run_script.result _ (IsTextAnswer (Run c.in-Run.options) c.args.text.now) refl
    (λ answer is. is) c.run_script.ensures)

pub returns-in-Debug : goal.returns-in-Debug
returns-in-Debug g c =
    given-to-text _ _ _ c.debug_script.result c.args.request (Debug c.in-Debug.options) c.args.text.now c.in-Debug.is
    (gives-right _ _ _ c.debug_script.result _ (IsTextAnswer (Debug c.in-Debug.options) c.args.text.now) refl
    (λ answer is. is) c.debug_script.ensures)

pub returns-in-Hash : goal.returns-in-Hash
returns-in-Hash g c =
    given-to-text _ _ _ c.hash_lines.result c.args.request Hash c.args.text.now c.in-Hash.is
    (gives-right _ _ _ c.hash_lines.result _ (IsTextAnswer Hash c.args.text.now) refl (λ answer is. is)
    c.hash_lines.ensures)

pub returns-in-Asm : goal.returns-in-Asm
returns-in-Asm g c =
    given-to-text _ _ _ c.write_object.result c.args.request Asm c.args.text.now c.in-Asm.is
    (gives-right _ _ _ c.write_object.result _ (IsTextAnswer Asm c.args.text.now) refl (λ answer is. is)
    c.write_object.ensures)
