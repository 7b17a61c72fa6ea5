use Rattle.std.proofs.Common.{◌≡◌, ◌+◌, length, ◌∷◌, ◌++◌, Ok, Err, ap, ◌∙◌, arith}
use Rattle.program.specs.Mapped.{◌then◌}
use Rattle.program.specs.Object.{fault_at}
use Rattle.program.proofs.ReadBack.{laid_out-read}
use Rattle.program.proofs.Faults.{meanings-stopped}
use Rattle.program.proofs.laws.first_fault_decides.Goals as goal

pub returns : goal.returns
returns c = λ before f after strings fault parts good bad.
    let number : 0 + length before ≡ length before = omega arith in
    laid_out-read (before ++ f ∷ after) strings parts.few parts.few_strings parts.each parts.widths
    ∙ ap (λ read. read then λ instructions. Ok (record { strings = strings; instructions = instructions }))
    (meanings-stopped strings (length (before ++ f ∷ after)) 0 before f after fault good bad)
    ∙ ap (λ pc. Err (fault_at pc fault)) number
