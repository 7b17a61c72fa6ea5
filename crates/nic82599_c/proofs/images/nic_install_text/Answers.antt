use Rattle.std.proofs.Common.{◌∙◌}
use Rattle.nic82599_c.proofs.Texts.{no_text, is_text}
use Rattle.nic82599_c.proofs.images.nic_install_text.Goals as goal

pub returns-in-Ok-clause-status : goal.returns-in-Ok-clause-status
returns-in-Ok-clause-status c =
    λ some. c.install_text.ensures.status some
    ∙ (is_text c.args.text.now c.in-Ok.text.now c.in-Ok.ensures.cases.0 c.in-Ok.ensures.cases.1).0

pub returns-in-Ok-clause-line : goal.returns-in-Ok-clause-line
returns-in-Ok-clause-line c =
    λ some. c.install_text.ensures.line some
    ∙ (is_text c.args.text.now c.in-Ok.text.now c.in-Ok.ensures.cases.0 c.in-Ok.ensures.cases.1).1

pub returns-in-Err-clause-status : goal.returns-in-Err-clause-status
returns-in-Err-clause-status c = λ some. (no_text c.args.text.now c.in-Err.ensures.cases.0).0

pub returns-in-Err-clause-line : goal.returns-in-Err-clause-line
returns-in-Err-clause-line c = λ some. (no_text c.args.text.now c.in-Err.ensures.cases.0).1
