use Rattle.std.proofs.Common.{◌∙◌}
use Rattle.nic_device.specs.EepromImage.Text.{sound_content, IsImageOf}
use Rattle.nic82599_c.proofs.Texts.{good_text, bad_text}
use Rattle.nic82599_c.proofs.images.install_text.Goals as goal

pub returns-in-Ok-clause-status : goal.returns-in-Ok-clause-status
returns-in-Ok-clause-status c =
    λ some. (good_text (λ content. IsImageOf content c.in-Ok.image) (sound_content c.args.text.now)
    c.in-Ok.ensures.image).status

pub returns-in-Err-clause-status : goal.returns-in-Err-clause-status
returns-in-Err-clause-status c =
    λ some. c.status_of_text.ensures
    ∙ (bad_text (sound_content c.args.text.now) c.in-Err.fault c.in-Err.ensures.fault
    (λ is. some (c.status_of_text.ensures ∙ is))).status

pub returns-in-Err-clause-line : goal.returns-in-Err-clause-line
returns-in-Err-clause-line c =
    λ some. c.line_of.ensures
    ∙ (bad_text (sound_content c.args.text.now) c.in-Err.fault c.in-Err.ensures.fault
    (λ is. some (c.status_of_text.ensures ∙ is))).line
