use Rattle.std.proofs.Common.{refl}
use Rattle.std.proofs.lemmas.Result.{err_from_is_err_and}
use Rattle.nic_device.specs.EepromImage.Text.{sound_content}
use Rattle.bench_commands.specs.Eeprom.{IsImageAnswer, text_refused}
use Rattle.bench_commands.proofs.Giving.{begins-with-nothing, gives-right}
use Rattle.bench_commands.proofs.Images.{fault-meant, image-meant}
use Rattle.bench_commands.proofs.eeprom.write_image.Goals as goal

pub returns-in_err-bytes-in-Ok : goal.returns-in_err-bytes-in-Ok
returns-in_err-bytes-in-Ok g c =
    let p = err_from_is_err_and c.from_residual.result c.from_residual.ensures.1 in
    rw (p.1, p.2) (λ answer right. begins-with-nothing _ _)

pub returns-in_ok-write_bytes-in-Ok : goal.returns-in_ok-write_bytes-in-Ok
returns-in_ok-write_bytes-in-Ok g c = (
  _,
  image-meant (sound_content c.args.text.now) c.in-Ok.image c.in-Ok.ensures.image,
  ((rw (c.deref.ensures.value, c.in_ok-bytes-in-Ok.ensures) at c.in_ok-write_bytes-in-Ok.ensures.ok), refl),
)

pub returns-in-None : goal.returns-in-None
returns-in-None g c = λ answer right. begins-with-nothing _ _

pub returns-in-Some : goal.returns-in-Some
returns-in-Some g c =
    let meant = fault-meant c.in-Err.fault (sound_content c.args.text.now) c.in-Some.ensures.0 c.in-Err.ensures.fault in
    gives-right _ _ _ c.write_refusal.result (text_refused c.in-Err.fault) (IsImageAnswer c.args.text.now) meant.0
    meant.1
    (rw c.in-Some.ensures.1 at c.write_refusal.ensures.gives)
