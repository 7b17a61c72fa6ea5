use Rattle.std.proofs.Common.{◌∙◌, ap, ◌*◌}
use Rattle.machine.specs.Machine.{word_in}
use Rattle.machine.proofs.Words.{little_number-rest}
use Rattle.machine.proofs.processor.word_in.Goals as goal

pub returns : goal.returns
returns c =
    let bytes = c.args.bytes.now in
    c.read_u32.ensures ∙ little_number-rest bytes (4 * c.from.result) 16 c.told-bytes
    ∙ ap (word_in bytes) c.from.ensures
