use Rattle.script_asm.proofs.RoundTrip.{texts_read_back}
use Rattle.script_asm.proofs.laws.texts_read_back.Goals as goal

pub returns : goal.returns
returns c = texts_read_back
