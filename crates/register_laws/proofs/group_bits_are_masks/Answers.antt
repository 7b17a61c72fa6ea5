use Rattle.register_laws.proofs.ReadBack.{masks}
use Rattle.register_laws.proofs.group_bits_are_masks.Goals as goal

pub returns : goal.returns
returns c = masks
