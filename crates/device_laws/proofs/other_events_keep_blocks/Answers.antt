use Rattle.nic_device.proofs.KeptBlocks.{keeps_blocks}
use Rattle.device_laws.proofs.other_events_keep_blocks.Goals as goal

pub returns : goal.returns
returns c = keeps_blocks
