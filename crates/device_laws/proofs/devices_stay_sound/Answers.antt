use Rattle.nic_device.proofs.Steps.{new_sound, keeps_sound}
use Rattle.device_laws.proofs.devices_stay_sound.Goals as goal

pub returns : goal.returns
returns c = record { new = new_sound; event = keeps_sound }
