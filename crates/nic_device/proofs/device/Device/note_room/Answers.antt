use Rattle.nic_device.proofs.Answering.{step_suits}
use Rattle.nic_device.proofs.device.Device.note_room.Goals as goal

pub returns-clause-enough : goal.returns-clause-enough
returns-clause-enough c =
    rw c.room_of.ensures (step_suits c.args.self.now c.args.event.now c.stays_sound.ensures
    c.is_of_a_driver.ensures).room
