-- Events that a driver causes.
use Rattle.std.specs.Prelude.{Bool, true, false}
use Rattle.nic_device.specs.DmaArena.Block.{Block}
use Rattle.nic_device.specs.declared.event.Event.{Event}
use Rattle.nic_device.specs.declared.event.Event.TheVariants as event

-- Whether an event is a device step.
abbrev pub is_step : Event Block → Bool
is_step event.RxStep = true
is_step (event.TxStep queue) = true
is_step (event.IntStep group) = true
is_step (event.QueueStep dir queue) = true
is_step event.EepromStep = true
is_step (event.Read port number) = false
is_step (event.Write port number word) = false
is_step (event.Lend block) = false
is_step (event.Take number) = false
is_step (event.Peek16 address) = false
is_step (event.Poke16 address bytes) = false
is_step (event.Arrive frame) = false
is_step (event.Link up) = false
is_step event.Collect = false
