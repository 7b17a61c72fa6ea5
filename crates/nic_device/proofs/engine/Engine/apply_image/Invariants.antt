use Rattle.std.proofs.Common.{◌≡◌, take}
use Rattle.eeprom_image.specs.Triples.{triples_of}
use Rattle.nic_device.specs.Eeprom.{with_triples}
use Rattle.nic_device.proofs.engine.Engine.apply_image.Given as goal

abbrev pub invariant-loop-index : goal.invariant-loop-index
invariant-loop-index l = l.self ≡ with_triples l.fn.self (take l.index (triples_of l.fn.self.image))
