use Rattle.datasheet_laws.proofs.Settings.{devices_set, queues_set, counters_stay}
use Rattle.datasheet_laws.proofs.settings_are_bits.Goals as goal

pub returns : goal.returns
returns c = record { device = devices_set; queue = queues_set; counter = counters_stay }
