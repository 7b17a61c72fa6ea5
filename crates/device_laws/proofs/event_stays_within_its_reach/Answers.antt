use Rattle.device_laws.proofs.Standing.{stays_within, leaves_missed}
use Rattle.device_laws.proofs.event_stays_within_its_reach.Goals as goal

pub returns : goal.returns
returns c = record { stays = stays_within; missed = leaves_missed }
