use Rattle.datasheet_laws.proofs.Shown.{poked_is_peeked, lent_is_peeked, taken_is_as_peeked}
use Rattle.datasheet_laws.proofs.frames.memory_shows_what_is_written.Goals as goal

pub returns : goal.returns
returns c = record { poked = poked_is_peeked; lent = lent_is_peeked; taken = taken_is_as_peeked }
