use Rattle.device_laws.proofs.StandingAccesses.{read_rest, write_rest, write_memory}
use Rattle.device_laws.proofs.access_leaves_the_rest.Goals as goal

pub returns : goal.returns
returns c = record { read = read_rest; write = write_rest; memory = write_memory }
