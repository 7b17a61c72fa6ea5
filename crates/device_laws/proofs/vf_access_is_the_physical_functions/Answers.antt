use Rattle.device_laws.proofs.Ports.{access_is_the_physical_functions, holes_and_absent_functions}
use Rattle.device_laws.proofs.vf_access_is_the_physical_functions.Goals as goal

pub returns-clause-access : goal.returns-clause-access
returns-clause-access c = access_is_the_physical_functions

pub returns-clause-nothing : goal.returns-clause-nothing
returns-clause-nothing c = holes_and_absent_functions
