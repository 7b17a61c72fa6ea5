use Rattle.script_asm.proofs.NamedPlaces.{names_have_their_places}
use Rattle.script_asm.proofs.laws.names_have_their_places.Goals as goal

pub returns : goal.returns
returns c = names_have_their_places
