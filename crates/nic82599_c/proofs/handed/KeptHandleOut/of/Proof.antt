-- `of` follows from the proof for any out-parameter.
use Rattle.nic82599_c.specs.contracts.handed.KeptHandleOut.of.Key.{name as #self}
use Rattle.nic82599_c.proofs.Handles.{out_of_kept}
use Rattle.nic82599_c.proofs.IntoOut.{meets}
use Rattle.nic82599_c.proofs.handed.KeptHandleOut.of.Statement.{statement}
use Rattle.nic82599_c.proofs.handed.KeptHandleOut.of.Code.{unfolded}

pub of_spec : {M : Type 1} → statement M
of_spec 𝓤 𝓛 𝓜 𝓡 wired = meets out_of_kept 𝓛 𝓜 𝓡 #self (unfolded 𝓤 𝓛.H 𝓜 𝓡 wired)
