use Rattle.std.proofs.Common.{◌≡◌}
use Rattle.text_format.specs.declared.hex_data.HexFault.TheVariants.{Malformed}
use Rattle.text_format.proofs.HexData.{hex_bytes_of-decoded, hex_bytes_of-refused}
use Rattle.text_format.proofs.hex_data.hex_bytes.Goals as goal

pub returns-in-Ok-clause-ok : goal.returns-in-Ok-clause-ok
returns-in-Ok-clause-ok c = hex_bytes_of-decoded c.args.word.now _ c.in-Ok.ensures.ok

pub returns-in-Err-clause-malformed : goal.returns-in-Err-clause-malformed
returns-in-Err-clause-malformed c = λ reported.
    let fault : c.fault_of.result ≡ Malformed = cc in
    hex_bytes_of-refused c.args.word.now c.in-Err.error (c.fault_of.ensures fault) c.in-Err.ensures.err
