use Rattle.std.proofs.Common.{arith}
use Rattle.script_asm.proofs.Texts.{each_byte}
use Rattle.script_asm.proofs.disassembly.are_bytes.Goals as goal

pub returns : goal.returns
returns c = each_byte c.args.bytes.now (λ i. omega (arith, c.type_inv.bytes i))
