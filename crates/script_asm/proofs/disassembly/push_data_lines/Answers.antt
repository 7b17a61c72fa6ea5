use Rattle.std.proofs.Common.{sym, ◌∙◌, ap, ◌++◌, string_bytes}
use Rattle.script_asm.specs.Disassembly.{data_line}
use Rattle.script_asm.proofs.Written.{data_lines-added, data_lines-ended}
use Rattle.script_asm.proofs.disassembly.push_data_lines.Goals as goal

pub loop-number-preserved : goal.loop-number-preserved
loop-number-preserved c =
    data_lines-added (string_bytes c.loop-number.text) _ c.args.strings.now c.index-strings-number.result
    c.loop-number.number
    c.loop-number-test.true c.index-strings-number.is
    (c.in_ok-push_data_line.ensures
    ∙ ap (λ bytes. string_bytes c.loop-number.text ++ data_line c.loop-number.number bytes) c.bytes.ensures)
    ∙ c.loop-number.invariant

pub returns : goal.returns
returns c =
    sym (data_lines-ended (string_bytes c.loop-number.text) c.args.strings.now c.loop-number.number
    c.loop-number-test.false) ∙ c.loop-number.invariant
