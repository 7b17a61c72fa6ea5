use Rattle.std.proofs.Common.{◌∙◌, ap, subst, ◌++◌, ◌<◌}
use Rattle.script_asm.specs.Prelude.{AllByRecursion, HaveWidths, fields_of}
use Rattle.script_asm.specs.Disassembly.{data_lines, code_lines, text_of}
use Rattle.script_asm.specs.Script.{program_of}
use Rattle.script_asm.proofs.RoundTrip.{texts_read_back}
use Rattle.script_asm.proofs.disassembly.disassemble.Goals as goal

pub returns : goal.returns
unfolding text_of
returns c =
    let text = c.in_ok-push_code_lines.ensures
    ∙ ap (λ text. text ++ code_lines c.code-2.result.now 0 c.code-2.result.now)
    (c.in_ok-push_data_lines.ensures
    ∙ ap (λ text. text ++ data_lines 0 c.strings-2.result.now) c.new-text.ensures.bytes
    ∙ ap (data_lines 0) c.strings-2.ensures.strings)
    ∙ ap (λ code. data_lines 0 c.args.program.now.strings ++ code_lines code 0 code) c.code-2.ensures.code in
    record {
      text = text;
      means = ap program_of text ∙ texts_read_back c.args.program.now c.strings.ensures.listing (record {
        strings = subst (AllByRecursion (AllByRecursion (λ byte. byte < 256))) c.strings.ensures.strings
            c.have_bytes.ensures;
        instructions = subst (AllByRecursion (λ i. HaveWidths (fields_of i))) c.code.ensures.code
            c.have_widths.ensures;
      });
    }
