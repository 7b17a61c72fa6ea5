use Rattle.std.proofs.Common.{◌≡◌, sym, ◌∙◌, ap, ◌++◌, length, arith, string_bytes}
use Rattle.script_asm.specs.Disassembly.{label_line_at}
use Rattle.script_asm.proofs.Written.{code_lines-added, code_lines-ended, written}
use Rattle.script_asm.proofs.disassembly.push_code_lines.Goals as goal

pub loop-pc-preserved : goal.loop-pc-preserved
loop-pc-preserved c = record {
  within = omega arith;
  all = code_lines-added (string_bytes c.loop-pc.text) _ c.args.code.now c.args.code.now _ c.loop-pc.pc
      c.loop-pc-test.true c.in_ok-push_code_line.ensures
      ∙ c.loop-pc.invariant.all;
}

pub returns : goal.returns
returns c =
    let ended : c.loop-pc.pc ≡ length c.args.code.now = omega arith in
    written c.push_label_line.result _ (string_bytes c.push_label_line.new.text) _ c.push_label_line.ensures
    (ap (λ pc. string_bytes c.loop-pc.text ++ label_line_at c.args.code.now pc) (sym ended)
    ∙ sym (code_lines-ended (string_bytes c.loop-pc.text) c.args.code.now c.args.code.now c.loop-pc.pc
    c.loop-pc-test.false) ∙ c.loop-pc.invariant.all)
