use Rattle.std.proofs.Common.{◌≡◌, ◌+◌, ◌-◌, suc, [], ◌∷◌, length, sym, ap, ◌∙◌, arith, refl, length-append}
use Rattle.std.proofs.lemmas.Result.{err_from_is_err_and}
use Rattle.program.specs.Listing.{IsSound}
use Rattle.program.specs.Object.{meanings, all_fields_in}
use Rattle.program.proofs.Instructions.{after-none, after-more, after-stopped, after-all, AllByRecursion-push}
use Rattle.program.proofs.reading.instructions_in.Goals as goal

pub loop-pc-init : goal.loop-pc-init
loop-pc-init c =
    let whole : c.args.count - 0 ≡ c.args.count = omega arith in
    rw (c.new-instructions.ensures.items, whole) record {
      read = after-none (meanings c.args.strings.now c.args.count 0 (all_fields_in c.args.count c.args.bytes.now));
      sound = tt;
      number = refl;
      left = c.requires;
    }

pub returns-in_err-instruction-clause-exact : goal.returns-in_err-instruction-clause-exact
returns-in_err-instruction-clause-exact c =
    let left : c.args.count - c.loop-pc.pc ≡ suc (c.args.count - (c.loop-pc.pc + 1)) = omega arith in
    let stopped = after-stopped c.args.strings.now c.args.count c.loop-pc.pc c.loop-pc.instructions.items _ _
    c.loop-pc.rest.now left
    c.in_err-instruction.field-0.0 c.in_err-instruction.ensures.exact in
    let returned = err_from_is_err_and c.from_residual.result c.from_residual.ensures.1 in
    rw (returned.1, returned.2) (λ _. sym c.loop-pc.invariant.read ∙ stopped)

pub loop-pc-preserved : goal.loop-pc-preserved
loop-pc-preserved c =
    let left : c.args.count - c.loop-pc.pc ≡ suc (c.args.count - (c.loop-pc.pc + 1)) = omega arith in
    let instruction = c.in_ok-instruction.instruction in
    let more = after-more c.args.strings.now c.args.count c.loop-pc.pc c.loop-pc.instructions.items _ _
    c.loop-pc.rest.now left
    instruction c.in_ok-instruction.ensures.exact in
    rw (c.in_ok-push.ensures.items, c.split_at.ensures.back) record {
      read = sym more ∙ c.loop-pc.invariant.read;
      sound = AllByRecursion-push (IsSound c.args.strings.now c.args.count) c.loop-pc.instructions.items instruction
          c.loop-pc.invariant.sound c.in_ok-instruction.ensures.sound;
      number = omega (arith, length-append c.loop-pc.instructions.items (instruction ∷ []));
      left = omega (arith, c.split_at.ensures.back_len, ap length c.split_at.ensures.back);
    }

pub returns-clause-exact : goal.returns-clause-exact
returns-clause-exact c =
    let none : c.args.count - c.loop-pc.pc ≡ 0 = omega arith in
    sym (rw none at c.loop-pc.invariant.read)
    ∙ after-all c.args.strings.now c.args.count c.loop-pc.pc c.loop-pc.instructions.items c.loop-pc.rest.now
