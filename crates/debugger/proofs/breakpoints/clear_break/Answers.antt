use Rattle.std.proofs.Common.{◌≡◌, ◌∙◌, ◌==◌, ap, sym, rules, not, filter, true, Ok}
use Rattle.arrayvec.proofs.ArrayVecLemmas.{filter-from_retain}
use Rattle.debugger.specs.Breakpoints.{has_break}
use Rattle.debugger.proofs.breakpoints.clear_break.Goals as goal

pub returns-clause-set : goal.returns-clause-set
returns-clause-set c =
    let kept : c.retain.new.self.items ≡ filter (λ set. not (set == c.args.pc)) c.args.breakpoints.now.items =
    filter-from_retain _ _ _ (λ x b f' y called. search rules) _ _ c.retain.ensures.filtered in
    let is : has_break c.args.breakpoints.now.items c.args.pc ≡ true = sym c.has_break.ensures
    ∙ c.if-not-has_break.false in
    rw is (ap Ok (sym kept))
