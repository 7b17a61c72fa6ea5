use Rattle.std.proofs.Common.{ℕ, List, [], ◌∷◌, ◌++◌, map, length, refl, sym, ap, ◌∙◌, subst, append_assoc, arith, rules}
use Rattle.std.proofs.lemmas.Grind.{common_steps}
use Rattle.std.proofs.lemmas.List.{nil_from_length}
use Rattle.pmd_driver.specs.DeviceLock.Pass.{PassValue, IsOwn}
use Rattle.pmd.specs.Feeding.{HaveArrived}
use Rattle.pmd.proofs.Arriving.{one_more, all_came, stops_before, none_yet, none_done, done_more, done_few}
use Rattle.pmd.proofs.feeding.feed.Goals as goal

pub loop-frame-init : goal.loop-frame-init
loop-frame-init g c = (
  [],
  search rules,
  none_yet c.args.pass.now,
  none_done c.args.pass.now,
  λ foreign. (refl, refl),
)

pub loop-frame-preserved : goal.loop-frame-preserved
loop-frame-preserved g c =
    let (before, are, arrived, done, turned) = c.loop-frame.invariant in
    let bytes : List ℕ = c.in-Some.frame.items in (
      before ++ bytes ∷ [],
      append_assoc before (bytes ∷ []) _
          ∙ ap (λ l. before ++ map (λ frame. frame.items) l) (sym c.in-Some.ensures.steps.0)
          ∙ are,
      one_more before (bytes ∷ []) _ _ _ arrived c.in-Ok.ensures.arrived,
      done_more before (bytes ∷ []) _ _ _ _ _ arrived c.in-Ok.ensures.arrived done c.in-Ok.ensures.count,
      λ foreign.
          let no = c.in-Ok.ensures.foreign (λ own. foreign
          (subst (λ (p : PassValue). IsOwn c.args.shared.now.bench c.args.shared.now.passes p) arrived.made own)) in
          absurd cc,
    )

pub overflow_add-done : goal.overflow_add-done
overflow_add-done g c =
    let (before, are, arrived, done, turned) = c.loop-frame.invariant in
    let few = done_few before _ _ arrived in
    let all = ap length are in
    let rest = ap length c.in-Some.ensures.steps.0 in
    grind (arith, common_steps, done, few, all, rest, c.len-most.ensures, c.in-Ok.ensures.most)

pub returns-in-Err-clause-fed : goal.returns-in-Err-clause-fed
returns-in-Err-clause-fed g c =
    let (before, are, arrived, done, turned) = c.loop-frame.invariant in
    stops_before before _ _ c.in-Some.frame.items c.in-Err.refusal _ _
    (ap (λ l. before ++ map (λ frame. frame.items) l) (sym c.in-Some.ensures.steps.0) ∙ are)
    (subst (λ (p : PassValue). HaveArrived before c.args.pass.now p) (sym c.in-Err.ensures.refused) arrived)

pub returns-clause-fed : goal.returns-clause-fed
returns-clause-fed g c =
    let (before, are, arrived, done, turned) = c.loop-frame.invariant in
    let none = nil_from_length _ (sym c.loop-frame.frame-iterator.rest.ok.0 ∙ c.in-None.ensures.steps.0) in
    all_came before _ _ _
    (ap (λ l. before ++ map (λ frame. frame.items) l) (sym none) ∙ are) arrived
