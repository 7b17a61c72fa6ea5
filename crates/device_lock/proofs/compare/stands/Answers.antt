use Rattle.std.proofs.Common.{rules, ◌≡◌, ◌∙◌, ap, sym, arith, ◌++◌, List, take}
use Rattle.std.proofs.lemmas.List.{take_all}
use Rattle.device_lock.specs.Calls.{made_calls}
use Rattle.device_lock.specs.History.{calls_of}
use Rattle.device_lock.specs.declared.calls.Made.{Made}
use Rattle.device_lock.proofs.Stands.{made_further, made_differ, rest_differs, rest_stands}
use Rattle.device_lock.proofs.compare.stands.Goals as goal

pub returns-in-None : goal.returns-in-None
returns-in-None c =
    let no =
    made_differ c.kept.result.0.now c.loop-it.it-index c.it-item.result c.it-item.result c.kept.result.1
    (omega arith) c.it-item.is (calls_of c.args.tag c.args.history.now) _ c.loop-it.invariant c.in-None.ensures.none in
    (λ yes. absurd (search (rules, yes)), λ same. absurd (no (same ∙ sym c.kept.ensures)))

pub loop-it-preserved : goal.loop-it-preserved
loop-it-preserved c =
    made_further c.kept.result.0.now c.loop-it.it-index c.it-item.result c.it-item.result (omega arith)
    c.it-item.is (calls_of c.args.tag c.args.history.now) _ _ c.loop-it.invariant c.in-Some.ensures.some

pub returns-in-Some-after_rested : goal.returns-in-Some-after_rested
returns-in-Some-after_rested c =
    let made = c.kept.result.0.now in
    let all : take c.loop-it.it-index made ≡ made = take_all c.loop-it.it-index made (omega arith) in
    let are =
    c.loop-it.invariant ∙ ap (λ (l : List Made). made_calls l ++ calls_of c.args.tag c.loop-it.rest.now) all in
    let stands =
    rest_stands made c.kept.result.1 (calls_of c.args.tag c.args.history.now) _ _ are
    c.in-Some-after_rested.ensures.some in (
      λ yes. stands.0 (c.is_silent.ensures.0 yes) ∙ c.kept.ensures,
      λ same. c.is_silent.ensures.1 (stands.1 (same ∙ sym c.kept.ensures)),
    )

pub returns-in-None-after_rested : goal.returns-in-None-after_rested
returns-in-None-after_rested c =
    let made = c.kept.result.0.now in
    let all : take c.loop-it.it-index made ≡ made = take_all c.loop-it.it-index made (omega arith) in
    let are =
    c.loop-it.invariant ∙ ap (λ (l : List Made). made_calls l ++ calls_of c.args.tag c.loop-it.rest.now) all in
    let no =
    rest_differs made c.kept.result.1 (calls_of c.args.tag c.args.history.now) _ are
    c.in-None-after_rested.ensures.none in
    (λ yes. absurd (search (rules, yes)), λ same. absurd (no (same ∙ sym c.kept.ensures)))
