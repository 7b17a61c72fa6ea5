use Rattle.std.proofs.Common.{arith, ◌<◌, ◌∷◌, ◌++◌, [], length, sym, ◌∙◌, ap}
use Rattle.device_lock.specs.declared.entry.Entry.{Entry}
use Rattle.device_lock.proofs.Places.{positions_here, positions_there}
use Rattle.device_lock.proofs.positions.positions.Goals as goal
use Rattle.device_lock.proofs.positions.positions.Goals.{then-history-at+in_ok-push, else-history-at}

pub loop-at-preserved : goal.loop-at-preserved
loop-at-preserved c =
    let e : Entry = c.index-history-at.result in
    let h = c.args.history.now in
    let at = c.loop-at.at in
    let tag = c.args.tag in
    let lt : at < length h = omega arith in
    elim c.if-history-at.branch [
      | then-history-at+in_ok-push w ↦
          ap (λ v. v.items) w.places-is ∙ w.in_ok-push.ensures.items
          ∙ ap (λ z. z ++ at ∷ []) c.loop-at.invariant ∙ sym (positions_here tag h at e lt w.if-history-at.true)
      | else-history-at w ↦
          ap (λ v. v.items) w.places-is ∙ c.loop-at.invariant
          ∙ sym (positions_there tag h at e lt w.if-history-at.false)
    ]
