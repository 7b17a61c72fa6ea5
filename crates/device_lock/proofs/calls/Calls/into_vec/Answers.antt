use Rattle.std.proofs.Common.{◌∷◌, [], ◌++◌, ◌∙◌, sym, ap, arith, append_assoc, length, List}
use Rattle.device_lock.specs.Calls.{calls_in, rested_calls}
use Rattle.device_lock.specs.declared.entry.Call.{Call}
use Rattle.device_lock.specs.declared.calls.Made.{Made}
use Rattle.device_lock.proofs.MadeCalls.{made-more}
use Rattle.device_lock.proofs.calls.Calls.into_vec.Goals as goal

pub loop-it-preserved : goal.loop-it-preserved
loop-it-preserved c =
    let (done, are, put, room) = c.loop-it.invariant in
    let it = c.in-Some.it in
    let rest = c.in-Some.ensures.steps.0 in
    let fewer = ap length rest in (
      done ++ it ∷ [],
      ap (λ (l : List Made). calls_in l c.self.inside.rested)
          (append_assoc done (it ∷ []) _ ∙ ap (λ (l : List Made). done ++ l) (sym rest))
          ∙ are,
      c.push_reserved.ensures.items
          ∙ ap (λ (l : List Call). l ++ it.call ∷ [])
          (c.keep_idle.ensures.items ∙ ap (λ (l : List Call). l ++ rested_calls it.rested) put)
          ∙ sym (made-more done it),
      omega (
        arith,
        room,
        fewer,
        c.push_reserved.ensures.len,
        c.push_reserved.ensures.capacity,
        c.keep_idle.ensures.len,
        c.keep_idle.ensures.room,
      ),
    )
