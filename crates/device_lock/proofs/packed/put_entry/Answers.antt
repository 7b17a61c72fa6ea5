use Rattle.std.proofs.Common.{List, ◌∙◌, ap}
use Rattle.device_lock.specs.Packed.{entries_in}
use Rattle.device_lock.specs.declared.packed.Packed.{Packed}
use Rattle.device_lock.proofs.Unpacking.{entries-more}
use Rattle.device_lock.proofs.packed.put_entry.Goals as goal

pub returns : goal.returns
returns c = λ whole.
    ap (λ (l : List Packed). entries_in whole l c.none.result) c.push_reserved.ensures.items
    ∙ entries-more whole c.args.packed.now.items c.args.rested.now c.none.result c.args.pass c.args.event c.args.reply
    c.none.ensures
