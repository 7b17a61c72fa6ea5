use Rattle.std.proofs.Common.{◌≡◌, List, [], ◌∙◌, ap, refl, arith}
use Rattle.device_lock.specs.Packed.{entries_in}
use Rattle.device_lock.specs.declared.entry.Entry.{Entry}
use Rattle.device_lock.specs.declared.packed.Packed.{Packed}
use Rattle.device_lock.proofs.Histories.{kept_opened}
use Rattle.device_lock.proofs.locked.Locked.new.Goals as goal

pub invariant_of-result : goal.invariant_of-result
invariant_of-result g c =
    let last = c.none.result in
    let none : entries_in c.new-2.result.items c.empty_history-packed.result.items last ≡ [] =
    ap (λ (w : List Entry). entries_in w c.empty_history-packed.result.items last) c.new-2.ensures.items
    ∙ ap (λ (p : List Packed). entries_in [] p last) c.empty_history-packed.ensures ∙ c.none.ensures in (
      kept_opened g.row.VFS g.row.FIFO c.in-Ok.device
          (entries_in c.new-2.result.items c.empty_history-packed.result.items last) c.args.limit
          c.no_entries-counts.result c.in-Ok.ensures.made none c.requires.limit c.no_entries-counts.ensures,
      record { counted = rw none refl; fits = omega arith },
    )
