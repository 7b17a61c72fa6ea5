use Rattle.std.proofs.Common.{◌<◌, List, length, arith, subst}
use Rattle.pmd.specs.declared.cell.TaskCell.{TaskCell}
use Rattle.pmd.specs.declared.assignment.Back.{Back}
use Rattle.pmd.proofs.Emptied.{emptied}
use Rattle.pmd.proofs.Gathering.{IsGathered, first_come, one_gathered, all_gathered}
use Rattle.pmd.proofs.ends.gather.Goals as goal

pub loop-preserved : goal.loop-preserved
loop-preserved g c =
    let i = c.loop.invariant in
    let some : 0 < length c.loop.cells.items =
    omega (arith, i.left, c.loop-test.true, c.len-end.ensures, c.loop.cells.ok.0) in
    let first = first_come c.loop.cells.items c.loop.collectors.items c.remove-cell.result c.remove-collector.result
    some i.come c.remove-cell.ensures.value c.remove-collector.ensures.value in
    record {
      gathered = rw (c.remove-cell.ensures.items, c.push_reserved.ensures.items)
          (one_gathered c.args.cells.items c.loop.cells.items c.loop.ends.items c.remove-cell.result c.end_of.result
          i.gathered some c.remove-cell.ensures.value c.end_of.ensures);
      come = rw (c.remove-cell.ensures.items, c.remove-collector.ensures.items) first.2;
      left = omega (arith, c.remove-cell.ensures.len, i.left);
      made = omega (arith, c.push_reserved.ensures.len, i.made);
      room = rw c.push_reserved.ensures.capacity i.room;
    }

pub returns : goal.returns
returns g c =
    let i = c.loop.invariant in
    let none = emptied c.loop.cells.items
    (omega (arith, i.left, c.loop-test.false, c.len-end.ensures, c.loop.cells.ok.0)) in
    all_gathered c.args.cells.items c.loop.ends.items
    (subst (λ (l : List (TaskCell _ Back)). IsGathered c.args.cells.items l c.loop.ends.items) none i.gathered)
