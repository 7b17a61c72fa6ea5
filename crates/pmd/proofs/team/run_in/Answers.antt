use Rattle.std.proofs.Common.{rules, ◌≡◌, List, [], length, subst, arith}
use Rattle.std.specs.Vec.{vec_len}
use Rattle.pmd.specs.declared.reports.Collector.{Collector}
use Rattle.pmd.specs.Coming.{AllSit, AreDrained}
use Rattle.pmd.proofs.Coming.{run_over, all_come, all_ends}
use Rattle.pmd.proofs.Sitting.{cells_wait, sit_count}
use Rattle.pmd.proofs.team.run_in.Goals as goal

pub run_cells-fed-requires-after_bounds : goal.run_cells-fed-requires-after_bounds
run_cells-fed-requires-after_bounds g c κs within =
    let waiting = cells_wait c.args.jobs.items c.sit-cells.result.items c.deref.result.now c.sit-cells.ensures in
    let starts : length c.deref-2.result.now ≡ vec_len c.sit-cells.result = omega (
      arith,
      c.deref-2.ensures.len,
      c.requires.starts,
      c.args.jobs.ok.0,
      c.sit-cells.result.ok.0,
      sit_count c.args.jobs.items c.sit-cells.result.items c.deref.result.now c.sit-cells.ensures,
    ) in
    search (rules, waiting, starts)

pub gather-requires-clause-room : goal.gather-requires-clause-room
gather-requires-clause-room g c =
    omega (
      arith,
      c.requires.ends.1,
      c.args.jobs.ok.0,
      c.sit-cells.result.ok.0,
      sit_count c.args.jobs.items c.sit-cells.result.items c.deref.result.now c.sit-cells.ensures,
    )

pub gather-requires-clause-come : goal.gather-requires-clause-come
gather-requires-clause-come g c =
    let sit = subst (λ (l : List Collector). AllSit c.args.jobs.items c.sit-cells.result.items l) c.deref.ensures.value
    c.sit-cells.ensures in
    let drained = subst (λ (l : List Collector). AreDrained l c.run_cells-fed.new.collectors) c.deref_mut.ensures.value
    c.run_cells-fed.ensures.drained in
    let same : length c.run_cells-fed.new.cells.items ≡ length c.sit-cells.result.items =
    omega (arith, c.run_cells-fed.ensures.same, c.run_cells-fed.new.cells.ok.0, c.sit-cells.result.ok.0) in
    all_come c.args.jobs.items _ _
    (run_over c.args.jobs.items c.sit-cells.result.items c.run_cells-fed.new.cells.items
    c.args.room.collectors.items c.run_cells-fed.new.collectors c.args.room.collectors.len _ sit same
    c.args.room.collectors.ok.0 c.run_cells-fed.ensures.ended drained)

pub returns-clause-ends : goal.returns-clause-ends
returns-clause-ends g c =
    let sit = subst (λ (l : List Collector). AllSit c.args.jobs.items c.sit-cells.result.items l) c.deref.ensures.value
    c.sit-cells.ensures in
    let drained = subst (λ (l : List Collector). AreDrained l c.run_cells-fed.new.collectors) c.deref_mut.ensures.value
    c.run_cells-fed.ensures.drained in
    let same : length c.run_cells-fed.new.cells.items ≡ length c.sit-cells.result.items =
    omega (arith, c.run_cells-fed.ensures.same, c.run_cells-fed.new.cells.ok.0, c.sit-cells.result.ok.0) in
    all_ends c.args.jobs.items _ _ _
    (run_over c.args.jobs.items c.sit-cells.result.items c.run_cells-fed.new.cells.items
    c.args.room.collectors.items c.run_cells-fed.new.collectors c.args.room.collectors.len [] sit same
    c.args.room.collectors.ok.0 c.run_cells-fed.ensures.ended drained) c.gather.ensures
