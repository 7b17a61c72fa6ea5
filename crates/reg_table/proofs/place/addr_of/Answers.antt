use Rattle.reg_table.proofs.FirstAddresses.{by_first, by_further, found_back}
use Rattle.reg_table.proofs.FirstViews.{first_view}
use Rattle.reg_table.proofs.place.addr_of.Goals as goal

pub returns-then-index-run-clause-first : goal.returns-then-index-run-clause-first
returns-then-index-run-clause-first c =
    by_first c.args.place _ _ c.first_of-run.ensures.value c.from-index.ensures c.if-index-run.true

pub returns-then-index-run-clause-back : goal.returns-then-index-run-clause-back
returns-then-index-run-clause-back c =
    found_back c.args.place _
    (by_first c.args.place _ _ c.first_of-run.ensures.value c.from-index.ensures c.if-index-run.true)

pub returns-then-index-run-clause-whole : goal.returns-then-index-run-clause-whole
returns-then-index-run-clause-whole c =
    first_view c.args.place _
    (by_first c.args.place _ _ c.first_of-run.ensures.value c.from-index.ensures c.if-index-run.true)

pub returns-else-index-run-clause-first : goal.returns-else-index-run-clause-first
returns-else-index-run-clause-first c =
    by_further c.args.place _ _ c.first_of-run.ensures.value c.from-index.ensures c.requires
    c.if-index-run.false

pub returns-else-index-run-clause-back : goal.returns-else-index-run-clause-back
returns-else-index-run-clause-back c =
    found_back c.args.place _
    (by_further c.args.place _ _ c.first_of-run.ensures.value c.from-index.ensures c.requires
    c.if-index-run.false)

pub returns-else-index-run-clause-whole : goal.returns-else-index-run-clause-whole
returns-else-index-run-clause-whole c =
    first_view c.args.place _
    (by_further c.args.place _ _ c.first_of-run.ensures.value c.from-index.ensures c.requires
    c.if-index-run.false)
