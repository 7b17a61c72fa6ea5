use Rattle.std.proofs.Common.{sym, ◌∙◌, refl}
use Rattle.pmd_driver.proofs.Posting.{posts_none, posts_then}
use Rattle.pmd_driver.proofs.running.Running.send_burst.Goals as goal

pub returns-in-Some-clause-posts : goal.returns-in-Some-clause-posts
returns-in-Some-clause-posts g c = posts_none c.queue_burst-sent.ensures.queues (sym c.at_first.ensures ∙ c.in-Some.is)

pub returns-in-Ok-clause-posts : goal.returns-in-Ok-clause-posts
returns-in-Ok-clause-posts g c =
    posts_then c.queue_burst-sent.ensures.queues (sym c.at_first.ensures ∙ c.in-None.is) c.in-Ok.ensures.continues _
    (refl, c.in-Ok.ensures.settled) tt

pub returns-in-Err-clause-posts : goal.returns-in-Err-clause-posts
returns-in-Err-clause-posts g c =
    let on = c.in-Err.ensures.continues in
    posts_then c.queue_burst-sent.ensures.queues (sym c.at_first.ensures ∙ c.in-None.is) on _ tt (on.late, on.during)
