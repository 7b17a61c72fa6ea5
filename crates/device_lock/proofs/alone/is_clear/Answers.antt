use Rattle.std.proofs.Common.{arith, ◌≡◌, ◌<◌, ◌+◌, ◌/◌, sym, ◌∙◌}
use Rattle.device_lock.specs.Watching.{marked, touched}
use Rattle.device_lock.proofs.Walks.{none_first, none_here, none_there, none_left}
use Rattle.device_lock.proofs.alone.is_clear.Goals as goal

pub loop-after-init : goal.loop-after-init
loop-after-init c = none_first (marked c.args.blocks.now) (c.args.at / 2048) (touched c.args.at c.args.len)

pub returns-then-is_marked : goal.returns-then-is_marked
returns-then-is_marked c =
    let lt : c.loop-after.after < touched c.args.at c.args.len =
    omega (arith, c.touched-after-end.ensures, c.loop-after-test.true) in
    sym (c.loop-after.invariant
    ∙ none_here (marked c.args.blocks.now) (c.args.at / 2048) c.loop-after.after (touched c.args.at c.args.len) lt
    (sym c.is_marked.ensures ∙ c.if-is_marked.true))

pub loop-after-preserved : goal.loop-after-preserved
loop-after-preserved c =
    let lt : c.loop-after.after < touched c.args.at c.args.len =
    omega (arith, c.touched-after-end.ensures, c.loop-after-test.true) in
    c.loop-after.invariant
    ∙ none_there (marked c.args.blocks.now) (c.args.at / 2048) c.loop-after.after (touched c.args.at c.args.len) lt
    (sym c.is_marked.ensures ∙ c.if-is_marked.false)

pub returns : goal.returns
returns c =
    let all : c.loop-after.after ≡ touched c.args.at c.args.len =
    omega (arith, c.touched-after-end.ensures, c.loop-after-test.false, c.loop-after.auto.after-end) in
    sym (c.loop-after.invariant
    ∙ rw all (none_left (marked c.args.blocks.now) (c.args.at / 2048 + touched c.args.at c.args.len)
    (touched c.args.at c.args.len)))
