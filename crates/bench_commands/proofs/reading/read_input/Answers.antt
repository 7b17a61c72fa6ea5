use Rattle.std.proofs.Common.{rules, arith, ◌≡◌, ◌∙◌, inr}
use Rattle.bench_commands.proofs.AllRead.{all-read, at-least, too-many}
use Rattle.bench_commands.proofs.reading.read_input.Goals as goal

pub returns-in-Ok-eq0-clause-whole : goal.returns-in-Ok-eq0-clause-whole
returns-in-Ok-eq0-clause-whole g c =
    all-read _ (g.R.Read.remaining c.loop.input.reader) (g.R.Read.remaining c.read.new.self.reader) c.loop.bytes.items
    c.read.new.buffer c.in-Ok-eq0.field-0 c.in-Ok-eq0.field-0-test c.loop.invariant.reported c.in-Ok-eq0.ensures.bytes.0
    (c.in-Ok-eq0.ensures.bytes.1 c.in-Ok-eq0.field-0-test (search rules))

pub returns-then-n-len-clause-too_long : goal.returns-then-n-len-clause-too_long
returns-then-n-len-clause-too_long g c = λ _.
    too-many _ (g.R.Read.remaining c.loop.input.reader) (g.R.Read.remaining c.read.new.self.reader) c.loop.bytes.items
    c.read.new.buffer c.in-Ok.n c.in-Ok.ensures.bound.0 c.loop.invariant.reported c.in-Ok.ensures.bytes.0
    (omega (arith, c.if-n-len.true, c.len.ensures, c.loop.invariant.fits))

pub returns-clause-unread : goal.returns-clause-unread
returns-clause-unread g c = λ _.
    let all : c.loop.counter ≡ 1000000 = omega (arith, c.loop.auto.counter-end, c.loop-test.false) in
    inr (
      c.loop.invariant.counted ∙ all,
      at-least (g.R.Read.remaining c.args.input.now.reader) (g.R.Read.remaining c.loop.input.reader) c.loop.bytes.items
          1000000 (omega (arith, c.loop.invariant.some, all)) c.loop.invariant.reported,
    )
