use Rattle.std.proofs.Common.{◌∙◌, [], Result, Err, refl, sym, ap, arith}
use Rattle.pmd_access.specs.declared.fault.PmdFault.{PmdFault}
use Rattle.std.proofs.lemmas.Result.{err_from_is_err_and}
use Rattle.pmd_access.proofs.Exchanging.{out_kept}
use Rattle.pmd_rx.specs.Keeping.{blocks_out}
use Rattle.pmd_rx.proofs.Earlier.{posts_then, stops_filling}
use Rattle.pmd_rx.proofs.Failing.{err_same}
use Rattle.pmd_rx.proofs.Filling.{posts_none, posts_more, posts_none_seen, posts_stage, posts_idle, posts_handed, posts_room, filled_runs, short_of}
use Rattle.pmd_rx.proofs.Keeping.{keeps_none, keeps_both}
use Rattle.pmd_rx.proofs.Playing.{plays_none}
use Rattle.pmd_rx.proofs.ring.ReceiveRing.fill.Goals as goal

pub loop-count-init : goal.loop-count-init
loop-count-init g c = record {
  began = λ o is. is;
  refuses = refl;
  plays = plays_none c.args.arena.now (g.N.Nic.made c.args.nic.now) c.args.self.now;
  posts = posts_none c.args.arena.now c.args.self.now;
  keeps = keeps_none c.args.arena.now c.args.self.now;
}

pub post-requires-clause-stage : goal.post-requires-clause-stage
post-requires-clause-stage g c =
    posts_stage c.loop-count._count c.args.arena.now c.loop-count.arena c.args.self.now c.loop-count.self
    c.loop-count.invariant.posts c.requires.stage

pub post-requires-clause-room : goal.post-requires-clause-room
post-requires-clause-room g c =
    posts_room c.loop-count._count c.args.arena.now c.loop-count.arena c.args.self.now c.loop-count.self
    c.loop-count.invariant.posts c.requires.empty
    (omega (arith, c.loop-count-test.true, c.spare_slots-slots.ensures.all))

pub post-requires-clause-empty : goal.post-requires-clause-empty
post-requires-clause-empty g c =
    posts_none_seen c.loop-count._count c.args.arena.now c.loop-count.arena c.args.self.now c.loop-count.self
    c.loop-count.invariant.posts c.requires.unseen

pub post-requires-clause-idle : goal.post-requires-clause-idle
post-requires-clause-idle g c =
    posts_idle c.loop-count._count c.args.arena.now c.loop-count.arena c.args.self.now c.loop-count.self
    c.loop-count.invariant.posts c.requires.idle

pub post-requires-clause-home : goal.post-requires-clause-home
post-requires-clause-home g c =
    out_kept c.args.arena.now (blocks_out c.args.self.now) c.loop-count.arena (blocks_out c.loop-count.self)
    c.requires.home c.loop-count.invariant.keeps.arena

pub loop-count-preserved : goal.loop-count-preserved
loop-count-preserved g c = record {
  began = λ o is. c.post.ensures.began o (c.loop-count.invariant.began o is);
  refuses = c.post.ensures.refuses ∙ c.loop-count.invariant.refuses;
  plays = posts_then c.loop-count._count c.args.arena.now c.loop-count.arena (g.N.Nic.made c.args.nic.now)
      (g.N.Nic.made c.loop-count.nic) (g.N.Nic.made c.post.new.nic) c.args.self.now c.loop-count.self c.post.new.self
      c.loop-count.invariant.plays c.loop-count.invariant.posts c.post.ensures.plays;
  posts = posts_more c.loop-count._count c.args.arena.now c.loop-count.arena c.post.new.arena c.args.self.now
      c.loop-count.self c.post.new.self c.loop-count.invariant.posts c.in_ok-post.ensures.posted;
  keeps = keeps_both c.args.arena.now c.loop-count.arena c.post.new.arena c.args.self.now c.loop-count.self
      c.post.new.self [] c.loop-count.invariant.keeps c.post.ensures.keeps;
}

pub returns-in_err-post-clause-plays : goal.returns-in_err-post-clause-plays
returns-in_err-post-clause-plays g c =
    posts_then c.loop-count._count c.args.arena.now c.loop-count.arena (g.N.Nic.made c.args.nic.now)
    (g.N.Nic.made c.loop-count.nic) (g.N.Nic.made c.post.new.nic) c.args.self.now c.loop-count.self c.post.new.self
    c.loop-count.invariant.plays c.loop-count.invariant.posts c.post.ensures.plays

pub returns-in_err-post-clause-handed : goal.returns-in_err-post-clause-handed
returns-in_err-post-clause-handed g c =
    c.post.ensures.handed
    ∙ posts_handed c.loop-count._count c.args.arena.now c.loop-count.arena c.args.self.now c.loop-count.self
    c.loop-count.invariant.posts

pub returns-in_err-post-clause-fails : goal.returns-in_err-post-clause-fails
returns-in_err-post-clause-fails g c =
    let p = err_from_is_err_and c.from_residual.result c.from_residual.ensures.1 in
    let stops = stops_filling c.in_err-post.field-0.0 c.loop-count._count c.args.arena.now c.loop-count.arena
    c.post.new.arena (g.N.Nic.made c.args.nic.now) (g.N.Nic.made c.loop-count.nic) (g.N.Nic.made c.post.new.nic)
    c.args.self.now c.loop-count.self c.post.new.self
    (omega (arith, c.loop-count-test.true, c.spare_slots-slots.ensures.all)) c.loop-count.invariant.plays
    c.loop-count.invariant.posts c.post.ensures.plays c.in_err-post.ensures.fails
    (λ short. c.in_err-post.ensures.none (ap (λ (f : PmdFault). let r : Result Unit PmdFault = Err f in r) short)) in
    rw (p.1, p.2) stops

pub returns-in_err-post-clause-short : goal.returns-in_err-post-clause-short
returns-in_err-post-clause-short g c is =
    let p = err_from_is_err_and c.from_residual.result c.from_residual.ensures.1 in
    let stops = stops_filling c.in_err-post.field-0.0 c.loop-count._count c.args.arena.now c.loop-count.arena
    c.post.new.arena (g.N.Nic.made c.args.nic.now) (g.N.Nic.made c.loop-count.nic) (g.N.Nic.made c.post.new.nic)
    c.args.self.now c.loop-count.self c.post.new.self
    (omega (arith, c.loop-count-test.true, c.spare_slots-slots.ensures.all)) c.loop-count.invariant.plays
    c.loop-count.invariant.posts c.post.ensures.plays c.in_err-post.ensures.fails
    (λ short. c.in_err-post.ensures.none (ap (λ (f : PmdFault). let r : Result Unit PmdFault = Err f in r) short)) in
    short_of c.in_err-post.field-0.0 (g.N.Nic.made c.args.nic.now) (g.N.Nic.made c.post.new.nic) c.args.arena.now
    c.post.new.arena c.args.self.now c.post.new.self (sym p.2 ∙ err_same (sym p.1 ∙ is)) stops

pub returns-in_err-post-clause-keeps : goal.returns-in_err-post-clause-keeps
returns-in_err-post-clause-keeps g c =
    keeps_both c.args.arena.now c.loop-count.arena c.post.new.arena c.args.self.now c.loop-count.self c.post.new.self []
    c.loop-count.invariant.keeps c.post.ensures.keeps

pub returns-in_err-post-clause-began : goal.returns-in_err-post-clause-began
returns-in_err-post-clause-began g c = λ o is. c.post.ensures.began o (c.loop-count.invariant.began o is)

pub returns-in_err-post-clause-refuses : goal.returns-in_err-post-clause-refuses
returns-in_err-post-clause-refuses g c = c.post.ensures.refuses ∙ c.loop-count.invariant.refuses

pub returns-clause-plays : goal.returns-clause-plays
returns-clause-plays g c = c.loop-count.invariant.plays

pub returns-clause-filled : goal.returns-clause-filled
returns-clause-filled g c = (
  c.loop-count._count,
  omega (arith, c.loop-count-test.false, c.loop-count.auto._count-end, c.spare_slots-slots.ensures.all),
  c.loop-count.invariant.posts,
)

pub returns-clause-running : goal.returns-clause-running
returns-clause-running g c =
    filled_runs c.loop-count._count c.args.arena.now c.loop-count.arena c.args.self.now c.loop-count.self
    c.loop-count.invariant.posts c.requires.empty c.requires.stage
    c.requires.unseen c.requires.idle c.spare_slots-slots.ensures.some.0 c.spare_slots-slots.ensures.some.1
    (omega (arith, c.loop-count-test.false, c.loop-count.auto._count-end, c.spare_slots-slots.ensures.all))

pub returns-clause-handed : goal.returns-clause-handed
returns-clause-handed g c =
    posts_handed c.loop-count._count c.args.arena.now c.loop-count.arena c.args.self.now c.loop-count.self
    c.loop-count.invariant.posts

pub returns-clause-keeps : goal.returns-clause-keeps
returns-clause-keeps g c = c.loop-count.invariant.keeps

pub returns-clause-began : goal.returns-clause-began
returns-clause-began g c = c.loop-count.invariant.began

pub returns-clause-refuses : goal.returns-clause-refuses
returns-clause-refuses g c = c.loop-count.invariant.refuses
