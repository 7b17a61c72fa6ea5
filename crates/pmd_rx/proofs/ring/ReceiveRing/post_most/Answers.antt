use Rattle.std.proofs.Common.{List, [], ◌∷◌, ◌++◌, refl, ap, ◌∙◌, arith}
use Rattle.pmd_access.specs.declared.packet.Packet.{Packet}
use Rattle.pmd_rx.proofs.Acting.{acts_alone}
use Rattle.pmd_rx.proofs.Bursts.{none_out, one_out, all_out}
use Rattle.pmd_rx.proofs.Keeping.{keeps_none}
use Rattle.pmd_rx.proofs.Playing.{plays_none}
use Rattle.pmd_rx.proofs.ring.ReceiveRing.post_most.Goals as goal

pub returns-in-Ok-clause-out : goal.returns-in-Ok-clause-out
returns-in-Ok-clause-out g c a =
    one_out c.args.most a c.args.self.now c.post_one.new.self c.in-Ok.packet c.args.out.now.items
    c.push_back_reserved.new.self.items c.in-Ok.ensures.hands
    (c.push_back_reserved.ensures.items ∙ ap (λ (ps : List Packet). ps ++ c.in-Ok.packet ∷ []) c.reserve.ensures.items)
    c.requires.most

pub post_all-requires-clause-some : goal.post_all-requires-clause-some
post_all-requires-clause-some g c =
    c.count_whole-count.ensures.named (omega (arith, c.requires.some, c.count_whole-count.ensures.count))

pub returns-in-Ok-post_all-clause-out : goal.returns-in-Ok-post_all-clause-out
returns-in-Ok-post_all-clause-out g c a =
    all_out c.count_whole-count.result c.args.most a c.args.self.now c.post_all.new.self c.args.out.now.items
    c.post_all.new.out.items c.in-Ok-post_all.ensures.hands
    (c.in-Ok-post_all.ensures.out ∙ ap (λ (ps : List Packet). ps ++ c.args.self.now.whole) c.reserve.ensures.items)
    c.count_whole-count.ensures.count (omega (arith, c.if-count-from.false, c.from.ensures))

pub returns-then-is_err-clause-acts : goal.returns-then-is_err-clause-acts
returns-then-is_err-clause-acts g c =
    acts_alone _
    (λ a. plays_none a (g.N.Nic.made c.args.nic.now) c.args.self.now)
    (λ a. c.count_whole-count.ensures.asks a (omega (arith, c.requires.some, c.count_whole-count.ensures.count)))

pub returns-then-is_err-clause-out : goal.returns-then-is_err-clause-out
returns-then-is_err-clause-out g c a =
    none_out _ c.args.most a a c.args.self.now c.args.self.now c.args.out.now.items c.reserve.new.self.items
    tt refl c.reserve.ensures.items (keeps_none a c.args.self.now)
