use Rattle.std.proofs.Common.{◌≡◌, ℕ, true, List, [], ◌∷◌, ◌++◌, length, length-take-le, ap, subst, ◌∙◌, arith}
use Rattle.pmd_rx.specs.Receive.{Receive, Layout, is_part}
use Rattle.pmd_rx.specs.declared.ring.Reported.{Reported}
use Rattle.pmd_rx.proofs.Steady.{seen_steady, posted_few}
use Rattle.pmd_rx.proofs.ring.ReceiveRing.look.Goals as goal
use Rattle.pmd_rx.proofs.ring.ReceiveRing.look.Goals.{in-Part, in_default}

pub invariant_of-self-then-matches : goal.invariant_of-self-then-matches
invariant_of-self-then-matches g c =
    let r = c.self.inside in
    let l : Layout = record {
      port = r.port;
      tail = r.tail;
      ring = r.ring;
      size = r.size;
      most = r.most;
      next = r.next;
      blocks = r.slots.items;
    } in
    let reported : Reported = record { first = c.first_half.result; second = c.second_half.result } in
    let seen : c.len.result ≡ length r.seen.items =
    omega (arith, c.len.ensures, c.reserve.ensures.len, r.seen.ok.0) in
    let few = posted_few l r.posted r.seen.items r.held r.whole.items r.stage c.self.invariant.0 in (
      seen_steady l r.posted r.seen.items c.push_back_reserved.new.self.items r.held r.whole.items r.stage
          c.stage_after-self-inside.result reported c.self.invariant.0
          (ap (λ (v : Receive). v.stage) c.self.view_is ∙ c.requires.stage)
          (c.push_back_reserved.ensures.items
          ∙ ap (λ (ts : List Reported). ts ++ reported ∷ []) c.reserve.ensures.items)
          c.stage_after-self-inside.ensures
          (subst (λ (n : ℕ). is_part r.most n reported.second ≡ true) seen
          (elim c.match-matches.branch [
            | in-Part w ↦ (c.look_reported-look.ensures.part w.in-Part.is).1
            | in_default w ↦ absurd (let no = w.matches-is in let is = c.if-matches.true in cc)
          ]))
          (omega (
            arith,
            c.requires.some,
            ap (λ (v : Receive). length v.seen) c.self.view_is,
            ap (λ (v : Receive). length v.layout.blocks) c.self.view_is,
            length-take-le r.posted r.slots.items few,
          )),
      c.self.invariant.1,
    )
