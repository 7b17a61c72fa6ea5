use Rattle.std.proofs.Common.{◌≡◌, ◌∙◌, sym, ap, arith, length, take}
use Rattle.std.proofs.lemmas.List.{take_all}
use Rattle.std.specs.List.{slice_get}
use Rattle.eeprom_image.specs.Triples.{triples_of}
use Rattle.nic_device.specs.Eeprom.{with_triples}
use Rattle.nic_device.specs.State.{State}
use Rattle.nic_device.proofs.Triples.{one_more, none_inside, triples_leave}
use Rattle.nic_device.proofs.engine.Engine.apply_image.Goals as goal
use Rattle.nic_device.proofs.engine.Engine.apply_image.Goals.{in-Some, in_default}

pub loop-index-preserved : goal.loop-index-preserved
loop-index-preserved c =
    let s = c.args.self.now in
    let ts = triples_of s.image in
    let now = c.loop-index.self in
    let index = c.loop-index.index in
    let same : c.self-in-loop-index.inside.image ≡ s.image =
    ap (λ (t : State). t.image) (c.self-in-loop-index.view_is ∙ c.loop-index.invariant)
    ∙ (triples_leave s (take index ts)).image in
    let got : c.triple.result ≡ slice_get ts index =
    c.triple.ensures ∙ ap (λ ws. slice_get (triples_of ws) index) same in
    let count : c.triple_count-index-end.result ≡ length ts =
    c.triple_count-index-end.ensures ∙ ap (λ (t : State). length (triples_of t.image)) c.self.view_is in
    let inside = c.loop-index-test.true in
    elim c.match-triple.branch [
      | in-Some w ↦
          one_more s now c.match-triple.self ts index (w.in-Some.address, w.in-Some.word) c.loop-index.invariant
          (sym got ∙ w.in-Some.is) (w.self-is ∙ w.apply_triple.ensures)
      | in_default w ↦ absurd (none_inside ts index (omega arith) (sym got ∙ w.in_default.is))
    ]

pub returns : goal.returns
returns c =
    let s = c.args.self.now in
    let ts = triples_of s.image in
    let count : c.triple_count-index-end.result ≡ length ts =
    c.triple_count-index-end.ensures ∙ ap (λ (t : State). length (triples_of t.image)) c.self.view_is in
    let past = c.loop-index-test.false in
    c.loop-index.invariant ∙ ap (λ us. with_triples s us) (take_all c.loop-index.index ts (omega arith))
