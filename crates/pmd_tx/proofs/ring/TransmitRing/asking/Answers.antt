use Rattle.std.proofs.Common.{◌≡◌, ◌∙◌, ◌<◌, ℕ, length, get_or, ap, refl, arith}
use Rattle.pmd_tx.specs.Sending.{no_segment}
use Rattle.pmd_tx.specs.Shown.{latest}
use Rattle.pmd_tx.proofs.Outstanding.{segment-outstanding, tell-at}
use Rattle.pmd_tx.proofs.ring.TransmitRing.asking.Goals as goal

pub returns : goal.returns
returns c =
    let h = c.self.invariant in
    let ps = c.self.inside.pieces.items in
    let ks = c.self.inside.accepted.items in
    let k = c.self.inside.poked in
    let piece = c.index.result.now in
    let more : k < c.self.inside.lent = rw (← c.self.view_is) at c.requires in
    let known = h.lent_known in
    let below : k < length ps = omega (arith, more, known) in
    let at = segment-outstanding ps ks h.tells k below piece in
    let tells = tell-at ps (latest (length ps) ks) h.tells k below piece no_segment.part in
    let from : c.from.result ≡ k = c.from.ensures in
    let here : piece ≡ get_or ps k piece = c.index.ensures ∙ ap (λ (n : ℕ). get_or ps n piece) from in
    rw (
      c.of_halves.ensures,
      c.from-2.ensures,
      c.data_descriptor_word.ensures,
      c.from-3.ensures,
      ← c.self.view_is,
      at,
      ← tells.len,
      ← tells.whole,
      ← tells.last,
      ← here,
    ) refl
