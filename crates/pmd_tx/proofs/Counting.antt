-- Proves that the outstanding packets can be counted from the driver's pieces.
use Rattle.std.proofs.Common.{◌≡◌, ℕ, ◌+◌, ◌≤◌, Bool, List, [], ◌∷◌, cond, length, count_by, refl, sym, ap, ◌∙◌}
use Rattle.std.proofs.lemmas.List.Sums.{count_by-le-length, sum_by-cons}
use Rattle.pmd_access.specs.Packet.{Kept}
use Rattle.pmd_tx.specs.Pieces.{places_of}
use Rattle.pmd_tx.specs.Counted.{packets_in}
use Rattle.pmd_tx.specs.Sending.{Part, Segment, paired}
use Rattle.pmd_tx.specs.Shown.{AllTell, latest, outstanding_of}
use Rattle.pmd_tx.specs.declared.piece.Piece.{Piece}

ends-paired : (ps : List Piece) (qs : List Part) → AllTell ps qs
    → packets_in (paired (places_of ps) qs) ≡ count_by (λ (p : Piece). p.last) ps
ends-paired [] [] all = refl
ends-paired [] (q ∷ qs) all = absurd all
ends-paired (p ∷ ps) [] all = absurd all
ends-paired (p ∷ ps) (q ∷ qs) all =
    sum_by-cons (λ (s : Segment). cond s.part.last 1 0) (record { block = p.block; part = q })
    (paired (places_of ps) qs)
    ∙ ap (λ (b : Bool). cond b 1 0 + packets_in (paired (places_of ps) qs)) (sym all.0.last)
    ∙ ap (λ (n : ℕ). cond p.last 1 0 + n) (ends-paired ps qs all.1)
    ∙ sym (sum_by-cons (λ (x : Piece). cond x.last 1 0) p ps)

pub packets-outstanding : (ps : List Piece) (ks : List Kept) → AllTell ps (latest (length ps) ks)
    → packets_in (outstanding_of ps ks) ≡ count_by (λ (p : Piece). p.last) ps
unfolding outstanding_of
packets-outstanding ps ks all = ends-paired ps (latest (length ps) ks) all

pub ends-few : (ps : List Piece) → count_by (λ (p : Piece). p.last) ps ≤ length ps
ends-few ps = count_by-le-length (λ (p : Piece). p.last) ps

pub ruleset counting = (packets-outstanding, ends-few)
