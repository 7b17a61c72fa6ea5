-- Lemmas about a packet that several turns fetch: its bytes are staged in order and become its frame.
use Rattle.std.proofs.Common.{◌≡◌, ◌≢◌, ℕ, Bool, true, false, if◌then◌else◌, List, [], ◌∷◌, ◌++◌, refl, sym, ◌∙◌, arith, Some, None, Ok, append_assoc}
use Rattle.std.proofs.lemmas.Bool.{eq-eqb, ne_eqb}
use Rattle.std.proofs.lemmas.List.{append-nil}
use Rattle.tx_ring.specs.declared.fetched.Fetched.{Fetched}
use Rattle.tx_ring.specs.Frame.{frame_of}
use Rattle.tx_ring.specs.Fetch.{Outcome, descriptor_of, buffer_bytes}
use Rattle.tx_ring.specs.Laws.{command_at, Turn, turn_of, piece_of, pieces_of, staged_after, GoOn, PacketLaw}
use Rattle.tx_ring.proofs.Fetches.{fetch_cases}

-- If no packet ends, the piece is staged after the bytes already staged.

abbrev Stages : Turn → List ℕ → Outcome → Type 0
Stages t staged o = (f : Fetched) → o.answer ≡ Ok f → f.frame ≡ None → o.staged ≡ staged ++ piece_of t

still_staged : (end : Bool) (frame staged : List ℕ) → (if end then Some frame else None) ≡ None
    → (if end then [] else staged) ≡ staged
still_staged true frame staged is = absurd (cc)
still_staged false frame staged is = refl

stages : (t : Turn) (staged : List ℕ) → Stages t staged (turn_of t staged)
stages t staged =
    let c = command_at t.memory t.ring in
    let bytes : List ℕ = staged ++ buffer_bytes t.memory (descriptor_of t.memory t.ring) in
    fetch_cases (Stages t staged) t.memory staged t.ring t.tx (λ fault f is none. absurd (cc))
    (λ context f is none. rw (eq-eqb c.kind 2 context.type) (sym (append-nil staged)))
    (λ full sent f is none.
    let other : c.kind ≢ 2 = omega (arith, full.type) in
    let ends : (if c.end then Some (frame_of t.tx.pad bytes) else None) ≡ None = cc in
    rw (ne_eqb c.kind 2 other) (still_staged c.end (frame_of t.tx.pad bytes) bytes ends))

-- If a packet ends, its frame is the staged bytes followed by the piece.

abbrev Ends : Turn → List ℕ → Outcome → Type 0
Ends t staged o =
    (f : Fetched) (frame : List ℕ) → o.answer ≡ Ok f → f.frame ≡ Some frame
    → (frame ≡ frame_of t.tx.pad (staged ++ piece_of t)) × (o.staged ≡ [])

gone : (end : Bool) (frame staged out : List ℕ) → (if end then Some frame else None) ≡ Some out → (out ≡ frame)
    × ((if end then [] else staged) ≡ [])
gone true frame staged out is = (cc, refl)
gone false frame staged out is = absurd (cc)

ends : (t : Turn) (staged : List ℕ) → Ends t staged (turn_of t staged)
ends t staged =
    let c = command_at t.memory t.ring in
    let bytes : List ℕ = staged ++ buffer_bytes t.memory (descriptor_of t.memory t.ring) in
    fetch_cases (Ends t staged) t.memory staged t.ring t.tx (λ fault f frame is some. absurd (cc))
    (λ context f frame is some. absurd (cc))
    (λ full sent f frame is some.
    let other : c.kind ≢ 2 = omega (arith, full.type) in
    let out : (if c.end then Some (frame_of t.tx.pad bytes) else None) ≡ Some frame = cc in
    rw (ne_eqb c.kind 2 other) (gone c.end (frame_of t.tx.pad bytes) bytes frame out))

-- Turns in which no packet ends stage their pieces in order.
staged_after-pieces : (turns : List Turn) (staged : List ℕ) → GoOn turns staged
    → staged_after turns staged ≡ staged ++ pieces_of turns
unfolding staged_after pieces_of GoOn
staged_after-pieces [] staged on = sym (append-nil staged)
staged_after-pieces (t ∷ ts) staged on =
    staged_after-pieces ts (turn_of t staged).staged on.1
    ∙ rw (stages t staged on.0.0 on.0.1 on.0.2, append_assoc staged (piece_of t) (pieces_of ts)) refl

pub packet_law : PacketLaw
packet_law turns last f frame on is some =
    let out = ends last (staged_after turns []) f frame is some in
    let pieces : staged_after turns [] ≡ pieces_of turns = staged_after-pieces turns [] on in
    (out.0 ∙ rw pieces refl, out.1)
