-- Lemmas about the pieces of a frame, from the frame's first slot to its last.
use Rattle.std.proofs.Common.{◌≡◌, ◌≢◌, ℕ, zero, suc, ◌^◌, ◌<◌, ◌≤◌, inl, inr, Bool, true, false, if◌then◌else◌, List, [], ◌∷◌, ◌++◌, length, take, drop, refl, sym, ap, subst, ◌∙◌, arith, Result, Ok, Err, append_assoc}
use Rattle.std.specs.Prelude.{◌↔◌, IsTrue}
use Rattle.std.proofs.lemmas.List.{append-nil, append_cancel_left, take-append-drop, take_all, length-take-le}
use Rattle.dma_arena.specs.Memory.{AreApart}
use Rattle.dma_ring.specs.declared.fault.RingFault.{RingFault}
use Rattle.rx_ring.specs.declared.filled.Filled.{Filled}
use Rattle.rx_ring.specs.Fill.{Rest}
use Rattle.rx_ring.specs.Frames.{Turn, turn_of, IsSound, Piece, piece_at, rest_after, pieces_from, pieces_of, joined, IsPieceOf, MakeFrame, PiecesMakeFrame}
use Rattle.rx_ring.proofs.Fills.{takes_piece, driver_reads}

-- An empty list contains no piece.
none_before : (before : List Piece) (p : Piece) (after : List Piece) → [] ≡ before ++ p ∷ after → ⊥
none_before [] p after e = cc
none_before (q ∷ qs) p after e = cc

no_pieces : (frame : Rest) → MakeFrame frame []
unfolding joined
no_pieces frame = record {
  bytes = (frame.bytes, refl);
  each = λ before p after e. absurd (none_before before p after e);
}

-- The piece that contains a frame's next `len` bytes.
abbrev piece_of : Rest → ℕ → Bool → Piece
piece_of frame len end = record { bytes = take len frame.bytes; first = frame.first; end = end }

-- The piece with EOP is the last piece.
last_piece : (frame : Rest) (len : ℕ) → len ≡ length frame.bytes
    → (before : List Piece) (p : Piece) (after : List Piece)
    → piece_of frame len true ∷ [] ≡ before ++ p ∷ after → IsPieceOf frame before p after
unfolding joined
last_piece frame len all [] p after e =
    let here : piece_of frame len true ≡ p = cc in
    subst (λ (q : Piece). IsPieceOf frame [] q after) here (record {
      reported = refl;
      end = (λ ends. take_all len frame.bytes (omega arith), λ whole. refl);
      last = λ ends. (cc);
    })
last_piece frame len all (q ∷ qs) p after e = absurd (none_before qs p after (cc))

ended : (frame : Rest) (len : ℕ) → len ≡ length frame.bytes → MakeFrame frame (piece_of frame len true ∷ [])
unfolding joined
ended frame len all = record {
  bytes = ([], append-nil _ ∙ append-nil _ ∙ take_all len frame.bytes (omega arith));
  each = last_piece frame len all;
}

-- A piece without EOP, followed by more pieces.
more_pieces : (frame : Rest) (len : ℕ) (ps : List Piece) → len ≤ length frame.bytes → len ≢ length frame.bytes
    → MakeFrame (rest_after frame len) ps → (before : List Piece) (p : Piece) (after : List Piece)
    → piece_of frame len false ∷ ps ≡ before ++ p ∷ after → IsPieceOf frame before p after
unfolding joined
more_pieces frame len ps within some make [] p after e =
    let here : piece_of frame len false ≡ p = cc in
    subst (λ (q : Piece). IsPieceOf frame [] q after) here (record {
      reported = refl;
      end = (
        λ ends. absurd (cc),
        λ whole. absurd (some (sym (length-take-le len frame.bytes within) ∙ ap length whole)),
      );
      last = λ ends. absurd (cc);
    })
more_pieces frame len ps within some make (q ∷ qs) p after e =
    let there : IsPieceOf (rest_after frame len) qs p after = make.each qs p after (cc) in
    let first : piece_of frame len false ≡ q = cc in
    let whole : q.bytes ++ drop len frame.bytes ≡ frame.bytes =
    ap (λ (x : Piece). x.bytes ++ drop len frame.bytes) (sym first) ∙ take-append-drop len frame.bytes in
    let regroup : (q.bytes ++ joined qs) ++ p.bytes ≡ q.bytes ++ (joined qs ++ p.bytes) =
    append_assoc q.bytes (joined qs) p.bytes in
    record {
      reported = there.reported;
      end = (
        λ ends. regroup ∙ ap (λ (xs : List ℕ). q.bytes ++ xs) (there.end.0 ends) ∙ whole,
        λ all. there.end.1
            (append_cancel_left q.bytes (joined qs ++ p.bytes) (drop len frame.bytes) (sym regroup ∙ all ∙ sym whole)),
      );
      last = there.last;
    }

goes_on : (frame : Rest) (len : ℕ) (ps : List Piece) → len ≤ length frame.bytes → len ≢ length frame.bytes
    → MakeFrame (rest_after frame len) ps → MakeFrame frame (piece_of frame len false ∷ ps)
unfolding joined
goes_on frame len ps within some make = record {
  bytes = (
    make.bytes.0,
    append_assoc (take len frame.bytes) (joined ps) make.bytes.0
        ∙ ap (λ (xs : List ℕ). take len frame.bytes ++ xs) make.bytes.1 ∙ take-append-drop len frame.bytes,
  );
  each = more_pieces frame len ps within some make;
}

-- What a driver reads from a slot.
less_apart : (a k n c l : ℕ) → k ≤ n → AreApart a n c l → AreApart a k c l
less_apart a k n c l h (inl o) = inl (omega arith)
less_apart a k n c l h (inr o) = inr o

piece_read : (t : Turn) (rest : Rest) (f : Filled) → IsSound t → rest.first < 2 ^ 64 → (turn_of t rest).answer ≡ Ok f
    → piece_at (turn_of t rest).memory f ≡ piece_of rest f.len f.end
piece_read t rest f sound fits is =
    let takes = takes_piece t.memory t.ring t.srrctl rest f is in
    let shows = driver_reads t.memory t.ring t.srrctl rest f sound.whole fits is in
    let len = takes.len in
    let apart : AreApart f.at f.len f.desc 16 =
    rw (takes.at, takes.desc) (less_apart _ f.len _ _ 16 (omega (arith, len)) sound.apart) in
    rw (shows.len, shows.bytes apart, shows.first, shows.end) refl

-- The piece of a filled slot, followed by the rest.
by_end : (frame : Rest) (len : ℕ) (end : Bool) (ps : List Piece) → len ≤ length frame.bytes
    → (IsTrue end ↔ (len ≡ length frame.bytes)) → MakeFrame (rest_after frame len) ps
    → MakeFrame frame (piece_of frame len end ∷ (if end then [] else ps))
by_end frame len true ps within ends make = ended frame len (ends.0 refl)
by_end frame len false ps within ends make =
    goes_on frame len ps within (λ all. let h : false ≡ true = ends.1 all in cc) make

by_answer : (t : Turn) (rest : Rest) (more : Filled → List Piece) (answer : Result Filled RingFault)
    → IsSound t → rest.first < 2 ^ 64 → (turn_of t rest).answer ≡ answer
    → ((f : Filled) → MakeFrame (rest_after rest f.len) (more f))
    → MakeFrame rest (pieces_from (turn_of t rest).memory more answer)
by_answer t rest more (Err fault) sound fits is make = no_pieces rest
by_answer t rest more (Ok f) sound fits is make =
    let takes = takes_piece t.memory t.ring t.srrctl rest f is in
    let len = takes.len in
    rw (piece_read t rest f sound fits is) (by_end rest f.len f.end (more f) (omega (arith, len)) takes.end (make f))

pub pieces_make_frame : PiecesMakeFrame
unfolding pieces_of
pieces_make_frame [] frame sound fits = no_pieces frame
pieces_make_frame (t ∷ ts) frame sound fits =
    by_answer t frame (λ f. pieces_of (rest_after frame f.len) ts) (turn_of t frame).answer
    (sound zero t (omega arith)) fits refl
    (λ f. pieces_make_frame ts (rest_after frame f.len) (λ k other within. sound (suc k) other (omega arith)) fits)
