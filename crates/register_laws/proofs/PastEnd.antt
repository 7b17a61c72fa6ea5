-- Lemmas about stored words, requests and reported bits, and about the values past the end.
use Rattle.std.proofs.Common.{List, length, set, get_or, ◌≡◌, ℕ, ◌<◌, Bool, false, cond, nat_lt, sym, ◌∙◌, subst, inl, inr, arith}
use Rattle.std.proofs.lemmas.Bool.{cases_lt, cond-true, cond-false, lt-ltb, le-ltb}
use Rattle.register_laws.specs.Prelude.{Dir, Place, Registers, Rx, Tx, Vf, is_wanted, put, reported_by, row_of}
use Rattle.register_laws.specs.Prelude.{row_words, with_reported, with_wanted, word_at}
use Rattle.register_laws.proofs.Prelude.{get_or-set_same, get_or_past, length-set}
use Rattle.register_laws.specs.Sound.{HasShape}
use Rattle.register_laws.proofs.Shape.{put_stands, HasShape-put}

-- The value at the place where a word, a request or reported bits were stored; past the end, nothing is stored.
pub word_put : (r : Registers) → HasShape r → (p : Place) (v : ℕ)
    → word_at (put r.words p v) p ≡ cond (nat_lt p.index (row_of p.row).count) v 0
word_put r h p v =
    let count : ℕ = (row_of p.row).count in
    elim (cases_lt p.index count) as (λ _. word_at (put r.words p v) p ≡ cond (nat_lt p.index count) v 0) [
      | inl b ↦ put_stands r p v h b ∙ sym (cond-true (nat_lt p.index count) v 0 (lt-ltb p.index count b))
      | inr past ↦
          let short = (HasShape-put r p v h).has_indices p.row in
          get_or_past (row_words (put r.words p v) p.row) p.index 0 (omega arith)
          ∙ sym (cond-false (nat_lt p.index count) v 0 (le-ltb p.index count past))
    ]

-- The value at the index at which an element was set.
set_there : {A : Type 0} (xs : List A) (n i : ℕ) (x d : A) → length xs ≡ n
    → get_or (set xs i x) i d ≡ cond (nat_lt i n) x d
set_there xs n i x d e =
    elim (cases_lt i n) as (λ _. get_or (set xs i x) i d ≡ cond (nat_lt i n) x d) [
      | inl b ↦ get_or-set_same xs i x d (subst (λ m. i < m) (sym e) b)
          ∙ sym (cond-true (nat_lt i n) x d (lt-ltb i n b))
      | inr past ↦
          let short = length-set xs i x ∙ e in
          get_or_past (set xs i x) i d (omega arith) ∙ sym (cond-false (nat_lt i n) x d (le-ltb i n past))
    ]

pub side_wanted : (r : Registers) → HasShape r → (dir : Dir) (queue : ℕ) (wanted : Bool)
    → is_wanted (with_wanted r dir queue wanted) dir queue ≡ cond (nat_lt queue 128) wanted false
side_wanted r h Rx queue wanted = set_there r.wanted_rx 128 queue wanted false h.wanted_rx
side_wanted r h Tx queue wanted = set_there r.wanted_tx 128 queue wanted false h.wanted_tx

pub bits_reported : (r : Registers) → HasShape r → (v reported : ℕ)
    → reported_by (with_reported r (Vf v) reported) (Vf v) ≡ cond (nat_lt v 64) reported 0
bits_reported r h v reported = set_there r.reported_vf 64 v reported 0 h.reported_vf
