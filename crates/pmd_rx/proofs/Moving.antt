-- Lemmas about the tail, which advances over the blocks that replace the oldest complete packet, or over all named
-- blocks.
use Rattle.std.proofs.Common.{◌≡◌, ◌≢◌, ℕ, ◌+◌, ◌<◌, ◌≤◌, ◌==◌, Bool, true, false, ◌⊎◌, inl, inr, List, [], ◌∷◌, ◌++◌, length, take, drop, All, Result, Ok, Err, OnOk, OnErr, refl, sym, ap, subst, ◌∙◌, take_all, length-take-le, take-append-drop, arith, if◌then◌else◌}
use Rattle.std.proofs.lemmas.Bool.{cases_eq}
use Rattle.std.proofs.lemmas.Bool.Decides.{nat_tests}
use Rattle.std.proofs.lemmas.List.{append-nil, length-append, length-map}
use Rattle.pmd_access.specs.NicDevice.DmaArena.Block.{Block}
use Rattle.pmd_access.specs.NicDevice.DmaArena.Numbers.{Numbers}
use Rattle.pmd_access.specs.NicDevice.DmaArena.Whereabouts.{times_in_hand}
use Rattle.pmd_access.specs.NicDevice.declared.event.Event.TheVariants as event
use Rattle.pmd_access.specs.Bufs.{numbers_of}
use Rattle.pmd_access.specs.declared.packet.Packet.{Packet}
use Rattle.pmd_access.proofs.Outside.{times-append}
use Rattle.pmd_access.proofs.Places.{wrapped_apart}
use Rattle.pmd_rx.specs.Burst.{HasPart}
use Rattle.pmd_rx.specs.Keeping.{Keeps, IsRunning, IsDuring, vacated, blocks_out, numbers_of_all}
use Rattle.pmd_rx.specs.Receive.{Receive, MovesNext, moved, posts, posts_one, posts_all, parts_first, tail_after, records_of}
use Rattle.pmd_rx.specs.declared.ring.Stage.{Stage}
use Rattle.pmd_rx.specs.declared.ring.Stage.TheVariants.{Looks, Takes, Owes, Lent}
use Rattle.pmd_rx.specs.Shown.{HandsOne, HandsAll}
use Rattle.pmd_rx.specs.Wrong.{AsksNext}
use Rattle.pmd_rx.proofs.Keeping.{times_out, held_count, keeps_none, keeps_to}
use Rattle.pmd_rx.proofs.Lists.{all-split}

-- The number of blocks that the packets occupy.

count_first : (p : Packet) (ps : List Packet)
    → length (numbers_of_all (p ∷ ps)) ≡ length p.bufs + length (numbers_of_all ps)
count_first p ps =
    omega (arith, length-append (numbers_of p.bufs) (numbers_of_all ps), length-map p.bufs (λ (b : Block). b.number))

some_first : (p : Packet) (ps : List Packet) → All HasPart (p ∷ ps) → 0 < length p.bufs
some_first p ps all = all 0 p (omega arith)

some_next : (p q : Packet) (ps : List Packet) → All HasPart (p ∷ q ∷ ps) → 0 < length q.bufs
some_next p q ps all = all 1 q (omega arith)

parts_some : (ps : List Packet) → 0 < length ps → All HasPart ps → 0 < parts_first ps
parts_some [] some all = absurd (omega (arith, some))
parts_some (p ∷ ps) some all = some_first p ps all

-- Only the oldest packet is handed out.

pub one_own : (v : Receive) (n : ℕ) → n ≡ parts_first v.whole → 0 < length v.whole → All HasPart v.whole
    → n ≤ length v.named → MovesNext v v.layout.port v.layout.tail (tail_after v.layout n)
one_own v n is some all few = record {
  some = omega (arith, few, is, parts_some v.whole some all);
  port_is = refl;
  number_is = refl;
  word_is = inl (record {
    some = some;
    few = omega (arith, few, is);
    word_is = ap (λ (k : ℕ). tail_after v.layout k) is;
  });
}

pub one_asks : (a : Numbers) (v : Receive) → 0 < length v.whole → All HasPart v.whole
    → parts_first v.whole ≤ length v.named → AsksNext a v
one_asks a v some all few = (
  event.Write v.layout.port v.layout.tail (tail_after v.layout (parts_first v.whole)),
  one_own v (parts_first v.whole) refl some all few,
  tt,
)

same_test : (n : ℕ) → (n == n) ≡ true
same_test n = grind (arith, nat_tests)

one_word : (v : Receive) → moved v (tail_after v.layout (parts_first v.whole)) ≡ posts_one v
one_word v =
    ap (λ (b : Bool). if b then posts_one v else posts_all v) (same_test (tail_after v.layout (parts_first v.whole)))

pub one_moved : (v : Receive) (n : ℕ) → n ≡ parts_first v.whole → moved v (tail_after v.layout n) ≡ posts_one v
one_moved v n is = ap (λ (k : ℕ). moved v (tail_after v.layout k)) is ∙ one_word v

-- All packets are handed out.

pub all_own : (v : Receive) (n : ℕ) → n ≡ length v.named → 0 < length v.named
    → MovesNext v v.layout.port v.layout.tail (tail_after v.layout n)
all_own v n is some = record {
  some = some;
  port_is = refl;
  number_is = refl;
  word_is = inr (ap (λ (k : ℕ). tail_after v.layout k) is);
}

-- If all named blocks replace the oldest complete packet, this packet is the only one.
only_one : (ps : List Packet) (n : ℕ) → 0 < n → All HasPart ps → length (numbers_of_all ps) ≤ n → n ≡ parts_first ps
    → length ps ≡ 1
only_one [] n some all few is = absurd (omega (arith, some, is))
only_one (p ∷ []) n some all few is = refl
only_one (p ∷ q ∷ ps) n some all few is =
    let next = some_next p q ps all in
    absurd (omega (arith, few, is, next, count_first p (q ∷ ps), count_first q ps))

first_few : (ps : List Packet) → parts_first ps ≤ length (numbers_of_all ps)
first_few [] = omega arith
first_few (p ∷ ps) = omega (arith, count_first p ps)

test_apart : (m n : ℕ) → m ≢ n → (m == n) ≡ false
test_apart m n apart = grind (arith, nat_tests)

same_words : (v : Receive) → 0 < length v.named → v.layout.next < v.layout.size
    → length v.layout.blocks + length v.named < v.layout.size → All HasPart v.whole
    → length (numbers_of_all v.whole) ≤ length v.named
    → (length v.named ≡ parts_first v.whole) ⊎ (length v.named ≢ parts_first v.whole)
    → moved v (tail_after v.layout (length v.named)) ≡ posts_all v
same_words v some next room all few (inl same) =
    ap (λ (n : ℕ). moved v (tail_after v.layout n)) same ∙ one_word v
    ∙ ap (λ (n : ℕ). posts v n 1) (sym same)
    ∙ ap (λ (n : ℕ). posts v (length v.named) n) (sym (only_one v.whole (length v.named) some all few same))
same_words v some next room all few (inr apart) =
    let l = v.layout in
    let first = parts_first v.whole in
    let below = first_few v.whole in
    ap (λ (b : Bool). if b then posts_one v else posts_all v)
    (test_apart (tail_after l (length v.named)) (tail_after l first)
    (wrapped_apart l.size l.next (length l.blocks + length v.named) (length l.blocks + first) next room
    (omega (arith, below, few, room)) (λ same. apart (omega (arith, same)))))

pub all_moved : (v : Receive) (n : ℕ) → n ≡ length v.named → 0 < length v.named → v.layout.next < v.layout.size
    → length v.layout.blocks + n < v.layout.size → All HasPart v.whole → length (numbers_of_all v.whole) ≤ n
    → moved v (tail_after v.layout n) ≡ posts_all v
all_moved v n is some next room all few =
    ap (λ (k : ℕ). moved v (tail_after v.layout k)) is
    ∙ same_words v some next (omega (arith, room, is)) all (omega (arith, few, is))
    (cases_eq (length v.named) (parts_first v.whole))

-- What a tail write preserves.

during_same : (v : Receive) (n m : ℕ) (s : Stage) → IsDuring v s → IsDuring (posts v n m) s
during_same v n m Looks during = during
during_same v n m Takes during = during
during_same v n m Owes during = during
during_same v n m (Lent b) during = during

pub posts_keeps : (a : Numbers) (v : Receive) (n m : ℕ)
    → (IsRunning v → length (take n v.named) ≡ length (numbers_of_all (take m v.whole)))
    → Keeps a v a (posts v n m) (numbers_of_all (take m v.whole))
posts_keeps a v n m even =
    let l = v.layout in
    let w = posts v n m in
    let out = numbers_of_all (take m v.whole) in
    let named = ap (λ (ns : List ℕ). length ns) (take-append-drop n v.named) in
    record {
      arena = (
        [],
        refl,
        λ k. omega (
          arith,
          times_out v k,
          times_out w k,
          times-append l.blocks (take n v.named) k,
          times-append (take n v.named) (drop n v.named) k,
          ap (λ (ns : List ℕ). times_in_hand ns k) (take-append-drop n v.named),
          times-append out (blocks_out w) k,
          times-append out (numbers_of_all (drop m v.whole)) k,
          ap (λ (ns : List ℕ). times_in_hand ns k) (all-split m v.whole),
        ),
      );
      ring = record { port = refl; tail = refl; ring = refl; size = refl; most = refl };
      running = λ runs. record {
        part = runs.part;
        some = runs.some;
        full = omega (
          arith,
          runs.full,
          length-append l.blocks (take n v.named),
          length-append (take n v.named) (drop n v.named),
          named,
        );
        replaced = omega (
          arith,
          runs.replaced,
          even runs,
          length-append (take n v.named) (drop n v.named),
          named,
          held_count v,
          held_count w,
          ap (λ (ns : List ℕ). length ns) (all-split m v.whole),
          length-append out (numbers_of_all (drop m v.whole)),
        );
        stage = during_same v n m v.stage runs.stage;
      };
    }

one_even : (ps : List Packet) (named : List ℕ) → parts_first ps ≤ length named
    → length (take (parts_first ps) named) ≡ length (numbers_of_all (take 1 ps))
one_even [] named few = refl
one_even (p ∷ ps) named few = omega (arith, length-take-le (length p.bufs) named few, count_first p [])

pub one_keeps : (a : Numbers) (v : Receive) → parts_first v.whole ≤ length v.named
    → Keeps a v a (posts_one v) (numbers_of_all (take 1 v.whole))
one_keeps a v few = posts_keeps a v (parts_first v.whole) 1 (λ runs. one_even v.whole v.named few)

-- If no part is held, no block is owed.
none_owed : (v : Receive) (s : Stage) → IsDuring v s → length v.held.bufs ≡ 0 → vacated s ≡ 0
none_owed v Looks during none = refl
none_owed v Takes during none = refl
none_owed v Owes during none = absurd (omega (arith, during, none))
none_owed v (Lent b) during none = absurd (omega (arith, during, none))

pub all_keeps : (a : Numbers) (v : Receive) → length v.held.bufs ≡ 0
    → Keeps a v a (posts_all v) (numbers_of_all v.whole)
all_keeps a v none =
    let whole = take_all (length v.whole) v.whole (omega arith) in
    subst (λ (ps : List Packet). Keeps a v a (posts_all v) (numbers_of_all ps)) whole
    (posts_keeps a v (length v.named) (length v.whole)
    (λ runs. omega (
      arith,
      runs.replaced,
      held_count v,
      none,
      none_owed v v.stage runs.stage none,
      length-take-le (length v.named) v.named (omega arith),
      ap (λ (ps : List Packet). length (numbers_of_all ps)) whole,
    )))

-- The packets handed out.

all_take : (P : Packet → Type 0) (ps : List Packet) (p : Packet) → All P ps → take 1 ps ≡ p ∷ [] → P p
all_take P [] p all is = cc
all_take P (q ∷ ps) p all is =
    let same : q ≡ p = cc in
    subst P same (all 0 q (omega arith))

pub hands_one : (v w : Receive) (p : Packet) → w ≡ posts_one v → take 1 v.whole ≡ p ∷ [] → All HasPart v.whole
    → parts_first v.whole ≤ length v.named → HandsOne v w p
hands_one v w p is first all few = record {
  handed = ap (λ (y : Receive). y.handed) is ∙ ap (λ (ps : List Packet). v.handed ++ records_of ps) first;
  some = all_take HasPart v.whole p all first;
  keeps = λ a.
      let out = ap (λ (ps : List Packet). numbers_of_all ps) first ∙ append-nil (numbers_of p.bufs) in
      keeps_to a a v (posts_one v) w (numbers_of p.bufs) is
      (subst (λ (ns : List ℕ). Keeps a v a (posts_one v) ns) out (one_keeps a v few));
}

pub hands_all : (v w : Receive) → w ≡ posts_all v → All HasPart v.whole → length v.held.bufs ≡ 0 → HandsAll v w
hands_all v w is all none = record {
  handed = ap (λ (y : Receive). y.handed) is
      ∙ ap (λ (ps : List Packet). v.handed ++ records_of ps) (take_all (length v.whole) v.whole (omega arith));
  some = all;
  keeps = λ a. keeps_to a a v (posts_all v) w (numbers_of_all v.whole) is (all_keeps a v none);
}

-- If no packet is complete, none is handed out.

pub none_keeps : {E : Type 0} (a : Numbers) (r : Result Unit E) (v w : Receive) → v.whole ≡ [] → OnOk r (HandsAll v w)
    → OnErr r (w ≡ v) → Keeps a v a w []
none_keeps a (Ok o) v w none hands same =
    subst (λ (ps : List Packet). Keeps a v a w (numbers_of_all ps)) none (hands.keeps a)
none_keeps a (Err e) v w none hands same = keeps_to a a v v w [] same (keeps_none a v)

pub none_handed : {E : Type 0} (r : Result Unit E) (v w : Receive) → v.whole ≡ [] → OnOk r (HandsAll v w)
    → OnErr r (w ≡ v) → w.handed ≡ v.handed
none_handed (Ok o) v w none hands same =
    hands.handed ∙ ap (λ (ps : List Packet). v.handed ++ records_of ps) none ∙ append-nil v.handed
none_handed (Err e) v w none hands same = ap (λ (y : Receive). y.handed) same
