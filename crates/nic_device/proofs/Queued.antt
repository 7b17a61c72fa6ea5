-- Changes to the receive list leave its frames sound.
use Rattle.std.proofs.Common.{◌≡◌, ◌<◌, ◌≤◌, ◌+◌, ℕ, true, false, List, [], ◌∷◌, ◌++◌, length, length-append, refl, ◌∙◌, arith, Ok}
use Rattle.std.specs.Prelude.{◌&&◌, ◌==◌, not, All}
use Rattle.std.proofs.lemmas.Bool.{cond_both}
use Rattle.std.proofs.lemmas.Bool.Decides.{nat_tests}
use Rattle.std.proofs.lemmas.List.Elements.{All-nil, All-cons, All-head, All-tail, All-push, All-weaker}
use Rattle.rx_filter.specs.Sorting.{sorted}
use Rattle.rx_filter.specs.declared.target.Target.{Target}
use Rattle.rx_ring.specs.declared.filled.Filled.{Filled}
use Rattle.rx_ring.specs.DmaRing.declared.dir.Dir.TheVariants.{Rx}
use Rattle.register_file.specs.Queue.{is_on}
use Rattle.register_file.specs.Registers.{Registers}
use Rattle.nic_device.specs.State.{Waiting}
use Rattle.nic_device.specs.Arrival.{let_in}
use Rattle.nic_device.specs.Receive.{after_piece}
use Rattle.nic_device.specs.Sound.{AreBytes, AreWaiting, IsBegunWhileOn, IsUnbegun}
use Rattle.nic_device.specs.Switching.{without_part}
use Rattle.nic_device.proofs.Cases.{either_way}
use Rattle.nic_device.proofs.Targets.{sorted-small}

-- An accepted frame.
pub IsUnbegun-let_in : (r : Registers) (frame : List ℕ) (t : Target) → sorted r frame ≡ Ok t → AreBytes frame
    → 60 ≤ length frame → length frame ≤ 65535 → IsUnbegun (let_in frame t)
IsUnbegun-let_in r frame t is bytes long short =
    let small = sorted-small r frame t is in
    record {
      waits = record {
        bytes = bytes;
        least = long;
        most = short;
        offset = omega arith;
        queue = small.queue;
        rss = small.rss;
        hash = small.hash;
        unhashed = small.unhashed;
      };
      none = refl;
    }

pub AreWaiting-joined : (ws : List Waiting) (w : Waiting) → IsUnbegun w → AreWaiting ws → AreWaiting (ws ++ w ∷ [])
AreWaiting-joined [] w new h = (new.waits, All-nil IsUnbegun)
AreWaiting-joined (v ∷ ws) w new h = (h.0, All-push IsUnbegun ws w h.1 new)

-- A frame with no byte written yet doesn't require that its receive side is enabled.
pub begun-unbegun : (r : Registers) (ws : List Waiting) → All IsUnbegun ws → All (IsBegunWhileOn r) ws
begun-unbegun r ws h =
    All-weaker IsUnbegun (IsBegunWhileOn r) (λ w is some. let none = is.none in absurd (omega arith)) ws h

-- The frames after the first.
pub AreWaiting-others : (w : Waiting) (others : List Waiting) → AreWaiting (w ∷ others) → AreWaiting others
AreWaiting-others w [] h = tt
AreWaiting-others w (v ∷ others) h = ((All-head IsUnbegun v others h.1).waits, All-tail IsUnbegun v others h.1)

-- A piece of the first frame was written.
pub AreWaiting-after_piece : (w : Waiting) (others : List Waiting) (f : Filled)
    → (f.end ≡ false → w.offset + f.len < length w.frame) → AreWaiting (w ∷ others)
    → AreWaiting (after_piece w others f)
AreWaiting-after_piece w others f inside h =
    let first = h.0 in
    cond_both f.end others (record w { offset = w.offset + f.len } ∷ others) AreWaiting
    (λ end. AreWaiting-others w others h)
    (λ more. (
      record {
        bytes = first.bytes;
        least = first.least;
        most = first.most;
        offset = inside more;
        queue = first.queue;
        rss = first.rss;
        hash = first.hash;
        unhashed = first.unhashed;
      },
      h.1,
    ))

-- The receive side of the first frame's queue is enabled.
pub begun-after_piece : (r : Registers) (w : Waiting) (others : List Waiting) (f : Filled) → is_on r Rx w.queue ≡ true
    → AreWaiting (w ∷ others) → All (IsBegunWhileOn r) (after_piece w others f)
begun-after_piece r w others f on h =
    either_way (All (IsBegunWhileOn r)) f.end others (record w { offset = w.offset + f.len } ∷ others)
    (begun-unbegun r others h.1)
    (All-cons (IsBegunWhileOn r) (record w { offset = w.offset + f.len }) others (λ some. on)
    (begun-unbegun r others h.1))

begun_elsewhere : (queue : ℕ) (w : Waiting) → queue ≡ w.queue → 0 < w.offset
    → (w.queue == queue && not (w.offset == 0)) ≡ false → ⊥
begun_elsewhere queue w same some kept = grind (arith, nat_tests)

pub AreWaiting-without_part : (queue : ℕ) (ws : List Waiting) → AreWaiting ws → AreWaiting (without_part queue ws)
AreWaiting-without_part queue [] h = tt
AreWaiting-without_part queue (w ∷ others) h =
    either_way AreWaiting (w.queue == queue && not (w.offset == 0)) others (w ∷ others) (AreWaiting-others w others h) h

-- A partly written frame is for a queue other than the queue that is being disabled.
pub begun-without_part : (r s : Registers) (queue : ℕ)
    → ((other : ℕ) → (queue ≡ other → ⊥) → is_on s Rx other ≡ is_on r Rx other) → (ws : List Waiting)
    → AreWaiting ws → All (IsBegunWhileOn r) ws → All (IsBegunWhileOn s) (without_part queue ws)
begun-without_part r s queue others_stay [] waiting h = All-nil (IsBegunWhileOn s)
begun-without_part r s queue others_stay (w ∷ others) waiting h =
    let rest = begun-unbegun s others waiting.1 in
    cond_both (w.queue == queue && not (w.offset == 0)) others (w ∷ others) (All (IsBegunWhileOn s)) (λ own. rest)
    (λ kept. All-cons (IsBegunWhileOn s) w others (λ some.
    let apart : queue ≡ w.queue → ⊥ = λ same. begun_elsewhere queue w same some kept in
    others_stay w.queue apart ∙ All-head (IsBegunWhileOn r) w others h some) rest)

-- The list doesn't get longer.
pub length-after_piece : (w : Waiting) (others : List Waiting) (f : Filled) (n : ℕ) → length (w ∷ others) ≤ n
    → length (after_piece w others f) ≤ n
length-after_piece w others f n few =
    either_way (λ (ws : List Waiting). length ws ≤ n) f.end others (record w { offset = w.offset + f.len } ∷ others)
    (omega arith) (omega arith)

pub length-without_part : (queue : ℕ) (ws : List Waiting) (n : ℕ) → length ws ≤ n → length (without_part queue ws) ≤ n
length-without_part queue [] n few = few
length-without_part queue (w ∷ others) n few =
    either_way (λ (ws : List Waiting). length ws ≤ n) (w.queue == queue && not (w.offset == 0)) others (w ∷ others)
    (omega arith) few

pub length-joined : (ws : List Waiting) (w : Waiting) (n : ℕ) → length ws < n → length (ws ++ w ∷ []) ≤ n
length-joined ws w n room = omega (arith, length-append ws (w ∷ []))
