-- Which of the frames that a queue sends are counted, over whole histories.
use Rattle.std.specs.Prelude.{[], if◌then◌else◌, ◌++◌, ◌+◌, ◌==◌, ◌∷◌, ◌≡◌, ◌≤◌, IsFalse, IsTrue, List, length, map, ℕ}
use Rattle.std.specs.{List.flat_map, Prelude.⊤}
use Rattle.ring_laws.specs.Prelude.{AreEvents, Block, Entry, IsLegal, IsSound, Reply, Sent, State, after, leads_to}
use Rattle.ring_laws.specs.Sent.{goes_on, sent_in, sent_since}

-- No entry enables the transmit side of the queue.
abbrev pub NeverGoesOn : ℕ → State → List Entry → Type 0
NeverGoesOn queue s [] = ⊤
NeverGoesOn queue s (e ∷ es) = IsFalse (goes_on queue s e.event) × NeverGoesOn queue (after s e.event) es

-- `xs` is a suffix of `ys`.
abbrev pub IsEndOf : List (List ℕ) → List (List ℕ) → Type 0
IsEndOf xs ys = (before : List (List ℕ)) × (ys ≡ before ++ xs)

-- If a history never enables the side, all frames that it sends are counted, after the frames counted before. If it
-- enables the side, the frames sent after the last such event are counted. If one history is followed by another, the
-- count continues from the first into the second. The counted frames are a suffix of the frames counted before and
-- those sent. Each entry adds at most one frame.
pub record SentIsCounted : Type 0 where
  pub never :
      (queue : ℕ) (s : State) (sent : List (List ℕ)) (h : List Entry) → NeverGoesOn queue s h
      → sent_since queue s sent h ≡ sent ++ sent_in queue s h
  pub last :
      (queue : ℕ) (s : State) (sent : List (List ℕ)) (g : List Entry) (e : Entry) (h : List Entry)
      → IsTrue (goes_on queue (leads_to s g) e.event) → NeverGoesOn queue (after (leads_to s g) e.event) h
      → sent_since queue s sent (g ++ e ∷ h) ≡ sent_in queue (after (leads_to s g) e.event) h
  pub joined :
      (queue : ℕ) (s : State) (sent : List (List ℕ)) (g h : List Entry)
      → sent_since queue s sent (g ++ h) ≡ sent_since queue (leads_to s g) (sent_since queue s sent g) h
  pub end :
      (queue : ℕ) (s : State) (sent : List (List ℕ)) (h : List Entry)
      → IsEndOf (sent_since queue s sent h) (sent ++ sent_in queue s h)
  pub few :
      (queue : ℕ) (s : State) (sent : List (List ℕ)) (h : List Entry)
      → length (sent_since queue s sent h) ≤ length sent + length h

-- The length of the frame that a reply reports as sent on a queue, if it reports one.
abbrev pub reported_lengths : ℕ → Reply Block → List ℕ
reported_lengths queue (Sent on len back) = if on == queue then len ∷ [] else []
reported_lengths queue other = []

-- The frames that a legal history of a sound device sends on a queue have the number and lengths that the history's
-- replies report, in order.
abbrev pub SentIsReported : Type 0
SentIsReported =
    (queue : ℕ) (s : State) (h : List Entry) → IsSound s → AreEvents h → IsLegal s h →
    map length (sent_in queue s h) ≡ flat_map (λ (e : Entry). reported_lengths queue e.reply) h
