-- Lemmas about histories that are appended to each other, split in two, or extended by one entry.
use Rattle.std.proofs.Common.{◌≡◌, ℕ, ◌+◌, ◌<◌, ◌≤◌, ◌==◌, List, [], ◌∷◌, ◌++◌, length, get_or, replicate, slice_set, refl, sym, arith, rules, length-append}
use Rattle.std.proofs.lemmas.Bool.Decides.{nat_tests}
use Rattle.std.proofs.lemmas.Grind.{common_steps}
use Rattle.std.proofs.lemmas.List.{get_or-replicate}
use Rattle.std.proofs.lemmas.List.Sums.{sum_by-append, count_by-le-length}
use Rattle.nic_device.specs.DmaArena.Block.{Block}
use Rattle.nic_device.specs.Sound.{IsEvent}
use Rattle.nic_device.specs.State.{State, new_state}
use Rattle.nic_device.specs.Step.{step_of}
use Rattle.nic_device.specs.declared.event.Event.{Event}
use Rattle.nic_device.specs.declared.event.Reply.{Reply}
use Rattle.device_lock.specs.declared.entry.Entry.{Entry}
use Rattle.device_lock.specs.History.{leads_to, IsLegal, AreEvents, AllBelow, entry_of}
use Rattle.device_lock.specs.Kept.{Held, IsKept, entries_of}

pub leads_to-snoc : (s : State) (h : List Entry) (e : Entry)
    → leads_to s (h ++ e ∷ []) ≡ (step_of (leads_to s h) e.event).state
leads_to-snoc s [] e = refl
leads_to-snoc s (x ∷ h) e = leads_to-snoc (step_of s x.event).state h e

pub legal_more : (s : State) (h : List Entry) (e : Entry) → IsLegal s h
    → e.reply ≡ (step_of (leads_to s h) e.event).reply → IsLegal s (h ++ e ∷ [])
legal_more s [] e legal is = (is, tt)
legal_more s (x ∷ h) e legal is = (legal.0, legal_more (step_of s x.event).state h e legal.1 is)

pub events_more : (h : List Entry) (e : Entry) → AreEvents h → IsEvent e.event → AreEvents (h ++ e ∷ [])
events_more [] e events is = (is, tt)
events_more (x ∷ h) e events is = (events.0, events_more h e events.1 is)

-- A history appended to another.

pub leads-append : (s : State) (g h : List Entry) → leads_to s (g ++ h) ≡ leads_to (leads_to s g) h
leads-append s [] h = refl
leads-append s (x ∷ g) h = leads-append (step_of s x.event).state g h

pub legal-append : (s : State) (g h : List Entry) → IsLegal s g → IsLegal (leads_to s g) h → IsLegal s (g ++ h)
legal-append s [] h first then = then
legal-append s (x ∷ g) h first then = (first.0, legal-append (step_of s x.event).state g h first.1 then)

pub events-append : (g h : List Entry) → AreEvents g → AreEvents h → AreEvents (g ++ h)
events-append [] h first then = then
events-append (x ∷ g) h first then = (first.0, events-append g h first.1 then)

-- The first part of a legal history is legal, and so is the second part from the state that the first part leads to.

pub legal_before : (s : State) (g h : List Entry) → IsLegal s (g ++ h) → IsLegal s g
legal_before s [] h legal = tt
legal_before s (x ∷ g) h legal = (legal.0, legal_before (step_of s x.event).state g h legal.1)

pub legal_past : (s : State) (g h : List Entry) → IsLegal s (g ++ h) → IsLegal (leads_to s g) h
legal_past s [] h legal = legal
legal_past s (x ∷ g) h legal = legal_past (step_of s x.event).state g h legal.1

pub events_before : (g h : List Entry) → AreEvents (g ++ h) → AreEvents g
events_before [] h events = tt
events_before (x ∷ g) h events = (events.0, events_before g h events.1)

pub events_after : (g h : List Entry) → AreEvents (g ++ h) → AreEvents h
events_after [] h events = events
events_after (x ∷ g) h events = events_after g h events.1

-- The tags and the counts of a history to which one entry is added.

one_more_below : (n : ℕ) (h : List Entry) (e : Entry) → AllBelow n h → e.pass < n → AllBelow n (h ++ e ∷ [])
one_more_below n [] e below lt = (lt, tt)
one_more_below n (x ∷ h) e below lt = (below.0, one_more_below n h e below.1 lt)

pub entries_of-append : (tag : ℕ) (g h : List Entry) → entries_of tag (g ++ h) ≡ entries_of tag g + entries_of tag h
entries_of-append tag g h = search (rules, sum_by-append)

counts_more : (n : ℕ) (counts : List ℕ) (h : List Entry) (e : Entry) → length counts ≡ n → e.pass < n
    → ((tag : ℕ) → tag < n → get_or counts tag 0 ≡ entries_of tag h)
    → (tag : ℕ) → tag < n
    → get_or (slice_set counts e.pass (get_or counts e.pass 0 + 1)) tag 0 ≡ entries_of tag (h ++ e ∷ [])
counts_more n counts h e each lt counted tag below =
    rw (entries_of-append tag h (e ∷ [])) (grind (arith, nat_tests, common_steps, counted tag below))

-- If the history is empty, each count is 0.
pub kept_opened : (vfs fifo : ℕ) (device : State) (history : List Entry) (limit : ℕ) (counts : List ℕ)
    → device ≡ new_state vfs fifo → history ≡ [] → limit ≤ 1000000 → counts ≡ replicate 64 0
    → IsKept vfs fifo (record { device = device; history = history; limit = limit }) counts
kept_opened vfs fifo device history limit counts is none small zero = rw (none, is, zero) (record {
  legal = tt;
  leads = refl;
  events = tt;
  below = tt;
  within = omega arith;
  small = small;
  counted = λ tag lt. get_or-replicate 64 tag 0 0 lt;
})

-- A count is at most the length of the history.
pub count_few : (vfs fifo : ℕ) (h : Held) (counts : List ℕ) (tag : ℕ) → IsKept vfs fifo h counts → tag < 64
    → length h.history < h.limit → get_or counts tag 0 < 1000000
count_few vfs fifo h counts tag k lt room =
    let n = k.counted tag lt in
    let m = count_by-le-length (λ (e : Entry). e.pass == tag) h.history in
    let s = k.small in
    omega (arith, n, m, s)

pub kept_more : (vfs fifo : ℕ) (h : Held) (counts : List ℕ) (tag : ℕ) (event note : Event Block)
    (reply reported : Reply Block) (device : State) (history : List Entry) (counts' : List ℕ)
    → IsKept vfs fifo h counts → length counts ≡ 64 → tag < 64 → length h.history < h.limit → IsEvent event
    → note ≡ event → reported ≡ reply → reply ≡ (step_of h.device event).reply → device ≡ (step_of h.device event).state
    → history ≡ h.history ++ entry_of tag note reported ∷ []
    → counts' ≡ slice_set counts tag (get_or counts tag 0 + 1)
    → IsKept vfs fifo (record { device = device; history = history; limit = h.limit }) counts'
kept_more vfs fifo h counts tag event note reply reported device history counts' k each lt room fit n r made is gr
    counted =
    let e : Entry = entry_of tag event (step_of h.device event).reply in
    let more : history ≡ h.history ++ e ∷ [] = rw (gr, n, r, made) refl in
    record {
      legal = rw more (legal_more (new_state vfs fifo) h.history e k.legal (rw k.leads refl));
      leads = rw (more, leads_to-snoc (new_state vfs fifo) h.history e, k.leads) (sym is);
      events = rw more (events_more h.history e k.events fit);
      below = rw more (one_more_below 64 h.history e k.below lt);
      within = rw (more, length-append h.history (e ∷ [])) (omega arith);
      small = k.small;
      counted = rw (more, counted) (counts_more 64 counts h.history e each lt k.counted);
    }
