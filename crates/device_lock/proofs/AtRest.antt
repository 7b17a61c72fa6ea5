-- Lemmas about a history to which entries of idle events are added.
use Rattle.std.proofs.Common.{◌≡◌, ◌==◌, ℕ, ◌+◌, ◌^◌, ◌<◌, ◌≤◌, List, [], ◌∷◌, ◌++◌, length, get_or, slice_set, refl, sym, ap, ◌∙◌, subst, arith, length-append}
use Rattle.std.proofs.lemmas.Bool.Decides.{nat_tests}
use Rattle.std.proofs.lemmas.Grind.{common_steps}
use Rattle.std.proofs.lemmas.List.Sums.{count_by-le-length}
use Rattle.nic_device.specs.DmaArena.Block.{Block}
use Rattle.nic_device.specs.Outcome.{Outcome}
use Rattle.nic_device.specs.Resting.{Rests}
use Rattle.nic_device.specs.State.{State, new_state}
use Rattle.nic_device.specs.declared.event.Event.{Event}
use Rattle.device_lock.specs.declared.entry.Entry.{Entry}
use Rattle.device_lock.specs.History.{leads_to, IsLegal, AllBelow}
use Rattle.device_lock.specs.Kept.{Held, IsKept, entries_of}
use Rattle.device_lock.specs.Resting.{AreIdle, idle_entries}
use Rattle.device_lock.specs.Stepping.{steps_of_queue}
use Rattle.device_lock.proofs.Histories.{entries_of-append, events-append, leads-append, legal-append}

pub rest_idle : (s : State) (queue : ℕ) → Rests s queue → AreIdle s (steps_of_queue queue)
rest_idle s queue r = (r.receive_side, (r.transmit_side, (r.sending, (r.receiving, tt))))

-- Facts about a history followed by another history.
below-append : (n : ℕ) (g h : List Entry) → AllBelow n g → AllBelow n h → AllBelow n (g ++ h)
below-append n [] h first then = then
below-append n (x ∷ g) h first then = (first.0, below-append n g h first.1 then)

-- The entries of idle events are a legal history that doesn't change the state.

idle_legal : (s : State) (tag : ℕ) (es : List (Event Block)) → AreIdle s es → IsLegal s (idle_entries tag es)
idle_legal s tag [] idle = tt
idle_legal s tag (e ∷ es) idle = (
  sym (ap (λ (o : Outcome). o.reply) idle.0),
  subst (λ (t : State). IsLegal t (idle_entries tag es)) (sym (ap (λ (o : Outcome). o.state) idle.0))
      (idle_legal s tag es idle.1),
)

idle_leads : (s : State) (tag : ℕ) (es : List (Event Block)) → AreIdle s es → leads_to s (idle_entries tag es) ≡ s
idle_leads s tag [] idle = refl
idle_leads s tag (e ∷ es) idle =
    ap (λ (o : Outcome). leads_to o.state (idle_entries tag es)) idle.0 ∙ idle_leads s tag es idle.1

rest_counted : (counts : List ℕ) (h : List Entry) (pass queue : ℕ) → length counts ≡ 64 → pass < 64
    → ((tag : ℕ) → tag < 64 → get_or counts tag 0 ≡ entries_of tag h)
    → (tag : ℕ) → tag < 64
    → get_or (slice_set counts pass (get_or counts pass 0 + 4)) tag 0
    ≡ entries_of tag (h ++ idle_entries pass (steps_of_queue queue))
rest_counted counts h pass queue each lt counted tag below =
    rw (entries_of-append tag h (idle_entries pass (steps_of_queue queue)))
    (grind (arith, nat_tests, common_steps, counted tag below))

-- If the history has room for four more entries, so does the count.
pub rest_few : (vfs fifo : ℕ) (h : Held) (counts : List ℕ) (tag : ℕ) → IsKept vfs fifo h counts → tag < 64
    → length h.history + 4 ≤ h.limit → get_or counts tag 0 + 4 ≤ 1000000
rest_few vfs fifo h counts tag k lt room =
    let n = k.counted tag lt in
    let m = count_by-le-length (λ (e : Entry). e.pass == tag) h.history in
    let s = k.small in
    omega (arith, n, m, s)

kept_more : (vfs fifo : ℕ) (h : Held) (counts : List ℕ) (pass queue : ℕ)
    → IsKept vfs fifo h counts → length counts ≡ 64 → pass < 64 → queue < 2 ^ 16 → length h.history + 4 ≤ h.limit
    → Rests h.device queue
    → IsKept vfs fifo (record h { history = h.history ++ idle_entries pass (steps_of_queue queue) })
    (slice_set counts pass (get_or counts pass 0 + 4))
kept_more vfs fifo h counts pass queue k each lt small room rests =
    let idle = rest_idle h.device queue rests in
    let es = steps_of_queue queue in
    let more = idle_entries pass es in
    record {
      legal =
          legal-append (new_state vfs fifo) h.history more k.legal
          (subst (λ (s : State). IsLegal s more) (sym k.leads) (idle_legal h.device pass es idle));
      leads =
          leads-append (new_state vfs fifo) h.history more ∙ ap (λ (s : State). leads_to s more) k.leads
          ∙ idle_leads h.device pass es idle;
      events = events-append h.history more k.events (small, (small, (small, (tt, tt))));
      below = below-append 64 h.history more k.below (lt, (lt, (lt, (lt, tt))));
      within = rw (length-append h.history more) room;
      small = k.small;
      counted = rest_counted counts h.history pass queue each lt k.counted;
    }

pub kept_rest : (vfs fifo : ℕ) (h : Held) (counts : List ℕ) (pass queue : ℕ) (history : List Entry) (counts' : List ℕ)
    → IsKept vfs fifo h counts → length counts ≡ 64 → pass < 64 → queue < 2 ^ 16 → length h.history + 4 ≤ h.limit
    → Rests h.device queue → history ≡ h.history ++ idle_entries pass (steps_of_queue queue)
    → counts' ≡ slice_set counts pass (get_or counts pass 0 + 4)
    → IsKept vfs fifo (record { device = h.device; history = history; limit = h.limit }) counts'
kept_rest vfs fifo h counts pass queue history counts' k each lt small room rests is counted =
    rw (is, counted) (kept_more vfs fifo h counts pass queue k each lt small room rests)
