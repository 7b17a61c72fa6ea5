-- Lemmas about stored entries to which one entry is added, or whose first entry is made separate.
use Rattle.std.proofs.Common.{◌≡◌, ℕ, ◌+◌, ◌≤◌, List, [], ◌∷◌, ◌++◌, length, refl, sym, ap, ◌∙◌, append_assoc, append-nil, length-append}
use Rattle.nic_device.specs.DmaArena.Block.{Block}
use Rattle.nic_device.specs.declared.event.Event.{Event}
use Rattle.nic_device.specs.declared.event.Reply.{Reply}
use Rattle.device_lock.specs.declared.entry.Entry.{Entry}
use Rattle.device_lock.specs.declared.packed.Packed.{Packed}
use Rattle.device_lock.specs.declared.packed.Rested.{Rested}
use Rattle.device_lock.specs.History.{entry_of}
use Rattle.device_lock.specs.Packed.{entries_in, packed_entries, rested_entries, HasRoom}
use Rattle.device_lock.specs.Resting.{idle_entries, steps_in}
use Rattle.device_lock.specs.Stepping.{steps_of_queue}

-- The entry itself.
abbrev own : Packed → Entry
own p = entry_of p.pass p.event p.reply

packed-more : (packed : List Packed) (p : Packed)
    → packed_entries (packed ++ p ∷ []) ≡ (packed_entries packed ++ rested_entries p.rested) ++ own p ∷ []
packed-more [] p = refl
packed-more (x ∷ packed) p =
    let first = rested_entries x.rested in
    let then = own x ∷ packed_entries packed in
    let last = rested_entries p.rested in
    ap (λ (l : List Entry). first ++ (own x ∷ l)) (packed-more packed p)
    ∙ sym (ap (λ (l : List Entry). l ++ own p ∷ []) (append_assoc first then last)
    ∙ append_assoc first (then ++ last) (own p ∷ []))

pub entries-more : (whole : List Entry) (packed : List Packed) (rested none : Rested) (pass : ℕ) (event : Event Block)
    (reply : Reply Block) → rested_entries none ≡ []
    → entries_in whole (packed ++ record { rested = rested; pass = pass; event = event; reply = reply } ∷ []) none
    ≡ entries_in whole packed rested ++ entry_of pass event reply ∷ []
entries-more whole packed rested none pass event reply is =
    let p : Packed = record { rested = rested; pass = pass; event = event; reply = reply } in
    ap (λ (l : List Entry). whole ++ (packed_entries (packed ++ p ∷ []) ++ l)) is
    ∙ ap (λ (l : List Entry). whole ++ l) (append-nil _ ∙ packed-more packed p)
    ∙ sym (append_assoc whole (packed_entries packed ++ rested_entries rested) (own p ∷ []))

-- More idle steps are added after the last entry.
pub rested-more : (whole : List Entry) (packed : List Packed) (rested then : Rested) (more : List Entry)
    → rested_entries then ≡ rested_entries rested ++ more
    → entries_in whole packed then ≡ entries_in whole packed rested ++ more
rested-more whole packed rested then more is =
    ap (λ (l : List Entry). whole ++ (packed_entries packed ++ l)) is
    ∙ ap (λ (l : List Entry). whole ++ l) (sym (append_assoc (packed_entries packed) (rested_entries rested) more))
    ∙ sym (append_assoc whole (packed_entries packed ++ rested_entries rested) more)

pub steps-more : (whole : List Entry) (packed : List Packed) (rested then : Rested) (queue : ℕ)
    → steps_in rested.steps ≡ [] → steps_in then.steps ≡ steps_of_queue queue
    → entries_in whole packed then
    ≡ entries_in whole packed rested ++ idle_entries then.pass (steps_of_queue queue)
steps-more whole packed rested then queue none all =
    rested-more whole packed rested then (idle_entries then.pass (steps_of_queue queue)) (rw (none, all) refl)

pub room_more : (old new more : List Entry) (count room : ℕ) → count ≡ length old → new ≡ old ++ more
    → count + length more ≤ room → HasRoom new (count + length more) room
room_more old new more count room counted is fits = record {
  counted = rw (is, length-append old more, counted) refl;
  fits = fits;
}
