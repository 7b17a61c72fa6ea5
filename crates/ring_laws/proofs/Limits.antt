-- The settings that a history's entries report are the device's: how the queues are separated into pools, and how long
-- frames may be. The other lemmas are about histories in two parts. They state that devices stay sound, which blocks a
-- pass lends in each part, whether the pass has begun, and how the parts leave a queue alone.
use Rattle.device_laws.proofs.Settings.{IsSetting, setting_stands}
use Rattle.device_lock.specs.{Alone.LeavesAlone, Alone.is_setting, Reported.limit_of, declared.reported.Settings.Settings}
use Rattle.device_lock.specs.{Alone.mode_written, Reported.frames_written, Reported.settings_after, Reported.settings_through}
use Rattle.device_lock.{proofs.Histories.events_before, proofs.Histories.leads-append, specs.Reported.first_settings}
use Rattle.ring_laws.proofs.Written.{IsReal, ShowsLow, low_shown, merged_high, real}
use Rattle.ring_laws.proofs.{Lent.not_so, Written.AreReal, Written.place_in, Written.place_named}
use Rattle.ring_laws.specs.Prelude.{AreEvents, EntryLeavesAlone, Port, RowId, after, has_begun, has_bit, place}
use Rattle.ring_laws.specs.Prelude.{Block, Entry, IsSound, Nothing, Place, State, named, word_of}
use Rattle.ring_laws.specs.Prelude.{Blocks, Event, Mode, Named, Register, Watched, lent_by, mode_in, row_of}
use Rattle.ring_laws.specs.Prelude.{GcrExt, Maxfrs, mode_through, named_written, new_state, step_of}
use Rattle.ring_laws.specs.{Alone.AllAlone, History.BeginningIsAlone, History.HistoriesKeepSound, History.NewIsPlain}
use Rattle.ring_laws.specs.{Alone.LeavesAloneFrom, History.AloneByEntries, History.PlainIsLeftAlone}
use Rattle.ring_laws.specs.{History.RestIsAlone}
use Rattle.ring_laws.specs.{History.ModeIsReported, History.SettingsAreReported, Prelude.asks_reset, Prelude.leads_to}
use Rattle.device_lock.proofs.NicDevice.{EepromImage.Blank.triples_of-blank, RegisterLaws.Owners.is_place-other, Steps.keeps_sound}
use Rattle.device_lock.proofs.NicDevice.{RegisterFile.ResetWords.word_at-reset, RegisterLaws.Accessed.none_written_by}
use Rattle.device_lock.proofs.NicDevice.{RegisterLaws.Covers.lacks-renewed, RegisterLaws.Footprints.word_stands, Steps.step_leads}
use Rattle.device_lock.specs.NicDevice.RegTable.declared.rows.RowId.TheVariants.{Ctrl, Hlreg0}
use Rattle.device_lock.specs.NicDevice.{EepromImage.Triples.triples_of, RegTable.declared.kind.Kind.TheVariants.Rw}
use Rattle.device_lock.specs.NicDevice.{RegisterFile.Bits.merged, RegisterLaws.Laws.word_after, State.cleared, VfMap.Pools.mode_of}
use Rattle.device_lock.{proofs.NicDevice.RegisterLaws.Shape.put_stands, specs.NicDevice.Eeprom.with_triples, specs.NicDevice.EepromImage.Image.blank}
use Rattle.std.proofs.Common.{List, Option, ap, append_assoc, arith, refl, sym, true, ℕ, ◌++◌, ◌/◌, ◌≡◌, ◌≢◌}
use Rattle.std.proofs.{Common.Some, Common.[], Common.◌^◌, Common.◌∙◌, lemmas.Bool.or_left, lemmas.Bool.or_right}
use Rattle.std.proofs.{Common.false, Common.◌∷◌, Math.Nat.le_refl, lemmas.Bool.cond-true, lemmas.Grind.common_steps}
use Rattle.std.specs.Prelude.{IsFalse, IsTrue, bit_and, ◌||◌}
use Rattle.device_lock.specs.NicDevice.declared.event.Event.TheVariants as event

-- No device step changes GCR_EXT, HLREG0 or MAXFRS.
reported_setting : (row : RowId) → is_setting row ≡ true → row ≢ Ctrl → IsSetting row
reported_setting row own other = grind arith

-- The settings, computed from the values of these registers.

abbrev settings_in : State → Settings
settings_in s = record {
  mode = mode_in s.registers;
  frames = record { jumbo = has_bit 2 (word_of s.registers Hlreg0 0); longest = word_of s.registers Maxfrs 0 / 2 ^ 16 };
}

new_settings : (vfs fifo : ℕ) → settings_in (new_state vfs fifo) ≡ first_settings
new_settings vfs fifo = simp (word_at-reset, le_refl)

-- A write through a view that shows the low bits sets the mode and bit 2.
low_bits : (view old new : ℕ) → ShowsLow view → let m = merged (bit_and 0xFFFFFFFF view) old new in
    (mode_of m ≡ mode_of new) × (has_bit 2 m ≡ has_bit 2 new)
low_bits view old new shows = let same = low_shown view old new shows in grind arith

-- What a write reports about the settings is true of the device after the write.

module _ (s : State) (port : Port) (n word : ℕ) where
  abbrev t : State
  t = after s (event.Write port n word)

  abbrev reported : Option Place → Settings
  reported o = record {
    mode = mode_written (mode_in s.registers) o word;
    frames = frames_written (settings_in s).frames o word;
  }

  left_by : (m : Named) → named s port n ≡ m → t ≡ (named_written s m word).state
  unfolding step_of
  left_by m found = ap (λ x. (named_written s x word).state) found

  module _ (p : Place) (view : ℕ) (found : named s port n ≡ Register p view) where
    -- A write to another register that requests no reset leaves each of these registers unchanged.
    stays : (row : RowId) → is_setting row ≡ true → row ≢ Ctrl → p.row ≢ row
        → asks_reset (row_of p.row).kind word ≡ false → word_of t.registers row 0 ≡ word_of s.registers row 0
    stays row own other ne none =
        word_stands (step_leads s (event.Write port n word)).stays.registers (place row 0)
        (λ bit. grind (
          arith,
          common_steps,
          none_written_by,
          is_place-other,
          lacks-renewed,
          reported_setting row own
              other,
        ))

    module _ (sound : IsSound s) (image : s.image ≡ blank) (real : IsReal p view) where
      -- A device reset resets the settings.
      reset_reported : asks_reset (row_of p.row).kind word ≡ true → first_settings ≡ settings_in t
      reset_reported asks =
          sym (ap settings_in (left_by (Register p view) found ∙ cond-true _ _ _ asks)
          ∙ ap (λ ts. settings_in (with_triples (cleared s) ts)) (ap triples_of image ∙ triples_of-blank)
          ∙ new_settings s.vfs s.fifo)

      -- The register is the only one in its row.
      put_there : (row_of p.row).count ≡ 1 → (row_of p.row).kind ≡ Rw
          → word_of t.registers p.row 0 ≡ word_after s.registers (place p.row 0) view word
      put_there one plain =
          grind (
            arith,
            common_steps,
            left_by (Register p view) found,
            put_stands s.registers p (word_after s.registers p view word),
          )

      written : reported (Some p) ≡ settings_in t
      written =
          let low = low_bits view (word_of s.registers p.row 0) word real.shown in
          grind (arith, put_there, stays GcrExt refl, stays Hlreg0 refl, stays Maxfrs refl, reset_reported, merged_high)

  named_reported : IsSound s → s.image ≡ blank → (m : Named) → named s port n ≡ m → AreReal m
      → reported (place_in m) ≡ settings_in t
  named_reported sound image (Nothing seen) found real = sym (ap settings_in (left_by (Nothing seen) found))
  named_reported sound image (Register p view) found real = written p view found sound image real

-- The reported settings are the device's after every event, and along a history.

event_reported : (s : State) → IsSound s → s.image ≡ blank → (e : Event Block)
    → settings_after s.vfs (settings_in s) e ≡ settings_in (after s e)
event_reported s sound image (event.Write port n word) =
    ap (reported s port n word) (place_named s port n)
    ∙ named_reported s port n word sound image (named s port n) refl (real s port n)
event_reported s sound image e =
    grind (arith, setting_stands GcrExt, setting_stands Hlreg0, setting_stands Maxfrs, reported_setting)

reported_from : (s : State) (h : List Entry) → IsSound s → s.image ≡ blank → AreEvents h
    → (settings_through s.vfs (settings_in s) h ≡ settings_in (leads_to s h))
    × (mode_through s.vfs (mode_in s.registers) h ≡ mode_in (leads_to s h).registers)
reported_from s [] sound image events = (refl, refl)
reported_from s (e ∷ es) sound image events =
    let stays = (step_leads s e.event).stays in
    grind (arith, common_steps, event_reported s sound image e.event, keeps_sound, reported_from (after s e.event) es)

pub settings_reported : SettingsAreReported
settings_reported vfs fifo h new events =
    let reported = rw (new_settings vfs fifo) at (reported_from (new_state vfs fifo) h new refl events).0 in
    (ap (λ (m : Settings). m.mode) reported, ap (λ (m : Settings). limit_of m.frames) reported)

pub mode_reported : ModeIsReported
mode_reported vfs fifo h new events =
    ap (λ (m : Settings). mode_through vfs m.mode h) (sym (new_settings vfs fifo))
    ∙ (reported_from (new_state vfs fifo) h new refl events).1

pub histories_sound : HistoriesKeepSound
histories_sound s [] sound events = sound
histories_sound s (e ∷ es) sound events =
    histories_sound (after s e.event) es (keeps_sound s sound e.event events.0) events.1

-- A block that a pass lends in one part of a history is lent in the whole history. A pass that has begun in one part
-- has begun in the whole history.

lent_both : (pass n : ℕ) (g h : List Entry) → lent_by pass (g ++ h) n ≡ (lent_by pass g n || lent_by pass h n)
lent_both pass n [] h = refl
lent_both pass n (e ∷ g) h = grind (arith, common_steps, lent_both pass n g h)

pub lent_before : (pass n : ℕ) (g h : List Entry) → IsTrue (lent_by pass g n) → IsTrue (lent_by pass (g ++ h) n)
lent_before pass n g h is = lent_both pass n g h ∙ or_left _ _ is

pub lent_after : (pass n : ℕ) (g h : List Entry) → IsTrue (lent_by pass h n) → IsTrue (lent_by pass (g ++ h) n)
lent_after pass n g h is = lent_both pass n g h ∙ or_right _ _ is

begun_both : (pass : ℕ) (g h : List Entry) → has_begun pass (g ++ h) ≡ (has_begun pass g || has_begun pass h)
begun_both pass [] h = refl
begun_both pass (e ∷ g) h = grind (arith, common_steps, begun_both pass g h)

-- An entry that leaves blocks alone leaves a subset of them alone.
entry_left : (mine less : Blocks) → ((n : ℕ) → IsFalse (mine n) → IsFalse (less n)) → (w : Watched) (mode : Mode)
    (e : Entry) → EntryLeavesAlone w mine mode e → EntryLeavesAlone w less mode e
entry_left mine less fewer w mode e h = grind (arith, common_steps)

-- If a history leaves a queue alone, so do its first part and its second part, because neither part lends more than the
-- whole history.

pub beginning_alone : BeginningIsAlone
beginning_alone w s g h alone before e after split begun =
    grind (arith, common_steps, entry_left, not_so, lent_before, append_assoc)

-- An entry after the first part of a history.
later : (w : Watched) (s : State) (g h : List Entry) → LeavesAloneFrom w s (g ++ h) → (before : List Entry) (e : Entry)
    (after : List Entry) → h ≡ before ++ e ∷ after → IsTrue (has_begun w.pass (g ++ before))
    → EntryLeavesAlone w (lent_by w.pass (g ++ h)) (mode_in (leads_to (leads_to s g) before).registers) e
later w s g h alone before e after split begun =
    rw (← leads-append s g before) (alone (g ++ before) e after (rw (split, append_assoc g before (e ∷ after))) begun)

pub rest_alone : RestIsAlone
rest_alone w s g h alone before e after split begun =
    grind (arith, later w s g h alone before e after split, entry_left, not_so, lent_after, begun_both, or_right)

-- If a history leaves a queue alone, each of its entries does.

each_alone : (w : Watched) (mine : Blocks) (s : State) (rest : List Entry)
    → ((before : List Entry) (e : Entry) (after : List Entry) → rest ≡ before ++ e ∷ after
    → EntryLeavesAlone w mine (mode_in (leads_to s before).registers) e)
    → AllAlone w mine s rest
each_alone w mine s [] leaves = tt
each_alone w mine s (e ∷ es) leaves =
    (leaves [] e es refl, each_alone w mine (after s e.event) es (λ b f after split. leaves (e ∷ b) f after cc))

pub alone_by_entries : AloneByEntries
alone_by_entries w s before rest leaves begun =
    each_alone w (lent_by w.pass (before ++ rest)) (leads_to s before) rest
    (λ b e a split. later w s before rest leaves b e a split (begun_both w.pass before b ∙ or_left _ _ begun))

-- If the mode can be computed from the entries alone, a history that leaves a queue alone according to the computed
-- mode leaves it alone, starting in the device's state.
pub plain_is_left_alone : PlainIsLeftAlone
plain_is_left_alone w s h sound plain events leaves before e after split begun =
    let reported = λ (made : AreEvents before). (reported_from s before sound plain.image made).1 in
    grind (arith, common_steps, events_before)

pub new_is_plain : NewIsPlain
new_is_plain w fifo =
    record { image = refl; mode = ap (λ (m : Settings). m.mode) (new_settings w.vfs fifo); vfs = refl }

pub new_is_left_alone : (w : Watched) (fifo : ℕ) (h : List Entry) → IsSound (new_state w.vfs fifo) → AreEvents h
    → LeavesAlone w h → LeavesAloneFrom w (new_state w.vfs fifo) h
new_is_left_alone w fifo h new = plain_is_left_alone w (new_state w.vfs fifo) h new (new_is_plain w fifo)
