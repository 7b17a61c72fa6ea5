-- What reads of EEC and EERD return.
use Rattle.std.proofs.Common.{cond, ◌/◌, ◌≡◌, ◌+◌, ◌*◌, ◌^◌, ◌<◌, ℕ, Bool, true, false, length, refl, ap, ◌∙◌, arith, Option, Some, None}
use Rattle.std.proofs.Math.Nat.{mod-eq_of_lt, mod-lt}
use Rattle.nic_device.specs.EepromImage.Bytes.{word_at as image_word}
use Rattle.nic_device.specs.EepromImage.Image.{doublings}
use Rattle.nic_device.proofs.EepromImage.Sizes.{doublings-is, doublings-few}
use Rattle.nic_device.specs.RegTable.declared.rows.RowId.TheVariants.{Eec, Eerd}
use Rattle.nic_device.specs.RegisterFile.Eeprom.{eeprom_index, eeprom_asked, eeprom_answered}
use Rattle.nic_device.specs.Eeprom.{word_answered}
use Rattle.nic_device.specs.declared.event.Event.TheVariants as event
use Rattle.device_laws.specs.Prelude.{Idle, Outcome, State, Word, at_place, gives, has_bit, is_stopped, named_read}
use Rattle.device_laws.specs.Prelude.{place, runs, step_of, view_among, word_of}
use Rattle.device_laws.proofs.Prelude.{and_mask, found-named, put_stands}
use Rattle.device_laws.specs.Eeprom.{control_address, read_address, ControlTellsSize, StepGivesWord, StepWithoutStartIsIdle}
use Rattle.device_laws.specs.Laws.{reply_to_read, shown}

-- EEC.

control-read : (s : State) → reply_to_read s control_address
    ≡ Word (shown control_address (0x300 + 0x800 * doublings (length s.image)))
unfolding step_of runs
control-read s =
    ap (λ o. (named_read s (at_place o (view_among runs control_address))).reply)
    ((found-named control_address (place Eec 0)).1 ((found-named control_address (place Eec 0)).0 refl))

-- Both addresses show all 32 bits.
shown-control : (w : ℕ) → w < 2 ^ 32 → shown control_address w ≡ w
unfolding runs
shown-control w small = and_mask w 32 ∙ mod-eq_of_lt small

shown-read : (w : ℕ) → w < 2 ^ 32 → shown read_address w ≡ w
unfolding runs
shown-read w small = and_mask w 32 ∙ mod-eq_of_lt small

pub control_tells : ControlTellsSize
control_tells s h doubled is =
    let few = doublings-few (length s.image) in
    control-read s ∙ ap Word (shown-control (0x300 + 0x800 * doublings (length s.image)) (omega arith))
    ∙ ap (λ d. Word (0x300 + 0x800 * d)) (doublings-is (length s.image) doubled h.image.size is)

-- EERD.

word-read : (s : State) → reply_to_read s read_address ≡ Word (shown read_address (word_of s.registers Eerd 0))
unfolding step_of runs
word-read s =
    ap (λ o. (named_read s (at_place o (view_among runs read_address))).reply)
    ((found-named read_address (place Eerd 0)).1 ((found-named read_address (place Eerd 0)).0 refl))

index-is : (b : Bool) (i index : ℕ) → cond b (Some i) None ≡ Some index → i ≡ index
index-is true i index e = cc
index-is false i index e = cc

stepped-is : (s : State) (o : Option ℕ) → is_stopped s.registers ≡ false → eeprom_asked s.registers ≡ o
    → step_of s event.EepromStep ≡ word_answered s o
unfolding step_of
stepped-is s o running asked =
    ap (λ b. cond b (gives Idle s) (word_answered s (eeprom_asked s.registers))) running ∙ ap (word_answered s) asked

pub step_gives : StepGivesWord
step_gives s h running index asked =
    let r = s.registers in
    let word = image_word s.image index in
    let step = stepped-is s (Some index) running asked in
    let same = index-is (has_bit 0 (word_of r Eerd 0)) (eeprom_index r) index asked in
    let fits = h.image.fits index in
    let small : eeprom_index r < 2 ^ 14 = mod-lt (word_of r Eerd 0 / 4) (omega arith) in
    let there : word_of (eeprom_answered r word) Eerd 0 ≡ index * 4 + 2 + word * 2 ^ 16 =
    put_stands r (place Eerd 0) _ h.registers.shape (omega arith) ∙ ap (λ i. i * 4 + 2 + word * 2 ^ 16) same in
    record {
      reply = ap (λ (o : Outcome). o.reply) step;
      word = word-read (step_of s event.EepromStep).state
          ∙ ap (λ (o : Outcome). Word (shown read_address (word_of o.state.registers Eerd 0))) step
          ∙ ap (λ w. Word (shown read_address w)) there
          ∙ ap Word (shown-read (index * 4 + 2 + word * 2 ^ 16) (omega arith));
    }

idle-either : (b : Bool) (o : Outcome) → cond b o o ≡ o
idle-either true o = refl
idle-either false o = refl

pub step_idle : StepWithoutStartIsIdle
unfolding step_of
step_idle s asked =
    ap (λ o. cond (is_stopped s.registers) (gives Idle s) (word_answered s o)) asked
    ∙ idle-either (is_stopped s.registers) (gives Idle s)
