-- Proof: if nothing tried to enable a queue before its driver starts, the queue is off at the start.
use Rattle.pmd_driver.proofs.NicDevice.RegisterLaws.{ReadBack.off-reset, Switches.receive-asked}
use Rattle.pmd_driver.proofs.NicDevice.RegisterLaws.{Switches.transmit-asked}
use Rattle.pmd_driver.proofs.NicDevice.{EepromImage.Blank.triples_of-blank, RegisterLaws.Owners.is_place-same}
use Rattle.pmd_driver.proofs.NicDevice.{RegisterLaws.Within.within-written, SidesOn.sides-after_write}
use Rattle.pmd_driver.specs.NicDevice.RegisterFile.{Access.asks_reset, Registers.Registers, Registers.is_wanted}
use Rattle.pmd_driver.specs.NicDevice.RegisterLaws.{Footprint.is_place, Footprint.pool_renews, Laws.after_write}
use Rattle.pmd_driver.specs.NicDevice.{Access.named_written, Eeprom.reset, Eeprom.with_triples}
use Rattle.pmd_driver.specs.NicDevice.{EepromImage.Image.blank}
use Rattle.pmd_driver.specs.NicDevice.{EepromImage.Triples.triples_of, PoolReset.written_below_reset}
use Rattle.pmd_driver.specs.NicDevice.{Step.step_of, declared.named.Named.Named}
use Rattle.pmd_driver.specs.NicDevice.{declared.named.Named.TheVariants.Nothing}
use Rattle.driver_laws.proofs.RingLaws.Written.{place_in, place_named}
use Rattle.driver_laws.proofs.RingLaws.{Deeds.side_did, DeviceLaws.PoolResets.asked_pool_resets}
use Rattle.driver_laws.proofs.RingLaws.{Limits.settings_reported, Steady.off_steady, Steady.steady_kept}
use Rattle.driver_laws.proofs.{Histories.leads-append, RingLaws.Alone.histories_sound}
use Rattle.driver_laws.proofs.Prelude.{AreEvents, Block, Dir, Entry, Event, IsSound, List, Place, Port, Register, Rx}
use Rattle.driver_laws.proofs.Prelude.{State, Tx, Watched, [], after, ap, append-nil, append_assoc, arith}
use Rattle.driver_laws.proofs.Prelude.{asks_pool_reset, cases_Bool, cleared, common_steps, enable_row, events_before}
use Rattle.driver_laws.proofs.Prelude.{false, has_bit, has_queue, image_stays, is_on, leads_to, left-side, mode_in}
use Rattle.driver_laws.proofs.Prelude.{named, new_sound, new_state, place, refl, row_of, rules, subst, sym, true}
use Rattle.driver_laws.proofs.Prelude.{vfs_stays, ℕ, ⊎_elim, ◌++◌}
use Rattle.driver_laws.proofs.{Prelude.◌<◌, Prelude.◌∙◌, Prelude.◌∷◌, Prelude.◌≡◌}
use Rattle.pmd.proofs.WorkerReported.{ground_there, named_below}
use Rattle.driver_laws.specs.RingLaws.Sides.{side_of}
use Rattle.driver_laws.specs.RingLaws.Sides.{IsOff}
use Rattle.std.proofs.lemmas.Bool.{cond_both}
use Rattle.pmd.specs.Quiet.{NoneAsksOn, asks_on}
use Rattle.pmd_driver.specs.NicDevice.declared.event.Event.TheVariants as event

-- A side that is off with no enable request pending stays in this state over every event that doesn't try to enable the
-- queue.

-- The side's state according to the registers.

abbrev IsDown : Dir → ℕ → Registers → Type 0
IsDown dir queue r = (is_on r dir queue ≡ false) × (is_wanted r dir queue ≡ false)

down_off : (dir : Dir) (queue : ℕ) (s : State) → IsDown dir queue s.registers → IsOff (side_of dir queue s)
down_off dir queue s down = grind (arith, common_steps)

-- The enable register of a side.

abbrev enable : Dir → ℕ → Place
enable dir queue = place (enable_row dir) queue

within : (dir : Dir) (queue : ℕ) → queue < 128
    → (queue < (row_of (enable_row dir)).count) × (has_bit 25 (row_of (enable_row dir)).reset ≡ false)
within dir queue small = grind (arith, common_steps)

-- Only a write to this register changes the side's enable request, and setting the request requires bit 25.

asked_of : (dir : Dir) (queue : ℕ) → queue < 128 → (s : State) → IsSound s → (view word : ℕ)
    → is_wanted (after_write s.registers (enable dir queue) view word) dir queue ≡ has_bit 25 word
asked_of Rx queue small s sound view word = grind (arith, common_steps, receive-asked)
asked_of Tx queue small s sound view word = grind (arith, common_steps, transmit-asked)

module _ (w : Watched) (small : w.queue < 128) (s : State) (sound : IsSound s) (dir : Dir) where
  open w use {queue}

  abbrev here : Place
  here = enable dir queue

  abbrev Down : State → Type 0
  Down x = IsDown dir queue x.registers

  module _ (image : s.image ≡ blank) (down : Down s) (port : Port) (n word : ℕ) where
    abbrev t : State
    t = after s (event.Write port n word)

    left_by : (m : Named) → named s port n ≡ m → t ≡ (named_written s m word).state
    unfolding step_of
    left_by m found = ap (λ x. (named_written s x word).state) found

    module _ (p : Place) (view : ℕ) (found : named s port n ≡ Register p view) where
      -- The write resets a pool.
      pool_down : asks_pool_reset (row_of p.row).kind word ≡ true → Down t
      pool_down asks =
          let x = asked_pool_resets s sound port n word p view found asks in
          let mode = mode_in s.registers in
          let pool : (pool_renews mode p.index).bits here 25 ≡ has_queue mode p.index queue = grind arith in
          ⊎_elim
          (λ has.
          let bits = x.registers.bits here 25 (pool ∙ has) (within dir queue small).0 in
          grind (arith, bits, (within dir queue small).1, x.registers.wanted dir queue has small))
          (λ none.
          grind (arith, x.alone.registers.bits here 25 (pool ∙ none), x.alone.registers.wanted dir queue none))
          (cases_Bool (has_queue mode p.index queue))

      -- The write doesn't set the enable bit.
      module _ (zero : is_place p here ≡ true → has_bit 25 word ≡ false) where
        written_unwanted : is_wanted (after_write s.registers p view word) dir queue ≡ false
        written_unwanted =
            let same = is_place-same p here in
            let asked = asked_of dir queue small s sound view word in
            let within = (within-written s.registers p view word).wanted dir queue in
            grind (arith, same, asked, within, zero)

        register_down : Down t
        register_down =
            let off = subst (λ ts. Down (with_triples (cleared s) ts)) (sym (ap triples_of image ∙ triples_of-blank))
            (off-reset dir queue small) in
            let sides = sides-after_write s.registers sound.registers view word p dir queue in
            let unasked = cond_both (asks_reset (row_of p.row).kind word) (reset s)
            (written_below_reset s p view word) Down (λ asks. off) in
            ⊎_elim pool_down (λ none.
            rw (left_by (Register p view) found) (unasked (λ no. rw none (sides ∙ down.0, written_unwanted))))
            (cases_Bool (asks_pool_reset (row_of p.row).kind word))

    module _ (functions : w.vfs ≡ s.vfs) (none : asks_on w (mode_in s.registers) (event.Write port n word) ≡ false)
      where
        named_down : (m : Named) → named s port n ≡ m → Down t
        named_down (Nothing seen) found = subst Down (sym (left_by (Nothing seen) found)) down
        named_down (Register p view) found =
            register_down p view found (λ same.
            grind (arith, common_steps, here, place_named, place_in, is_place-same))

-- A side that is off stays off over every event that doesn't try to enable the queue.

stays_off : (w : Watched) (s : State) → w.queue < 128 → IsSound s → s.image ≡ blank → w.vfs ≡ s.vfs → (dir : Dir)
    → (e : Event Block) → asks_on w (mode_in s.registers) e ≡ false → IsOff (side_of dir w.queue s)
    → IsOff (side_of dir w.queue (after s e))
stays_off w s small sound image functions dir (event.Write port n word) none off = search (rules, down_off, named_down)
stays_off w s small sound image functions dir e none off =
    steady_kept dir w.queue s e IsOff off off_steady
    (side_did dir w.queue s e sound small (left-side w s functions dir e tt))

-- If nothing tried to enable the queue, the queue is therefore off when its driver starts.

module _ (w : Watched) (fifo : ℕ) (sound : IsSound (new_state w.vfs fifo)) (small : w.queue < 128) (dir : Dir)
    (h : List Entry) (events : AreEvents h) (none : NoneAsksOn w h) where
  abbrev new : State
  new = new_state w.vfs fifo

  abbrev OffAt : State → Type 0
  OffAt s = IsOff (side_of dir w.queue s)

  along : (done rest : List Entry) → done ++ rest ≡ h → OffAt (leads_to new done) → OffAt (leads_to new h)
  along done [] both off = grind (arith, common_steps, new, append-nil)
  along done (e ∷ rest) both off =
      let early = events_before done (e ∷ rest) (subst AreEvents (sym both) events) in
      let reported = (settings_reported w.vfs fifo done sound early).0 in
      let next = stays_off w (leads_to new done) small (histories_sound new done sound early) (image_stays new done)
      (sym (vfs_stays new done)) dir e.event (cc (reported, none done e rest both)) off in
      along (done ++ e ∷ []) rest (append_assoc done (e ∷ []) rest ∙ both) (rw leads-append next)

pub returns : Rattle.pmd.proofs.laws.worker_starts_quiet.Goals.returns
returns c w fifo old given h device events well never x =
    let sound = new_sound w.vfs fifo device.0 device.1 device.2 in
    let ground = ground_there w fifo old given h sound events well x in
    let small = named_below _ _ given.port given.queue w.queue ground.names in
    let early = events_before x.before (x.first ∷ x.following) (subst AreEvents (sym x.all) events) in
    let off = λ (dir : Dir).
    along w fifo sound small dir x.before early (never old refl x) [] x.before refl
    (down_off dir w.queue (cleared (new_state w.vfs fifo)) (off-reset dir w.queue small)) in
    record { ground = ground; receive = off Rx; transmit = off Tx }
