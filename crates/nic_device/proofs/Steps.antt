-- Each event keeps a device sound and changes nothing outside its reach.
use Rattle.std.proofs.Common.{◌≡◌, ℕ, Bool, true, false, List, [], ◌∷◌, refl, sym, subst, arith, Option, Some, None}
use Rattle.std.specs.Prelude.{⊤, All, Result, Ok, Err, OnOk, OnErr}
use Rattle.std.proofs.lemmas.List.Elements.{All-nil, All-tail}
use Rattle.rx_ring.specs.DmaArena.Block.{Block}
use Rattle.register_file.specs.IntrUnit.declared.group.Group.{Group}
use Rattle.register_file.specs.IntrUnit.declared.group.Group.TheVariants as group
use Rattle.eeprom_image.proofs.Blank.{IsImage-blank}
use Rattle.register_file.specs.Groups.{causes_raised, message_of, message_made}
use Rattle.register_file.specs.Registers.{reset_registers}
use Rattle.register_laws.specs.Footprint.{nothing, pending}
use Rattle.register_laws.proofs.Footprints.{within-refl}
use Rattle.register_laws.proofs.Sound.{sound-message_made, sound-causes_raised, sound-answered, sound-reset}
use Rattle.register_laws.proofs.Within.{within-message_made, within-causes_raised, within-answered}
use Rattle.nic_device.specs.Interrupt.{interrupted, message_reply, link_cause}
use Rattle.nic_device.specs.Kept.{NewDeviceIsSound, EventKeepsSound}
use Rattle.eeprom_image.specs.Bytes.{word_at}
use Rattle.register_file.specs.Eeprom.{eeprom_asked, eeprom_answered}
use Rattle.register_file.specs.Settings.{is_stopped}
use Rattle.nic_device.specs.Outcome.{gives}
use Rattle.nic_device.specs.Eeprom.{word_answered, eeprom_stepped}
use Rattle.nic_device.specs.Link.{link_set, collected, oldest_collected}
use Rattle.nic_device.specs.Named.{named}
use Rattle.nic_device.specs.Sound.{IsBegunWhileOn, IsEvent, IsOut, IsSound}
use Rattle.nic_device.specs.State.{State}
use Rattle.nic_device.specs.Step.{step_of, hands_out}
use Rattle.nic_device.proofs.Accessing.{read_leads, write_leads}
use Rattle.nic_device.proofs.Arriving.{arrive_leads}
use Rattle.nic_device.proofs.Blocks.{AreBlocks-empty}
use Rattle.nic_device.proofs.Cases.{either_way, link_cases, interrupted_cases}
use Rattle.nic_device.proofs.Keeping.{sound-registers, sound-out, sound-link, AreStaged-none, bare-none}
use Rattle.nic_device.proofs.Leads.{Leads, leads-still, leads-to, leads-registers}
use Rattle.nic_device.proofs.Memory.{lend_leads, take_leads, peek_leads, poke_leads}
use Rattle.nic_device.proofs.Receiving.{receive_leads}
use Rattle.nic_device.proofs.Sending.{transmit_leads}
use Rattle.nic_device.proofs.SidesOn.{on_kept, sides_kept, spares-answer, spares-pending}
use Rattle.nic_device.proofs.SwitchedSides.{switch_leads}
use Rattle.nic_device.specs.declared.event.Event.{Event}
use Rattle.nic_device.specs.declared.event.Event.TheVariants as event
use Rattle.nic_device.specs.declared.event.Reply.TheVariants.{Done, Idle, NoGroup, Frame}

-- Messages.

none_handed : (g : Group) (o : Option ℕ) → hands_out (message_reply g o) ≡ false
none_handed g None = refl
none_handed g (Some vector) = refl

message_leads : (s : State) (g : Group) → Leads s (event.IntStep g) (interrupted s g)
message_leads s g =
    let e = event.IntStep g in
    interrupted_cases (Leads s e) s g (leads-still s e NoGroup (λ no. refl)) (leads-still s e Idle (λ no. refl))
    (leads-registers s e (message_reply g (message_of s.registers g)) (message_made s.registers g) {good = ⊤}
    (λ h is. tt)
    (record { sound = λ good h. sound-message_made s.registers g h; within = within-message_made s.registers g })
    (spares-pending g) (none_handed g (message_of s.registers g)))

-- The EEPROM.

word_leads : (s : State) (o : Option ℕ) → Leads s event.EepromStep (word_answered s o)
word_leads s None = leads-still s event.EepromStep Idle (λ no. refl)
word_leads s (Some index) =
    leads-registers s event.EepromStep Done (eeprom_answered s.registers (word_at s.image index)) (λ h is. h.image)
    (record {
      sound = λ image h. sound-answered s.registers (word_at s.image index) (image.fits index) h;
      within = within-answered s.registers (word_at s.image index);
    })
    spares-answer refl

eeprom_leads : (s : State) → Leads s event.EepromStep (eeprom_stepped s)
eeprom_leads s =
    either_way (Leads s event.EepromStep) (is_stopped s.registers) (gives Idle s)
    (word_answered s (eeprom_asked s.registers)) (leads-still s event.EepromStep Idle (λ no. refl))
    (word_leads s (eeprom_asked s.registers))

-- The link, and the transmitted frames.

link_leads : (s : State) (up : Bool) → Leads s (event.Link up) (link_set s up)
link_leads s up =
    let r = causes_raised s.registers group.Pf link_cause in
    let within = within-causes_raised s.registers group.Pf link_cause in
    let sides = sides_kept (pending group.Pf) s.registers r (spares-pending group.Pf) within in
    let changed : true ≡ false → up ≡ s.link = λ no. cc in
    link_cases (Leads s (event.Link up)) s up (leads-still s (event.Link up) Idle (λ no. refl))
    (leads-to s (event.Link up) Done _
    (λ h is. sound-registers (record s { link = up }) r (sound-link s up h)
    (sound-causes_raised s.registers group.Pf link_cause h.registers) (on_kept s.registers r sides))
    (assumption (within, changed)) refl refl)

oldest_leads : (s : State) (out : List (ℕ × List ℕ)) → s.out ≡ out → Leads s event.Collect (oldest_collected s out)
oldest_leads s [] e = leads-still s event.Collect Idle (λ no. refl)
oldest_leads s (sent ∷ others) e =
    let fewer : true ≡ false → others ≡ s.out = λ no. cc in
    leads-to s event.Collect (Frame sent.0 sent.1) _
    (λ h is. sound-out s others h (All-tail IsOut sent others (subst (All IsOut) e h.out)))
    (assumption (within-refl nothing s.registers, fewer)) refl refl

collect_leads : (s : State) → Leads s event.Collect (collected s)
collect_leads s = oldest_leads s s.out refl

-- All events together: each keeps a device sound and changes nothing outside its reach.

pub step_leads : (s : State) (e : Event Block) → Leads s e (step_of s e)
unfolding step_of
step_leads s (event.Read port n) = read_leads s port n (named s port n) (λ r stays. stays)
step_leads s (event.Write port n word) = write_leads s port n word (named s port n) (λ r stays. stays)
step_leads s (event.Lend block) = lend_leads s block
step_leads s (event.Take number) = take_leads s number
step_leads s (event.Peek16 a) = peek_leads s a
step_leads s (event.Poke16 a bytes) = poke_leads s a bytes
step_leads s (event.Arrive frame) = arrive_leads s frame
step_leads s event.RxStep = receive_leads s
step_leads s (event.TxStep queue) = transmit_leads s queue
step_leads s (event.IntStep g) = message_leads s g
step_leads s (event.QueueStep dir queue) = switch_leads s dir queue
step_leads s event.EepromStep = eeprom_leads s
step_leads s (event.Link up) = link_leads s up
step_leads s event.Collect = collect_leads s

-- A new device is sound, and every event keeps it sound.

pub new_sound : NewDeviceIsSound
new_sound vfs fifo few_vfs some few = record {
  registers = sound-reset;
  blocks = AreBlocks-empty;
  waiting = tt;
  begun = All-nil (IsBegunWhileOn reset_registers);
  room = omega arith;
  staged = AreStaged-none;
  bare = bare-none reset_registers;
  out = All-nil IsOut;
  image = IsImage-blank;
  vfs = few_vfs;
  some = some;
  few = few;
}

pub keeps_sound : EventKeepsSound
keeps_sound s h e is = (step_leads s e).sound h is

-- The same holds if memory runs out and the event doesn't run.
pub sound_step : {R E : Type 0} (s t : State) (e : Event Block) (result : Result R E)
    → OnOk result (t ≡ (step_of s e).state) → OnErr result (t ≡ s) → IsSound s → IsEvent e → IsSound t
sound_step s t e (Ok reply) made kept h is = subst IsSound (sym made) (keeps_sound s h e is)
sound_step s t e (Err refused) made kept h is = subst IsSound (sym kept) h
