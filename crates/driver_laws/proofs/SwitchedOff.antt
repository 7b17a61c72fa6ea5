-- Lemmas about the sides of a queue while its driver stops or starts. A side that is on, or for which no enable request
-- is in effect, doesn't become enabled. The driver requests that both sides be off and polls them until they read as
-- off, and they stay off. After that, neither events that leave the queue alone nor calls of a stop receive or send
-- anything on the queue.
use Rattle.driver_laws.proofs.Ground.{each_side, ground_kept, ground_names, plain_keeps, side_driven}
use Rattle.driver_laws.proofs.StartPrelude.{HasGround, IsAlong, IsEnding, IsKept, IsMet, IsOff, IsPlain, IsQuiet, Leads}
use Rattle.driver_laws.proofs.StartPrelude.{asked, left_deed, memory_rest, no_block, none_begun_while_off, not_again}
use Rattle.driver_laws.proofs.StartPrelude.{queues_left, read_rest, sent_is_counted, since-append, steady_kept}
use Rattle.driver_laws.proofs.Reached.{OfCall, access_leads, all_switched, before_made, entry_is, first_seen, made_keep}
use Rattle.driver_laws.proofs.Reached.{made_next, made_some, reached_next, sound_at, step_left, then_before, walk}
use Rattle.driver_laws.proofs.CallKinds.{enables, may_asks, step_ends}
use Rattle.driver_laws.proofs.{Parts.calls_joined, Points.idle_left, StartPrelude.AllAre, StartPrelude.AtCalls}
use Rattle.driver_laws.proofs.{StartPrelude.Deed}
use Rattle.driver_laws.proofs.{Reached.watching, CallKinds.MayAsk, CallKinds.accesses_are, CallKinds.asked_may}
use Rattle.driver_laws.specs.StartPrelude.{Blocks, Call, Dir, Entry, Event, IsEvent, IsMade, Rx, Rxdctl, Sees, Sets}
use Rattle.driver_laws.specs.StartPrelude.{Side}
use Rattle.driver_laws.specs.StartPrelude.{State, Tx, Txdctl, Watched, after, calls_of, enable_row, is_step, leads_to}
use Rattle.driver_laws.specs.StartPrelude.{lent_by, missed, pieces, polled, quiet, receive_polled, sent_by, side_of}
use Rattle.driver_laws.specs.{Ending.Each, StartPrelude.Access, StartPrelude.AreMade, StartPrelude.AtPort}
use Rattle.driver_laws.specs.{StartPrelude.Block}
use Rattle.driver_laws.specs.{Quiet.OffSidesStand, Quiet.ReceiveGuardIsOff, Quieting.QuietSidesStand}
use Rattle.driver_laws.specs.{Quieting.QuietingLeads, SwitchedOff.IsSilent, SwitchedOff.QuietQueueIsSilent}
use Rattle.driver_laws.specs.{SwitchedOff.SwitchingOffLeads, Standing.IsLeft}
use Rattle.ring_laws.proofs.Steady.{IsSteady, deed_settles, off_idle, off_steady, seen_off, unwanted_steady}
use Rattle.ring_laws.specs.Sides.{IsUnwanted}
use Rattle.std.proofs.Common.{Bool, List, [], ap, append_assoc, arith, false, refl, rules, subst, sym, true, ℕ, ◌++◌}
use Rattle.std.proofs.{Common.◌∙◌, Common.◌∷◌, Common.◌≡◌, Common.◌≢◌, lemmas.Grind.common_steps}
use Rattle.std.{proofs.lemmas.List.append-nil, proofs.lemmas.List.append_cancel_left, specs.Prelude.⊤}
use Rattle.pmd_driver.specs.NicDevice.declared.event.Event.TheVariants as event
use Rattle.ring_laws.proofs.Steady as steady

abbrev pub IsSettled : Dir → ℕ → State → Type 0
IsSettled dir queue s = steady.IsSettled (side_of dir queue s)

-- The side is still settled (on, or with no enable request in effect), and wasn't enabled in between.
abbrev pub Settles : Dir → ℕ → State → State → Type 0
Settles dir queue s t = steady.Settles (side_of dir queue s) (side_of dir queue t)

pub left_settles : (dir : Dir) (w : Watched) (mine : Blocks) (s : State) (e : Event Block) → IsLeft w mine s e
    → IsSettled dir w.queue s → Settles dir w.queue s (after s e)
left_settles dir w mine s e x is = deed_settles dir w.queue s e (left_deed dir w mine s e x) is

-- Lemmas about what an event of a stop does to a side: it leaves the side unchanged, requests that the side be off, or
-- is a device step.
module _ (dir : Dir) (P : Side → Type 0) (R : Side → Side → Type 0) (same : (x y : Side) → y ≡ x → P x → R x y)
    (asks : (x y : Side) (wanted : Bool) → y ≡ record x { wanted = wanted } → wanted ≡ false → P x → R x y)
    (deed :
    (queue : ℕ) (s : State) (e : Event Block) → Deed dir queue s e → P (side_of dir queue s)
    → R (side_of dir queue s) (side_of dir queue (after s e)))
    (queue : ℕ) (q : AtPort) (frame : ℕ) (s : State) (met : IsMet queue s) (g : HasGround queue q frame s)
    (p : P (side_of dir queue s)) where
  pub ending_does : (e : Event Block) → IsEvent e → IsEnding q e
      → R (side_of dir queue s) (side_of dir queue (after s e))
  ending_does (event.Write port number word) made (side, is, none, named) =
      let names = ground_names queue q frame s g (enable_row side) number (side_driven side) named in
      let either = steady.asked_or_left queue s met.sound met.small q.port number word side dir names in
      rw is (grind (arith, same, asks))
  ending_does (event.Read port number) made ends = grind (arith, common_steps, queues_left, read_rest)
  ending_does (event.Take number) made ends = same _ _ (queues_left queue s _ dir (memory_rest.take s number).queues) p
  ending_does e made ends =
      deed queue s e (left_deed dir (watching queue s) no_block s e (step_left queue s e met made ends)) p

-- If an event of a stop writes a register, it is a register of the queue.
pub ending_plain : (q : AtPort) (e : Event Block) → IsEnding q e → IsPlain q e
ending_plain q e ending = grind (arith, common_steps)

-- A property of a side that stays true whatever the device does to the side, and after a request that the side be off.
record IsShutting (P : Side → Type 0) : Type 0 where
  stays : IsSteady P
  asks : (x : Side) (wanted : Bool) → wanted ≡ false → P x → P (record x { wanted = wanted })

shutting : IsShutting (λ x. ⊤) × IsShutting IsUnwanted × IsShutting IsOff
shutting = grind (arith, common_steps, unwanted_steady)

-- Lemmas: events of a stop preserve such a property.
module _ (P : Side → Type 0) (is : IsShutting P) (queue : ℕ) (q : AtPort) (frame : ℕ) (s : State) where
  ending_keeps : (dir : Dir) (e : Event Block) → IsMet queue s → IsEvent e → IsEnding q e → HasGround queue q frame s
      → P (side_of dir queue s) → P (side_of dir queue (after s e))
  ending_keeps dir e met made ends g p =
      ending_does dir P (λ x y. P y) (λ x y is p. rw is p) (λ x y wanted to none p. rw to (is.asks x wanted none p))
      (λ queue s e did p. steady_kept dir queue s e P p is.stays did) queue q frame s met g p e made ends

-- An event that leaves the queue alone receives and sends nothing, and both sides stay off.
left_stays : (w : Watched) (mine : Blocks) (q : AtPort) (frame : ℕ) (s : State) (e : Event Block) → IsLeft w mine s e
    → IsQuiet w.queue q frame s
    → IsQuiet w.queue q frame (after s e) × (pieces w.queue s e ≡ []) × (sent_by w.queue s e ≡ [])
left_stays w mine q frame s e left x =
    let rx = idle_left Rx IsOff off_idle w mine s e left x.receive in
    let tx = idle_left Tx IsOff off_idle w mine s e left x.transmit in search (rules, ground_kept)

pub quiet_kept : (w : Watched) (mine : Blocks) (q : AtPort) (frame : ℕ) → IsKept w mine (IsQuiet w.queue q frame)
quiet_kept w mine q frame s e left x = (left_stays w mine q frame s e left x).0

pub ending_quiet : (queue : ℕ) (q : AtPort) (frame : ℕ) (s : State) (e : Event Block) → IsMet queue s → IsEvent e
    → IsEnding q e → IsQuiet queue q frame s → IsQuiet queue q frame (after s e)
ending_quiet queue q frame s e met made ends b =
    search (rules, plain_keeps, ending_plain, ending_keeps IsOff shutting.2)

-- If a list of accesses is split into two parts, so are the calls that make these accesses.
both_parts : (q : AtPort) (xs ys : List Access) (old new : List Call) → AllAre MayAsk (xs ++ ys)
    → AreMade q old new (xs ++ ys)
    → (mid : List Call) × AreMade q old mid xs × AreMade q mid new ys × AllAre MayAsk xs × AllAre MayAsk ys
both_parts q [] ys old new asks made = (old, refl, made, tt, asks)
both_parts q (x ∷ xs) ys old new asks (next, here, more) =
    grind (arith, common_steps, both_parts q xs ys next new asks.1 more)

-- Lemmas for one side, over a history.
module _ {w : Watched} {origin : State} {h : List Entry} (q : AtPort) (frame : ℕ) (along : IsAlong w origin h) where
  module _ (dir : Dir) where
    abbrev One : (Side → Type 0) → State → Type 0
    One P s = HasGround w.queue q frame s × P (side_of dir w.queue s)

    one_kept : (P : Side → Type 0) → IsSteady P → IsKept w (lent_by w.pass h) (One P)
    one_kept P stays s e x (g, p) =
        (ground_kept w _ q frame s e x g, steady_kept dir w.queue s e P p stays (left_deed dir w _ s e x))

    -- Lemmas: calls of a stop preserve such a property.

    one_ending : (P : Side → Type 0) → IsShutting P → (s : State) (e : Event Block) → IsMet w.queue s → IsEvent e
        → IsEnding q e → One P s → One P (after s e)
    one_ending P is s e met made ends (g, p) = search (rules, plain_keeps, ending_plain, ending_keeps P is)

    -- If `P` holds before calls of a stop and `a` is the next access, `Q` holds after that access.
    asked_leads : (P Q : Side → Type 0) → IsShutting P → IsShutting Q → (xs : List Access) (a : Access)
        → OfCall q a (λ c. Leads w.queue c (One P) (One Q)) → AllAre MayAsk xs → (old mid new : List Call)
        → AreMade q old mid xs → IsMade q mid new a → old ≢ [] → AtCalls w origin h old (One P)
        → AtCalls w origin h new (One Q)
    asked_leads P Q is then xs a leads asks old mid new made last some at =
        let (calls, same, each) =
        accesses_are q (IsEnding q) MayAsk (step_ends q) (λ port number. tt) (may_asks q) xs old mid asks made in
        access_leads q along (One P) (One Q) a (one_kept Q then.stays) leads mid new last
        (before_made q w origin h (One P) a mid new last
        (made_next along (One P) (IsEnding q) (one_kept P is.stays) (one_ending P is) calls old mid same each
        (then_before along (One P) (one_kept P is.stays) old some at)))

  -- Lemmas: both sides are off after accesses that request that each side be off and then read it as off.
  module _ (all : List Access) (ask : AllAre MayAsk all)
      (turns : (dir : Dir) → (xs : List Access) × (ys : List Access) × (zs : List Access)
      × (all ≡ xs ++ Sets (enable_row dir) 0 ∷ (ys ++ Sees (enable_row dir) false ∷ zs))) (old new : List Call)
      (made : AreMade q old new all) (some : old ≢ []) (at : AtCalls w origin h old (HasGround w.queue q frame)) where
    shut_at : (dir : Dir) → AtCalls w origin h new (One dir IsOff)
    shut_at dir =
        let (xs, ys, zs, same) = turns dir in
        let (m1, first, (m2, asks, more), ask_x, (_, ask_m)) =
        both_parts q xs _ old new (subst (AllAre MayAsk) same ask) (subst (AreMade q old new) same made) in
        let (m3, then, (m4, sees, rest), ask_y, (_, ask_z)) = both_parts q ys _ m2 new ask_m more in
        let asked_at = asked_leads dir (λ x. ⊤) IsUnwanted shutting.0 shutting.1 xs (Sets (enable_row dir) 0)
        (λ number named s met made reported (g, p).
        let names = ground_names w.queue q frame s g (enable_row dir) number (side_driven dir) named in
        let plain : IsPlain q (event.Write q.port number 0) = (enable_row dir, refl, side_driven dir, named) in
        let ground = plain_keeps w.queue q frame s (event.Write q.port number 0) plain g in
        (ground, ap (λ (x : Side). x.wanted) (asked w.queue s met.sound met.small q.port number 0 dir names)))
        ask_x old m1 m2 first asks some (λ done rest all is. (at done rest all is, tt)) in
        let off_at = asked_leads dir IsUnwanted IsOff shutting.1 shutting.2 ys (Sees (enable_row dir) false)
        (λ number word named zero s met made reported (g, none).
        let names = ground_names w.queue q frame s g (enable_row dir) number (side_driven dir) named in
        let ground = plain_keeps w.queue q frame s (event.Read q.port number) tt g in
        (ground, seen_off w.queue s q.port number word (sym reported) dir names zero none))
        ask_y m2 m3 m4 then sees (made_some q m1 m2 (Sets (enable_row dir) 0) asks) asked_at in
        made_keep (One dir IsOff) (IsEnding q) along (one_kept dir IsOff off_steady) (one_ending dir IsOff shutting.2)
        m4 new
        (accesses_are q (IsEnding q) MayAsk (step_ends q) (λ port number. tt) (may_asks q) zs m4 new ask_z rest)
        (made_some q m3 m4 (Sees (enable_row dir) false) sees) off_at

    both_off : AtCalls w origin h new (IsQuiet w.queue q frame)
    both_off done rest whole is =
        let rx = shut_at Rx done rest whole is in
        let tx = shut_at Tx done rest whole is in assumption (rx.0, rx.1, tx.1)

pub quieting_leads : QuietingLeads
quieting_leads w q frame origin h old new along (first, seen, more) at =
    let named = first_seen w q origin h (HasGround w.queue q frame) along (ground_kept w (lent_by w.pass h) q frame)
    (λ s number g. plain_keeps w.queue q frame s (event.Read q.port number) tt g) Rxdctl false old first seen at in
    both_off q frame along (Sets Rxdctl 0 ∷ Sees Rxdctl false ∷ quiet Tx) (search rules)
    (each_side _ ([], [], quiet Tx, refl) (Sets Rxdctl 0 ∷ Sees Rxdctl false ∷ Sees Txdctl false ∷ [], [], [], refl))
    first new more (made_some q old first (Sees Rxdctl false) seen) named

pub switching_off_leads : SwitchingOffLeads
switching_off_leads w q frame origin h old new along (first, second, few, made) some at =
    both_off q frame along (receive_polled false first ++ polled Tx false second)
    (all_switched MayAsk false (λ side seen. enables side) asked_may first second)
    (each_side _ ([], Sets Txdctl 0 ∷ missed Rx false first, polled Tx false second, simp append_assoc)
    (Sets Rxdctl 0 ∷ [], polled Rx false first ++ missed Tx false second, [], simp append_assoc)) old new made some at

-- Lemmas: if no enable request is in effect for a receive side, none comes into effect over events that leave the queue
-- alone.

pub receive_guard_is_off : ReceiveGuardIsOff
receive_guard_is_off = record {
  written = λ queue s port n word met names none. grind (arith, asked queue s met.sound met.small port n word Rx names);
  left = λ w mine s e x none. steady_kept Rx w.queue s e IsUnwanted none unwanted_steady (left_deed Rx w mine s e x);
  read = λ queue s port n word none names reported zero. seen_off queue s port n word reported Rx names zero none;
}

pub off_sides_stand : OffSidesStand
off_sides_stand queue s sound off transmit_off = search (rules, each_side, none_begun_while_off)

-- Lemmas: two sides that are off with no enable request pending stay as they are, with no ring block lent.

pub quiet_sides_stand : QuietSidesStand
quiet_sides_stand w q frame origin h calls along quiet done rest all is =
    let s = leads_to origin done in
    let x = quiet done rest all is in (
      record { side = λ dir. side_of dir w.queue s; rings = no_block },
      rw (x.receive.off, x.receive.unwanted, x.transmit.off, x.transmit.unwanted) refl,
      grind (arith, common_steps, off_sides_stand w.queue s (sound_at along done rest all) x.receive x.transmit),
    )

ending_stays : (queue : ℕ) (q : AtPort) (frame : ℕ) (s : State) (e : Event Block) → IsMet queue s → IsEvent e
    → IsEnding q e → IsQuiet queue q frame s
    → IsQuiet queue q frame (after s e) × (pieces queue s e ≡ []) × (sent_by queue s e ≡ [])
ending_stays queue q frame s e met made ends x =
    let still = ending_quiet queue q frame s e met made ends x in
    let left = λ (is : is_step e ≡ true).
    left_stays (watching queue s) no_block q frame s e (step_left queue s e met made is) x in grind arith

module _ {w : Watched} {origin : State} {h : List Entry} (q : AtPort) (frame : ℕ) (along : IsAlong w origin h)
    (done : List Entry) where
  -- The sides are off, and nothing was received or sent since the entries `done`.
  abbrev Silent : List Entry → Type 0
  Silent now = IsQuiet w.queue q frame (leads_to origin now) × IsSilent w origin now done

  silent_on : (now : List Entry) (e : Entry) → IsQuiet w.queue q frame (after (leads_to origin now) e.event)
      × (pieces w.queue (leads_to origin now) e.event ≡ []) × (sent_by w.queue (leads_to origin now) e.event ≡ [])
      → Silent now → Silent (now ++ e ∷ [])
  silent_on now e stays (still, same) =
      grind (arith, reached_next w origin now e, append-nil, not_again, since-append, sent_is_counted.joined)

pub quiet_queue_is_silent : QuietQueueIsSilent
quiet_queue_is_silent w q frame origin h done rest old new along some at (ends, is, own) made all calls =
    let later : calls_of w.pass rest ≡ ends = append_cancel_left old _ _ (cc (calls_joined w.pass done rest)) in
    let on = silent_on q frame along done in
    (walk along (λ now cs. Silent q frame along done now × Each (λ c. IsEnding q c.event) cs)
    (λ cs now e left x. (on now e (left_stays w (lent_by w.pass h) q frame _ e.event left x.0.0) x.0, x.1))
    (λ now more e cs here made x.
    let is = entry_is along now more e here in
    (on now e (ending_stays w.queue q frame _ e.event is.met is.made x.1.0 x.0.0) x.0, x.1.1))
    done rest h [] all (append-nil h) (λ none. some (sym calls ∙ none))
    ((at done rest all calls, record { delivered = refl; sent = refl }), rw later own)).0.1
