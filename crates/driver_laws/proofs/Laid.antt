-- A history over which a driver lays out an empty transmit ring sends nothing on its queue.
use Rattle.driver_laws.proofs.Ground.{ground_kept, ground_names, plain_keeps, words_taken}
use Rattle.driver_laws.proofs.StartPrelude.{IsIdle, IsMet, IsOff, NamesRow, asked, asks_pool_reset, asks_reset}
use Rattle.driver_laws.proofs.StartPrelude.{is_receive}
use Rattle.driver_laws.proofs.StartPrelude.{no_block, owner_of, row_of, side_with, transmit_left, write_rest}
use Rattle.driver_laws.proofs.Reached.{alone_left, entry_is, reached_next, walk, watching}
use Rattle.driver_laws.proofs.{Parts.own_some, Points.idle_left, StartPrelude.Fits, StartPrelude.HasGround}
use Rattle.driver_laws.proofs.{StartPrelude.IsAlong}
use Rattle.driver_laws.specs.Laid.{Empty, Headed, Laid, LaidQueueIsSilent, Lays, LaysOn, MayLay, MayRing, Off, Sized}
use Rattle.driver_laws.specs.StartPrelude.{Event, IsEvent, Port, RowId, Side, State, Tx, Txdctl, Watched, after}
use Rattle.driver_laws.specs.StartPrelude.{calls_of}
use Rattle.driver_laws.specs.StartPrelude.{is_empty, leads_to, lent_by, place, sent_by, side_of}
use Rattle.driver_laws.specs.Standing.{IsLeft}
use Rattle.driver_laws.specs.{Laid.laid_by, StartPrelude.AtPort, StartPrelude.Block, StartPrelude.Blocks}
use Rattle.driver_laws.specs.{StartPrelude.Call, StartPrelude.Entry}
use Rattle.ring_laws.{proofs.InOrder.sent_in-append, specs.Sent.sent_in}
use Rattle.std.proofs.Common.{List, [], append_assoc, arith, false, refl, rules, subst, sym, true, ℕ, ◌++◌, ◌<◌, ◌^◌}
use Rattle.std.proofs.lemmas.List.{append-nil, append_cancel_left}
use Rattle.std.proofs.{Common.◌∙◌, Common.◌∷◌, Common.◌≡◌, Common.◌≢◌, Common.◌≤◌, lemmas.Grind.common_steps}
use Rattle.pmd_driver.specs.NicDevice.RegisterFile.declared.owner.Owner.TheVariants as owner
use Rattle.pmd_driver.specs.NicDevice.declared.event.Event.TheVariants as event

-- What holds for a transmit side that is laid out as far as `l`, with nothing staged: it is off while the register
-- values of an empty ring are written to it, or its ring is empty.
abbrev pub SideLaid : Laid → Side → Type 0
SideLaid Off x = IsOff x × (x.staged ≡ [])
SideLaid Sized x = IsOff x × (x.staged ≡ []) × (16 ≤ x.ring.length)
SideLaid Headed x = IsOff x × (x.staged ≡ []) × (16 ≤ x.ring.length) × (x.ring.head ≡ 0)
SideLaid Empty x = (x.staged ≡ []) × (is_empty x.ring ≡ true)

-- Writing one of the ring's register values to a side that is off lays it out one step further.
word_laid : (row : RowId) (l : Laid) (word : ℕ) (q : Side) → word < 2 ^ 32 → MayRing row l word → SideLaid l q
    → (q.on ≡ false) × Fits Tx row word × SideLaid (laid_by row l) (side_with Tx row word q)
word_laid row l word q low may x = grind (arith, common_steps)

-- Lemmas about the events by which a driver lays out an empty transmit ring, and about those that leave its queue
-- alone.

-- Port and queue number identify the queue, and the queue's transmit side is laid out as far as `l`.
pub record LaidTo (queue : ℕ) (q : AtPort) (frame : ℕ) (l : Laid) (s : State) : Type 0 where
  pub ground : HasGround queue q frame s
  pub side : SideLaid l (side_of Tx queue s)

-- Lemmas about a value that the driver writes.
module _ (queue : ℕ) (s : State) (met : IsMet queue s) (l : Laid) (x : SideLaid l (side_of Tx queue s)) (port : Port)
    (n word : ℕ) (low : word < 2 ^ 32) where
  abbrev Then : Laid → Type 0
  Then m = SideLaid m (side_of Tx queue (after s (event.Write port n word)))

  ring_written : (row : RowId) → MayRing row l word → NamesRow s port n row queue → Then (laid_by row l)
  ring_written row may names =
      let laying = word_laid row l word _ low may x in
      rw (words_taken Tx queue s port n word row met.small met.sound laying.0 laying.1 names).side laying.2

  beside : (row : RowId) → is_receive row ≡ true → NamesRow s port n row queue → Then l
  beside row is names =
      let plain : (asks_reset (row_of row).kind word ≡ false) × (asks_pool_reset (row_of row).kind word ≡ false)
      × (owner_of (place row queue) ≢ owner.Side Tx queue) = grind arith in
      let rest = write_rest s port n word (place row queue) 0xFFFFFFFF names plain.0 plain.1 in
      subst (SideLaid l) (sym (transmit_left queue s _ (rest.transmit queue plain.2))) x

  pub written : (row : RowId) → MayLay row l word → NamesRow s port n row queue → Then (laid_by row l)
  written Txdctl may names = rw (asked queue s met.sound met.small port n word Tx names) (grind (arith, common_steps))
  written row may names = search (rules, beside, ring_written)

-- An event that leaves the queue alone, or one of the driver's own events that lays the ring out, sends nothing on the
-- queue.
pub left_lays : (w : Watched) (mine : Blocks) (q : AtPort) (frame : ℕ) (l : Laid) (s : State) (e : Event Block)
    → IsLeft w mine s e → LaidTo w.queue q frame l s → LaidTo w.queue q frame l (after s e) × (sent_by w.queue s e ≡ [])
left_lays w mine q frame l s e left x =
    let idle : IsIdle (SideLaid l) = grind (arith, common_steps) in
    let on = idle_left Tx (SideLaid l) idle w mine s e left x.side in
    assumption (ground_kept w mine q frame s e left x.ground)

pub own_lays : (queue : ℕ) (q : AtPort) (frame : ℕ) (l m : Laid) (s : State) → IsMet queue s → LaidTo queue q frame l s
    → (e : Event Block) → IsEvent e → Lays q l e m → LaidTo queue q frame m (after s e) × (sent_by queue s e ≡ [])
own_lays queue q frame l m s met x (event.Write port n word) made (row, same, driven, named, may, is) =
    let names : NamesRow s port n row queue = rw same (ground_names queue q frame s x.ground row n driven named) in
    let ground = plain_keeps queue q frame s (event.Write port n word) (row, same, driven, named) x.ground in
    rw is (assumption (written queue s met l x.side port n word made.2 row may names, ground))
own_lays queue q frame l m s met x e made lays =
    rw lays (left_lays (watching queue s) no_block q frame l s e (alone_left queue s e met made (search rules)) x)

-- Lemmas about a history, starting with a call of the pass.
module _ {w : Watched} {origin : State} {h : List Entry} (q : AtPort) (frame : ℕ) (along : IsAlong w origin h)
    (done : List Entry) (last : Laid) where
  -- The side is laid out this far, and nothing more was sent on the queue than before that call.
  abbrev Silent : List Entry → List Call → Type 0
  Silent now cs =
      (l : Laid) × LaidTo w.queue q frame l (leads_to origin now) × LaysOn q l cs last
      × (sent_in w.queue origin now ≡ sent_in w.queue origin done)

  silent_on : (now : List Entry) (e : Entry) (l : Laid) (cs : List Call)
      → LaidTo w.queue q frame l (after (leads_to origin now) e.event)
      × (sent_by w.queue (leads_to origin now) e.event ≡ []) → LaysOn q l cs last
      → sent_in w.queue origin now ≡ sent_in w.queue origin done → Silent (now ++ e ∷ []) cs
  silent_on now e l cs x lays none = grind (arith, reached_next, sent_in-append, append-nil)

pub laid_queue_is_silent : LaidQueueIsSilent
laid_queue_is_silent w q frame origin h done rest e last along all own ground off (m, lay, more) =
    let is = entry_is along done rest e all in
    let first = own_lays w.queue q frame Off m (leads_to origin done) is.met
    (record { ground = ground; side = (off, is.met.sound.bare w.queue off.off) }) e.event is.made lay in
    let on = silent_on q frame along done last in
    let (l, there, lays, none) = walk along (Silent q frame along done last)
    (λ cs now f left (l, x, lays, none).
    on now f l cs (left_lays w (lent_by w.pass h) q frame l _ f.event left x) lays none)
    (λ now more f cs here some (l, x, (m, lay, lays), none).
    let is = entry_is along now more f here in
    on now f m cs (own_lays w.queue q frame l m _ is.met x f.event is.made lay) lays none)
    (done ++ e ∷ []) rest h [] (append_assoc done (e ∷ []) rest ∙ all) (append-nil h) (own_some w.pass done e own)
    (on done e m (calls_of w.pass rest) first more refl) in
    append_cancel_left (sent_in w.queue origin done) _ []
    (cc (sent_in-append w.queue origin done (e ∷ rest), append-nil (sent_in w.queue origin done)))
