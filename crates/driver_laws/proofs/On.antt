-- The register values of both rings are written while no enable request is in effect for either side. Then the driver
-- requests that both sides be enabled, and polls them until they are. After that, the device and the driver agree on
-- both sides.
use Rattle.pmd_driver.specs.PmdAccess.Frames.{most_blocks}
use Rattle.pmd_driver.specs.{Running.Running, Started.AreUp}
use Rattle.ring_laws.proofs.{Kept.first_place, Leaving.start_agrees as fresh_agrees}
use Rattle.driver_laws.proofs.Points.{At, accesses_at, laid_with, prepared_at, unused_kept}
use Rattle.driver_laws.proofs.StartPrelude.{AllMay, AreUnused, AtCalls, AtEntries, BeforeLast, HasGround, IsAlong}
use Rattle.driver_laws.proofs.StartPrelude.{IsEnable}
use Rattle.driver_laws.proofs.StartPrelude.{IsPlain, IsSized, IsZero, Point, Sides, after_access, after_accesses}
use Rattle.driver_laws.proofs.StartPrelude.{seen_by}
use Rattle.driver_laws.proofs.Reached.{extends, made_some, some_made, sound_at}
use Rattle.driver_laws.proofs.CallKinds.{Has, IsLentBy, has_more, lending, lent_along, prepared_has, prepared_plain}
use Rattle.driver_laws.proofs.{Ground.ground_names, SwitchedOff.quiet_sides_stand, SwitchedOff.quieting_leads}
use Rattle.driver_laws.proofs.{StartPrelude.side_seen, CallKinds.ring_in, CallKinds.stays_in, CallKinds.stays_some}
use Rattle.driver_laws.specs.Moves.{FreshReceiveAgrees, FreshTransmitAgrees, fresh_side}
use Rattle.driver_laws.specs.On.{AreOn, SwitchedSidesAgree, SwitchedSidesBeginNone, SwitchedSidesGoOn}
use Rattle.driver_laws.specs.StartPrelude.{Access, Agree, Agrees, AtPort, Call, Dir, EachRingBlock, Entry}
use Rattle.driver_laws.specs.StartPrelude.{IsReceiveReady}
use Rattle.driver_laws.specs.StartPrelude.{IsSwitched, IsTransmitReady, Numbers, Rdt, Receive, RowId, Rx, Rxdctl, Sees}
use Rattle.driver_laws.specs.StartPrelude.{Sender, Sets, Side, State, Tdt, Tx, Txdctl, Watched, enable_row, has_block}
use Rattle.driver_laws.specs.StartPrelude.{is_frame, is_size, leads_to, lent_by, missed, packet_limit, polled, quiet}
use Rattle.driver_laws.specs.Start.{BeginsWell, StartAgrees, StartGoesOn}
use Rattle.driver_laws.specs.{StartPrelude.receive_polled, StartPrelude.ring_words, Quieting.are_off, Unused.WentOn}
use Rattle.std.proofs.Common.{Bool, List, [], ap, arith, false, inl, refl, replicate, rules, suc, true}
use Rattle.std.proofs.Common.{zero, ℕ, ◌%◌, ◌*◌, ◌++◌, ◌+◌, ◌<◌, ◌∷◌, ◌≡◌, ◌≢◌, ◌≤◌}
use Rattle.std.{proofs.lemmas.Bool.both_ways, proofs.lemmas.Grind.common_steps, specs.Prelude.IsTrue}

-- The sides after the register values of both rings were written and their blocks lent.
abbrev pub laid : (ring size other : ℕ) → Sides → Sides
laid ring size other p = laid_with Tx other size (laid_with Rx ring size p)

may_lay : (ring size : ℕ) → IsSized ring size → 16 * size % 128 ≡ 0 → (p : Sides) (dir : Dir)
    → (p.side dir).wanted ≡ false → AllMay (ring_words dir ring size) p
may_lay ring size is even p dir off = grind (arith, common_steps)

-- Lemmas about one sequence of accesses followed by another.

may_append : (xs ys : List Access) (p : Sides) → AllMay xs p → AllMay ys (after_accesses xs p) → AllMay (xs ++ ys) p
may_append [] ys p may more = more
may_append (x ∷ xs) ys p may more = (may.0, may_append xs ys (after_access x p) may.1 more)

after-append : (xs ys : List Access) (p : Sides) → after_accesses (xs ++ ys) p ≡ after_accesses ys (after_accesses xs p)
after-append [] ys p = refl
after-append (x ∷ xs) ys p = after-append xs ys (after_access x p)

-- Lemmas: polls that read a side as off change nothing.

may_miss : (row : RowId) (on : Bool) → IsEnable row → (n : ℕ) (p : Sides) → AllMay (replicate n (Sees row on)) p
may_miss row on is zero p = tt
may_miss row on is (suc n) p = (is, may_miss row on is n (seen_by row on p))

not_seen : (dir d : Dir) (x : Side) → side_seen d (enable_row dir) false x ≡ x
not_seen dir d x = grind (arith, common_steps)

missed_same : (dir : Dir) (n : ℕ) (p : Sides) → after_accesses (missed dir true n) p ≡ p
missed_same dir zero p = refl
missed_same dir (suc n) p = grind (arith, common_steps, not_seen, missed_same dir n (seen_by (enable_row dir) false p))

-- The ring of each side.
abbrev ring_at : Dir → (ring other : ℕ) → ℕ
ring_at Rx ring other = ring
ring_at Tx ring other = other

abbrev pub came_up : (ring size other : ℕ) → Sides → Sides
came_up ring size other p = record {
  side = λ dir. fresh_side dir (ring_at dir ring other) size true true (p.side dir);
  rings = (laid ring size other p).rings;
}

abbrev pub switching : (polls more : ℕ) → List Access
switching polls more = receive_polled true polls ++ polled Tx true more

module _ (ring size other : ℕ) (one : IsSized ring size) (two : IsSized other size) (p : Sides)
    (off : ((p.side Rx).wanted ≡ false) × ((p.side Tx).wanted ≡ false)) where
  -- The enable requests for both sides.

  abbrev asked_on : Sides
  asked_on = after_access (Sets Txdctl 0x2000000) (after_access (Sets Rxdctl 0x2000000) (laid ring size other p))

  polls_may : (polls more : ℕ)
      → AllMay ((missed Rx true polls ++ Sees Rxdctl true ∷ []) ++ polled Tx true more) asked_on
  polls_may polls more = grind (arith, common_steps, may_append, missed, may_miss)

  pub may_switch : (polls more : ℕ) → AllMay (switching polls more) (laid ring size other p)
  may_switch polls more = grind (arith, common_steps, polls_may)

  polls_end : (polls more : ℕ)
      → after_accesses ((missed Rx true polls ++ Sees Rxdctl true ∷ []) ++ polled Tx true more) asked_on
      ≡ seen_by Txdctl true (seen_by Rxdctl true asked_on)
  polls_end polls more = search (rules, after-append, after_accesses, seen_by, missed_same)

  pub comes_up : (polls more : ℕ) → after_accesses (switching polls more) (laid ring size other p)
      ≡ came_up ring size other p
  comes_up polls more = grind (arith, common_steps, polls_end)

pub fresh_receive_agrees : FreshReceiveAgrees
fresh_receive_agrees queue s y on wanted port tail ring size most sized names empty x =
    search (rules, fresh_agrees)

-- The maximum length of a driver's packets.
few_bytes : (frame : ℕ) → is_frame frame ≡ true → packet_limit frame ≤ 10240
few_bytes frame is = grind (arith, common_steps)

pub fresh_transmit_agrees : FreshTransmitAgrees
fresh_transmit_agrees queue s y on wanted port tail ring size frame small sound sized names is limit empty x =
    let same = x.same in
    let lent : (b : ℕ) → IsZero s.memory b → has_block s.memory b ≡ true = λ b is. rw is refl in (
      0,
      record {
        based = grind (arith, common_steps, few_bytes);
        set_up = grind (arith, common_steps, first_place);
        counted = grind (arith, common_steps);
        shows = search (rules, lent);
        sends = inl (record { packets = ap (λ (q : Side). q.staged) same; in_order = refl });
      },
    )

-- Lemmas about the numbers of slots that a driver's ring may have.

pub sized : (size : ℕ) → is_size size ≡ true → (0 < size) × (size ≤ 1024) × (16 * size % 128 ≡ 0)
sized size is = grind (arith, common_steps)

-- If a pass lends the blocks of a ring with a permitted size, these blocks can exist.
sized_ring : (pass : ℕ) (h : List Entry) (size ring : ℕ) → is_size size ≡ true
    → EachRingBlock ring size (λ n. IsLentBy pass n h) → IsSized ring size
sized_ring pass h size ring is lent = grind (arith, common_steps)

-- Both rings came up, one after the other, and then both sides were enabled.
abbrev pub are_on : {q : AtPort} {size frame : ℕ} {old one two new : List Call} {a b c : Numbers} {v : Receive}
    {t : Sender} → is_size size ≡ true → is_frame frame ≡ true → IsReceiveReady q size frame old a one b v
    → IsTransmitReady q size frame one b two c t → IsSwitched q two new true 1000 → AreOn q size frame old a new v t
are_on sized framed receive transmit switched = search rules

module _ {w : Watched} {origin : State} {h : List Entry} {q : AtPort} {size frame : ℕ} {old : List Call} {a : Numbers}
    {new : List Call} {v : Receive} {t : Sender} (up : AreOn q size frame old a new v t)
    (along : IsAlong w origin h) (well : BeforeLast w origin h up.receive.quiet.0 (HasGround w.queue q frame))
  where
    abbrev ring : ℕ
    ring = up.receive.ring

    abbrev other : ℕ
    other = up.transmit.ring

    abbrev Unused : List Entry → Type 0
    Unused = AreUnused w.queue origin

    abbrev Known : Sides → Type 0
    Known p = IsTrue (are_off p)

    -- At this point, the pass has made some calls.

    mid_some : up.receive.mid ≢ []
    mid_some =
        let (mid, first, more) = up.receive.quiet in
        some_made q (Sets Rxdctl 0 ∷ Sees Rxdctl false ∷ quiet Tx) mid up.receive.mid more
        (made_some q old mid (Sees Rxdctl false) first)

    pub on_some : new ≢ []
    on_some =
        some_made q (switching up.switched.0 up.switched.1) up.both_made new up.switched.3
        (stays_some (IsPlain q) up.ready_made up.both_made (prepared_plain up.transmit.prepared)
        (stays_some (IsPlain q) up.receive.mid up.ready_made (prepared_plain up.receive.prepared) mid_some))

    abbrev Reaches : List Call → (Sides → Sides) → Type 0
    Reaches = At q frame along Known Unused (unused_kept w origin)

    -- When the receive side has read as off, both sides are off with no enable request pending, and at rest.
    quiet_at : Reaches up.receive.mid (λ p. p)
    quiet_at =
        let off = quieting_leads w q frame origin h old up.receive.mid along up.receive.quiet well in (
          (λ done rest all calls.
              let quiet = off done rest all calls in
              let (p, known, x) = quiet_sides_stand w q frame origin h up.receive.mid along off done rest all calls in
              (grind (arith, common_steps, both_ways))),
          mid_some,
        )

    -- Lemmas: at each point where the pass has made these calls, it has lent the blocks of both rings.

    on_has : (number : ℕ) → Has (lending number) up.both_made → Has (lending number) new
    on_has number has = search (rules, has_more, lending, extends, switching)

    pub ring_lent : AtEntries w h new (λ done. EachRingBlock ring size (λ n. IsLentBy w.pass n h))
    ring_lent done rest all calls k below =
        let plain = prepared_plain up.transmit.prepared in
        lent_along (ring + k) new along
        (search (rules, on_has, has_more, plain, prepared_has up.receive.prepared k below)) done rest all calls

    pub other_lent : AtEntries w h new (λ done. EachRingBlock other size (λ n. IsLentBy w.pass n h))
    other_lent done rest all calls k below = search (rules, lent_along, on_has, prepared_has)

    off : (p : Sides) → Known p → ((p.side Rx).wanted ≡ false) × ((p.side Tx).wanted ≡ false)
    off p known = grind (arith, common_steps)

    -- At each point where the pass has made these calls, both rings are up and both sides are enabled.
    up_at :
        AtEntries w h new
        (λ done.
        (p : Sides) × Point w.queue (lent_by w.pass h) q frame (came_up ring size other p) (leads_to origin done)
        × Unused done)
    up_at done rest all calls =
        let one = ring_lent done rest all calls in
        let two = other_lent done rest all calls in
        let fits_one = sized_ring w.pass h size ring up.sized one in
        let fits_two = sized_ring w.pass h size other up.sized two in
        let even = (sized size up.sized).2 in
        let ready : Reaches up.ready_made (laid_with Rx ring size) =
        prepared_at q frame along Known Unused (unused_kept w origin) (λ p. p) up.receive.prepared
        (λ p known. may_lay ring size fits_one even p Rx (off p known).0) one quiet_at in
        let both : Reaches up.both_made (laid ring size other) =
        prepared_at q frame along Known Unused (unused_kept w origin) (laid_with Rx ring size) up.transmit.prepared
        (λ p known. may_lay other size fits_two even (laid_with Rx ring size p) Tx (off p known).1) two ready in
        let on = accesses_at q frame along Known Unused (unused_kept w origin)
        (switching up.switched.0 up.switched.1) (laid ring size other) up.both_made new
        (λ p known. may_switch ring size other fits_one fits_two p (off p known) up.switched.0 up.switched.1)
        up.switched.3 both in
        let (p, known, x, unused) = on.0 done rest all calls in (
          p,
          rw (comes_up ring size other fits_one fits_two p (off p known) up.switched.0 up.switched.1) at x,
          unused,
        )

    -- At this point, the sides are fresh, so the device and the driver agree.
    pub agrees_at : AtCalls w origin h new (λ s. Agree w.queue s [] v × Agrees s w.queue [] t)
    agrees_at done rest all calls =
        let s = leads_to origin done in
        let (p, x, unused) = up_at done rest all calls in
        let one = sized_ring w.pass h size ring up.sized (ring_lent done rest all calls) in
        let two = sized_ring w.pass h size other up.sized (other_lent done rest all calls) in
        let zeros = x.stand.zero in
        let names = ground_names w.queue q frame s x.ground in (
          rw up.receive.fresh
              (fresh_receive_agrees w.queue s (p.side Rx) true true q.port up.receive.tail ring size (most_blocks frame)
              one (assumption (names Rdt up.receive.tail refl up.receive.named))
              (grind (arith, common_steps, stays_in, other, ring, ring_in)) (x.stand.side Rx)),
          rw up.transmit.fresh
              (fresh_transmit_agrees w.queue s (p.side Tx) true true q.port up.transmit.tail other size frame
              along.small (sound_at along done rest all) two (names Tdt up.transmit.tail refl up.transmit.named)
              up.framed x.ground.limit (λ k below. zeros _ (ring_in other size _ k below)) (x.stand.side Tx)),
        )

    -- Nothing was received or sent on the sides since they were enabled.
    pub goes_on_at : AtEntries w h new (WentOn w.queue origin)
    goes_on_at done rest all calls =
        let (p, x, unused) = up_at done rest all calls in
        let receives = (x.stand.side Rx).seen refl in
        let sends = (x.stand.side Tx).seen refl in
        let wanted = λ (dir : Dir). ap (λ (k : Side). k.wanted) (x.stand.side dir).same in
        assumption (unused.receive receives, unused.transmit sends, wanted Rx, wanted Tx)

    -- At this point, port and queue number identify this queue, and the device's frame limit is the driver's packet
    -- limit.
    pub ground_at : AtCalls w origin h new (HasGround w.queue q frame)
    ground_at done rest all calls = let (p, x, unused) = up_at done rest all calls in x.ground

pub switched_sides_agree : SwitchedSidesAgree
switched_sides_agree w origin h q size frame old a new v t = agrees_at

pub switched_sides_go_on : SwitchedSidesGoOn
switched_sides_go_on w origin h q size frame old a new v t = goes_on_at

pub switched_sides_begin_none : SwitchedSidesBeginNone
switched_sides_begin_none w origin h q size frame old a new v t up along well done rest all calls =
    let (p, x, unused) = up_at up along well done rest all calls in x.stand.begun

-- Lemmas: after a start, the device and the driver agree on both sides.

module _ {w : Watched} {origin : State} {h : List Entry} {q : AtPort} {size frame : ℕ} {old : List Call} {a : Numbers}
    {new : List Call} {r : Running} (up : AreUp q size frame old a new r) (along : IsAlong w origin h)
    (well : BeginsWell w origin h q size frame old a new r up)
  where
    -- Lemmas: both sides are on before the receive ring is filled.

    abbrev pub on : AreOn q size frame old a up.on.mid up.empty r.transmit
    on = are_on up.sized up.framed up.receive up.transmit up.on.switched

pub start_agrees : StartAgrees
start_agrees w origin h q size frame old a new r up along well = agrees_at (on up along well) along well.ground

pub start_goes_on : StartGoesOn
start_goes_on w origin h q size frame old a new r up along well = goes_on_at (on up along well) along well.ground
