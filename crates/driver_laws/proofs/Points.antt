-- Lemmas: two sides stay at rest over every event that leaves the queue alone, and over a driver's accesses. Other
-- lemmas are about the state of the sides after a sequence of accesses, over a history.
use Rattle.driver_laws.proofs.Ground.{driven, each_side, ground_names, ground_same, plain_keeps, side_driven}
use Rattle.driver_laws.proofs.StartPrelude.{AtEntries, IsAlong, IsIdle, IsMet, IsPlain, IsZero, Point, Sides, Stands}
use Rattle.driver_laws.proofs.StartPrelude.{across}
use Rattle.driver_laws.proofs.StartPrelude.{after_access, after_accesses, and_one, begun_stays, idle_silent}
use Rattle.driver_laws.proofs.StartPrelude.{idle_steady}
use Rattle.driver_laws.proofs.StartPrelude.{left_deed, left_did, lent_cases, queues_left, read_rest, seen_by}
use Rattle.driver_laws.proofs.StartPrelude.{sent_is_counted, side_with, since-append, steady_kept, step_of, reported_on}
use Rattle.driver_laws.proofs.Reached.{AddsCall, KeptOver, OfCall, added_before, added_leads, made_by, reached_next}
use Rattle.driver_laws.proofs.CallKinds.{IsLentBy, and_all, lending}
use Rattle.driver_laws.proofs.{Ground.words_taken, Parts.ends_some, StartPrelude.AllMay, StartPrelude.AreUnused}
use Rattle.driver_laws.specs.StartPrelude.{Access, AreMade, AtPort, Block, Blocks, Call, Dir, EachRingBlock, Entry}
use Rattle.driver_laws.specs.StartPrelude.{Event}
use Rattle.driver_laws.specs.StartPrelude.{IsEvent, IsPrepared, LendsEach, Memory, Numbers, Rx, Rxdctl, Sees, Sets}
use Rattle.driver_laws.specs.StartPrelude.{Side}
use Rattle.driver_laws.specs.StartPrelude.{State, Tx, Txdctl, Watched, after, blocks_for, enable_row, leads_to, lent_by}
use Rattle.driver_laws.specs.StartPrelude.{pieces, reply_to, ring_blocks, ring_words, sent_by, side_of, zero_block}
use Rattle.driver_laws.specs.Standing.{IsLeft, StandingSidesAreLeft}
use Rattle.driver_laws.specs.{Moves.LendStands, Moves.ReadStands, Moves.WriteStands, Points.AccessesLead, Points.May}
use Rattle.pmd_driver.proofs.NicDevice.DmaArena.Bus.{get-insert_other, get-insert_same}
use Rattle.ring_laws.{proofs.Lent.not_so, specs.Left.IsSilent as RestsSilent}
use Rattle.std.proofs.Common.{Bool, List, [], ap, arith, false, refl, rules, subst, suc, sym, zero, ℕ, ◌++◌, ◌+◌, ◌<◌}
use Rattle.std.proofs.{Common.◌∙◌, Common.◌∷◌, Common.◌≡◌, Common.◌≢◌, lemmas.Bool.eqb-false, lemmas.Bool.eqb-true}
use Rattle.std.specs.Prelude.{IsTrue, ⊤}
use Rattle.std.{proofs.lemmas.Bool.or_cases, proofs.lemmas.Grind.common_steps, specs.List.range_with_len}
use Rattle.std.specs.FinMap as map
use Rattle.pmd_driver.specs.NicDevice.declared.event.Event.TheVariants as event

-- An event that leaves the queue alone preserves each property that a side keeps while it is idle, and the event
-- receives and sends nothing on the side.
pub idle_left : (dir : Dir) (P : Side → Type 0) → IsIdle P → (w : Watched) (mine : Blocks) (s : State) (e : Event Block)
    → IsLeft w mine s e → P (side_of dir w.queue s) → P (side_of dir w.queue (after s e)) × RestsSilent dir w.queue s e
idle_left dir P is w mine s e left p =
    let did = left_deed dir w mine s e left in
    (steady_kept dir w.queue s e P p (idle_steady P is) did, idle_silent dir w.queue s e P p is did)

pub standing_sides_are_left : StandingSidesAreLeft
standing_sides_are_left w mine rings s e sides left covers stand =
    let did = left_did w mine s e left in
    let on = λ (dir : Dir).
    idle_left dir (λ x. Stands x (sides dir)) (grind (arith, common_steps)) w mine s e left (stand.side dir) in
    let zero = λ (b : ℕ) (is : IsTrue (rings b)). did.blocks (on Rx).1 (on Tx).1 b (covers b is) ∙ stand.zero b is in
    let begun = begun_stays w.queue s left.sound stand.begun e (on Rx).1 in
    assumption (λ (dir : Dir). (on dir).0, begun, zero, (on Rx).1, (on Tx).1)

-- Lemmas about a write of a value to a register of one of the sides.

pub write_stands : (dir : Dir) → WriteStands dir
write_stands dir queue s sides rings port n word row met stand unwanted fits goes names =
    let x = stand.side dir in
    let t : State = after s (event.Write port n word) in
    let off = not_so (side_of dir queue s).on (sides dir).wanted x.wanted unwanted in
    let taken = words_taken dir queue s port n word row met.small met.sound off fits names in
    -- A side that is off stays at rest: the value changes neither whether it is on nor what it has staged.
    let same : side_of dir queue t ≡ side_with dir row word (record (sides dir) { on = false; staged = [] }) =
    let is = x.same in cc (taken.side) in
    let own : Stands (side_of dir queue t) (side_with dir row word (sides dir)) = grind (arith, same, not_so, goes) in
    let other : Stands (side_of (across dir) queue t) (side_with (across dir) row word (sides (across dir))) =
    rw taken.other (subst (Stands _) ((driven dir row word fits).1 (sides (across dir))) (stand.side (across dir))) in
    record {
      side = λ d. grind (arith, own, other);
      begun = begun_stays queue s met.sound stand.begun (event.Write port n word) refl;
      zero = λ b is. ap (λ (m : Memory). map.get m b) taken.ground.memory ∙ stand.zero b is;
    }

-- Lemmas about a read of an enable word.

pub read_stands : (dir : Dir) → ReadStands dir
read_stands dir queue s sides rings port n word stand names reported =
    grind (arith, common_steps, queues_left, reported_on, read_rest s port n)

-- Lemmas about a zero-filled block that is lent.

zero_in : (m : Memory) (ring b : ℕ) (rings : Blocks) → ((c : ℕ) → IsTrue (rings c) → IsZero m c)
    → IsTrue (and_one ring rings b) → IsZero (map.insert m ring (zero_block ring).bytes) b
zero_in m ring b rings zeros is =
    grind (arith, common_steps, eqb-true, get-insert_same, or_cases, eqb-false, get-insert_other)

pub lend_stands : LendStands
unfolding step_of
lend_stands queue s sides rings ring stand = search (rules, lent_cases, and_one, each_side, zero_in)

-- Lemmas about the state of the sides after a driver's accesses.

-- Each entry that receives and sends nothing preserves this property.
abbrev pub IdleKeeps : Watched → State → (List Entry → Type 0) → Type 0
IdleKeeps w origin N =
    (done : List Entry) (e : Entry) → pieces w.queue (leads_to origin done) e.event ≡ []
    → sent_by w.queue (leads_to origin done) e.event ≡ [] → N done → N (done ++ e ∷ [])

pub unused_kept : (w : Watched) (origin : State) → IdleKeeps w origin (AreUnused w.queue origin)
unused_kept w origin done e received sent unused =
    grind (arith, common_steps, reached_next, since-append, sent_is_counted)

-- Lemmas about lending the blocks of a ring.

abbrev pub with_all : List ℕ → Sides → Sides
with_all ns p = record p { rings = and_all ns p.rings }

-- The sides after the register values of one side's ring were written and the ring's blocks were lent.
abbrev pub laid_with : Dir → (ring size : ℕ) → Sides → Sides
laid_with dir ring size p = with_all (ring_blocks ring size) (after_accesses (ring_words dir ring size) p)

-- Lemmas about an access, and about accesses in sequence, that begin with sides in a known state (`C`). They also carry
-- along a property of the entries so far (`N`) that each entry preserves if it receives and sends nothing.
module _ {w : Watched} {origin : State} {h : List Entry} (q : AtPort) (frame : ℕ) (along : IsAlong w origin h)
    (C : Sides → Type 0) (N : List Entry → Type 0) (idle : IdleKeeps w origin N) where
  abbrev Standing : Sides → State → Type 0
  Standing = Point w.queue (lent_by w.pass h) q frame

  -- The call leads the sides from the first state to the second, and receives and sends nothing.
  abbrev Goes : (Sides → Sides) → (Sides → Sides) → Call → Type 0
  Goes F G c =
      (p : Sides) → C p → (s : State) → IsMet w.queue s → IsEvent c.event → c.reply ≡ reply_to s c.event
      → Standing (F p) s
      → Standing (G p) (after s c.event) × (pieces w.queue s c.event ≡ []) × (sent_by w.queue s c.event ≡ [])

  -- A read of an enable word leads the sides to the state that the value read implies.
  seen_goes : (dir : Dir) (F : Sides → Sides) (on : Bool)
      → OfCall q (Sees (enable_row dir) on) (Goes F (λ p. seen_by (enable_row dir) on (F p)))
  seen_goes dir F on number word named is p known s met made reported x =
      let names = ground_names w.queue q frame s x.ground (enable_row dir) number (side_driven dir) named in
      let ground = plain_keeps w.queue q frame s (event.Read q.port number) tt x.ground in
      let stand = read_stands dir w.queue s (F p).side (F p).rings q.port number word x.stand names (sym reported) in
      rw (← is) (assumption (stand, ground), refl, refl)

  -- An access (a read or a write) leads the sides from one state to the next.
  access_goes : (a : Access) (F : Sides → Sides) → ((p : Sides) → C p → May a (F p))
      → OfCall q a (Goes F (λ p. after_access a (F p)))
  access_goes (Sees Rxdctl on) F may = seen_goes Rx F on
  access_goes (Sees Txdctl on) F may = seen_goes Tx F on
  access_goes (Sees other on) F may = λ number word named is p known. absurd (may p known)
  access_goes (Sets row word) F may = λ number named p known s met made reported x.
      let (dir, may) = may p known in
      let own = (driven dir row word may.fits).0 in
      let plain : IsPlain q (event.Write q.port number word) = (row, refl, own, named) in
      let ground = plain_keeps w.queue q frame s (event.Write q.port number word) plain x.ground in
      let stand = write_stands dir w.queue s (F p).side (F p).rings q.port number word row met x.stand may.unwanted
      may.fits may.goes (ground_names w.queue q frame s x.ground row number own named) in
      (assumption (stand, ground), refl, refl)

  -- Lending a ring's block leads the sides from one state to the next.
  lend_goes : (F : Sides → Sides) (ring : ℕ) → IsLentBy w.pass ring h
      → Goes F (λ p. with_all (ring ∷ []) (F p)) (lending ring)
  lend_goes F ring own p known s met made reported x =
      let there : Standing (with_all (ring ∷ []) (F p)) (after s (event.Lend (zero_block ring))) = record {
        stand = lend_stands w.queue s (F p).side (F p).rings ring x.stand (sym reported);
        ground = plain_keeps w.queue q frame s (event.Lend (zero_block ring)) tt x.ground;
        covers = λ n one. grind (arith, or_cases, eqb-true, x.covers n, own.mine);
        low = λ n one. grind (arith, or_cases, eqb-true, x.low n, own.low);
      } in (there, refl, refl)

  abbrev pub SomePoint : (Sides → Sides) → List Entry → Type 0
  SomePoint F done = (p : Sides) × C p × Standing (F p) (leads_to origin done) × N done

  -- The list of calls isn't empty, and at each point where the pass has made exactly these calls, the sides are in this
  -- state.
  abbrev pub At : List Call → (Sides → Sides) → Type 0
  At calls F = AtEntries w h calls (SomePoint F) × (calls ≢ [])

  some_kept : (F : Sides → Sides) → KeptOver w origin (lent_by w.pass h) (SomePoint F)
  some_kept F done e left (p, known, x, n) =
      let z = F p in
      let kept = standing_sides_are_left w _ z.rings (leads_to origin done) e.event z.side left x.covers x.stand in
      let there : Standing z (leads_to origin (done ++ e ∷ [])) = rw reached_next (search (rules, ground_same)) in
      (p, known, there, idle done e kept.received kept.sent n)

  -- If a call is added, the sides are in the second state after it, provided that they were in the first state before.
  added_at : (F G : Sides → Sides) (old new : List Call) → AddsCall (Goes F G) old new → At old F → At new G
  added_at F G old new a (at, some) =
      let next = added_leads along (SomePoint F) (SomePoint G) (some_kept G) old new a.call.event a.call.reply
      (λ done e same met made reported (p, known, x, n).
      let here = subst (Goes F G) (sym same) a.is p known (leads_to origin done) met made reported x in
      (p, known, subst (Standing (G p)) (sym (reached_next w origin done e)) here.0, idle done e here.1 here.2 n))
      (a.before, a.added, a.steps)
      (added_before along (SomePoint F) (some_kept F) old new _ _ (a.before, a.added, a.steps) some at) in
      (next, λ none. ends_some old a.before a.call (sym a.added ∙ none))

  pub accesses_at : (all : List Access) (F : Sides → Sides) (old new : List Call)
      → ((p : Sides) → C p → AllMay all (F p)) → AreMade q old new all → At old F
      → At new (λ p. after_accesses all (F p))
  accesses_at [] F old new may made at = subst (λ (calls : List Call). At calls F) (sym made) at
  accesses_at (a ∷ rest) F old new may (mid, here, more) at =
      let G = λ (p : Sides). after_access a (F p) in
      accesses_at rest G mid new (λ p known. (may p known).1) more
      (added_at F G old mid (made_by q (Goes F G) a (access_goes a F (λ p known. (may p known).0)) old mid here) at)

  -- After consecutive blocks were lent, the sides are in the state that these lends lead to.
  lends_at : (many first : ℕ) (F : Sides → Sides) (old new : List Call) → LendsEach old new (range_with_len first many)
      → ((k : ℕ) → k < many → IsLentBy w.pass (first + k) h) → At old F
      → At new (λ p. with_all (range_with_len first many) (F p))
  lends_at zero first F old new is lent at = subst (λ (calls : List Call). At calls F) (sym is) at
  lends_at (suc many) first F old new (mid, one, rest) lent at =
      let own : IsLentBy w.pass first h = subst (λ (n : ℕ). IsLentBy w.pass n h) (omega arith) (lent 0 (omega arith)) in
      let G = λ (p : Sides). with_all (first ∷ []) (F p) in
      let lends : AddsCall (Goes F G) old mid =
      record { before = one.0; call = lending first; added = one.1; steps = one.2; is = lend_goes F first own } in
      lends_at many (first + 1) G mid new rest
      (λ k below. subst (λ (n : ℕ). IsLentBy w.pass n h) (omega arith) (lent (suc k) (omega (arith, below))))
      (added_at F G old mid lends at)

  -- After a ring was prepared, its register values are written and its blocks are lent.
  pub prepared_at : {side : Dir} {size : ℕ} {old : List Call} {a : Numbers} {new : List Call} {b : Numbers} {ring : ℕ}
      (F : Sides → Sides) → IsPrepared q side size old a new b ring
      → ((p : Sides) → C p → AllMay (ring_words side ring size) (F p))
      → EachRingBlock ring size (λ n. IsLentBy w.pass n h) → At old F → At new (λ p. laid_with side ring size (F p))
  prepared_at {side = side} {size = size} {old = old} {new = new} {ring = ring} F x may lent at =
      lends_at (blocks_for size) ring (λ p. after_accesses (ring_words side ring size) (F p)) x.mid new x.lent lent
      (accesses_at (ring_words side ring size) F old x.mid may x.words at)

pub accesses_lead : AccessesLead
accesses_lead w q frame origin h known F all old new along may made some at done rest whole calls =
    let (p, is, x, n) = (accesses_at q frame along (λ p. IsTrue (known p)) (λ so_far. ⊤)
    (λ so_far e received sent n. tt) all F old new may made
    ((λ before following split there. let (z, so, y) = at before following split there in (z, so, y, tt)), some)).0
    done rest
    whole calls in (p, is, x)
