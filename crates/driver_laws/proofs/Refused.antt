-- Lemmas: the calls of a start lay out an empty transmit ring step by step, and the calls alongside them lay out no
-- more of it. The same is true of the calls of a refused start, up to the point where it failed, and of the stop after
-- it. Therefore nothing is sent on the queue.
use Rattle.driver_laws.proofs.{Healthy.drive_same, Laid.laid_queue_is_silent, CallKinds.each_such}
use Rattle.driver_laws.specs.StartPrelude.{drive}
use Rattle.driver_laws.specs.{Laid.Lays, Laid.LaysOn, StartPrelude.Rdt, StartPrelude.StartRefused}
use Rattle.driver_laws.specs.{StartPrelude.StopsStarting}
use Rattle.pmd_driver.specs.{Life.ComesDown, Life.NeverLived, PmdRx.Plays.AllOwn, PmdRx.Plays.OthersStep}
use Rattle.pmd_driver.specs.{PmdRx.Receive.at_start, Started.IsHalfStarted, Started.IsLeftWith, Started.is_size}
use Rattle.pmd_driver.specs.{Started.start_gate, Starting.GoingOnFails}
use Rattle.driver_laws.proofs.Laying.{LaysTo, Steps, StepsOn, prepared_lays, preparing_lays, receive_fails}
use Rattle.driver_laws.proofs.Laying.{receive_ready, stay, switched_lays, then_lays, then_some, unswitched_lay}
use Rattle.driver_laws.proofs.Prelude.{AreSteps, AtPort, Block, Blocks, Bool, Call, Course, Each, Entry, Event, Halted}
use Rattle.driver_laws.proofs.Prelude.{IsAlong, IsEnding, IsNumberOf, IsQuiet, List, None, Numbers, Option, PmdFault}
use Rattle.driver_laws.proofs.Prelude.{Receive, Reply, Rest, Some, State, Tx, [], and_parts, append-nil}
use Rattle.driver_laws.proofs.Prelude.{append_cancel_left, arith, bytes_of, call_in, calls_joined, calls_of, calls_own}
use Rattle.driver_laws.proofs.Prelude.{common_steps, delivered, eq-eqb, false, inl, inr, last, leads_to, left}
use Rattle.driver_laws.proofs.Prelude.{left_accepted, left_handed, most_blocks, named, none_made, refl, rules, sent_in}
use Rattle.driver_laws.proofs.Prelude.{sent_is_counted, sent_since, subst, sym, true, ℕ, ◌++◌, ◌∙◌, ◌∷◌, ◌≡◌}
use Rattle.driver_laws.{proofs.StopCalls.stopped_ends, specs.Prelude.Empty, specs.Prelude.Laid, specs.Prelude.Off}
use Rattle.ring_laws.specs.Delivered as receive
use Rattle.ring_laws.specs.Laws as transmit

module _ (q : AtPort) where
  first_lays : (l last : Laid) (cs ds : List Call) → LaysOn q l (cs ++ ds) last → (m : Laid) × LaysOn q l cs m
  first_lays l last [] ds lays = (l, refl)
  first_lays l last (c ∷ cs) ds (k, here, more) = let (m, front) = first_lays k last cs ds more in (m, (k, here, front))

  -- Device steps lay nothing out.
  lays_after : (l m : Laid) (steps cs : List Call) → AreSteps steps → LaysOn q l (steps ++ cs) m → LaysOn q l cs m
  lays_after l last [] cs are lays = lays
  lays_after l last (c ∷ steps) cs are (k, here, more) = lays_after l last steps cs are.1
      (subst (λ (m : Laid). LaysOn q m (steps ++ cs) last) (grind (arith, common_steps)) more)

-- All blocks.
abbrev any_block : Blocks
any_block n = true

module _ (q : AtPort) (size : ℕ) where
  abbrev LaysSo : Laid → List Call → List Call → Laid → Type 0
  LaysSo = LaysTo q size any_block

  abbrev Stays : Laid → Event Block → Type 0
  Stays l e = Lays q l e l

  any_stays : (l : Laid) (e : Event Block) → Stays l e → (r : Reply Block) → Steps q size any_block l e r l
  any_stays l e is r = grind (arith, common_steps)

  -- Lemmas: the calls lay out the ring, if a ring may have this size.

  all_lay : is_size size ≡ true → (l m : Laid) (cs : List Call) → StepsOn q size any_block l cs m → LaysOn q l cs m
  all_lay sized l last [] is = is
  all_lay sized l last (c ∷ cs) (m, here, more) =
      (m, grind (arith, common_steps), all_lay sized m last cs more)

  -- Lemmas about the calls that fill a receive ring, whose tail is the queue's RDT.

  all_stay : (l : Laid) (v : Receive) (marks : List Bool) (calls : List Call) → AllOwn v marks calls
      → OthersStep marks calls → (v.layout.port ≡ q.port) × IsNumberOf q.port Rdt q.queue v.layout.tail
      → Each (λ c. (r : Reply Block) → Steps q size any_block l c.event r l) calls
  all_stay l v [] [] own others at = tt
  all_stay l v (true ∷ marks) (c ∷ cs) own others at =
      let same = drive_same v c.event c.reply in
      let there = subst (λ n. IsNumberOf q.port Rdt q.queue n) (sym same.1) at.1 in
      let next = all_stay l (drive v c.event c.reply) marks cs own.1 others.1 (same.0 ∙ at.0, there) in
      (any_stays l c.event (grind (arith, common_steps)), next)
  all_stay l v (false ∷ marks) (c ∷ cs) own others at =
      let step = others.0 refl in
      (any_stays l c.event (grind (arith, common_steps)), all_stay l v marks cs own.1 others.1 at)
  all_stay l v marks calls own others at = absurd own

  -- Lemmas about a start that enables both sides and then fills the receive ring.
  going_on_fails : (f : PmdFault) {old : List Call} (a : Numbers) (tail ring most : ℕ) {new : List Call} (b : Numbers)
      (w : Receive) → IsNumberOf q.port Rdt q.queue tail
      → GoingOnFails f q old a (at_start q.port tail ring size most) new b w → LaysSo Empty old new Empty
  going_on_fails f a tail ring most b w named (inl (fails, same, is)) = unswitched_lay q size any_block f fails
  going_on_fails f a tail ring most b w named (inr (mid, switched, stops)) =
      let (marks, since, is, own, then, others) = stops.made.plays in
      then_lays q size any_block (switched_lays q size any_block switched)
      (stay q size any_block
      (since, is, all_stay Empty (at_start q.port tail ring size most) marks since own others (refl, named)))

  -- Lemmas: the calls of a driver whose start was refused lay out an empty transmit ring to some extent, up to the end
  -- of the stop. So the driver sent nothing on its queue.

  -- The calls of a start that was refused after its first event lay out the ring to some extent.
  starting_lays : {frame : ℕ} {old : List Call} {a : Numbers} {new : List Call} {e : StartRefused}
      → StopsStarting q size frame old a new e → (last : Laid) × LaysSo Off old new last
  starting_lays {e = e} (inl x) = receive_fails q size any_block e.fault x.out (λ n is. refl) x.fails
  starting_lays {e = e} (inr (inl x)) =
      then_some q size any_block (receive_ready q size any_block x.receive (λ n is. refl))
      (preparing_lays q size any_block e.fault Tx x.out (λ n is. refl) x.fails)
  starting_lays {frame = frame} {e = e} (inr (inr x)) =
      let fails = rw x.receive.fresh at x.fails in
      let goes = going_on_fails e.fault x.both_arena x.receive.tail x.receive.ring (most_blocks frame) x.arena x.filled
      x.receive.named fails in
      let both = then_lays q size any_block
      (prepared_lays q size any_block {side = Tx} (λ n is. refl) x.transmit.prepared) goes in
      (Empty, then_lays q size any_block (receive_ready q size any_block x.receive (λ n is. refl)) both)

  -- Lemmas about the stop of the driver that a refused start returned.

  half_lays : {l : Laid} (h : Halted) (r : Rest) (old new : List Call) (left : Rest) → IsHalfStarted q h r
      → ComesDown old r new left → LaysSo l old new l
  half_lays {l = l} h r old new left is down =
      let (late, stopped) = subst (λ (x : Rest). ComesDown old x new left) is down in
      let (calls, made, are) = stopped_ends q old h new left late stopped in
      let each = each_such (IsEnding q) (λ e. (r : Reply Block) → Steps q size any_block l e r l)
      (λ e ends. any_stays l e (grind (arith, common_steps, named))) calls are in
      stay q size any_block (calls, made, each)

  left_lays : {l : Laid} (a : Numbers) (out : List ℕ) (r : Rest) (old new : List Call) (left : Rest)
      → IsLeftWith q a out r → ComesDown old r new left → LaysSo l old new l
  left_lays a [] r old new left is down = grind (arith, common_steps, stay, none_made)
  left_lays a (n ∷ ns) r old new left is down = half_lays _ r old new left is down

  stopping_lays : {l : Laid} {frame : ℕ} {old : List Call} {a : Numbers} (made : List Call) (e : StartRefused)
      (new : List Call) (left : Rest) → StopsStarting q size frame old a made e → ComesDown made e.rest new left
      → LaysSo l made new l
  stopping_lays made e new left stops down = search (rules, left_lays, half_lays)

module _ (q : AtPort) (size frame : ℕ) (old : List Call) (a : Numbers) (e : StartRefused) (new : List Call)
    (left : Rest) (x : NeverLived q size frame old a e new left) where
  -- The calls lay out the ring to some extent, whatever the start was refused for.
  by_gate : (g : Option PmdFault) → start_gate a q size frame ≡ g
      → (cs : List Call) × (last : Laid) × (new ≡ old ++ cs) × LaysOn q Off cs last
  by_gate None is =
      let stops = x.stops is in
      let sized : is_size size ≡ true = grind (arith, common_steps, and_parts) in
      let (last, so_far) = starting_lays q size stops in
      let all = then_lays q size any_block so_far (stopping_lays q size x.made e new left stops x.down) in
      (all.calls, last, all.made, all_lay q size sized Off last all.calls all.steps)
  by_gate (Some f) is = ([], Off, grind (arith, common_steps, append-nil), refl)

-- If the concatenation of two lists is empty, so is the second list.
none_first : (xs ys : List (List ℕ)) → xs ++ ys ≡ [] → ys ≡ []
none_first [] ys is = is
none_first (x ∷ xs) ys is = cc

-- Lemmas about a history that ends at some point during the start, or during the stop of the driver that the start
-- returned.
module _ (c : Course) {e : StartRefused} {new : List Call} {left : Rest}
    (never : NeverLived c.q c.size c.frame c.old c.a e new left) (along : IsAlong c.w c.origin c.h)
    (before following : List Entry) (first : Entry) (split : before ++ first ∷ following ≡ c.h)
    (own : first.pass ≡ c.w.pass)
    (steps : List Call) (stepped : AreSteps steps) (ahead : calls_of c.w.pass before ≡ c.old ++ steps)
    (quiet : IsQuiet c.w.queue c.q c.frame (leads_to c.origin before)) (since rest : List Call)
    (all : new ≡ (c.old ++ since) ++ rest) (made : calls_of c.w.pass c.h ≡ c.old ++ since) where
  open c use {w, origin, q, old}

  abbrev calls : List Call
  calls = call_in first ∷ calls_of w.pass following

  -- The start's calls so far, beginning with its first event, lay out the ring to some extent.
  lays : (last : Laid) × LaysOn q Off calls last
  lays =
      let (cs, last, is, laid) = by_gate q c.size c.frame old c.a e new left never _ refl in
      let both : cs ≡ steps ++ (calls ++ rest) = append_cancel_left old cs (steps ++ (calls ++ rest))
      (grind (arith, common_steps, calls_joined, calls_own, eq-eqb, calls)) in
      first_lays q Off last calls rest (lays_after q Off last steps (calls ++ rest) stepped (rw (← both) laid))

  abbrev start : State
  start = leads_to origin before

  abbrev es : List Entry
  es = first ∷ following

  pub sends_nothing : sent_in w.queue start es ≡ []
  sends_nothing =
      laid_queue_is_silent w q c.frame origin c.h before following first lays.0 along split own quiet.ground
      quiet.transmit
      lays.1

  pub left_in_order : receive.IsPrefixOf (left_handed left) (delivered w.queue start es)
      × transmit.IsPrefixOf (sent_since w.queue start [] es) (bytes_of (left_accepted left))
  left_in_order =
      let (front, is) = sent_is_counted.end w.queue start [] es in
      let none = none_first front (sent_since w.queue start [] es) (sym is ∙ sends_nothing) in
      rw (never.handed, never.accepted, none) ((delivered w.queue start es, refl), ([], refl))
