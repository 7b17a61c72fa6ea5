-- Lemmas: what a driver's calls report concerns only the calls that were added, so it also holds if other calls came
-- before. The same is true of the calls that drove the driver's halves, and of a start.
use Rattle.driver_laws.proofs.Prelude.{Access, Adds, AreMade, AreOn, AreUp, AtPort, Block, Bool, Call, DeviceFault, Dir}
use Rattle.driver_laws.proofs.Prelude.{DrivesRings, Event, FaultsEarly, IsMade, IsPrepared, IsReceiveReady, IsStrayRead}
use Rattle.driver_laws.proofs.Prelude.{IsSwitched, IsTransmitReady, LendsEach, List, Numbers, PlaysFrom, PollsEnd}
use Rattle.driver_laws.proofs.Prelude.{PreparingFails, Receive, ReceiveFails, Reply, RowId, Running, Rx, Rxdctl, Sees}
use Rattle.driver_laws.proofs.Prelude.{Sender, Sets, StopsBy, Tx, [], append-nil, append_cancel_left, arith, both_quiet}
use Rattle.driver_laws.proofs.Prelude.{common_steps, false, inl, inr, missed, named, place, polled, quiet}
use Rattle.driver_laws.proofs.Prelude.{receive_polled, refl, ring_words, rules, sym, true, ℕ, ◌++◌, ◌∙◌, ◌∷◌, ◌≡◌}
use Rattle.pmd_driver.specs.PmdAccess.Both.{SwitchFails, both_asked}
use Rattle.driver_laws.proofs.On.{are_on}

-- `new` is `old` followed by calls for which `R` holds whatever calls precede them.
pub record Shifts (R : List Call → List Call → Type 0) (old new : List Call) : Type 0 where
  pub since : List Call
  pub made : new ≡ old ++ since
  pub following : (front : List Call) → R front (front ++ since)

pub given : {R : List Call → List Call → Type 0} {old new : List Call} (since : List Call) → new ≡ old ++ since
    → ((front : List Call) → R front (front ++ since)) → Shifts R old new
given since made following = record { since = since; made = made; following = following }

pub mapped : {R S : List Call → List Call → Type 0} {old new : List Call} → Shifts R old new
    → ((a b : List Call) → R a b → S a b) → Shifts S old new
mapped x f = given x.since x.made (λ front. f front (front ++ x.since) (x.following front))

-- One such sequence of calls, followed by another, is such a sequence too.
pub joined : {R S T : List Call → List Call → Type 0} {old mid new : List Call} → Shifts R old mid → Shifts S mid new
    → ((a b c : List Call) → R a b → S b c → T a c) → Shifts T old new
joined {T = T} {old = old} x y join = grind (arith, common_steps)

-- A relation shifts if it never depends on the calls that came before.

abbrev pub Shift : (List Call → List Call → Type 0) → Type 0
Shift R = (old new : List Call) → R old new → Shifts R old new

none : Shift (λ o n. n ≡ o)
none old new is = given [] (is ∙ sym (append-nil old)) append-nil

pub then : {R S : List Call → List Call → Type 0} → Shift R → Shift S → Shift (λ o n. (m : List Call) × R o m × S m n)
then first second old new (mid, x, y) = grind (arith, common_steps, joined)

-- If a relation shifts, it holds for the same added calls after any other calls.
pub shifted : {R : List Call → List Call → Type 0} {old new : List Call} → Shifts R old new
    → (since front : List Call) → new ≡ old ++ since → R front (front ++ since)
shifted x since front made = search (rules, append_cancel_left)

-- Lemmas about a call, and about calls as each half reports them.

adds : (e : Event Block) (reply : Reply Block) → Shift (λ o n. Adds o n e reply)
adds e reply old new (before, made, steps) = grind (arith, common_steps)

plays : (a : Numbers) (v w : Receive) → Shift (λ o n. PlaysFrom a o v n w)
plays a v w old new x =
    let (marks, since, made, own, is, steps) = x.plays in
    given since made (λ front. record { plays = (marks, since, refl, own, is, steps); free = x.free })

pub rings : (r s : Running) → Shift (λ o n. DrivesRings o r n s)
rings r s old new x =
    let (doers, since, made, own, is, steps) = x.apart.drives in
    given since made (λ front. record {
      apart = record { drives = (doers, since, refl, own, is, steps); apart = x.apart.apart };
      owns = x.owns;
    })

-- Lemmas about register accesses, and about accesses that stop.

module _ (q : AtPort) where
  pub access : (a : Access) → Shift (λ o n. IsMade q o n a)
  access a old new y = grind (arith, common_steps, mapped, adds, named)

  accesses : (all : List Access) → Shift (λ o n. AreMade q o n all)
  accesses [] = none
  accesses (a ∷ rest) = then (access a) (accesses rest)

  pub switched : (on : Bool) (polls : ℕ) → Shift (λ o n. IsSwitched q o n on polls)
  switched on polls old new (first, second, few, made) =
      mapped (accesses (receive_polled on first ++ polled Tx on second) old new made) (λ o n x. (first, second, few, x))

  stray : (row : RowId) → Shift (λ o n. IsStrayRead q o n row)
  stray row old new (number, word, named, x) = mapped (adds _ _ old new x) (λ o n y. (number, word, named, y))

  stops : (all : List Access) → Shift (λ o n. StopsBy DeviceFault q o n all)
  stops all old new (done, a, rest, mid, is, made, fails) =
      joined (accesses done old mid made) (grind (arith, common_steps, access, stray, mapped, adds, named))
      (λ o m n x y. (done, a, rest, m, is, x, y))

  polls_end : (side : Dir) (on : Bool) (polls : ℕ) → Shift (λ o n. PollsEnd DeviceFault q o n side on polls)
  polls_end side on polls old new (misses, mid, few, made, x) =
      joined (accesses (missed side on misses) old mid made) (stray _ mid new x) (λ o m n y z. (misses, m, few, y, z))

  switch_fails : (on : Bool) (polls : ℕ) → Shift (λ o n. SwitchFails DeviceFault q o n on polls)
  switch_fails on polls old new (inl x) = mapped (stops (both_asked on) old new x) (λ o n y. inl y)
  switch_fails on polls old new (inr (inl x)) =
      mapped (then (accesses (both_asked on)) (polls_end Rx on polls) old new x) (λ o n y. inr (inl y))
  switch_fails on polls old new (inr (inr (first, mid, few, made, ends))) =
      joined (accesses (receive_polled on first) old mid made) (polls_end Tx on _ mid new ends)
      (λ o m n x y. inr (inr (first, m, few, x, y)))

-- Lemmas about preparing rings and filling the receive ring.

lends : (ns : List ℕ) → Shift (λ o n. LendsEach o n ns)
lends [] = none
lends (n ∷ ns) = then (adds _ _) (lends ns)

module _ (q : AtPort) where
  prepared : (side : Dir) (size : ℕ) (a b : Numbers) (ring : ℕ) → Shift (λ o n. IsPrepared q side size o a n b ring)
  prepared side size a b ring old new x = search (rules, joined, accesses, lends)

  transmit : (size frame : ℕ) (a b : Numbers) (v : Sender) → Shift (λ o n. IsTransmitReady q size frame o a n b v)
  transmit size frame a b v old new x = search (rules, mapped, prepared)

  -- The receive ring after the first access, whatever calls came before that access.

  abbrev pub After : (S : List Call → List Call → Type 0) → ((o n : List Call) → S o n → List Call) → List Call
      → List Call → Type 0
  After S place m n = (o : List Call) → IsMade q o m (Sees Rxdctl false) → (y : S o n) × (place o n y ≡ m)

  ready_after : (size frame : ℕ) (a b : Numbers) (v : Receive) (old new : List Call)
      (x : IsReceiveReady q size frame old a new b v)
      → Shifts (After (λ o n. IsReceiveReady q size frame o a n b v) (λ o n y. y.quiet.0)) x.quiet.0 new
  ready_after size frame a b v old new x =
      joined (accesses q (Sets Rxdctl 0 ∷ Sees Rxdctl false ∷ quiet Tx) x.quiet.0 x.mid x.quiet.2)
      (prepared Rx size a b x.ring x.mid new x.prepared)
      (λ m k n rest again o one. (search rules, refl))

  receive : (size frame : ℕ) (a b : Numbers) (v : Receive) → Shift (λ o n. IsReceiveReady q size frame o a n b v)
  receive size frame a b v old new x =
      joined (access q (Sees Rxdctl false) old x.quiet.0 x.quiet.1) (ready_after size frame a b v old new x)
      (λ o m n one following. (following o one).0)

  preparing : (side : Dir) (size : ℕ) (a b : Numbers) (out : List ℕ)
      → Shift (λ o n. PreparingFails DeviceFault q side size o a n b out)
  preparing side size a b out old new (ring, free, inl (x, same, empty)) =
      mapped (stops q (ring_words side ring size) old new x) (λ o n y. (ring, free, inl (y, same, empty)))
  preparing side size a b out old new (ring, free, inr x) =
      mapped (then (accesses q (ring_words side ring size)) (λ o n y. search (rules, joined, lends, adds)) old new x)
      (λ o n y. (ring, free, inr y))

  receive_fails : (size : ℕ) (a b : Numbers) (out : List ℕ)
      → Shift (λ o n. ReceiveFails DeviceFault q size o a n b out)
  receive_fails size a b out _ _ (inl (x, is, empty)) = mapped (stops q both_quiet _ _ x) (λ o n y. inl (y, is, empty))
  receive_fails size a b out old new (inr x) =
      mapped (then (accesses q both_quiet) (preparing Rx size a b out) old new x) (λ o n y. inr y)

-- Lemmas about a start, with the point after its first access.

module _ (q : AtPort) (size frame : ℕ) (a : Numbers) where
  pub up_after : (r : Running) (old new : List Call) (x : AreUp q size frame old a new r)
      → Shifts (After q (λ o n. AreUp q size frame o a n r) (λ o n y. y.receive.quiet.0)) x.receive.quiet.0 new
  up_after r old new x =
      joined (ready_after q size frame a x.ready_arena x.empty old x.ready_made x.receive)
      (then (transmit q size frame x.ready_arena x.both_arena r.transmit)
      (then (switched q true 1000) (plays x.both_arena x.empty r.receive)) x.ready_made new
      (x.both_made, x.transmit, (x.on.mid, x.on.switched, x.on.plays)))
      (λ m k n ready rest o one. let (y, at) = ready o one in (search rules, at))

  -- Lemmas about a start that fails with `DeviceFault` before both sides are on.

  pub early_shift : Shift (λ o n. FaultsEarly q size frame o a n)
  early_shift old new (inl x) =
      mapped (receive_fails q size a x.arena x.out old new x.fails)
      (λ o n y. inl (record { arena = x.arena; out = x.out; fails = y }))
  early_shift old new (inr (inl x)) =
      joined (receive q size frame a x.ready_arena x.empty old x.made x.receive)
      (preparing q Tx size _ x.arena x.out x.made new x.fails) (λ o m n y z. inr (inl (grind (arith, common_steps))))
  early_shift old new (inr (inr x)) =
      joined (receive q size frame a x.ready_arena x.empty old x.ready_made x.receive)
      (then (transmit q size frame x.ready_arena x.both_arena x.sender) (switch_fails q true 1000) x.ready_made new
      (x.both_made, x.transmit, x.fails)) (λ o m n y z. inr (inr (grind (arith, common_steps))))

  -- The calls by which both sides were enabled shift.
  pub on_shift : (v : Receive) (t : Sender) → Shift (λ o n. AreOn q size frame o a n v t)
  on_shift v t old new x =
      joined (receive q size frame a x.ready_arena v old x.ready_made x.receive)
      (then (transmit q size frame x.ready_arena x.both_arena t) (switched q true 1000) x.ready_made new
      (x.both_made, x.transmit, x.switched)) (λ o m n y z. are_on x.sized x.framed y z.1 z.2)
