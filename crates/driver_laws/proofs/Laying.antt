-- Lemmas: how far the calls of a start, successful or failed, and the calls alongside them lay out an empty transmit
-- ring, and which blocks they lend.
use Rattle.driver_laws.proofs.{Reached.steps_are, CallKinds.switched_are, CallKinds.unswitched_are}
use Rattle.driver_laws.specs.{Laid.MayLay, Laid.laid_by, StartPrelude.SwitchFails, StartPrelude.both_asked}
use Rattle.driver_laws.specs.{TimedOut.AllAre}
use Rattle.pmd_driver.specs.{PmdAccess.Named.is_driven, PmdAccess.QueueMade.FailsBy, Started.is_size}
use Rattle.pmd_driver.specs.Starting.{LendingFails}
use Rattle.driver_laws.proofs.Prelude.{Access, Adds, AreMade, AreMadeOf, AreOn, AtPort, Block, Blocks, Call}
use Rattle.driver_laws.proofs.Prelude.{DeviceFault, Dir, Each, Event, IsMade, IsNumberOf, IsPrepared, IsReceiveReady}
use Rattle.driver_laws.proofs.Prelude.{IsSwitched, IsTrue, LendsEach, List, Numbers, PmdFault, PreparingFails, Receive}
use Rattle.driver_laws.proofs.Prelude.{ReceiveFails, Reply, RowId, Rx, Rxdctl, Sees, Sender, Sets, StopsBy, Tx, []}
use Rattle.driver_laws.proofs.Prelude.{arith, both_quiet, call_of, common_steps, eq-eqb, false, inl, inr, is_step, last}
use Rattle.driver_laws.proofs.Prelude.{list_any, none_made, not, quiet, refl, ring_blocks, ring_words, rules, sized}
use Rattle.driver_laws.proofs.Prelude.{some_made, subst, true, ℕ, ⊤, ◌++◌, ◌==◌, ◌∷◌, ◌≡◌}
use Rattle.driver_laws.specs.Prelude.{Empty, Laid, Off}
use Rattle.std.proofs.lemmas.Bool.{or_left, or_right}
use Rattle.pmd_driver.specs.NicDevice.declared.event.Event.TheVariants as event
use Rattle.pmd_driver.specs.NicDevice.declared.event.Reply.TheVariants as reply
use Rattle.pmd_driver.specs.PmdAccess.declared.fault.PmdFault.TheVariants as fault

-- The blocks whose numbers are in the list.
abbrev pub among : List ℕ → Blocks
among ns = λ n. list_any (λ b. n == b) ns

-- An event with its reply takes the layout from `l` to `m`, if the ring has a permitted size, and lends only blocks of
-- `lent`.
abbrev pub Steps : AtPort → ℕ → Blocks → Laid → Event Block → Reply Block → Laid → Type 0
Steps q size lent l (event.Write port number word) r m =
    (row : RowId) × (port ≡ q.port) × (is_driven row ≡ true) × IsNumberOf q.port row q.queue number
    × (is_size size ≡ true → MayLay row l word) × (m ≡ laid_by row l)
Steps q size lent l (event.Lend block) reply.Done m = (m ≡ l) × IsTrue (lent block.number)
Steps q size lent l e r m = m ≡ l

-- Successive calls take the layout from `l` to `last`, and lend only blocks of `lent`.
abbrev pub StepsOn : AtPort → ℕ → Blocks → Laid → List Call → Laid → Type 0
StepsOn q size lent l [] last = last ≡ l
StepsOn q size lent l (c ∷ cs) last =
    (m : Laid) × Steps q size lent l c.event c.reply m × StepsOn q size lent m cs last

-- The calls that lead from `old` to `new`, and what they lay out and lend.
pub record LaysTo (q : AtPort) (size : ℕ) (lent : Blocks) (l : Laid) (old new : List Call) (last : Laid) : Type 0 where
  pub calls : List Call
  pub made : new ≡ old ++ calls
  pub steps : StepsOn q size lent l calls last

-- The layout after an access, and after successive accesses, each of which may be made in the layout that it finds.

abbrev gone : Laid → Access → Laid
gone l (Sees row seen) = l
gone l (Sets row word) = laid_by row l

abbrev pub all_gone : Laid → List Access → Laid
all_gone l [] = l
all_gone l (a ∷ rest) = all_gone (gone l a) rest

abbrev Goes : ℕ → Laid → Access → Type 0
Goes size l (Sees row seen) = ⊤
Goes size l (Sets row word) = (is_driven row ≡ true) × (is_size size ≡ true → MayLay row l word)

abbrev AllGo : ℕ → Laid → List Access → Type 0
AllGo size l [] = ⊤
AllGo size l (a ∷ rest) = Goes size l a × AllGo size (gone l a) rest

go_parts : (size : ℕ) (done : List Access) (a : Access) (rest : List Access) (l : Laid)
    → AllGo size l (done ++ a ∷ rest) → AllGo size l done × Goes size (all_gone l done) a
go_parts size [] a rest l go = (tt, go.0)
go_parts size (d ∷ done) a rest l go =
    let (some, one) = go_parts size done a rest (gone l d) go.1 in ((go.0, some), one)

words_go : (size : ℕ) (side : Dir) (ring : ℕ) → AllGo size Off (ring_words side ring size)
words_go size side ring = grind (arith, common_steps, sized)

-- An access that changes nothing in the layout if the ring is empty.
abbrev Keeps : ℕ → Access → Type 0
Keeps size (Sees row on) = ⊤
Keeps size (Sets row word) = Goes size Empty (Sets row word) × (Empty ≡ laid_by row Empty)

module _ (q : AtPort) (size : ℕ) (lent : Blocks) where
  abbrev pub To : Laid → List Call → List Call → Laid → Type 0
  To = LaysTo q size lent

  -- The calls lay out the ring to some extent.
  abbrev pub Part : Laid → List Call → List Call → Type 0
  Part l old new = (last : Laid) × To l old new last

  -- An event that leaves the layout unchanged, whatever the reply.
  abbrev pub Stays : Laid → Event Block → Type 0
  Stays l e = (r : Reply Block) → Steps q size lent l e r l

  step_stays : (l : Laid) (e : Event Block) → is_step e ≡ true → Stays l e
  step_stays l e is r = grind (arith, common_steps)

  each_steps : (l : Laid) (calls : List Call) → Each (λ c. Stays l c.event) calls → StepsOn q size lent l calls l
  each_steps l [] are = refl
  each_steps l (c ∷ cs) are = (l, are.0 c.reply, each_steps l cs are.1)

  steps_then : (l m last : Laid) (cs ds : List Call) → StepsOn q size lent l cs m → StepsOn q size lent m ds last
      → StepsOn q size lent l (cs ++ ds) last
  steps_then l m last [] ds one two = subst (λ (k : Laid). StepsOn q size lent k ds last) one two
  steps_then l m last (c ∷ cs) ds (k, here, more) two = (k, here, steps_then k m last cs ds more two)

  pub stay : {l : Laid} {old new : List Call} → AreMadeOf (Stays l) old new → To l old new l
  stay {l = l} (calls, is, are) = record { calls = calls; made = is; steps = each_steps l calls are }

  pub then_lays : {l m last : Laid} {old mid new : List Call} → To l old mid m → To m mid new last → To l old new last
  then_lays x y = grind (arith, common_steps, steps_then)

  pub then_some : {l m : Laid} {old mid new : List Call} → To l old mid m → Part m mid new → Part l old new
  then_some x (last, y) = (last, then_lays x y)

  adds : (l m : Laid) {old new : List Call} (e : Event Block) (r : Reply Block) → Adds old new e r
      → Steps q size lent l e r m → To l old new m
  adds l m e r (before, is, added) go =
      let same = each_steps l before (steps_are (Stays l) (step_stays l) before added) in
      record { calls = _; made = is; steps = steps_then l l m before (call_of e r ∷ []) same (m, go, refl) }

  -- Lemmas about an access, successful or failed.

  go_made : (a : Access) (l : Laid) {old new : List Call} → Goes size l a → IsMade q old new a → To l old new (gone l a)
  go_made (Sees row seen) l go (number, word, named, is, x) = adds l l _ _ x refl
  go_made (Sets row word) l go (number, named, x) = adds l _ _ _ x (row, refl, go.0, named, go.1, refl)

  pub all_made : (all : List Access) (l : Laid) {old new : List Call} → AllGo size l all → AreMade q old new all
      → To l old new (all_gone l all)
  all_made [] l {old = old} {new = new} go x = stay (none_made (Stays l) old new x)
  all_made (a ∷ rest) l go (mid, here, then) = then_lays (go_made a l go.0 here) (all_made rest (gone l a) go.1 then)

  fails_made : (f : PmdFault) (a : Access) (l : Laid) {old new : List Call} → Goes size l a → FailsBy f q old new a
      → Part l old new
  fails_made DeviceFault (Sees row seen) l go (inl x) = (l, go_made (Sees row (not seen)) l go x)
  fails_made DeviceFault (Sees row seen) l go (inr (number, word, named, x)) = (l, adds l l _ _ x refl)
  fails_made DeviceFault (Sets row word) l go (number, reported, named, x) =
      (_, adds l _ _ _ x (row, refl, go.0, named, go.1, refl))
  fails_made (fault.Call refused) a l go x = (l, stay (some_made (Stays l) (step_stays l) _ _ x))
  fails_made other a l go x = absurd x

  all_stop : (f : PmdFault) (all : List Access) (l : Laid) {old new : List Call} → AllGo size l all
      → StopsBy f q old new all → Part l old new
  all_stop f all l go (done, a, rest, mid, is, made, fails) =
      let (some, one) = go_parts size done a rest l (subst (AllGo size l) is go) in
      then_some (all_made done l some made) (fails_made f a (all_gone l done) one fails)

  -- Lemmas: a ring's register values are written, and then the ring's blocks are lent.

  abbrev pub Mine : List ℕ → Type 0
  Mine ns = (n : ℕ) → IsTrue (among ns n) → IsTrue (lent n)

  lends_lay : {l : Laid} (ns : List ℕ) {old new : List Call} → Mine ns → LendsEach old new ns → To l old new l
  lends_lay {l = l} [] {old = old} {new = new} each x = stay (none_made (Stays l) old new x)
  lends_lay {l = l} (n ∷ ns) each (mid, here, more) =
      then_lays (adds l l _ _ here (refl, each n (or_left _ _ (eq-eqb n n refl))))
      (lends_lay ns (λ k is. each k (or_right _ _ is)) more)

  lending_lays : (f : PmdFault) {l : Laid} {old new : List Call} (b : Block) → LendingFails f old new b → To l old new l
  lending_lays DeviceFault {l = l} block (back, lent) = adds l l _ _ lent refl
  lending_lays (fault.Call refusal) {l = l} block x = stay (some_made (Stays l) (step_stays l) _ _ x)
  lending_lays other block x = absurd x

  pub prepared_lays : {side : Dir} {a b : Numbers} {ring : ℕ} {old new : List Call} → Mine (ring_blocks ring size)
      → IsPrepared q side size old a new b ring → To Off old new (all_gone Off (ring_words side ring size))
  prepared_lays {side = side} {ring = ring} each x =
      then_lays (all_made (ring_words side ring size) Off (words_go size side ring) x.words) (lends_lay _ each x.lent)

  pub preparing_lays : (f : PmdFault) (side : Dir) {a b : Numbers} (out : List ℕ) {old new : List Call} → Mine out
      → PreparingFails f q side size old a new b out → Part Off old new
  preparing_lays f side out each (ring, free, inl (stops, same, none)) =
      all_stop f (ring_words side ring size) Off (words_go size side ring) stops
  preparing_lays f side out each (ring, free, inr (mid, words, stops)) =
      then_some (all_made (ring_words side ring size) Off (words_go size side ring) words)
      (then_some (lends_lay out each stops.lent) (_, lending_lays f _ stops.fails))

  -- Lemmas about the receive ring, after the first access, which reads its side as off.

  quiet_go : AllGo size Off both_quiet
  quiet_go = grind (arith, common_steps)

  pub past_first : {mid new : List Call} → AreMade q mid new (Sets Rxdctl 0 ∷ Sees Rxdctl false ∷ quiet Tx)
      → To Off mid new Off
  past_first x = all_made (Sets Rxdctl 0 ∷ Sees Rxdctl false ∷ quiet Tx) Off quiet_go.1 x

  pub ready_after : {frame : ℕ} {a b : Numbers} {v : Receive} {old new : List Call}
      (x : IsReceiveReady q size frame old a new b v)
      → Mine (ring_blocks x.ring size) → To Off x.quiet.0 new Off
  ready_after x each = then_lays (past_first x.quiet.2) (prepared_lays {side = Rx} each x.prepared)

  pub receive_ready : {frame : ℕ} {a b : Numbers} {v : Receive} {old new : List Call}
      (x : IsReceiveReady q size frame old a new b v)
      → Mine (ring_blocks x.ring size) → To Off old new Off
  receive_ready x each = then_lays (go_made (Sees Rxdctl false) Off tt x.quiet.1) (ready_after x each)

  pub receive_fails : (f : PmdFault) {a b : Numbers} (out : List ℕ) {old new : List Call} → Mine out
      → ReceiveFails f q size old a new b out → Part Off old new
  receive_fails f out each (inl (stops, same, none)) = all_stop f both_quiet Off quiet_go stops
  receive_fails f out each (inr (mid, made, fails)) =
      then_some (all_made both_quiet Off quiet_go made) (preparing_lays f Rx out each fails)

  -- Lemmas about the calls that enable both sides.

  keeps_write : (row : RowId) (word number : ℕ) → Keeps size (Sets row word) → IsNumberOf q.port row q.queue number
      → Stays Empty (event.Write q.port number word)
  keeps_write row word number own named r = (row, refl, own.0.0, named, own.0.1, own.1)

  asked_keeps : AllAre (Keeps size) (both_asked true)
  asked_keeps = (((refl, λ is. tt), refl), (((refl, λ is. tt), refl), tt))

  pub switched_lays : {old new : List Call} → IsSwitched q old new true 1000 → To Empty old new Empty
  switched_lays x = search (rules, stay, switched_are, step_stays, keeps_write, asked_keeps)

  pub unswitched_lay : (f : PmdFault) {old new : List Call} → SwitchFails f q old new true 1000 → To Empty old new Empty
  unswitched_lay f x = search (rules, stay, unswitched_are, step_stays, keeps_write, asked_keeps)

  pub on_lays : {frame : ℕ} {a : Numbers} {v : Receive} {t : Sender} {old new : List Call}
      (up : AreOn q size frame old a new v t)
      → Mine (ring_blocks up.receive.ring size) → Mine (ring_blocks up.transmit.ring size)
      → To Off up.receive.quiet.0 new Empty
  on_lays up one two =
      then_lays (ready_after up.receive one)
      (then_lays (prepared_lays {side = Tx} two up.transmit.prepared) (switched_lays up.switched))
