-- Proof: the blocks that a history's entries report as lent are those lent to the device.
use Rattle.driver_laws.proofs.RingLaws.Lent.{AllFollow, follows_known, not_so}
use Rattle.driver_laws.proofs.Prelude.{AreEvents, Block, Blocks, Entry, Event, IsEvent, IsLegal, List, NoneLent}
use Rattle.driver_laws.proofs.Prelude.{OnlyLent}
use Rattle.driver_laws.specs.Before.{is_asked}
use Rattle.driver_laws.proofs.Asked.{Both}
use Rattle.driver_laws.proofs.Prelude.{IsTrue, Reply, State, [], after, and_parts, ap, arith, both_ways, calls_of}
use Rattle.driver_laws.proofs.Prelude.{common_steps, ◌++◌, ◌≡◌, ◌≢◌}
use Rattle.driver_laws.specs.Asked.{OthersLendNone, asked_of}
use Rattle.driver_laws.specs.RingLaws.Lent.{LendsNone}
use Rattle.pmd_driver.specs.NicDevice.declared.event.Event.TheVariants as event
use Rattle.driver_laws.proofs.Prelude.{events_before, false, has_block, is_own, is_some, leads_to, legal_before, lends}
use Rattle.driver_laws.proofs.Prelude.{nat_cmp, nat_lt, new_state, refl, reply_to, subst, sym, ℕ, ◌&&◌, ◌||◌, ◌∷◌}
use Rattle.pmd.proofs.WorkerReported.{holds_at_first}
use Rattle.std.{proofs.lemmas.Bool.Decides.nat_tests, proofs.lemmas.Bool.or_left, specs.Prelude.not}
use Rattle.pmd.specs.Lending.{lends_none, takes}
use Rattle.pmd.specs.{Before.known_through, Lending.lent_after, Lending.lent_through, Lending.no_block}
use Rattle.std.specs.FinMap as map
use Rattle.pmd.specs.Lending as reported

-- The report after an event and its reply.
abbrev LentAfter : Blocks → Event Block → Reply Block → Blocks
LentAfter known e r n = (nat_lt n 65536 && lends e r n) || (known n && not (takes e r n))

reported_follows : (known : Blocks) (e : Event Block) → IsEvent e → AllFollow known (LentAfter known e) e
reported_follows known e made r n = grind (arith, common_steps, nat_tests)

lent_here : (own known : Blocks) (s : State) → OnlyLent own known s.memory → (e : Event Block) → IsEvent e
    → OnlyLent own (LentAfter known e (reply_to s e)) (after s e).memory
lent_here own known s only e made n is has =
    let follows = follows_known own no_block s known (λ k mine there. or_left (known k) false (only k mine there)) e
    (LentAfter known e) (reported_follows known e made) n in
    grind (arith, common_steps, follows)

lent_along : (own known : Blocks) (s : State) (h : List Entry) → IsLegal s h → AreEvents h
    → OnlyLent own known s.memory → OnlyLent own (known_through lent_after known h) (leads_to s h).memory
lent_along own known s [] legal events only = only
lent_along own known s (e ∷ es) legal events only =
    lent_along own (lent_after known e) (after s e.event) es legal.1 events.1
    (rw legal.0 (lent_here own known s only e.event events.0))

-- An event that lends none of some blocks also lends none of the requested blocks among them.
lends_fewer : (own asks : Blocks) (e : Event Block) → IsTrue (lends_none own e) → LendsNone (Both own asks) e
lends_fewer own asks (event.Lend block) none = grind (arith, common_steps)
lends_fewer own asks other none = tt

spared : (pass : ℕ) (own asks : Blocks) (h : List Entry) → reported.OnlyPassLends pass own h → (before : List Entry)
    (e : Entry) (following : List Entry) → h ≡ before ++ e ∷ following → e.pass ≢ pass
    → LendsNone (Both own asks) e.event
spared pass own asks [] none [] e following is other = cc
spared pass own asks [] none (c ∷ before) e following is other = cc
spared pass own asks (d ∷ h) none [] e following is other =
    let same : d ≡ e = cc in
    lends_fewer own asks e.event
    (subst (λ (x : Entry). x.pass ≢ pass → IsTrue (lends_none own x.event)) same none.0 other)
spared pass own asks (d ∷ h) none (c ∷ before) e following is other =
    spared pass own asks h none.1 before e following (cc) other

reported_none : (pass : ℕ) (own asks : Blocks) (h : List Entry) → reported.OnlyPassLends pass own h
    → OthersLendNone pass (Both own asks) h
reported_none pass own asks h none before e following is begun other =
    spared pass own asks h none before e following is other

pub returns : Rattle.pmd.proofs.laws.worker_has_its_blocks_alone.Goals.returns
returns c w fifo old a h legal events others = (
  reported_none w.pass (is_own a) (is_asked (calls_of w.pass h)) h others.others,
  holds_at_first w fifo old h (NoneLent (asked_of w a h)) (λ x number both.
      let own = (and_parts (is_own a number) (is_asked (calls_of w.pass h) number) both).0 in
      let new : State = new_state w.vfs fifo in
      let rest = x.first ∷ x.following in
      let known =
      lent_along (is_own a) no_block new x.before
      (legal_before new x.before rest (subst (IsLegal new) (sym x.all) legal))
      (events_before x.before rest (subst AreEvents (sym x.all) events))
      (λ n is has. absurd (both_ways (has_block map.empty n) (ap is_some (map.get-empty nat_cmp n)) has)) number own
      in
      not_so (has_block (leads_to (new_state w.vfs fifo) x.before).memory number) (lent_through x.before number) known
      (others.none old refl x number own)),
)
