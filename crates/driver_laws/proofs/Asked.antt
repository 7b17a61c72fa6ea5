-- Lemmas: of the blocks in its arena, a driver lends only those that its calls try to lend.
use Rattle.driver_laws.specs.Before.{asks_for, is_asked}
use Rattle.pmd_driver.specs.{Apart.LendsApart, Apart.MayLend, Halves.after_call}
use Rattle.pmd_driver.specs.PmdTx.Sending.{Elsewhere}
use Rattle.driver_laws.proofs.Prelude.{AllLendApart, Block, Blocks, Bool, Call, Doer, Event, Halves, LeadsApart}
use Rattle.driver_laws.proofs.Prelude.{List, Receives, Sends, [], arith, common_steps, eq-eqb, false, refl, true, ℕ}
use Rattle.driver_laws.proofs.Prelude.{◌&&◌, ◌∷◌, ◌≡◌}
use Rattle.std.proofs.lemmas.Bool.{or_left, or_right}
use Rattle.pmd_driver.specs.NicDevice.declared.event.Event.TheVariants as event

pub both_true : (x y : Bool) → x ≡ true → y ≡ true → (x && y) ≡ true
both_true true y one two = two
both_true false y one two = one

module _ (own asks : Blocks) where
  abbrev pub Both : Blocks
  Both = λ n. own n && asks n

  may_asked : (h : Halves) (d : Doer) (n : ℕ) → MayLend own h d n → asks n ≡ true → MayLend Both h d n
  may_asked h Receives n may is = (both_true (own n) (asks n) may.0 is, may.1)
  may_asked h (Sends Elsewhere) n may is = grind (arith, common_steps)
  may_asked h (Sends m) n may is = (both_true (own n) (asks n) may.0 is, may.1)

  pub lends_asked : (h : Halves) (d : Doer) (e : Event Block) → LendsApart own h d e
      → ((n : ℕ) → asks_for e n ≡ true → asks n ≡ true) → LendsApart Both h d e
  lends_asked h d (event.Lend block) may within =
      may_asked h d block.number may (within block.number (eq-eqb block.number block.number refl))
  lends_asked h d other may within = tt

  pub all_asked : (h : Halves) (doers : List Doer) (calls : List Call) → AllLendApart own h doers calls
      → ((n : ℕ) → is_asked calls n ≡ true → asks n ≡ true) → AllLendApart Both h doers calls
  all_asked h [] calls apart within = tt
  all_asked h (d ∷ doers) [] apart within = tt
  all_asked h (d ∷ doers) (c ∷ calls) apart within = (
    lends_asked h d c.event apart.0 (λ n is. within n (or_left _ _ is)),
    all_asked (after_call h d c) doers calls apart.1 (λ n is. within n (or_right _ _ is)),
  )

  pub leads_asked : {old new : List Call} {h k : Halves} (x : LeadsApart own old h new k)
      → ((n : ℕ) → is_asked x.leads.1 n ≡ true → asks n ≡ true) → LeadsApart Both old h new k
  leads_asked {h = h} x within = record { leads = x.leads; apart = all_asked h x.leads.0 x.leads.1 x.apart within }
