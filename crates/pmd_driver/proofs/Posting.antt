-- Lemmas: the tail advances past the queued packets.
use Rattle.std.proofs.Common.{◌≡◌, inl, inr, ◌==◌, ℕ, if◌then◌else◌, Bool, true, false, List, [], ◌∷◌, ◌++◌, length, Option, Some, None, Result, Ok, Err, IfOk, IfErr, IfSome, refl, sym, ap, subst, ◌∙◌, append-nil, arith}
use Rattle.std.proofs.lemmas.Bool.Decides.{nat_tests}
use Rattle.pmd_access.specs.NicDevice.DmaArena.Numbers.{is_own}
use Rattle.pmd_access.specs.DeviceLock.declared.entry.Call.{Call}
use Rattle.pmd_access.specs.declared.fault.PmdFault.{PmdFault}
use Rattle.pmd_access.specs.declared.packet.Packet.{Packet}
use Rattle.pmd_rx.specs.Keeping.{numbers_of_all}
use Rattle.pmd_tx.specs.Sends.{IsLate}
use Rattle.pmd_tx.specs.declared.answer.TxAnswer.{TxAnswer}
use Rattle.pmd_tx.specs.declared.answer.TxAnswer.TheVariants.{RingFull}
use Rattle.pmd_tx.specs.declared.answer.TxFault.{TxFault}
use Rattle.pmd_driver.specs.Bursts.{Accepts, FailsDuring, IsRefusedFirst, Stops}
use Rattle.pmd_driver.specs.Halves.{halves_of}
use Rattle.pmd_driver.specs.Queueing.{Continues, Posts, Queues, QueuesUpTo}
use Rattle.pmd_driver.specs.Running.{Running, rings_out}
use Rattle.pmd_driver.proofs.Both.{rings_on, rings_still}
use Rattle.pmd_driver.proofs.Driving.{done_later, err_later, some_later}
use Rattle.pmd_driver.proofs.First.{keeps_beside}
use Rattle.pmd_driver.proofs.Meeting.{during_after, one_answer}
use Rattle.pmd_driver.proofs.Queueing.{accepts_on, accepts_same}
use Rattle.pmd_driver.proofs.Whole.{keeps_then}

-- If no packet was accepted between two states, the check of a packet has the same result in both.

module _ (s t : Running) (kept : Accepts [] s t) where
  same : s.transmit.outstanding ≡ t.transmit.outstanding
  same = sym (kept.outstanding ∙ append-nil s.transmit.outstanding)

  abbrev like : Running
  like = record {
    arena = s.arena;
    receive = s.receive;
    transmit = record t.transmit { layout = s.transmit.layout; outstanding = s.transmit.outstanding };
  }

  like_is : like ≡ t
  like_is i = record {
    arena = sym kept.arena i;
    receive = sym kept.receive i;
    transmit = record t.transmit { layout = sym kept.layout i; outstanding = same i };
  }

  stops_still : (met : Option PmdFault) (left : List Packet) → Stops met s left → Stops met t left
  stops_still None [] stops = tt
  stops_still None (p ∷ left) stops = subst (λ (x : Running). Stops None x (p ∷ left)) like_is stops
  stops_still (Some f) [] (inl late) = inl late
  stops_still (Some f) [] (inr none) = absurd none
  stops_still (Some f) (p ∷ left) (inl late) = inl late
  stops_still (Some f) (p ∷ left) (inr refused) =
      inr (subst (λ (x : Running). IsRefusedFirst f x (p ∷ left)) like_is refused)

-- The burst reports the fault that it met only if no packet was queued.

by_test : (b : Bool) (met : Option PmdFault) (f : PmdFault) → (if b then met else None) ≡ Some f
    → (b ≡ true) × (met ≡ Some f)
by_test true met f is = (refl, is)
by_test false met f is = absurd (let e : None ≡ Some f = is in cc)

no_test : (b : Bool) (met : Option PmdFault) → (if b then met else None) ≡ None → b ≡ true → met ≡ None
no_test true met is here = is
no_test false met is here = absurd (let e : false ≡ true = here in cc)

none_of : (ps : List Packet) → length ps ≡ 0 → ps ≡ []
none_of [] is = refl
none_of (p ∷ ps) is = absurd (omega (arith, is))

if_met : (P : PmdFault → Type 0) (met : Option PmdFault) (f : PmdFault) → met ≡ Some f → IfSome met P → P f
if_met P met f is holds = subst (λ (o : Option PmdFault). IfSome o P) is holds

met_all : (P : PmdFault → Type 0) (met : Option PmdFault) (f : PmdFault) → met ≡ Some f → P f → IfSome met P
met_all P met f is holds = subst (λ (o : Option PmdFault). IfSome o P) (sym is) holds

met_none : (P : PmdFault → Type 0) (met : Option PmdFault) → met ≡ None → IfSome met P
met_none P met is = subst (λ (o : Option PmdFault). IfSome o P) (sym is) tt

-- If the ring is full, the first packet isn't refused before any event.
full_first : (f : PmdFault) (r : Running) (ps : List Packet) → Stops None r ps → IsRefusedFirst f r ps → ⊥
full_first f r [] full refused = refused
full_first f r (p ∷ ps) full refused =
    never_ok (one_answer r p (Ok (RingFull p)) (Err (record { fault = f; packet = Some p })) full.0 full.1 refused.1)
  where
    never_ok : {x : TxAnswer} {y : TxFault} → Ok x ≡ Err y → ⊥
    never_ok {x} {y} is = let e : Ok x ≡ Err y = is in cc

module _ {given left : List Packet} {sent : ℕ} {met : Option PmdFault} {old mid : List Call} {r s : Running}
    (queued : QueuesUpTo true given left sent met old r mid s)
  where
    abbrev q : Queues given left sent met old r mid s
    q = queued.queues

    -- If the first packet met a fault, the burst reports it.
    pub posts_none : {f : PmdFault} → (if sent == 0 then met else None) ≡ Some f → Posts given left (Err f) old r mid s
    posts_none {f} reported =
        let (first, is) = by_test (sent == 0) met f reported in
        let none : sent ≡ 0 = grind (arith, nat_tests, first) in
        let gone : q.gone ≡ [] = none_of q.gone (sym q.count ∙ none) in
        record {
          drives = q.drives;
          keeps = q.keeps;
          sends = record {
            gone = q.gone;
            waiting = q.waiting;
            met = met;
            given_are = q.given_are;
            accepts = q.accepts;
            count = tt;
            queued = mid;
            following = s;
            queues = (q.drives, q.accepts, q.tail);
            posts = (rings_still mid s, accepts_same s);
            left_are = q.left_are;
            stops = queued.stops refl;
            during = some_later met (λ e during. (mid, [], sym (append-nil mid), during)) q.during;
            none = λ empty. met_all (λ e. Err f ≡ Err e) met f is refl;
            fails = inr (gone, is);
            shut = λ e refused.
                let now = q.shut e refused in
                (ap (λ (x : PmdFault). Err x) (if_met (λ g. g ≡ e) met f is now.1), now.2, now.3, now.4);
            faults = if_met (λ e. FailsDuring e (is_own r.arena) old (halves_of r) mid) met f is q.during;
            settled = tt;
          };
        }

    -- What holds if no fault is reported at this point and the tail is then advanced.
    module _ {f : Option PmdFault} {t : Running} {new : List Call} (reported : (if sent == 0 then met else None) ≡ None)
        (c : Continues f mid s new t)
      where
        unmet : sent ≡ 0 → met ≡ None
        unmet none = no_test (sent == 0) met reported (grind (arith, nat_tests, none))

        never_shut : (e : PmdFault) → IsRefusedFirst e r given → ⊥
        never_shut e refused =
            let now = q.shut e refused in
            full_first e r given
            (subst (λ (x : Running). Stops None x given) now.4
            (subst (λ (l : List Packet). Stops None s l) now.2
            (subst (λ (o : Option PmdFault). Stops o s left) (unmet now.0) (queued.stops refl))))
            refused

        pub posts_then : (result : Result ℕ PmdFault)
            → IfOk result (λ n. (n ≡ sent) × (t.transmit.posted ≡ length t.transmit.outstanding))
            → IfErr result (λ e. IsLate e × FailsDuring e (is_own s.arena) mid (halves_of s) new)
            → Posts given left result old r new t
        posts_then result done failed = record {
          drives = rings_on old mid new r s t q.drives c.drives;
          keeps = keeps_then r.arena s.arena t.arena (rings_out r ++ numbers_of_all given)
              (rings_out s ++ numbers_of_all left) (rings_out t ++ numbers_of_all left) q.keeps
              (keeps_beside s.arena t.arena (rings_out s) (rings_out t) [] [] (numbers_of_all left) c.keeps);
          sends = record {
            gone = q.gone;
            waiting = q.waiting;
            met = met;
            given_are = q.given_are;
            accepts = subst (λ (l : List Packet). Accepts l r t) (append-nil q.gone)
                (accepts_on r s t q.gone [] q.accepts c.accepts);
            count = done_later result (λ n both. both.0 ∙ q.count) done;
            queued = mid;
            following = s;
            queues = (q.drives, q.accepts, q.tail);
            posts = (c.drives, c.accepts);
            left_are = q.left_are;
            stops = stops_still s t c.accepts met left (queued.stops refl);
            during = let (doers, since, made, own, is, steps) = c.drives.apart.drives in
                some_later met (λ e during. (mid, since, made, during)) q.during;
            none = λ empty.
                met_none (λ e. result ≡ Err e) met (unmet (q.count ∙ ap (λ (l : List Packet). length l) empty));
            fails = err_later result (λ e both. inl both.0) failed;
            shut = λ e refused. absurd (never_shut e refused);
            faults = err_later result (λ e both. during_after e old mid new r s q.drives both.1) failed;
            settled = done_later result (λ n both. both.1) done;
          };
        }
