-- Lemmas: the states of both halves follow from the calls made.
use Rattle.std.proofs.Common.{◌≡◌, suc, Bool, true, false, not, List, [], ◌∷◌, ◌++◌, length, refl, sym, ap, ◌∙◌, subst, append_assoc, append-nil}
use Rattle.std.specs.Prelude.{IsTrue}
use Rattle.pmd_access.specs.DeviceLock.declared.entry.Call.{Call}
use Rattle.pmd_access.proofs.Steps.{steps_as, steps_both, steps_marked}
use Rattle.pmd_rx.specs.Plays as receive
use Rattle.pmd_tx.specs.Plays as transmit
use Rattle.pmd_tx.specs.Sending.{Move, Elsewhere}
use Rattle.pmd_driver.specs.Halves.{Halves, Doer, Receives, Sends, AllOwn, Drives, after_call, doer_marked}
use Rattle.pmd_driver.specs.Halves.{doers_marked, doers_moved, doers_other, is_neither, played_by, OthersStep}
use Rattle.pmd_driver.specs.Halves.{ReceivingDrives, SendingDrives, OthersDrive, DrivesOn}

-- The calls made by one half are also calls of the two halves together, with the half as the doer.

pub receives_own : (h : Halves) (marks : List Bool) (calls : List Call) → receive.AllOwn h.receive marks calls
    → AllOwn h (doers_marked marks) calls
receives_own h [] [] own = tt
receives_own h [] (n ∷ calls) own = own
receives_own h (m ∷ marks) [] own = own
receives_own h (true ∷ marks) (n ∷ calls) own =
    (own.0, receives_own (after_call h Receives n) marks calls own.1)
receives_own h (false ∷ marks) (n ∷ calls) own = (tt, receives_own h marks calls own.1)

pub receives_played : (h : Halves) (marks : List Bool) (calls : List Call)
    → played_by h (doers_marked marks) calls ≡ record h { receive = receive.played_by h.receive marks calls }
receives_played h [] calls = refl
receives_played h (m ∷ marks) [] = refl
receives_played h (true ∷ marks) (n ∷ calls) = receives_played (after_call h Receives n) marks calls
receives_played h (false ∷ marks) (n ∷ calls) = receives_played h marks calls

neither_marked : (mark : Bool) → IsTrue (is_neither (doer_marked mark)) → IsTrue (not mark)
neither_marked true is = is
neither_marked false is = is

pub receives_step : (marks : List Bool) (calls : List Call) → receive.OthersStep marks calls
    → OthersStep (doers_marked marks) calls
receives_step marks calls steps = steps_as not is_neither doer_marked marks calls neither_marked steps

unfoldable pub receiving_drives : ReceivingDrives
receiving_drives old new h k (marks, since, made, own, is, steps) same = (
  doers_marked marks,
  since,
  made,
  receives_own h marks since own,
  (λ i. record { receive = is i; transmit = same i }) ∙ sym (receives_played h marks since),
  receives_step marks since steps,
)

pub sends_own : (h : Halves) (moves : List Move) (calls : List Call) → transmit.AllOwn h.transmit moves calls
    → AllOwn h (doers_moved moves) calls
sends_own h [] [] own = tt
sends_own h [] (n ∷ calls) own = own
sends_own h (m ∷ moves) [] own = own
sends_own h (m ∷ moves) (n ∷ calls) own = (own.0, sends_own (after_call h (Sends m) n) moves calls own.1)

pub sends_played : (h : Halves) (moves : List Move) (calls : List Call)
    → played_by h (doers_moved moves) calls ≡ record h { transmit = transmit.played_by h.transmit moves calls }
sends_played h [] calls = refl
sends_played h (m ∷ moves) [] = refl
sends_played h (m ∷ moves) (n ∷ calls) = sends_played (after_call h (Sends m) n) moves calls

pub sends_step : (moves : List Move) (calls : List Call) → transmit.OthersStep moves calls
    → OthersStep (doers_moved moves) calls
sends_step moves calls steps = steps_as transmit.is_elsewhere is_neither Sends moves calls (λ m is. is) steps

unfoldable pub sending_drives : SendingDrives
sending_drives old new h k (moves, since, made, own, is, steps) same = (
  doers_moved moves,
  since,
  made,
  sends_own h moves since own,
  (λ i. record { receive = same i; transmit = is i }) ∙ sym (sends_played h moves since),
  sends_step moves since steps,
)

-- Calls that belong to neither half are permitted in every state and change neither half.

pub others_own : (h : Halves) (calls : List Call) → AllOwn h (doers_other calls) calls
others_own h [] = tt
others_own h (n ∷ calls) = (tt, others_own h calls)

pub others_played : (h : Halves) (calls : List Call) → h ≡ played_by h (doers_other calls) calls
others_played h [] = refl
others_played h (n ∷ calls) = others_played h calls

unfoldable pub others_drive : OthersDrive
others_drive old new h (since, made, steps) = (
  doers_other since,
  since,
  made,
  others_own h since,
  others_played h since,
  steps_marked is_neither (Sends Elsewhere) since steps,
)

-- `Drives` holds if no call was made.
unfoldable pub drives_none : (made : List Call) (h : Halves) → Drives made h made h
drives_none made h = ([], [], sym (append-nil made), tt, refl, tt)

-- Facts about one sequence of calls followed by another follow from facts about each of them.

pub both_own : (h : Halves) (ds es : List Doer) (ms ns : List Call) → AllOwn h ds ms → AllOwn (played_by h ds ms) es ns
    → AllOwn h (ds ++ es) (ms ++ ns)
both_own h [] es [] ns first then = then
both_own h [] es (m ∷ ms) ns first then = absurd first
both_own h (d ∷ ds) es [] ns first then = absurd first
both_own h (d ∷ ds) es (m ∷ ms) ns first then = (first.0, both_own (after_call h d m) ds es ms ns first.1 then)

pub both_played : (h : Halves) (ds es : List Doer) (ms ns : List Call) → AllOwn h ds ms
    → played_by h (ds ++ es) (ms ++ ns) ≡ played_by (played_by h ds ms) es ns
both_played h [] es [] ns own = refl
both_played h [] es (m ∷ ms) ns own = absurd own
both_played h (d ∷ ds) es [] ns own = absurd own
both_played h (d ∷ ds) es (m ∷ ms) ns own = both_played (after_call h d m) ds es ms ns own.1

pub own_length : (h : Halves) (ds : List Doer) (ms : List Call) → AllOwn h ds ms → length ds ≡ length ms
own_length h [] [] own = refl
own_length h [] (m ∷ ms) own = absurd own
own_length h (d ∷ ds) [] own = absurd own
own_length h (d ∷ ds) (m ∷ ms) own = ap suc (own_length (after_call h d m) ds ms own.1)

unfoldable pub drives_on : DrivesOn
drives_on old mid new h j k (ds, ms, made, own, is, steps) (es, ns, more, then, was, others) =
    let here : AllOwn (played_by h ds ms) es ns = subst (λ x. AllOwn x es ns) is then in (
      ds ++ es,
      ms ++ ns,
      more ∙ ap (λ (calls : List Call). calls ++ ns) made ∙ append_assoc old ms ns,
      both_own h ds es ms ns own here,
      was ∙ ap (λ x. played_by x es ns) is ∙ sym (both_played h ds es ms ns own),
      steps_both is_neither ds es ms ns (own_length h ds ms own) steps others,
    )
