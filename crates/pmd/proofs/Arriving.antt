-- Lemmas: frames arrive one after another.
use Rattle.std.proofs.Common.{◌≡◌, ℕ, List, [], ◌∷◌, ◌++◌, map, take, length, ◌≤◌, Some, None, drop, ◌+◌, refl, sym, ap, ◌∙◌, subst, append_assoc, append-nil, length-append, arith, rules}
use Rattle.std.proofs.lemmas.Grind.{common_steps}
use Rattle.std.proofs.lemmas.List.{map-append}
use Rattle.std.proofs.lemmas.List.Sums.{sum_by-append, count_by-le-length}
use Rattle.std.proofs.Math.Seq.{take-append_seam, drop-append_seam, drop-length}
use Rattle.pmd_driver.specs.NicDevice.DmaArena.Block.{Block}
use Rattle.pmd_driver.specs.NicDevice.declared.event.Event.{Event}
use Rattle.pmd_driver.specs.DeviceLock.declared.entry.Call.{Call}
use Rattle.pmd_driver.specs.DeviceLock.declared.fault.CallFault.{CallFault}
use Rattle.pmd_driver.specs.DeviceLock.Pass.{PassValue}
use Rattle.pmd_driver.specs.NicDevice.declared.event.Event.TheVariants.{Arrive}
use Rattle.pmd.specs.Feeding.{HaveArrived, IsFed, is_done, done_in, gained}

pub one_more : (frames more : List (List ℕ)) (old mid new : PassValue) → HaveArrived frames old mid
    → HaveArrived more mid new → HaveArrived (frames ++ more) old new
one_more frames more old mid new first second = record {
  since = first.since ++ second.since;
  made = second.made ∙ ap (λ (p : PassValue). record p { calls = p.calls ++ second.since }) first.made
      ∙ ap (λ (l : List Call). record old { calls = l }) (append_assoc old.calls first.since second.since);
  events = map-append (λ (c : Call). c.event) first.since second.since
      ∙ ap (λ (l : List (Event Block)). l ++ map (λ (c : Call). c.event) second.since) first.events
      ∙ ap (λ (l : List (Event Block)). map (λ (frame : List ℕ). Arrive frame) frames ++ l) second.events
      ∙ sym (map-append (λ (frame : List ℕ). Arrive frame) frames more);
}

first_of : (before rest : List (List ℕ)) → take (length before) (before ++ rest) ≡ before
first_of before rest = take-append_seam before rest

-- If no frame remains, all frames arrived.
pub all_came : (before all : List (List ℕ)) (old new : PassValue) → before ++ [] ≡ all
    → HaveArrived before old new → IsFed all None old new
all_came before all old new are arrived =
    subst (λ (l : List (List ℕ)). HaveArrived l old new) (sym (append-nil before) ∙ are) arrived

-- If a call was refused, the frames before that call's frame arrived.
pub stops_before : (before rest all : List (List ℕ)) (frame : List ℕ) (refusal : CallFault (Unit {0}))
    (old new : PassValue) → before ++ frame ∷ rest ≡ all → HaveArrived before old new
    → IsFed all (Some refusal) old new
stops_before before rest all frame refusal old new are arrived = (
  length before,
  omega (arith, length-append before (frame ∷ rest), ap (λ (l : List (List ℕ)). length l) are),
  subst (λ (l : List (List ℕ)). HaveArrived l old new)
      (sym (first_of before (frame ∷ rest)) ∙ ap (λ (l : List (List ℕ)). take (length before) l) are) arrived,
)

-- The calls for the frames that arrived are those that were added to the pass.
gained_since : (frames : List (List ℕ)) (old new : PassValue) (arrived : HaveArrived frames old new)
    → gained old new ≡ arrived.since
gained_since frames old new arrived =
    ap (λ (p : PassValue). drop (length old.calls) p.calls) arrived.made
    ∙ drop-append_seam old.calls arrived.since

done_append : (a b : List Call) → done_in (a ++ b) ≡ done_in a + done_in b
done_append a b = search (rules, sum_by-append)

-- At the start, no frame has arrived.
pub none_yet : (old : PassValue) → HaveArrived [] old old
none_yet old = record {
  since = [];
  made = ap (λ (l : List Call). record old { calls = l }) (sym (append-nil old.calls));
  events = refl;
}

pub none_done : (old : PassValue) → 0 ≡ done_in (gained old old)
none_done old = sym (ap (λ (l : List Call). done_in l) (drop-length old.calls))

-- The counts of two groups of frames add up.
pub done_more : (frames more : List (List ℕ)) (old mid new : PassValue) (first then : ℕ) → HaveArrived frames old mid
    → HaveArrived more mid new → first ≡ done_in (gained old mid) → then ≡ done_in (gained mid new)
    → first + then ≡ done_in (gained old new)
unfolding one_more
done_more frames more old mid new first then a b is is' =
    let both = one_more frames more old mid new a b in
    let sum = done_append a.since b.since in
    rw (is, is', gained_since frames old mid a, gained_since more mid new b, gained_since (frames ++ more) old new both)
    (sym sum)

-- At most as many calls got the reply `Done` as frames arrived.
pub done_few : (frames : List (List ℕ)) (old new : PassValue) → HaveArrived frames old new
    → done_in (gained old new) ≤ length frames
done_few frames old new arrived =
    let few = count_by-le-length (λ (c : Call). is_done c.reply) arrived.since in
    let long = ap (λ (l : List (Event Block)). length l) arrived.events in
    rw (gained_since frames old new arrived) (grind (arith, common_steps, few, long))
