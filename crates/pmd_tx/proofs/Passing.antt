-- Lemmas about the check of a packet and its consequences.
use Rattle.std.proofs.Common.{◌≡◌, ◌≢◌, ℕ, zero, suc, ◌+◌, ◌≤◌, ◌==◌, inl, inr, Bool, true, false, All, List, [], ◌∷◌, ◌++◌, take, drop, Option, Some, None, Result, Ok, IfSome, IfNone, not, ◌&&◌, if◌then◌else◌, refl, sym, ap, ◌∙◌, subst, arith}
use Rattle.std.proofs.lemmas.Bool.{both_ways, cases_Bool, cases_eq, eq-eqb}
use Rattle.std.proofs.lemmas.Bool.Decides.{nat_tests}
use Rattle.std.specs.List.{list_any}
use Rattle.pmd_access.specs.NicDevice.DmaArena.Block.{Block, IsBlock}
use Rattle.pmd_access.specs.NicDevice.DmaArena.Numbers.{Numbers, is_own, is_free}
use Rattle.pmd_access.specs.NicDevice.DmaArena.Whereabouts.{times_in_hand}
use Rattle.pmd_access.proofs.NicDevice.DmaArena.Arenas.{is_own-of_free}
use Rattle.pmd_access.specs.Bufs.{numbers_of}
use Rattle.pmd_access.specs.Home.{AreOut}
use Rattle.pmd_access.proofs.Outside.{out_fewer, times-append, times-cons, times_first, times_rest}
use Rattle.std.proofs.lemmas.List.{take-append-drop}
use Rattle.pmd_access.specs.Packet.{Kept}
use Rattle.pmd_access.specs.declared.fault.PmdFault.{PmdFault}
use Rattle.pmd_access.specs.declared.fault.PmdFault.TheVariants.{BadSize, ForeignBlock, DeviceFault}
use Rattle.pmd_access.specs.declared.packet.Packet.{Packet}
use Rattle.pmd_tx.specs.declared.answer.Gate.{Gate}
use Rattle.pmd_tx.specs.declared.answer.Gate.TheVariants.{Refused, Full, Open}
use Rattle.pmd_tx.specs.declared.answer.TxAnswer.{TxAnswer}
use Rattle.pmd_tx.specs.declared.answer.TxAnswer.TheVariants.{Taken}
use Rattle.pmd_tx.specs.declared.answer.TxFault.{TxFault}
use Rattle.pmd_tx.specs.Sending.{Sender, Segment, accepted_by, keeps, segments_of}
use Rattle.pmd_tx.specs.Sends.{gate_of, outgoing_of, accepted_of, is_bad_size, is_full, are_out, goes_home, returned, IsAnswer, IsAccepted, IsNoneAccepted, IsBack, IsShut, IsTried}
use Rattle.pmd_tx.specs.Shown.{AreDistinct, MaySend}
use Rattle.pmd_tx.proofs.Distinct.{neither}

opened : (bad home full : Bool)
    → Open ≡ (if bad then Refused BadSize else if home then (if full then Full else Open) else Refused ForeignBlock)
    → (bad ≡ false) × (home ≡ true) × (full ≡ false)
opened true home full is = cc
opened false false full is = cc
opened false true true is = cc
opened false true false is = (refl, refl, refl)

-- Blocks that can be returned to the arena are out of the arena, each of them exactly once.

parts_of_out : (own free again rest : Bool) → (own && not free && not again && rest) ≡ true
    → (own ≡ true) × (free ≡ false) × (again ≡ false) × (rest ≡ true)
parts_of_out true false false true is = (refl, refl, refl, refl)
parts_of_out true false false false is = cc
parts_of_out true false true rest is = cc
parts_of_out true true again rest is = cc
parts_of_out false free again rest is = cc

pub out_distinct : (a : Numbers) (ns : List ℕ) → are_out a ns ≡ true → AreDistinct ns
out_distinct a [] out = tt
out_distinct a (n ∷ ns) out =
    let parts = parts_of_out (is_own a n) (is_free a n) (list_any (λ b. n == b) ns) (are_out a ns) out in
    (parts.2, out_distinct a ns parts.3)

none_counted : (n : ℕ) (xs : List ℕ) → list_any (λ b. n == b) xs ≡ false → times_in_hand xs n ≡ 0
none_counted n [] none = refl
none_counted n (x ∷ xs) none =
    let both = neither (n == x) (list_any (λ b. n == b) xs) none in
    let rest = none_counted n xs both.1 in
    let other : x ≢ n = λ e. both_ways (n == x) both.0 (eq-eqb n x (sym e)) in
    omega (arith, times-cons x xs n, times_other x n other, rest)
  where
    times_other : (x n : ℕ) → x ≢ n → times_in_hand (x ∷ []) n ≡ 0
    times_other x n ne = times_rest [] x n (λ e. ne (sym e))

none_out : (a : Numbers) → AreOut a []
none_out a k = elim (cases_Bool (is_free a k)) [
  | inl free ↦ rw (free, is_own-of_free a k free) (omega arith)
  | inr taken ↦ rw taken (omega arith)
]

out_more : (a : Numbers) (n : ℕ) (ns : List ℕ) → is_own a n ≡ true → is_free a n ≡ false → times_in_hand ns n ≡ 0
    → AreOut a ns → AreOut a (n ∷ ns)
out_more a n ns own free none out k = elim (cases_eq k n) [
  | inl e ↦
      let P : ℕ → Type 0 = λ x. (if is_free a x then 1 else 0) + times_in_hand (n ∷ ns) x
      ≤ (if is_own a x then 1 else 0) in
      subst P (sym e) (rw (own, free, times_first ns n, none) (omega arith))
  | inr ne ↦ rw (times_rest ns n k ne) (out k)
]

pub out_are : (a : Numbers) (ns : List ℕ) → are_out a ns ≡ true → AreOut a ns
out_are a [] out = none_out a
out_are a (n ∷ ns) out =
    let parts = parts_of_out (is_own a n) (is_free a n) (list_any (λ b. n == b) ns) (are_out a ns) out in
    out_more a n ns parts.0 parts.1 (none_counted n ns parts.2) (out_are a ns parts.3)

none_kept : (v : Sender) (ns : List ℕ) → list_any (λ n. keeps v n) ns ≡ false → All (λ (n : ℕ). keeps v n ≡ false) ns
none_kept v [] none k d below = absurd (omega arith)
none_kept v (n ∷ ns) none zero d below = (neither (keeps v n) (list_any (λ k. keeps v k) ns) none).0
none_kept v (n ∷ ns) none (suc k) d below =
    none_kept v ns (neither (keeps v n) (list_any (λ i. keeps v i) ns) none).1 k d (omega arith)

-- Lemmas about a packet that passed the check.
module _ (v : Sender) (a : Numbers) (elsewhere : Bool) (p : Packet) (is : Open ≡ gate_of v a elsewhere p) where
  tests : (is_bad_size v p ≡ false) × ((goes_home v a p && not elsewhere) ≡ true) × (is_full v p ≡ false)
  tests = opened (is_bad_size v p) (goes_home v a p && not elsewhere) (is_full v p) is

  homely : (x y z : Bool) → ((x && not y) && not z) ≡ true → (x ≡ true) × (y ≡ false)
  homely true false z h = (refl, refl)
  homely true true z h = cc
  homely false y z h = cc

  home : (are_out a (numbers_of p.bufs) ≡ true) × (list_any (λ n. keeps v n) (numbers_of p.bufs) ≡ false)
  home = homely (are_out a (numbers_of p.bufs)) (list_any (λ n. keeps v n) (numbers_of p.bufs)) elsewhere tests.1

  pub open_out : AreOut a (numbers_of p.bufs)
  open_out = out_are a (numbers_of p.bufs) home.0

  pub open_may : All (λ (b : Block). IsBlock b) p.bufs → MaySend v p
  open_may whole =
      let bad = tests.0 in
      let full = tests.2 in
      record {
        some = grind (arith, nat_tests, bad);
        short = grind (arith, nat_tests, bad);
        held = grind (arith, nat_tests, bad);
        room = grind (arith, nat_tests, full);
        loose = record {
          whole = whole;
          apart = out_distinct a (numbers_of p.bufs) home.0;
          away = none_kept v (numbers_of p.bufs) home.1;
        };
      }

-- A packet that isn't returned passed the check.

gone_open : (g : Gate) (p : Packet) (x : Result TxAnswer TxFault) → IsAnswer g p x → returned x ≡ None → Open ≡ g
gone_open (Refused f) p x answer none = absurd (let e : Some p ≡ None = ap returned (sym answer) ∙ none in cc)
gone_open Full p x answer none = absurd (let e : Some p ≡ None = ap returned (sym answer) ∙ none in cc)
gone_open Open p x answer none = refl

pub taken_open : (g : Gate) (p : Packet) → IsAnswer g p (Ok Taken) → Open ≡ g
taken_open g p answer = gone_open g p (Ok Taken) answer refl

-- If the packet passed the check, the result of trying to send it follows from the check.
pub tried_answer : (g : Gate) (p : Packet) (x : Result TxAnswer TxFault) → Open ≡ g → IsTried x → IsAnswer g p x
tried_answer g p x is tried = subst (λ (y : Gate). IsAnswer y p x) is tried

pub open_unshut : (g : Gate) → Open ≡ g → IsShut g → ⊥
open_unshut g is shut = subst IsShut (sym is) shut

-- The packet may still be sent after calls that accept nothing.
pub may_after : (v w : Sender) (p : Packet) → MaySend v p → IsNoneAccepted v w → w.layout ≡ v.layout → MaySend w p
may_after v w p may none same = record {
  some = may.some;
  short = rw same may.short;
  held = may.held;
  room = rw (none.outstanding, same) may.room;
  loose = record {
    whole = may.loose.whole;
    apart = may.loose.apart;
    away = rw (none.outstanding, same) may.loose.away;
  };
}

-- An accepted packet stays accepted.
pub accepted_then : (v w x : Sender) (p : Packet) → w ≡ accepted_by v (outgoing_of p) → IsNoneAccepted w x
    → IsAccepted v p x
accepted_then v w x p is none = record {
  accepted = none.accepted ∙ ap (λ (y : Sender). y.accepted) is;
  outstanding = none.outstanding ∙ ap (λ (y : Sender). y.outstanding) is;
}

pub accepted_still : (v w x : Sender) (p : Packet) → IsAccepted v p w → IsNoneAccepted w x → IsAccepted v p x
accepted_still v w x p is none = record {
  accepted = none.accepted ∙ is.accepted;
  outstanding = none.outstanding ∙ is.outstanding;
}

pub none_both : (v w x : Sender) → IsNoneAccepted v w → IsNoneAccepted w x → IsNoneAccepted v x
none_both v w x a b =
    record { accepted = b.accepted ∙ a.accepted; outstanding = b.outstanding ∙ a.outstanding }

pub accepted_after : (o : Option Packet) (v w x : Sender) (p : Packet) → IsNoneAccepted v w
    → IfNone o (IsAccepted w p x)
    → IfNone o (IsAccepted v p x)
accepted_after None v w x p none is = record {
  accepted = is.accepted ∙ ap (λ (l : List Kept). l ++ accepted_of p ∷ []) none.accepted;
  outstanding = is.outstanding ∙ ap (λ (l : List Segment). l ++ segments_of (outgoing_of p)) none.outstanding;
}
accepted_after (Some q) v w x p none is = tt

pub kept_after : (o : Option Packet) (v w x : Sender) → IsNoneAccepted v w → IfSome o (λ b. IsNoneAccepted w x)
    → IfSome o (λ b. IsNoneAccepted v x)
kept_after None v w x none is = tt
kept_after (Some q) v w x none is = none_both v w x none is

pub back_itself : (f : PmdFault) (p : Packet) → IsBack f p p
back_itself DeviceFault p = refl
back_itself other p = refl

-- The blocks that contain none of the packet's bytes are out of the arena too.
pub out_drop : (a : Numbers) (n : ℕ) (ns ms : List ℕ) → AreOut a ns → ms ≡ drop n ns → AreOut a ms
out_drop a n ns ms out is =
    rw is
    (out_fewer a ns (drop n ns) out (λ k.
    let split = ap (λ (l : List ℕ). times_in_hand l k) (take-append-drop n ns) in
    let both = times-append (take n ns) (drop n ns) k in
    omega (arith, split, both)))
