-- Lemmas about the packets that a burst hands out.
use Rattle.std.proofs.Common.{◌≡◌, ℕ, ◌<◌, ◌≤◌, List, [], ◌∷◌, ◌++◌, length, Result, Ok, Err, IfOk, refl, sym, ap, subst, ◌∙◌, arith}
use Rattle.std.proofs.lemmas.List.{append-nil}
use Rattle.std.proofs.lemmas.List.Elements.{All-push}
use Rattle.pmd_access.specs.NicDevice.DmaArena.Numbers.{Numbers}
use Rattle.pmd_access.specs.Bufs.{numbers_of}
use Rattle.pmd_access.specs.Packet.{Kept}
use Rattle.pmd_access.specs.declared.fault.PmdFault.{PmdFault}
use Rattle.pmd_access.specs.declared.packet.Packet.{Packet}
use Rattle.pmd_rx.specs.Burst.{HasPart, IsBurst}
use Rattle.pmd_rx.specs.Keeping.{Keeps, numbers_of_all}
use Rattle.pmd_rx.specs.Receive.{Receive, records_of}
use Rattle.pmd_rx.specs.Shown.{HandsOne, HandsAll}
use Rattle.pmd_rx.proofs.Keeping.{keeps_both}

-- The burst hands out no packet.

pub none_out : (r : Result ℕ PmdFault) (most : ℕ) (a b : Numbers) (v w : Receive) (old new : List Packet)
    → IfOk r (λ n. n ≡ 0) → w.handed ≡ v.handed → new ≡ old → Keeps a v b w [] → IsBurst r most a v old b w new
none_out (Ok n) most a b v w old new zero handed same keeps = record {
  packets = [];
  out = same ∙ sym (append-nil old);
  handed = handed ∙ sym (append-nil v.handed);
  some = λ k d i. absurd (omega (arith, i));
  many = (sym zero, omega (arith, zero));
  none = tt;
  keeps = keeps;
}
none_out (Err f) most a b v w old new zero handed same keeps = record {
  packets = [];
  out = same ∙ sym (append-nil old);
  handed = handed ∙ sym (append-nil v.handed);
  some = λ k d i. absurd (omega (arith, i));
  many = tt;
  none = refl;
  keeps = keeps;
}

-- The burst hands out the oldest complete packet, or all complete packets.

pub one_out : (most : ℕ) (a : Numbers) (v w : Receive) (p : Packet) (old new : List Packet) → HandsOne v w p
    → new ≡ old ++ p ∷ [] → 0 < most → IsBurst (Ok 1) most a v old a w new
one_out most a v w p old new hands is some = record {
  packets = p ∷ [];
  out = is;
  handed = hands.handed;
  some = All-push HasPart [] p (λ k d i. absurd (omega (arith, i))) hands.some;
  many = (refl, omega (arith, some));
  none = tt;
  keeps = subst (λ (ns : List ℕ). Keeps a v a w ns) (sym (append-nil (numbers_of p.bufs))) (hands.keeps a);
}

pub all_out : (count most : ℕ) (a : Numbers) (v w : Receive) (old new : List Packet) → HandsAll v w
    → new ≡ old ++ v.whole → count ≡ length v.whole → count ≤ most → IsBurst (Ok count) most a v old a w new
all_out count most a v w old new hands is many few = record {
  packets = v.whole;
  out = is;
  handed = hands.handed;
  some = hands.some;
  many = (sym many, few);
  none = tt;
  keeps = hands.keeps a;
}

-- A burst after calls that handed out nothing.
pub burst_after : (r : Result ℕ PmdFault) (most : ℕ) (a b : Numbers) (v w x : Receive) (old new : List Packet)
    → w.handed ≡ v.handed → Keeps a v b w [] → IsBurst r most b w old b x new → IsBurst r most a v old b x new
burst_after r most a b v w x old new handed keeps burst = record {
  packets = burst.packets;
  out = burst.out;
  handed = burst.handed ∙ ap (λ (ks : List Kept). ks ++ records_of burst.packets) handed;
  some = burst.some;
  many = burst.many;
  none = burst.none;
  keeps = keeps_both a b b v w x (numbers_of_all burst.packets) keeps burst.keeps;
}
