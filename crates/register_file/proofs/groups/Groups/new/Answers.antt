use Rattle.std.proofs.Common.{◌≡◌, ℕ, ◌+◌, ◌<◌, List, map, length, get_or, ap, sym, ◌∙◌, inl, inr, zero-add, arith}
use Rattle.std.proofs.Math.ListN.{set}
use Rattle.std.specs.List.{range_with_len}
use Rattle.std.proofs.lemmas.Bool.{cases_eq}
use Rattle.std.proofs.lemmas.List.{get_or-set_same, get_or-set_other, get_or_default, length-set, ext_get_or}
use Rattle.std.proofs.lemmas.List.FromFn.{get_or-map-range_with_len}
use Rattle.intr_unit.specs.Interrupts.{Interrupts, reset_of}
use Rattle.intr_unit.specs.declared.group.Group.TheVariants.{Pf, Vf}
use Rattle.register_file.proofs.groups.Groups.new.Goals as goal

one_more : (xs : List Interrupts) (i v : ℕ) (x : Interrupts) → i ≡ v → i < length xs → x ≡ reset_of (Vf v)
    → ((k : ℕ) → k < v → get_or xs k (reset_of Pf) ≡ reset_of (Vf k)) → (k : ℕ) → k < v + 1
    → get_or (set xs i x) k (reset_of Pf) ≡ reset_of (Vf k)
one_more xs i v x e b is before k h =
    elim (cases_eq k i) as (λ _. get_or (set xs i x) k (reset_of Pf) ≡ reset_of (Vf k)) [
      | inl f ↦ rw f (get_or-set_same xs i x (reset_of Pf) b ∙ is ∙ ap (λ n. reset_of (Vf n)) (sym e))
      | inr ne ↦ get_or-set_other xs i k x (reset_of Pf) ne ∙ before k (omega arith)
    ]

numbered : (xs : List Interrupts) → length xs ≡ 64 → ((k : ℕ) → k < 64 → get_or xs k (reset_of Pf) ≡ reset_of (Vf k))
    → xs ≡ map (λ v. reset_of (Vf v)) (range_with_len 0 64)
numbered xs all each =
    ext_get_or (reset_of Pf) xs (map (λ v. reset_of (Vf v)) (range_with_len 0 64)) all
    (λ k b. let small : k < 64 = omega arith in
    each k small ∙ sym (get_or-map-range_with_len (λ v. reset_of (Vf v)) 0 64 k k (reset_of Pf) small (zero-add k)))

pub loop-v-preserved : goal.loop-v-preserved
loop-v-preserved c =
    record {
      all = length-set c.loop-v.vf c.from.result c.new.result ∙ c.loop-v.invariant.all;
      numbered = one_more c.loop-v.vf c.from.result c.loop-v.v c.new.result c.from.ensures (omega arith) c.new.ensures
          c.loop-v.invariant.numbered;
    }

pub invariant_of-result : goal.invariant_of-result
invariant_of-result c =
    record {
      all = c.loop-v.invariant.all;
      pf = ap (λ s. s.group) c.new-2.ensures;
      vf = λ v b.
          let there : v < length c.loop-v.vf = omega arith in
          ap (λ s. s.group)
          (get_or_default c.loop-v.vf v (reset_of (Vf v)) (reset_of Pf) there
          ∙ c.loop-v.invariant.numbered v (omega arith));
    }

pub returns : goal.returns
returns c =
    let vf = numbered c.loop-v.vf c.loop-v.invariant.all (λ k b. c.loop-v.invariant.numbered k (omega arith)) in
    λ k. record { pf = c.new-2.ensures k; vf = vf k }
