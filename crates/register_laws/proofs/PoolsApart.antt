-- Two pools have nothing in common except the physical function's mailbox cause.
use Rattle.std.proofs.Common.{◌≡◌, ◌≢◌, ℕ, ◌*◌, ◌/◌, true, false, ◌==◌, Option, Some, None, refl, sym, ◌∙◌, inl, inr}
use Rattle.std.proofs.lemmas.Bool.{both_ways, or_cases, eqb-true, ne_eqb}
use Rattle.register_file.specs.RegTable.declared.bank.Bank.TheVariants as bank
use Rattle.register_file.specs.VfMap.Owner.{is_pool, is_of_pool, is_of_pool_by, has_queue}
use Rattle.register_file.specs.VfMap.Pools.{pool_of}
use Rattle.register_laws.specs.Prelude.{Bank, Group, Mode, Pf, Vf, by_sending, is_group, row_of}
use Rattle.register_laws.specs.Agreement.{IsShared, PoolsHaveNothingInCommon, MissedAgreementStands}
use Rattle.register_laws.specs.Footprint.{Misses, pool_has, pool_changes}
use Rattle.register_laws.proofs.Covers.{misses-either}
use Rattle.register_laws.proofs.Footprints.{word_stands}
use Rattle.register_laws.proofs.MailPools.{sending_misses, sending_apart}

-- A value that equals one number doesn't equal another.
not_both : (v w n : ℕ) → v ≢ w → (n == w) ≡ true → (n == v) ≡ false
not_both v w n apart is = ne_eqb n v (λ same. apart (sym same ∙ eqb-true n w is))

one_pool : (v w : ℕ) (o : Option ℕ) → v ≢ w → is_pool w o ≡ true → is_pool v o ≡ false
one_pool v w None apart is = refl
one_pool v w (Some pool) apart is = not_both v w pool apart is

queue_missed : (mode : Mode) (v w queue : ℕ) → v ≢ w → has_queue mode w queue ≡ true → has_queue mode v queue ≡ false
queue_missed mode v w queue apart is = one_pool v w (pool_of mode queue) apart is

place_missed : (b : Bank) (mode : Mode) (v w i : ℕ) → v ≢ w → is_of_pool_by b mode w i ≡ true
    → is_of_pool_by b mode v i ≡ false
place_missed bank.Device mode v w i apart is = refl
place_missed bank.Counters mode v w i apart is = refl
place_missed bank.Receive mode v w i apart is = queue_missed mode v w i apart is
place_missed bank.Transmit mode v w i apart is = queue_missed mode v w i apart is
place_missed bank.Interrupts mode v w i apart is = refl
place_missed bank.VfInterrupts mode v w i apart is = not_both v w i apart is
place_missed bank.Pool mode v w i apart is = not_both v w i apart is
place_missed bank.VfCounters mode v w i apart is = not_both v w i apart is
place_missed bank.Vectors mode v w i apart is = queue_missed mode v w (2 * i) apart is
place_missed bank.Messages mode v w i apart is = not_both v w (i / 16) apart is

group_missed : (v w : ℕ) (g : Group) → v ≢ w → is_group (Vf w) g ≡ true → is_group (Vf v) g ≡ false
group_missed v w Pf apart is = refl
group_missed v w (Vf u) apart is = ne_eqb v u (λ same. apart (same ∙ sym (eqb-true w u is)))

pools_have_apart : (mode : Mode) (v w : ℕ) → v ≢ w → Misses (pool_has mode v) (pool_has mode w)
pools_have_apart mode v w apart = record {
  bits = λ p bit is. place_missed (row_of p.row).bank mode v w p.index apart is;
  wanted = λ dir queue is. queue_missed mode v w queue apart is;
  reported = λ g is. group_missed v w g apart is;
}

pub pools_miss : (mode : Mode) (v w : ℕ) → v ≢ w → Misses (pool_changes mode v) (pool_has mode w)
pools_miss mode v w apart =
    misses-either (pool_has mode v) (by_sending v) (pool_has mode w) (pools_have_apart mode v w apart)
    (sending_misses mode v w)

pub pools_apart : PoolsHaveNothingInCommon
pools_apart mode v w apart = record {
  bits = λ p bit own others. elim (or_cases (is_of_pool mode w p) ((by_sending w).bits p bit) others) as
      (λ _. IsShared p bit) [
        | inl has ↦ absurd (both_ways _ ((pools_miss mode v w apart).bits p bit has) own)
        | inr sends ↦ elim (or_cases (is_of_pool mode v p) ((by_sending v).bits p bit) own) as (λ _. IsShared p bit) [
          | inl has ↦ absurd (both_ways _ ((sending_misses mode w v).bits p bit has) sends)
          | inr mine ↦ sending_apart v w apart p bit mine sends
        ]
      ];
  seen = pools_miss mode v w apart;
}

pub agreement_stands : MissedAgreementStands
agreement_stands f g a b then_a then_b out left right same = record {
  words = λ p is.
      let none = λ (bit : ℕ). out.bits p bit is in
      word_stands left p none ∙ same.words p is ∙ sym (word_stands right p none);
  wanted = λ dir queue is. left.wanted dir queue (out.wanted dir queue is) ∙ same.wanted dir queue is
      ∙ sym (right.wanted dir queue (out.wanted dir queue is));
  reported = λ h is. left.reported h (out.reported h is) ∙ same.reported h is
      ∙ sym (right.reported h (out.reported h is));
}
