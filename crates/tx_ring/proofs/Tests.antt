-- Lemmas about the tests that a slot must pass, in order.
use Rattle.std.proofs.Common.{◌≡◌, ◌≢◌, ℕ, ◌+◌, ◌<◌, ◌≤◌, true, false, length, refl, arith}
use Rattle.std.specs.Prelude.{nat_lt}
use Rattle.std.proofs.lemmas.Bool.{eq-eqb, ne_eqb}
use Rattle.std.proofs.lemmas.Bool.Decides.{nat_tests}
use Rattle.tx_ring.specs.Fetch.{data_fault_of, descriptor_fault_of, fault_of, fetch_of}
use Rattle.tx_ring.specs.Laws.{command_at, TestLaw}

below : (a b : ℕ) → a < b → nat_lt a b ≡ true
below a b lt = grind (arith, nat_tests)

not_below : (a b : ℕ) → b ≤ a → nat_lt a b ≡ false
not_below a b le = grind (arith, nat_tests)

pub tests_in_order : TestLaw
unfolding fetch_of fault_of descriptor_fault_of data_fault_of
tests_in_order m staged r tx =
    let c = command_at m r in
    let sum : ℕ = length staged + c.len in
    record {
      outside = λ out. rw out refl;
      descriptor = λ inside absent. rw (inside, absent) refl;
      legacy = λ d legacy. rw (d.inside, d.lent, legacy) refl;
      type = λ d extended two three. rw (d.inside, d.lent, extended, ne_eqb c.kind 2 two, ne_eqb c.kind 3 three) refl;
      context =
          λ d. rw (d.descriptor.inside, d.descriptor.lent, d.extended, eq-eqb c.kind 2 d.type)
          (rw (eq-eqb c.kind 2 d.type) refl);
      offload = λ d offload. rw (d.descriptor.inside, d.descriptor.lent, d.extended, d.type, offload) refl;
      too_long =
          λ d plain long. rw
          (d.descriptor.inside, d.descriptor.lent, d.extended, d.type, plain, below tx.limit sum long) refl;
      buffer = λ d plain room absent.
          rw (d.descriptor.inside, d.descriptor.lent, d.extended, d.type, plain, not_below tx.limit sum room, absent)
          refl;
      report = λ d plain room lent asked absent.
          rw (
            d.descriptor.inside,
            d.descriptor.lent,
            d.extended,
            d.type,
            plain,
            not_below tx.limit sum room,
            lent,
            asked,
            absent,
          ) refl;
      sent = λ d s.
          let other : c.kind ≢ 2 = omega (arith, d.type) in
          rw (
            d.descriptor.inside,
            d.descriptor.lent,
            d.extended,
            ne_eqb c.kind 2 other,
            eq-eqb c.kind 3 d.type,
            s.no_offload,
            not_below tx.limit sum s.room,
            s.buffer,
            s.report,
          )
          (rw (ne_eqb c.kind 2 other) refl);
    }
