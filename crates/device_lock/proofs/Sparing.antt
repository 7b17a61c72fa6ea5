-- Lemmas: the test of an entry decides whether it leaves a queue alone.
use Rattle.std.proofs.Common.{◌≡◌, ◌≢◌, ℕ, zero, suc, ◌+◌, ◌/◌, ◌<◌, ◌≤◌, inl, inr, Bool, true, false, not, ◌&&◌, ◌||◌, refl, sym, ◌∙◌, arith, Option, Some, None}
use Rattle.std.specs.Prelude.{◌==◌, ◌↔◌, IsTrue, IsFalse}
use Rattle.std.proofs.lemmas.Bool.{and_parts, and_from, and_cases, not-true, not_from_false, or_cases, or_left, or_right, eqb-true, eqb-false, eq-eqb, ne_eqb, cases_eq, cases_lt}
use Rattle.nic_device.specs.RegTable.Rows.{row_of}
use Rattle.nic_device.specs.RegTable.declared.place.Place.{Place}
use Rattle.nic_device.specs.VfMap.Owner.{has_queue, is_receive, is_transmit}
use Rattle.nic_device.specs.VfMap.declared.mode.Mode.{Mode}
use Rattle.nic_device.specs.RegisterFile.Access.{asks_pool_reset}
use Rattle.nic_device.specs.DmaArena.Block.{Block}
use Rattle.nic_device.specs.declared.event.Event.{Event}
use Rattle.nic_device.specs.declared.event.Event.TheVariants as event
use Rattle.nic_device.specs.declared.event.Reply.{Reply}
use Rattle.nic_device.specs.declared.event.Reply.TheVariants as reply
use Rattle.device_lock.specs.declared.alone.Watched.{Watched}
use Rattle.device_lock.specs.declared.entry.Entry.{Entry}
use Rattle.device_lock.specs.Alone.{Blocks, place_at, Spares, SparesIfSome, LeavesRegisters, LeavesBlocks, IsClear, WritesOutside, EntryLeavesAlone}
use Rattle.device_lock.proofs.Ranges.{inside_touched, block_has}
use Rattle.device_lock.specs.Watching.{spares, spares_if_some, leaves_registers, leaves_blocks, none_of, touched, is_clear, writes_outside, leaves_alone}

-- How tests of two conditions decide that both hold, or that one holds unless the other does.

both : (a b : Bool) (P Q : Type 0) → ((a ≡ true) ↔ P) → ((b ≡ true) ↔ Q) → ((a && b) ≡ true) ↔ (P × Q)
both a b P Q i j =
    ((λ h. let p = and_parts a b h in (i.0 p.0, j.0 p.1)), λ h. and_from a b (i.1 h.0) (j.1 h.1))

or_else : (on queue : ℕ) (b : Bool) (P : Type 0) → ((b ≡ true) ↔ P)
    → (((on == queue) || b) ≡ true) ↔ (on ≢ queue → P)
or_else on queue b P i = (
  (λ h ne. elim (or_cases _ _ h) [ inl same ↦ absurd (ne (eqb-true on queue same)) | inr other ↦ i.0 other ]),
  (λ h. elim (cases_eq on queue) [
    | inl same ↦ or_left _ _ (eq-eqb on queue same)
    | inr ne ↦ or_right _ _ (i.1 (h ne))
  ]),
)

no_more : (b c : Bool) → b ≡ c → (not b ≡ true) ↔ (c ≡ false)
no_more b c same = ((λ h. sym same ∙ not-true b h), λ h. not_from_false b (same ∙ h))

-- The test that two conditions don't both hold.
excludes : (a b : Bool) → (not (a && b) ≡ true) ↔ (IsTrue a → IsFalse b)
excludes a b = (
  (λ h is. elim (and_cases a b (not-true _ h))
      [ inl off ↦ (let e : true ≡ false = sym is ∙ off in cc) | inr off ↦ off ]),
  (λ h. not_from_false _ (by_first a b h)),
)
  where
    by_first : (a b : Bool) → (IsTrue a → IsFalse b) → (a && b) ≡ false
    by_first true b h = h refl
    by_first false b h = refl

-- The test of a write to a register decides whether the write changes nothing that the queue relies on.

excludes_place : (a : Bool) (i queue : ℕ) → (not (a && (i == queue)) ≡ true) ↔ (IsTrue a → i ≢ queue)
excludes_place a i queue =
    let e = excludes a (i == queue) in
    ((λ h is. eqb-false i queue (e.0 h is)), λ h. e.1 (λ is. ne_eqb i queue (h is)))

pub spares_agree : (queue : ℕ) (mode : Mode) (p : Place) (word : ℕ)
    → (spares queue mode p word ≡ true) ↔ Spares queue mode p word
spares_agree queue mode p word =
    let receive = excludes_place (is_receive p.row) p.index queue in
    let transmit = excludes_place (is_transmit p.row) p.index queue in
    let pool = excludes (asks_pool_reset (row_of p.row).kind word) (has_queue mode p.index queue) in (
      (λ h.
          let a = and_parts _ _ h in
          let b = and_parts _ _ a.1 in
          let c = and_parts _ _ b.1 in
          record {
            setting = not-true _ a.0;
            receive = receive.0 b.0;
            transmit = transmit.0 c.0;
            pool = pool.0 c.1;
          }),
      (λ r.
          and_from _ _ (not_from_false _ r.setting)
          (and_from _ _ (receive.1 r.receive) (and_from _ _ (transmit.1 r.transmit) (pool.1 r.pool)))),
    )

found_agree : (queue : ℕ) (mode : Mode) (o : Option Place) (word : ℕ)
    → (spares_if_some queue mode o word ≡ true) ↔ SparesIfSome queue mode o word
found_agree queue mode None word = ((λ h. tt), λ h. refl)
found_agree queue mode (Some p) word = spares_agree queue mode p word

registers_agree : (w : Watched) (mode : Mode) (e : Event Block)
    → (leaves_registers w mode e ≡ true) ↔ LeavesRegisters w mode e
registers_agree w mode (event.Write port number word) =
    found_agree w.queue mode (place_at mode w.vfs port number) word
registers_agree w mode other = ((λ h. tt), λ h. refl)

-- The blocks that a table marks are those to be left alone.
module _ (table mine : Blocks) (same : (number : ℕ) → table number ≡ mine number) where
  blocks_agree : (e : Event Block) → (leaves_blocks table e ≡ true) ↔ LeavesBlocks mine e
  blocks_agree (event.Lend block) = no_more _ _ (same block.number)
  blocks_agree (event.Take number) = no_more _ _ (same number)
  blocks_agree (event.Poke16 a bytes) = no_more _ _ (same (a / 2048))
  blocks_agree other = ((λ h. tt), λ h. refl)

  none_each : (n c k : ℕ) → none_of table n c ≡ true → n ≤ k → k < n + c → mine k ≡ false
  unfolding none_of
  none_each n zero k h low high = absurd (omega arith)
  none_each n (suc c) k h low high =
      let p = and_parts _ _ h in
      elim (cases_eq k n) [
        | inl e ↦ rw e (sym (same n) ∙ not-true _ p.0)
        | inr ne ↦ none_each (n + 1) c k p.1 (omega (arith, ne)) (omega arith)
      ]

  none_from : (n c : ℕ) → ((k : ℕ) → n ≤ k → k < n + c → mine k ≡ false) → none_of table n c ≡ true
  unfolding none_of
  none_from n zero h = refl
  none_from n (suc c) h =
      and_from _ _ (not_from_false _ (same n ∙ h n (omega arith) (omega arith)))
      (none_from (n + 1) c (λ k low high. h k (omega arith) (omega arith)))

  clear_agree : (at len : ℕ) → (is_clear table at len ≡ true) ↔ IsClear mine at len
  clear_agree at len = (
    (λ h a low high.
        let i = inside_touched at len a low high in
        none_each (at / 2048) (touched at len) (a / 2048) h i.0 i.1),
    (λ h. none_from (at / 2048) (touched at len) (λ k low high.
        let b = block_has at len k low high (cases_lt 0 len) in
        rw (← b.3) (h b.0 b.1 b.2))),
  )

  steps_agree : (queue : ℕ) (r : Reply Block) → (writes_outside queue table r ≡ true) ↔ WritesOutside queue mine r
  steps_agree queue (reply.Wrote on slot end desc at len) =
      or_else on queue _ _ (both _ _ _ _ (clear_agree at len) (clear_agree desc 16))
  steps_agree queue (reply.Advanced on slot (Some back)) = or_else on queue _ _ (no_more _ _ (same (back / 2048)))
  steps_agree queue (reply.Sent on len (Some back)) = or_else on queue _ _ (no_more _ _ (same (back / 2048)))
  steps_agree queue other = ((λ h. tt), λ h. refl)

  pub entry_agrees : (w : Watched) (mode : Mode) (e : Entry)
      → (leaves_alone w table mode e ≡ true) ↔ EntryLeavesAlone w mine mode e
  entry_agrees w mode e =
      let foreign = or_else e.pass w.pass _ _ (both _ _ _ _ (registers_agree w mode e.event) (blocks_agree e.event)) in
      let steps = steps_agree w.queue e.reply in (
        (λ h.
            let p = and_parts _ _ h in
            record {
              registers = λ ne. (foreign.0 p.0 ne).0;
              blocks = λ ne. (foreign.0 p.0 ne).1;
              steps = steps.0 p.1;
            }),
        (λ r. and_from _ _ (foreign.1 (λ ne. (r.registers ne, r.blocks ne))) (steps.1 r.steps)),
      )
