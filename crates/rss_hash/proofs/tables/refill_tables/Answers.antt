use Rattle.std.proofs.Common.{◌≡◌, ◌*◌, ◌+◌, ◌<◌, inl, inr, [], length, set, slice_index, get_or, sym, ap, ◌∙◌, arith}
use Rattle.std.proofs.lemmas.Bool.{cases_eq, cases_lt}
use Rattle.std.proofs.lemmas.Grind.{get_or-set_at}
use Rattle.std.proofs.lemmas.List.{get_or-set_other, length-set}
use Rattle.rss_hash.specs.Bits.{bits_from}
use Rattle.rss_hash.specs.Tables.{half_share}
use Rattle.rss_hash.proofs.WindowTables.{choice_is_share}
use Rattle.rss_hash.proofs.tables.refill_tables.Goals as goal

pub loop-n-preserved : goal.loop-n-preserved
loop-n-preserved c =
    let n = c.loop-n.n in
    let key = c.from_words-key.result.0 in
    let tables = c.loop-n.tables in
    let row = c.choices.result in
    let within : n < length tables = omega arith in
    let second = c.next_window-second in
    let third = c.next_window-third in
    let fourth = c.next_window-fourth in
    let at_third : 4 * n + 1 + 1 ≡ 4 * n + 2 = omega arith in
    let at_fourth : 4 * n + 2 + 1 ≡ 4 * n + 3 = omega arith in
    let at_next : 4 * n + 3 + 1 ≡ 4 * (n + 1) = omega arith in
    let third_is : third.result ≡ bits_from key (4 * n + 2) 32 =
    third.ensures ∙ ap (λ k. bits_from key k 32) at_third in
    let fourth_is : fourth.result ≡ bits_from key (4 * n + 3) 32 =
    fourth.ensures ∙ ap (λ k. bits_from key k 32) at_fourth in
    record {
      whole = length-set tables n row ∙ c.loop-n.invariant.whole;
      written = λ m v below small passed.
          elim (cases_eq m n) as (λ _. slice_index (get_or (set tables n row) m []) v ≡ half_share key m v) [
            | inl here ↦
                ap (λ row. slice_index row v) (get_or-set_at tables n m row [] here within ∙ c.choices.ensures)
                ∙ choice_is_share c.loop-n.window second.result third.result fourth.result key n v small
                c.loop-n.invariant.next second.ensures third_is fourth_is
                ∙ ap (λ k. half_share key k v) (sym here)
            | inr other ↦
                ap (λ row. slice_index row v) (get_or-set_other tables n m row [] other)
                ∙ c.loop-n.invariant.written m v below small (
                elim passed [ inl before ↦ inl (omega (arith, before, other)) | inr after ↦ inr after ]
                )
          ];
      next = c.next_window-window.ensures ∙ ap (λ k. bits_from key k 32) at_next;
    }

pub returns : goal.returns
returns c = record {
  whole = c.loop-n.invariant.whole;
  entry = λ k v below small.
      c.loop-n.invariant.written k v below small (
      elim (cases_lt k c.loop-n.n) [ inl before ↦ inl before | inr after ↦ inr (omega (arith, below, after)) ]
      )
      ∙ ap (λ key. half_share key k v) c.from_words-key.ensures;
}
