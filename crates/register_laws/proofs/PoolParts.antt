-- Lemmas about what a pool reset does to each part of the registers.
use Rattle.std.proofs.Common.{◌≡◌, ℕ, ◌/◌, Bool, false, ◌==◌, ◌&&◌, ◌||◌, List, Option, Some, None, refl, ap, sym, ◌∙◌}
use Rattle.std.specs.Prelude.{fold}
use Rattle.std.proofs.Math.Bool.{or-false, and-false}
use Rattle.register_file.specs.RegTable.declared.bank.Bank.TheVariants as bank
use Rattle.register_file.specs.RegTable.declared.rows.RowId.TheVariants as row
use Rattle.register_file.specs.PoolReset.{Renewal, function_renewals, side_renewals, vector_renewals, has_renewal, is_renewed, rows_reset, side_reset, queue_reset, vectors_reset, function_reset, queues_reset}
use Rattle.register_file.specs.declared.owner.Owner.TheVariants as owner
use Rattle.register_laws.specs.Prelude.{Bank, Dir, Group, Registers, RowId, Rx, Tx, Vf, is_group, is_owner, owner_in}
use Rattle.register_laws.specs.Prelude.{range_with_len, row_of}
use Rattle.register_laws.specs.Footprint.{Footprint, nothing, either, of_owner, of_side, renewed_of}
use Rattle.register_laws.proofs.Renewed.{IsRenewed, IsSame, any_of, wanted_of, reported_of, renewed-either, renewed-same, renewed-with_wanted, renewed-with_reported, taken-refl, taken-either, taken-each}
use Rattle.register_laws.proofs.RowsReset.{at_rows, rows_words, renewed-rows}

-- The pool's single registers, and its words of the mailbox memory.
abbrev pub has_own : Bank → (v index : ℕ) → Bool
has_own bank.VfInterrupts v index = v == index
has_own bank.Pool v index = v == index
has_own bank.VfCounters v index = v == index
has_own bank.Messages v index = v == index / 16
has_own other v index = false

abbrev pub of_function : ℕ → Footprint
of_function v =
    record {
      bits = λ p bit. has_own (row_of p.row).bank v p.index;
      wanted = λ dir queue. false;
      reported = is_group (Vf v);
    }

-- The table renews exactly these rows for the function.
own_row : (x : RowId) (v index bit : ℕ)
    → (has_renewal function_renewals x bit && v == index) ≡ (is_renewed x bit && has_own (row_of x).bank v index)
own_row row.Ctrl v index bit = refl
own_row other v index bit = refl

same_function : (v : ℕ) → IsSame (either (at_rows function_renewals v) (reported_of (Vf v)))
    (renewed_of (of_function v))
same_function v = record {
  bits = λ p bit. or-false ((at_rows function_renewals v).bits p bit) ∙ rows_words function_renewals v p bit
      ∙ own_row p.row v p.index bit;
  wanted = λ dir queue. refl;
  reported = λ g. refl;
}

pub renewed-function : (r : Registers) (v : ℕ) → IsRenewed (renewed_of (of_function v)) r (function_reset r v)
renewed-function r v =
    let rows : List Renewal = function_renewals in
    let reset : Registers = rows_reset r rows v in
    renewed-same (either (at_rows rows v) (reported_of (Vf v))) (renewed_of (of_function v)) r (function_reset r v)
    (same_function v)
    (renewed-either (at_rows rows v) (reported_of (Vf v)) r reset (function_reset r v)
    (renewed-rows rows r v) (renewed-with_reported reset (Vf v)))

-- A side of a queue.
side_row : (dir : Dir) (x : RowId) (queue index bit : ℕ)
    → (has_renewal (side_renewals dir) x bit && queue == index)
    ≡ (is_renewed x bit && is_owner (owner.Side dir queue) (owner_in (row_of x).bank index))
side_row Rx row.Ctrl queue index bit = refl
side_row Rx row.Pvfmailbox queue index bit = sym (and-false _)
side_row Rx other queue index bit = refl
side_row Tx row.Ctrl queue index bit = refl
side_row Tx row.Pvfmailbox queue index bit = sym (and-false _)
side_row Tx other queue index bit = refl

none_wanted : (dir other : Dir) (queue number : ℕ) → (at_rows (side_renewals dir) queue).wanted other number ≡ false
none_wanted Rx other queue number = refl
none_wanted Tx other queue number = refl

none_reported : (dir : Dir) (queue : ℕ) (g : Group) → (at_rows (side_renewals dir) queue).reported g ≡ false
none_reported Rx queue g = refl
none_reported Tx queue g = refl

same_side : (dir : Dir) (queue : ℕ)
    → IsSame (either (at_rows (side_renewals dir) queue) (wanted_of dir queue)) (renewed_of (of_side dir queue))
same_side dir queue = record {
  bits = λ p bit. or-false ((at_rows (side_renewals dir) queue).bits p bit)
      ∙ rows_words (side_renewals dir) queue p bit ∙ side_row dir p.row queue p.index bit;
  wanted = λ other number. ap (λ b. b || is_owner (owner.Side dir queue) (owner.Side other number))
      (none_wanted dir other queue number);
  reported = λ g. or-false _ ∙ none_reported dir queue g;
}

renewed-side : (dir : Dir) (r : Registers) (queue : ℕ)
    → IsRenewed (renewed_of (of_side dir queue)) r (side_reset dir r queue)
renewed-side dir r queue =
    let rows : List Renewal = side_renewals dir in
    let reset : Registers = rows_reset r rows queue in
    renewed-same (either (at_rows rows queue) (wanted_of dir queue)) (renewed_of (of_side dir queue)) r
    (side_reset dir r queue)
    (same_side dir queue)
    (renewed-either (at_rows rows queue) (wanted_of dir queue) r reset (side_reset dir r queue)
    (renewed-rows rows r queue) (renewed-with_wanted dir reset queue))

-- The queues of a pool, and their vectors.
abbrev pub of_queue : ℕ → Footprint
of_queue queue = either (of_side Rx queue) (of_side Tx queue)

renewed-queue : (r : Registers) (queue : ℕ) → IsRenewed (renewed_of (of_queue queue)) r (queue_reset r queue)
renewed-queue r queue =
    let received : Registers = side_reset Rx r queue in
    taken-either (of_side Rx queue) (of_side Tx queue) r received (queue_reset r queue) (renewed-side Rx r queue)
    (renewed-side Tx received queue)

abbrev pub of_vectors : ℕ → Footprint
of_vectors index = of_owner (owner.Vectors index)

vector_row : (x : RowId) (n index bit : ℕ)
    → (has_renewal vector_renewals x bit && n == index)
    ≡ (is_renewed x bit && is_owner (owner.Vectors n) (owner_in (row_of x).bank index))
vector_row row.Ctrl n index bit = refl
vector_row row.Pvfmailbox n index bit = sym (and-false _)
vector_row other n index bit = refl

renewed-vectors : (r : Registers) (index : ℕ) → IsRenewed (renewed_of (of_vectors index)) r (vectors_reset r index)
renewed-vectors r index =
    renewed-same (at_rows vector_renewals index) (renewed_of (of_vectors index)) r (vectors_reset r index)
    (record {
      bits = λ p bit. rows_words vector_renewals index p bit ∙ vector_row p.row index p.index bit;
      wanted = λ dir queue. refl;
      reported = λ g. refl;
    })
    (renewed-rows vector_renewals r index)

abbrev pub of_queues : Option (ℕ × ℕ) → Footprint
of_queues None = nothing
of_queues (Some queues) =
    either (any_of of_queue (range_with_len queues.0 queues.1))
    (any_of of_vectors (range_with_len (queues.0 / 2) (queues.1 / 2)))

pub renewed-queues : (r : Registers) (o : Option (ℕ × ℕ)) → IsRenewed (renewed_of (of_queues o)) r (queues_reset r o)
renewed-queues r None = taken-refl r
renewed-queues r (Some queues) =
    let mine : List ℕ = range_with_len queues.0 queues.1 in
    let words : List ℕ = range_with_len (queues.0 / 2) (queues.1 / 2) in
    let reset : Registers = fold queue_reset r mine in
    taken-either (any_of of_queue mine) (any_of of_vectors words) r reset (fold vectors_reset reset words)
    (taken-each of_queue queue_reset renewed-queue mine r)
    (taken-each of_vectors vectors_reset renewed-vectors words reset)
