-- After a reset no frame is accepted.
use Rattle.std.proofs.Common.{◌≡◌, ℕ, ◌/◌, ◌%◌, ◌<◌, ◌^◌, ◌==◌, ◌&&◌, ◌||◌, Bool, true, false, cond, List}
use Rattle.std.proofs.Common.{Err, refl, ap, ◌∙◌, arith}
use Rattle.std.specs.Prelude.{is_some}
use Rattle.register_file.specs.RegTable.declared.rows.RowId.TheVariants.{Fctrl, Mcstctrl, Mta, Rah, Ral}
use Rattle.register_file.specs.Bits.{has_bit}
use Rattle.register_file.specs.Columns.{place}
use Rattle.register_file.specs.Registers.{reset_registers, word_of}
use Rattle.register_file.proofs.ResetWords.{word_at-reset}
use Rattle.rx_filter.specs.Address.{destination_low, destination_high, matches, first_match, is_broadcast, is_multicast}
use Rattle.rx_filter.specs.Address.{multicast_number, is_in_table, passes}
use Rattle.rx_filter.specs.Sorting.{sorted}
use Rattle.rx_filter.specs.Fields.{AV, BAM, MPE, UPE, MFE}
use Rattle.rx_filter.specs.declared.unwanted.Unwanted.TheVariants.{Filter}
use Rattle.rx_filter.proofs.Finding.{first_match-none}
use Rattle.rx_filter.proofs.Filtered.{sorted-refused}

abbrev let_in : (broadcast multicast by_broadcast by_multicast by_unicast found table : Bool) → Bool
let_in broadcast multicast by_broadcast by_multicast by_unicast found table =
    cond broadcast (by_broadcast || by_multicast)
    (cond multicast (by_multicast || found || table) (by_unicast || found))

let_in-none : (broadcast multicast : Bool) → let_in broadcast multicast false false false false false ≡ false
let_in-none true multicast = refl
let_in-none false true = refl
let_in-none false false = refl

matches-reset : (frame : List ℕ) (i : ℕ) → i < 128 → matches reset_registers frame i ≡ false
matches-reset frame i small =
    ap (λ word.
    has_bit AV word && word_of reset_registers Ral i == destination_low frame
    && word % 2 ^ 16 == destination_high frame) (word_at-reset (place Rah i) small)

pub sorted-reset : (frame : List ℕ) → sorted reset_registers frame ≡ Err Filter
unfolding passes
sorted-reset frame =
    let r = reset_registers in
    let control : word_of r Fctrl 0 ≡ 0 = word_at-reset (place Fctrl 0) (omega arith) in
    let number = multicast_number r frame in
    let table : is_in_table r frame ≡ false =
    ap (λ word. has_bit MFE word && has_bit (number % 32) (word_of r Mta (number / 32)))
    (word_at-reset (place Mcstctrl 0) (omega arith)) in
    let all = is_broadcast frame in
    let several = is_multicast frame in
    sorted-refused r frame
    (ap (λ word. let_in all several (has_bit BAM word) (has_bit MPE word) (has_bit UPE word)
    (is_some (first_match r frame)) (is_in_table r frame)) control
    ∙ ap (λ found. let_in all several false false false (is_some found) (is_in_table r frame))
    (first_match-none r frame (matches-reset frame))
    ∙ ap (λ there. let_in all several false false false false there) table
    ∙ let_in-none all several)
