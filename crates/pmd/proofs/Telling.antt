-- Lemmas: packets are reported one after the other.
use Rattle.std.proofs.Common.{◌≡◌, ℕ, suc, ◌+◌, List, [], ◌∷◌, ◌++◌, length, refl, sym, ap, ◌∙◌, arith}
use Rattle.pmd_driver.specs.PmdAccess.Packet.{Kept}
use Rattle.pmd.specs.declared.reports.Report.{Report}
use Rattle.pmd.specs.Reported.{report_of, reports_from, reports_of}

from_more : (queue number : ℕ) (packets : List Kept) (k : Kept)
    → reports_from queue number (packets ++ k ∷ [])
    ≡ reports_from queue number packets ++ report_of queue (number + length packets) k ∷ []
from_more queue number [] k =
    let e : number ≡ number + 0 = omega arith in
    ap (λ (n : ℕ). let l : List Report = report_of queue n k ∷ [] in l) e
from_more queue number (first ∷ packets) k =
    let e : suc number + length packets ≡ number + suc (length packets) = omega arith in
    ap (λ (l : List Report). report_of queue number first ∷ l)
    (from_more queue (suc number) packets k
    ∙ ap (λ (n : ℕ). reports_from queue (suc number) packets ++ report_of queue n k ∷ []) e)

-- The reports of some packets, followed by the report of one more packet, are the reports of all of them.
pub reported_more : (queue : ℕ) (packets : List Kept) (k : Kept) (reports : List Report)
    → reports ≡ reports_of queue packets
    → reports ++ report_of queue (length packets) k ∷ [] ≡ reports_of queue (packets ++ k ∷ [])
reported_more queue packets k reports reported =
    let e : length packets ≡ 0 + length packets = omega arith in
    ap (λ (l : List Report). l ++ report_of queue (length packets) k ∷ []) reported
    ∙ ap (λ (n : ℕ). reports_of queue packets ++ report_of queue n k ∷ []) e
    ∙ sym (from_more queue 0 packets k)

-- The number of reports is the number of packets.
pub reported_count : (queue number : ℕ) (packets : List Kept)
    → length (reports_from queue number packets) ≡ length packets
reported_count queue number [] = refl
reported_count queue number (k ∷ packets) = ap (λ (n : ℕ). suc n) (reported_count queue (suc number) packets)
