-- A worker's reports of the packets that it received.
use Rattle.std.specs.Prelude.{ℕ, suc, List, [], ◌∷◌, length}
use Rattle.pmd_driver.specs.PmdAccess.Packet.{Kept}
use Rattle.pmd.specs.declared.reports.Report.{Report}

-- The report of a packet from this queue; `number` packets came before it.
abbrev pub report_of : ℕ → ℕ → Kept → Report
report_of queue number k = record { queue = queue; number = number; len = length k.bytes; hash = k.hash }

-- The reports of packets in order; `number` packets came before the first.
abbrev pub reports_from : ℕ → ℕ → List Kept → List Report
reports_from queue number [] = []
reports_from queue number (k ∷ packets) = report_of queue number k ∷ reports_from queue (suc number) packets

-- The reports of packets in order.
abbrev pub reports_of : ℕ → List Kept → List Report
reports_of queue packets = reports_from queue 0 packets
