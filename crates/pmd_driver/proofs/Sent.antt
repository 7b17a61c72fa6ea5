-- Lemmas: the calls that send a packet are the halves' own, and lend only the driver's own blocks.
use Rattle.std.proofs.Common.{◌≡◌, ◌⊎◌, inl, inr, Bool, true, false, ◌&&◌, not, List, ◌++◌, refl, sym, subst}
use Rattle.pmd_access.specs.NicDevice.DmaArena.Numbers.{Numbers, is_own}
use Rattle.pmd_access.specs.Bufs.{numbers_of}
use Rattle.pmd_access.specs.Home.{AreOut}
use Rattle.pmd_access.specs.DeviceLock.declared.entry.Call.{Call}
use Rattle.pmd_access.specs.declared.fault.PmdFault.{PmdFault}
use Rattle.pmd_access.specs.declared.packet.Packet.{Packet}
use Rattle.pmd_tx.specs.Plays as transmit
use Rattle.pmd_tx.specs.Sending.{Sender, parts_for}
use Rattle.pmd_tx.specs.Sends.{gate_of, goes_home, is_bad_size, outgoing_of, IsShut}
use Rattle.pmd_driver.specs.Apart.{DrivesRings, FindsBy, OwnsSame}
use Rattle.pmd_driver.specs.Halves.{halves_of}
use Rattle.pmd_driver.specs.Running.{Running, IsUp, receives, rings_out}
use Rattle.pmd_driver.proofs.Apart.{AllMaySend, take_may}
use Rattle.pmd_driver.proofs.Both.{outstanding_may, packet_may, rings_still, transmit_drives}
use Rattle.pmd_driver.proofs.Finding.{fault_by, still_by}
use Rattle.pmd_driver.proofs.Sending.{way_out}

-- The packet fails its check, or its blocks can be returned to the arena.

module _ (q : Running) (p : Packet) (up : IsUp q) where
  abbrev pub Way : Type 0
  Way = IsShut (gate_of q.transmit q.arena (receives q p) p) ⊎ AreOut q.arena (numbers_of p.bufs ++ rings_out q)

  by_tests : (bad home : Bool) → is_bad_size q.transmit p ≡ bad
      → (goes_home q.transmit q.arena p && not (receives q p)) ≡ home → Way
  by_tests true home b h = inl (rw b tt)
  by_tests false false b h = inl (rw (b, h) tt)
  by_tests false true b h = inr (way_out q p up h)

  pub way : Way
  way = by_tests _ _ refl refl

  -- The transmit half may lend the blocks of a packet that can be released.
  pub sent_may : AreOut q.arena (numbers_of p.bufs ++ rings_out q)
      → AllMaySend (is_own q.arena) q.receive (outgoing_of p).blocks
  sent_may goes =
      take_may (is_own q.arena) q.receive (parts_for p.len) (numbers_of p.bufs)
      (packet_may q (numbers_of p.bufs) goes)

module _ (old new : List Call) (q : Running) (p : Packet) (w : Sender) (b : Numbers) (up : IsUp q)
    (shut : IsShut (gate_of q.transmit q.arena (receives q p) p)
    → (new ≡ old) × (record q { arena = b; transmit = w } ≡ q))
    (owns : OwnsSame q.arena b)
  where
    abbrev sent : Running
    sent = record q { arena = b; transmit = w }

    abbrev Plays : Type 0
    Plays = transmit.PlaysWith (outgoing_of p).blocks old q.transmit new w

    -- A packet that fails its check changes nothing.
    stays : (new ≡ old) × (sent ≡ q) → DrivesRings old q new sent
    stays same =
        subst (λ (made : List Call). DrivesRings old q made sent) (sym same.0)
        (subst (λ (s : Running). DrivesRings old q old s) (sym same.1) (rings_still old q))

    drives_by : Way q p up → Plays → DrivesRings old q new sent
    drives_by (inl none) plays = stays (shut none)
    drives_by (inr goes) plays =
        transmit_drives old new (outgoing_of p).blocks q sent up (sent_may q p up goes) plays owns refl

    pub sent_drives : Plays → DrivesRings old q new sent
    sent_drives = drives_by (way q p up)

    finds_by : Way q p up → (f : PmdFault) → transmit.FaultsBy f (outgoing_of p).blocks old q.transmit new
        → FindsBy f (is_own q.arena) old (halves_of q) new
    finds_by (inl none) f faults =
        still_by f (is_own q.arena) (outgoing_of p).blocks old new (halves_of q) (shut none).0 faults
    finds_by (inr goes) f faults =
        fault_by f (is_own q.arena) (outgoing_of p).blocks old new (halves_of q) (sent_may q p up goes)
        (outstanding_may q up) faults

    pub sent_finds : (f : PmdFault) → transmit.FaultsBy f (outgoing_of p).blocks old q.transmit new
        → FindsBy f (is_own q.arena) old (halves_of q) new
    sent_finds = finds_by (way q p up)
