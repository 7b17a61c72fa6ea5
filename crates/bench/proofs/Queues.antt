-- The tests of a closed history, related to a worker's queue.
use Rattle.std.proofs.Common.{◌≡◌, ℕ, Bool, true, false, List, subst}
use Rattle.std.specs.Prelude.{◌↔◌, IsTrue}
use Rattle.std.proofs.lemmas.Bool.{both_ways}
use Rattle.nic_device.specs.declared.event.Port.TheVariants.{Pf}
use Rattle.pmd.specs.Beginning.{BeginsWell}
use Rattle.pmd.specs.DeviceLock.Alone.{LeavesAlone}
use Rattle.pmd.specs.DeviceLock.declared.alone.Watched.{Watched}
use Rattle.pmd.specs.DeviceLock.declared.entry.Entry.{Entry}
use Rattle.pmd.specs.declared.beginning.Given.{Given}
use Rattle.bench.specs.Summary.{HasItsQueue, given_of, watched_of}

abbrev watched : ℕ → ℕ → Watched
watched pass queue = record { vfs = 0; pass = pass; queue = queue }

abbrev given : ℕ → Given
given queue = record { port = Pf; queue = queue; frame = 1518 }

module _ (worker queue : ℕ) (h g : List Entry) (alone : Bool) (same : queue ≡ worker) (entries : g ≡ h)
    (alone_says : IsTrue alone ↔ LeavesAlone (watched worker queue) h) where
  left_alone : IsTrue alone ↔ LeavesAlone (watched_of worker) h
  left_alone = subst (λ q. IsTrue alone ↔ LeavesAlone (watched worker q) h) same alone_says

  -- If a queue isn't left alone, the worker lacks its queue.
  pub lacks_queue : alone ≡ false → IsTrue alone ↔ HasItsQueue worker h
  lacks_queue other = ((λ is. absurd (both_ways alone other is)), λ x. left_alone.1 x.alone)

  -- If a queue is left alone, the worker has its queue exactly if its driver begins well.
  pub has_queue : alone ≡ true → (begins : Bool)
      → IsTrue begins ↔ BeginsWell (watched worker queue) 0 (given queue) g → IsTrue begins ↔ HasItsQueue worker h
  has_queue left begins begins_says =
      let begins_well : IsTrue begins ↔ BeginsWell (watched_of worker) 0 (given_of worker) h =
      subst (λ (l : List Entry). IsTrue begins ↔ BeginsWell (watched_of worker) 0 (given_of worker) l) entries
      (subst (λ q. IsTrue begins ↔ BeginsWell (watched worker q) 0 (given q) g) same begins_says) in (
        λ is. record { alone = left_alone.0 left; begins = begins_well.0 is },
        λ x. begins_well.1 x.begins,
      )
