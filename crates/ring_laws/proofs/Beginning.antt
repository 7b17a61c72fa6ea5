-- From which entry on a history counts for a driver, and how the queues are separated into pools at an entry.
use Rattle.std.proofs.Common.{◌≡◌, ℕ, false, refl, ap, List}
use Rattle.std.proofs.lemmas.Bool.{true≢false}
use Rattle.device_lock.specs.Alone.{mode_after, mode_set}
use Rattle.device_lock.specs.NicDevice.RegTable.Runs.{runs}
use Rattle.device_lock.specs.NicDevice.RegTable.declared.rows.RowId.TheVariants as row
use Rattle.device_lock.specs.NicDevice.declared.event.Event.TheVariants as event
use Rattle.ring_laws.specs.Begun.{DriversBegin, PoolsAreSet, PoolsAreReset, PoolsAreLeft, PoolsAreFollowed, PoolsStay}
use Rattle.ring_laws.specs.Begun.{is_of_mode, is_write}
use Rattle.ring_laws.specs.LocksPrelude.{Block, Entry, Event, Mode, RowId, mode_through}

pub begin : DriversBegin
begin pass e h = record { none = refl; one = refl }

pools_set : (vfs : ℕ) (mode : Mode) (pass word : ℕ) (h : List Entry) → PoolsAreSet vfs mode pass word h
unfolding runs
pools_set vfs mode pass word h = record {
  off = λ is. rw is refl;
  by_16 = λ is. rw is refl;
  by_32 = λ is. rw is refl;
  by_64 = λ is. rw is refl;
}

pools_reset : (vfs : ℕ) (mode : Mode) (pass word : ℕ) (h : List Entry) → PoolsAreReset vfs mode pass 0x00000 word h
unfolding runs
pools_reset vfs mode pass word h = record {
  bit_3 = λ is. rw is refl;
  bit_26 = λ isnt is. rw (isnt, is) refl;
  neither = λ isnt isnt_either. rw (isnt, isnt_either) refl;
}

pools_reset_again :
    (vfs : ℕ) (mode : Mode) (pass word : ℕ) (h : List Entry) → PoolsAreReset vfs mode pass 0x00004 word h
unfolding runs
pools_reset_again vfs mode pass word h = record {
  bit_3 = λ is. rw is refl;
  bit_26 = λ isnt is. rw (isnt, is) refl;
  neither = λ isnt isnt_either. rw (isnt, isnt_either) refl;
}

pub followed : PoolsAreFollowed
followed vfs mode pass word h =
    (pools_set vfs mode pass word h, pools_reset vfs mode pass word h, pools_reset_again vfs mode pass word h)

left_by : (mode : Mode) (r : RowId) (word : ℕ) → is_of_mode r ≡ false → mode_set mode r word ≡ mode
left_by mode row.GcrExt word isnt = absurd (true≢false isnt)
left_by mode row.Ctrl word isnt = absurd (true≢false isnt)
left_by mode other word isnt = refl

left_after : (vfs : ℕ) (mode : Mode) (e : Event Block) → is_write e ≡ false → mode_after vfs mode e ≡ mode
left_after vfs mode (event.Write port number word) isnt = absurd (true≢false isnt)
left_after vfs mode other isnt = refl

pools_left : (vfs : ℕ) (mode : Mode) (e : Entry) (h : List Entry) → PoolsAreLeft vfs mode e h
pools_left vfs mode e h = record {
  none = refl;
  nowhere = λ pass port number word is. rw is refl;
  elsewhere = λ pass port number word p is isnt.
      rw is (ap (λ m. mode_through vfs m h) (left_by mode p.row word isnt));
  other = λ isnt. ap (λ m. mode_through vfs m h) (left_after vfs mode e.event isnt);
}

pub stay : PoolsStay
stay vfs mode e h = pools_left vfs mode e h
