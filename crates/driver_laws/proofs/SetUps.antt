-- Lemmas about what the setup of the whole device writes.
use Rattle.std.proofs.Common.{refl, arith}
use Rattle.std.proofs.lemmas.Bool.{le-ltb, lt-ltb}
use Rattle.pmd_driver.specs.NicDevice.RegTable.Runs.{runs}
use Rattle.pmd_driver.specs.PmdAccess.Setup.{packed}
use Rattle.driver_laws.specs.SetUp.{BytesAreLowestFirst, SetUpIsWritten}

pub set_up_is_written : SetUpIsWritten
unfolding runs packed
set_up_is_written s = record {
  front_addresses = refl;
  off = λ is. rw is refl;
  pools_of_16 = λ is. rw is refl;
  pools_of_32 = λ is. rw is refl;
  pools_of_64 = λ is. rw is refl;
  key_addresses = refl;
  key_words = refl;
  table_addresses = refl;
  table_words = refl;
  short = λ is. rw (le-ltb 1518 s.frame (omega (arith, is))) refl;
  short_some = λ is some. rw (le-ltb 1518 s.frame (omega (arith, is)), some) refl;
  short_all = λ is all. rw (le-ltb 1518 s.frame (omega (arith, is)), all) refl;
  long = λ is. rw (lt-ltb 1518 s.frame is) refl;
  long_some = λ is some. rw (lt-ltb 1518 s.frame is, some) refl;
  long_all = λ is all. rw (lt-ltb 1518 s.frame is, all) refl;
}

pub bytes_are_lowest_first : BytesAreLowestFirst
bytes_are_lowest_first = record { first = refl; second = refl }
