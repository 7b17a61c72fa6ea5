-- Which writes, given by their addresses, leave a queue alone.
use Rattle.std.proofs.Common.{refl, sym}
use Rattle.std.proofs.lemmas.Bool.{true≢false}
use Rattle.device_lock.specs.NicDevice.RegTable.Runs.{runs}
use Rattle.ring_laws.specs.Leaving.{AddressesLeaveQueues}

pub addresses_leave : AddressesLeaveQueues
unfolding runs
addresses_leave w mode word = record {
  filter = record {
    setting = refl;
    receive = λ r. absurd (true≢false (sym r));
    transmit = λ t. absurd (true≢false (sym t));
    pool = λ asked. absurd (true≢false (sym asked));
  };
  control = λ s. true≢false s.setting;
  control_again = λ s. true≢false s.setting;
  padding = λ s. true≢false s.setting;
  limit = λ s. true≢false s.setting;
  pools = λ s. true≢false s.setting;
}
