-- Which events alongside a driver's own are harmless.
use Rattle.std.proofs.Common.{refl}
use Rattle.pmd_driver.specs.NicDevice.RegTable.Runs.{runs}
use Rattle.driver_laws.specs.HarmlessEvents.{HarmlessByAddress, OthersAre}

pub by_address : HarmlessByAddress
unfolding runs
by_address word = record {
  filter = refl;
  masks = refl;
  nothing = refl;
  control = (refl, refl);
  padding = refl;
  limit = refl;
  pools = refl;
  receive = (refl, refl, refl, refl);
  buffers = (refl, refl);
  transmit = (refl, refl);
  reset = (refl, refl);
  no_reset = (refl, refl);
}

pub others : OthersAre
others = record {
  function = λ v offset word. refl;
  lend = λ block. refl;
  take = λ number. refl;
  poke = λ address bytes. refl;
  read = λ port number. refl;
  peek = λ address. refl;
  arrive = λ frame. refl;
  link = λ up. refl;
  collect = refl;
  rx = refl;
  tx = λ queue. refl;
  int = λ group. refl;
  switch = λ dir queue. refl;
  eeprom = refl;
}
