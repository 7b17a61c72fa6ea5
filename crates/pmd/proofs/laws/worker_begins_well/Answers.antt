use Rattle.driver_laws.proofs.Prelude.{HasGround, new_sound}
use Rattle.pmd.proofs.WorkerReported.{ground_there, holds_at_first}

pub returns : Rattle.pmd.proofs.laws.worker_begins_well.Goals.returns
returns c w fifo old given h device events well =
    holds_at_first w fifo old h (HasGround w.queue (record { port = given.port; queue = given.queue }) given.frame)
    (ground_there w fifo old given h (new_sound w.vfs fifo device.0 device.1 device.2) events well)
