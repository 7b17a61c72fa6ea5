use Rattle.driver_laws.proofs.Points.{lend_stands, read_stands, write_stands}
use Rattle.std.proofs.Common.{rules}

pub returns : Rattle.driver_laws.proofs.starting.accesses_keep_sides_standing.Goals.returns
returns c = search (rules, write_stands, read_stands, lend_stands)
