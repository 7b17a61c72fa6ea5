use Rattle.std.proofs.Common.{length}
use Rattle.echo.proofs.frame.drive.Given as goal

abbrev pub decreases-loop-packet : goal.decreases-loop-packet
decreases-loop-packet l = length l.packets.items
