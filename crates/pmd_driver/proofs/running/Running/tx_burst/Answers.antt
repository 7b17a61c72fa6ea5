use Rattle.pmd_driver.proofs.Bursting.{no_room, room_beside, room_drives, room_keeps, room_sends}
use Rattle.pmd_driver.proofs.running.Running.tx_burst.Goals as goal

pub returns-in-Ok-clause-drives : goal.returns-in-Ok-clause-drives
returns-in-Ok-clause-drives g c = room_drives _ c.in-Ok.ensures.room c.send_burst.ensures.posts

pub returns-in-Ok-clause-sent : goal.returns-in-Ok-clause-sent
returns-in-Ok-clause-sent g c = room_sends _ c.in-Ok.ensures.room c.send_burst.ensures.posts

pub returns-in-Ok-clause-blocks : goal.returns-in-Ok-clause-blocks
returns-in-Ok-clause-blocks g c = room_keeps _ c.in-Ok.ensures.room c.send_burst.ensures.posts

pub returns-in-Err-clause-sent : goal.returns-in-Err-clause-sent
returns-in-Err-clause-sent g c = no_room _ c.in-Err.ensures.room

pub returns-in-Err-clause-blocks : goal.returns-in-Err-clause-blocks
returns-in-Err-clause-blocks g c = room_beside c.args.packets.now.items c.in-Err.ensures.room
