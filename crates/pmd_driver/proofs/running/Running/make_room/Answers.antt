use Rattle.std.proofs.Common.{rules, ◌≤◌, ◌<◌}
use Rattle.pmd_driver.specs.Bursts.{vacant_in}
use Rattle.pmd_driver.proofs.Bursting.{room_reaped, room_still}
use Rattle.pmd_driver.proofs.running.Running.make_room.Goals as goal

pub returns-then-vacant-clause-room : goal.returns-then-vacant-clause-room
returns-then-vacant-clause-room g c =
    let enough : c.args.vacant ≤ vacant_in c.args.self.now.transmit = search rules in
    room_still enough

pub returns-in-Ok-clause-room : goal.returns-in-Ok-clause-room
returns-in-Ok-clause-room g c =
    let few : vacant_in c.args.self.now.transmit < c.args.vacant = search rules in
    room_reaped few c.reap.ensures.drives c.in-Ok.ensures.reaped c.reap.ensures.blocks

pub returns-in-Err-clause-room : goal.returns-in-Err-clause-room
returns-in-Err-clause-room g c =
    let few : vacant_in c.args.self.now.transmit < c.args.vacant = search rules in
    room_reaped few c.reap.ensures.drives c.in-Err.ensures.reaped c.reap.ensures.blocks
