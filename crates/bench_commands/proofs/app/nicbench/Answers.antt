use Rattle.bench_commands.proofs.app.nicbench.Goals as goal

pub returns-clause-ok : goal.returns-clause-ok
returns-clause-ok c =
    let with_run = c.with_command-nicbench.ensures.ok _ _ c.bare.ensures.app c.run.ensures.ok in
    let with_hash = c.with_command-nicbench-2.ensures.ok _ _ with_run c.hash.ensures.app in
    let with_eeprom = c.with_command-nicbench-3.ensures.ok _ _ with_hash c.eeprom.ensures.ok in
    let with_asm = c.with_command-nicbench-4.ensures.ok _ _ with_eeprom c.asm.ensures.app in
    let with_dis = c.with_command-nicbench-5.ensures.ok _ _ with_asm c.dis.ensures.app in
    let with_debug = c.with_command-nicbench-6.ensures.ok _ _ with_dis c.debug.ensures.ok in
    c.with_command.ensures.ok _ _ with_debug c.threads.ensures.ok
