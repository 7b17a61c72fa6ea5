use Rattle.std.proofs.Common.{◌+◌, ◌-◌, ◌*◌, ◌/◌, Some, ap, sym, ◌∙◌, arith}
use Rattle.reg_table.specs.declared.rows.RowId.TheVariants.{Pfmbmem}
use Rattle.vf_map.proofs.Places.{message_there, message_absent}
use Rattle.vf_map.proofs.mapping.message_place.Goals as goal
use Rattle.vf_map.proofs.mapping.message_place.Goals.{then-offset-lt-MESSAGES-via-then-offset-lt-MESSAGES, then-offset-lt-MESSAGES-via-else-offset-lt-MESSAGES+then-offset-ne0}

pub returns-then-offset-lt-MESSAGES : goal.returns-then-offset-lt-MESSAGES
returns-then-offset-lt-MESSAGES c =
    sym (message_absent c.args.v c.args.offset (λ w h e.
    elim c.then-offset-lt-MESSAGES.branch [
      | then-offset-lt-MESSAGES-via-then-offset-lt-MESSAGES w ↦ omega arith
      | then-offset-lt-MESSAGES-via-else-offset-lt-MESSAGES+then-offset-ne0 w ↦ omega arith
    ]))

pub returns-then-word-from : goal.returns-then-word-from
returns-then-word-from c =
    ap (λ v. Some (record { row = Pfmbmem; index = 16 * v + (c.args.offset - 0x200) / 4 }))
    c.from-then-word-from.ensures
    ∙ sym (message_there c.args.v c.args.offset (omega arith) (omega arith) (omega arith))

pub returns-else-word-from : goal.returns-else-word-from
returns-else-word-from c = sym (message_absent c.args.v c.args.offset (λ w h e. omega arith))
