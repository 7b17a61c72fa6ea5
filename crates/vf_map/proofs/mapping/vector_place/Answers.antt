use Rattle.std.proofs.Common.{◌+◌, ◌-◌, ◌/◌, Some, ap, sym, ◌∙◌, arith}
use Rattle.reg_table.specs.declared.rows.RowId.TheVariants.{Pvtivar}
use Rattle.vf_map.proofs.Places.{vector_there, vector_absent}
use Rattle.vf_map.proofs.mapping.vector_place.Goals as goal
use Rattle.vf_map.proofs.mapping.vector_place.Goals.{then-offset-lt-VECTORS-via-then-offset-lt-VECTORS, then-offset-lt-VECTORS-via-else-offset-lt-VECTORS+then-offset-ne0}

pub returns-then-offset-lt-VECTORS : goal.returns-then-offset-lt-VECTORS
returns-then-offset-lt-VECTORS c =
    sym (vector_absent c.args.first c.args.count c.args.offset (λ w h e.
    elim c.then-offset-lt-VECTORS.branch [
      | then-offset-lt-VECTORS-via-then-offset-lt-VECTORS w ↦ omega arith
      | then-offset-lt-VECTORS-via-else-offset-lt-VECTORS+then-offset-ne0 w ↦ omega arith
    ]))

pub returns-then-word-from : goal.returns-then-word-from
returns-then-word-from c =
    ap (λ half. Some (record { row = Pvtivar; index = half + (c.args.offset - 0x120) / 4 }))
    c.from-then-word-from.ensures
    ∙ sym (vector_there c.args.first c.args.count c.args.offset (omega arith) (omega arith) (omega arith))

pub returns-else-word-from : goal.returns-else-word-from
returns-else-word-from c = sym (vector_absent c.args.first c.args.count c.args.offset (λ w h e. omega arith))
