use Rattle.std.proofs.Common.{sym, ◌∙◌}
use Rattle.vf_map.proofs.Whole.{entries_own, entries_vector, entries_queues}
use Rattle.vf_map.proofs.mapping.place.Goals as goal

pub returns-in-Some : goal.returns-in-Some
returns-in-Some c =
    sym (entries_own c.args.v c.args.first c.args.count c.args.offset c.in-Some.place (sym c.in-Some.ensures))

pub returns-in-Some-vector_place : goal.returns-in-Some-vector_place
returns-in-Some-vector_place c =
    let none = sym c.function_place.ensures ∙ c.in_default.is in
    let word = sym c.in-Some-vector_place.ensures in
    sym (entries_vector c.args.v c.args.first c.args.count c.args.offset c.in-Some-vector_place.place none word)

pub returns : goal.returns
returns c =
    let none = sym c.function_place.ensures ∙ c.in_default.is in
    let no_vector = sym c.vector_place.ensures ∙ c.in_default-vector_place.is in
    c.queue_place.ensures ∙ sym (entries_queues c.args.v c.args.first c.args.count c.args.offset none no_vector)
