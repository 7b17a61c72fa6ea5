use Rattle.std.proofs.Common.{sym, ap, ◌∙◌, Ok}
use Rattle.std.proofs.lemmas.Map.Text.{btree_map_updates_str}
use Rattle.script_asm.specs.Places.{Places, with_place, shown}
use Rattle.script_asm.proofs.Naming.{shown-inserted}
use Rattle.script_asm.proofs.places.Places.add.Goals as goal

pub returns : goal.returns
returns c =
    let put = shown-inserted c.self.inside.numbers c.insert.new.self c.as_str.result.now c.args.number
    (btree_map_updates_str c.as_str.result.now c.self.inside.numbers c.insert.new.self _ c.in_ok-insert.ensures.updates)
    in
    ap (λ (places : Places). Ok (with_place places c.args.name c.args.number)) (sym c.self.view_is)
    ∙ ap (λ name. Ok (with_place (shown c.self.inside.numbers) name c.args.number)) (sym c.as_str.ensures)
    ∙ ap Ok (sym put)
