use Rattle.std.proofs.Common.{sym, ◌∙◌, ap}
use Rattle.vf_map.proofs.LocatedAt.{located_at}
use Rattle.vf_map.proofs.Reached.{in_range}
use Rattle.vf_map.specs.declared.located.Located.TheVariants.{Register}
use Rattle.vf_map.proofs.Whole.{located_beyond, located_none, located_some}
use Rattle.vf_map.proofs.mapping.locate.Goals as goal

pub returns-then-v-vfs-clause-value : goal.returns-then-v-vfs-clause-value
returns-then-v-vfs-clause-value c = sym (located_beyond c.args.mode c.args.vfs c.args.v c.args.offset c.if-v-vfs.true)

pub returns-in-None-clause-value : goal.returns-in-None-clause-value
returns-in-None-clause-value c =
    sym (located_none c.args.mode c.args.vfs c.args.v c.args.offset c.if-v-vfs.false (sym c.in-None.ensures))

pub returns-in-Some-place-clause-value : goal.returns-in-Some-place-clause-value
returns-in-Some-place-clause-value c =
    ap located_at c.in-Some-place.ensures
    ∙ sym (located_some c.args.mode c.args.vfs c.args.v c.args.offset c.in-Some.first c.in-Some.count
    c.if-v-vfs.false (sym c.in-Some.ensures))

pub returns-in-None-place-clause-value : goal.returns-in-None-place-clause-value
returns-in-None-place-clause-value c =
    ap located_at c.in-None-place.ensures
    ∙ sym (located_some c.args.mode c.args.vfs c.args.v c.args.offset c.in-Some.first c.in-Some.count
    c.if-v-vfs.false (sym c.in-Some.ensures))

pub returns-in-Some-place-clause-in_range : goal.returns-in-Some-place-clause-in_range
returns-in-Some-place-clause-in_range c =
    in_range (Register c.in-Some-place.place) c.args.mode c.args.vfs c.args.v c.args.offset
    (ap located_at c.in-Some-place.ensures
    ∙ sym (located_some c.args.mode c.args.vfs c.args.v c.args.offset c.in-Some.first c.in-Some.count
    c.if-v-vfs.false (sym c.in-Some.ensures)))
