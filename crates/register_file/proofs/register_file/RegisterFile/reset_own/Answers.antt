use Rattle.std.proofs.Common.{◌≡◌, ℕ, ◌<◌, ap, sym, ◌∙◌}
use Rattle.std.specs.Prelude.{replicate}
use Rattle.std.proofs.Math.ListN.{set}
use Rattle.std.proofs.lemmas.List.{get_or-replicate, set-get_or}
use Rattle.register_file.proofs.Columns.{group_columns}
use Rattle.register_file.proofs.register_file.RegisterFile.reset_own.Goals as goal

none_held : (v : ℕ) → v < 64 → set {A = ℕ} (replicate 64 0) v 0 ≡ replicate 64 0
none_held v b = ap (set (replicate 64 0) v) (sym (get_or-replicate 64 v 0 0 b)) ∙ set-get_or (replicate 64 0) v 0

pub returns : goal.returns
returns c =
    rw (← c.self.view_is) (simp (c.renew.ensures, c.from-at.ensures, none_held c.args.v c.requires, group_columns))
