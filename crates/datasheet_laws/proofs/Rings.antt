-- A ring's registers are held while its side is enabled.
use Rattle.std.proofs.Common.{◌≡◌, ℕ, ◌<◌, Bool, true, false, refl, ap, sym, ◌∙◌, lit<}
use Rattle.std.proofs.lemmas.Bool.{cond-true, cond-false}
use Rattle.reg_table.specs.declared.kind.Kind.TheVariants as kind
use Rattle.reg_table.specs.declared.rows.RowId.TheVariants as row
use Rattle.register_file.specs.Effects.{stored, is_running}
use Rattle.datasheet_laws.specs.NumberPrelude.{Kind, Registers, RowId, Surroundings, owner_of, word_at}
use Rattle.datasheet_laws.specs.ByAddress.{reads}
use Rattle.datasheet_laws.specs.ByKind.{enable_of, RingsAreHeld}
use Rattle.datasheet_laws.specs.Table.{line_of, whole}
use Rattle.datasheet_laws.proofs.ByAddress.{reads-at}
use Rattle.datasheet_laws.proofs.ByKind.{stores, wrote_kind}
use Rattle.datasheet_laws.proofs.Table.{at as place}

abbrev is_held : Kind → Bool
is_held kind.Held = true
is_held other = false

never : {A : Type 0} → false ≡ true → A
never e = cc

-- The enable word shows whether the side that a ring's register belongs to is enabled.
running : (around : Surroundings) (r : Registers) (x : RowId) (q : ℕ) → (line_of x).kind ≡ kind.Held
    → q < (line_of x).count → is_running r (owner_of (place x q)) ≡ reads around r (enable_of x q) 25
running around r row.Rdbal q is inside = sym (reads-at r row.Rxdctl q inside around 25 (lit< tt))
running around r row.Rdbah q is inside = sym (reads-at r row.Rxdctl q inside around 25 (lit< tt))
running around r row.Rdlen q is inside = sym (reads-at r row.Rxdctl q inside around 25 (lit< tt))
running around r row.Rdh q is inside = sym (reads-at r row.Rxdctl q inside around 25 (lit< tt))
running around r row.Tdbal q is inside = sym (reads-at r row.Txdctl q inside around 25 (lit< tt))
running around r row.Tdbah q is inside = sym (reads-at r row.Txdctl q inside around 25 (lit< tt))
running around r row.Tdlen q is inside = sym (reads-at r row.Txdctl q inside around 25 (lit< tt))
running around r row.Tdh q is inside = sym (reads-at r row.Txdctl q inside around 25 (lit< tt))
running around r other q is inside = never (ap is_held is)

pub held_rings : RingsAreHeld
held_rings around r h x q w is inside =
    let p = place x q in
    let on = is_running r (owner_of p) in
    let says = running around r x q is inside in
    record {
      off = λ off bit low. stores around r h x q w inside kind.Held is (λ s. refl) w
          (ap (λ (s : Registers). word_at s.words p) (cond-false on r (stored r p whole w) (says ∙ off))) bit low;
      on = λ on_there. wrote_kind around r h x q w inside kind.Held is
          ∙ cond-true on r (stored r p whole w) (says ∙ on_there);
    }
