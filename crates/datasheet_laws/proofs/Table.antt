-- The table that the code searches matches the table that is listed by hand.
use Rattle.std.proofs.Common.{◌≡◌, ℕ, ◌+◌, ◌-◌, ◌*◌, ◌<◌, true, false, nat_lt, Some, refl, ap, ◌∙◌, arith}
use Rattle.std.proofs.lemmas.Bool.{cond_both, ltb-true, ltb-false}
use Rattle.reg_table.specs.FirstAddresses.{first_of}
use Rattle.reg_table.specs.Run.{Run, run, HasPlaceAt}
use Rattle.reg_table.proofs.SoundRuns.{is_sound}
use Rattle.reg_table.specs.declared.rows.RowId.TheVariants as row
use Rattle.reg_table.proofs.Apart.{table_apart}
use Rattle.reg_table.proofs.FirstAddresses.{first_address, further_address, found_back}
use Rattle.reg_table.proofs.FirstViews.{first_view}
use Rattle.reg_table.proofs.Standing.{stands, view_in, first_with}
use Rattle.reg_table.proofs.Steps.{has_address-true, place_in-unique}
use Rattle.datasheet_laws.specs.NumberPrelude.{Place, RowId, access, access_at, access_of, address_among, row_of, runs}
use Rattle.datasheet_laws.specs.Table.{line_of, halves, whole, RegistersAreListed, HasAliases, HasLowViews}

abbrev pub at : RowId → ℕ → Place
at row i = record { row = row; index = i }

-- A register with addresses in two ranges.
in_halves : (row : RowId) (i : ℕ) → i < (row_of row).count
    → address_among runs (at row i)
    ≡ Some (halves (first_of row).count (first_of row).first (first_of row).further (first_of row).stride i)
in_halves row i h =
    let f = first_of row in
    cond_both (nat_lt i f.count) (f.first + f.stride * i) (f.further + f.stride * (i - f.count))
    (λ a. address_among runs (at row i) ≡ Some a)
    (λ low. first_address (at row i) (ltb-true i f.count low))
    (λ high. further_address (at row i) h (ltb-false i f.count high))

pub first : (row : RowId) (i : ℕ) → i < (line_of row).count
    → address_among runs (at row i) ≡ Some ((line_of row).address i)
first row.Eitr i h = in_halves row.Eitr i h
first row.Rdbal i h = in_halves row.Rdbal i h
first row.Rdbah i h = in_halves row.Rdbah i h
first row.Rdlen i h = in_halves row.Rdlen i h
first row.Rdh i h = in_halves row.Rdh i h
first row.Srrctl i h = in_halves row.Srrctl i h
first row.Rdt i h = in_halves row.Rdt i h
first row.Rxdctl i h = in_halves row.Rxdctl i h
first other i h = first_address (at other i) h

-- An access to a first address reaches all bits of the register.
pub met_first : (p : Place) (a : ℕ) → address_among runs p ≡ Some a → access_at a ≡ Some (access p.row p.index whole)
met_first p a e = λ k. access_of (found_back p a e k) (first_view p a e k)

same_name : (row : RowId) → (row_of row).name ≡ (line_of row).name
same_name row.Ctrl = refl
same_name other = refl

same_count : (row : RowId) → (row_of row).count ≡ (line_of row).count
same_count row.Ctrl = refl
same_count other = refl

same_kind : (row : RowId) → (row_of row).kind ≡ (line_of row).kind
same_kind row.Ctrl = refl
same_kind other = refl

same_mask : (row : RowId) → (row_of row).mask ≡ (line_of row).mask
same_mask row.Ctrl = refl
same_mask other = refl

same_reset : (row : RowId) → (row_of row).reset ≡ (line_of row).reset
same_reset row.Ctrl = refl
same_reset other = refl

pub listed : RegistersAreListed
listed row = record {
  name = same_name row;
  count = same_count row;
  kind = same_kind row;
  mask = same_mask row;
  reset = same_reset row;
  first = λ i h. first row i h;
  met = λ i h. met_first (at row i) ((line_of row).address i) (first row i h);
}

-- An access to an address in a run reaches the run's register.
pub met_run : (r : Run) (a : ℕ) (p : Place) → stands r runs ≡ true → is_sound r ≡ true → HasPlaceAt r a p
    → access_at a ≡ Some (access p.row p.index (view_in r))
met_run r a p there sound here =
    first_with r runs a there table_apart (has_address-true r a p here)
    ∙ ap (λ (q : Place). Some (access q.row q.index (view_in r))) (place_in-unique r a p sound here)

pub aliases : HasAliases
unfolding runs
aliases = record {
  control = refl;
  receive_control = λ i h. met_run (run row.Srrctl 0x02100 4 0 16 false) (0x02100 + 4 * i) (at row.Srrctl i) refl refl
      (record { step = i; below = h; at = refl; row = refl; index = omega arith });
  address_low = λ i h. met_run (run row.Ral 0x05400 8 0 16 false) (0x05400 + 8 * i) (at row.Ral i) refl refl
      (record { step = i; below = h; at = refl; row = refl; index = omega arith });
  address_high = λ i h. met_run (run row.Rah 0x05404 8 0 16 false) (0x05404 + 8 * i) (at row.Rah i) refl refl
      (record { step = i; below = h; at = refl; row = refl; index = omega arith });
  queues = refl;
  redirection = λ i h. met_run (run row.Reta 0x0EB00 4 0 32 false) (0x0EB00 + 4 * i) (at row.Reta i) refl refl
      (record { step = i; below = h; at = refl; row = refl; index = omega arith });
  key = λ i h. met_run (run row.Rssrk 0x0EB80 4 0 10 false) (0x0EB80 + 4 * i) (at row.Rssrk i) refl refl
      (record { step = i; below = h; at = refl; row = refl; index = omega arith });
  packet_types = λ v h. met_run (run row.Psrtype 0x05480 4 0 16 false) (0x05480 + 4 * v) (at row.Psrtype v) refl refl
      (record { step = v; below = h; at = refl; row = refl; index = omega arith });
}

pub low_views : HasLowViews
unfolding runs
low_views = record { causes_set = refl; masks = refl; masks_cleared = refl; auto_mask = refl }
