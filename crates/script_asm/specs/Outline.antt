-- The contents of lines, before labels and data names are looked up.
use Rattle.std.specs.Prelude.{◌≤◌, ℕ, List, [], length}
use Rattle.script_asm.specs.Places.{Places, nowhere}
use Rattle.script_asm.specs.declared.sheet.DraftLine.{DraftLine}

-- The numbers of labels and of data strings by name, and the data strings and instructions in the order of their lines.
pub record Outline : Type 0 where
  pub labels : Places
  pub data_numbers : Places
  pub strings : List (List ℕ)
  pub drafts : List DraftLine

-- The outline before the first line.
abbrev pub blank : Outline
blank = record { labels = nowhere; data_numbers = nowhere; strings = []; drafts = [] }

-- The outline exceeds no limit.
pub record IsOutline (outline : Outline) : Type 0 where
  pub few_strings : length outline.strings ≤ 1024
  pub few_drafts : length outline.drafts ≤ 4096
