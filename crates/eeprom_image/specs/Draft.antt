-- How the code represents the content of EEPROM source.
use Rattle.eeprom_image.specs.Content.{Content}
use Rattle.eeprom_image.specs.declared.draft.Draft.{Draft}

-- The content that the lines read so far define.
abbrev pub content_in : Draft → Content
content_in draft = record { size = draft.size; words = draft.words.items; triples = draft.triples.items }
