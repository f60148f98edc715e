-- The entries that a trail holds.
use Rattle.std.specs.Prelude.{◌-◌, List, ◌++◌, length, map, replicate}
use Rattle.rv_fields.specs.Effect.{Entry}
use Rattle.trace_fields.specs.Bounds.{most_entries}
use Rattle.trace_fields.specs.declared.entry.EntryText.{EntryText}

abbrev pub entry_seen : EntryText → Entry
entry_seen e = record { at = e.at; pte = e.pte }

abbrev pub entry_held : Entry → EntryText
entry_held e = record { at = e.at; pte = e.pte }

-- the entries, and zeros behind them up to the most that a trail has
abbrev pub padded_trail : List Entry → List EntryText
padded_trail entries = map entry_held entries ++ replicate (most_entries - length entries) (record { at = 0; pte = 0 })
