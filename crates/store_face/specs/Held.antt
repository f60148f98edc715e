-- What a set of files in memory holds.
use Rattle.std.specs.Prelude.{option_map}
use Rattle.std.specs.BTreeMap.{get_by_text}
use Rattle.store_face.specs.declared.files.Files.{Files}
use Rattle.store_face.specs.State.{Held}

-- the bytes under each name
abbrev pub files_held : Files → Held
files_held files = λ name. option_map (λ bytes. bytes.items) (get_by_text files.entries name)
