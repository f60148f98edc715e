-- What a run holds: its lines, and what its harts bring to the program.
use Rattle.std.specs.Prelude.{List, map}
use Rattle.trace_text.specs.Lines.{Line}
use Rattle.trace_text.specs.Views.{lines_seen}
use Rattle.hart_task.specs.Log.{LogSeen}
use Rattle.value_file.specs.Values.{initial_of}
use Rattle.run_merge.specs.declared.run.HartProgram.{HartProgram}
use Rattle.run_merge.specs.declared.run.Run.{Run}
use Rattle.run_merge.specs.Image.{HartImage}

abbrev pub run_lines : Run → List Line
run_lines run = lines_seen run.lines.items

abbrev pub image_of : HartProgram → HartImage
image_of hart = record { initial = initial_of hart.values; words = hart.words.items }

abbrev pub images_of : List HartProgram → List HartImage
images_of harts = map image_of harts

-- what a hart's log brings
abbrev pub log_image : LogSeen → HartImage
log_image log = record { initial = log.initial; words = log.words }
