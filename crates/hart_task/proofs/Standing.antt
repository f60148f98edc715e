-- What stands in memory before a run: words, page table entries, the handlers, and all that the lines fix.
use Rattle.std.specs.Prelude.{None, Option, Some, length, ℕ, ◌+◌, ◌*◌, ◌/◌, ◌%◌, ◌^◌, ◌≡◌, ◌<◌}
use Rattle.rv_fields.specs.Memory.{Seen}
use Rattle.rv_fields.specs.Play.{Machine}
use Rattle.rv_fields.specs.declared.mode.Mode.TheVariants as mode
use Rattle.region_plan.specs.Plan.{Work, plan_of}
use Rattle.boot_words.specs.Boot.{handler}
use Rattle.boot_words.specs.Layout.{m_handler_at, s_handler_at}
use Rattle.trace_text.specs.Lines.{Line, done, ending, fixed, found, given, made, picked, refused, request, settled, touched, weighed}
use Rattle.world_face.proofs.Bytes.{BytesStand}
use Rattle.hart_task.specs.Stepping.{listed_words}

-- so many bytes of a number stand from an address on
abbrev pub Stands : Seen → ℕ → ℕ → ℕ → Type 0
Stands seen at size value = (j : ℕ) → j < size → seen.byte (at + j) ≡ Some (value / 256 ^ j % 256)

-- words stand one behind another from an address on
abbrev pub WordsAt : Seen → ℕ → (ℕ → Option ℕ) → Type 0
WordsAt seen at words = (i word : ℕ) → words i ≡ Some word → Stands seen (at + 4 * i) 4 word

abbrev pub HandlersStand : Seen → Type 0
HandlersStand seen = WordsAt seen m_handler_at (listed_words (handler mode.M)) × WordsAt seen s_handler_at (listed_words (handler mode.S))

-- the word of an effect, where it tells one
abbrev pub WordStands : Seen → Option ℕ → Option ℕ → Type 0
WordStands seen None word = Unit {0}
WordStands seen (Some pa) None = Unit {0}
WordStands seen (Some pa) (Some word) = Stands seen pa 4 word

-- The machine has what the line fixes. A word that is found is none of these: it stands there already.
abbrev pub HasFixed : Machine → Line → Type 0
HasFixed m (request hart k kind) = Unit {0}
HasFixed m (picked hart tree leaf word) = Unit {0}
HasFixed m (weighed hart tree path weight) = Unit {0}
HasFixed m (fixed hart register value) = (m.harts hart).x register ≡ Some value
HasFixed m (given hart object page frame) = Unit {0}
HasFixed m (settled hart space e) = Stands m.seen e.at 8 e.pte
HasFixed m (touched hart at bytes) = BytesStand m.seen.byte at bytes
HasFixed m (made e) = WordStands m.seen e.pa e.word
HasFixed m (found e) = Unit {0}
HasFixed m (ending e) = WordStands m.seen e.pa e.word
HasFixed m (done hart k) = Unit {0}
HasFixed m (refused hart k cause preamble) = Unit {0}

-- the spaces that harts name are there
abbrev pub IsPlanned : Work → Type 0
IsPlanned work = (h k : ℕ) → (plan_of work h).space ≡ Some k → k < length work.spaces
