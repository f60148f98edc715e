-- A step in the types that a trace shows it by.
use Rattle.std.specs.Prelude.{ℕ, List, []}
use Rattle.std.specs.Fmt.{decimal}
use Rattle.rv_fields.specs.Effect.{Effect}
use Rattle.trace_fields.specs.Text.{access_text, hex, or_none, trail_text, trap_text, word_text, write_text}
use Rattle.trace_replay.specs.declared.shown.Shown.{Shown}
use Rattle.trace_replay.specs.declared.verdict.LineField.{LineField}
use Rattle.trace_replay.specs.declared.verdict.LineField.TheVariants.{Harts, Boot, Hart, Pc, Pa, Word, Rd, Access, Trail, Trap}

abbrev pub shown_seen : Shown → Effect
shown_seen s = record { hart = s.hart; pc = s.pc; pa = s.pa; word = s.word; rd = s.rd; access = s.access; trail = s.trail; trap = s.trap }

-- a field of a step; the numbers of harts and boots are none
abbrev pub field_text : LineField → Effect → List ℕ
field_text Harts e = []
field_text Boot e = []
field_text Hart e = decimal e.hart
field_text Pc e = hex e.pc
field_text Pa e = or_none hex e.pa
field_text Word e = or_none word_text e.word
field_text Rd e = or_none write_text e.rd
field_text Access e = or_none access_text e.access
field_text Trail e = trail_text e.trail
field_text Trap e = or_none trap_text e.trap
