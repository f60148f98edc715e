-- Lines of a whole trace as bytes, and the faults of lines.
use Rattle.std.proofs.Common.{◌≡◌, ℕ, List, [], ◌∷◌, ◌++◌, refl, Option, Some, None}
use Rattle.std.specs.Prelude.{codes}
use Rattle.std.specs.Char.{encode_utf8}
use Rattle.std.specs.Fmt.{digits}
use Rattle.trace_fields.specs.Fields.{Place}
use Rattle.rv_fields.specs.Effect.{Effect}
use Rattle.rv_fields.specs.declared.access.AccessKind.TheVariants.{Load}
use Rattle.rv_fields.specs.declared.mode.Mode.TheVariants.{M}
use Rattle.trace_fields.specs.declared.request.Kind.TheVariants.{Mem}
use Rattle.trace_fields.specs.declared.request.Cause.TheVariants.{NoPlace}
use Rattle.trace_text.specs.Lines.{request, picked, weighed, given, settled, touched, made, ending, refused}
use Rattle.trace_text.specs.Text.{line_text}
use Rattle.trace_text.specs.Traces.{trace_fault}

abbrev at : ℕ → ℕ → Option Place
at line field = Some (record { line = line; field = field })

-- a line behind the first, in a trace of two harts
abbrev fault_in : List ℕ → Option Place
fault_in line = trace_fault (codes "trace 1 2\n" ++ line)

abbrev load : Effect
load = record {
  hart = 1;
  pc = 0x1000;
  pa = Some 0x84000000;
  word = Some 0x0000b083;
  rd = Some (1, 0xff);
  access = Some (record { kind = Load; va = 0x2000; pa = 0x85000000; size = 8; read = Some 0xff; wrote = None });
  trail = record { at = 0x80001000; pte = 0x20000401 } ∷ record { at = 0x80002000; pte = 0xdf } ∷ [];
  trap = None;
}

abbrev trapped : Effect
trapped = record {
  hart = 0;
  pc = 0x1000;
  pa = Some 0x84000000;
  word = Some 0x00000073;
  rd = None;
  access = None;
  trail = [];
  trap = Some (record { cause = 8; epc = 0x1000; tval = 0; to = M });
}

pub line_texts : (line_text (request 0 3 Mem) ≡ codes "q 0 3 mem\n")
    × (line_text (picked 1 (codes "t") (codes "a.b") 0xabc) ≡ codes "p 1 t a.b abc\n")
    × (line_text (weighed 0 (codes "t") (codes "a" ∷ codes "b_1" ∷ []) 7) ≡ codes "w 0 t a/b_1 7\n")
    × (line_text (given 0 (codes "o") 2 11) ≡ codes "g 0 o 2 11\n")
    × (line_text (settled 0 1 (record { at = 0x80001000; pte = 0 })) ≡ codes "m 0 1 80001000 0\n")
    × (line_text (touched 0 0x85000000 (0 ∷ 0x1f ∷ 0xa0 ∷ [])) ≡ codes "y 0 85000000 001fa0\n")
    × (line_text (refused 1 4 NoPlace 8) ≡ codes "r 1 4 no-place 8\n")
    × (line_text (made load) ≡ codes "s 1 1000 84000000 0000b083 1:ff l:2000:85000000:8:ff:- 80001000:20000401,80002000:df -\n")
    × (line_text (ending trapped) ≡ codes "e 0 1000 84000000 00000073 - - - 8:1000:0:M\n")
unfolding digits encode_utf8
line_texts = (refl, refl, refl, refl, refl, refl, refl, refl, refl)

pub good_lines : (fault_in (codes "q 0 3 mem\np 1 t a.b abc\nw 0 t a/b_1 7\nx 1 31 0\n") ≡ None)
    × (fault_in (codes "g 0 o 2 11\nm 0 15 80001000 0\ny 0 85000000 001fa0\nd 0 4294967295\nr 1 4 no-place 8\n") ≡ None)
    × (fault_in (codes "s 1 1000 84000000 0000b083 1:ff l:2000:85000000:8:ff:- 80001000:20000401,80002000:df -\n") ≡ None)
    × (fault_in (codes "e 0 1000 84000000 00000073 - - - 8:1000:0:M\n") ≡ None)
unfolding digits
good_lines = (refl, refl, refl, refl)

pub line_faults : (trace_fault (codes "trace 1 1\nq 0 0 ins\ns 0 84000000 84000000 00500093 1:05 - - -\n") ≡ at 3 6)
    × (trace_fault (codes "trace 1 1\nq 0 0 ins\ns 0 84000000 84000000 00500093 1:5 - - -\nd 0 0\ne 0 84000004 84000004 0000006f - - - -") ≡ at 5 10)
    × (fault_in (codes "q 0 0 repeat\n") ≡ at 2 4) × (fault_in (codes "x 0 0 5\n") ≡ at 2 3) × (fault_in (codes "x 0 32 5\n") ≡ at 2 3)
    × (fault_in (codes "x 2 1 5\n") ≡ at 2 2) × (fault_in (codes "x 0 1 A\n") ≡ at 2 4) × (fault_in (codes "z 0 1\n") ≡ at 2 1)
    × (fault_in (codes "r 0 4 no-place 4\n") ≡ at 2 5) × (fault_in (codes "m 0 16 0 0\n") ≡ at 2 3) × (fault_in (codes "y 0 0 001\n") ≡ at 2 4)
    × (fault_in (codes "d 0 4294967296\n") ≡ at 2 3) × (fault_in (codes "s 0 0 0 0000b083 - l:0:0:1:100:- - -\n") ≡ at 2 7)
    × (fault_in (codes "s 0 0 0 0000b083 - - - 16:0:0:M\n") ≡ at 2 9) × (fault_in (codes "s 0 0 0 0000b083 - - 0:0,0:0,0:0,0:0,0:0 -\n") ≡ at 2 8)
    × (fault_in (codes "w 0 t a/b//c 7\n") ≡ at 2 4) × (fault_in (codes "d 0 0 \n") ≡ at 2 4)
unfolding digits
line_faults = (refl, refl, refl, refl, refl, refl, refl, refl, refl, refl, refl, refl, refl, refl, refl, refl, refl)
