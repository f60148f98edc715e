use Rattle.std.proofs.Common.{◌++◌, ◌∷◌, [], ◌∙◌, get_or, take, List, sym, subst, arith}
use Rattle.elf_file.specs.declared.fields.ProgramHeader.{ProgramHeader}
use Rattle.elf_file.specs.Taken.{AreTaken}
use Rattle.elf_file.proofs.Clashes.{no_header, clash_at, apart_more, take_next, taken_more, taken_more_none}
use Rattle.elf_file.proofs.apart.check_apart.Goals as goal
use Rattle.elf_file.proofs.apart.check_apart.Goals.{then-header-gt0+in_ok-insert, else-header-gt0}

pub returns-in-Some : goal.returns-in-Some
returns-in-Some c = λ _. clash_at c.args.headers.now c.loop-place.place c.loop-place-test.true c.loop-place.invariant.apart c.in-Some.clash (sym c.clash_with.ensures ∙ c.in-Some.is)

pub loop-place-preserved : goal.loop-place-preserved
loop-place-preserved c =
    let before : List ProgramHeader = take c.loop-place.place c.args.headers.now in
    let header : ProgramHeader = get_or c.args.headers.now c.loop-place.place no_header in
    let none = sym c.clash_with.ensures ∙ c.in_default.is in
    let taken : AreTaken (before ++ header ∷ []) c.if-header-gt0.ends =
    elim c.if-header-gt0.branch [
      | then-header-gt0+in_ok-insert w ↦
          subst (AreTaken (before ++ header ∷ [])) (sym w.ends-is)
          (taken_more before header c.loop-place.ends w.insert.new.self c.loop-place.invariant.taken none w.if-header-gt0.true w.in_ok-insert.ensures.updates)
      | else-header-gt0 w ↦
          subst (AreTaken (before ++ header ∷ [])) (sym w.ends-is)
          (taken_more_none before header c.loop-place.ends c.loop-place.invariant.taken (omega (arith, w.if-header-gt0.false)))
    ] in
    record {
      taken = subst (λ (hs : List ProgramHeader). AreTaken hs c.if-header-gt0.ends) (sym (take_next c.args.headers.now c.loop-place.place c.loop-place-test.true c.loop-place.invariant.apart)) taken;
      apart = apart_more c.args.headers.now c.loop-place.place c.loop-place-test.true c.loop-place.invariant.apart none;
    }
