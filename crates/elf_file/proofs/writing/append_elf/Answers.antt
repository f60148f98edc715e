use Rattle.std.proofs.Common.{◌++◌, ◌∙◌, ap, arith}
use Rattle.std.proofs.lemmas.Result.{on_ok_weaker}
use Rattle.elf_file.proofs.Whole.{length_with_headers, appended_whole}
use Rattle.elf_file.proofs.Appending.{begins_appended, begins_further}
use Rattle.elf_file.proofs.writing.append_elf.Goals as goal

pub append_segments-requires-clause-started : goal.append_segments-requires-clause-started
append_segments-requires-clause-started c =
    let begun = c.in_ok-extend_from_slice.ensures.items ∙ ap (λ xs. c.args.into.now.items ++ xs) c.file_header.ensures in
    omega (arith, length_with_headers c.args.segments.now _ _ _ begun c.in_ok-append_program_headers.ensures.headers)

pub returns-clause-file : goal.returns-clause-file
returns-clause-file c =
    let begun = c.in_ok-extend_from_slice.ensures.items ∙ ap (λ xs. c.args.into.now.items ++ xs) c.file_header.ensures in
    on_ok_weaker c.append_segments.result (λ bytes. appended_whole c.args.segments.now _ _ _ _ begun c.in_ok-append_program_headers.ensures.headers bytes) c.append_segments.ensures.bytes

pub returns-clause-kept : goal.returns-clause-kept
returns-clause-kept c =
    let begun = c.in_ok-extend_from_slice.ensures.items ∙ ap (λ xs. c.args.into.now.items ++ xs) c.file_header.ensures in
    begins_further _ _ _ (begins_further _ _ _ (begins_appended _ _ _ begun) c.append_program_headers.ensures.kept) c.append_segments.ensures.kept
