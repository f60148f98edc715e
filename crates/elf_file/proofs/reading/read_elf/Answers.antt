use Rattle.std.proofs.Common.{◌≡◌, cond, map, Some, ◌∙◌, sym, ap}
use Rattle.std.proofs.lemmas.Result.{err_from_is_err_and}
use Rattle.rv_fields.specs.Memory.{in_ram}
use Rattle.ram_image.specs.Segments.{memory_of}
use Rattle.elf_file.specs.Loading.{segment_in, segments_in, load}
use Rattle.elf_file.proofs.LoadLaw.{load-elf_of}
use Rattle.elf_file.proofs.Judging.{loaded_without_fault, unloaded_with_fault, no_fault_written, only_memory, sound_segments, memory_in_ram}
use Rattle.elf_file.proofs.reading.read_elf.Goals as goal

pub returns-in_err-headers-clause-unloaded : goal.returns-in_err-headers-clause-unloaded
returns-in_err-headers-clause-unloaded c =
    let p = err_from_is_err_and c.from_residual.result c.from_residual.ensures.1 in
    rw (p.1, p.2) (λ other a. unloaded_with_fault c.args.bytes.now c.in_err-headers.field-0.0 a (c.in_err-headers.ensures.fault other))

pub returns-in_err-headers-clause-written : goal.returns-in_err-headers-clause-written
returns-in_err-headers-clause-written c =
    let p = err_from_is_err_and c.from_residual.result c.from_residual.ensures.1 in
    rw (p.1, p.2) (λ segments few sound is.
    only_memory c.in_err-headers.field-0.0 (λ other. no_fault_written c.args.bytes.now segments c.in_err-headers.field-0.0 few sound is (c.in_err-headers.ensures.fault other)))

pub returns-clause-memory : goal.returns-clause-memory
returns-clause-memory c = λ a.
    let file = c.args.bytes.now in
    let headers = c.deref.ensures.value ∙ c.in_ok-headers.ensures.loads in
    loaded_without_fault file a c.in_ok-headers.ensures.fault
    ∙ sym (ap Some (
    c.in_ok-lay_segments.ensures a ∙ ap (λ hs. cond (in_ram a 1) (memory_of (map (segment_in file) hs) a) 0) headers
    ∙ memory_in_ram (segments_in file) a (sound_segments file c.in_ok-headers.ensures.fault)
    ))

pub returns-clause-written : goal.returns-clause-written
returns-clause-written c = λ segments few sound is a.
    let read : Some (memory_of segments a) ≡ Some _ = sym (load-elf_of segments a few sound) ∙ ap (λ file. load file a) (sym is) ∙ returns-clause-memory c a in
    (cc)
