use Rattle.std.proofs.Common.{[], ◌∙◌, sym, ap}
use Rattle.std.proofs.lemmas.Result.{err_from_is_err_and}
use Rattle.elf_file.specs.Faults.{first_failed, apart_tests}
use Rattle.elf_file.proofs.Judging.{fault_of_header, fault_of_segment, fault_of_pair, no_fault}
use Rattle.elf_file.proofs.reading.read_headers.Goals as goal

pub returns-in_err-check_header-clause-fault : goal.returns-in_err-check_header-clause-fault
returns-in_err-check_header-clause-fault c =
    let p = err_from_is_err_and c.from_residual.result c.from_residual.ensures.1 in
    rw (p.1, p.2) (λ _. fault_of_header c.args.bytes.now c.in_err-check_header.field-0.0 (sym c.in_err-check_header.ensures.fault))

pub returns-in_err-headers-clause-fault : goal.returns-in_err-headers-clause-fault
returns-in_err-headers-clause-fault c =
    let p = err_from_is_err_and c.from_residual-in_err-headers.result c.from_residual-in_err-headers.ensures.1 in
    rw (p.1, p.2) (λ some. fault_of_segment c.args.bytes.now (sym c.in_ok-check_header.ensures.fault) c.in_err-headers.field-0.0 (c.in_err-headers.ensures.fault some))

pub returns-in_err-check_apart-clause-fault : goal.returns-in_err-check_apart-clause-fault
returns-in_err-check_apart-clause-fault c =
    let p = err_from_is_err_and c.from_residual-in_err-check_apart.result c.from_residual-in_err-check_apart.ensures.1 in
    let headers = c.deref.ensures.value ∙ c.in_ok-headers.ensures.loads in
    rw (p.1, p.2) (λ some.
    fault_of_pair c.args.bytes.now (sym c.in_ok-check_header.ensures.fault) c.in_err-check_apart.field-0.0 c.in_ok-headers.ensures.fault
    (ap (λ hs. first_failed (apart_tests [] hs)) (sym headers) ∙ c.in_err-check_apart.ensures some))

pub returns-clause-fault : goal.returns-clause-fault
returns-clause-fault c =
    let headers = c.deref.ensures.value ∙ c.in_ok-headers.ensures.loads in
    no_fault c.args.bytes.now (sym c.in_ok-check_header.ensures.fault) c.in_ok-headers.ensures.fault (ap (λ hs. first_failed (apart_tests [] hs)) (sym headers) ∙ c.in_ok-check_apart.ensures)
