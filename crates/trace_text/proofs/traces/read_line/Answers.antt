use Rattle.std.proofs.Common.{refl}
use Rattle.std.specs.Prelude.{codes}
use Rattle.trace_fields.specs.Fields.{fields_in}
use Rattle.trace_fields.proofs.Taken.{handed_on}
use Rattle.trace_text.specs.Traces.{request_form, picked_form, weighed_form, fixed_form, given_form, settled_form, touched_form, step_form, done_form, refused_form}
use Rattle.trace_text.proofs.LinesRead.{read_behind, fault_behind, took_letter, some_field}
use Rattle.trace_text.proofs.traces.read_line.Goals as goal

pub returns-in-113 : goal.returns-in-113
returns-in-113 c =
    read_behind request_form c.args.harts c.args.number (fields_in c.args.text.now) c.of-fields.ensures
    (took_letter 113 c.in_ok-next.ensures c.in-len1.len_at_least c.in-len1.len_below c.in-113.is) refl c.request.result c.request.ensures

pub returns-in-112 : goal.returns-in-112
returns-in-112 c =
    read_behind picked_form c.args.harts c.args.number (fields_in c.args.text.now) c.of-fields.ensures
    (took_letter 112 c.in_ok-next.ensures c.in-len1.len_at_least c.in-len1.len_below c.in-112.is) refl c.picked.result c.picked.ensures

pub returns-in-119 : goal.returns-in-119
returns-in-119 c =
    read_behind weighed_form c.args.harts c.args.number (fields_in c.args.text.now) c.of-fields.ensures
    (took_letter 119 c.in_ok-next.ensures c.in-len1.len_at_least c.in-len1.len_below c.in-119.is) refl c.weighed.result c.weighed.ensures

pub returns-in-120 : goal.returns-in-120
returns-in-120 c =
    read_behind fixed_form c.args.harts c.args.number (fields_in c.args.text.now) c.of-fields.ensures
    (took_letter 120 c.in_ok-next.ensures c.in-len1.len_at_least c.in-len1.len_below c.in-120.is) refl c.fixed.result c.fixed.ensures

pub returns-in-103 : goal.returns-in-103
returns-in-103 c =
    read_behind given_form c.args.harts c.args.number (fields_in c.args.text.now) c.of-fields.ensures
    (took_letter 103 c.in_ok-next.ensures c.in-len1.len_at_least c.in-len1.len_below c.in-103.is) refl c.given.result c.given.ensures

pub returns-in-109 : goal.returns-in-109
returns-in-109 c =
    read_behind settled_form c.args.harts c.args.number (fields_in c.args.text.now) c.of-fields.ensures
    (took_letter 109 c.in_ok-next.ensures c.in-len1.len_at_least c.in-len1.len_below c.in-109.is) refl c.settled.result c.settled.ensures

pub returns-in-121 : goal.returns-in-121
returns-in-121 c =
    read_behind touched_form c.args.harts c.args.number (fields_in c.args.text.now) c.of-fields.ensures
    (took_letter 121 c.in_ok-next.ensures c.in-len1.len_at_least c.in-len1.len_below c.in-121.is) refl c.touched.result c.touched.ensures

pub returns-in-100 : goal.returns-in-100
returns-in-100 c =
    read_behind done_form c.args.harts c.args.number (fields_in c.args.text.now) c.of-fields.ensures
    (took_letter 100 c.in_ok-next.ensures c.in-len1.len_at_least c.in-len1.len_below c.in-100.is) refl c.done.result c.done.ensures

pub returns-in-114 : goal.returns-in-114
returns-in-114 c =
    read_behind refused_form c.args.harts c.args.number (fields_in c.args.text.now) c.of-fields.ensures
    (took_letter 114 c.in_ok-next.ensures c.in-len1.len_at_least c.in-len1.len_below c.in-114.is) refl c.refused.result c.refused.ensures

pub returns-in_err-step-in-115 : goal.returns-in_err-step-in-115
returns-in_err-step-in-115 c =
    let answer = c.from_residual-in_err-step-in-115 in
    handed_on _ _ answer.result _ answer.ensures.1
    (fault_behind (step_form (codes "s")) c.args.harts c.args.number (fields_in c.args.text.now) c.of-fields.ensures
    (took_letter 115 c.in_ok-next.ensures c.in-len1.len_at_least c.in-len1.len_below c.in-115.is) refl _ c.in_err-step-in-115.ensures)

pub returns-in_err-step-in-102 : goal.returns-in_err-step-in-102
returns-in_err-step-in-102 c =
    let answer = c.from_residual-in_err-step-in-102 in
    handed_on _ _ answer.result _ answer.ensures.1
    (fault_behind (step_form (codes "f")) c.args.harts c.args.number (fields_in c.args.text.now) c.of-fields.ensures
    (took_letter 102 c.in_ok-next.ensures c.in-len1.len_at_least c.in-len1.len_below c.in-102.is) refl _ c.in_err-step-in-102.ensures)

pub returns-in_err-step-in-101 : goal.returns-in_err-step-in-101
returns-in_err-step-in-101 c =
    let answer = c.from_residual-in_err-step-in-101 in
    handed_on _ _ answer.result _ answer.ensures.1
    (fault_behind (step_form (codes "e")) c.args.harts c.args.number (fields_in c.args.text.now) c.of-fields.ensures
    (took_letter 101 c.in_ok-next.ensures c.in-len1.len_at_least c.in-len1.len_below c.in-101.is) refl _ c.in_err-step-in-101.ensures)

pub returns-in_err-next : goal.returns-in_err-next
returns-in_err-next c = absurd (some_field c.args.text.now c.of-fields.ensures refl c.in_err-next.ensures.0)
