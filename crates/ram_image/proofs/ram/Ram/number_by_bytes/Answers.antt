use Rattle.std.proofs.Common.{◌≡◌, ◌≤◌, take, length, ap, sym, ◌∙◌, arith, inl, inr}
use Rattle.std.proofs.lemmas.Bool.{cases_lt}
use Rattle.std.proofs.lemmas.List.{get_or-set_other, get_or-take, length-take-le, length-set}
use Rattle.std.proofs.lemmas.Grind.{get_or-set_at}
use Rattle.rv_fields.specs.Memory.{number_of}
use Rattle.ram_image.specs.Ram.{memory}
use Rattle.ram_image.proofs.Numbers.{bytes_are}
use Rattle.ram_image.proofs.ram.Ram.number_by_bytes.Goals as goal

pub loop-index-preserved : goal.loop-index-preserved
loop-index-preserved c =
    let bytes = c.loop-index.bytes in
    let long : length bytes ≡ 8 = c.loop-index.invariant.long in
    let place = c.from-in-loop-index.result in
    record {
      long = length-set bytes place c.byte.result ∙ long;
      read = λ k below. elim (cases_lt k c.loop-index.index) [
        | inl before ↦ get_or-set_other bytes place k c.byte.result 0 (λ same. omega arith) ∙ c.loop-index.invariant.read k before
        | inr here ↦
            let same : k ≡ place = omega arith in
            get_or-set_at bytes place k c.byte.result 0 same (omega arith) ∙ c.byte.ensures ∙ ap (memory c.args.self.now) (omega arith)
      ];
    }

pub returns-clause-number : goal.returns-clause-number
returns-clause-number c =
    let bytes = c.loop-index.bytes in
    let size = c.from-2.result in
    let long : length bytes ≡ 8 = c.loop-index.invariant.long in
    let enough : size ≤ length bytes = omega arith in
    let whole : length (take size bytes) ≡ c.args.size = length-take-le size bytes enough ∙ c.from-2.ensures in
    c.number_of.ensures.number
    ∙ ap number_of (sym (bytes_are (memory c.args.self.now) c.args.at c.args.size (take size bytes) whole (λ k below.
    get_or-take size bytes k 0 (omega arith) ∙ c.loop-index.invariant.read k (omega arith))))
