use Rattle.std.proofs.Common.{◌≡◌, None, Result, Ok, Err, MatchResult}
use Rattle.std.specs.Result.{result_ok}
use Rattle.trace_fields.proofs.Numerals.{not_text}
use Rattle.trace_fields.proofs.numbers.parsed.Goals as goal

not_ok : {X E : Type 0} (r : Result X E) (P : X → Type 0) (Q : Type 0) (R : E → Type 0) → None ≡ result_ok r → MatchResult r P (λ e. Q × R e) → Q
not_ok (Ok x) P Q R none cases = absurd (cc)
not_ok (Err e) P Q R none cases = cases.0

pub returns-in_err-text : goal.returns-in_err-text
returns-in_err-text c = rw c.from_residual.ensures (λ reads. not_text c.args.base c.args.field.now c.requires.most
    (not_ok c.from_utf8.result _ _ _ c.in_err-text.ensures.value c.from_utf8.ensures.cases) reads.0)
