use Rattle.std.proofs.Common.{◌≡◌, ℕ, List, [], ◌∷◌, length, refl, sym, ◌∙◌, inl, inr}
use Rattle.rv_fields.specs.declared.csr.Csr.{Csr}
use Rattle.rv_fields.specs.CsrFile.{CsrFile, written_each}
use Rattle.rv_csr.proofs.file.CsrFile.put_each.Goals as goal

-- where registers or values have run out, nothing is written
no_more_registers : (file : CsrFile) (csrs : List Csr) (values : List ℕ) → length csrs ≡ 0 → written_each file csrs values ≡ file
no_more_registers file [] values none = refl
no_more_registers file (csr ∷ csrs) values none = absurd cc

no_more_values : (file : CsrFile) (csrs : List Csr) (values : List ℕ) → length values ≡ 0 → written_each file csrs values ≡ file
no_more_values file [] values none = refl
no_more_values file (csr ∷ csrs) [] none = refl
no_more_values file (csr ∷ csrs) (value ∷ values) none = absurd cc

pub returns : goal.returns
returns c =
    let file = c.loop-csr.self in
    let csrs = c.loop-csr.csr-iterator.a.rest.now in
    let values = c.loop-csr.csr-iterator.b.rest.now in
    let whole : written_each file csrs values ≡ written_each c.args.self.now c.args.csrs.now c.args.values.now = c.loop-csr.invariant in
    elim c.in-None.ensures.steps [
      | inl first ↦ sym (no_more_registers file csrs values first.1.0) ∙ whole
      | inr second ↦ sym (no_more_values file csrs values second.1.0) ∙ whole
    ]
