-- The script of a template has its requests in their order.
use Rattle.std.proofs.Common.{ℕ, true, false, List, length, ltb, ◌<◌, ◌≤◌, ◌≡◌, ◌∙◌, Some, None, ap, arith, get_or, refl, slice_get, sym, option_map}
use Rattle.std.proofs.lemmas.Bool.Decides.{nat_tests}
use Rattle.std.proofs.lemmas.Option.{slice_get_past, slice_get_read}
use Rattle.region_plan.specs.declared.request.Item.{Item}
use Rattle.region_plan.specs.Request.{no_arms}
use Rattle.region_plan.specs.Script.{script_of}
use Rattle.region_plan.specs.Views.{request_seen}
use Rattle.hart_task.specs.Asking.{item_seen}
use Rattle.hart_task.proofs.Beginning.{script_at}
use Rattle.hart_task.proofs.task.HartTask.next_request.Goals as goal

past : (items : List Item) (i : ℕ) → false ≡ ltb i (length items) → slice_get items i ≡ None
past items i e = slice_get_past items i (let le : length items ≤ i = grind (arith, nat_tests) in le)

pub returns-in_err-item : goal.returns-in_err-item
returns-in_err-item c =
    ap (λ items. slice_get (script_of items) c.args.self.now.begun) (sym c.template.ensures) ∙ script_at c.template.result.now c.args.self.now.begun
    ∙ ap (option_map item_seen) (past c.template.result.now c.args.self.now.begun c.in_err-item.ensures.lookup.0)
    ∙ ap (option_map (λ r. record { request = request_seen r; arms = no_arms })) (sym c.from_residual.ensures)

inside : (items : List Item) (i : ℕ) (x : Item) → (true ≡ ltb i (length items)) × (x ≡ get_or items i x) → slice_get items i ≡ Some x
inside items i x e = slice_get_read items (length items) i x refl (let lt : i < length items = below (length items) i e.0 in lt) e.1
  where
    below : (n i : ℕ) → true ≡ ltb i n → i < n
    below n i e = grind (arith, nat_tests)

pub returns : goal.returns
returns c =
    ap (λ items. slice_get (script_of items) c.args.self.now.begun) (sym c.template.ensures) ∙ script_at c.template.result.now c.args.self.now.begun
    ∙ ap (option_map item_seen) (inside c.template.result.now c.args.self.now.begun c.in_ok-item.item.now (c.in_ok-item.ensures.lookup.0, c.in_ok-item.ensures.lookup.1))
    ∙ ap Some c.request_in.ensures
