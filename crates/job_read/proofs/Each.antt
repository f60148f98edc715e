-- Values that are read one after another, as far as a loop has come.
use Rattle.std.proofs.Common.{ℕ, ◌+◌, ◌<◌, ◌≤◌, ◌≡◌, Bool, List, [], ◌∷◌, ◌++◌, length, map, drop, get_or, Option, Some, None, Result, Err, Vec, Global, refl, ap, sym, subst, ◌∙◌, append_assoc, append-nil}
use Rattle.std.proofs.lemmas.List.{at_drop_all, at_drop_more}
use Rattle.serde_json.specs.declared.value.Value.{Value}
use Rattle.serde_json.specs.Data.{Data, Items as Values, no_items as no_values, item}
use Rattle.serde_json.specs.View.{view, items_view}
use Rattle.json_keys.specs.declared.input.InputFault.{InputFault}
use Rattle.json_keys.specs.declared.input.InputFault.TheVariants.{NotBuilt, Memory}
use Rattle.json_keys.specs.Input.{ReadsAs}
use Rattle.rv_fields.specs.Attempt.{◌>>=◌}
use Rattle.region_plan.specs.declared.job.Job.{Job}
use Rattle.region_plan.specs.declared.plan.HartPlan as code
use Rattle.region_plan.specs.declared.request.Item.{Item}
use Rattle.region_plan.specs.declared.request.Item.TheVariants.{One}
use Rattle.region_plan.specs.declared.request.Request as asked
use Rattle.region_plan.specs.Plan.{HartPlan}
use Rattle.region_plan.specs.Registers.{registers_in, rising}
use Rattle.region_plan.proofs.Registers.{rising_again, rising_more}
use Rattle.region_plan.specs.Request.{Items, no_items, one}
use Rattle.region_plan.specs.Views.{harts_seen, items_seen, planned_hart, request_seen, work_of}
use Rattle.job_read.specs.Accepted.{request_of, register, numbers_of, items_of, accepted_hart, harts_of}

-- One value more is read: what was read so far, ahead of what the values left give, is the whole as before.
one_more : {Y Z : Type 0} (read_one : Data → Option Y) (read_all : Values → Option Z) (join : Y → Z → Z)
    → ((v : Data) (vs : Values) → read_all (item v vs) ≡ (read_one v >>= λ y. (read_all vs >>= λ z. Some (join y z))))
    → (values : List Value) (index : ℕ) (value : Value) (found : Y) (old new : Z → Z) (all : Option Z)
    → index < length values → get_or values index value ≡ value → read_one (view value) ≡ Some found → ((z : Z) → new z ≡ old (join found z))
    → (read_all (items_view (drop index values)) >>= λ others. Some (old others)) ≡ all
    → (read_all (items_view (drop (index + 1) values)) >>= λ others. Some (new others)) ≡ all
one_more {Y} {Z} read_one read_all join by_one values index value found old new all small at read is whole =
    let rest : List Value = drop (index + 1) values in
    let F : List Value → Option Z = λ vs. read_all (items_view vs) >>= λ others. Some (old others) in
    let before : F (value ∷ rest) ≡ all = ap (λ v. F (v ∷ rest)) (sym at) ∙ sym (at_drop_more F values index value small) ∙ whole in
    let split : ((read_one (view value) >>= λ y. (read_all (items_view rest) >>= λ z. Some (join y z))) >>= λ others. Some (old others)) ≡ all =
    subst (λ m. (m >>= λ others. Some (old others)) ≡ all) (by_one (view value) (items_view rest)) before in
    let read_first : ((read_all (items_view rest) >>= λ z. Some (join found z)) >>= λ others. Some (old others)) ≡ all =
    subst (λ m. ((m >>= λ y. (read_all (items_view rest) >>= λ z. Some (join y z))) >>= λ others. Some (old others)) ≡ all) read split in
    joined (read_all (items_view rest)) ∙ read_first
  where
    joined : (m : Option Z) → (m >>= λ others. Some (new others)) ≡ ((m >>= λ z. Some (join found z)) >>= λ others. Some (old others))
    joined None = refl
    joined (Some z) = ap Some (is z)

-- no value is left: what was read so far is the whole
none_left : {Z : Type 0} (read_all : Values → Option Z) (none : Z) → read_all no_values ≡ Some none
    → (values : List Value) (index : ℕ) (old : Z → Z) (all : Option Z)
    → length values ≤ index → (read_all (items_view (drop index values)) >>= λ others. Some (old others)) ≡ all → all ≡ Some (old none)
none_left read_all none at_none values index old all end whole =
    sym whole ∙ at_drop_all (λ vs. read_all (items_view vs) >>= λ others. Some (old others)) values index end ∙ ap (λ m. m >>= λ others. Some (old others)) at_none

-- ---- items

-- items ahead of others
abbrev pub ahead : List Item → Items → Items
ahead [] others = others
ahead (One request ∷ items) others = one (request_seen request) (ahead items others)

ahead_of_none : (items : List Item) → ahead items no_items ≡ items_seen items
ahead_of_none [] = refl
ahead_of_none (One request ∷ items) = ap (one (request_seen request)) (ahead_of_none items)

ahead_more : (items : List Item) (request : asked.Request) (others : Items) → ahead (items ++ One request ∷ []) others ≡ ahead items (one (request_seen request) others)
ahead_more [] request others = refl
ahead_more (One first ∷ items) request others = ap (one (request_seen first)) (ahead_more items request others)

pub item_more : (values : List Value) (index : ℕ) (old new : List Item) (value : Value) (request : asked.Request) (all : Option Items)
    → index < length values → get_or values index value ≡ value → request_of (view value) ≡ Some (request_seen request) → new ≡ old ++ One request ∷ []
    → (items_of (items_view (drop index values)) >>= λ others. Some (ahead old others)) ≡ all
    → (items_of (items_view (drop (index + 1) values)) >>= λ others. Some (ahead new others)) ≡ all
item_more values index old new value request all small at read is whole =
    one_more request_of items_of one (λ v vs. refl) values index value (request_seen request) (ahead old) (ahead new) all small at read
    (λ others. ap (λ items. ahead items others) is ∙ ahead_more old request others) whole

pub items_all : (values : List Value) (index : ℕ) (items : List Item) → length values ≤ index
    → (items_of (items_view (drop index values)) >>= λ others. Some (ahead items others)) ≡ items_of (items_view values)
    → items_of (items_view values) ≡ Some (items_seen items)
items_all values index items end whole = none_left items_of no_items refl values index (ahead items) _ end whole ∙ ap Some (ahead_of_none items)

-- ---- registers to avoid

-- those so far with the ones left
abbrev pub registers_with : List Bool → List ℕ → List ℕ
registers_with has others = rising (registers_in has ++ others)

pub register_more : (values : List Value) (index : ℕ) (old new : List Bool) (value : Value) (number : ℕ) (all : Option (List ℕ))
    → index < length values → get_or values index value ≡ value → register (view value) ≡ Some number → registers_in new ≡ rising (number ∷ registers_in old)
    → (numbers_of (items_view (drop index values)) >>= λ others. Some (registers_with old others)) ≡ all
    → (numbers_of (items_view (drop (index + 1) values)) >>= λ others. Some (registers_with new others)) ≡ all
register_more values index old new value number all small at read is whole =
    one_more register numbers_of (λ n ns. n ∷ ns) (λ v vs. refl) values index value number (registers_with old) (registers_with new) all small at read
    (λ others. ap (λ members. rising (members ++ others)) is ∙ rising_more (registers_in old) others number) whole

pub registers_all : (values : List Value) (index : ℕ) (has : List Bool) (all : Option (List ℕ)) → length values ≤ index
    → (numbers_of (items_view (drop index values)) >>= λ others. Some (registers_with has others)) ≡ all → all ≡ Some (registers_in has)
registers_all values index has all end whole =
    none_left numbers_of [] refl values index (registers_with has) all end whole ∙ ap (λ members. Some (rising members)) (append-nil (registers_in has)) ∙ ap Some (rising_again has)

-- a value that is no register leaves none
pub no_registers : (values : List Value) (index : ℕ) (value : Value) (has : List Bool) (all : Option (List ℕ))
    → index < length values → get_or values index value ≡ value → register (view value) ≡ None
    → (numbers_of (items_view (drop index values)) >>= λ others. Some (registers_with has others)) ≡ all → all ≡ None
no_registers values index value has all small at none whole =
    let rest : List Value = drop (index + 1) values in
    let F : List Value → Option (List ℕ) = λ vs. numbers_of (items_view vs) >>= λ others. Some (registers_with has others) in
    sym whole ∙ at_drop_more F values index value small ∙ ap (λ v. F (v ∷ rest)) at
    ∙ ap (λ m. (m >>= λ n. (numbers_of (items_view rest) >>= λ ns. Some (n ∷ ns))) >>= λ others. Some (registers_with has others)) none

-- ---- harts

-- the harts that stand so far, each with its template
abbrev pub with_templates : List code.HartPlan → List (Vec Item Global) → List HartPlan
with_templates harts templates = harts_seen harts (map (λ t. items_seen t.items) templates)

seen_more : (harts : List code.HartPlan) (templates : List (Vec Item Global)) (hart : code.HartPlan) (template : Vec Item Global)
    → length templates ≡ length harts
    → with_templates (harts ++ hart ∷ []) (templates ++ template ∷ []) ≡ with_templates harts templates ++ planned_hart hart (items_seen template.items) ∷ []
seen_more [] [] hart template e = refl
seen_more [] (t ∷ templates) hart template e = absurd cc
seen_more (h ∷ harts) [] hart template e = absurd cc
seen_more (h ∷ harts) (t ∷ templates) hart template e =
    let tails : length templates ≡ length harts = cc in ap (λ hs. planned_hart h (items_seen t.items) ∷ hs) (seen_more harts templates hart template tails)

pub hart_more : (values : List Value) (index : ℕ) (harts harts_now : List code.HartPlan) (templates templates_now : List (Vec Item Global))
    (value : Value) (hart : code.HartPlan) (template : Vec Item Global) (all : Option (List HartPlan))
    → index < length values → get_or values index value ≡ value → accepted_hart (view value) ≡ Some (planned_hart hart (items_seen template.items))
    → harts_now ≡ harts ++ hart ∷ [] → templates_now ≡ templates ++ template ∷ [] → length templates ≡ length harts
    → (harts_of (items_view (drop index values)) >>= λ others. Some (with_templates harts templates ++ others)) ≡ all
    → (harts_of (items_view (drop (index + 1) values)) >>= λ others. Some (with_templates harts_now templates_now ++ others)) ≡ all
hart_more values index harts harts_now templates templates_now value hart template all small at read is_harts is_templates same whole =
    one_more accepted_hart harts_of (λ h hs. h ∷ hs) (λ v vs. refl) values index value (planned_hart hart (items_seen template.items))
    (λ others. with_templates harts templates ++ others) (λ others. with_templates harts_now templates_now ++ others) all small at read
    (λ others. ap (λ hs. hs ++ others) now_seen ∙ append_assoc (with_templates harts templates) (planned_hart hart (items_seen template.items) ∷ []) others) whole
  where
    now_seen : with_templates harts_now templates_now ≡ with_templates harts templates ++ planned_hart hart (items_seen template.items) ∷ []
    now_seen = ap (λ hs. with_templates hs templates_now) is_harts ∙ ap (with_templates (harts ++ hart ∷ [])) is_templates ∙ seen_more harts templates hart template same

pub harts_all : (values : List Value) (index : ℕ) (harts : List code.HartPlan) (templates : List (Vec Item Global)) → length values ≤ index
    → (harts_of (items_view (drop index values)) >>= λ others. Some (with_templates harts templates ++ others)) ≡ harts_of (items_view values)
    → harts_of (items_view values) ≡ Some (with_templates harts templates)
harts_all values index harts templates end whole =
    none_left harts_of [] refl values index (λ others. with_templates harts templates ++ others) _ end whole ∙ ap Some (append-nil (with_templates harts templates))

-- a hart that isn't read leaves no harts
unread : (values : List Value) (index : ℕ) (value : Value) (so_far : List HartPlan)
    → index < length values → get_or values index value ≡ value → accepted_hart (view value) ≡ None
    → (harts_of (items_view (drop index values)) >>= λ others. Some (so_far ++ others)) ≡ harts_of (items_view values)
    → harts_of (items_view values) ≡ None
unread values index value so_far small at none whole =
    let rest : List Value = drop (index + 1) values in
    let F : List Value → Option (List HartPlan) = λ vs. harts_of (items_view vs) >>= λ others. Some (so_far ++ others) in
    sym whole ∙ at_drop_more F values index value small ∙ ap (λ v. F (v ∷ rest)) at
    ∙ ap (λ m. (m >>= λ h. (harts_of (items_view rest) >>= λ hs. Some (h ∷ hs))) >>= λ others. Some (so_far ++ others)) none

pub no_harts : (values : List Value) (index : ℕ) (value : Value) (so_far : List HartPlan) (fault : InputFault) (result : Result Job InputFault)
    → index < length values → get_or values index value ≡ value
    → ReadsAs {X = code.HartPlan × Vec Item Global} (λ h. planned_hart h.0 (items_seen h.1.items)) (Err fault) (accepted_hart (view value))
    → (harts_of (items_view (drop index values)) >>= λ others. Some (so_far ++ others)) ≡ harts_of (items_view values)
    → result ≡ Err fault → ReadsAs (λ job. (work_of job).harts) result (harts_of (items_view values))
no_harts values index value so_far fault result small at read whole is =
    subst (λ r. ReadsAs (λ job. (work_of job).harts) r (harts_of (items_view values))) (sym is) (by fault read)
  where
    by : (fault : InputFault) → ReadsAs {X = code.HartPlan × Vec Item Global} (λ h. planned_hart h.0 (items_seen h.1.items)) (Err fault) (accepted_hart (view value))
        → ReadsAs (λ job. (work_of job).harts) (Err fault) (harts_of (items_view values))
    by NotBuilt none = unread values index value so_far small at none whole
    by Memory read = tt
