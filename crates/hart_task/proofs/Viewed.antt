-- What a turn is, for the machine: whether it steps, and what it fixes and notes.
use Rattle.std.proofs.Common.{◌⊎◌, ℕ, ◌+◌, ◌≡◌, Bool, true, false, cond, List, [], ◌∷◌, Option, Some, None, inl, inr, refl, sym, ap, subst, ◌∙◌}
use Rattle.std.specs.Prelude.{option_map, is_none, is_some, ◌&&◌, not, ◌==◌, ◌++◌, ◌||◌, length}
use Rattle.std.specs.Option.{option_map_or}
use Rattle.rv_encode.specs.Li.{li}
use Rattle.rv_fields.specs.Hart.{Hart, updated}
use Rattle.rv_fields.specs.Name.{Name}
use Rattle.rv_fields.specs.declared.row_table.Ins.{Ins}
use Rattle.rv_fields.proofs.Options.{found}
use Rattle.choice_tree.specs.Draws.{Draws}
use Rattle.region_plan.specs.Plan.{Work, plan_of}
use Rattle.region_plan.specs.Request.{MemRequest, Plain, Quiet, Request, a_csr, a_jump, a_loop, a_mem, a_pick, a_plain, a_set, a_sys, a_value, an_ins, no_arms}
use Rattle.region_plan.specs.Script.{ScriptItem, script_for}
use Rattle.operand_solver.specs.Operands.{Operand, behind_operand, value_of_operand}
use Rattle.place_solver.specs.Placing.{PlacedAccess, base_of, narrowed, near, placed_access, placed_at}
use Rattle.table_space.specs.Tables.{with_entries}
use Rattle.trace_fields.specs.declared.request.Cause.{Cause}
use Rattle.world_face.specs.Events.{Settle, Short, Wanted}
use Rattle.hart_task.specs.Acts.{Act, Begun, Came, Fixing, Picking, answers, begins, gives_up, is_found, is_last, is_made, is_memory, refuses, steps}
use Rattle.hart_task.specs.Beginning.{Prepared, cause_of, ins_by, is_late, makes, mem_prepared, plain_prepared, prepared, settle_of, value_prepared, words_needed}
use Rattle.hart_task.specs.Heard.{Heard}
use Rattle.hart_task.specs.State.{HartState, Loop, Making, Phase, Sequel, Until, WantedLoad, at_end, between, counter_of, enters, finding, is_done, making, reaches, turns, wants}
use Rattle.hart_task.specs.Stepping.{StepTaken, stepped}
use Rattle.hart_task.specs.Turn.{Next, Turned, asked_settle, at_rest, begun, begun_turn, demand_of, done_turn, end_word, is_out, last_turn, made_step, made_turn, meets, next_in_body, next_of, next_turn, noting, out_or_on, picked_leaf, placed_turn, reads_wanted, rest_in_loop, step_turn, turned, turned_in, wanted_number, wanted_turn, with_draws, with_fixing, with_pick}

pub record Keeps (s u : HartState) : Type 0 where
  pub hart : u.hart ≡ s.hart
  pub words : u.words ≡ s.words
  pub entries : u.entries ≡ s.entries

keeps_same : (s : HartState) → Keeps s s
keeps_same s = record { hart = refl; words = refl; entries = refl }

pub then_keeps : (s u v : HartState) → Keeps s u → Keeps u v → Keeps s v
then_keeps s u v k l = record { hart = l.hart ∙ k.hart; words = l.words ∙ k.words; entries = l.entries ∙ k.entries }

keeps_at_rest : (work : Work) (s : HartState) → Keeps s (at_rest work s)
keeps_at_rest work s = of s.loop
  where
    in_loop : (l : Loop) (body : List Plain) → Keeps s (rest_in_loop work s l body)
    in_loop l [] = record { hart = refl; words = refl; entries = refl }
    in_loop l (p ∷ ps) = record { hart = refl; words = refl; entries = refl }

    of : (l : Option Loop) → Keeps s (option_map_or (λ (l : Loop). rest_in_loop work s l l.body) l (record s { phase = between }))
    of None = record { hart = refl; words = refl; entries = refl }
    of (Some l) = in_loop l l.body

-- ---- steps

-- a turn that does what was taken, and keeps the state behind it but for what the machine doesn't see
pub record IsStep (came : Came) (t : StepTaken) (u : Turned) : Type 0 where
  pub wanted : Option Wanted
  pub ends : Option ℕ
  pub state : HartState
  pub is : step_turn came wanted ends t state ≡ u
  pub keeps : Keeps t.state state

is_step : (came : Came) (t : StepTaken) (wanted : Option Wanted) (ends : Option ℕ) (v : HartState) → Keeps t.state v → IsStep came t (step_turn came wanted ends t v)
is_step came t wanted ends v keeps = record { wanted = wanted; ends = ends; state = v; is = refl; keeps = keeps }

is_step_if : (came : Came) (t : StepTaken) (b : Bool) (u v : Turned) → IsStep came t u → IsStep came t v → IsStep came t (cond b u v)
is_step_if came t true u v h k = h
is_step_if came t false u v h k = k

done_is : (work : Work) (k : ℕ) (wanted : Option Wanted) (t : StepTaken) → IsStep is_made t (done_turn work k wanted t)
done_is work k wanted t = is_step_if is_made t (is_none t.effect.trap) _ _
    (is_step is_made t wanted (Some k) (at_rest work t.state) (keeps_at_rest work t.state))
    (is_step is_made t wanted None _ (record { hart = refl; words = refl; entries = refl }))

out_is : (came : Came) (work : Work) (k : ℕ) (until : Until) (t : StepTaken) (s : HartState) → Keeps t.state s → IsStep came t (out_or_on came work k until t s)
out_is came work k until t s keeps = is_step_if came t (is_out until s.hart) _ _
    (is_step came t None (Some k) (at_rest work s) (then_keeps t.state s (at_rest work s) keeps (keeps_at_rest work s)))
    (is_step came t None None _ (record { hart = keeps.hart; words = keeps.words; entries = keeps.entries }))

last_is : (work : Work) (k : ℕ) (sequel : Sequel) (wanted : Option Wanted) (t : StepTaken) → IsStep is_made t (last_turn work k sequel wanted t)
last_is work k (is_done demand) wanted t = done_is work k wanted t
last_is work k (wants w) wanted t = is_step is_made t None None _ (record { hart = refl; words = refl; entries = refl })
last_is work k (enters l) wanted t = is_step is_made t None None _ (record { hart = refl; words = refl; entries = refl })
last_is work k turns wanted t = out_is is_made work k (reaches (t.effect.pc + 4)) t (record t.state { loop = None }) (record { hart = refl; words = refl; entries = refl })

-- what a step was taken from: a word that is made, or that stands
abbrev pub From : Came → Work → HartState → Heard → StepTaken → Type 0
From is_made work s heard t = (word : ℕ) × (wanted : Option Wanted) × (made_step work s word heard wanted ≡ Some t)
From is_last work s heard t = (word : ℕ) × (wanted : Option Wanted) × (made_step work s word heard wanted ≡ Some t)
From is_found work s heard t = (wanted : Option Wanted) × (stepped work s heard wanted ≡ Some t)

-- ---- all turns

-- the hart with a register fixed, and the entries with those of a way
abbrev pub hart_fixed : Option Fixing → Hart → Hart
hart_fixed None hart = hart
hart_fixed (Some f) hart = record hart { x = updated hart.x f.register (Some f.value) }

pub same_number : (fixing : Option Fixing) (hart : Hart) → (hart_fixed fixing hart).number ≡ hart.number
same_number None hart = refl
same_number (Some f) hart = refl

abbrev pub entries_noted : Option Settle → (ℕ → Option ℕ) → ℕ → Option ℕ
entries_noted None entries = entries
entries_noted (Some settle) entries = with_entries entries settle.path

pub record Begins (work : Work) (s : HartState) (b : Begun) (fixing : Option Fixing) (u : HartState) : Type 0 where
  pub hart : u.hart ≡ hart_fixed fixing s.hart
  pub words : u.words ≡ s.words
  pub entries : u.entries ≡ entries_noted b.settle s.entries
  pub late : (f : Fixing) → fixing ≡ Some f → s.hart.x f.register ≡ None
  pub memory : (settle : Settle) → b.settle ≡ Some settle → (is_memory b.request ≡ true) × (is_some (plan_of work s.hart.number).space ≡ true)
  pub short : (settle : Settle) → b.settle ≡ Some settle → (b.short ≡ None) ⊎ (settle.path ≡ [])

abbrev pub View : Work → HartState → Heard → Act → HartState → Type 0
View work s heard (refuses b cause) u = Keeps s u
View work s heard (answers b fixing) u = Begins work s b fixing u
View work s heard (begins b fixing told) u = Begins work s b fixing u × (told ≡ cond (is_some b.settle) heard.told [])
View work s heard (steps x) u = (t : StepTaken) × (v : HartState) × (From x.came work s heard t)
    × (x.registers ≡ t.registers) × (x.bytes ≡ t.bytes) × (x.effect ≡ t.effect) × (x.probe ≡ t.probe) × (u ≡ v) × Keeps t.state v
View work s heard (gives_up k preamble wanted) u = Keeps s u

view_step : (work : Work) (s : HartState) (heard : Heard) (came : Came) (t : StepTaken) (u : Turned) → From came work s heard t → IsStep came t u → View work s heard u.act u.state
view_step work s heard came t u from is =
    subst (λ (q : Turned). View work s heard q.act q.state) is.is (t, is.state, from, refl, refl, refl, refl, refl, is.keeps)

some_view : (work : Work) (s : HartState) (heard : Heard) (u t : Turned) → Some u ≡ Some t → View work s heard u.act u.state → View work s heard t.act t.state
some_view work s heard u t e v = subst (λ (q : Turned). View work s heard q.act q.state) (let same : u ≡ t = cc in same) v

if_view : (work : Work) (s : HartState) (heard : Heard) (b : Bool) (u t : Turned) → cond b (Some u) None ≡ Some t → View work s heard u.act u.state → View work s heard t.act t.state
if_view work s heard true u t e v = some_view work s heard u t e v
if_view work s heard false u t e v = absurd cc

placed_view : (work : Work) (s : HartState) (heard : Heard) (m : Making) (w : WantedLoad) (wanted : Wanted) (place : Option ℕ) (t : Turned)
    → placed_turn work s heard m w wanted place ≡ Some t → View work s heard t.act t.state
placed_view work s heard m w wanted None t e = some_view work s heard _ t e (keeps_at_rest work s)
placed_view work s heard m w wanted (Some place) t e =
    let x = found (made_step work s _ heard (Some wanted)) _ t e in
    if_view work s heard (is_none x.0.effect.trap && reads_wanted wanted x.0.effect.access) _ t x.2
    (view_step work s heard is_made x.0 _ (_, Some wanted, x.1) (done_is work m.k (Some wanted) x.0))

wanted_view : (work : Work) (s : HartState) (heard : Heard) (m : Making) (sequel : Sequel) (t : Turned) → wanted_turn work s heard m sequel ≡ Some t → View work s heard t.act t.state
wanted_view work s heard m (wants w) t e = let x = found (wanted_number s w) _ t e in placed_view work s heard m w x.0 _ t x.2
wanted_view work s heard m (is_done demand) t e = absurd cc
wanted_view work s heard m (enters l) t e = absurd cc
wanted_view work s heard m turns t e = absurd cc

made_view : (work : Work) (s : HartState) (heard : Heard) (m : Making) (words : List ℕ) (t : Turned) → made_turn work s heard m words ≡ Some t → View work s heard t.act t.state
made_view work s heard m [] t e = wanted_view work s heard m m.sequel t e
made_view work s heard m (word ∷ []) t e =
    let x = found (made_step work s word heard None) _ t e in
    if_view work s heard (meets (demand_of m.sequel) x.0.effect.trap) _ t x.2
    (view_step work s heard is_made x.0 _ (word, None, x.1) (last_is work m.k m.sequel None x.0))
made_view work s heard m (word ∷ next ∷ words) t e =
    let x = found (made_step work s word heard None) _ t e in
    if_view work s heard (is_none x.0.effect.trap) _ t x.2
    (view_step work s heard is_made x.0 _ (word, None, x.1) (is_step is_made x.0 None None _ (record { hart = refl; words = refl; entries = refl })))

-- ---- a request that begins

-- a base is fixed only where it had no value
record Based (value : Option ℕ) (base : ℕ) (p : PlacedAccess) : Type 0 where
  late : p.fixes ≡ true → value ≡ None
  rs1 : p.ops.rs1 ≡ base

is_nothing : {A : Type 0} (m : Option A) (b : Bool) → (is_none m && b) ≡ true → m ≡ None
is_nothing None b e = refl
is_nothing (Some a) b e = absurd cc

based_if : (value : Option ℕ) (base : ℕ) (b : Bool) (p q : PlacedAccess) → Based value base p → Based value base q → Based value base (cond b p q)
based_if value base true p q h k = h
based_if value base false p q h k = k

based_at : (work : Work) (h : ℕ) (ins : Ins) (r : MemRequest) (value : Option ℕ) (preamble : Bool) (base : ℕ) (draws : Draws) → Based value base (placed_at work h ins r value preamble base draws)
based_at work h ins r value preamble base draws =
    based_if value base (is_some r.want) _ _ (record { late = is_nothing value (not preamble); rs1 = refl })
    (based_if value base (preamble || is_none value) _ _ (record { late = is_nothing value (not preamble); rs1 = refl }) (record { late = λ e. absurd cc; rs1 = refl }))

mem_late : (x : ℕ → Option ℕ) (r : MemRequest) (ins : Ins) (p : PlacedAccess) (base : ℕ) → Based (x base) base p → (f : Fixing) → (mem_prepared r ins p).fixes ≡ Some f → x f.register ≡ None
mem_late x r ins p base based f e = of p.fixes refl e
  where
    of : (b : Bool) → b ≡ p.fixes → cond b (Some (record { register = p.ops.rs1; value = p.base_value })) None ≡ Some f → x f.register ≡ None
    of true is e =
        let same : record { register = p.ops.rs1; value = p.base_value } ≡ f = cc in
        ap x (sym (ap (λ (q : Fixing). q.register) same) ∙ based.rs1) ∙ based.late (sym is)
    of false is e = absurd cc

value_late : (s : HartState) (value register : ℕ) (left : Draws) (f : Fixing) → (value_prepared s value register left).fixes ≡ Some f → s.hart.x f.register ≡ None
value_late s value register left f e = of (is_none s.loop) (s.hart.x register) refl e
  where
    of : (b : Bool) (m : Option ℕ) → m ≡ s.hart.x register → (cond (b && is_none m) (record (makes [] None left) { fixes = Some (record { register = register; value = value }) }) (makes (li register value) (Some Quiet) left)).fixes ≡ Some f → s.hart.x f.register ≡ None
    of true None is e =
        let same : record { register = register; value = value } ≡ f = cc in
        ap s.hart.x (sym (ap (λ (q : Fixing). q.register) same)) ∙ sym is
    of true (Some v) is e = absurd cc
    of false m is e = absurd cc

placed_late : (work : Work) (h : ℕ) (ins : Ins) (r : MemRequest) (counter : Option ℕ) (x : ℕ → Option ℕ) (draws : Draws) (f : Fixing)
    → (mem_prepared r ins (placed_access work h ins r counter x draws)).fixes ≡ Some f → x f.register ≡ None
placed_late work h ins r counter x draws f e =
    let close = near work h ins r counter x in
    let base : Operand = narrowed (base_of r counter) close in
    let v : ℕ = value_of_operand draws base in
    let b = based_at work h ins r (x v) (length close == 0) v (behind_operand draws base) in
    mem_late x r ins (placed_access work h ins r counter x draws) v (record { late = b.late; rs1 = b.rs1 }) f e

plain_late : (work : Work) (s : HartState) (p : Plain) (leaf : Option Name) (f : Fixing) → (plain_prepared work s p leaf).fixes ≡ Some f → s.hart.x f.register ≡ None
plain_late work s (an_ins ins pins) leaf f e = absurd cc
plain_late work s (a_mem r) leaf f e = placed_late work s.hart.number (ins_by r.ins leaf) r (counter_of s) s.hart.x s.draws f e
plain_late work s (a_jump r) leaf f e = absurd cc
plain_late work s (a_csr csr ins pins) leaf f e = absurd cc
plain_late work s (a_sys sys) leaf f e = absurd cc
plain_late work s (a_value value pins) leaf f e = value_late s value _ _ f e

prepared_late : (work : Work) (s : HartState) (r : Request) (leaf : Option Name) (f : Fixing) → (prepared work s r leaf).fixes ≡ Some f → s.hart.x f.register ≡ None
prepared_late work s (a_plain p) leaf f e = plain_late work s p leaf f e
prepared_late work s (a_loop times counter body) leaf f e = absurd cc
prepared_late work s (a_set tree path weight) leaf f e = absurd cc
prepared_late work s (a_pick tree) leaf f e = absurd cc

some_of : {A B : Type 0} (m : Option A) (f : A → B) (b : B) → option_map f m ≡ Some b → (a : A) × (m ≡ Some a)
some_of None f b e = absurd cc
some_of (Some a) f b e = (a, refl)

value_nothing : (s : HartState) (value register : ℕ) (left : Draws) (a : ℕ) → (value_prepared s value register left).settles ≡ Some a → ⊥
value_nothing s value register left a e = of (is_none s.loop && is_none (s.hart.x register)) e
  where
    of : (b : Bool) → (cond b (record (makes [] None left) { fixes = Some (record { register = register; value = value }) }) (makes (li register value) (Some Quiet) left)).settles ≡ Some a → ⊥
    of true e = absurd cc
    of false e = absurd cc

some_is : {A B : Type 0} (m : Option A) (f : A → B) (b : B) → option_map f m ≡ Some b → (a : A) × (f a ≡ b)
some_is None f b e = absurd cc
some_is (Some a) f b e = (a, cc)

prepared_memory : (work : Work) (s : HartState) (r : Request) (leaf : Option Name) (a : ℕ) → (prepared work s r leaf).settles ≡ Some a → is_memory r ≡ true
prepared_memory work s (a_plain (an_ins ins pins)) leaf a e = absurd cc
prepared_memory work s (a_plain (a_mem r)) leaf a e = refl
prepared_memory work s (a_plain (a_jump r)) leaf a e = absurd cc
prepared_memory work s (a_plain (a_csr csr ins pins)) leaf a e = absurd cc
prepared_memory work s (a_plain (a_sys sys)) leaf a e = absurd cc
prepared_memory work s (a_plain (a_value value pins)) leaf a e = absurd (value_nothing s value _ _ a e)
prepared_memory work s (a_loop times counter body) leaf a e = absurd cc
prepared_memory work s (a_set tree path weight) leaf a e = absurd cc
prepared_memory work s (a_pick tree) leaf a e = absurd cc

next_keeps : (s : HartState) (l : Option Loop) (left : List ScriptItem) (n : Next) → next_of s l left ≡ Some n → Keeps s n.state
next_keeps s None [] n e = absurd cc
next_keeps s None (entry ∷ entries) n e =
    subst (λ (q : Next). Keeps s q.state) (let same : record { entry = entry; state = record s { left = entries; count = s.count + 1 } } ≡ n = cc in same) (record { hart = refl; words = refl; entries = refl })
next_keeps s (Some l) left n e = of l.body e
  where
    of : (body : List Plain) → next_in_body s l body ≡ Some n → Keeps s n.state
    of [] e = absurd cc
    of (p ∷ ps) e = subst (λ (q : Next). Keeps s q.state) (let same : record { entry = record { request = a_plain p; arms = no_arms }; state = record s { loop = Some (record l { body = ps }); count = s.count + 1 } } ≡ n = cc in same) (record { hart = refl; words = refl; entries = refl })

keeps_draws : (cause : Option Cause) (p : Prepared) (s : HartState) → Keeps s (with_draws cause p s)
keeps_draws None p s = record { hart = refl; words = refl; entries = refl }
keeps_draws (Some cause) p s = of (is_late cause)
  where
    of : (b : Bool) → Keeps s (cond b (record s { draws = p.left }) s)
    of true = record { hart = refl; words = refl; entries = refl }
    of false = keeps_same s

keeps_pick : (pick : Option Picking) (s : HartState) → Keeps s (with_pick pick s)
keeps_pick None s = keeps_same s
keeps_pick (Some p) s = record { hart = refl; words = refl; entries = refl }

-- the state with what it fixes and notes
record Noted (s : HartState) (fixing : Option Fixing) (settle : Option Settle) (u : HartState) : Type 0 where
  hart : u.hart ≡ hart_fixed fixing s.hart
  words : u.words ≡ s.words
  entries : u.entries ≡ entries_noted settle s.entries

noted : (s u : HartState) (fixing : Option Fixing) (settle : Option Settle) → Keeps s u → Noted s fixing settle (noting settle (with_fixing fixing u))
noted s u None None k = record { hart = k.hart; words = k.words; entries = k.entries }
noted s u None (Some t) k = record { hart = k.hart; words = k.words; entries = ap (λ e. with_entries e t.path) k.entries }
noted s u (Some f) None k = record { hart = ap (hart_fixed (Some f)) k.hart; words = k.words; entries = k.entries }
noted s u (Some f) (Some t) k = record { hart = ap (hart_fixed (Some f)) k.hart; words = k.words; entries = ap (λ e. with_entries e t.path) k.entries }

begun_view : (work : Work) (s : HartState) (heard : Heard) (n : Next) (p : Prepared) (cause : Option Cause) → p ≡ prepared work s n.entry.request heard.leaf
    → (b : Begun) → b.request ≡ n.entry.request → b.settle ≡ asked_settle work s heard cause p → b.short ≡ cond (is_some b.settle) heard.short None → (u : HartState) → Keeps s u
    → let t : Turned = begun_turn work heard n.entry b p cause u in View work s heard t.act t.state
begun_view work s heard n p (Some cause) is b request_is settle_is short_is u keeps = then_keeps s u (at_rest work u) keeps (keeps_at_rest work u)
begun_view work s heard n p None is b request_is settle_is short_is u keeps = of (words_needed p == 0)
  where
    marks : Noted s p.fixes b.settle (noting b.settle (with_fixing p.fixes u))
    marks = noted s u p.fixes b.settle keeps

    late : (f : Fixing) → p.fixes ≡ Some f → s.hart.x f.register ≡ None
    late f e = prepared_late work s n.entry.request heard.leaf f (ap (λ (q : Prepared). q.fixes) (sym is) ∙ e)

    memory : (settle : Settle) → b.settle ≡ Some settle → (is_memory b.request ≡ true) × (is_some (plan_of work s.hart.number).space ≡ true)
    memory settle e = at (is_some (plan_of work s.hart.number).space) (sym settle_is ∙ e)
      where
        at : (t : Bool) → cond t (option_map (settle_of work s heard) p.settles) None ≡ Some settle → (is_memory b.request ≡ true) × (t ≡ true)
        at true e =
            let a = some_of p.settles _ settle e in
            (ap is_memory request_is ∙ prepared_memory work s n.entry.request heard.leaf a.0 (ap (λ (q : Prepared). q.settles) (sym is) ∙ a.1), refl)
        at false e = absurd cc

    short : (settle : Settle) → b.settle ≡ Some settle → (b.short ≡ None) ⊎ (settle.path ≡ [])
    short settle e = at (is_some (plan_of work s.hart.number).space) heard.short refl (sym settle_is ∙ e) (short_is ∙ ap (λ (m : Option Settle). cond (is_some m) heard.short None) e)
      where
        at : (t : Bool) (m : Option Short) → m ≡ heard.short → cond t (option_map (settle_of work s heard) p.settles) None ≡ Some settle → b.short ≡ heard.short → (b.short ≡ None) ⊎ (settle.path ≡ [])
        at false m is e q = absurd cc
        at true None is e q = inl (q ∙ sym is)
        at true (Some x) is e q =
            let a = some_is p.settles _ settle e in
            inr (ap (λ (k : Settle). k.path) (sym a.1) ∙ ap (λ (m : Option Short). cond (is_some m) [] (option_map_or (λ (t : Settle). t.path) heard.settle [])) (sym is))

    begins_so : (v : HartState) → Keeps (noting b.settle (with_fixing p.fixes u)) v → Begins work s b p.fixes v
    begins_so v k = record { hart = k.hart ∙ marks.hart; words = k.words ∙ marks.words; entries = k.entries ∙ marks.entries; late = late; memory = memory; short = short }

    of : (t : Bool) → let q : Turned = cond {A = Turned} t
        (record { act = answers b p.fixes; state = at_rest work (record (noting b.settle (with_fixing p.fixes u)) { left = script_for n.entry.arms (picked_leaf b.pick) ++ (noting b.settle (with_fixing p.fixes u)).left }) })
        (record { act = begins b p.fixes (cond (is_some b.settle) heard.told []); state = record (noting b.settle (with_fixing p.fixes u)) { phase = making (record { k = b.k; words = p.words; sequel = p.sequel }) } })
        in View work s heard q.act q.state
    of true = begins_so (at_rest work (record (noting b.settle (with_fixing p.fixes u)) { left = script_for n.entry.arms (picked_leaf b.pick) ++ (noting b.settle (with_fixing p.fixes u)).left })) (then_keeps (noting b.settle (with_fixing p.fixes u)) (record (noting b.settle (with_fixing p.fixes u)) { left = script_for n.entry.arms (picked_leaf b.pick) ++ (noting b.settle (with_fixing p.fixes u)).left }) (at_rest work (record (noting b.settle (with_fixing p.fixes u)) { left = script_for n.entry.arms (picked_leaf b.pick) ++ (noting b.settle (with_fixing p.fixes u)).left })) (record { hart = refl; words = refl; entries = refl }) (keeps_at_rest work (record (noting b.settle (with_fixing p.fixes u)) { left = script_for n.entry.arms (picked_leaf b.pick) ++ (noting b.settle (with_fixing p.fixes u)).left })))
    of false = (begins_so (record (noting b.settle (with_fixing p.fixes u)) { phase = making (record { k = b.k; words = p.words; sequel = p.sequel }) }) (record { hart = refl; words = refl; entries = refl }), refl)

next_view : (work : Work) (s : HartState) (heard : Heard) (n : Option Next) (t : Turned) → n ≡ next_of s s.loop s.left → next_turn work s heard n ≡ Some t → View work s heard t.act t.state
next_view work s heard (Some n) t is e =
    let p : Prepared = prepared work s n.entry.request heard.leaf in
    let cause : Option Cause = cause_of work s heard n.entry.request p in
    let b : Begun = begun s heard n.entry.request (asked_settle work s heard cause p) in
    some_view work s heard _ t e
    (begun_view work s heard n p cause refl b refl refl refl _
    (then_keeps s n.state _ (next_keeps s s.loop s.left n (sym is))
    (then_keeps n.state _ _ (keeps_pick b.pick n.state) (keeps_draws cause p (with_pick b.pick n.state)))))
next_view work s heard None t is e =
    let x = found (made_step work s end_word heard None) _ t e in
    some_view work s heard _ t x.2
    (view_step work s heard is_last x.0 _ (end_word, None, x.1) (is_step is_last x.0 None None _ (record { hart = refl; words = refl; entries = refl })))

pub turned_view : (work : Work) (s : HartState) (heard : Heard) (t : Turned) → turned work s heard ≡ Some t → View work s heard t.act t.state
turned_view work s heard t e = of s.phase e
  where
    of : (phase : Phase) → turned_in work s heard phase ≡ Some t → View work s heard t.act t.state
    of between e = next_view work s heard _ t refl e
    of (making m) e = made_view work s heard m m.words t e
    of (finding k until) e =
        let x = found (stepped work s heard None) _ t e in
        some_view work s heard _ t x.2 (view_step work s heard is_found x.0 _ (None, x.1) (out_is is_found work k until x.0 x.0.state (keeps_same x.0.state)))
    of at_end e = absurd cc
