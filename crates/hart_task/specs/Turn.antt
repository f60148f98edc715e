-- A hart as a machine over events: at each of its states, what its parts answer decides the one event that it may do.
--
use Rattle.rv_encode.specs.Packing.{word_by}
use Rattle.choice_tree.specs.Draws.{next_word, skipped}
use Rattle.rv_fields.specs.declared.access.Access.TheVariants as accesses
use Rattle.std.specs.Option.{option_map_or}
use Rattle.std.specs.Prelude.{Bool, List, None, Option, Some, is_none, is_some, negsuc, not, option_map, pos, true, ℕ, ◌+◌, ◌*◌, ◌%◌, ◌^◌, ◌==◌, ◌&&◌, ◌||◌, ◌∷◌, ◌++◌, ◌≡◌, ◌-ℤ◌, [], if◌then◌else◌}
use Rattle.boot_words.specs.Layout.{code_start, is_in_handler}
use Rattle.hart_task.specs.Acts.{Act, Begun, Came, Fixing, Picking, answers, begins, event_of, gives_up, is_found, is_last, is_made, refuses, steps}
use Rattle.hart_task.specs.Beginning.{Prepared, asks, cause_of, is_late, prepared, settle_of, tree_of, words_needed}
use Rattle.hart_task.specs.Heard.{Heard, heard_of}
use Rattle.hart_task.specs.State.{HartState, Loop, Making, Phase, Sequel, Until, WantedLoad, at_end, between, enters, finding, handled, index_of, is_done, making, reaches, turns, wants}
use Rattle.hart_task.specs.Stepping.{StepTaken, byte_in_entries, page_in, stepped}
use Rattle.region_plan.specs.Plan.{Work, page_of, page_size, plan_of, is_it}
use Rattle.region_plan.specs.Request.{Demand, Misaligned, PageFault, Plain, Quiet, Request, a_plain, no_arms}
use Rattle.region_plan.specs.Script.{ScriptItem, script_for}
use Rattle.rv_fields.specs.Attempt.{◌>>=◌}
use Rattle.rv_fields.specs.Effect.{Effect}
use Rattle.rv_fields.specs.declared.access.Accessed.{Accessed}
use Rattle.rv_fields.specs.declared.trap.Trap.{Trap}
use Rattle.rv_fields.specs.Hart.{Hart, updated}
use Rattle.rv_fields.specs.Step.{rights_of}
use Rattle.rv_fields.specs.Sv39.{entries_in, translate}
use Rattle.rv_fields.specs.Class.{width_of}
use Rattle.rv_fields.specs.declared.row_table.Ins.TheVariants.{Addi, Bne}
use Rattle.table_space.specs.Tables.{with_entries}
use Rattle.trace_fields.specs.declared.request.Cause.{Cause}
use Rattle.rv_fields.specs.Name.{Name}
use Rattle.world_face.specs.Events.{Event, Settle, Wanted}

-- what a hart does, and its state behind it
pub record Turned : Type 0 where
  pub act : Act
  pub state : HartState

-- the word at which a hart ends: jal x0,0
abbrev pub end_word : ℕ
end_word = 0x6f

-- ---- a request begins

-- the next entry, and the state when it has begun
pub record Next : Type 0 where
  pub entry : ScriptItem
  pub state : HartState

abbrev pub next_in_body : HartState → Loop → List Plain → Option Next
next_in_body s l [] = None
next_in_body s l (p ∷ ps) =
    Some (record { entry = record { request = a_plain p; arms = no_arms }; state = record s { loop = Some (record l { body = ps }); count = s.count + 1 } })

-- In a loop the body's requests come first. Behind the last entry there is none.
abbrev pub next_of : HartState → Option Loop → List ScriptItem → Option Next
next_of s (Some l) entries = next_in_body s l l.body
next_of s None [] = None
next_of s None (entry ∷ entries) = Some (record { entry = entry; state = record s { left = entries; count = s.count + 1 } })

-- the pick of a request that names a tree, by the next word of the stream for picks
abbrev pub picking : HartState → Heard → Request → Option Picking
picking s heard r = option_map (λ (tree : ℕ). record { tree = tree; word = next_word s.picks; leaf = heard.leaf }) (tree_of r)

abbrev pub with_pick : Option Picking → HartState → HartState
with_pick None s = s
with_pick (Some p) s = record s { picks = skipped s.picks 1 }

-- a refused request leaves its words drawn where the cause comes late
abbrev pub with_draws : Option Cause → Prepared → HartState → HartState
with_draws None p s = record s { draws = p.left }
with_draws (Some cause) p s = if is_late cause then record s { draws = p.left } else s

-- what a memory request asks
abbrev pub asked_settle : Work → HartState → Heard → Option Cause → Prepared → Option Settle
asked_settle work s heard cause p = if asks cause && is_some (plan_of work s.hart.number).space then option_map (settle_of work s heard) p.settles else None

abbrev pub picked_leaf : Option Picking → Option Name
picked_leaf pick = option_map_or (λ (p : Picking). p.leaf) pick None

-- ---- between requests

-- addi counter,counter,-1, and bne counter,x0 back from one index to another
abbrev pub count_word : ℕ → ℕ
count_word counter = word_by Addi (record { rd = counter; rs1 = counter; rs2 = 0; imm = negsuc 0; aqrl = 0 })

abbrev pub back_word : ℕ → ℕ → ℕ → ℕ
back_word counter start index = word_by Bne (record { rd = 0; rs1 = counter; rs2 = 0; imm = pos (4 * start) -ℤ pos (4 * index); aqrl = 0 })

abbrev pub rest_in_loop : Work → HartState → Loop → List Plain → HartState
rest_in_loop work s l (p ∷ ps) = record s { phase = between }
rest_in_loop work s l [] = record s { phase = making (record { k = l.k; words = count_word l.counter ∷ back_word l.counter l.start (index_of work s + 1) ∷ []; sequel = turns }) }

-- Behind a request the next one begins. In a loop whose body is at its end, the counting and the branch back are made.
abbrev pub at_rest : Work → HartState → HartState
at_rest work s = option_map_or (λ (l : Loop). rest_in_loop work s l l.body) s.loop (record s { phase = between })

abbrev pub accepted_turn : Work → Heard → ScriptItem → Begun → Prepared → HartState → Turned
accepted_turn work heard entry b p s =
    if words_needed p == 0
    then record { act = answers b p.fixes; state = at_rest work (record s { left = script_for entry.arms (picked_leaf b.pick) ++ s.left }) }
    else record { act = begins b p.fixes (if is_some b.settle then heard.told else []); state = record s { phase = making (record { k = b.k; words = p.words; sequel = p.sequel }) } }

-- the hart knows the entries of a page's way
abbrev pub noting : Option Settle → HartState → HartState
noting None s = s
noting (Some settle) s = record s { entries = with_entries s.entries settle.path }

abbrev pub with_fixing : Option Fixing → HartState → HartState
with_fixing None s = s
with_fixing (Some f) s = record s { hart = record s.hart { x = updated s.hart.x f.register (Some f.value) } }

-- It is refused, or done where it makes no word, or under way.
abbrev pub begun_turn : Work → Heard → ScriptItem → Begun → Prepared → Option Cause → HartState → Turned
begun_turn work heard entry b p (Some cause) s = record { act = refuses b cause; state = at_rest work s }
begun_turn work heard entry b p None s = accepted_turn work heard entry b p (noting b.settle (with_fixing p.fixes s))

abbrev pub begun : HartState → Heard → Request → Option Settle → Begun
begun s heard r settle = record {
  k = s.count;
  request = r;
  pick = picking s heard r;
  settle = settle;
  short = if is_some settle then heard.short else None;
}

abbrev pub begin_prepared : Work → HartState → Heard → Next → Prepared → Option Cause → Turned
begin_prepared work s heard n p cause =
    let b = begun s heard n.entry.request (asked_settle work s heard cause p) in
    begun_turn work heard n.entry b p cause (with_draws cause p (with_pick b.pick n.state))

abbrev pub begin_turn : Work → HartState → Heard → Next → Turned
begin_turn work s heard n =
    let p = prepared work s n.entry.request heard.leaf in
    begin_prepared work s heard n p (cause_of work s heard n.entry.request p)

-- ---- a step

abbrev pub step_turn : Came → Option Wanted → Option ℕ → StepTaken → HartState → Turned
step_turn came wanted ends t s = record {
  act = steps (record { came = came; registers = t.registers; bytes = t.bytes; effect = t.effect; wanted = wanted; probe = t.probe; ends = ends });
  state = s;
}

-- the state with a word more at pc
abbrev pub with_word : Work → HartState → ℕ → HartState
with_word work s word = record s { words = updated s.words (index_of work s) (Some word) }

-- the effect is of the word, at its place in the window
abbrev pub made_at : Work → HartState → ℕ → Effect → Bool
made_at work s word e = is_it (code_start s.hart.number + 4 * index_of work s) e.pa && is_it word e.word

-- A word is made where none was, and stepped.
abbrev pub made_step : Work → HartState → ℕ → Heard → Option Wanted → Option StepTaken
made_step work s word heard wanted = do
  t ← stepped work (with_word work s word) heard wanted
  if is_none (s.words (index_of work s)) && made_at work s word t.effect then Some t else None

abbrev pub cause_in : Option Trap → Option ℕ
cause_in trap = option_map (λ (t : Trap). t.cause) trap

-- the last step is as the demand says
abbrev pub meets : Option Demand → Option Trap → Bool
meets None trap = true
meets (Some Quiet) trap = is_none trap
meets (Some PageFault) trap = is_it 13 (cause_in trap) || is_it 15 (cause_in trap)
meets (Some Misaligned) trap = is_it 0 (cause_in trap) || is_it 4 (cause_in trap) || is_it 6 (cause_in trap)

-- what a request's last known word has to do
abbrev pub demand_of : Sequel → Option Demand
demand_of (is_done demand) = demand
demand_of (wants w) = Some Quiet
demand_of (enters l) = Some Quiet
demand_of turns = Some Quiet

-- The request is done, where it has trapped when the handler has returned.
abbrev pub done_turn : Work → ℕ → Option Wanted → StepTaken → Turned
done_turn work k wanted t =
    if is_none t.effect.trap then step_turn is_made wanted (Some k) t (at_rest work t.state)
    else step_turn is_made wanted None t (record t.state { phase = finding k handled })

-- The hart is out: its handler has returned, or it stands behind the loop.
abbrev pub is_out : Until → Hart → Bool
is_out handled hart = not (is_in_handler hart.mode hart.pc)
is_out (reaches pc) hart = hart.pc == pc

-- the request is done where the hart is out, and else the hart goes on with what it finds
abbrev pub out_or_on : Came → Work → ℕ → Until → StepTaken → HartState → Turned
out_or_on came work k until t s =
    if is_out until s.hart then step_turn came None (Some k) t (at_rest work s) else step_turn came None None t (record s { phase = finding k until })

-- what comes behind the last of the words that are known
abbrev pub last_turn : Work → ℕ → Sequel → Option Wanted → StepTaken → Turned
last_turn work k (is_done demand) wanted t = done_turn work k wanted t
last_turn work k (wants w) wanted t = step_turn is_made None None t (record t.state { phase = making (record { k = k; words = []; sequel = wants w }) })
last_turn work k (enters l) wanted t =
    step_turn is_made None None t (record t.state { phase = between; loop = Some (record { k = k; counter = l.counter; start = index_of work t.state; body = l.body }) })
last_turn work k turns wanted t = out_or_on is_made work k (reaches (t.effect.pc + 4)) t (record t.state { loop = None })

-- the number to find, in the physical page that the way shows
abbrev pub wanted_number : HartState → WantedLoad → Option Wanted
wanted_number s w = do
  t ← translate (entries_in (byte_in_entries s.entries)) s.hart.csrs.satp (rights_of s.hart s.hart.mode) accesses.Load w.page
  pa ← page_in t.result
  Some (record { page = page_of pa; size = width_of w.ins; value = w.value % 256 ^ width_of w.ins })

abbrev pub reads_wanted : Wanted → Option Accessed → Bool
reads_wanted wanted access = is_it wanted.value (option_map_or (λ (a : Accessed). a.read) access None)

abbrev pub placed_turn : Work → HartState → Heard → Making → WantedLoad → Wanted → Option ℕ → Option Turned
placed_turn work s heard m w wanted None = Some (record { act = gives_up m.k w.preamble wanted; state = at_rest work s })
placed_turn work s heard m w wanted (Some place) = do
  t ← made_step work s (word_by w.ins (record w.ops { imm = pos place -ℤ pos 2048 })) heard (Some wanted)
  if is_none t.effect.trap && reads_wanted wanted t.effect.access then Some (done_turn work m.k (Some wanted) t) else None

-- a wanted load is made at the place that was found, or given up
abbrev pub wanted_turn : Work → HartState → Heard → Making → Sequel → Option Turned
wanted_turn work s heard m (wants w) = do
  wanted ← wanted_number s w
  placed_turn work s heard m w wanted (option_map (λ (a : Accessed). a.va % page_size) heard.access)
wanted_turn work s heard m (is_done demand) = None
wanted_turn work s heard m (enters l) = None
wanted_turn work s heard m turns = None

-- a request's next word is made and stepped
abbrev pub made_turn : Work → HartState → Heard → Making → List ℕ → Option Turned
made_turn work s heard m [] = wanted_turn work s heard m m.sequel
made_turn work s heard m (word ∷ []) = do
  t ← made_step work s word heard None
  if meets (demand_of m.sequel) t.effect.trap then Some (last_turn work m.k m.sequel None t) else None
made_turn work s heard m (word ∷ next ∷ words) = do
  t ← made_step work s word heard None
  if is_none t.effect.trap then Some (step_turn is_made None None t (record t.state { phase = making (record m { words = next ∷ words }) })) else None

abbrev pub next_turn : Work → HartState → Heard → Option Next → Option Turned
next_turn work s heard (Some n) = Some (begin_turn work s heard n)
next_turn work s heard None = do
  t ← made_step work s end_word heard None
  Some (step_turn is_last None None t (record t.state { phase = at_end }))

abbrev pub turned_in : Work → HartState → Heard → Phase → Option Turned
turned_in work s heard between = next_turn work s heard (next_of s s.loop s.left)
turned_in work s heard (making m) = made_turn work s heard m m.words
turned_in work s heard (finding k until) = do
  t ← stepped work s heard None
  Some (out_or_on is_found work k until t t.state)
turned_in work s heard at_end = None

-- ---- the one event

abbrev pub turned : Work → HartState → Heard → Option Turned
turned work s heard = turned_in work s heard s.phase

abbrev pub is_of : Work → ℕ → Event → Option Turned → Type 0
is_of work h e None = ⊥
is_of work h e (Some t) = e ≡ event_of work h t.act

-- The event is the one that the hart does where its parts answer so.
abbrev pub acts : Work → HartState → Event → Type 0
acts work s e = is_of work s.hart.number e (turned work s (heard_of e))

-- the state behind it
abbrev pub acted : Work → HartState → Event → HartState
acted work s e = option_map_or (λ (t : Turned). t.state) (turned work s (heard_of e)) s
