-- A finished run's lines are blocks, one for each request of its hart's script.
use Rattle.std.proofs.Common.{ℕ, zero, suc, ◌+◌, ◌*◌, ◌<◌, ◌≡◌, Bool, true, false, cond, eqb, List, [], ◌∷◌, ◌++◌, map, Option, Some, None, refl, sym, ap, subst, ◌∙◌, append_assoc, arith}
use Rattle.std.specs.Prelude.{is_none}
use Rattle.std.specs.List.{AllByRecursion, filter_map, range_with_len}
use Rattle.std.specs.Option.{option_map_or}
use Rattle.std.proofs.lemmas.Bool.Decides.{nat_tests}
use Rattle.rv_fields.specs.declared.trap.Trap.{Trap}
use Rattle.rv_fields.specs.Decode.{Decoded, decoded}
use Rattle.rv_fields.specs.Effect.{Effect}
use Rattle.region_plan.specs.Plan.{Work, hart_count}
use Rattle.region_plan.specs.Request.{Request}
use Rattle.region_plan.specs.Rules.{KeepsRules}
use Rattle.region_plan.specs.Script.{ScriptItem}
use Rattle.trace_fields.specs.declared.request.Cause.TheVariants.{NoRegister}
use Rattle.trace_text.specs.Lines.{Line, done, ending, found, made, refused, request}
use Rattle.boot_words.specs.Layout.{m_handler_at}
use Rattle.world_face.specs.Events.{Event}
use Rattle.world_face.specs.Runs.{Runs}
use Rattle.hart_task.specs.Acts.{Act, Fixing, act_lines, event_of, fixing_lines, is_found, is_last, is_made, request_kind}
use Rattle.hart_task.specs.Asking.{asked_word, is_served}
use Rattle.hart_task.specs.Blocks.{AreBlocks, AreHandled, IsBlock, IsInner, Meets, found_by, is_met, is_refused, made_by}
use Rattle.hart_task.specs.Heard.{heard_of}
use Rattle.hart_task.specs.OneRun.{IsAtEnd, IsFinishedRun, all_lines}
use Rattle.hart_task.specs.State.{HartState, at_end, start}
use Rattle.hart_task.specs.Stepping.{late_registers}
use Rattle.hart_task.specs.Task.{begun_lines, done_by, of_handler, of_request, script}
use Rattle.hart_task.specs.Turn.{acted, acts, end_word}
use Rattle.hart_task.proofs.Bare.{IsQuietEffect, bare_quiet, end_jump}
use Rattle.hart_task.proofs.Begins.{IsAsked, asked, begun_act, begun_event, begun_state}
use Rattle.hart_task.proofs.Found.{handler_word}
use Rattle.hart_task.proofs.InHandler.{handler_ins, handler_quiet}
use Rattle.hart_task.proofs.Led.{HasBegun, IsBehind, IsBetween, IsHandling, IsMember, IsUnderWay, begins_so, did_this, end_quiet, ends_so, found_on, found_out, found_so, has_begun, is_between, is_handling, is_under_way, made_behind, made_so, none_behind, start_between, stepped_so, stepped_turn, stepping, was_refused, words_made_at}
use Rattle.hart_task.proofs.Makes.{IsQuietWord, fixed_hart, late_by}

-- ---- the lines of a block

fixed_inner : (h : ℕ) (fs : List Fixing) (lines : List Line) → AllByRecursion IsInner lines → AllByRecursion IsInner (fixing_lines h fs ++ lines)
fixed_inner h [] lines inner = inner
fixed_inner h (f ∷ fs) lines inner = (tt, fixed_inner h fs lines inner)

-- starting values are no steps
made_behind_fixed : (h : ℕ) (fs : List Fixing) (lines : List Line) → filter_map made_by (fixing_lines h fs ++ lines) ≡ filter_map made_by lines
made_behind_fixed h [] lines = refl
made_behind_fixed h (f ∷ fs) lines = made_behind_fixed h fs lines

found_behind_fixed : (h : ℕ) (fs : List Fixing) (lines : List Line) → filter_map found_by (fixing_lines h fs ++ lines) ≡ filter_map found_by lines
found_behind_fixed h [] lines = refl
found_behind_fixed h (f ∷ fs) lines = found_behind_fixed h fs lines

-- the request's line, those of its word's step, and those of what is found behind it
abbrev block_of : ℕ → ℕ → Request → List Fixing → Effect → List Line → List Line
block_of h k r late e told = request h k (request_kind r) ∷ (fixing_lines h late ++ (made e ∷ told)) ++ done h k ∷ []

block_is : (work : Work) (h k : ℕ) (r : Request) (before : List Line) (late : List Fixing) (e : Effect) (told : List Line) → AllByRecursion IsInner told → filter_map made_by told ≡ []
    → Meets r (e ∷ []) (filter_map found_by told) → IsBlock work h k r before (block_of h k r late e told)
block_is work h k r before late e told inner none met = record {
  inner = fixing_lines h late ++ (made e ∷ told);
  last = done h k;
  are_inner = fixed_inner h late (made e ∷ told) (tt, inner);
  lines = refl;
  ended = is_met refl (subst (Meets r (filter_map made_by (fixing_lines h late ++ (made e ∷ told)))) (sym (found_behind_fixed h late (made e ∷ told)))
      (subst (λ own. Meets r own (filter_map found_by told)) (sym (made_behind_fixed h late (made e ∷ told) ∙ ap (λ es. e ∷ es) none)) met));
}

-- the step of a word tells the word, and where it stands
quiet_effect : (s : HartState) (word : ℕ) (m : Option Decoded) → IsQuietWord word m → IsQuietEffect (fixed_hart s m) word (stepped_so s word m).effect
quiet_effect s word m quiet = bare_quiet (fixed_hart s m) word m _ _ quiet.bare

-- the ending word reads x0 alone, which has a value
nothing_late : (s : HartState) → s.hart.x 0 ≡ Some 0 → late_by s (Some end_jump) ≡ []
nothing_late s is = ap (λ m. late_registers s.draws (cond (is_none m) (0 ∷ []) [])) is

-- ---- the handler

-- the lines of a turn that can only be this
told_so : (work : Work) (h : ℕ) (s : HartState) (e : Event) (act : Act) → s.hart.number ≡ h → e ≡ event_of work s.hart.number act → e.lines ≡ act_lines work h act
told_so work h s e act number is = ap (λ (q : Event). q.lines) is ∙ ap (λ n. act_lines work n act) number

-- What the run tells until the request is done: no word is made, and those that are found stand at these addresses.
record IsRunOut (work : Work) (h k : ℕ) (items : List ScriptItem) (addresses : List ℕ) (lines : List Line) (end : HartState) : Type 0 where
  told : List Line
  are_inner : AllByRecursion IsInner told
  none_made : filter_map made_by told ≡ []
  found_at : map (λ (e : Effect). e.pc) (filter_map found_by told) ≡ addresses
  rest : List Event
  lines_are : lines ≡ told ++ (done h k ∷ all_lines rest)
  s : HartState
  words : ℕ
  between : IsBetween h (k + 1) words items s
  run : Runs (acts work) (acted work) s rest end

-- one found step more before
run_out_more : (work : Work) (h k : ℕ) (items : List ScriptItem) (addresses : List ℕ) (lines : List Line) (end : HartState) (late : List Fixing) (e : Effect) → IsRunOut work h k items addresses lines end
    → IsRunOut work h k items (e.pc ∷ addresses) ((fixing_lines h late ++ (found e ∷ [])) ++ lines) end
run_out_more work h k items addresses lines end late e out = record {
  told = fixing_lines h late ++ (found e ∷ out.told);
  are_inner = fixed_inner h late (found e ∷ out.told) (tt, out.are_inner);
  none_made = made_behind_fixed h late (found e ∷ out.told) ∙ out.none_made;
  found_at = ap (map (λ (e : Effect). e.pc)) (found_behind_fixed h late (found e ∷ out.told)) ∙ ap (λ rest. e.pc ∷ rest) out.found_at;
  rest = out.rest;
  lines_are = append_assoc (fixing_lines h late) (found e ∷ []) lines ∙ ap (λ ls. fixing_lines h late ++ (found e ∷ ls)) out.lines_are
      ∙ sym (append_assoc (fixing_lines h late) (found e ∷ out.told) (done h k ∷ all_lines out.rest));
  s = out.s;
  words = out.words;
  between = out.between;
  run = out.run;
}

-- the step of the handler's word, what is fixed before it, and the state behind
abbrev found_effect : HartState → ℕ → Effect
found_effect s i = (stepped_so s (handler_word i) (Some (handler_ins i))).effect

abbrev found_late : HartState → ℕ → List Fixing
found_late s i = late_by s (Some (handler_ins i))

abbrev found_state : HartState → ℕ → ℕ → HartState
found_state s k i = (stepped_turn s (of_handler k i) (handler_word i) (Some (handler_ins i)) s.words).state

-- the one event that the hart can do there
found_event : (work : Work) (h k words i : ℕ) (items : List ScriptItem) (s : HartState) (e : Event) (t : Bool) → IsMember work h → IsHandling h k words i items s → acts work s e → eqb i 5 ≡ t
    → (e.lines ≡ fixing_lines h (found_late s i) ++ (found (found_effect s i) ∷ option_map_or (λ (j : ℕ). done h j ∷ []) (cond t (Some k) None) [])) × (acted work s e ≡ found_state s k i)
found_event work h k words i items s e t is at does last_is =
    let this = did_this work s e _ does (found_so work h k words i items s (heard_of e) is at) in (
      told_so work h s e (stepping is_found (done_by (of_handler k i) (found_effect s i).trap) (found_late s i) (found_effect s i)) at.trap.so_far.number this.0
          ∙ ap (λ t. fixing_lines h (found_late s i) ++ (found (found_effect s i) ∷ option_map_or (λ (j : ℕ). done h j ∷ []) (cond t (Some k) None) [])) last_is,
      this.1,
    )

found_pc : (h k words i : ℕ) (items : List ScriptItem) (s : HartState) → IsHandling h k words i items s → (found_effect s i).pc ≡ m_handler_at + 4 * i
found_pc h k words i items s at = ap (λ (q : Effect). q.pc) (quiet_effect s (handler_word i) (Some (handler_ins i)) (handler_quiet i at.trap.early)) ∙ at.trap.at.pc

-- The last word's step ends the request.
out_now : (work : Work) (h k words : ℕ) (items : List ScriptItem) (s next : HartState) (e : Event) (es : List Event) (end : HartState) → IsHandling h k words 5 items s
    → e.lines ≡ fixing_lines h (found_late s 5) ++ (found (found_effect s 5) ∷ done h k ∷ []) → IsBetween h (k + 1) (words + 1) items next → Runs (acts work) (acted work) next es end
    → IsRunOut work h k items ((m_handler_at + 20) ∷ []) (e.lines ++ all_lines es) end
out_now work h k words items s next e es end at lines between run =
    let late : List Fixing = found_late s 5 in
    let effect : Effect = found_effect s 5 in
    let behind : IsRunOut work h k items [] (done h k ∷ all_lines es) end = record {
      told = [];
      are_inner = tt;
      none_made = refl;
      found_at = refl;
      rest = es;
      lines_are = refl;
      s = next;
      words = words + 1;
      between = between;
      run = run;
    } in
    subst (λ ls. IsRunOut work h k items ((m_handler_at + 20) ∷ []) ls end)
    (append_assoc (fixing_lines h late) (found effect ∷ []) (done h k ∷ all_lines es) ∙ sym (append_assoc (fixing_lines h late) (found effect ∷ done h k ∷ []) (all_lines es))
    ∙ ap (λ ls. ls ++ all_lines es) (sym lines))
    (subst (λ a. IsRunOut work h k items (a ∷ []) ((fixing_lines h late ++ (found effect ∷ [])) ++ (done h k ∷ all_lines es)) end) (found_pc h k words 5 items s at)
    (run_out_more work h k items [] (done h k ∷ all_lines es) end late effect behind))

-- so many words of the handler are left
handler_run : (n : ℕ) (work : Work) (h k words i : ℕ) (items : List ScriptItem) (s : HartState) (events : List Event) (end : HartState) → i + n ≡ 6 → IsMember work h → IsHandling h k words i items s
    → Runs (acts work) (acted work) s events end → IsAtEnd end.phase → IsRunOut work h k items (map (λ j. m_handler_at + 4 * j) (range_with_len i n)) (all_lines events) end
handler_run zero work h k words i items s events end left is at run ends = absurd (let early = at.trap.early in omega (arith, left, early))
handler_run (suc n) work h k words i items s [] end left is at run ends = absurd (subst IsAtEnd (ap (λ (q : HartState). q.phase) run ∙ at.phase) ends)
handler_run (suc zero) work h k words i items s (e ∷ es) end left is at run ends =
    let last : i ≡ 5 = omega (arith, left) in
    let at_last : IsHandling h k words 5 items s = subst (λ j. IsHandling h k words j items s) last at in
    let this = found_event work h k words 5 items s e true is at_last run.0 refl in
    subst (λ j. IsRunOut work h k items ((m_handler_at + 4 * j) ∷ []) (e.lines ++ all_lines es) end) (sym last)
    (out_now work h k words items s (found_state s k 5) e es end at_last this.0 (found_out work h k words items s is at_last) (subst (λ q. Runs (acts work) (acted work) q es end) this.1 run.1))
handler_run (suc (suc n)) work h k words i items s (e ∷ es) end left is at run ends =
    let early : i < 5 = omega (arith, left) in
    let other : eqb i 5 ≡ false = grind (arith, nat_tests) in
    let this = found_event work h k words i items s e false is at run.0 other in
    let others : List ℕ = map (λ j. m_handler_at + 4 * j) (range_with_len (i + 1) (suc n)) in
    let behind : IsRunOut work h k items others (all_lines es) end =
    handler_run (suc n) work h k words (i + 1) items (found_state s k i) es end (omega (arith, left)) is (found_on work h k words i items s is early at) (subst (λ q. Runs (acts work) (acted work) q es end) this.1 run.1) ends in
    subst (λ ls. IsRunOut work h k items ((m_handler_at + 4 * i) ∷ others) ls end) (ap (λ ls. ls ++ all_lines es) (sym this.0))
    (subst (λ a. IsRunOut work h k items (a ∷ others) ((fixing_lines h (found_late s i) ++ (found (found_effect s i) ∷ [])) ++ all_lines es) end) (found_pc h k words i items s at)
    (run_out_more work h k items others (all_lines es) end (found_late s i) (found_effect s i) behind))

-- ---- the word of a request

-- what is told behind it until the request is done, by its trap
record IsWorkedOut (work : Work) (h k : ℕ) (items : List ScriptItem) (trap : Option Trap) (lines : List Line) (end : HartState) : Type 0 where
  told : List Line
  are_inner : AllByRecursion IsInner told
  none_made : filter_map made_by told ≡ []
  handled : AreHandled trap (filter_map found_by told)
  rest : List Event
  lines_are : lines ≡ told ++ (done h k ∷ all_lines rest)
  s : HartState
  words : ℕ
  between : IsBetween h (k + 1) words items s
  run : Runs (acts work) (acted work) s rest end

worked_out : (work : Work) (h k words : ℕ) (items : List ScriptItem) (trap : Option Trap) (s : HartState) (events : List Event) (end : HartState) → IsMember work h → IsBehind h k words items trap s
    → Runs (acts work) (acted work) s events end → IsAtEnd end.phase → IsWorkedOut work h k items trap (option_map_or (λ (j : ℕ). done h j ∷ []) (done_by (of_request k) trap) [] ++ all_lines events) end
worked_out work h k words items trap s events end is (is_between none at) run ends =
    subst (λ t. IsWorkedOut work h k items t (option_map_or (λ (j : ℕ). done h j ∷ []) (done_by (of_request k) t) [] ++ all_lines events) end) (sym none)
    (record {
      told = [];
      are_inner = tt;
      none_made = refl;
      handled = refl;
      rest = events;
      lines_are = refl;
      s = s;
      words = words + 1;
      between = at;
      run = run;
    })
worked_out work h k words items trap s events end is (is_handling t some at) run ends =
    let out = handler_run 6 work h k words 0 items s events end refl is at run ends in
    subst (λ t. IsWorkedOut work h k items t (option_map_or (λ (j : ℕ). done h j ∷ []) (done_by (of_request k) t) [] ++ all_lines events) end) (sym some)
    (record {
      told = out.told;
      are_inner = out.are_inner;
      none_made = out.none_made;
      handled = out.found_at;
      rest = out.rest;
      lines_are = out.lines_are;
      s = out.s;
      words = out.words;
      between = out.between;
      run = out.run;
    })

-- ---- all blocks

-- one of a request that is refused as it begins
refused_block : (work : Work) (h k : ℕ) (r : Request) (before : List Line) → is_served (asked_word r) ≡ false → IsBlock work h k r before (request h k (request_kind r) ∷ refused h k NoRegister 0 ∷ [])
refused_block work h k r before none = record { inner = []; last = refused h k NoRegister 0; are_inner = tt; lines = refl; ended = is_refused NoRegister 0 refl none }

-- what follows of a run behind a block has the blocks of the other requests
abbrev AreBehind : Work → ℕ → ℕ → List ScriptItem → HartState → Type 0
AreBehind work h k rest end = (words : ℕ) (before : List Line) (s : HartState) (events : List Event) → IsBetween h (k + 1) words rest s → Runs (acts work) (acted work) s events end
    → AreBlocks work h (k + 1) rest before (all_lines events)

-- the block of a request whose word is made
block_made : (work : Work) (h k words : ℕ) (item : ScriptItem) (rest : List ScriptItem) (before : List Line) (word : ℕ) (s : HartState) (events : List Event) (end : HartState) → IsMember work h
    → IsUnderWay h k words item.request word rest s → Runs (acts work) (acted work) s events end → IsAtEnd end.phase → AreBehind work h k rest end
    → AreBlocks work h k (item ∷ rest) before (request h k (request_kind item.request) ∷ all_lines events)
block_made work h k words item rest before word s [] end is at run ends more = absurd (subst IsAtEnd (ap (λ (q : HartState). q.phase) run ∙ at.phase) ends)
block_made work h k words item rest before word s (f ∷ es) end is at run ends more =
    let r : Request = item.request in
    let q : IsAsked r word = asked r word at.makeable at.is_for in
    let m : Option Decoded = decoded word in
    let make = did_this work s f _ run.0 (made_so work h k words r word rest s (heard_of f) q is at) in
    let late : List Fixing = late_by s m in
    let effect : Effect = (stepped_so s word m).effect in
    let done_here : List Line = option_map_or (λ (j : ℕ). done h j ∷ []) (done_by (of_request k) effect.trap) [] in
    let made_lines : f.lines ≡ fixing_lines h late ++ (made effect ∷ done_here) = told_so work h s f (stepping is_made (done_by (of_request k) effect.trap) late effect) at.window.so_far.number make.0 in
    let next : HartState = (stepped_turn s (of_request k) word m (words_made_at work s word)).state in
    let run_on : Runs (acts work) (acted work) next es end = subst (λ q. Runs (acts work) (acted work) q es end) make.1 run.1 in
    let out = worked_out work h k words rest effect.trap next es end is (made_behind work h k words r word rest s q is at) run_on ends in
    let block : List Line = block_of h k r late effect out.told in (
      block,
      all_lines out.rest,
      block_is work h k r before late effect out.told out.are_inner out.none_made (q.met (fixed_hart s m) _ _ (filter_map found_by out.told) at.window.mode out.handled),
      (λ i. request h k (request_kind r) ∷ (made_lines i ++ all_lines es))
          ∙ ap (λ ls. request h k (request_kind r) ∷ ls)
          (append_assoc (fixing_lines h late) (made effect ∷ done_here) (all_lines es) ∙ ap (λ ls. fixing_lines h late ++ (made effect ∷ ls)) out.lines_are
          ∙ sym (append_assoc (fixing_lines h late) (made effect ∷ out.told) (done h k ∷ all_lines out.rest))
          ∙ sym (append_assoc (fixing_lines h late ++ (made effect ∷ out.told)) (done h k ∷ []) (all_lines out.rest))),
      more out.words (before ++ block) out.s out.rest out.between out.run,
    )

-- that of a request that has begun
block_begun : (work : Work) (h k words : ℕ) (item : ScriptItem) (rest : List ScriptItem) (before : List Line) (word : ℕ) (s : HartState) (events : List Event) (end : HartState) → IsMember work h
    → HasBegun h k words item.request word rest s → Runs (acts work) (acted work) s events end → IsAtEnd end.phase → AreBehind work h k rest end
    → AreBlocks work h k (item ∷ rest) before (begun_lines h k item.request ++ all_lines events)
block_begun work h k words item rest before word s events end is (is_under_way served at) run ends more =
    subst (λ b. AreBlocks work h k (item ∷ rest) before (cond b (request h k (request_kind item.request) ∷ []) (request h k (request_kind item.request) ∷ refused h k NoRegister 0 ∷ []) ++ all_lines events)) (sym served)
    (block_made work h k words item rest before word s events end is at run ends more)
block_begun work h k words item rest before word s events end is (was_refused none at) run ends more =
    let block : List Line = request h k (request_kind item.request) ∷ refused h k NoRegister 0 ∷ [] in
    subst (λ b. AreBlocks work h k (item ∷ rest) before (cond b (request h k (request_kind item.request) ∷ []) (request h k (request_kind item.request) ∷ refused h k NoRegister 0 ∷ []) ++ all_lines events)) (sym none)
    (block, all_lines events, refused_block work h k item.request before none, refl, more words (before ++ block) s events at run)

blocks_from : (work : Work) (h k words : ℕ) (items : List ScriptItem) (before : List Line) (s : HartState) (events : List Event) (end : HartState) → IsMember work h
    → IsBetween h k words items s → Runs (acts work) (acted work) s events end → IsAtEnd end.phase → AreBlocks work h k items before (all_lines events)
blocks_from work h k words [] before s [] end is at run ends = absurd (subst IsAtEnd (ap (λ (q : HartState). q.phase) run ∙ at.phase) ends)
blocks_from work h k words [] before s (e ∷ es) end is at run ends =
    let this = did_this work s e _ run.0 (ends_so work h k words s (heard_of e) is at) in
    let effect : Effect = (stepped_so s end_word (Some end_jump)).effect in
    let lines : e.lines ≡ ending effect ∷ [] =
    told_so work h s e (stepping is_last None (late_by s (Some end_jump)) effect) at.window.so_far.number this.0
    ∙ ap (λ late. fixing_lines h late ++ (ending effect ∷ [])) (nothing_late s at.window.so_far.zero) in
    let none : es ≡ [] = none_left es (ap (λ (q : HartState). q.phase) this.1) run.1 in
    (effect, ap (λ (q : Effect). q.word) (quiet_effect s end_word (Some end_jump) end_quiet), λ i. lines i ++ all_lines (none i))
  where
    none_left : (es : List Event) → (acted work s e).phase ≡ at_end → Runs (acts work) (acted work) (acted work s e) es end → es ≡ []
    none_left [] phase run = refl
    none_left (f ∷ fs) phase run = absurd (none_behind work (acted work s e) f phase run.0)
blocks_from work h k words (item ∷ rest) before s [] end is at run ends = absurd (subst IsAtEnd (ap (λ (q : HartState). q.phase) run ∙ at.phase) ends)
blocks_from work h k words (item ∷ rest) before s (e ∷ es) end is at run ends =
    let r : Request = item.request in
    let begin = did_this work s e _ run.0 (begins_so work h k words item rest s (heard_of e) is at) in
    let lines : e.lines ≡ begun_lines h k r =
    told_so work h s e (begun_act s.count r) at.window.so_far.number begin.0 ∙ ap (λ n. act_lines work h (begun_act n r)) at.count
    ∙ ap (λ (q : Event). q.lines) (sym (begun_event work h k r at.ahead.makeable.0.0)) in
    subst (λ ls. AreBlocks work h k (item ∷ rest) before (ls ++ all_lines es)) (sym lines)
    (block_begun work h k words item rest before _ (begun_state s item rest) es end is (has_begun h k words item rest s at)
    (subst (λ q. Runs (acts work) (acted work) q es end) begin.1 run.1) ends
    (λ n before s events between run. blocks_from work h (k + 1) n rest before s events end is between run ends))

-- The lines of a finished run are one block for each request of its hart's script, in their order, and then the ending step's
-- own line.
pub blocked : (work : Work) (seed h : ℕ) (events : List Event) → KeepsRules work → h < hart_count work → IsFinishedRun work seed h events
    → AreBlocks work h 0 (script work h) [] (all_lines events)
blocked work seed h events keeps member run =
    let is : IsMember work h = record { keeps = keeps; member = member } in
    blocks_from work h 0 0 (script work h) [] (start work seed h) events run.end is (start_between work seed h is) run.run run.finished
