-- What a hart does in one event: its kinds, and for each the lines, the parts that are held and what is asked of them.
--
use Rattle.trace_fields.specs.declared.request.Kind.TheVariants as kinds
use Rattle.std.specs.Option.{option_map_or, option_or}
use Rattle.std.specs.Prelude.{Bool, List, None, Option, Some, false, get_or, is_some, map, option_map, option_to_list, true, ℕ, ◌*◌, ◌||◌, ◌∷◌, ◌++◌, [], if◌then◌else◌}
use Rattle.boot_words.specs.Layout.{shard_of}
use Rattle.region_plan.specs.Plan.{Work, plan_of}
use Rattle.region_plan.specs.Request.{Plain, Request, a_csr, a_jump, a_loop, a_mem, a_pick, a_plain, a_set, a_sys, a_value, an_ins}
use Rattle.rv_fields.specs.Effect.{Effect}
use Rattle.rv_fields.specs.declared.access.Accessed.{Accessed}
use Rattle.trace_fields.specs.declared.request.Cause.{Cause}
use Rattle.trace_fields.specs.declared.request.Kind.{Kind}
use Rattle.rv_fields.specs.Name.{Name}
use Rattle.trace_text.specs.Lines.{Line, done, ending, fixed, found, made, picked, refused, request, touched, weighed}
use Rattle.trace_fields.specs.declared.request.Cause.TheVariants.{NoPlace}
use Rattle.world_face.specs.declared.parts.Parts.{Parts}
use Rattle.world_face.specs.Events.{Asked, Event, Settle, Short, Wanted, no_parts, nothing_asked}
use Rattle.world_face.specs.Told.{Run, Weighing}

-- a tree by its number in the job, the word drawn for it, and the leaf that was picked; none where the choice was empty
pub record Picking : Type 0 where
  pub tree : ℕ
  pub word : ℕ
  pub leaf : Option Name

-- a request that begins: its number, the request, and its pick
pub record Begun : Type 0 where
  pub k : ℕ
  pub request : Request
  pub pick : Option Picking
  -- what a memory request asks of its space and of the pages
  pub settle : Option Settle
  pub short : Option Short

-- a register and its starting value
pub record Fixing : Type 0 where
  pub register : ℕ
  pub value : ℕ

-- how a step's word came there
pub data Came : Type 0 where
  is_made : Came
  is_found : Came
  is_last : Came

-- A step: what it fixes late, its effect, the wanted number that its place was chosen for, the address of an SC that doesn't
-- trap with its link, and the request that it ends.
pub record Stepping : Type 0 where
  pub came : Came
  pub registers : List Fixing
  pub bytes : List Run
  pub effect : Effect
  pub wanted : Option Wanted
  pub probe : Option (ℕ × Bool)
  pub ends : Option ℕ

pub data Act : Type 0 where
  -- a request begins and is refused at once
  refuses : Begun → Cause → Act
  -- it begins and is done at once: a weight is set, an arm picked, or a register fixed
  answers : Begun → Option Fixing → Act
  -- it begins; its base may be fixed. The lines of its parts are the g and m lines.
  begins : Begun → Option Fixing → List Line → Act
  steps : Stepping → Act
  -- a wanted load has no place, behind so many words
  gives_up : ℕ → ℕ → Wanted → Act

-- ---- lines

abbrev pub plain_kind : Plain → Kind
plain_kind (an_ins ins pins) = kinds.Ins
plain_kind (a_mem r) = kinds.Mem
plain_kind (a_jump r) = kinds.Jump
plain_kind (a_csr csr ins pins) = kinds.Csr
plain_kind (a_sys sys) = kinds.Sys
plain_kind (a_value value pins) = kinds.Value

abbrev pub request_kind : Request → Kind
request_kind (a_plain p) = plain_kind p
request_kind (a_loop times counter body) = kinds.Loop
request_kind (a_set tree path weight) = kinds.Set
request_kind (a_pick tree) = kinds.Pick

abbrev pub tree_name : Work → ℕ → Name
tree_name work tree = get_or work.trees tree []

abbrev pub pick_lines : Work → ℕ → Picking → List Line
pick_lines work h p = option_map_or (λ (leaf : Name). picked h (tree_name work p.tree) leaf p.word ∷ []) p.leaf []

-- the weight that a request sets
abbrev pub weighing_of : Work → Request → Option Weighing
weighing_of work (a_plain p) = None
weighing_of work (a_loop times counter body) = None
weighing_of work (a_set tree path weight) = Some (record { tree = tree_name work tree; path = path; weight = weight })
weighing_of work (a_pick tree) = None

abbrev pub weighing_lines : ℕ → Weighing → List Line
weighing_lines h w = weighed h w.tree w.path w.weight ∷ []

abbrev pub fixing_lines : ℕ → List Fixing → List Line
fixing_lines h fixings = map (λ (f : Fixing). fixed h f.register f.value) fixings

abbrev pub begin_lines : Work → ℕ → Begun → List Line
begin_lines work h b = request h b.k (request_kind b.request) ∷ option_map_or (pick_lines work h) b.pick [] ++ option_map_or (weighing_lines h) (weighing_of work b.request) []

abbrev pub step_line : Came → Effect → Line
step_line is_made e = made e
step_line is_found e = found e
step_line is_last e = ending e

abbrev pub step_lines : ℕ → Stepping → List Line
step_lines h s = fixing_lines h s.registers ++ (map (λ (r : Run). touched h r.at r.bytes) s.bytes ++ (step_line s.came s.effect
    ∷ option_map_or (λ (k : ℕ). done h k ∷ []) s.ends []))

abbrev pub act_lines : Work → ℕ → Act → List Line
act_lines work h (refuses b cause) = begin_lines work h b ++ (refused h b.k cause 0 ∷ [])
act_lines work h (answers b fixing) = begin_lines work h b ++ (fixing_lines h (option_to_list fixing) ++ (done h b.k ∷ []))
act_lines work h (begins b fixing told) = begin_lines work h b ++ (fixing_lines h (option_to_list fixing) ++ told)
act_lines work h (steps s) = step_lines h s
act_lines work h (gives_up k preamble wanted) = refused h k NoPlace preamble ∷ []

abbrev pub is_plain_memory : Plain → Bool
is_plain_memory (an_ins ins pins) = false
is_plain_memory (a_mem r) = true
is_plain_memory (a_jump r) = false
is_plain_memory (a_csr csr ins pins) = false
is_plain_memory (a_sys sys) = false
is_plain_memory (a_value value pins) = false

-- ---- parts

abbrev pub is_memory : Request → Bool
is_memory (a_plain p) = is_plain_memory p
is_memory (a_loop times counter body) = false
is_memory (a_set tree path weight) = false
is_memory (a_pick tree) = false

-- A memory request holds its hart's space and the pages, and one that names a tree or sets a weight the choices.
abbrev pub begin_parts : Work → ℕ → Begun → Parts
begin_parts work h b = record {
  space = if is_memory b.request then (plan_of work h).space else None;
  pages = is_memory b.request;
  choices = is_some b.pick || is_some (weighing_of work b.request);
  shard = None;
}

-- a step that accesses a byte holds its shard, and so does an SC that fails
abbrev pub step_parts : Stepping → Parts
step_parts s = record no_parts { shard = option_map shard_of (option_or (option_map (λ (p : ℕ × Bool). p.0) s.probe) (option_map (λ (a : Accessed). a.pa) s.effect.access)) }

abbrev pub parts_of : Work → ℕ → Act → Parts
parts_of work h (refuses b cause) = begin_parts work h b
parts_of work h (answers b fixing) = begin_parts work h b
parts_of work h (begins b fixing told) = begin_parts work h b
parts_of work h (steps s) = step_parts s
parts_of work h (gives_up k preamble wanted) = record no_parts { shard = Some (shard_of (wanted.page * 4096)) }

-- ---- what is asked

abbrev pub begin_asked : Begun → Asked
begin_asked b = record nothing_asked { pick = option_map (λ (p : Picking). (p.tree, p.word)) b.pick; settle = b.settle; short = b.short }

abbrev pub asked_of : Act → Asked
asked_of (refuses b cause) = begin_asked b
asked_of (answers b fixing) = begin_asked b
asked_of (begins b fixing told) = begin_asked b
asked_of (steps s) = record nothing_asked { wanted = s.wanted; probe = s.probe }
asked_of (gives_up k preamble wanted) = record nothing_asked { wanted = Some wanted }

abbrev pub event_of : Work → ℕ → Act → Event
event_of work h act = record { hart = h; parts = parts_of work h act; asked = asked_of act; lines = act_lines work h act }
