-- A hart's requests in their order, and what they cost.
use Rattle.std.specs.Prelude.{max, List, None, Option, Some, bytes_eq, suc, zero, ℕ, ◌+◌, ◌*◌, ◌∷◌, ◌++◌, [], if◌then◌else◌}
use Rattle.region_plan.specs.Request.{Arms, Items, Plain, Request, a_csr, a_jump, a_loop, a_mem, a_pick, a_plain, a_set, a_sys, a_value, an_ins, arm, fork, no_arms, no_items, one, repeated}
use Rattle.rv_fields.specs.Name.{Name}

-- what a hart does next of its template: a request, with the arms among which it picks, if it is a pick
pub record ScriptItem : Type 0 where
  pub request : Request
  pub arms : Arms

abbrev pub times_over : ℕ → List ScriptItem → List ScriptItem
times_over zero entries = []
times_over (suc times) entries = entries ++ times_over times entries

-- the items in their order, repeats written out
abbrev pub script_of : Items → List ScriptItem
script_of no_items = []
script_of (one r items) = record { request = r; arms = no_arms } ∷ script_of items
script_of (repeated times body items) = times_over times (script_of body) ++ script_of items
script_of (fork tree arms items) = record { request = a_pick tree; arms = arms } ∷ script_of items

-- what comes for the leaf that was picked, if one was
abbrev pub script_for : Arms → Option Name → List ScriptItem
script_for no_arms leaf = []
script_for (arm label items arms) None = []
script_for (arm label items arms) (Some leaf) = if bytes_eq label leaf then script_of items else script_for arms (Some leaf)

-- The most steps that a request takes, its traps' handlers among them, and the most words that it needs in a loop's body, where a
-- value isn't fixed and a base is always loaded.
pub record Most : Type 0 where
  pub steps : ℕ
  pub words : ℕ

abbrev pub most_of : Plain → Most
most_of (an_ins ins pins) = record { steps = 15; words = 1 }
most_of (a_mem r) = record { steps = 15; words = 9 }
most_of (a_jump r) = record { steps = 15; words = 9 }
most_of (a_csr csr ins pins) = record { steps = 15; words = 1 }
most_of (a_sys sys) = record { steps = 15; words = 1 }
most_of (a_value value pins) = record { steps = 8; words = 8 }

abbrev pub body_cost : List Plain → ℕ
body_cost [] = 2
body_cost (p ∷ ps) = (most_of p).steps + body_cost ps

abbrev pub cost : Request → ℕ
cost (a_plain p) = (most_of p).steps
cost (a_loop times counter body) = 8 + times * body_cost body
cost (a_set tree path weight) = 0
cost (a_pick tree) = 0

-- the words of a loop behind the load of its counter: the body's, the counting and the branch
abbrev pub loop_words : List Plain → ℕ
loop_words [] = 2
loop_words (p ∷ ps) = (most_of p).words + loop_words ps

-- The most steps that items take, repeats written out, with the dearest arm of each pick. A hart whose budget is at least this
-- and one step more is never short of it.
abbrev mutual
  pub need : Items → ℕ
  need no_items = 0
  need (one r items) = cost r + need items
  need (repeated times body items) = times * need body + need items
  need (fork tree arms items) = dearest arms + need items

  pub dearest : Arms → ℕ
  dearest no_arms = 0
  dearest (arm label items arms) = max (need items) (dearest arms)
