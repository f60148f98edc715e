-- The law is not empty: a run of the least job, and a machine that starts so.
use Rattle.std.proofs.Common.{leb, ltb, get_or, ◌&&◌, ℕ, ◌+◌, ◌-◌, ◌*◌, ◌/◌, ◌%◌, ◌^◌, ◌<◌, ◌≡◌, Bool, true, false, cond, eqb, List, [], ◌∷◌, Option, Some, None, refl, ap, subst, ◌∙◌, length, arith}
use Rattle.std.specs.Prelude.{suc, zero, unwrap_or, option_map, filter}
use Rattle.std.proofs.lemmas.Bool.Decides.{nat_tests}
use Rattle.rv_fields.specs.CsrFile.{written}
use Rattle.rv_fields.specs.Decode.{ins_at}
use Rattle.rv_fields.specs.Field.{field_of, masked, with_field}
use Rattle.rv_fields.specs.Play.{Machine}
use Rattle.rv_fields.specs.Step.{outcome, step, step_decoded, trap_taken}
use Rattle.rv_fields.specs.Trap.{popped, pushed}
use Rattle.rv_fields.specs.declared.mode.Mode.TheVariants as mode
use Rattle.rv_fields.specs.declared.mode.Mode.TheVariants.{M}
use Rattle.choice_tree.specs.Draws.{word_of}
use Rattle.choice_tree.specs.Forest.{Forest}
use Rattle.region_plan.specs.Plan.{Work}
use Rattle.region_plan.specs.Request.{no_items}
use Rattle.boot_words.specs.Boot.{handler}
use Rattle.boot_words.specs.Layout.{m_handler_at, s_handler_at, code_windows_at}
use Rattle.boot_words.specs.Startup.{start_csrs, start_mode}
use Rattle.trace_text.specs.Lines.{effects_of, ending}
use Rattle.world_face.specs.Events.{Event, is_of_hart, no_parts, nothing_asked}
use Rattle.world_face.specs.Shards.{opening_shard}
use Rattle.hart_task.specs.OneRun.{IsFinishedRun, OneRun}
use Rattle.hart_task.specs.State.{start}
use Rattle.hart_task.specs.Stepping.{byte_in_words, byte_of, listed_words}
use Rattle.hart_task.specs.Turn.{acted, acts}
use Rattle.hart_task.proofs.Standing.{IsPlanned}
use Rattle.run_merge.specs.Justified.{DoesAll}
use Rattle.run_merge.proofs.Law.{HasAll}
use Rattle.run_merge.proofs.Whole.{justified}

abbrev pub job : Work
job = record { budget = 16384; frames = 4096; objects = []; spaces = []; harts = record { mode = M; space = None; code = 0; code_pages = 1; sum = false; tvm = false; deleg = 0; template = no_items } ∷ []; trees = [] }

abbrev pub event : Event
event = record { hart = 0; parts = no_parts; asked = nothing_asked; lines = ending (record { hart = 0; pc = code_windows_at; pa = Some code_windows_at; word = Some 0x6f; rd = None; access = None; trail = []; trap = None }) ∷ [] }

pub acts_it : acts job (start job 7 0) event
unfolding field_of with_field masked written popped pushed ins_at word_of start_csrs start_mode outcome trap_taken step_decoded step
acts_it = refl

end_state : IsFinishedRun job 7 0 (event ∷ [])
unfolding field_of with_field masked written popped pushed ins_at word_of start_csrs start_mode outcome trap_taken step_decoded step
end_state = record { end = acted job (start job 7 0) event; run = (acts_it, refl); finished = tt }

one_run : (forest : Forest) → OneRun job forest 7 (event ∷ [])
one_run forest = record {
  members = (omega arith, tt);
  harts = λ h small. let zero : 0 ≡ h = omega (arith, small) in subst (λ k. IsFinishedRun job 7 k (filter (is_of_hart k) (event ∷ []))) zero end_state;
  parts = record {
    spaces = λ n small. absurd (omega (arith, small));
    pages = record { contents = []; run = refl };
    choices = record { contents = forest; run = refl };
    shards = λ n small. record { contents = opening_shard; run = refl };
  };
}

-- the handlers' bytes
abbrev pub in_handlers : ℕ → Option ℕ
in_handlers a = cond (leb m_handler_at a && ltb a (m_handler_at + 0x18)) (byte_in_words (listed_words (handler mode.M)) m_handler_at a)
    (cond (leb s_handler_at a && ltb a (s_handler_at + 0x18)) (byte_in_words (listed_words (handler mode.S)) s_handler_at a) None)

-- its memory
abbrev pub memory : ℕ → ℕ
memory a = cond (eqb a code_windows_at) 0x6f (unwrap_or (in_handlers a) 0)

small_words : (words : ℕ → Option ℕ) (at a : ℕ) → unwrap_or (byte_in_words words at a) 0 < 256
small_words words at a = of (words ((a - at) / 4))
  where
    of : (m : Option ℕ) → unwrap_or (option_map (λ w. byte_of w ((a - at) / 4 * 4) (a - at)) m) 0 < 256
    of None = omega arith
    of (Some w) = omega arith

small_memory : (a : ℕ) → memory a < 256
small_memory a = of (eqb a code_windows_at) (leb m_handler_at a && ltb a (m_handler_at + 0x18)) (leb s_handler_at a && ltb a (s_handler_at + 0x18))
  where
    of : (t u v : Bool) → cond t 0x6f (unwrap_or (cond u (byte_in_words (listed_words (handler mode.M)) m_handler_at a) (cond v (byte_in_words (listed_words (handler mode.S)) s_handler_at a) None)) 0) < 256
    of true u v = omega arith
    of false true v = small_words (listed_words (handler mode.M)) m_handler_at a
    of false false true = small_words (listed_words (handler mode.S)) s_handler_at a
    of false false false = omega arith

word_bytes : (words : ℕ → Option ℕ) (at i j w : ℕ) → words i ≡ Some w → j < 4 → byte_in_words words at (at + 4 * i + j) ≡ Some (w / 256 ^ j % 256)
word_bytes words at i j w e small =
    let index : (at + 4 * i + j - at) / 4 ≡ i = omega (arith, small) in
    let rest : at + 4 * i + j - at - i * 4 ≡ j = omega arith in
    ap (λ q. option_map (λ w. byte_of w (q * 4) (at + 4 * i + j - at)) (words q)) index ∙ ap (λ m. option_map (λ w. byte_of w (i * 4) (at + 4 * i + j - at)) m) e ∙ ap (λ q. Some (w / 256 ^ q % 256)) rest

listed_short : (ws : List ℕ) (i w : ℕ) → listed_words ws i ≡ Some w → i < length ws
listed_short ws i w e = of (ltb i (length ws)) refl e
  where
    of : (t : Bool) → t ≡ ltb i (length ws) → cond t (Some (get_or ws i 0)) None ≡ Some w → i < length ws
    of true is e = grind (arith, nat_tests)
    of false is e = absurd cc

pub machine : Machine
machine = record {
  seen = record { byte = λ a. Some (memory a); link = λ h g. Some false };
  harts = λ h. record (start job 7 h).hart { x = λ r. Some 0; csrs = record (start job 7 h).hart.csrs { mcause = 5; mtval = 9 } };
}

in_m : (i j w : ℕ) → listed_words (handler mode.M) i ≡ Some w → j < 4 → Some (memory (m_handler_at + 4 * i + j)) ≡ Some (w / 256 ^ j % 256)
in_m i j w e small =
    let short : i < 6 = listed_short (handler mode.M) i w e in
    let code : eqb (m_handler_at + 4 * i + j) code_windows_at ≡ false = grind (arith, nat_tests) in
    let inside : (leb m_handler_at (m_handler_at + 4 * i + j) && ltb (m_handler_at + 4 * i + j) (m_handler_at + 0x18)) ≡ true = grind (arith, nat_tests) in
    rw code (rw inside (ap (λ m. Some (unwrap_or m 0)) (word_bytes (listed_words (handler mode.M)) m_handler_at i j w e small)))

in_s : (i j w : ℕ) → listed_words (handler mode.S) i ≡ Some w → j < 4 → Some (memory (s_handler_at + 4 * i + j)) ≡ Some (w / 256 ^ j % 256)
in_s i j w e small =
    let short : i < 6 = listed_short (handler mode.S) i w e in
    let code : eqb (s_handler_at + 4 * i + j) code_windows_at ≡ false = grind (arith, nat_tests) in
    let outside : (leb m_handler_at (s_handler_at + 4 * i + j) && ltb (s_handler_at + 4 * i + j) (m_handler_at + 0x18)) ≡ false = grind (arith, nat_tests) in
    let inside : (leb s_handler_at (s_handler_at + 4 * i + j) && ltb (s_handler_at + 4 * i + j) (s_handler_at + 0x18)) ≡ true = grind (arith, nat_tests) in
    rw code (rw outside (rw inside (ap (λ m. Some (unwrap_or m 0)) (word_bytes (listed_words (handler mode.S)) s_handler_at i j w e small))))

pub has_all : HasAll job event.lines machine
unfolding machine
has_all = record {
  bytes = λ a. (memory a, refl, small_memory a);
  links = λ h g. refl;
  handlers = (λ i w e j small. in_m i j w e small, λ i w e j small. in_s i j w e small);
  tables = λ k small. absurd (omega (arith, small));
  fixed = (word, tt);
  harts = λ h small. record { number = refl; pc = refl; mode = refl; csrs = refl; reserved = refl; zero = refl; registers = record { told = λ r. (0, refl) } };
}
  where
    word : (j : ℕ) → j < 4 → Some (memory (code_windows_at + j)) ≡ Some (0x6f / 256 ^ j % 256)
    word zero small = refl
    word (suc zero) small = refl
    word (suc (suc zero)) small = refl
    word (suc (suc (suc zero))) small = refl
    word (suc (suc (suc (suc j)))) small = absurd (omega (arith, small))

planned : IsPlanned job
planned zero k e = absurd cc
planned (suc zero) k e = absurd cc
planned (suc (suc h)) k e = absurd cc

pub plays : (forest : Forest) → DoesAll machine (effects_of event.lines)
plays forest = justified job forest 7 (event ∷ []) planned (one_run forest) machine has_all
