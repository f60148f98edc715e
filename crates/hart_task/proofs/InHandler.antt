-- A hart that steps the handler of mode M, word by word, by its machine.
use Rattle.std.proofs.Common.{ℕ, zero, suc, ◌+◌, ◌%◌, ◌^◌, ◌<◌, ◌≡◌, get_or, List, Option, Some, None, refl, arith, lit<}
use Rattle.rv_fields.specs.declared.mode.Mode.TheVariants.{M}
use Rattle.rv_fields.specs.Decode.{Decoded}
use Rattle.rv_fields.specs.Hart.{Hart}
use Rattle.rv_fields.specs.Laws.{with_registers}
use Rattle.rv_fields.specs.Step.{Stepped}
use Rattle.rv_encode.proofs.Encoded.{encoded_decodes}
use Rattle.region_plan.specs.Plan.{Work}
use Rattle.boot_words.specs.Boot.{handler_code, mret}
use Rattle.hart_task.specs.Acts.{Fixing}
use Rattle.hart_task.specs.Heard.{Heard}
use Rattle.hart_task.specs.State.{HartState}
use Rattle.hart_task.specs.Stepping.{fixed_in, named_by, stepped}
use Rattle.hart_task.proofs.Bare.{bare_step}
use Rattle.hart_task.proofs.Found.{handler_told, handler_word}
use Rattle.hart_task.proofs.Going.{EachFixed, each_late, value_kept}
use Rattle.hart_task.proofs.Handled.{ComesOut, Holds, IsInHandler, fifth_word, first_word, fourth_word, second_word, sixth_word, third_word}
use Rattle.hart_task.proofs.Makes.{HasSources, IsQuietWord, fixed_hart, late_by, sources_told, stepped_is, word_taken}

-- ---- its words

abbrev pub handler_ins : ℕ → Decoded
handler_ins i = get_or (handler_code M) i mret

pub handler_quiet : (i : ℕ) → i < 6 → IsQuietWord (handler_word i) (Some (handler_ins i))
handler_quiet zero few = record { small = lit< tt; row = encoded_decodes (handler_ins 0).ins (handler_ins 0).ops refl; bare = refl; closed = refl }
handler_quiet (suc zero) few = record { small = lit< tt; row = encoded_decodes (handler_ins 1).ins (handler_ins 1).ops refl; bare = refl; closed = refl }
handler_quiet (suc (suc zero)) few = record { small = lit< tt; row = encoded_decodes (handler_ins 2).ins (handler_ins 2).ops refl; bare = refl; closed = refl }
handler_quiet (suc (suc (suc zero))) few = record { small = lit< tt; row = encoded_decodes (handler_ins 3).ins (handler_ins 3).ops refl; bare = refl; closed = refl }
handler_quiet (suc (suc (suc (suc zero)))) few = record { small = lit< tt; row = encoded_decodes (handler_ins 4).ins (handler_ins 4).ops refl; bare = refl; closed = refl }
handler_quiet (suc (suc (suc (suc (suc zero))))) few = record { small = lit< tt; row = encoded_decodes (handler_ins 5).ins (handler_ins 5).ops refl; bare = refl; closed = refl }
handler_quiet (suc (suc (suc (suc (suc (suc i)))))) few = absurd (omega (arith, few))

-- ---- the hart with what a word fixes late stands there too

holds_kept : (i epc : ℕ) (hart : Hart) (fs : List Fixing) → EachFixed (λ r v. hart.x r ≡ None) fs → Holds i epc hart → Holds i epc (with_registers (fixed_in hart.x fs) hart)
holds_kept zero epc hart fs late h = h
holds_kept (suc zero) epc hart fs late h = h
holds_kept (suc (suc zero)) epc hart fs late h = (h.0, value_kept hart.x hart.x fs 31 epc late h.1 h.1)
holds_kept (suc (suc (suc zero))) epc hart fs late h = (h.0, value_kept hart.x hart.x fs 31 (epc + 4) late h.1 h.1)
holds_kept (suc (suc (suc (suc i)))) epc hart fs late h = h

fixed_there : (i epc : ℕ) (s : HartState) (m : Option Decoded) → IsInHandler i epc s.hart → IsInHandler i epc (fixed_hart s m)
fixed_there i epc s m at = record {
  mode = at.mode;
  handler = at.handler;
  back = at.back;
  pc = at.pc;
  holds = holds_kept i epc s.hart (late_by s m) (each_late s.hart.x s.draws (named_by m)) at.holds;
}

-- ---- its steps

-- the step of the word by the hart as its log knows it
abbrev pub found_step : HartState → ℕ → Stepped
found_step s i =
    let m : Option Decoded = Some (handler_ins i) in
    let known : HasSources (fixed_in s.hart.x (late_by s m)) m = sources_told s.hart.x s.draws m in
    bare_step (fixed_hart s m) (handler_word i) m known.a known.b

-- the machine steps it
pub finds_so : (work : Work) (s : HartState) (heard : Heard) (i epc : ℕ) → i < 6 → IsInHandler i epc s.hart → stepped work s heard None ≡ Some (word_taken s (Some (handler_ins i)) (found_step s i))
finds_so work s heard i epc few at =
    let m : Option Decoded = Some (handler_ins i) in
    let known : HasSources (fixed_in s.hart.x (late_by s m)) m = sources_told s.hart.x s.draws m in
    stepped_is work s heard (handler_word i) m known.a known.b at.mode (handler_told work s heard i few at.pc) (handler_quiet i few) known.told

-- The hart stands at the next word,
pub goes_through : (s : HartState) (i epc : ℕ) → i < 5 → epc % 4 ≡ 0 → epc + 4 < 2 ^ 64 → IsInHandler i epc s.hart → IsInHandler (i + 1) epc (found_step s i).hart
goes_through s zero epc few aligned small at =
    let known = sources_told s.hart.x s.draws (Some (handler_ins 0)) in first_word (fixed_hart s (Some (handler_ins 0))) epc known.a known.b (fixed_there 0 epc s (Some (handler_ins 0)) at)
goes_through s (suc zero) epc few aligned small at =
    let known = sources_told s.hart.x s.draws (Some (handler_ins 1)) in second_word (fixed_hart s (Some (handler_ins 1))) epc known.a known.b (fixed_there 1 epc s (Some (handler_ins 1)) at)
goes_through s (suc (suc zero)) epc few aligned small at =
    let known = sources_told s.hart.x s.draws (Some (handler_ins 2)) in third_word (fixed_hart s (Some (handler_ins 2))) epc known.a known.b known.told.0 small (fixed_there 2 epc s (Some (handler_ins 2)) at)
goes_through s (suc (suc (suc zero))) epc few aligned small at =
    let known = sources_told s.hart.x s.draws (Some (handler_ins 3)) in
    fourth_word (fixed_hart s (Some (handler_ins 3))) epc known.a known.b known.told.0 aligned small (fixed_there 3 epc s (Some (handler_ins 3)) at)
goes_through s (suc (suc (suc (suc zero)))) epc few aligned small at =
    let known = sources_told s.hart.x s.draws (Some (handler_ins 4)) in fifth_word (fixed_hart s (Some (handler_ins 4))) epc known.a known.b (fixed_there 4 epc s (Some (handler_ins 4)) at)
goes_through s (suc (suc (suc (suc (suc i))))) epc few aligned small at = absurd (omega (arith, few))

-- and behind the last it is out.
pub comes_out : (s : HartState) (epc : ℕ) → IsInHandler 5 epc s.hart → ComesOut epc (found_step s 5).hart
comes_out s epc at =
    let known = sources_told s.hart.x s.draws (Some (handler_ins 5)) in sixth_word (fixed_hart s (Some (handler_ins 5))) epc known.a known.b (fixed_there 5 epc s (Some (handler_ins 5)) at)
