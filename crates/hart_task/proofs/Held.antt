-- What a hart sees at an event stands in the machine's memory.
use Rattle.std.proofs.Common.{ℕ, ◌+◌, ◌-◌, ◌*◌, ◌/◌, ◌<◌, ◌≤◌, ◌≡◌, Bool, true, false, cond, eqb, ltb, eqb-true, Option, Some, None, refl, sym, ap, ◌∙◌, arith}
use Rattle.std.specs.Prelude.{option_map, ◌&&◌}
use Rattle.std.proofs.lemmas.Bool.Decides.{nat_tests}
use Rattle.rv_fields.specs.Laws.{Below, Extends}
use Rattle.rv_fields.specs.Memory.{Links, Seen, granule}
use Rattle.rv_fields.specs.declared.access.Accessed.{Accessed}
use Rattle.region_plan.specs.Plan.{Work, page_size}
use Rattle.boot_words.specs.Layout.{code_start, data_start, m_handler_at, s_handler_at, window_words}
use Rattle.world_face.proofs.Shared.{ReadStands, Within}
use Rattle.hart_task.specs.Heard.{Heard}
use Rattle.hart_task.specs.State.{HartState}
use Rattle.hart_task.specs.Stepping.{is_of_data, byte_in_access, byte_in_entries, byte_in_words, byte_of, fixed_byte, lies_in, link_told, seen_of}
use Rattle.hart_task.proofs.Standing.{HandlersStand, Stands, WordsAt}

-- the words of a window stand in memory
abbrev pub WordsStand : Seen → ℕ → (ℕ → Option ℕ) → Type 0
WordsStand first h words = (i word : ℕ) → words i ≡ Some word → Stands first (code_start h + 4 * i) 4 word

abbrev pub EntriesStand : Seen → (ℕ → Option ℕ) → Type 0
EntriesStand first entries = (at pte : ℕ) → entries at ≡ Some pte → Stands first at 8 pte

below_cond : {A : Type 0} (t : Bool) (m n p : Option A) → (t ≡ true → Below m p) → Below n p → Below (cond t m n) p
below_cond true m n p h k = h refl
below_cond false m n p h k = k

words_below : (first : Seen) (start : ℕ) (words : ℕ → Option ℕ) (a : ℕ) → WordsAt first start words → start ≤ a → Below (byte_in_words words start a) (first.byte a)
words_below first start words a stand low = of (words ((a - start) / 4)) refl
  where
    of : (m : Option ℕ) → m ≡ words ((a - start) / 4)
        → Below (option_map (λ w. byte_of w ((a - start) / 4 * 4) (a - start)) m) (first.byte a)
    of None e b is = absurd cc
    of (Some w) e b is =
        let place : start + 4 * ((a - start) / 4) + (a - start - (a - start) / 4 * 4) ≡ a = omega (arith, low) in
        let inside : a - start - (a - start) / 4 * 4 < 4 = omega arith in
        ap first.byte (sym place) ∙ stand ((a - start) / 4) w (sym e) (a - start - (a - start) / 4 * 4) inside ∙ is

entries_below : (first : Seen) (entries : ℕ → Option ℕ) (a : ℕ) → EntriesStand first entries → Below (byte_in_entries entries a) (first.byte a)
entries_below first entries a stand = of (entries (a / 8 * 8)) refl
  where
    of : (m : Option ℕ) → m ≡ entries (a / 8 * 8) → Below (option_map (λ pte. byte_of pte (a / 8 * 8) a) m) (first.byte a)
    of None e b is = absurd cc
    of (Some pte) e b is =
        let place : a / 8 * 8 + (a - a / 8 * 8) ≡ a = omega arith in
        let inside : a - a / 8 * 8 < 8 = omega arith in
        ap first.byte (sym place) ∙ stand (a / 8 * 8) pte (sym e) (a - a / 8 * 8) inside ∙ is

lies_above : (a at size : ℕ) → lies_in a at size ≡ true → at ≤ a
lies_above a at size e = grind (arith, nat_tests)

lies_below : (a at size : ℕ) → lies_in a at size ≡ true → a < at + size
lies_below a at size e = grind (arith, nat_tests)

-- what is fixed below the data
pub fixed_below : (work : Work) (first : Seen) (s : HartState) → WordsStand first s.hart.number s.words → EntriesStand first s.entries → HandlersStand first
    → (a : ℕ) → Below (fixed_byte work s a) (first.byte a)
fixed_below work first s words entries handlers a =
    below_cond (lies_in a (code_start s.hart.number) (4 * window_words work s.hart.number)) _ _ _
    (λ e. words_below first (code_start s.hart.number) s.words a words (lies_above a (code_start s.hart.number) (4 * window_words work s.hart.number) e))
    (below_cond (lies_in a m_handler_at page_size) _ _ _ (λ e. words_below first m_handler_at _ a handlers.0 (lies_above a m_handler_at page_size e))
    (below_cond (lies_in a s_handler_at page_size) _ _ _ (λ e. words_below first s_handler_at _ a handlers.1 (lies_above a s_handler_at page_size e)) (entries_below first s.entries a entries)))

-- ---- data

-- an access by the rules lies in one page of data
pub within : (a : Accessed) → is_of_data (Some a) ≡ true → Within a
within a e = record { low = grind (arith, nat_tests); short = grind (arith, nat_tests) }

access_below : (f : ℕ → Option ℕ) (access : Option Accessed) (a : ℕ) → ReadStands f access → (b : ℕ) → byte_in_access access a ≡ Some b → f a ≡ Some b
access_below f None a stand b is = absurd cc
access_below f (Some x) a stand b is = of (lies_in a x.pa x.size) refl x.read refl is
  where
    of : (t : Bool) → t ≡ lies_in a x.pa x.size → (m : Option ℕ) → m ≡ x.read → cond t (option_map (λ value. byte_of value x.pa a) m) None ≡ Some b → f a ≡ Some b
    of false e m r is = absurd cc
    of true e None r is = absurd cc
    of true e (Some value) r is =
        let low : x.pa ≤ a = lies_above a x.pa x.size (sym e) in
        let high : a < x.pa + x.size = lies_below a x.pa x.size (sym e) in
        let place : x.pa + (a - x.pa) ≡ a = omega (arith, low) in
        ap f (sym place) ∙ stand value (sym r) (a - x.pa) (omega (arith, low, high)) ∙ is

-- ---- links

link_below : (probe : Option (ℕ × Bool)) (hart : ℕ) (links : Links) → ((p : ℕ × Bool) → probe ≡ Some p → links hart (granule p.0) ≡ Some p.1)
    → (h g : ℕ) (b : Bool) → link_told probe hart h g ≡ Some b → links h g ≡ Some b
link_below None hart links right h g b is = absurd cc
link_below (Some p) hart links right h g b is = of (eqb h hart) refl (eqb g (granule p.0)) refl is
  where
    of : (t : Bool) → t ≡ eqb h hart → (u : Bool) → u ≡ eqb g (granule p.0) → cond (t && u) (Some p.1) None ≡ Some b → links h g ≡ Some b
    of true e true f is = ap (λ q. links q g) (eqb-true h hart (sym e)) ∙ ap (links hart) (eqb-true g (granule p.0) (sym f)) ∙ right p refl ∙ is
    of true e false f is = absurd cc
    of false e u f is = absurd cc

-- ---- all that the hart sees

pub seen_extends : (work : Work) (first now : Seen) (s : HartState) (heard : Heard)
    → WordsStand first s.hart.number s.words → EntriesStand first s.entries → HandlersStand first
    → ((a : ℕ) → a < data_start → now.byte a ≡ first.byte a)
    → ReadStands now.byte heard.access
    → ((p : ℕ × Bool) → heard.probe ≡ Some p → now.link s.hart.number (granule p.0) ≡ Some p.1)
    → Extends (seen_of work s heard) now
seen_extends work first now s heard words entries handlers low stand told = record {
  byte = λ a. below_cond (ltb a data_start) _ _ _ (λ e b is. low a (grind (arith, nat_tests)) ∙ fixed_below work first s words entries handlers a b is) (access_below now.byte heard.access a stand);
  link = link_below heard.probe s.hart.number now.link told;
}
