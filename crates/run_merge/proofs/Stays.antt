-- What is made or fixed stays to the end of a run: words in a hart, entries in a space.
use Rattle.std.proofs.Common.{ℕ, ◌≡◌, Bool, true, false, cond, eqb, eqb-true, List, [], ◌∷◌, Option, Some, None, inl, inr, refl, sym, ap, subst, ◌∙◌}
use Rattle.std.specs.Prelude.{is_none, ◌&&◌}
use Rattle.std.specs.Option.{option_map_or}
use Rattle.rv_fields.specs.Effect.{Entry}
use Rattle.rv_fields.specs.Hart.{updated}
use Rattle.rv_fields.proofs.Options.{found}
use Rattle.region_plan.specs.Plan.{Work}
use Rattle.table_space.specs.Tables.{TableSpace, lies_under, settled_by, with_entries}
use Rattle.table_space.proofs.Ways.{Agrees, EachEntry, way_agrees}
use Rattle.world_face.specs.Events.{Event, Settle, is_short}
use Rattle.world_face.specs.Runs.{Runs}
use Rattle.world_face.specs.Spaces.{space_after, way_settled}
use Rattle.hart_task.specs.Acts.{Act, Came, answers, begins, gives_up, is_found, is_last, is_made, refuses, steps}
use Rattle.hart_task.specs.Heard.{Heard, heard_of}
use Rattle.hart_task.specs.State.{HartState, index_of}
use Rattle.hart_task.specs.Stepping.{StepTaken, stepped}
use Rattle.hart_task.specs.Turn.{Turned, acted, acts, is_of, turned, with_word}
use Rattle.hart_task.proofs.Going.{was}
use Rattle.hart_task.proofs.Viewed.{From, View, turned_view}

abbrev pub Stays : (ℕ → Option ℕ) → (ℕ → Option ℕ) → Type 0
Stays f g = (i v : ℕ) → f i ≡ Some v → g i ≡ Some v

stays_made : (work : Work) (s : HartState) (word : ℕ) (heard : Heard) (t : StepTaken) (m : Option StepTaken) → (is_none (s.words (index_of work s)) ≡ true → m ≡ Some t → Stays s.words t.state.words)
    → (b : Bool) → cond (is_none (s.words (index_of work s)) && b) m None ≡ Some t → Stays s.words t.state.words
stays_made work s word heard t m h b e = of (is_none (s.words (index_of work s))) refl b e
  where
    of : (c : Bool) → c ≡ is_none (s.words (index_of work s)) → (b : Bool) → cond (c && b) m None ≡ Some t → Stays s.words t.state.words
    of true is true e = h (sym is) e
    of true is false e = absurd cc
    of false is b e = absurd cc

stays_from_made : (work : Work) (s : HartState) (heard : Heard) (t : StepTaken) → From is_made work s heard t → Stays s.words t.state.words
stays_from_made work s heard t from =
    let x = found (stepped work (with_word work s from.0) heard from.1) _ t from.2 in
    stays_made work s from.0 heard t (Some x.0) (λ none e. let same : x.0 ≡ t = cc in subst (λ (q : StepTaken). Stays s.words q.state.words) same
    (λ i v is. ap (λ f. f i) (was work (with_word work s from.0) heard from.1 x.0 x.1).words ∙ of i v (eqb i (index_of work s)) refl none is)) _ x.2
  where
    of : (i v : ℕ) (t : Bool) → t ≡ eqb i (index_of work s) → is_none (s.words (index_of work s)) ≡ true → s.words i ≡ Some v → cond t (Some from.0) (s.words i) ≡ Some v
    of i v true e none is = absurd (let some : is_none (s.words (index_of work s)) ≡ false = ap (λ q. is_none (s.words q)) (sym (eqb-true i (index_of work s) (sym e))) ∙ ap is_none is in cc)
    of i v false e none is = is

stays_from : (came : Came) (work : Work) (s : HartState) (heard : Heard) (t : StepTaken) → From came work s heard t → Stays s.words t.state.words
stays_from is_made work s heard t from = stays_from_made work s heard t from
stays_from is_last work s heard t from = stays_from_made work s heard t from
stays_from is_found work s heard t from = λ i v is. ap (λ f. f i) (was work s heard from.0 t from.1).words ∙ is

stays_view : (work : Work) (s : HartState) (heard : Heard) (act : Act) (u : HartState) → View work s heard act u → Stays s.words u.words
stays_view work s heard (refuses b cause) u view = λ i v is. ap (λ f. f i) view.words ∙ is
stays_view work s heard (answers b fixing) u view = λ i v is. ap (λ f. f i) view.words ∙ is
stays_view work s heard (begins b fixing told) u view = λ i v is. ap (λ f. f i) view.0.words ∙ is
stays_view work s heard (gives_up k preamble wanted) u view = λ i v is. ap (λ f. f i) view.words ∙ is
stays_view work s heard (steps x) u view =
    λ i v is. ap (λ (q : HartState). q.words i) view.7 ∙ ap (λ f. f i) view.8.words ∙ stays_from x.came work s heard view.0 view.2 i v is

words_stay : (work : Work) (s : HartState) (e : Event) → acts work s e → Stays s.words (acted work s e).words
words_stay work s e does = of (turned work s (heard_of e)) refl does
  where
    of : (o : Option Turned) → o ≡ turned work s (heard_of e) → is_of work s.hart.number e o → Stays s.words (option_map_or (λ (t : Turned). t.state) o s).words
    of None is does = absurd does
    of (Some t) is does = stays_view work s (heard_of e) t.act t.state (turned_view work s (heard_of e) t (sym is))

pub words_to_end : (work : Work) (es : List Event) (s end : HartState) → Runs (acts work) (acted work) s es end → Stays s.words end.words
words_to_end work [] s end run = λ i v is. ap (λ (q : HartState). q.words i) run ∙ is
words_to_end work (e ∷ es) s end run = λ i v is. words_to_end work es (acted work s e) end run.1 i v (words_stay work s e run.0 i v is)

entries_stay : (entries : ℕ → Option ℕ) (es : List Entry) (f : ℕ → Option ℕ) → EachEntry (Agrees entries) es → Stays entries f → Stays entries (with_entries f es)
entries_stay entries [] f agree stays = stays
entries_stay entries (e ∷ es) f agree stays = entries_stay entries es (updated f e.at (Some e.pte)) agree.1 (λ i v is. of i v (eqb i e.at) refl agree.0 is)
  where
    of : (i v : ℕ) (t : Bool) → t ≡ eqb i e.at → Agrees entries e → entries i ≡ Some v → cond t (Some e.pte) (f i) ≡ Some v
    of i v true at (inl none) is = absurd (let no : None ≡ Some v = sym none ∙ ap entries (sym (eqb-true i e.at (sym at))) ∙ is in cc)
    of i v true at (inr same) is = sym same ∙ ap entries (sym (eqb-true i e.at (sym at))) ∙ is
    of i v false at agree is = stays i v is

pub space_stays : (work : Work) (space : TableSpace) (e : Event) → Stays space.entries (space_after work space e).entries
space_stays work space e = of (is_short e) e.asked.settle
  where
    of : (t : Bool) (o : Option Settle) → Stays space.entries (cond t space (option_map_or (λ (s : Settle). settled_by space (way_settled work space s)) o space)).entries
    of true o = λ i v is. is
    of false None = λ i v is. is
    of false (Some settle) = entries_stay space.entries (way_settled work space settle) space.entries (way_agrees space (lies_under work space.number settle.vpage) _ settle.vpage 3 _ space.made) (λ i v is. is)
