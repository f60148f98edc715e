-- The program of what the harts bring is the image of their lines.
use Rattle.std.proofs.Common.{ℕ, zero, suc, ◌+◌, ◌*◌, ◌<◌, ◌≤◌, ◌≡◌, List, [], ◌∷◌, ◌++◌, length, Option, Some, None, refl, sym, ap, ◌∙◌, arith, append_assoc, lit≤}
use Rattle.std.specs.Prelude.{slice_get, unwrap_or}
use Rattle.std.specs.List.{Contains, filter_map}
use Rattle.std.proofs.lemmas.List.Elements.{All-contains, All-from_recursion}
use Rattle.std.proofs.lemmas.Option.{slice_get-get_or}
use Rattle.rv_fields.specs.Effect.{Effect}
use Rattle.rv_fields.specs.Play.{most_harts}
use Rattle.trace_text.specs.Lines.{Line, starting}
use Rattle.region_plan.specs.Plan.{Work, hart_count, plan_of}
use Rattle.boot_words.specs.Boot.{dispatcher, boot_block, boot_csrs, boot_registers}
use Rattle.boot_words.specs.Layout.{boot_block_at, code_address, dispatcher_at, m_handler_at, code_windows_at}
use Rattle.ram_image.specs.Pieces.{byte_in, filled, laid}
use Rattle.ram_image.specs.Segments.{Stretch, memory_of}
use Rattle.hart_task.specs.Blocks.{made_by}
use Rattle.run_merge.specs.Image.{AreImagesOf, HartImage, boot_pieces, boot_pieces_from, code_pieces, code_stretches, effect_pa, effect_word, handler_pieces, image, initial_in, program, startup_pieces, value_bytes, word_bytes}
use Rattle.run_merge.proofs.Placed.{AreLaid, LieFrom, laid-append, laid_within, lie_append, lie_within, memory_joins, none_below}
use Rattle.run_merge.proofs.Windows.{IsBesideWords, IsOfWord, in_pieces, of_word, window_none, window_word}

-- ---- the made words

-- where the word of an effect stands in its hart's window
pub record IsPlaced (harts : List HartImage) (e : Effect) : Type 0 where
  pub hart : HartImage
  pub index : ℕ
  pub among : slice_get harts e.hart ≡ Some hart
  pub at : effect_pa e ≡ code_address e.hart index
  pub word : slice_get hart.words index ≡ Some (effect_word e)

pub placed : (work : Work) (lines : List Line) (harts : List HartImage) → AreImagesOf work lines harts
    → (e : Effect) → Contains (filter_map made_by lines) e → IsPlaced harts e
placed work lines harts are e made =
    let member : e.hart < hart_count work = All-contains (λ (e : Effect). e.hart < hart_count work) (filter_map made_by lines) e
    (All-from_recursion (λ (e : Effect). e.hart < hart_count work) (filter_map made_by lines) are.members) made in
    let within : e.hart < length harts = omega (arith, are.count) in
    let among = slice_get-get_or harts e.hart (record { initial = λ r. None; words = [] }) within in
    let stands = (are.words e.hart _ among).at_places e made refl in
    record { hart = _; index = stands.0; among = among; at = stands.1; word = stands.2 }

-- each byte of the windows is one of a made word
pub codes : (work : Work) (lines : List Line) (harts : List HartImage) → AreImagesOf work lines harts
    → (a : ℕ) → memory_of (code_stretches 0 harts) a ≡ filled (code_pieces lines) a
codes work lines harts are a = by (byte_in (code_pieces lines) a) refl
  where
    by : (o : Option ℕ) → o ≡ byte_in (code_pieces lines) a → memory_of (code_stretches 0 harts) a ≡ unwrap_or o 0
    by (Some b) is =
        let of : IsOfWord (filter_map made_by lines) a b = of_word (filter_map made_by lines) a b (sym is) in
        let at : IsPlaced harts of.effect = placed work lines harts are of.effect of.among in
        window_word 0 harts of.effect.hart at.index (effect_word of.effect) of.place a at.hart are.room at.among at.word of.small (omega (arith, of.at, at.at))
        ∙ sym of.byte
    by None is = window_none 0 harts a beside
      where
        beside : IsBesideWords 0 harts a
        beside k index word i among has j small at =
            let made = (are.words k i among).no_others index word has in
            in_pieces (filter_map made_by lines) made.0 j a made.1 small (omega (arith, made.3, at)) (sym is)

code_from : (work : Work) (lines : List Line) (harts : List HartImage) → AreImagesOf work lines harts → LieFrom code_windows_at (code_pieces lines)
code_from work lines harts are a below = by (byte_in (code_pieces lines) a) refl
  where
    by : (o : Option ℕ) → o ≡ byte_in (code_pieces lines) a → o ≡ None
    by None is = refl
    by (Some b) is =
        let of : IsOfWord (filter_map made_by lines) a b = of_word (filter_map made_by lines) a b (sym is) in
        let at : IsPlaced harts of.effect = placed work lines harts are of.effect of.among in
        absurd (omega (arith, of.at, at.at, below))

-- ---- the boot blocks and the handlers

abbrev pub Table : Type 0
Table = ℕ → ℕ → Option ℕ

pub boot_laid : (work : Work) (initial : Table) (h : ℕ) → AreLaid (boot_block_at h) (boot_pieces work initial h) (boot_block_at (h + 1))
boot_laid work initial h =
    let block : length (word_bytes boot_block) ≡ 252 = refl in
    let csrs : length (value_bytes (boot_csrs (plan_of work h) h)) ≡ 120 = refl in
    let registers : length (value_bytes (boot_registers (initial h))) ≡ 248 = refl in
    (omega arith, (omega (arith, block), (omega (arith, csrs), omega (arith, registers))))

pub boots_laid : (work : Work) (initial : Table) (h n : ℕ) → AreLaid (boot_block_at h) (boot_pieces_from work initial h n) (boot_block_at (h + n))
boots_laid work initial h zero = omega arith
boots_laid work initial h (suc n) =
    laid-append (boot_block_at h) (boot_pieces work initial h) (boot_block_at (h + 1)) (boot_pieces_from work initial (h + 1) n) (boot_block_at (h + suc n))
    (boot_laid work initial h)
    (laid_within (boot_block_at (h + 1)) (boot_block_at (h + 1)) (boot_pieces_from work initial (h + 1) n) (boot_block_at (h + 1 + n)) (boot_block_at (h + suc n))
    (boots_laid work initial (h + 1) n) (omega arith) (omega arith))

-- the pages that the startup takes
abbrev pub startup_size : Work → ℕ
startup_size work = 0x1000 + hart_count work * 0x1000

pub startup_laid : (work : Work) (initial : Table) → AreLaid dispatcher_at (startup_pieces work initial) (dispatcher_at + startup_size work)
startup_laid work initial =
    let words : length (word_bytes (dispatcher (hart_count work))) ≡ 32 = refl in (
      omega arith,
      laid_within (boot_block_at 0) (dispatcher_at + length (word_bytes (dispatcher (hart_count work)))) (boot_pieces_from work initial 0 (hart_count work))
          (boot_block_at (0 + hart_count work)) (dispatcher_at + startup_size work)
          (boots_laid work initial 0 (hart_count work)) (omega (arith, words)) (omega arith),
    )

pub handlers_laid : AreLaid m_handler_at handler_pieces (m_handler_at + 0x2000)
handlers_laid = (lit≤ tt, (lit≤ tt, lit≤ tt))

-- what the harts start with counts for these alone
boots_same : (work : Work) (f g : Table) (h n : ℕ) → ((k : ℕ) → k < h + n → f k ≡ g k)
    → boot_pieces_from work f h n ≡ boot_pieces_from work g h n
boots_same work f g h zero same = refl
boots_same work f g h (suc n) same =
    ap (λ (q : ℕ → Option ℕ). boot_pieces work (λ k. q) h ++ boot_pieces_from work f (h + 1) n) (same h (omega arith))
    ∙ ap (λ ps. boot_pieces work g h ++ ps) (boots_same work f g (h + 1) n (λ k below. same k (omega arith)))

startup_same : (work : Work) (lines : List Line) (harts : List HartImage) → AreImagesOf work lines harts
    → startup_pieces work (initial_in harts) ≡ startup_pieces work (starting lines)
startup_same work lines harts are =
    ap (λ ps. record { at = dispatcher_at; bytes = word_bytes (dispatcher (hart_count work)) } ∷ ps)
    (boots_same work (initial_in harts) (starting lines) 0 (hart_count work) (λ k below. λ i. λ r. are.initial k r (omega arith) i))

-- ---- all of them

pub behind_startup : (work : Work) (lines : List Line) (harts : List HartImage) → AreImagesOf work lines harts → LieFrom m_handler_at (handler_pieces ++ code_pieces lines)
behind_startup work lines harts are =
    lie_append m_handler_at handler_pieces (code_pieces lines) (none_below m_handler_at handler_pieces (m_handler_at + 0x2000) handlers_laid)
    (lie_within code_windows_at m_handler_at (code_pieces lines) (code_from work lines harts are) (lit≤ tt))

pub behind_handlers : (work : Work) (lines : List Line) (harts : List HartImage) → AreImagesOf work lines harts → LieFrom (m_handler_at + 0x2000) (code_pieces lines)
behind_handlers work lines harts are = lie_within code_windows_at (m_handler_at + 0x2000) (code_pieces lines) (code_from work lines harts are) (lit≤ tt)

pub program_is_image : (work : Work) (lines : List Line) (harts : List HartImage) → AreImagesOf work lines harts → hart_count work ≤ most_harts
    → (a : ℕ) → memory_of (program work harts) a ≡ image work lines a
program_is_image work lines harts are most a =
    let handlers : Stretch = record { at = m_handler_at; bytes = laid m_handler_at handler_pieces; size = 0x2000; flags = 5 } in
    let second : memory_of (handlers ∷ code_stretches 0 harts) a ≡ filled (handler_pieces ++ code_pieces lines) a =
    memory_joins m_handler_at 0x2000 5 handler_pieces (code_stretches 0 harts) (code_pieces lines) a handlers_laid (behind_handlers work lines harts are) (codes work lines harts are a) in
    let behind : LieFrom (dispatcher_at + startup_size work) (handler_pieces ++ code_pieces lines) =
    lie_within m_handler_at (dispatcher_at + startup_size work) (handler_pieces ++ code_pieces lines) (behind_startup work lines harts are) (omega arith) in
    memory_joins dispatcher_at (startup_size work) 5 (startup_pieces work (initial_in harts)) (handlers ∷ code_stretches 0 harts) (handler_pieces ++ code_pieces lines) a
    (startup_laid work (initial_in harts)) behind second
    ∙ ap (λ ps. filled (ps ++ (handler_pieces ++ code_pieces lines)) a) (startup_same work lines harts are)
    ∙ ap (λ ps. filled ps a) (sym (append_assoc (startup_pieces work (starting lines)) handler_pieces (code_pieces lines)))
