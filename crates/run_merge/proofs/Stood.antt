-- What stands in memory that has the bytes of the image: the made words, the handlers, and what the registers start with.
use Rattle.std.proofs.Common.{ℕ, zero, suc, ◌+◌, ◌-◌, ◌*◌, ◌/◌, ◌%◌, ◌^◌, ◌<◌, ◌≤◌, ◌≡◌, true, List, [], ◌∷◌, ◌++◌, length, get_or, Option, Some, None, inl, inr, refl, sym, ap, subst, ◌∙◌, arith, lit≤}
use Rattle.std.specs.Prelude.{slice_get}
use Rattle.std.specs.Int.{w32, to_le_bytes}
use Rattle.std.specs.List.{AllByRecursion, Contains, filter_map}
use Rattle.std.proofs.lemmas.Bool.{cases_lt}
use Rattle.std.proofs.lemmas.Bool.Decides.{nat_tests}
use Rattle.std.proofs.lemmas.List.Elements.{Contains-get_or, recursion_from_All}
use Rattle.std.proofs.lemmas.Option.{slice_get_within}
use Rattle.rv_fields.specs.declared.mode.Mode.TheVariants.{S, M}
use Rattle.rv_fields.specs.Effect.{Effect}
use Rattle.rv_fields.specs.Memory.{Bytes, in_ram, ram_end, ram_start, told}
use Rattle.rv_fields.specs.Play.{most_harts}
use Rattle.rv_fields.proofs.Told.{told_word}
use Rattle.trace_text.specs.Lines.{Line, starting}
use Rattle.region_plan.specs.Plan.{Work, hart_count}
use Rattle.boot_words.specs.Boot.{dispatcher, handler}
use Rattle.boot_words.specs.Layout.{boot_block_at, dispatcher_at, m_handler_at, s_handler_at}
use Rattle.ram_image.specs.Pieces.{Piece, byte_in, piece_byte}
use Rattle.hart_task.specs.Blocks.{made_by}
use Rattle.run_merge.specs.Image.{AreImagesOf, HartImage, boot_pieces, boot_pieces_from, code_pieces, effect_pa, effect_word, handler_pieces, image_pieces, startup_pieces, word_bytes}
use Rattle.run_merge.proofs.Imaged.{IsPlaced, Table, behind_handlers, boot_laid, boots_laid, handlers_laid, placed, startup_laid, startup_size}
use Rattle.run_merge.proofs.Placed.{AreLaid, byte_before, byte_behind, laid-append, laid_within, none_below, piece_inside}
use Rattle.run_merge.proofs.Windows.{HaveRoom, IsOfWord, in_pieces, length-word_bytes, of_word, word_byte}

-- memory has each byte of the pieces
abbrev pub Holds : Bytes → List Piece → Type 0
Holds memory ps = (a b : ℕ) → byte_in ps a ≡ Some b → memory a ≡ Some b

-- the word stands at the address, its lowest byte first
abbrev pub WordAt : Bytes → ℕ → ℕ → Type 0
WordAt memory at word = (j : ℕ) → j < 4 → memory (at + j) ≡ Some (word / 256 ^ j % 256)

byte_of_word : (word j : ℕ) → j < 4 → get_or (to_le_bytes w32 word) j 0 ≡ word / 256 ^ j % 256
byte_of_word word zero small = omega arith
byte_of_word word (suc zero) small = refl
byte_of_word word (suc (suc zero)) small = refl
byte_of_word word (suc (suc (suc zero))) small = refl
byte_of_word word (suc (suc (suc (suc j)))) small = absurd (omega arith)

-- memory in which a word stands tells it
pub word_told : (memory : Bytes) (at word : ℕ) → in_ram at 4 ≡ true → word < 2 ^ 32 → WordAt memory at word → told memory at 4 ≡ Some (Some word)
word_told memory at word in_it fits stands = told_word memory at word in_it fits (λ j small. stands j small ∙ ap Some (sym (byte_of_word word j small)))

-- ---- the made words

-- two words at one address are the same
same_word : (harts : List HartImage) (e d : Effect) (j k : ℕ) → HaveRoom harts
    → IsPlaced harts e → IsPlaced harts d → j < 4 → k < 4 → effect_pa e + j ≡ effect_pa d + k → (effect_word d ≡ effect_word e) × (k ≡ j)
same_word harts e d j k room at at' small small' same =
    let fits : at.index < 1024 = omega (arith, room e.hart at.hart at.among, slice_get_within at.hart.words at.index (effect_word e) at.word) in
    let fits' : at'.index < 1024 = omega (arith, room d.hart at'.hart at'.among, slice_get_within at'.hart.words at'.index (effect_word d) at'.word) in
    let hart : d.hart ≡ e.hart = omega (arith, at.at, at'.at) in
    let index : at'.index ≡ at.index = omega (arith, at.at, at'.at, hart) in
    let among : slice_get harts e.hart ≡ Some at'.hart = ap (slice_get harts) (sym hart) ∙ at'.among in
    let image : at'.hart ≡ at.hart = (let both : Some at'.hart ≡ Some at.hart = sym among ∙ at.among in cc) in
    let word : slice_get at.hart.words at.index ≡ Some (effect_word d) =
    ap (λ (i : HartImage). slice_get i.words at.index) (sym image) ∙ ap (slice_get at'.hart.words) (sym index) ∙ at'.word in
    let both : Some (effect_word d) ≡ Some (effect_word e) = sym word ∙ at.word in
    (cc, omega (arith, at.at, at'.at, hart, index))

code_byte : (work : Work) (lines : List Line) (harts : List HartImage) → AreImagesOf work lines harts
    → (e : Effect) → Contains (filter_map made_by lines) e → (j : ℕ) → j < 4
    → byte_in (code_pieces lines) (effect_pa e + j) ≡ Some (effect_word e / 256 ^ j % 256)
code_byte work lines harts are e made j small = by (byte_in (code_pieces lines) (effect_pa e + j)) refl
  where
    by : (o : Option ℕ) → o ≡ byte_in (code_pieces lines) (effect_pa e + j) → o ≡ Some (effect_word e / 256 ^ j % 256)
    by None is = absurd (in_pieces (filter_map made_by lines) e j (effect_pa e + j) made small refl (sym is))
    by (Some b) is =
        let of : IsOfWord (filter_map made_by lines) (effect_pa e + j) b = of_word (filter_map made_by lines) (effect_pa e + j) b (sym is) in
        let same = same_word harts e of.effect j of.place are.room (placed work lines harts are e made) (placed work lines harts are of.effect of.among) small of.small of.at in
        ap Some (of.byte ∙ byte_of_word (effect_word of.effect) of.place of.small
        ∙ ap (λ w. w / 256 ^ of.place % 256) same.0 ∙ ap (λ k. effect_word e / 256 ^ k % 256) same.1)

-- what comes before the code
front_laid : (work : Work) (initial : Table) → hart_count work ≤ most_harts → AreLaid dispatcher_at (startup_pieces work initial ++ handler_pieces) (m_handler_at + 0x2000)
front_laid work initial most =
    laid-append dispatcher_at (startup_pieces work initial) (dispatcher_at + startup_size work) handler_pieces (m_handler_at + 0x2000) (startup_laid work initial)
    (laid_within m_handler_at (dispatcher_at + startup_size work) handler_pieces (m_handler_at + 0x2000) (m_handler_at + 0x2000) handlers_laid (omega arith) (lit≤ tt))

-- each made word stands at its physical address
pub word_stands : (work : Work) (lines : List Line) (harts : List HartImage) (memory : Bytes) → AreImagesOf work lines harts → hart_count work ≤ most_harts
    → Holds memory (image_pieces work lines) → (e : Effect) → Contains (filter_map made_by lines) e → WordAt memory (effect_pa e) (effect_word e)
word_stands work lines harts memory are most holds e made = λ j small.
    holds (effect_pa e + j) (effect_word e / 256 ^ j % 256)
    (byte_behind dispatcher_at (startup_pieces work (starting lines) ++ handler_pieces) (m_handler_at + 0x2000) (code_pieces lines) (effect_pa e + j) (effect_word e / 256 ^ j % 256)
    (front_laid work (starting lines) most) (behind_handlers work lines harts are) (code_byte work lines harts are e made j small))

-- the same of all of them
pub words_stand : (work : Work) (lines : List Line) (harts : List HartImage) (memory : Bytes) → AreImagesOf work lines harts → hart_count work ≤ most_harts
    → Holds memory (image_pieces work lines) → AllByRecursion (λ (e : Effect). WordAt memory (effect_pa e) (effect_word e)) (filter_map made_by lines)
words_stand work lines harts memory are most holds =
    recursion_from_All (λ (e : Effect). WordAt memory (effect_pa e) (effect_word e)) (filter_map made_by lines)
    (λ k e within. word_stands work lines harts memory are most holds (get_or (filter_map made_by lines) k e) (Contains-get_or (filter_map made_by lines) k e within))

-- a made word lies in RAM
pub word_in_ram : (work : Work) (lines : List Line) (harts : List HartImage) → AreImagesOf work lines harts → hart_count work ≤ most_harts
    → (e : Effect) → Contains (filter_map made_by lines) e → in_ram (effect_pa e) 4 ≡ true
word_in_ram work lines harts are most e made =
    let at : IsPlaced harts e = placed work lines harts are e made in
    let fits : at.index < 1024 = omega (arith, are.room e.hart at.hart at.among, slice_get_within at.hart.words at.index (effect_word e) at.word) in
    let few : e.hart < most_harts = omega (arith, are.count, slice_get_within harts e.hart at.hart at.among) in
    let from : ram_start ≤ effect_pa e = omega (arith, at.at) in
    let to : effect_pa e + 4 ≤ ram_end = omega (arith, at.at) in
    grind (arith, nat_tests)

-- ---- the handlers

-- a byte of words that are one piece
words_byte : (at : ℕ) (words : List ℕ) (index word j : ℕ) → slice_get words index ≡ Some word → j < 4
    → piece_byte (record { at = at; bytes = word_bytes words }) (at + 4 * index + j) ≡ Some (word / 256 ^ j % 256)
words_byte at words index word j is small =
    let p : Piece = record { at = at; bytes = word_bytes words } in
    let within : 4 * index + j < length (word_bytes words) = omega (arith, length-word_bytes words, slice_get_within words index word is) in
    let place : at + 4 * index + j - at ≡ 4 * index + j = omega arith in
    piece_inside p (at + 4 * index + j) (omega arith) (omega arith)
    ∙ ap (λ i. Some (get_or (word_bytes words) i 0)) place
    ∙ ap Some (word_byte words index word j is small ∙ byte_of_word word j small)

pub alone : (p : Piece) (a b : ℕ) → piece_byte p a ≡ Some b → byte_in (p ∷ []) a ≡ Some b
alone p a b is = rw is refl

handlers_stand : (work : Work) (lines : List Line) (memory : Bytes) (a b : ℕ) → hart_count work ≤ most_harts → Holds memory (image_pieces work lines)
    → byte_in handler_pieces a ≡ Some b → memory a ≡ Some b
handlers_stand work lines memory a b most holds is =
    let behind : byte_in (startup_pieces work (starting lines) ++ handler_pieces) a ≡ Some b =
    byte_behind dispatcher_at (startup_pieces work (starting lines)) m_handler_at handler_pieces a b
    (laid_within dispatcher_at dispatcher_at (startup_pieces work (starting lines)) (dispatcher_at + startup_size work) m_handler_at (startup_laid work (starting lines)) (lit≤ tt) (omega arith))
    (none_below m_handler_at handler_pieces (m_handler_at + 0x2000) handlers_laid) is in
    holds a b (byte_before (startup_pieces work (starting lines) ++ handler_pieces) (code_pieces lines) a b behind)

-- the handler of each mode
abbrev m_piece : Piece
m_piece = record { at = m_handler_at; bytes = word_bytes (handler M) }

abbrev s_piece : Piece
s_piece = record { at = s_handler_at; bytes = word_bytes (handler S) }

pub m_handler_stands : (work : Work) (lines : List Line) (memory : Bytes) → hart_count work ≤ most_harts → Holds memory (image_pieces work lines)
    → (index word : ℕ) → slice_get (handler M) index ≡ Some word → WordAt memory (m_handler_at + 4 * index) word
m_handler_stands work lines memory most holds index word is = λ j small.
    handlers_stand work lines memory (m_handler_at + 4 * index + j) (word / 256 ^ j % 256) most holds
    (byte_before (m_piece ∷ []) (s_piece ∷ []) (m_handler_at + 4 * index + j) (word / 256 ^ j % 256)
    (alone m_piece (m_handler_at + 4 * index + j) (word / 256 ^ j % 256) (words_byte m_handler_at (handler M) index word j is small)))

pub s_handler_stands : (work : Work) (lines : List Line) (memory : Bytes) → hart_count work ≤ most_harts → Holds memory (image_pieces work lines)
    → (index word : ℕ) → slice_get (handler S) index ≡ Some word → WordAt memory (s_handler_at + 4 * index) word
s_handler_stands work lines memory most holds index word is = λ j small.
    handlers_stand work lines memory (s_handler_at + 4 * index + j) (word / 256 ^ j % 256) most holds
    (byte_behind m_handler_at (m_piece ∷ []) s_handler_at (s_piece ∷ []) (s_handler_at + 4 * index + j) (word / 256 ^ j % 256) (lit≤ tt, lit≤ tt)
    (none_below s_handler_at (s_piece ∷ []) (s_handler_at + 0x1000) (lit≤ tt, lit≤ tt))
    (alone s_piece (s_handler_at + 4 * index + j) (word / 256 ^ j % 256) (words_byte s_handler_at (handler S) index word j is small)))

-- ---- the boot blocks

-- a byte of a boot block among others
boots_byte : (work : Work) (initial : Table) (from n h a b : ℕ) → from ≤ h → h < from + n
    → byte_in (boot_pieces work initial h) a ≡ Some b → byte_in (boot_pieces_from work initial from n) a ≡ Some b
boots_byte work initial from zero h a b low high is = absurd (omega arith)
boots_byte work initial from (suc n) h a b low high is = elim (cases_lt from h) [
  | inl behind ↦
      byte_behind (boot_block_at from) (boot_pieces work initial from) (boot_block_at (from + 1)) (boot_pieces_from work initial (from + 1) n) a b
      (boot_laid work initial from)
      (none_below (boot_block_at (from + 1)) (boot_pieces_from work initial (from + 1) n) (boot_block_at (from + 1 + n)) (boots_laid work initial (from + 1) n))
      (boots_byte work initial (from + 1) n h a b (omega arith) (omega arith) is)
  | inr before ↦
      let here : h ≡ from = omega arith in
      byte_before (boot_pieces work initial from) (boot_pieces_from work initial (from + 1) n) a b
      (subst (λ k. byte_in (boot_pieces work initial k) a ≡ Some b) here is)
]

pub boot_stands : (work : Work) (lines : List Line) (memory : Bytes) (h a b : ℕ) → h < hart_count work → Holds memory (image_pieces work lines)
    → byte_in (boot_pieces work (starting lines) h) a ≡ Some b → memory a ≡ Some b
boot_stands work lines memory h a b small holds is =
    let d : Piece = record { at = dispatcher_at; bytes = word_bytes (dispatcher (hart_count work)) } in
    let length1 : length d.bytes ≡ 32 = refl in
    let boots : List Piece = boot_pieces_from work (starting lines) 0 (hart_count work) in
    let among : byte_in boots a ≡ Some b = boots_byte work (starting lines) 0 (hart_count work) h a b (omega arith) (omega arith) is in
    let startup : byte_in (startup_pieces work (starting lines)) a ≡ Some b =
    byte_behind dispatcher_at (d ∷ []) (boot_block_at 0) boots a b (lit≤ tt, omega (arith, length1))
    (none_below (boot_block_at 0) boots (boot_block_at (0 + hart_count work)) (boots_laid work (starting lines) 0 (hart_count work))) among in
    holds a b (byte_before (startup_pieces work (starting lines) ++ handler_pieces) (code_pieces lines) a b
    (byte_before (startup_pieces work (starting lines)) handler_pieces a b startup))
