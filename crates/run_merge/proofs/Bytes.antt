-- The image is made of bytes.
use Rattle.std.proofs.Common.{ℕ, zero, suc, ◌+◌, ◌-◌, ◌<◌, ◌&&◌, Bool, true, false, cond, leb, ltb, List, [], ◌∷◌, ◌++◌, length, get_or, map, Option, Some, None, arith}
use Rattle.std.specs.Prelude.{slice_index, unwrap_or}
use Rattle.std.specs.Int.{w32, w64, to_le_bytes}
use Rattle.std.specs.List.{AllByRecursion, filter_map}
use Rattle.std.specs.Option.{option_or}
use Rattle.ram_image.specs.Pieces.{Piece, byte_in}
use Rattle.region_plan.specs.Plan.{Work, hart_count, plan_of}
use Rattle.rv_fields.specs.Effect.{Effect}
use Rattle.rv_fields.specs.declared.mode.Mode.TheVariants.{S, M}
use Rattle.trace_text.specs.Lines.{Line, starting}
use Rattle.boot_words.specs.Boot.{dispatcher, boot_block, boot_csrs, boot_registers, handler}
use Rattle.hart_task.specs.Blocks.{made_by}
use Rattle.run_merge.specs.Image.{boot_pieces_from, code_pieces, effect_word, handler_pieces, image, image_pieces, startup_pieces, value_bytes, word_bytes, word_piece}

abbrev AreBytes : List ℕ → Type 0
AreBytes bs = AllByRecursion (λ b. b < 256) bs

both : (xs ys : List ℕ) → AreBytes xs → AreBytes ys → AreBytes (xs ++ ys)
both [] ys all more = more
both (x ∷ xs) ys all more = (all.0, both xs ys all.1 more)

word_are : (w : ℕ) → AreBytes (to_le_bytes w32 w)
word_are w = (omega arith, (omega arith, (omega arith, (omega arith, tt))))

value_are : (w : ℕ) → AreBytes (to_le_bytes w64 w)
value_are w = (omega arith, (omega arith, (omega arith, (omega arith, (omega arith, (omega arith, (omega arith, (omega arith, tt))))))))

words_are : (ws : List ℕ) → AreBytes (word_bytes ws)
words_are [] = tt
words_are (w ∷ ws) = both (to_le_bytes w32 w) (word_bytes ws) (word_are w) (words_are ws)

values_are : (ws : List ℕ) → AreBytes (value_bytes ws)
values_are [] = tt
values_are (w ∷ ws) = both (to_le_bytes w64 w) (value_bytes ws) (value_are w) (values_are ws)

abbrev HoldBytes : List Piece → Type 0
HoldBytes ps = AllByRecursion (λ (p : Piece). AreBytes p.bytes) ps

both_hold : (ps qs : List Piece) → HoldBytes ps → HoldBytes qs → HoldBytes (ps ++ qs)
both_hold [] qs all more = more
both_hold (p ∷ ps) qs all more = (all.0, both_hold ps qs all.1 more)

boots_hold : (work : Work) (initial : ℕ → ℕ → Option ℕ) (h n : ℕ) → HoldBytes (boot_pieces_from work initial h n)
boots_hold work initial h zero = tt
boots_hold work initial h (suc n) =
    (words_are boot_block, (values_are (boot_csrs (plan_of work h) h), (values_are (boot_registers (initial h)), boots_hold work initial (h + 1) n)))

codes_hold : (es : List Effect) → HoldBytes (map word_piece es)
codes_hold [] = tt
codes_hold (e ∷ es) = (word_are (effect_word e), codes_hold es)

pieces_hold : (work : Work) (lines : List Line) → HoldBytes (image_pieces work lines)
pieces_hold work lines =
    both_hold (startup_pieces work (starting lines) ++ handler_pieces) (code_pieces lines)
    (both_hold (startup_pieces work (starting lines)) handler_pieces (words_are (dispatcher (hart_count work)), boots_hold work (starting lines) 0 (hart_count work))
    (words_are (handler M), (words_are (handler S), tt)))
    (codes_hold (filter_map made_by lines))

at_small : (bs : List ℕ) (i : ℕ) → AreBytes bs → get_or bs i 0 < 256
at_small [] i all = omega arith
at_small (b ∷ bs) zero all = all.0
at_small (b ∷ bs) (suc i) all = at_small bs i all.1

in_small : (ps : List Piece) (a : ℕ) → HoldBytes ps → unwrap_or (byte_in ps a) 0 < 256
in_small [] a all = omega arith
in_small (p ∷ ps) a all = of (leb p.at a && ltb a (p.at + length p.bytes)) (in_small ps a all.1)
  where
    of : (t : Bool) → unwrap_or (byte_in ps a) 0 < 256 → unwrap_or (option_or (cond t (Some (slice_index p.bytes (a - p.at))) None) (byte_in ps a)) 0 < 256
    of true rest = at_small p.bytes (a - p.at) all.0
    of false rest = rest

pub image_small : (work : Work) (lines : List Line) (a : ℕ) → image work lines a < 256
image_small work lines a = in_small (image_pieces work lines) a (pieces_hold work lines)
