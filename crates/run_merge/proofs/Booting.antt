-- The bytes of the dispatcher's segment, boot block by boot block.
use Rattle.std.proofs.Common.{ℕ, suc, ◌+◌, ◌-◌, ◌≤◌, ◌≡◌, Option, List, [], ◌∷◌, ◌++◌, length, replicate, refl, sym, ap, ◌∙◌, arith, append_assoc, append-nil, length-append}
use Rattle.ram_image.specs.Pieces.{Piece, laid}
use Rattle.region_plan.specs.Plan.{Work, plan_of}
use Rattle.boot_words.specs.Boot.{boot_block, boot_csrs, boot_registers}
use Rattle.boot_words.specs.Layout.{boot_block_at, boot_csrs_at, boot_registers_at, dispatcher_at}
use Rattle.run_merge.specs.Image.{boot_pieces, boot_pieces_from, value_bytes, word_bytes}
use Rattle.run_merge.proofs.Imaged.{Table, boot_laid}
use Rattle.run_merge.proofs.Laying.{LaysValues, LaysWords, laid_behind, laid_next}
use Rattle.run_merge.proofs.Placed.{AreLaid, laid_within, length-laid}

-- a boot block and its values, laid one after another
pub boot_bytes : (work : Work) (h : ℕ) (initial : ℕ → Option ℕ) (old b1 b2 b3 block csrs x : List ℕ) (n1 n2 n3 : ℕ)
    → dispatcher_at + length old ≤ boot_block_at h
    → dispatcher_at + n1 ≡ boot_block_at h → dispatcher_at + n2 ≡ boot_csrs_at h → dispatcher_at + n3 ≡ boot_registers_at h
    → block ≡ boot_block → csrs ≡ boot_csrs (plan_of work h) h → x ≡ boot_registers initial
    → LaysWords old n1 block b1 → LaysValues b1 n2 csrs b2 → LaysValues b2 n3 x b3
    → b3 ≡ old ++ laid (dispatcher_at + length old) (boot_pieces work (λ k. initial) h)
boot_bytes work h initial old b1 b2 b3 block csrs x n1 n2 n3 room at1 at2 at3 is1 is2 is3 l1 l2 l3 =
    let p1 : Piece = record { at = boot_block_at h; bytes = word_bytes boot_block } in
    let p2 : Piece = record { at = boot_csrs_at h; bytes = value_bytes (boot_csrs (plan_of work h) h) } in
    let p3 : Piece = record { at = boot_registers_at h; bytes = value_bytes (boot_registers initial) } in
    let from : ℕ = dispatcher_at + length old in
    let length1 : length p1.bytes ≡ 252 = refl in
    let length2 : length p2.bytes ≡ 120 = refl in
    let none : AreLaid from [] from = omega arith in
    let one : AreLaid from (p1 ∷ []) (boot_csrs_at h) = (room, omega (arith, length1)) in
    let two : AreLaid from (p1 ∷ p2 ∷ []) (boot_registers_at h) = (room, (omega (arith, length1), omega (arith, length2))) in
    let first : b1 ≡ old ++ laid from (p1 ∷ []) =
    laid_next dispatcher_at old [] from p1 n1 old b1 none at1 (sym (append-nil old))
    (l1 ∙ ap (λ ws. old ++ (replicate (n1 - length old) 0 ++ word_bytes ws)) is1) in
    let second : b2 ≡ old ++ laid from (p1 ∷ p2 ∷ []) =
    laid_next dispatcher_at old (p1 ∷ []) (boot_csrs_at h) p2 n2 b1 b2 one at2 first
    (l2 ∙ ap (λ vs. b1 ++ (replicate (n2 - length b1) 0 ++ value_bytes vs)) is2) in
    laid_next dispatcher_at old (p1 ∷ p2 ∷ []) (boot_registers_at h) p3 n3 b2 b3 two at3 second
    (l3 ∙ ap (λ vs. b2 ++ (replicate (n3 - length b2) 0 ++ value_bytes vs)) is3)

-- a boot block more, before those of the harts that are left
pub boot_next : (work : Work) (initial : Table) (h left : ℕ) (old new : List ℕ) → dispatcher_at + length old ≤ boot_block_at h
    → new ≡ old ++ laid (dispatcher_at + length old) (boot_pieces work initial h)
    → record {
      place : dispatcher_at + length new ≤ boot_block_at (h + 1);
      bytes : new ++ laid (dispatcher_at + length new) (boot_pieces_from work initial (h + 1) left)
          ≡ old ++ laid (dispatcher_at + length old) (boot_pieces_from work initial h (suc left));
    }
boot_next work initial h left old new room is =
    let from : ℕ = dispatcher_at + length old in
    let block : List Piece = boot_pieces work initial h in
    let others : List Piece = boot_pieces_from work initial (h + 1) left in
    let laid_here : AreLaid from block (boot_block_at (h + 1)) =
    laid_within (boot_block_at h) from block (boot_block_at (h + 1)) (boot_block_at (h + 1)) (boot_laid work initial h) room (omega arith) in
    let long : length new ≡ length old + length (laid from block) = ap length is ∙ length-append old (laid from block) in
    let next : dispatcher_at + length new ≡ from + length (laid from block) = omega (arith, long) in
    let tail : List ℕ = laid (from + length (laid from block)) others in
    record {
      place = omega (arith, long, length-laid from block (boot_block_at (h + 1)) laid_here);
      bytes = ap (λ n. new ++ laid n others) next
          ∙ ap (λ bs. bs ++ tail) is
          ∙ append_assoc old (laid from block) tail
          ∙ ap (λ bs. old ++ bs) (sym (laid_behind from block others (boot_block_at (h + 1)) laid_here));
    }
