-- Bytes that are laid piece by piece.
use Rattle.std.proofs.Common.{ℕ, ◌+◌, ◌-◌, ◌≡◌, List, [], ◌∷◌, ◌++◌, length, replicate, refl, sym, ap, ◌∙◌, arith, lit≤, append_assoc, append-nil, length-append}
use Rattle.std.proofs.lemmas.List.{length-replicate}
use Rattle.rv_fields.specs.declared.mode.Mode.TheVariants.{S, M}
use Rattle.ram_image.specs.Pieces.{Piece, laid}
use Rattle.boot_words.specs.Boot.{handler}
use Rattle.boot_words.specs.Layout.{m_handler_at, s_handler_at}
use Rattle.run_merge.specs.Image.{handler_pieces, value_bytes, word_bytes}
use Rattle.run_merge.proofs.Placed.{AreLaid}

-- pieces behind others
pub laid_behind : (from : ℕ) (ps qs : List Piece) (to : ℕ) → AreLaid from ps to
    → laid from (ps ++ qs) ≡ laid from ps ++ laid (from + length (laid from ps)) qs
laid_behind from [] qs to h = ap (λ n. laid n qs) (omega arith)
laid_behind from (p ∷ ps) qs to h =
    let next : ℕ = p.at + length p.bytes in
    let rest : List ℕ = laid next ps in
    let zeros : List ℕ = replicate (p.at - from) 0 in
    let long : next + length rest ≡ from + length (zeros ++ (p.bytes ++ rest)) =
    omega (arith, h.0, length-append zeros (p.bytes ++ rest), length-append p.bytes rest, length-replicate {A = ℕ} (p.at - from) 0) in
    let tail : List ℕ = laid (from + length (zeros ++ (p.bytes ++ rest))) qs in
    ap (λ bs. zeros ++ (p.bytes ++ bs)) (laid_behind next ps qs to h.1 ∙ ap (λ n. rest ++ laid n qs) long)
    ∙ ap (λ bs. zeros ++ bs) (sym (append_assoc p.bytes rest tail))
    ∙ sym (append_assoc zeros (p.bytes ++ rest) tail)

-- a piece more behind bytes and pieces, from a place on that counts from the base
pub laid_next : (base : ℕ) (first : List ℕ) (ps : List Piece) (to : ℕ) (p : Piece) (place : ℕ) (old new : List ℕ)
    → AreLaid (base + length first) ps to → base + place ≡ p.at → old ≡ first ++ laid (base + length first) ps
    → new ≡ old ++ (replicate (place - length old) 0 ++ p.bytes) → new ≡ first ++ laid (base + length first) (ps ++ p ∷ [])
laid_next base first ps to p place old new h at is e =
    let from : ℕ = base + length first in
    let long : length old ≡ length first + length (laid from ps) = ap length is ∙ length-append first (laid from ps) in
    let same : place - length old ≡ p.at - (from + length (laid from ps)) = omega (arith, at, long) in
    let zeros : List ℕ = replicate (p.at - (from + length (laid from ps))) 0 in
    e ∙ ap (λ n. old ++ (replicate n 0 ++ p.bytes)) same
    ∙ ap (λ bs. bs ++ (zeros ++ p.bytes)) is
    ∙ append_assoc first (laid from ps) (zeros ++ p.bytes)
    ∙ ap (λ bs. first ++ (laid from ps ++ (zeros ++ bs))) (sym (append-nil p.bytes))
    ∙ ap (λ bs. first ++ bs) (sym (laid_behind from ps (p ∷ []) to h))

-- so many bytes, then zeros up to the place, then the words or the values
abbrev pub LaysWords : List ℕ → ℕ → List ℕ → List ℕ → Type 0
LaysWords old place words new = new ≡ old ++ (replicate (place - length old) 0 ++ word_bytes words)

abbrev pub LaysValues : List ℕ → ℕ → List ℕ → List ℕ → Type 0
LaysValues old place values new = new ≡ old ++ (replicate (place - length old) 0 ++ value_bytes values)

pub handler_bytes : (none b1 b2 h1 h2 : List ℕ) → none ≡ [] → h1 ≡ handler M → h2 ≡ handler S
    → LaysWords none 0 h1 b1 → LaysWords b1 0x1000 h2 b2 → b2 ≡ laid m_handler_at handler_pieces
handler_bytes none b1 b2 h1 h2 e is1 is2 l1 l2 =
    let p1 : Piece = record { at = m_handler_at; bytes = word_bytes (handler M) } in
    let p2 : Piece = record { at = s_handler_at; bytes = word_bytes (handler S) } in
    let first : b1 ≡ laid m_handler_at (p1 ∷ []) =
    laid_next m_handler_at [] [] m_handler_at p1 0 none b1 (lit≤ tt) refl e (l1 ∙ ap (λ ws. none ++ (replicate (0 - length none) 0 ++ word_bytes ws)) is1) in
    laid_next m_handler_at [] (p1 ∷ []) s_handler_at p2 0x1000 b1 b2 (lit≤ tt, lit≤ tt) refl first
    (l2 ∙ ap (λ ws. b1 ++ (replicate (0x1000 - length b1) 0 ++ word_bytes ws)) is2)
