-- Memory that has the bytes of the image holds the boot of each hart.
use Rattle.std.proofs.Common.{ℕ, zero, suc, ◌+◌, ◌-◌, ◌^◌, ◌<◌, ◌≤◌, ◌≡◌, true, List, [], ◌∷◌, ◌++◌, length, get_or, map, Some, refl, ap, ◌∙◌, arith, lit≤, length-append}
use Rattle.std.specs.Prelude.{slice_get}
use Rattle.std.specs.Int.{w32, w64, to_le_bytes}
use Rattle.std.specs.List.{AllByRecursion, flat_map, range_with_len}
use Rattle.std.proofs.lemmas.Bool.Decides.{nat_tests}
use Rattle.std.proofs.lemmas.List.{get_or_append_left, get_or-append_right}
use Rattle.rv_fields.specs.Memory.{Bytes, in_ram, ram_end, ram_start, told}
use Rattle.rv_fields.specs.Play.{most_harts}
use Rattle.rv_fields.proofs.Told.{told_value, told_word}
use Rattle.trace_text.specs.Lines.{Line, starting}
use Rattle.region_plan.specs.Plan.{Work, hart_count, plan_of}
use Rattle.boot_words.specs.Boot.{boot_block, boot_csr, boot_csr_list, boot_csrs, boot_register, boot_registers, dispatcher}
use Rattle.boot_words.specs.Booting.{AreLoadable, HoldsBoot, HoldsEach, Loads}
use Rattle.boot_words.specs.Layout.{boot_block_at, boot_csrs_at, boot_registers_at, dispatcher_at}
use Rattle.boot_words.proofs.Spelt.{block_small, dispatcher_small}
use Rattle.ram_image.specs.Pieces.{Piece, byte_in}
use Rattle.run_merge.specs.Image.{boot_pieces, boot_pieces_from, code_pieces, handler_pieces, image_pieces, startup_pieces, value_bytes, word_bytes}
use Rattle.run_merge.proofs.Imaged.{boot_laid}
use Rattle.run_merge.proofs.Placed.{AreLaid, byte_before, byte_behind, none_below, piece_inside}
use Rattle.run_merge.proofs.Stood.{Holds, alone, boot_stands}

-- ---- numbers by their bytes

-- memory has the bytes from the address on
abbrev BytesAt : Bytes → ℕ → List ℕ → Type 0
BytesAt memory at bytes = (i : ℕ) → i < length bytes → memory (at + i) ≡ Some (get_or bytes i 0)

-- What makes memory tell a number of so many bytes: these are its bytes, and it fits.
record Tells (size : ℕ) (bytes : ℕ → List ℕ) (bound : ℕ) : Type 0 where
  long : (n : ℕ) → length (bytes n) ≡ size
  tells : (memory : Bytes) (at n : ℕ) → in_ram at size ≡ true → n < bound → BytesAt memory at (bytes n) → told memory at size ≡ Some (Some n)

words_tell : Tells 4 (to_le_bytes w32) (2 ^ 32)
words_tell = record { long = λ n. refl; tells = told_word }

values_tell : Tells 8 (to_le_bytes w64) (2 ^ 64)
values_tell = record { long = λ n. refl; tells = told_value }

-- they are told one behind another
each_told : (size : ℕ) (bytes : ℕ → List ℕ) (bound : ℕ) → Tells size bytes bound → (memory : Bytes) (at : ℕ) (ns : List ℕ)
    → ram_start ≤ at → at + length (flat_map bytes ns) ≤ ram_end → AllByRecursion (λ n. n < bound) ns → BytesAt memory at (flat_map bytes ns) → HoldsEach memory size at ns
each_told size bytes bound way memory at [] low high small has = tt
each_told size bytes bound way memory at (n ∷ ns) low high small has =
    let long = way.long n in
    let all : length (bytes n ++ flat_map bytes ns) ≡ length (bytes n) + length (flat_map bytes ns) = length-append (bytes n) (flat_map bytes ns) in
    let inside : in_ram at size ≡ true = grind (arith, nat_tests, long, all, high) in (
      way.tells memory at n inside small.0 (λ i below. has i (omega (arith, below, all)) ∙ ap Some (get_or_append_left (bytes n) (flat_map bytes ns) 0 i below)),
      each_told size bytes bound way memory (at + size) ns (omega arith) (omega (arith, long, all, high)) small.1 (λ i below.
          let place : at + size + i ≡ at + (size + i) = omega arith in
          let index : size + i - size ≡ i = omega arith in
          ap memory place ∙ has (size + i) (omega (arith, below, all, long))
          ∙ ap Some (get_or-append_right (bytes n) (flat_map bytes ns) size (size + i) 0 long (omega arith) ∙ ap (λ k. get_or (flat_map bytes ns) k 0) index)),
    )

-- ---- bytes of pieces

-- a piece among others that are laid has its bytes
laid_bytes : (from : ℕ) (ps : List Piece) (to n i : ℕ) (p : Piece) → AreLaid from ps to → slice_get ps n ≡ Some p → i < length p.bytes
    → byte_in ps (p.at + i) ≡ Some (get_or p.bytes i 0)
laid_bytes from [] to n i p laid is below = absurd cc
laid_bytes from (q ∷ qs) to zero i p laid is below =
    let same : q ≡ p = cc in
    let place : p.at + i - p.at ≡ i = omega arith in
    ap (λ r. byte_in (r ∷ qs) (p.at + i)) same
    ∙ byte_before (p ∷ []) qs (p.at + i) (get_or p.bytes i 0)
    (alone p (p.at + i) (get_or p.bytes i 0) (piece_inside p (p.at + i) (omega arith) (omega (arith, below)) ∙ ap (λ k. Some (get_or p.bytes k 0)) place))
laid_bytes from (q ∷ qs) to (suc n) i p laid is below =
    byte_behind from (q ∷ []) (q.at + length q.bytes) qs (p.at + i) (get_or p.bytes i 0) (laid.0, omega arith) (none_below (q.at + length q.bytes) qs to laid.1)
    (laid_bytes (q.at + length q.bytes) qs to n i p laid.1 is below)

-- ---- the boot of a hart

-- what a hart of the job loads
abbrev pub loads_of : Work → List Line → ℕ → Loads
loads_of work lines h = record { csrs = boot_csr (plan_of work h) h; x = boot_register (starting lines h) }

small_map : {A : Type 0} (f : A → ℕ) (bound : ℕ) (xs : List A) → ((x : A) → f x < bound) → AllByRecursion (λ n. n < bound) (map f xs)
small_map f bound [] small = tt
small_map f bound (x ∷ xs) small = (small x, small_map f bound xs small)

pub boot_held : (work : Work) (lines : List Line) (memory : Bytes) (h : ℕ) → h < hart_count work → hart_count work ≤ most_harts → Holds memory (image_pieces work lines)
    → AreLoadable (loads_of work lines h) → HoldsBoot (hart_count work) h (loads_of work lines h) memory
boot_held work lines memory h member few holds ok =
    let words : length (word_bytes (dispatcher (hart_count work))) ≡ 32 = refl in
    let block : length (word_bytes boot_block) ≡ 252 = refl in
    let csrs : length (value_bytes (boot_csrs (plan_of work h) h)) ≡ 120 = refl in
    let registers : length (value_bytes (boot_registers (starting lines h))) ≡ 248 = refl in
    record {
      dispatcher = each_told 4 (to_le_bytes w32) (2 ^ 32) words_tell memory dispatcher_at (dispatcher (hart_count work)) (lit≤ tt) (omega (arith, words))
          (dispatcher_small (hart_count work) few) dispatcher_bytes;
      block = each_told 4 (to_le_bytes w32) (2 ^ 32) words_tell memory (boot_block_at h) boot_block (omega arith) (omega (arith, block, member, few)) block_small
          (own 0 (record { at = boot_block_at h; bytes = word_bytes boot_block }) refl);
      csrs = each_told 8 (to_le_bytes w64) (2 ^ 64) values_tell memory (boot_csrs_at h) (boot_csrs (plan_of work h) h) (omega arith) (omega (arith, csrs, member, few))
          (small_map (boot_csr (plan_of work h) h) (2 ^ 64) boot_csr_list ok.csrs)
          (own 1 (record { at = boot_csrs_at h; bytes = value_bytes (boot_csrs (plan_of work h) h) }) refl);
      registers = each_told 8 (to_le_bytes w64) (2 ^ 64) values_tell memory (boot_registers_at h) (boot_registers (starting lines h)) (omega arith) (omega (arith, registers, member, few))
          (small_map (boot_register (starting lines h)) (2 ^ 64) (range_with_len 1 31) ok.x)
          (own 2 (record { at = boot_registers_at h; bytes = value_bytes (boot_registers (starting lines h)) }) refl);
    }
  where
    own : (n : ℕ) (p : Piece) → slice_get (boot_pieces work (starting lines) h) n ≡ Some p → BytesAt memory p.at p.bytes
    own n p is i below = boot_stands work lines memory h (p.at + i) (get_or p.bytes i 0) member holds
        (laid_bytes (boot_block_at h) (boot_pieces work (starting lines) h) (boot_block_at (h + 1)) n i p (boot_laid work (starting lines) h) is below)

    dispatcher_bytes : BytesAt memory dispatcher_at (word_bytes (dispatcher (hart_count work)))
    dispatcher_bytes i below =
        let d : Piece = record { at = dispatcher_at; bytes = word_bytes (dispatcher (hart_count work)) } in
        let a : ℕ = dispatcher_at + i in
        let b : ℕ = get_or d.bytes i 0 in
        let first : byte_in (d ∷ []) a ≡ Some b = laid_bytes dispatcher_at (d ∷ []) (dispatcher_at + 32) 0 i d (lit≤ tt, lit≤ tt) refl below in
        holds a b (byte_before (startup_pieces work (starting lines) ++ handler_pieces) (code_pieces lines) a b
        (byte_before (startup_pieces work (starting lines)) handler_pieces a b
        (byte_before (d ∷ []) (boot_pieces_from work (starting lines) 0 (hart_count work)) a b first)))
