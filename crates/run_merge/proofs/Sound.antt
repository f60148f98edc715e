-- Memory can hold the segments of a program: they lie in RAM, apart, and none has more bytes than addresses.
use Rattle.std.proofs.Common.{ℕ, suc, ◌+◌, ◌≤◌, ◌≡◌, true, List, [], ◌∷◌, length, map, refl, arith, lit≤}
use Rattle.std.specs.List.{list_all}
use Rattle.std.proofs.lemmas.Bool.Decides.{nat_tests}
use Rattle.std.proofs.lemmas.Bool.{and_from}
use Rattle.rv_fields.specs.Play.{most_harts}
use Rattle.region_plan.specs.Plan.{Work, hart_count}
use Rattle.boot_words.specs.Layout.{code_start, dispatcher_at, m_handler_at}
use Rattle.ram_image.specs.Pieces.{laid}
use Rattle.ram_image.specs.Segments.{Span, Stretch, are_apart, are_sound, has_room, is_apart, lies_in_ram, span_of}
use Rattle.ram_image.proofs.Spans.{apart_before, span_in_ram}
use Rattle.run_merge.specs.Image.{HartImage, code_stretches, handler_pieces, initial_in, program, startup_pieces, word_bytes}
use Rattle.run_merge.proofs.Imaged.{startup_laid, startup_size}
use Rattle.run_merge.proofs.Placed.{length-laid}
use Rattle.run_merge.proofs.Windows.{HaveRoom, length-word_bytes}

room_of : (s : Stretch) → length s.bytes ≤ s.size → has_room s ≡ true
room_of s h = grind (arith, nat_tests)

-- ---- the windows' pages

rooms : (h : ℕ) (is : List HartImage) → HaveRoom is → list_all has_room (code_stretches h is) ≡ true
rooms h [] room = refl
rooms h (i ∷ is) room =
    let s : Stretch = record { at = code_start h; bytes = word_bytes i.words; size = 0x1000; flags = 5 } in
    and_from (has_room s) (list_all has_room (code_stretches (h + 1) is))
    (room_of s (omega (arith, room 0 i refl, length-word_bytes i.words))) (rooms (h + 1) is (λ k. room (suc k)))

in_rams : (h : ℕ) (is : List HartImage) → h + length is ≤ most_harts → list_all (λ s. lies_in_ram (span_of s)) (code_stretches h is) ≡ true
in_rams h [] few = refl
in_rams h (i ∷ is) few =
    and_from (lies_in_ram (record { at = code_start h; size = 0x1000 })) (list_all (λ s. lies_in_ram (span_of s)) (code_stretches (h + 1) is))
    (span_in_ram (record { at = code_start h; size = 0x1000 }) (omega arith) (omega arith)) (in_rams (h + 1) is (omega arith))

-- what ends below a window lies apart from it and from all behind it
apart_from : (s : Span) (h : ℕ) (is : List HartImage) → s.at + s.size ≤ code_start h → list_all (is_apart s) (map span_of (code_stretches h is)) ≡ true
apart_from s h [] low = refl
apart_from s h (i ∷ is) low =
    and_from (is_apart s (record { at = code_start h; size = 0x1000 })) (list_all (is_apart s) (map span_of (code_stretches (h + 1) is)))
    (apart_before s (record { at = code_start h; size = 0x1000 }) low) (apart_from s (h + 1) is (omega arith))

aparts : (h : ℕ) (is : List HartImage) → are_apart (map span_of (code_stretches h is)) ≡ true
aparts h [] = refl
aparts h (i ∷ is) =
    and_from (list_all (is_apart (record { at = code_start h; size = 0x1000 })) (map span_of (code_stretches (h + 1) is))) (are_apart (map span_of (code_stretches (h + 1) is)))
    (apart_from (record { at = code_start h; size = 0x1000 }) (h + 1) is (omega arith)) (aparts (h + 1) is)

-- ---- all of them

pub program_sound : (work : Work) (harts : List HartImage) → length harts ≤ most_harts → length harts ≡ hart_count work → HaveRoom harts
    → are_sound (program work harts) ≡ true
program_sound work harts most count room =
    let ps = startup_pieces work (initial_in harts) in
    let startup : Stretch = record { at = dispatcher_at; bytes = laid dispatcher_at ps; size = startup_size work; flags = 5 } in
    let handlers : Stretch = record { at = m_handler_at; bytes = laid m_handler_at handler_pieces; size = 0x2000; flags = 5 } in
    let startup_room : has_room startup ≡ true =
    room_of startup (omega (arith, length-laid dispatcher_at ps (dispatcher_at + startup_size work) (startup_laid work (initial_in harts)))) in
    let startup_ram : lies_in_ram (span_of startup) ≡ true = span_in_ram (span_of startup) (lit≤ tt) (omega arith) in
    let startup_apart : is_apart (span_of startup) (span_of handlers) ≡ true = apart_before (span_of startup) (span_of handlers) (omega arith) in
    let startup_codes = apart_from (span_of startup) 0 harts (omega arith) in
    let handlers_codes = apart_from (span_of handlers) 0 harts (lit≤ tt) in
    and_from _ _ (and_from _ _ (and_from _ _ startup_room (rooms 0 harts room)) (and_from _ _ startup_ram (in_rams 0 harts (omega arith))))
    (and_from _ _ (and_from _ _ startup_apart startup_codes) (and_from _ _ handlers_codes (aparts 0 harts)))
