-- What harts bring, hart by hart, and the segments that are made of it.
use Rattle.std.proofs.Common.{ℕ, suc, ◌+◌, ◌<◌, ◌≤◌, ◌≡◌, List, [], ◌∷◌, ◌++◌, Some, None, length, drop, get_or, refl, sym, ap, subst, ◌∙◌, arith, append-nil}
use Rattle.std.specs.Prelude.{slice_get, option_map}
use Rattle.std.specs.Option.{option_map_or}
use Rattle.std.specs.List.{All}
use Rattle.std.proofs.lemmas.List.{drop_all, length-map}
use Rattle.std.proofs.lemmas.List.Elements.{All-get_or, All-map}
use Rattle.std.proofs.lemmas.Option.{get_or_from_slice_get, slice_get-map, slice_get_read, slice_get_within}
use Rattle.ram_image.specs.declared.segment.Segment.{Segment}
use Rattle.ram_image.specs.Segments.{Stretch, stretch_of, stretches}
use Rattle.value_file.specs.Values.{initial_of}
use Rattle.run_merge.specs.declared.run.HartProgram.{HartProgram}
use Rattle.run_merge.specs.Image.{HartImage, code_stretches, initial_in}
use Rattle.run_merge.specs.Run.{image_of, images_of}
use Rattle.run_merge.proofs.Windows.{HaveRoom}

pub image_at : (harts : List HartProgram) (h : ℕ) (hart : HartProgram) → h < length harts → hart ≡ get_or harts h hart
    → slice_get (images_of harts) h ≡ Some (image_of hart)
image_at harts h hart within is =
    slice_get-map image_of harts h ∙ ap (option_map image_of) (slice_get_read harts (length harts) h hart refl within is)

pub initial_at : (harts : List HartProgram) (h : ℕ) (hart : HartProgram) → h < length harts → hart ≡ get_or harts h hart
    → initial_in (images_of harts) h ≡ initial_of hart.values
initial_at harts h hart within is = ap (λ o. option_map_or (λ (i : HartImage). i.initial) o (λ r. None)) (image_at harts h hart within is)

pub have_room : (harts : List HartProgram) → All (λ (hart : HartProgram). length hart.words.items ≤ 1024) harts → HaveRoom (images_of harts)
have_room harts room k i is =
    let all : All (λ (i : HartImage). length i.words ≤ 1024) (images_of harts) = All-map (λ (i : HartImage). length i.words ≤ 1024) image_of harts room in
    subst (λ (t : HartImage). length t.words ≤ 1024) (get_or_from_slice_get (images_of harts) k i i is)
    (All-get_or (λ (i : HartImage). length i.words ≤ 1024) (images_of harts) k i (slice_get_within (images_of harts) k i is) all)

-- the segments that were pushed, the first two and then one for each hart
pub all_pushed : (segments : List Segment) (s1 s2 : Segment) (v0 v1 v2 : List Segment) (handlers : Stretch) (harts : List HartProgram) (h : ℕ) → length harts ≤ h
    → v0 ≡ [] → v1 ≡ v0 ++ s1 ∷ [] → v2 ≡ v1 ++ s2 ∷ [] → stretch_of s2 ≡ handlers
    → stretches segments ++ code_stretches h (images_of (drop h harts)) ≡ stretches v2 ++ code_stretches 0 (images_of harts)
    → stretches segments ≡ stretch_of s1 ∷ handlers ∷ code_stretches 0 (images_of harts)
all_pushed segments s1 s2 v0 v1 v2 handlers harts h all e0 e1 e2 is whole =
    let two : v2 ≡ s1 ∷ s2 ∷ [] = e2 ∙ ap (λ v. v ++ s2 ∷ []) (e1 ∙ ap (λ v. v ++ s1 ∷ []) e0) in
    sym (append-nil (stretches segments))
    ∙ ap (λ hs. stretches segments ++ code_stretches h (images_of hs)) (sym (drop_all h harts all))
    ∙ whole
    ∙ ap (λ v. stretches v ++ code_stretches 0 (images_of harts)) two
    ∙ ap (λ s. stretch_of s1 ∷ s ∷ code_stretches 0 (images_of harts)) is

length-code_stretches : (h : ℕ) (is : List HartImage) → length (code_stretches h is) ≡ length is
length-code_stretches h [] = refl
length-code_stretches h (i ∷ is) = ap suc (length-code_stretches (h + 1) is)

-- two more than there are harts
pub count_pushed : (segments : List Segment) (s1 s2 : Stretch) (harts : List HartProgram)
    → stretches segments ≡ s1 ∷ s2 ∷ code_stretches 0 (images_of harts) → length segments ≡ 2 + length harts
count_pushed segments s1 s2 harts is =
    let many : length (stretches segments) ≡ 2 + length harts =
    ap length is ∙ omega (arith, length-code_stretches 0 (images_of harts), length-map harts image_of) in
    sym (length-map segments stretch_of) ∙ many
