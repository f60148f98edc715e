-- The logs of all harts, laid into slots, are their run.
use Rattle.std.proofs.Common.{ℕ, ◌<◌, ◌≤◌, ◌≡◌, ◌++◌, List, [], Option, None, length, map, replicate, take, drop, get_or, sym, ap, subst, ◌∙◌, arith, append-nil}
use Rattle.std.specs.List.{All, AllByRecursion}
use Rattle.std.specs.Option.{option_map}
use Rattle.std.proofs.lemmas.List.{drop_all, get_or-map, length-map, length-replicate, take_all}
use Rattle.std.proofs.lemmas.Option.{slice_get-get_or}
use Rattle.std.proofs.lemmas.Simd.{map-map}
use Rattle.region_plan.specs.Plan.{Work, hart_count}
use Rattle.world_face.specs.declared.event.Event as code
use Rattle.world_face.specs.Events.{Event}
use Rattle.world_face.specs.Views.{event_seen}
use Rattle.hart_task.specs.declared.log.HartLog.{HartLog}
use Rattle.hart_task.specs.Log.{LogSeen, log_seen}
use Rattle.hart_task.specs.Logs.{AreLogsOf}
use Rattle.hart_task.specs.OneRun.{all_lines}
use Rattle.run_merge.specs.declared.run.HartProgram.{HartProgram}
use Rattle.run_merge.specs.Image.{HartImage}
use Rattle.run_merge.specs.Run.{image_of, images_of, log_image}
use Rattle.run_merge.specs.Slots.{FitIn, all_slotted, event_count, logs_seen, slots_lines, slots_seen}
use Rattle.run_merge.proofs.Slotting.{are_all, count_all, fit_all, lines_slotted, slotted_all}

abbrev pub Slots : Type 0
Slots = List (Option code.Event)

-- a slice that was lent of a whole list is the list when it comes back
pub written_back : (new old : Slots) (len : ℕ) → len ≡ length old → length new ≡ length old → take len (new ++ drop (length new) old) ≡ new
written_back new old len whole same =
    ap (λ os. take len (new ++ os)) (drop_all (length new) old (omega (arith, same)))
    ∙ ap (take len) (append-nil new)
    ∙ take_all len new (omega (arith, whole, same))

-- there are as many slots as the logs have events
pub events_fit : (work : Work) (seed : ℕ) (logs shown : List HartLog) (events : List Event) (slots : Slots) → AreLogsOf work seed (map log_seen logs) events
    → shown ≡ logs → slots_seen slots ≡ replicate (event_count (logs_seen shown)) None
    → AllByRecursion (λ (log : LogSeen). FitIn (length slots) log.events) (logs_seen logs)
events_fit work seed logs shown events slots are same empty =
    let count : event_count (logs_seen logs) ≡ length events =
    count_all (hart_count work) events (logs_seen logs) are.count (are_all events (logs_seen logs) are.by_place) are.members in
    let seen : length (slots_seen slots) ≡ event_count (logs_seen logs) =
    ap length empty ∙ length-replicate (event_count (logs_seen shown)) None ∙ ap (λ ls. event_count (logs_seen ls)) same in
    fit_all (length slots) events (logs_seen logs) (omega (arith, count, seen, length-map slots (option_map event_seen)))
    (are_all events (logs_seen logs) are.by_place)

-- the lines of the slots are those of the run
pub lines_are : (work : Work) (seed : ℕ) (logs shown : List HartLog) (events : List Event) (slots filled : Slots) → AreLogsOf work seed (map log_seen logs) events
    → shown ≡ logs → slots_seen slots ≡ replicate (event_count (logs_seen shown)) None
    → slots_seen filled ≡ all_slotted (logs_seen logs) (slots_seen slots) → slots_lines (slots_seen filled) ≡ all_lines events
lines_are work seed logs shown events slots filled are same empty full =
    let from = are_all events (logs_seen logs) are.by_place in
    let count : event_count (logs_seen logs) ≡ length events = count_all (hart_count work) events (logs_seen logs) are.count from are.members in
    let seen : slots_seen slots ≡ replicate (length events) None = empty ∙ ap (λ ls. replicate (event_count (logs_seen ls)) None) same ∙ ap (λ n. replicate n None) count in
    ap slots_lines (full ∙ ap (all_slotted (logs_seen logs)) seen ∙ slotted_all (hart_count work) events (logs_seen logs) are.count from are.members)
    ∙ lines_slotted events

-- ---- what the harts bring

pub images_of_logs : (harts : List HartProgram) (logs : List HartLog) → images_of harts ≡ map log_image (logs_seen logs)
    → images_of harts ≡ map (λ log. log_image (log_seen log)) logs
images_of_logs harts logs is = is ∙ map-map log_image log_seen logs

pub as_many : (work : Work) (seed : ℕ) (events : List Event) (harts : List HartProgram) (logs : List HartLog) → AreLogsOf work seed (map log_seen logs) events
    → images_of harts ≡ map log_image (logs_seen logs) → length harts ≡ hart_count work
as_many work seed events harts logs are is =
    sym (length-map harts image_of) ∙ ap length is ∙ length-map (logs_seen logs) log_image ∙ are.count

pub have_room : (work : Work) (seed : ℕ) (events : List Event) (harts : List HartProgram) (logs : List HartLog) → AreLogsOf work seed (map log_seen logs) events
    → images_of harts ≡ map log_image (logs_seen logs) → All (λ (hart : HartProgram). length hart.words.items ≤ 1024) harts
have_room work seed events harts logs are is k d within =
    let many : length harts ≡ length (logs_seen logs) = sym (length-map harts image_of) ∙ ap length is ∙ length-map (logs_seen logs) log_image in
    let short : k < length (logs_seen logs) = omega (arith, within, many) in
    let none : LogSeen = record { events = []; words = []; initial = λ r. None; present = λ r. None } in
    let log : LogSeen = get_or (logs_seen logs) k none in
    let same : image_of (get_or harts k d) ≡ log_image log =
    sym (get_or-map image_of harts k d (image_of d) within) ∙ ap (λ is. get_or is k (image_of d)) is ∙ get_or-map log_image (logs_seen logs) k none (image_of d) short in
    subst (λ (i : HartImage). length i.words ≤ 1024) (sym same) (are.logs_are k log (slice_get-get_or (logs_seen logs) k none short)).room
