-- The first difference from a play is none exactly where the play passes.
use Rattle.std.proofs.Common.{ℕ, ◌<◌, ◌≤◌, ◌≡◌, ◌^◌, Bool, true, false, cond, List, [], ◌∷◌, length, Option, Some, None, IfSome, subst, arith}
use Rattle.std.specs.Prelude.{MatchOption, nat_le}
use Rattle.std.specs.List.{AllByRecursion}
use Rattle.rv_fields.specs.Effect.{Effect}
use Rattle.rv_fields.specs.Play.{Machine, Plays, most_harts}
use Rattle.trace_text.specs.Lines.{Line, effects_of, ending, found, made}
use Rattle.trace_text.specs.Traces.{IsLine, IsStep, IsTrace}
use Rattle.boot_words.specs.Booting.{boot_steps}
use Rattle.boot_words.specs.Passing.{PlaysAsTold, behind_boots, effects_by}
use Rattle.trace_replay.specs.Comparing.{first_difference}
use Rattle.trace_replay.proofs.Differing.{none_found, none_there}
use Rattle.trace_replay.proofs.Playing.{MachineInRange, one_play, play_spelled}
use Rattle.trace_replay.proofs.Spelt.{CanSpell}

maybe : (m : Option ℕ) (bound : ℕ) → MatchOption m ⊥ (λ n. n < bound) → IfSome m (λ n. n < bound)
maybe None bound is = absurd is
maybe (Some n) bound is = is

told_spelled : (harts : ℕ) (e : Effect) → e.hart < harts → IsStep e → CanSpell harts e
told_spelled harts e member is = record {
  hart = member;
  pc = is.pc;
  pa = maybe e.pa (2 ^ 64) is.pa;
  word = maybe e.word (2 ^ 32) is.word;
  rd = is.rd;
  access = is.access;
  trail = (is.short, is.trail);
  trap = is.trap;
}

lines_spelled : (harts : ℕ) (lines : List Line) → AllByRecursion (IsLine harts) lines → AllByRecursion (CanSpell harts) (effects_of lines)
lines_spelled harts [] all = tt
lines_spelled harts (made e ∷ lines) all = (told_spelled harts e all.0.hart all.0.ranges, lines_spelled harts lines all.1)
lines_spelled harts (found e ∷ lines) all = (told_spelled harts e all.0.hart all.0.ranges, lines_spelled harts lines all.1)
lines_spelled harts (ending e ∷ lines) all = (told_spelled harts e all.0.hart all.0.ranges, lines_spelled harts lines all.1)
lines_spelled harts (other ∷ lines) all = lines_spelled harts lines all.1

behind_spelled : (harts : ℕ) (before effects : List Effect) → AllByRecursion (CanSpell harts) effects → AllByRecursion (CanSpell harts) (behind_boots before effects)
behind_spelled harts before [] all = tt
behind_spelled harts before (e ∷ effects) all =
    of (nat_le boot_steps (length (effects_by e.hart before))) (behind_spelled harts (e ∷ before) effects all.1)
  where
    of : (b : Bool) → AllByRecursion (CanSpell harts) (behind_boots (e ∷ before) effects)
        → AllByRecursion (CanSpell harts) (cond b (e ∷ behind_boots (e ∷ before) effects) (behind_boots (e ∷ before) effects))
    of true rest = (all.0, rest)
    of false rest = rest

-- What is said here of a play is what `Passes` asks of the play from one choice of resets.
pub passes_where_none : (harts : ℕ) (order : List ℕ) (lines : List Line) (effects : List Effect) (m end : Machine) → harts ≤ most_harts
    → AllByRecursion (λ h. h < harts) order → IsTrace harts lines → MachineInRange harts m → Plays m order effects end
    → first_difference harts harts lines effects ≡ None → PlaysAsTold harts order (effects_of lines) m
passes_where_none harts order lines effects m end few named trace range plays none =
    let does = none_found harts lines effects (omega arith) (lines_spelled harts lines trace.are_lines)
    (behind_spelled harts [] effects (play_spelled harts order effects m end range named plays)) none in
    record { effects = effects; end = end; plays = plays; boots = does.boots; behind = does.behind }

pub none_where_passes : (harts : ℕ) (order : List ℕ) (lines : List Line) (effects : List Effect) (m end : Machine) → Plays m order effects end
    → PlaysAsTold harts order (effects_of lines) m → first_difference harts harts lines effects ≡ None
none_where_passes harts order lines effects m end plays told =
    let same = one_play order told.effects effects m told.end end told.plays plays in
    subst (λ es. first_difference harts harts lines es ≡ None) same
    (none_there harts lines told.effects (record { boots = told.boots; behind = told.behind }))
