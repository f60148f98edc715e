-- What the steps of a command say: what they read, made and wrote, and where one of them stopped it.
use Rattle.std.specs.Prelude.{ℕ, ◌≡◌, ◌<◌, ◌≤◌, List, [], ◌∷◌, ◌++◌, length, codes, Option, Some, None, IfSome, IsSomeAnd, MatchOption, Result, MatchResult, slice_get}
use Rattle.std.specs.Fmt.{decimal}
use Rattle.trace_text.specs.Lines as model
use Rattle.store_face.specs.State.{Held, State, Rose}
use Rattle.forge.specs.declared.command.Command as parsed
use Rattle.forge.specs.declared.command.Command.TheVariants as commands
use Rattle.forge.specs.declared.made.Counts.{Counts}
use Rattle.forge.specs.declared.made.Made.{Made}
use Rattle.forge.specs.declared.serial.MakeSerial.{MakeSerial}
use Rattle.elf_file.specs.Messages.{elf_message}
use Rattle.trace_fields.specs.Messages.{line_message}
use Rattle.trace_replay.specs.declared.verdict.ReplayFault.{ReplayFault}
use Rattle.trace_replay.specs.declared.verdict.ReplayFault.TheVariants as faults
use Rattle.forge.specs.declared.replaying.Replay.{Replay}
use Rattle.forge.specs.declared.stop.Reason.{Reason}
use Rattle.forge.specs.declared.stop.Reason.TheVariants.{NotBuilt, Elf, Line}
use Rattle.forge.specs.declared.stop.Stop.{Stop}
use Rattle.forge.specs.declared.stop.Stop.TheVariants.{Usage, Unread, Unwritten, Refused, TooLong, Memory}
use Rattle.forge.specs.Words.{Command, MakingSerial, Replaying, command_of, make_serial, replay}
use Rattle.forge.specs.Generated.{IsCountOf}
use Rattle.forge.specs.Ends.{Ending, usage, unreadable, unwritten, rejected, too_long, out_of_memory, status_of, printed, inputs, most_bytes, length_fault, form_fault, input_fault, AreHeld, Output, LeftBy, IsRunFrom, Makes, Causes, NoCommand, usage_text}

-- ---- commands

-- what the words of make-serial were parsed into
abbrev pub making_seen : MakeSerial → MakingSerial
making_seen m = record {
  job = m.job.now;
  trees = m.trees.now;
  seed = m.seed;
  elf = m.elf.now;
  order = m.order.now;
  trace = m.trace.now;
}

abbrev pub serial_seen : MakeSerial → Command
serial_seen m = make_serial (making_seen m)

-- what the words of replay were parsed into
abbrev pub replaying_seen : Replay → Replaying
replaying_seen r = record { elf = r.elf.now; order = r.order.now; trace = r.trace.now }

-- the command that the words were parsed into
abbrev pub command_seen : parsed.Command → Command
command_seen (commands.MakeSerial m) = serial_seen m
command_seen (commands.Replay r) = replay (replaying_seen r)

-- ---- endings

-- what `{}` shows of a reason
abbrev pub reason_body : Reason → List ℕ
reason_body NotBuilt = codes "not built yet"
reason_body (Elf fault) = elf_message fault
reason_body (Line fault) = line_message fault

-- what a stop ends the command with
abbrev pub ending_of : Stop → Ending
ending_of Usage = usage
ending_of (Unread name) = unreadable name.now
ending_of (Unwritten name) = unwritten name.now
ending_of (Refused name reason) = rejected name.now (reason_body reason)
ending_of (TooLong name most) = too_long name.now most
ending_of Memory = out_of_memory

-- what a fault of one of the files of replay ends it with
abbrev pub stop_ending : Replaying → ReplayFault → Ending
stop_ending r (faults.Elf fault) = rejected r.elf (elf_message fault)
stop_ending r (faults.Order fault) = rejected r.order (line_message fault)
stop_ending r (faults.Trace fault) = rejected r.trace (line_message fault)
stop_ending r faults.Memory = out_of_memory

-- the line of a stop, without its newline
abbrev pub stop_body : Stop → List ℕ
stop_body Usage = usage_text
stop_body (Unread name) = codes "cannot read " ++ name.now
stop_body (Unwritten name) = codes "cannot write " ++ name.now
stop_body (Refused name reason) = name.now ++ codes ": " ++ reason_body reason
stop_body (TooLong name most) = name.now ++ codes ": longer than " ++ decimal most ++ codes " bytes"
stop_body Memory = codes "out of memory"

-- the numbers in words, without the newline
abbrev pub counts_body : Counts → List ℕ
counts_body counts = codes "harts " ++ decimal counts.harts ++ codes " steps " ++ decimal counts.steps
    ++ codes " done " ++ decimal counts.done ++ codes " refused " ++ decimal counts.refused

-- status and line are those of the ending
abbrev pub IsTold : Ending → ℕ → List ℕ → Type 0
IsTold ending status out = (status ≡ status_of ending) × (out ≡ printed ending)

-- why the words end so
abbrev pub IsCause : List (List ℕ) → State → State → Ending → Type 0
IsCause words old new ending = MatchOption (command_of words) (NoCommand old new ending) (λ c. Causes c old new ending)

-- what was run came to its end, of which it has told, or was stopped
abbrev pub EndsBy : (Ending → Type 0) → Result ℕ Stop → List ℕ → Type 0
EndsBy Cause result out = MatchResult result (λ status. (ending : Ending) × Cause ending × IsTold ending status out) (λ stop. Cause (ending_of stop))

-- ---- reads

-- what the file of the name holds was read; none, where it has more than so many bytes
abbrev pub IsContent : State → List ℕ → ℕ → Option (List ℕ) → Type 0
IsContent old name most content =
    (bytes : List ℕ) × IfSome old.holds (λ before. before name ≡ Some bytes)
    × MatchOption content (most < length bytes) (λ read. (read ≡ bytes) × (length bytes ≤ most))

-- a read of the name stopped the command
abbrev pub IsStoppedRead : List ℕ → State → State → Ending → Type 0
IsStoppedRead name old new (unreadable file) = (file ≡ name) × Rose old.read_faults new.read_faults × (new.last ≡ name)
IsStoppedRead name old new out_of_memory = Unit {0}
IsStoppedRead name old new ending = ⊥

-- the names are those of the files that the command reads, which have at most so many bytes
pub record IsReadFor (c : Command) (names : List (List ℕ)) (most : ℕ) : Type 0 where
  pub inputs_are : inputs c ≡ names
  pub most_is : most_bytes c ≡ most

-- these contents of the files were read, and none is too long
pub record AreRead (c : Command) (old : State) (contents : List (List ℕ)) : Type 0 where
  pub held : IfSome old.holds (λ before. AreHeld before (inputs c) contents)
  pub count : length contents ≡ length (inputs c)
  pub short : length_fault (most_bytes c) (inputs c) contents ≡ None

-- what one of the contents holds stopped the command
abbrev pub IsStoppedForm : Command → List (List ℕ) → Ending → Type 0
IsStoppedForm c contents (rejected name reason) = form_fault c contents ≡ Some (rejected name reason)
IsStoppedForm c contents out_of_memory = Unit {0}
IsStoppedForm c contents ending = ⊥

-- ---- what is made

-- the files that were made, under the names of the command
abbrev pub files_of : MakingSerial → Made → List Output
files_of m made =
    record { name = m.elf; bytes = made.elf.items } ∷ record { name = m.order; bytes = made.order.items }
    ∷ record { name = m.trace; bytes = made.trace.items } ∷ []

-- what make-serial made from the contents of both input files
pub record IsMadeFrom (m : MakingSerial) (job trees : List ℕ) (made : Made) : Type 0 where
  pub harts : ℕ
  pub lines : List model.Line
  pub run : IsRunFrom m (job ∷ trees ∷ []) (files_of m made) harts lines
  pub counts : IsCountOf made.counts harts lines

-- what a command made from the files that stood before
pub record IsMade (c : Command) (old : State) (files : List Output) (counts : Counts) : Type 0 where
  pub contents : List (List ℕ)
  pub held : IfSome old.holds (λ before. AreHeld before (inputs c) contents)
  pub accepted : input_fault c contents ≡ None
  pub harts : ℕ
  pub lines : List model.Line
  pub made : Makes c contents files harts lines
  pub counted : IsCountOf counts harts lines

-- ---- writes

-- the fact holds of what the store tells, where it tells it
abbrev pub WhereTold : State → (Held → Type 0) → Type 0
WhereTold state P = (held : Held) → state.holds ≡ Some held → P held

-- a write of the name stopped the command
abbrev pub IsStoppedWrite : List ℕ → State → State → Ending → Type 0
IsStoppedWrite name old new (unwritten file) = (file ≡ name) × Rose old.write_faults new.write_faults × (new.last ≡ name)
IsStoppedWrite name old new out_of_memory = Unit {0}
IsStoppedWrite name old new ending = ⊥

-- a store that tells goes on telling, and the fact holds of both; one that doesn't tell goes on so
abbrev pub Becomes : State → State → (Held → Held → Type 0) → Type 0
Becomes old new P = MatchOption old.holds (new.holds ≡ None) (λ before. IsSomeAnd new.holds (λ now. P before now))

-- one of the writes stopped the command
pub record StopsLate (files : List Output) (old new : State) (ending : Ending) : Type 0 where
  pub number : ℕ
  pub at_hand : IsSomeAnd (slice_get files number) (λ file. IsStoppedWrite file.name old new ending)
  pub left : Becomes old new (LeftBy files number)
