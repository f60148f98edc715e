-- Files that are written one after another.
use Rattle.std.proofs.Common.{ℕ, zero, suc, ◌≡◌, ◌≢◌, ◌≤◌, refl, sym, ap, ◌∙◌, subst, arith, inl, inr, List, [], ◌∷◌, take, Option, Some, None, IsSomeAnd, Result, Ok, Err, IsErrAnd, IfErr, IfOk}
use Rattle.std.specs.Prelude.{MatchOption, map, slice_get}
use Rattle.std.specs.List.{AllByRecursion}
use Rattle.store_face.specs.State.{Held, State, Rose}
use Rattle.store_face.specs.Calls as store
use Rattle.forge.specs.declared.made.Made.{Made}
use Rattle.forge.specs.Words.{MakingSerial}
use Rattle.forge.specs.Ends.{Ending, unwritten, Output, LeftBy}
use Rattle.forge.specs.Stops.{WhereTold, Becomes, IsStoppedWrite, StopsLate, files_of}

-- What holds of each of some first items holds of each of fewer, and of the last of them.
fewer : {A : Type 0} (P : A → Type 0) (n : ℕ) (xs : List A) → AllByRecursion P (take (suc n) xs) → AllByRecursion P (take n xs)
fewer P zero xs h = tt
fewer P (suc n) [] h = tt
fewer P (suc n) (x ∷ xs) h = (h.0, fewer P n xs h.1)

last_one : {A : Type 0} (P : A → Type 0) (n : ℕ) (xs : List A) (x : A) → slice_get xs n ≡ Some x → AllByRecursion P (take (suc n) xs) → P x
last_one P n [] x at h = cc
last_one P zero (y ∷ ys) x at h = let same : y ≡ x = cc in subst P same h.0
last_one P (suc n) (y ∷ ys) x at h = last_one P n ys x at h.1

one_more : {A : Type 0} (P : A → Type 0) (n : ℕ) (xs : List A) (x : A) → slice_get xs n ≡ Some x → AllByRecursion P (take n xs) → P x
    → AllByRecursion P (take (suc n) xs)
one_more P n [] x at h p = cc
one_more P zero (y ∷ ys) x at h p = let same : x ≡ y = cc in (subst P same p, tt)
one_more P (suc n) (y ∷ ys) x at h p = (h.0, one_more P n ys x at h.1 p)

-- two facts of each item give a third
of_both : {A : Type 0} (P Q R : A → Type 0) → ((x : A) → P x → Q x → R x) → (xs : List A) → AllByRecursion P xs → AllByRecursion Q xs → AllByRecursion R xs
of_both P Q R f [] p q = tt
of_both P Q R f (x ∷ xs) p q = (f x p.0 q.0, of_both P Q R f xs p.1 q.1)

-- a write of the file behind the whole ones leaves those as they are
still_left : (files : List Output) (n : ℕ) (file : Output) (before mid now : Held) → slice_get files n ≡ Some file
    → AllByRecursion (λ f. f.name ≢ file.name) (take n files) → ((other : List ℕ) → other ≢ file.name → now other ≡ mid other)
    → LeftBy files n before mid → LeftBy files n before now
still_left files n file before mid now at apart kept left = record {
  whole = of_both (λ f. mid f.name ≡ Some f.bytes) (λ f. f.name ≢ file.name) (λ f. now f.name ≡ Some f.bytes) (λ f whole differs. kept f.name differs ∙ whole)
      (take n files) left.whole apart;
  others = λ name none. kept name (last_one (λ f. name ≢ f.name) n files file at none) ∙ left.others name none;
}

-- and where it is well, one more is whole
more_left : (files : List Output) (n : ℕ) (file : Output) (before now : Held) → slice_get files n ≡ Some file → now file.name ≡ Some file.bytes
    → LeftBy files n before now → LeftBy files (suc n) before now
more_left files n file before now at written left = record {
  whole = one_more (λ f. now f.name ≡ Some f.bytes) n files file at left.whole written;
  others = λ name none. left.others name (fewer (λ f. name ≢ f.name) (suc n) files none);
}

-- The same of what stores tell.
still_told : (files : List Output) (n : ℕ) (file : Output) (before mid now : Option Held) → slice_get files n ≡ Some file
    → AllByRecursion (λ f. f.name ≢ file.name) (take n files) → store.KeepsAllBut file.name mid now
    → MatchOption before (mid ≡ None) (λ b. IsSomeAnd mid (λ m. LeftBy files n b m))
    → MatchOption before (now ≡ None) (λ b. IsSomeAnd now (λ m. LeftBy files n b m))
still_told files n file None None now at apart kept left = kept
still_told files n file None (Some m) now at apart kept left = cc
still_told files n file (Some b) None now at apart kept left = absurd left
still_told files n file (Some b) (Some m) None at apart kept left = absurd kept
still_told files n file (Some b) (Some m) (Some k) at apart kept left = still_left files n file b m k at apart kept left

more_told : (files : List Output) (n : ℕ) (file : Output) (before now : Option Held) → slice_get files n ≡ Some file
    → ((held : Held) → now ≡ Some held → held file.name ≡ Some file.bytes)
    → MatchOption before (now ≡ None) (λ b. IsSomeAnd now (λ m. LeftBy files n b m))
    → MatchOption before (now ≡ None) (λ b. IsSomeAnd now (λ m. LeftBy files (suc n) b m))
more_told files n file None now at written left = left
more_told files n file (Some b) None at written left = absurd left
more_told files n file (Some b) (Some m) at written left = more_left files n file b m at (written m refl) left

none_told : (files : List Output) (before : Option Held) → MatchOption before (before ≡ None) (λ b. IsSomeAnd before (λ n. LeftBy files 0 b n))
none_told files None = refl
none_told files (Some b) = record { whole = tt; others = λ name none. refl }

none_written : (files : List Output) (old : State) → Becomes old old (LeftBy files 0)
none_written files old = none_told files old.holds

one_written : (files : List Output) (n : ℕ) (file : Output) (old mid new : State) → slice_get files n ≡ Some file
    → AllByRecursion (λ f. f.name ≢ file.name) (take n files) → store.KeepsAllBut file.name mid.holds new.holds
    → WhereTold new (λ held. held file.name ≡ Some file.bytes) → Becomes old mid (LeftBy files n) → Becomes old new (LeftBy files (suc n))
one_written files n file old mid new at apart kept written left =
    more_told files n file old.holds new.holds at written (still_told files n file old.holds mid.holds new.holds at apart kept left)

-- what stopped a write, since an earlier state
pub stopped_since : (name : List ℕ) (old mid new : State) (ending : Ending) → old.write_faults ≤ mid.write_faults → IsStoppedWrite name mid new ending
    → IsStoppedWrite name old new ending
stopped_since name old mid new (unwritten file) up why = (why.0, rose, why.2)
  where
    rose : Rose old.write_faults new.write_faults
    rose = elim why.1 [ inl below ↦ inl (omega (arith, below, up)) | inr full ↦ inr full ]
stopped_since name old mid new ending up why = why

at_hand : {A : Type 0} (P : A → Type 0) (n : ℕ) (xs : List A) (x : A) → slice_get xs n ≡ Some x → P x → IsSomeAnd (slice_get xs n) P
at_hand {A} P n xs x at p = let F : Option A → Type 0 = λ o. IsSomeAnd o P in subst F (sym at) p

stopped_late : (files : List Output) (n : ℕ) (file : Output) (old mid new : State) (ending : Ending) → slice_get files n ≡ Some file
    → AllByRecursion (λ f. f.name ≢ file.name) (take n files) → store.KeepsAllBut file.name mid.holds new.holds
    → old.write_faults ≤ mid.write_faults → IsStoppedWrite file.name mid new ending → Becomes old mid (LeftBy files n)
    → StopsLate files old new ending
stopped_late files n file old mid new ending at apart kept up why left = record {
  number = n;
  at_hand = at_hand (λ f. IsStoppedWrite f.name old new ending) n files file at (stopped_since file.name old mid new ending up why);
  left = still_told files n file old.holds mid.holds new.holds at apart kept left;
}

elf_whole : (m : MakingSerial) (made : Made) (old first : State) (elf : List ℕ) → elf ≡ made.elf.items → store.KeepsAllBut m.elf old.holds first.holds
    → WhereTold first (λ held. held m.elf ≡ Some elf) → Becomes old first (LeftBy (files_of m made) 1)
elf_whole m made old first elf same kept written = one_written (files_of m made) 0 (record { name = m.elf; bytes = made.elf.items }) old old first refl tt kept
    (λ held told. written held told ∙ ap Some same) (none_written (files_of m made) old)

order_whole : (m : MakingSerial) (made : Made) (old first second : State) (order : List ℕ) → m.elf ≢ m.order → order ≡ made.order.items
    → store.KeepsAllBut m.order first.holds second.holds → WhereTold second (λ held. held m.order ≡ Some order)
    → Becomes old first (LeftBy (files_of m made) 1) → Becomes old second (LeftBy (files_of m made) 2)
order_whole m made old first second order apart same kept written left =
    one_written (files_of m made) 1 (record { name = m.order; bytes = made.order.items }) old first second refl (apart, tt) kept
    (λ held told. written held told ∙ ap Some same) left

-- the second write stopped it
pub stopped_at_order : (m : MakingSerial) (made : Made) (old first second : State) (elf : List ℕ) (ending : Ending) → m.elf ≢ m.order
    → elf ≡ made.elf.items → store.KeepsAllBut m.elf old.holds first.holds → old.write_faults ≤ first.write_faults
    → WhereTold first (λ held. held m.elf ≡ Some elf)
    → store.KeepsAllBut m.order first.holds second.holds → IsStoppedWrite m.order first second ending → StopsLate (files_of m made) old second ending
stopped_at_order m made old first second elf ending apart same kept up written last_kept why =
    stopped_late (files_of m made) 1 (record { name = m.order; bytes = made.order.items }) old first second ending refl (apart, tt) last_kept up why
    (elf_whole m made old first elf same kept written)

-- the third one
pub stopped_at_trace : (m : MakingSerial) (made : Made) (old first second third : State) (elf order : List ℕ) (ending : Ending)
    → m.elf ≢ m.order → m.elf ≢ m.trace → m.order ≢ m.trace
    → elf ≡ made.elf.items → store.KeepsAllBut m.elf old.holds first.holds → old.write_faults ≤ first.write_faults
    → WhereTold first (λ held. held m.elf ≡ Some elf)
    → order ≡ made.order.items → store.KeepsAllBut m.order first.holds second.holds → first.write_faults ≤ second.write_faults
    → WhereTold second (λ held. held m.order ≡ Some order)
    → store.KeepsAllBut m.trace second.holds third.holds → IsStoppedWrite m.trace second third ending → StopsLate (files_of m made) old third ending
stopped_at_trace m made old first second third elf order ending elf_order elf_trace order_trace same kept up written next_same next_kept next_up next_written last_kept why =
    stopped_late (files_of m made) 2 (record { name = m.trace; bytes = made.trace.items }) old second third ending refl (elf_trace, (order_trace, tt)) last_kept
    (omega (arith, up, next_up)) why
    (order_whole m made old first second order elf_order next_same next_kept next_written (elf_whole m made old first elf same kept written))

-- of an error that is given on
pub err_of : {A E : Type 0} (P : E → Type 0) (result : Result A E) (stop : E) → IsErrAnd result (λ s. s ≡ stop) → P stop → IfErr result P
err_of P (Ok a) stop is p = tt
err_of P (Err e) stop is p = subst P (sym is) p

-- of a value that is one of another fact, and of an error
pub ok_more : {A E : Type 0} (P Q : A → Type 0) (result : Result A E) → ((a : A) → P a → Q a) → IfOk result P → IfOk result Q
ok_more P Q (Ok a) f p = f a p
ok_more P Q (Err e) f p = tt

pub err_more : {A E : Type 0} (P Q : E → Type 0) (result : Result A E) → ((e : E) → P e → Q e) → IfErr result P → IfErr result Q
err_more P Q (Ok a) f p = tt
err_more P Q (Err e) f p = f e p

-- a name that is none of the files' is none of the first of them
pub others_apart : (name : List ℕ) (n : ℕ) (files : List Output) → AllByRecursion (λ other. name ≢ other) (map (λ f. f.name) files)
    → AllByRecursion (λ f. name ≢ f.name) (take n files)
others_apart name zero files h = tt
others_apart name (suc n) [] h = tt
others_apart name (suc n) (f ∷ fs) h = (h.0, others_apart name n fs h.1)
