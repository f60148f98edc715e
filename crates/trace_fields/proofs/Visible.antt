-- The bytes of fields are above the space.
use Rattle.std.proofs.Common.{ℕ, ◌*◌, ◌<◌, ◌^◌, List, [], ◌∷◌, map, arith, Option, IfSome}
use Rattle.std.specs.List.{AllByRecursion, flat_map}
use Rattle.std.specs.Fmt.{decimal}
use Rattle.rv_fields.specs.Name.{Name}
use Rattle.rv_fields.specs.declared.access.Accessed.{Accessed}
use Rattle.rv_fields.specs.declared.trap.Trap.{Trap}
use Rattle.rv_fields.specs.Effect.{Entry}
use Rattle.trace_fields.specs.Letters.{letter_of_kind, letter_of_mode}
use Rattle.trace_fields.specs.declared.request.Kind.{Kind}
use Rattle.trace_fields.specs.declared.request.Kind.TheVariants.{Ins, Mem, Jump, Csr, Sys, Value, Loop, Pick, Set}
use Rattle.trace_fields.specs.declared.request.Cause.{Cause}
use Rattle.trace_fields.specs.declared.request.Cause.TheVariants.{EmptyChoice, BudgetSpent, NoRegister, NoAddress, NoTarget, WindowFull, NoFreePage, NoPlace}
use Rattle.trace_fields.specs.Text.{colon, comma, slash, joined_by, hex, word_text, byte_text, or_none, kind_text, cause_text, write_text, access_text, entry_text, trail_text, trap_text, letter_text}
use Rattle.trace_fields.specs.Readings.{sizes, preambles}
use Rattle.trace_fields.specs.Ranges.{IsAnyOf, IsName, IsWrite, IsAccess, IsEntry, IsTrap, IsPath}
use Rattle.trace_fields.proofs.Joins.{all_weaken, all_append, all_map}
use Rattle.trace_fields.proofs.WordBytes.{IsVisible, word_visible, joined_visible, or_none_visible, any_holds, decimal_word, hex_word, wide_word, name_word, access_letter_word, mode_letter_word}
use Rattle.trace_fields.proofs.Agains as agains

pub decimal_visible : (n : ℕ) → n < 2 ^ 64 → IsVisible (decimal n)
decimal_visible n small = word_visible (decimal n) (decimal_word n small)

pub count_visible : (n : ℕ) → n < 2 ^ 32 → IsVisible (decimal n)
count_visible n small = decimal_visible n (omega arith)

pub hex_visible : (n : ℕ) → n < 2 ^ 64 → IsVisible (hex n)
hex_visible n small = word_visible (hex n) (hex_word n small)

pub word_text_visible : (w : ℕ) → w < 2 ^ 32 → IsVisible (word_text w)
word_text_visible w small = word_visible (word_text w) (wide_word 8 w (omega arith))

pub name_visible : (name : Name) → IsName name → IsVisible name
name_visible name is = word_visible name (name_word name is)

pub kind_visible : (k : Kind) → IsVisible (kind_text k)
kind_visible Ins = omega arith
kind_visible Mem = omega arith
kind_visible Jump = omega arith
kind_visible Csr = omega arith
kind_visible Sys = omega arith
kind_visible Value = omega arith
kind_visible Loop = omega arith
kind_visible Pick = omega arith
kind_visible Set = omega arith

pub cause_visible : (c : Cause) → IsVisible (cause_text c)
cause_visible EmptyChoice = omega arith
cause_visible BudgetSpent = omega arith
cause_visible NoRegister = omega arith
cause_visible NoAddress = omega arith
cause_visible NoTarget = omega arith
cause_visible WindowFull = omega arith
cause_visible NoFreePage = omega arith
cause_visible NoPlace = omega arith

pub path_visible : (path : List Name) → IsPath path → IsVisible (joined_by slash path)
path_visible path is = joined_visible slash path (omega arith) (all_weaken IsName IsVisible name_visible path is.named)

pub bytes_visible : (bytes : List ℕ) → AllByRecursion (λ b. b < 2 ^ 8) bytes → IsVisible (flat_map byte_text bytes)
bytes_visible [] small = tt
bytes_visible (b ∷ bs) small =
    all_append (λ c. 0x20 < c) (byte_text b) (flat_map byte_text bs)
    (word_visible (byte_text b) (wide_word 2 b (omega (arith, small.0)))) (bytes_visible bs small.1)

pub write_visible : (w : ℕ × ℕ) → IsWrite w → IsVisible (write_text w)
write_visible w is =
    joined_visible colon (decimal w.0 ∷ hex w.1 ∷ []) (omega arith)
    (decimal_visible w.0 (omega (arith, is.register)), (hex_visible w.1 is.value, tt))

pub sized_visible : (size : ℕ) → IsAnyOf sizes size → (o : Option ℕ) → IfSome o (λ n. n < 2 ^ (8 * size)) → IsVisible (or_none hex o)
sized_visible size is o fits =
    let wide = agains.size_fits size is in
    or_none_visible hex (λ n. n < 2 ^ (8 * size)) (λ n below. hex_visible n (omega arith)) o fits

pub access_visible : (a : Accessed) → IsAccess a → IsVisible (access_text a)
access_visible a is =
    joined_visible colon (letter_text (letter_of_kind a.kind) ∷ hex a.va ∷ hex a.pa ∷ decimal a.size ∷ or_none hex a.read ∷ or_none hex a.wrote ∷ []) (omega arith) (
      word_visible (letter_text (letter_of_kind a.kind)) (access_letter_word a.kind),
      (
        hex_visible a.va is.va,
        (
          hex_visible a.pa is.pa,
          (
            count_visible a.size (agains.size_small a.size is.size),
            (sized_visible a.size is.size a.read is.read, (sized_visible a.size is.size a.wrote is.wrote, tt)),
          ),
        ),
      ),
    )

pub entry_visible : (e : Entry) → IsEntry e → IsVisible (entry_text e)
entry_visible e is =
    joined_visible colon (hex e.at ∷ hex e.pte ∷ []) (omega arith) (hex_visible e.at is.at, (hex_visible e.pte is.pte, tt))

pub trail_visible : (trail : List Entry) → AllByRecursion IsEntry trail → IsVisible (trail_text trail)
trail_visible [] all = omega arith
trail_visible (e ∷ es) all =
    joined_visible comma (map entry_text (e ∷ es)) (omega arith)
    (all_map IsVisible entry_text (e ∷ es) (all_weaken IsEntry (λ e. IsVisible (entry_text e)) entry_visible (e ∷ es) all))

pub trap_visible : (t : Trap) → IsTrap t → IsVisible (trap_text t)
trap_visible t is =
    joined_visible colon (decimal t.cause ∷ hex t.epc ∷ hex t.tval ∷ letter_text (letter_of_mode t.to) ∷ []) (omega arith) (
      decimal_visible t.cause (omega (arith, is.cause)),
      (
        hex_visible t.epc is.epc,
        (hex_visible t.tval is.tval, (word_visible (letter_text (letter_of_mode t.to)) (mode_letter_word t.to is.to), tt)),
      ),
    )

pub preamble_visible : (n : ℕ) → IsAnyOf preambles n → IsVisible (decimal n)
preamble_visible n is = count_visible n (any_holds (λ m. m < 2 ^ 32) preambles n (omega arith) is)
