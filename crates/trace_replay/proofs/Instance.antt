-- For every file that can be loaded there is a machine at reset, so that what is said of all of them is said of some.
use Rattle.std.proofs.Common.{ℕ, List, Some, None, replicate, refl, lit<}
use Rattle.std.specs.Prelude.{false}
use Rattle.rv_fields.specs.declared.mode.Mode.TheVariants.{M}
use Rattle.rv_fields.specs.CsrFile.{reset}
use Rattle.rv_fields.specs.Hart.{Hart}
use Rattle.rv_fields.specs.Play.{Machine, reset_pc}
use Rattle.boot_words.specs.Passing.{IsAtReset}
use Rattle.elf_file.specs.Loading.{load}

-- each raw value is 0
abbrev pub zeros : List ℕ
zeros = replicate 19 0

pub hart_of : ℕ → Hart
hart_of h = record { number = h; pc = reset_pc; x = λ r. Some 0; mode = M; csrs = reset h zeros; reserved = None }

pub machine_of : List ℕ → Machine
machine_of elf = record { seen = record { byte = load elf; link = λ h g. Some false }; harts = hart_of }

pub at_reset : (harts : ℕ) (elf : List ℕ) → IsAtReset harts (load elf) (machine_of elf)
unfolding machine_of hart_of
at_reset harts elf = record {
  bytes = λ a. refl;
  links = λ h g. refl;
  resets = λ h member. record {
    number = refl;
    pc = refl;
    mode = refl;
    reserved = refl;
    zero = refl;
    registers = λ r. (0, refl, lit< tt);
    raw = zeros;
    raw_count = refl;
    raw_small = (lit< tt, (lit< tt, (lit< tt, (lit< tt, (lit< tt, (lit< tt, (lit< tt, (lit< tt, (lit< tt, (lit< tt, (lit< tt, (lit< tt, (lit< tt, (lit< tt, (lit< tt, (lit< tt, (lit< tt, (lit< tt, (lit< tt, tt)))))))))))))))))));
    csrs = refl;
  };
}
