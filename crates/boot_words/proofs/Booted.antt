-- From every reset a hart boots.
use Rattle.std.proofs.Common.{ℕ, suc, ◌+◌, ◌-◌, ◌*◌, ◌^◌, ◌<◌, ◌≤◌, ◌≡◌, List, [], ◌∷◌, ◌++◌, length, map, Some, refl, sym, ap, subst, ◌∙◌, arith, lit<, lit≤}
use Rattle.std.specs.Prelude.{pos, take}
use Rattle.std.specs.List.{range_with_len}
use Rattle.rv_fields.specs.declared.row_table.Ins.TheVariants.{Auipc}
use Rattle.rv_fields.specs.CsrFile.{CsrFile, reset, written_each}
use Rattle.rv_fields.specs.Decode.{Decoded}
use Rattle.rv_fields.specs.Field.{field_of}
use Rattle.rv_fields.specs.Hart.{Hart}
use Rattle.rv_fields.specs.Meaning.{computed, sum}
use Rattle.rv_fields.specs.Memory.{Bytes, Seen}
use Rattle.rv_fields.specs.Ranges.{IsLegal}
use Rattle.rv_fields.specs.Status.{mprv}
use Rattle.rv_fields.specs.Trap.{mret_done, mret_mode}
use Rattle.rv_fields.specs.Play.{most_harts}
use Rattle.rv_fields.proofs.Legal.{legal_at_reset}
use Rattle.rv_fields.proofs.Masks.{field_of-with_field}
use Rattle.rv_fields.proofs.MeaningLaws.{doubleword_result}
use Rattle.boot_words.specs.Boot.{boot_block, boot_csr_list, dispatcher, instruction, mret, spelled}
use Rattle.boot_words.specs.Booting.{AreLoadable, BootsAlways, Executes, HoldsBoot, HoldsEach, Loads, dispatcher_steps}
use Rattle.boot_words.specs.Layout.{boot_block_at, dispatcher_at}
use Rattle.boot_words.specs.Startup.{loaded_csrs}
use Rattle.boot_words.proofs.Cleared.{all_overwritten, all_suit}
use Rattle.boot_words.proofs.Dispatched.{dispatched}
use Rattle.boot_words.proofs.Loading.{HasCsrs, HasRegisters, csr_words, csrs_loaded, register_words, registers_loaded}
use Rattle.boot_words.proofs.Running.{At, Takes, computes, leaves, left, runs_on, then_runs, wrote, wrote_at}

-- words that stand one behind another stand in two parts
parted : (byte : Bytes) (at : ℕ) (ns ms : List ℕ) → HoldsEach byte 4 at (ns ++ ms) → HoldsEach byte 4 at ns × HoldsEach byte 4 (at + 4 * length ns) ms
parted byte at [] ms holds = (tt, subst (λ a. HoldsEach byte 4 a ms) (let same : at ≡ at + 4 * 0 = omega arith in same) holds)
parted byte at (n ∷ ns) ms holds =
    let rest = parted byte (at + 4) ns ms holds.1 in
    ((holds.0, rest.0), subst (λ a. HoldsEach byte 4 a ms) (let same : at + 4 + 4 * length ns ≡ at + 4 * suc (length ns) = omega arith in same) rest.1)

-- the block's first instruction gives its own address
abbrev own_address : Decoded
own_address = instruction Auipc 31 0 0 (pos 0)

addressed : (pc : ℕ) → pc < 2 ^ 64 → computed Auipc own_address.ops pc 0 0 ≡ pc
addressed pc small = doubleword_result sum pc 0 small (lit< tt) ∙ omega (arith, small)

-- ---- the block

-- the words behind its first
abbrev behind_first : List ℕ
behind_first = csr_words 0 boot_csr_list ++ (register_words 1 31 ++ (spelled mret ∷ []))

-- where the block leads a hart
pub record Leads (seen : Seen) (h : ℕ) (loads : Loads) (file : CsrFile) (hart : Hart) : Type 0 where
  pub last : Hart
  pub runs : Executes seen h hart boot_block (left last)
  pub at : At h (boot_block_at h + 248) (written_each file boot_csr_list (map loads.csrs boot_csr_list)) last
  pub has : (q : ℕ) → 1 ≤ q → q < 32 → last.x q ≡ Some (loads.x q)

through : (harts h : ℕ) (loads : Loads) (seen : Seen) (file : CsrFile) (hart : Hart) → h < most_harts → AreLoadable loads → HoldsBoot harts h loads seen.byte
    → field_of mprv file.mstatus ≡ 0 → At h (boot_block_at h) file hart → Leads seen h loads file hart
through harts h loads seen file hart few ok holds bare at =
    let block = boot_block_at h in
    let parts = parted seen.byte (block + 4) (csr_words 0 boot_csr_list) (register_words 1 31 ++ (spelled mret ∷ [])) holds.block.1 in
    let rest = parted seen.byte (block + 4 + 120) (register_words 1 31) (spelled mret ∷ []) parts.1 in
    let first : Takes seen h hart (spelled own_address) (wrote hart 30 block) = addressed_to (computes seen h block file hart own_address 30 0 0 at
    (record { word = holds.block.0; fits = refl }) refl refl at.zero_is at.zero_is) in
    let h1 = wrote hart 30 block in
    let at1 = wrote_at h block file hart 30 block (omega (arith, few)) at in
    let csrs : HasCsrs seen h (block + 4 + 120) block (written_each file boot_csr_list (map loads.csrs boot_csr_list)) h1 (csr_words 0 boot_csr_list) =
    csrs_loaded seen h block loads.csrs 0 (block + 4) boot_csr_list file h1 (omega arith) (omega (arith, few)) (omega (arith, few)) (lit≤ tt)
    (all_suit loads ok) parts.0 (subst (λ a. HoldsEach seen.byte 8 a (map loads.csrs boot_csr_list)) (let same : block + 0x400 ≡ block + 0x400 + 8 * 0 = omega arith in same) holds.csrs)
    at1 refl bare in
    let registers : HasRegisters seen h (block + 4 + 120 + 124) (written_each file boot_csr_list (map loads.csrs boot_csr_list)) csrs.end (register_words 1 31) loads.x 1 31 =
    registers_loaded seen h block loads.x 1 31 (block + 4 + 120) (written_each file boot_csr_list (map loads.csrs boot_csr_list)) csrs.end
    (omega arith) (omega (arith, few)) (omega (arith, few)) (lit≤ tt) refl ok.x rest.0
    (subst (λ a. HoldsEach seen.byte 8 a (map loads.x (range_with_len 1 31))) (let same : block + 0x478 ≡ block + 0x478 + 8 * (1 - 1) = omega arith in same) holds.registers)
    csrs.at (λ below. csrs.based) csrs.bare in
    let last = registers.end in
    let place : block + 4 + 120 + 124 ≡ block + 248 = omega arith in
    let goes = leaves seen h (block + 4 + 120 + 124) _ last registers.at (record { word = rest.1.0; fits = refl }) in
    let ending : Executes seen h last (spelled mret ∷ []) (left last) = then_runs seen h (spelled mret) [] last (left last) (left last) goes refl in
    let loaded : Executes seen h csrs.end (register_words 1 31 ++ (spelled mret ∷ [])) (left last) =
    runs_on seen h (register_words 1 31) (spelled mret ∷ []) csrs.end last (left last) registers.runs ending in
    let behind : Executes seen h h1 behind_first (left last) = runs_on seen h (csr_words 0 boot_csr_list) (register_words 1 31 ++ (spelled mret ∷ [])) h1 csrs.end (left last) csrs.runs loaded in
    record {
      last = last;
      runs = then_runs seen h (spelled own_address) behind_first hart h1 (left last) first behind;
      at = subst (λ pc. At h pc (written_each file boot_csr_list (map loads.csrs boot_csr_list)) last) place registers.at;
      has = registers.has;
    }
  where
    addressed_to : Takes seen h hart (spelled own_address) (wrote hart 30 (computed Auipc own_address.ops hart.pc 0 0)) → Takes seen h hart (spelled own_address) (wrote hart 30 (boot_block_at h))
    addressed_to takes = record {
      s = takes.s;
      steps = takes.steps;
      quiet = takes.quiet;
      leads = takes.leads ∙ ap (wrote hart 30) (addressed hart.pc (omega (arith, at.pc_is, few)) ∙ at.pc_is);
    }

-- ---- the boot

hart_number : (h : ℕ) (raw : List ℕ) → (reset h raw).mhartid ≡ h
unfolding reset
hart_number h raw = refl

untranslated : (h : ℕ) (raw : List ℕ) → field_of mprv (reset h raw).mstatus ≡ 0
unfolding reset
untranslated h raw = field_of-with_field mprv _ 0 (lit≤ tt) (lit< tt)

-- the CSRs behind the boot are those that were loaded, with what was there in mcause and mtval
abbrev IsOpened : CsrFile → CsrFile → Type 0
IsOpened file loaded = file ≡ record loaded { mcause = file.mcause; mtval = file.mtval }

opened : (file loaded : CsrFile) (cause tval : ℕ) → file ≡ record loaded { mcause = cause; mtval = tval } → IsOpened file loaded
opened file loaded cause tval is =
    is ∙ ap (λ c. record loaded { mcause = c; mtval = tval }) (sym (ap (λ (f : CsrFile). f.mcause) is))
    ∙ ap (λ t. record loaded { mcause = file.mcause; mtval = t }) (sym (ap (λ (f : CsrFile). f.mtval) is))

pub boots : BootsAlways
boots harts h loads seen hart member few ok holds reset_is =
    let raw = reset_is.raw in
    let small : h < 2 ^ 64 = omega arith in
    let few_h : h < most_harts = omega arith in
    let number : hart.csrs.mhartid ≡ h = ap (λ (file : CsrFile). file.mhartid) reset_is.csrs ∙ hart_number h raw in
    let bare : field_of mprv hart.csrs.mstatus ≡ 0 = ap (λ (file : CsrFile). field_of mprv file.mstatus) reset_is.csrs ∙ untranslated h raw in
    let at : At h dispatcher_at hart.csrs hart = record {
      number = reset_is.number;
      pc_is = reset_is.pc;
      mode = reset_is.mode;
      csrs_are = refl;
      reserved = reset_is.reserved;
      zero_is = reset_is.zero;
      complete = record { told = λ r. ((reset_is.registers r).0, (reset_is.registers r).1) };
    } in
    let there = dispatched harts h seen hart.csrs hart member few number holds.dispatcher at in
    let led = through harts h loads seen hart.csrs there.0 few_h ok holds bare there.2 in
    let legal = subst IsLegal (sym reset_is.csrs) (legal_at_reset h raw small) in
    let written : hart_csrs led.last ≡ record (loaded_csrs h loads.csrs) { mcause = hart.csrs.mcause; mtval = hart.csrs.mtval } =
    led.at.csrs_are ∙ all_overwritten hart.csrs loads legal ok ∙ ap (λ n. record (loaded_csrs n loads.csrs) { mcause = hart.csrs.mcause; mtval = hart.csrs.mtval }) number in (
      left led.last,
      runs_on seen h (take dispatcher_steps (dispatcher harts)) boot_block hart there.0 (left led.last) there.1 led.runs,
      record {
        number = led.at.number;
        pc = ap (λ (file : CsrFile). file.mepc) written;
        mode = ap mret_mode written;
        csrs = ap mret_done (opened led.last.csrs (loaded_csrs h loads.csrs) hart.csrs.mcause hart.csrs.mtval written);
        reserved = led.at.reserved;
        zero = led.at.zero_is;
        registers = led.has;
        complete = record { told = led.at.complete.told };
      },
    )
  where
    hart_csrs : Hart → CsrFile
    hart_csrs q = q.csrs
