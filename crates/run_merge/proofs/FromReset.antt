-- From every reset the harts boot, and then do what the lines tell.
use Rattle.std.proofs.Common.{ℕ, zero, suc, ◌^◌, ◌<◌, ◌≤◌, ◌≡◌, List, [], ◌∷◌, Option, Some, None, get_or, refl, sym, ap, subst, ◌∙◌, arith, lit<, inl}
use Rattle.std.specs.Prelude.{unwrap_or}
use Rattle.std.specs.List.{AllByRecursion}
use Rattle.rv_fields.specs.declared.csr.Csr.{Csr}
use Rattle.rv_fields.specs.declared.csr.Csr.TheVariants.{Sstatus, Stvec, Sscratch, Sepc, Scause, Stval, Satp, Mstatus, Medeleg, Mideleg, Mie, Mtvec, Mscratch, Mepc, Mcause, Mtval, Pmpcfg0, Pmpaddr0, Mhartid}
use Rattle.rv_fields.specs.Csr.{address_bits}
use Rattle.rv_fields.specs.CsrFile.{written}
use Rattle.rv_fields.specs.Effect.{Effect}
use Rattle.rv_fields.specs.Field.{field_of, masked}
use Rattle.rv_fields.specs.Hart.{Hart}
use Rattle.rv_fields.specs.Memory.{Seen}
use Rattle.rv_fields.specs.Play.{Machine, most_harts}
use Rattle.rv_fields.specs.Status.{HasMode, mprv, satp_mode}
use Rattle.region_plan.specs.Plan.{HartPlan, Work, hart_count, no_hart, plan_of}
use Rattle.region_plan.specs.Rules.{IsPlainHart, KeepsRules}
use Rattle.trace_text.specs.Lines.{Line, effects_of, starting}
use Rattle.boot_words.specs.Boot.{boot_csr}
use Rattle.boot_words.specs.Booting.{AreLoadable, IsBootedBy}
use Rattle.boot_words.specs.Layout.{code_start, window_by}
use Rattle.boot_words.specs.Startup.{IsStart, loaded_csrs, start_csrs, start_mode}
use Rattle.boot_words.proofs.AllBoot.{passes}
use Rattle.boot_words.proofs.Started.{code_kept}
use Rattle.run_merge.specs.FromReset.{FromReset}
use Rattle.run_merge.specs.Image.{image, image_pieces}
use Rattle.run_merge.specs.Justified.{Justified, Starts, order_of}
use Rattle.run_merge.proofs.Bytes.{image_small}
use Rattle.run_merge.proofs.Held.{boot_held, loads_of}
use Rattle.run_merge.proofs.Stood.{Holds}

-- starting values are those of x1 to x31, of 64 bits
abbrev pub AreSmall : List Line → Type 0
AreSmall lines = (h r v : ℕ) → starting lines h r ≡ Some v → (1 ≤ r) × (r < 32) × (v < 2 ^ 64)

-- ---- a plain hart

plain_at : (work : Work) (h : ℕ) → KeepsRules work → plan_of work h ≡ record no_hart { code_pages = (plan_of work h).code_pages; template = (plan_of work h).template }
plain_at work h keeps = among work.harts h keeps.harts
  where
    among : (hs : List HartPlan) (k : ℕ) → AllByRecursion IsPlainHart hs
        → get_or hs k no_hart ≡ record no_hart { code_pages = (get_or hs k no_hart).code_pages; template = (get_or hs k no_hart).template }
    among [] k all = refl
    among (p ∷ ps) zero all = all.0.plain
    among (p ∷ ps) (suc k) all = among ps k all.1

plain_csr : (work : Work) (h : ℕ) (csr : Csr) → KeepsRules work → boot_csr (plan_of work h) h csr ≡ boot_csr no_hart h csr
plain_csr work h csr keeps = ap (λ (p : HartPlan). boot_csr p h csr) (plain_at work h keeps) ∙ code_apart csr
  where
    code_apart : (csr : Csr) → boot_csr (record no_hart { code_pages = (plan_of work h).code_pages; template = (plan_of work h).template }) h csr ≡ boot_csr no_hart h csr
    code_apart csr = elim csr [
      | Sstatus ↦ refl
      | Stvec ↦ refl
      | Sscratch ↦ refl
      | Sepc ↦ refl
      | Scause ↦ refl
      | Stval ↦ refl
      | Satp ↦ refl
      | Mstatus ↦ refl
      | Medeleg ↦ refl
      | Mideleg ↦ refl
      | Mie ↦ refl
      | Mtvec ↦ refl
      | Mscratch ↦ refl
      | Mepc ↦ refl
      | Mcause ↦ refl
      | Mtval ↦ refl
      | Pmpcfg0 ↦ refl
      | Pmpaddr0 ↦ refl
      | Mhartid ↦ refl
    ]

small_csr : (h : ℕ) (csr : Csr) → h < most_harts → boot_csr no_hart h csr < 2 ^ 64
small_csr h csr few = elim csr as (λ c. boot_csr no_hart h c < 2 ^ 64) [
  | Sstatus ↦ lit< tt
  | Stvec ↦ lit< tt
  | Sscratch ↦ lit< tt
  | Sepc ↦ lit< tt
  | Scause ↦ lit< tt
  | Stval ↦ lit< tt
  | Satp ↦ lit< tt
  | Mstatus ↦ lit< tt
  | Medeleg ↦ lit< tt
  | Mideleg ↦ lit< tt
  | Mie ↦ lit< tt
  | Mtvec ↦ lit< tt
  | Mscratch ↦ lit< tt
  | Mepc ↦ omega (arith, few)
  | Mcause ↦ lit< tt
  | Mtval ↦ lit< tt
  | Pmpcfg0 ↦ lit< tt
  | Pmpaddr0 ↦ lit< tt
  | Mhartid ↦ lit< tt
]

-- what a hart loads can be loaded
loadable : (work : Work) (lines : List Line) (h : ℕ) → KeepsRules work → h < hart_count work → AreSmall lines → AreLoadable (loads_of work lines h)
unfolding field_of
loadable work lines h keeps member small = record {
  csrs = λ csr. subst (λ n. n < 2 ^ 64) (sym (plain_csr work h csr keeps)) (small_csr h csr (omega (arith, member, keeps.most)));
  x = λ r. value r (starting lines h r) refl;
  mode = subst HasMode (sym (plain_csr work h Mstatus keeps)) (λ two. absurd cc);
  untranslated = ap (field_of mprv) (plain_csr work h Mstatus keeps);
  translation = inl (ap (field_of satp_mode) (plain_csr work h Satp keeps));
}
  where
    value : (r : ℕ) (m : Option ℕ) → m ≡ starting lines h r → unwrap_or m 0 < 2 ^ 64
    value r None is = lit< tt
    value r (Some v) is = (small h r v (sym is)).2

-- ---- the start

mepc_is : (work : Work) (h : ℕ) → (loaded_csrs h (boot_csr (plan_of work h) h)).mepc ≡ masked address_bits 0 (window_by (plan_of work h) h)
unfolding written
mepc_is work h = refl

-- where the boot leaves a hart, it starts
started : (work : Work) (lines : List Line) (h : ℕ) (hart : Hart) → KeepsRules work → h < hart_count work → IsBootedBy h (loads_of work lines h) hart → IsStart work h hart
unfolding start_csrs start_mode
started work lines h hart keeps member booted = record {
  number = booted.number;
  pc = booted.pc ∙ kept;
  mode = booted.mode;
  csrs = booted.csrs;
  reserved = booted.reserved;
  zero = booted.zero;
  registers = booted.complete;
}
  where
    kept : (loaded_csrs h (boot_csr (plan_of work h) h)).mepc ≡ window_by (plan_of work h) h
    kept =
        let plain : window_by (plan_of work h) h ≡ code_start h = ap (λ (p : HartPlan). window_by p h) (plain_at work h keeps) in
        mepc_is work h ∙ ap (masked address_bits 0) plain ∙ code_kept h (omega (arith, member, keeps.most)) ∙ sym plain

-- the registers that the lines fix have their values
fixed_there : (work : Work) (lines : List Line) (h r v : ℕ) (hart : Hart) → AreSmall lines → IsBootedBy h (loads_of work lines h) hart → starting lines h r ≡ Some v → hart.x r ≡ Some v
fixed_there work lines h r v hart small booted is =
    let range = small h r v is in
    booted.registers r range.0 range.1 ∙ ap (λ m. Some (unwrap_or m 0)) is

members_of : (harts : ℕ) (effects : List Effect) → AllByRecursion (λ k. k < harts) (order_of effects) → AllByRecursion (λ (e : Effect). e.hart < harts) effects
members_of harts [] named = tt
members_of harts (e ∷ effects) named = (named.0, members_of harts effects named.1)

pub from_reset : (work : Work) (lines : List Line) → KeepsRules work → AreSmall lines → AllByRecursion (λ k. k < hart_count work) (order_of (effects_of lines))
    → Justified work lines → FromReset work lines
from_reset work lines keeps small named justified machine reset =
    passes (hart_count work) (loads_of work lines) machine (order_of (effects_of lines)) (effects_of lines) keeps.most
    (λ h member. loadable work lines h keeps member small)
    (λ h member. boot_held work lines machine.seen.byte h member keeps.most holds (loadable work lines h keeps member small))
    reset.resets (members_of (hart_count work) (effects_of lines) named)
    (λ start seen booted. justified start (starts start seen booted))
  where
    holds : Holds machine.seen.byte (image_pieces work lines)
    holds a b placed = reset.bytes a ∙ ap (λ o. Some (unwrap_or o 0)) placed

    starts : (start : Machine) → start.seen ≡ machine.seen → ((h : ℕ) → h < hart_count work → IsBootedBy h (loads_of work lines h) (start.harts h)) → Starts work lines start
    starts start seen booted = record {
      whole = λ a. (image work lines a, ap (λ (s : Seen). s.byte a) seen ∙ reset.bytes a, image_small work lines a);
      links = λ h g. ap (λ (s : Seen). s.link h g) seen ∙ reset.links h g;
      memory = λ a b placed. ap (λ (s : Seen). s.byte a) seen ∙ holds a b placed;
      registers = λ h r v member is. fixed_there work lines h r v (start.harts h) small (booted h member) is;
      harts = λ h member. started work lines h (start.harts h) keeps member (booted h member);
    }
