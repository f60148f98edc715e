-- What a job asks of its harts: requests, and the items of a template.
use Rattle.std.specs.Prelude.{Bool, List, Option, ℕ, ℤ}
use Rattle.rv_fields.specs.declared.csr.Csr.{Csr}
use Rattle.rv_fields.specs.declared.row_table.Ins.{Ins}
use Rattle.rv_fields.specs.Name.{Name}

-- an instruction by name, or by a tree, which counts the job's tree names in the order in which they first occur
pub data InsChoice : Type 0 where
  named_ins : Ins → InsChoice
  by_tree : ℕ → InsChoice

-- Operands that a request gives; the others are drawn, but from no register to avoid. zero: rs1 is the fixed 0 of a read.
pub record Pins : Type 0 where
  pub rd : Option ℕ
  pub rs1 : Option ℕ
  pub rs2 : Option ℕ
  pub imm : Option ℤ
  pub aqrl : ℕ
  pub avoid : List ℕ
  pub zero_rs1 : Bool

-- the addresses that a memory request names: a region or one page of it, some pages, or one address
pub data Window : Type 0 where
  in_region : ℕ → Option ℕ → Window
  in_pages : ℕ → ℕ → Window
  one_address : ℕ → Window

-- what a request wants of its last step: no trap, a page fault, a misaligned address
pub data Demand : Type 0 where
  Quiet : Demand
  PageFault : Demand
  Misaligned : Demand

pub record MemRequest : Type 0 where
  pub ins : InsChoice
  pub window : Window
  pub demand : Demand
  -- the value that its load shall read
  pub want : Option ℕ
  pub pins : Pins

-- a jump ahead by so many words: at least, and at most
pub record JumpRequest : Type 0 where
  pub ins : InsChoice
  pub least : ℕ
  pub most : ℕ
  pub demand : Demand
  pub pins : Pins

pub data SysWord : Type 0 where
  sys_ecall : SysWord
  sys_ebreak : SysWord
  sys_zero : SysWord
  sys_mret : SysWord
  sys_sret : SysWord
  sys_sfence : SysWord

-- a request of one block of words
pub data Plain : Type 0 where
  an_ins : InsChoice → Pins → Plain
  a_mem : MemRequest → Plain
  a_jump : JumpRequest → Plain
  a_csr : Csr → Ins → Pins → Plain
  a_sys : SysWord → Plain
  a_value : ℕ → Pins → Plain

pub data Request : Type 0 where
  a_plain : Plain → Request
  -- how often, the counting register, and the body
  a_loop : ℕ → ℕ → List Plain → Request
  -- a tree's new weight of the node at a path
  a_set : ℕ → List Name → ℕ → Request
  a_pick : ℕ → Request

-- the items of a template: a request, items that are repeated, or a pick with the items of each of its leaves, and what follows
mutual
  pub data Items : Type 0 where
    no_items : Items
    one : Request → Items → Items
    repeated : ℕ → Items → Items → Items
    fork : ℕ → Arms → Items → Items

  pub data Arms : Type 0 where
    no_arms : Arms
    arm : Name → Items → Arms → Arms
