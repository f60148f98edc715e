-- The words of the boot block by their places.
use Rattle.std.proofs.Common.{ℕ, zero, suc, ◌+◌, ◌*◌, ◌<◌, ◌≡◌, ◌≢◌, Bool, true, ◌&&◌, eqb, List, length, get_or, set, arith, refl, ap, ◌∙◌, inl, inr, below_more, get_or-set_other, get_or-set_same, lit<}
use Rattle.std.proofs.Math.ListN.{length-set}
use Rattle.std.proofs.lemmas.Grind.{same_number_lists}
use Rattle.std.proofs.lemmas.Bool.{eqb-true, and_parts}
use Rattle.std.proofs.lemmas.Bool.Decides.{eqb_tells}
use Rattle.rv_fields.specs.declared.csr.Csr.TheVariants.{Sstatus}
use Rattle.boot_words.specs.Boot.{boot_block, boot_csr_list, mret, spelled, swap_csr, table_load}

-- whether the test holds at each number below n
unfoldable pub holds_below : (ℕ → Bool) → ℕ → Bool
holds_below p zero = true
holds_below p (suc n) = p n && holds_below p n

pub holds_at : (p : ℕ → Bool) (n : ℕ) → holds_below p n ≡ true → (k : ℕ) → k < n → p k ≡ true
unfolding holds_below
holds_at p zero h k lt = absurd (omega arith)
holds_at p (suc n) h k lt =
    elim (eqb_tells k n) [
      | inl same ↦ ap p same.1 ∙ (and_parts (p n) (holds_below p n) h).0
      | inr other ↦ holds_at p n (and_parts (p n) (holds_below p n) h).1 k (let ne : k ≢ n = other.1 in omega arith)
    ]

pub csr_load_at : (k : ℕ) → k < 15 → spelled (table_load 30 (0x400 + 8 * k)) ≡ get_or boot_block (2 * k + 1) 0
unfolding holds_below
csr_load_at k lt = eqb-true _ _ (holds_at (λ i. eqb (spelled (table_load 30 (0x400 + 8 * i))) (get_or boot_block (2 * i + 1) 0)) 15 refl k lt)

pub csr_write_at : (k : ℕ) → k < 15 → spelled (swap_csr 0 (get_or boot_csr_list k Sstatus) 30) ≡ get_or boot_block (2 * k + 2) 0
unfolding holds_below
csr_write_at k lt =
    eqb-true _ _ (holds_at (λ i. eqb (spelled (swap_csr 0 (get_or boot_csr_list i Sstatus) 30)) (get_or boot_block (2 * i + 2) 0)) 15 refl k lt)

pub register_load_at : (k : ℕ) → k < 31 → spelled (table_load (k + 1) (0x478 + 8 * k)) ≡ get_or boot_block (31 + k) 0
unfolding holds_below
register_load_at k lt =
    eqb-true _ _ (holds_at (λ i. eqb (spelled (table_load (i + 1) (0x478 + 8 * i))) (get_or boot_block (31 + i) 0)) 31 refl k lt)

-- the 63 words are those of the boot block as far as place n
pub record IsBlockUpTo (n : ℕ) (words : List ℕ) : Type 0 where
  pub long : length words ≡ 63
  pub same : (k : ℕ) → k < n → get_or words k 0 ≡ get_or boot_block k 0

-- one more word is written
pub write_more : (words : List ℕ) (place word n : ℕ) → place + 1 ≡ n → n < 64 → IsBlockUpTo place words
    → word ≡ get_or boot_block place 0 → IsBlockUpTo n (set words place word)
write_more words place word n next room before is =
    let lt : place < length words = omega arith in
    record {
      long = length-set words place word ∙ before.long;
      same = let same_next : (k : ℕ) → k < place + 1 → get_or (set words place word) k 0 ≡ get_or boot_block k 0 =
          below_more _ _
          (λ k below. let other : k ≢ place = omega arith in rw get_or-set_other (before.same k below))
          (rw get_or-set_same is)
          in λ k below. same_next k (omega arith);
    }

-- with its last word the block is whole
pub whole_block : (words : List ℕ) → IsBlockUpTo 62 words → set words 62 (spelled mret) ≡ boot_block
whole_block words before =
    let whole : IsBlockUpTo 63 (set words 62 (spelled mret)) = write_more words 62 (spelled mret) 63 refl (lit< tt) before refl in
    same_number_lists _ _ whole.long (λ k lt. whole.same k (omega arith))
