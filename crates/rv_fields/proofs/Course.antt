-- The ways in which a step goes, each with what it found.
use Rattle.std.proofs.Common.{ℕ, ◌≡◌, List, [], Option, Some, None, refl, subst}
use Rattle.rv_fields.specs.declared.access.Access.TheVariants.{Fetch}
use Rattle.rv_fields.specs.Class.{class_of}
use Rattle.rv_fields.specs.Decode.{Decoded, decoded, rs1_read}
use Rattle.rv_fields.specs.Effect.{Entry}
use Rattle.rv_fields.specs.Hart.{Hart}
use Rattle.rv_fields.specs.Memory.{Seen, told}
use Rattle.rv_fields.specs.Step.{Outcome, Stepped, fetch_walked, outcome, outcome_by, step, step_at, step_decoded, step_fetched, stepped_by, trap_taken}
use Rattle.rv_fields.specs.Sv39.{Translated, access_fault, reached, faults}
use Rattle.rv_fields.proofs.Options.{found}

pub data Course (seen : Seen) (hart : Hart) : Stepped → Type 0 where
  unreached : (trail : List Entry) (cause : ℕ)
      → fetch_walked seen hart ≡ Some (record { trail = trail; result = faults cause })
      → Course seen hart (trap_taken hart None None cause hart.pc [])
  lacks_word : (trail : List Entry) (pa : ℕ)
      → fetch_walked seen hart ≡ Some (record { trail = trail; result = reached pa })
      → told seen.byte pa 4 ≡ Some None
      → Course seen hart (trap_taken hart None None (access_fault Fetch) hart.pc [])
  undecoded : (trail : List Entry) (pa word : ℕ)
      → fetch_walked seen hart ≡ Some (record { trail = trail; result = reached pa })
      → told seen.byte pa 4 ≡ Some (Some word)
      → decoded word ≡ None
      → Course seen hart (trap_taken hart (Some pa) (Some word) 2 word [])
  executes : (trail : List Entry) (pa word : ℕ) (d : Decoded) (rs1 rs2 : ℕ) (o : Outcome)
      → fetch_walked seen hart ≡ Some (record { trail = trail; result = reached pa })
      → told seen.byte pa 4 ≡ Some (Some word)
      → decoded word ≡ Some d
      → hart.x (rs1_read d) ≡ Some rs1
      → hart.x d.ops.rs2 ≡ Some rs2
      → outcome_by (class_of d.ins) seen hart d word rs1 rs2 ≡ Some o
      → Course seen hart (stepped_by hart pa word d.ops.rd o)

-- ---- each step has a course

-- a course of what was found
gives : (seen : Seen) (hart : Hart) (s t : Stepped) → Some s ≡ Some t → Course seen hart s → Course seen hart t
gives seen hart s t e way = subst (Course seen hart) (let same : s ≡ t = cc in same) way

by_decoded : (seen : Seen) (hart : Hart) (trail : List Entry) (pa word : ℕ) (d : Option Decoded) (s : Stepped)
    → fetch_walked seen hart ≡ Some (record { trail = trail; result = reached pa }) → told seen.byte pa 4 ≡ Some (Some word) → decoded word ≡ d
    → step_decoded seen hart pa word d ≡ Some s → Course seen hart s
unfolding step_decoded outcome
by_decoded seen hart trail pa word None s fetched has is e = gives seen hart _ s e (undecoded trail pa word fetched has is)
by_decoded seen hart trail pa word (Some d) s fetched has is e =
    let a = found (hart.x (rs1_read d)) _ s e in
    let b = found (hart.x d.ops.rs2) _ s a.2 in
    let o = found (outcome_by (class_of d.ins) seen hart d word a.0 b.0) _ s b.2 in
    gives seen hart _ s o.2 (executes trail pa word d a.0 b.0 o.0 fetched has is a.1 b.1 o.1)

by_fetched : (seen : Seen) (hart : Hart) (trail : List Entry) (pa : ℕ) (word : Option ℕ) (s : Stepped)
    → fetch_walked seen hart ≡ Some (record { trail = trail; result = reached pa }) → told seen.byte pa 4 ≡ Some word
    → step_fetched seen hart pa word ≡ Some s → Course seen hart s
by_fetched seen hart trail pa None s fetched has e = gives seen hart _ s e (lacks_word trail pa fetched has)
by_fetched seen hart trail pa (Some word) s fetched has e = by_decoded seen hart trail pa word (decoded word) s fetched has refl e

by_walk : (seen : Seen) (hart : Hart) (trail : List Entry) (result : Translated) (s : Stepped)
    → fetch_walked seen hart ≡ Some (record { trail = trail; result = result }) → step_at seen hart result ≡ Some s → Course seen hart s
by_walk seen hart trail (faults cause) s fetched e = gives seen hart _ s e (unreached trail cause fetched)
by_walk seen hart trail (reached pa) s fetched e =
    let word = found (told seen.byte pa 4) (step_fetched seen hart pa) s e in
    by_fetched seen hart trail pa word.0 s fetched word.1 word.2

pub course : (seen : Seen) (hart : Hart) (s : Stepped) → step seen hart ≡ Some s → Course seen hart s
unfolding step
course seen hart s e =
    let w = found (fetch_walked seen hart) (λ w. step_at seen hart w.result) s e in
    by_walk seen hart w.0.trail w.0.result s w.1 w.2

-- ---- and each course is a step's

pub retraced : (seen : Seen) (hart : Hart) (s : Stepped) → Course seen hart s → step seen hart ≡ Some s
unfolding step step_decoded outcome
retraced seen hart s (unreached trail cause fetched) = rw fetched refl
retraced seen hart s (lacks_word trail pa fetched has) = rw fetched (rw has refl)
retraced seen hart s (undecoded trail pa word fetched has is) = rw fetched (rw has (rw is refl))
retraced seen hart s (executes trail pa word d rs1 rs2 o fetched has is first second gives) =
    rw fetched (rw has (rw is (rw first (rw second (rw gives refl)))))
