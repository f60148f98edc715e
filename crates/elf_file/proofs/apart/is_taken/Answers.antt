use Rattle.std.proofs.Common.{inl, inr}
use Rattle.std.proofs.lemmas.Bool.{cases_lt, lt-ltb, ltb-true}
use Rattle.elf_file.proofs.Ranges.{taken_by_last, free_by_last, free_by_none}
use Rattle.elf_file.proofs.apart.is_taken.Goals as goal

pub returns-in-Some : goal.returns-in-Some
returns-in-Some c =
    let range = c.range.ensures.in_range tt in (
      λ lt. taken_by_last c.args.ends.now c.args.at c.args.end c.range.result c.next_back.new.self c.in-Some.field-0-0.now c.in-Some.last.now range c.in-Some.ensures.steps (ltb-true _ _ lt),
      λ taken. elim (cases_lt c.args.at c.in-Some.last.now) [
        | inl lt ↦ lt-ltb _ _ lt
        | inr le ↦ absurd (free_by_last c.args.ends.now c.args.at c.args.end c.range.result c.next_back.new.self c.in-Some.field-0-0.now c.in-Some.last.now c.requires range c.in-Some.ensures.steps le taken)
      ],
    )

pub returns-in-None : goal.returns-in-None
returns-in-None c = (
  λ no. (cc),
  λ taken. absurd (free_by_none c.args.ends.now c.args.at c.args.end c.range.result (c.range.ensures.in_range tt) c.in-None.ensures.steps.0 taken),
)
