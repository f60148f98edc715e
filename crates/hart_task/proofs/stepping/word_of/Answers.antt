-- What a request that can be made gives fits its word.
use Rattle.std.proofs.Common.{◌≡◌, true, subst, sym}
use Rattle.std.specs.Prelude.{IfOk}
use Rattle.choice_tree.specs.Draws.{Draws}
use Rattle.region_plan.specs.Pinned.{fits_word, pinned_ops}
use Rattle.region_plan.specs.Request.{Pins}
use Rattle.region_plan.specs.Views.{pins_seen, request_seen}
use Rattle.region_plan.specs.declared.request.Request.{Request}
use Rattle.hart_task.specs.Asking.{Worded, asked_word, ins_asked, of_ins, worded}
use Rattle.hart_task.proofs.Begins.{AskedFits, fits}
use Rattle.hart_task.proofs.stepping.word_of.Goals as goal

pub ins_word-requires-clause-fits : goal.ins_word-requires-clause-fits
ins_word-requires-clause-fits c = subst (λ choice. AskedFits (ins_asked choice (pins_seen c.in-Ins.pins))) c.named.ensures
    (subst (λ r. AskedFits (asked_word (request_seen r))) c.in-Ins.is (fits (request_seen c.args.request) c.requires.makeable))

pub ins_word-requires-in-Csr-clause-fits : goal.ins_word-requires-in-Csr-clause-fits
ins_word-requires-in-Csr-clause-fits c = subst (λ pins. fits_word c.in-Csr.ins (pinned_ops pins) ≡ true) (sym c.of_csr.ensures)
    (subst (λ r. AskedFits (asked_word (request_seen r))) c.in-Csr.is (fits (request_seen c.args.request) c.requires.makeable))

pub returns-in-Csr-clause-drawn : goal.returns-in-Csr-clause-drawn
returns-in-Csr-clause-drawn c =
    let left : Draws = c.ins_word-in-Csr.new.words in
    subst (λ (r : Request). IfOk c.ins_word-in-Csr.result (λ word. ◌≡◌ {A = Worded} (record { word = word; left = left }) (worded (asked_word (request_seen r)) c.args.words.now))) (sym c.in-Csr.is)
    (subst (λ (pins : Pins). IfOk c.ins_word-in-Csr.result (λ word. ◌≡◌ {A = Worded} (record { word = word; left = left }) (worded (of_ins c.in-Csr.ins pins) c.args.words.now))) c.of_csr.ensures c.ins_word-in-Csr.ensures.drawn)
