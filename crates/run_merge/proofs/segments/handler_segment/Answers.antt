-- The two handlers are the pieces of their segment.
use Rattle.std.proofs.Common.{ap}
use Rattle.boot_words.specs.Layout.{m_handler_at}
use Rattle.run_merge.proofs.Laying.{handler_bytes}
use Rattle.run_merge.proofs.segments.handler_segment.Goals as goal

pub returns : goal.returns
returns c = ap (λ bs. record { at = m_handler_at; bytes = bs; size = 0x2000; flags = 5 })
    (handler_bytes _ _ _ _ _ c.new-bytes.ensures.items c.handler.ensures c.handler-2.ensures c.in_ok-lay_words.ensures c.in_ok-lay_words-2.ensures)
