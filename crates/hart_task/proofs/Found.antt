-- The words of the handler of mode M, as a hart finds them.
use Rattle.std.proofs.Common.{ℕ, zero, suc, ◌+◌, ◌-◌, ◌*◌, ◌/◌, ◌%◌, ◌^◌, ◌<◌, ◌≡◌, true, false, cond, ltb, leb, get_or, Some, None, sym, ap, ◌∙◌, arith, lit<}
use Rattle.std.specs.Prelude.{option_map, ◌&&◌}
use Rattle.std.proofs.lemmas.Bool.Decides.{nat_tests}
use Rattle.rv_fields.specs.declared.mode.Mode.TheVariants.{M}
use Rattle.rv_fields.specs.Memory.{in_ram, told}
use Rattle.rv_fields.proofs.Told.{told_word}
use Rattle.region_plan.specs.Plan.{Work}
use Rattle.boot_words.specs.Boot.{handler}
use Rattle.boot_words.specs.Layout.{code_start, data_start, m_handler_at, window_words}
use Rattle.hart_task.specs.Heard.{Heard}
use Rattle.hart_task.specs.State.{HartState}
use Rattle.hart_task.specs.Stepping.{byte_of, lies_in, listed_words, seen_of}
use Rattle.hart_task.proofs.Makes.{byte_of_word}

abbrev pub handler_word : ℕ → ℕ
handler_word i = get_or (handler M) i 0

handler_byte : (work : Work) (s : HartState) (heard : Heard) (i j : ℕ) → i < 6 → j < 4 → (seen_of work s heard).byte (m_handler_at + 4 * i + j) ≡ Some (handler_word i / 256 ^ j % 256)
handler_byte work s heard i j few small =
    let h : ℕ = s.hart.number in
    let a : ℕ = m_handler_at + 4 * i + j in
    let low : ltb a data_start ≡ true = grind (arith, nat_tests) in
    let before : leb (code_start h) a ≡ false = grind (arith, nat_tests) in
    let outside : lies_in a (code_start h) (4 * window_words work h) ≡ false = ap (λ t. t && ltb a (code_start h + 4 * window_words work h)) before in
    let inside : lies_in a m_handler_at 4096 ≡ true = grind (arith, nat_tests) in
    let at : (a - m_handler_at) / 4 ≡ i = omega (arith, small) in
    let rest : a - m_handler_at - i * 4 ≡ j = omega (arith, small) in
    let there : ltb i 6 ≡ true = grind (arith, nat_tests) in
    rw low (rw outside (rw inside (ap (λ q. option_map (λ w. byte_of w (q * 4) (a - m_handler_at)) (listed_words (handler M) q)) at
    ∙ ap (λ t. option_map (λ w. byte_of w (i * 4) (a - m_handler_at)) (cond t (Some (handler_word i)) None)) there
    ∙ ap (λ q. Some (handler_word i / 256 ^ q % 256)) rest)))

handler_small : (i : ℕ) → handler_word i < 2 ^ 32
handler_small zero = lit< tt
handler_small (suc zero) = lit< tt
handler_small (suc (suc zero)) = lit< tt
handler_small (suc (suc (suc zero))) = lit< tt
handler_small (suc (suc (suc (suc zero)))) = lit< tt
handler_small (suc (suc (suc (suc (suc zero))))) = lit< tt
handler_small (suc (suc (suc (suc (suc (suc i)))))) = lit< tt

-- A hart whose pc is at one of them finds it.
pub handler_told : (work : Work) (s : HartState) (heard : Heard) (i : ℕ) → i < 6 → s.hart.pc ≡ m_handler_at + 4 * i → told (seen_of work s heard).byte s.hart.pc 4 ≡ Some (Some (handler_word i))
handler_told work s heard i few pc =
    let in_it : in_ram s.hart.pc 4 ≡ true = grind (arith, nat_tests) in
    told_word (seen_of work s heard).byte s.hart.pc (handler_word i) in_it (handler_small i) (λ j small.
    ap (λ p. (seen_of work s heard).byte (p + j)) pc ∙ handler_byte work s heard i j few small ∙ ap Some (sym (byte_of_word (handler_word i) j small (handler_small i))))
