use Rattle.std.proofs.Common.{◌≡◌, ◌∙◌, ◌+◌, ◌-◌, ◌<◌, ◌≤◌, ℕ, ap, arith, sym, subst, length, Some, slice_get}
use Rattle.std.proofs.lemmas.Option.{slice_get-get_or}
use Rattle.slt_grammar.specs.Grammars.{value, body_at, whole}
use Rattle.slt_grammar.specs.Keyed.{rules_of}
use Rattle.value_tests.specs.Assembled.{spots_at, plain_nodes, IsCalledOnce}
use Rattle.value_tests.specs.Isolated.{sum_below, IsIsolated}
use Rattle.value_tests.specs.Sources.{rules_in, texts_at, symbol_count, mark_in, AreRulesIn}
use Rattle.value_tests.proofs.Assembling.{assembled-value}
use Rattle.value_tests.proofs.Tested.{is-isolated}
use Rattle.value_tests.proofs.assemble.assemble.Goals as goal

pub returns-clause-value : goal.returns-clause-value
returns-clause-value c =
    let s = c.args.source.now in
    let H = c.in_ok-list.list in
    let items = c.in_ok-origins.origins.items in
    let v = c.as_slice-3.ensures.value in
    let count = ap length c.as_slice-count.ensures.value in
    let n : length H ≡ length items = omega (arith, c.if-as_slice-count.false, ap length c.as_slice-5.ensures, count) in
    let n' : length H ≡ length c.as_slice-3.result.now = n ∙ ap length (sym v) in
    let some : 0 < length items = omega (arith, c.if-count-eq0.false, count) in
    let x = c.index.result.now in
    let z : x ≡ 0 = omega (arith, c.if-index-ne0.false) in
    let at : length c.as_slice-count.result.now - 1 ≡ length H - 1 = omega (arith, n, count) in
    let got = slice_get-get_or items (length c.as_slice-count.result.now - 1) x (omega (arith, some, count)) ∙ ap Some (sym c.index.ensures ∙ z) in
    let last = subst (λ os. slice_get os (length H - 1) ≡ Some 0) (sym v) (subst (λ k. slice_get items k ≡ Some 0) at got) in
    ap value c.in-Ok.ensures.rules
    ∙ assembled-value (texts_at s) (rules_in s) (symbol_count s) (mark_in s) c.args.spots.now c.as_slice-3.result.now H c.rules-rules.ensures.grammar c.in-Ok.ensures.grammar n' c.in_ok-list.ensures last c.requires.start

pub returns-clause-isolated : goal.returns-clause-isolated
returns-clause-isolated c =
    let s = c.args.source.now in
    let G = rules_in s in
    let H = c.in_ok-list.list in
    let spots = c.args.spots.now in
    let items = c.in_ok-origins.origins.items in
    let names = s.names.now in
    let marks = s.marks.now in
    let count = ap length c.as_slice-count.ensures.value in
    let n : length H ≡ length items = omega (arith, c.if-as_slice-count.false, ap length c.as_slice-5.ensures, count) in
    let some : 0 < length items = omega (arith, c.if-count-eq0.false, count) in
    let x = c.index.result.now in
    let z : x ≡ 0 = omega (arith, c.if-index-ne0.false) in
    let at : length c.as_slice-count.result.now - 1 ≡ length H - 1 = omega (arith, n, count) in
    let got = slice_get-get_or items (length c.as_slice-count.result.now - 1) x (omega (arith, some, count)) ∙ ap Some (sym c.index.ensures ∙ z) in
    let last = subst (λ k. slice_get items k ≡ Some 0) at got in
    let made = subst (λ os. AreRulesIn s spots os H) c.as_slice-3.ensures.value c.in_ok-list.ensures in
    let rising = subst (λ os. sum_below (length os - 1) (plain_nodes G (spots_at spots os)) + length (body_at G (length G - 1)) ≤ whole G) c.as_slice-6.ensures.value (c.are_rising.ensures c.if-not-are_rising.false) in
    let called = subst (λ os. (p : ℕ) → p < length os → IsCalledOnce (rules_of c.in-Ok.new.rules) (spots_at spots os) p) c.as_slice-7.ensures.value (c.are_called_once.ensures c.if-not-are_called_once.false) in
    let once = subst (λ K. (p : ℕ) → p < length items → IsCalledOnce K (spots_at spots items) p) c.in-Ok.ensures.rules called in
    subst (IsIsolated names marks G) (sym c.in-Ok.ensures.rules) (is-isolated names marks G H c.rules-rules.ensures.grammar c.in-Ok.ensures.grammar c.in-Ok.ensures.swept spots items n made last c.requires.start rising once)
