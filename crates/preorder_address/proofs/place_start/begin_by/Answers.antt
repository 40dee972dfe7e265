use Rattle.std.proofs.Common.{◌≡◌, ◌<◌, ◌-◌, ◌∷◌, [], ℕ, List, Option, None, refl, sym, ap, ◌∙◌, subst, arith, sum_by, length}
use Rattle.plain_tree.specs.declared.kind.Kind.{Kind}
use Rattle.rule_arena.specs.declared.label.Label.{Label}
use Rattle.slt_grammar.specs.Keyed.{KeyedRule, rules_of}
use Rattle.slt_grammar.specs.Segments.{preorder}
use Rattle.slt_grammar.specs.Tours.{stop}
use Rattle.slt_grammar.proofs.KeyedLemmas.{length-rules_of}
use Rattle.segment_counts.specs.Weights.{weigh}
use Rattle.preorder_address.specs.Descents.{IsSmallNext, IsWithin, levels_at, told_next}
use Rattle.preorder_address.specs.Marks.{HasPassed, IsMark}
use Rattle.preorder_address.specs.Numberings.{measure_of, weigh_by}
use Rattle.preorder_address.specs.Routes.{route_to, stop_weight}
use Rattle.preorder_address.specs.declared.descent.Wanted.{Wanted}
use Rattle.preorder_address.specs.Spots.{FallsWeighed}
use Rattle.preorder_address.specs.Stops.{FallsAt}
use Rattle.preorder_address.specs.declared.numbering.Numbering.{Numbering}
use Rattle.preorder_address.specs.declared.numbering.Numbering.TheVariants.{Nodes, All}
use Rattle.preorder_address.specs.declared.spot.WeighedStop.{WeighedStop}
use Rattle.preorder_address.proofs.Descending.{inside-next, levels-next, small-next}
use Rattle.preorder_address.proofs.Finding.{sought-falls}
use Rattle.preorder_address.proofs.Marking.{both-told, first-found}
use Rattle.preorder_address.proofs.SpotFinding.{falls-passed}
use Rattle.preorder_address.proofs.place_start.begin_by.Goals as goal

-- what a label weighs by the measure of the numbers
same-weight : (names : List (Kind × List ℕ)) (m : Numbering) → weigh names (measure_of m) ≡ weigh_by m
same-weight names Nodes = refl
same-weight names All = refl

-- the stop by what the numbers count
falls-by : (names : List (Kind × List ℕ)) (G : List KeyedRule) (m : Numbering) (r n : ℕ) (found : WeighedStop) (F : FallsWeighed names G m r n found)
    → FallsAt (weigh_by m) G r n found.walk (stop (record { key = found.walk.key; label = found.label; kids = F.kids }) found.walk.part) F.offset
falls-by names G m r n found F =
    subst (λ (w : Label → ℕ). FallsAt w G r n found.walk (stop (record { key = found.walk.key; label = found.label; kids = F.kids }) found.walk.part) F.offset) (same-weight names m) F.falls

pub find_stop-label-requires-clause-number : goal.find_stop-label-requires-clause-number
find_stop-label-requires-clause-number g c =
    let a = c.args in
    subst (λ (w : Label → ℕ). a.number < sum_by w (preorder (rules_of a.grammar.now.rules) (c.rules-start.result - 1))) (sym (same-weight a.names.now a.by))
    (subst (λ (k : ℕ). a.number < sum_by (weigh_by a.by) (preorder (rules_of a.grammar.now.rules) (k - 1))) (sym c.rules-start.ensures.value) c.requires.low)

pub overflow_sub-part : goal.overflow_sub-part
overflow_sub-part g c = let F = c.find_stop-label.ensures.falls in omega (arith, F.falls.number, F.weights (measure_of c.args.by), c.of-before.ensures)

pub next_wanted-requires : goal.next_wanted-requires
next_wanted-requires g c =
    let a = c.args in
    let m = a.by in
    let K = c.limit-limit.ensures.keyed in
    let p = c.find_stop-label.result in
    let F = c.find_stop-label.ensures.falls in
    let r : ℕ = c.rules-start.result - 1 in
    let h : r < length a.grammar.now.rules = omega (arith, K.grammar.some, length-rules_of a.grammar.now.rules, c.rules-start.ensures.value) in
    let left : F.offset ≡ a.number - c.of-before.result = omega (arith, F.falls.number, F.weights (measure_of m), c.of-before.ensures) in
    subst (λ (o : ℕ). IsSmallNext m a.counts.now p.label p.walk.part o) left
    (small-next a.grammar.now.rules K.grammar a.counts.now (a.names.now, c.requires.counts) m r h p.label p.walk.part F.offset (falls-by a.names.now a.grammar.now.rules m r a.number p F).inside c.find_stop-label.ensures.calls)

pub returns-clause-levels : goal.returns-clause-levels
returns-clause-levels g c =
    let a = c.args in
    let m = a.by in
    let G = a.grammar.now.rules in
    let K = c.limit-limit.ensures.keyed in
    let p = c.find_stop-label.result in
    let F = c.find_stop-label.ensures.falls in
    let r : ℕ = c.rules-start.result - 1 in
    let h : r < length G = omega (arith, K.grammar.some, length-rules_of G, c.rules-start.ensures.value) in
    let left : F.offset ≡ a.number - c.of-before.result = omega (arith, F.falls.number, F.weights (measure_of m), c.of-before.ensures) in
    let here = stop (record { key = p.walk.key; label = p.label; kids = F.kids }) p.walk.part in
    let next = c.next_wanted.ensures ∙ ap (told_next m a.counts.now p.label p.walk.part) (sym left) in
    ap (λ (k : ℕ). route_to (weigh_by m) G (k - 1) a.number) (sym c.rules-start.ensures.value)
    ∙ levels-next G K.grammar a.counts.now (a.names.now, c.requires.counts) m r h a.number p.walk.key F.kids p.label p.walk.part F.offset c.find_stop-label.ensures.calls
    (sought-falls (stop_weight (weigh_by m) G) G r a.number p.walk here F.offset (falls-by a.names.now G m r a.number p F))
    ∙ ap (λ (o : Option Wanted). record { rule = r; key = p.walk.key } ∷ levels_at m G o) (sym next)

pub returns-clause-inside : goal.returns-clause-inside
returns-clause-inside g c =
    let a = c.args in
    let m = a.by in
    let G = a.grammar.now.rules in
    let K = c.limit-limit.ensures.keyed in
    let p = c.find_stop-label.result in
    let F = c.find_stop-label.ensures.falls in
    let r : ℕ = c.rules-start.result - 1 in
    let h : r < length G = omega (arith, K.grammar.some, length-rules_of G, c.rules-start.ensures.value) in
    let left : F.offset ≡ a.number - c.of-before.result = omega (arith, F.falls.number, F.weights (measure_of m), c.of-before.ensures) in
    let next = c.next_wanted.ensures ∙ ap (told_next m a.counts.now p.label p.walk.part) (sym left) in
    subst (λ (o : Option Wanted). IsWithin m G o) (sym next)
    (inside-next G K.grammar a.counts.now (a.names.now, c.requires.counts) m r h p.label p.walk.part F.offset (falls-by a.names.now G m r a.number p F).inside c.find_stop-label.ensures.calls)

pub returns-clause-first : goal.returns-clause-first
returns-clause-first g c =
    let a = c.args in
    let G = a.grammar.now.rules in
    let K = c.limit-limit.ensures.keyed in
    let p = c.find_stop-label.result in
    let F = c.find_stop-label.ensures.falls in
    let r : ℕ = c.rules-start.result - 1 in
    let h : r < length G = omega (arith, K.grammar.some, length-rules_of G, c.rules-start.ensures.value) in
    let last : r ≡ length G - 1 = ap (λ (k : ℕ). k - 1) c.rules-start.ensures.value in
    let met = subst (λ (k : ℕ). HasPassed a.names.now G k p.walk p.passed) last (falls-passed a.names.now G a.by r a.number p F) in
    let e = c.mark_at.ensures in
    first-found a.names.now G [] (record { rule = r; key = p.walk.key }) None c.mark_at.result r h tt (λ e. refl)
    (λ _. both-told (IsMark a.names.now G) (λ mark. mark.key ≡ p.walk.key) c.mark_at.result (e.mark a.names.now a.grammar.now K met) e.key)
    (λ b. absurd (omega (arith, b, last, K.grammar.some, length-rules_of G)))
