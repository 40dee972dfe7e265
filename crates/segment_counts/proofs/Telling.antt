-- Kept numbers, added up and of the whole.
use Rattle.std.proofs.Common.{◌≡◌, ℕ, zero, suc, ◌+◌, ◌-◌, ◌<◌, ◌≤◌, List, [], length, refl, ap, sym, ◌∙◌, arith, sum_by, zero-add, append-nil, ◌⊎◌, inl, inr}
use Rattle.std.proofs.lemmas.Bool.{cases_lt}
use Rattle.plain_tree.specs.declared.kind.Kind.{Kind}
use Rattle.rule_arena.specs.declared.label.Label.{Label}
use Rattle.slt_grammar.specs.Bodies.{params}
use Rattle.slt_grammar.specs.Grammars.{IsGrammar, value}
use Rattle.slt_grammar.specs.Segments.{listed, segment, preorder}
use Rattle.slt_grammar.specs.declared.rules.Rule.{Rule}
use Rattle.slt_grammar.proofs.TourLemmas.{params-preorder, segment-first}
use Rattle.segment_counts.specs.Counting.{told, told_before, AreCounts, AreCountsBelow, CountTable}
use Rattle.segment_counts.specs.Weights.{weigh, count_before}
use Rattle.segment_counts.specs.declared.counts.Measure.{Measure}
use Rattle.segment_counts.specs.declared.counts.Weights.{Weights}
use Rattle.segment_counts.proofs.Numbers.{segments_sum-suc}

mono-step : (m : Measure) (C : List (List Weights)) (q i n : ℕ) → (i < n → told_before m C q i + told m C q i ≤ told_before m C q n) → (i < n) ⊎ (n ≤ i) → i < suc n → told_before m C q i + told m C q i ≤ told_before m C q n + told m C q n
mono-step m C q i n ih (inl l) h = omega (arith, ih l)
mono-step m C q i n ih (inr g) h = let e : i ≡ n = omega arith in omega (arith, ap (λ k. told_before m C q k + told m C q k) e)

pub told_before-mono : (m : Measure) (C : List (List Weights)) (q i n : ℕ) → i < n → told_before m C q i + told m C q i ≤ told_before m C q n
told_before-mono m C q i zero h = absurd (omega arith)
told_before-mono m C q i (suc n) h = mono-step m C q i n (told_before-mono m C q i n) (cases_lt i n) h

-- what is kept of the segments before one is what they weigh
pub told_before-is : (names : List (Kind × List ℕ)) (k : ℕ) (G : List Rule) (C : List (List Weights)) → AreCountsBelow names k G C → (m : Measure) (q i : ℕ) → q < k → told_before m C q i ≡ count_before (weigh names m) G q i
told_before-is names k G C a m q zero h = refl
told_before-is names k G C a m q (suc i) h =
    let ih = told_before-is names k G C a m q i h in
    let e = a.each m q i h in
    let s = segments_sum-suc (weigh names m) (preorder G q) 0 i in
    let z = ap (λ j. sum_by (weigh names m) (segment j (preorder G q))) (zero-add i) in
    omega (arith, ih, e, s, z)

-- labels without parameters are one segment
pub segment-whole : (ls : List Label) → params ls ≡ 0 → segment 0 ls ≡ ls
segment-whole ls e = ap (segment 0) (sym (append-nil ls)) ∙ segment-first ls [] e ∙ append-nil ls

-- the start has no parameters
pub closed-value : (G : List Rule) → IsGrammar G → params (listed (value G) []) ≡ 0
closed-value G g =
    let r : ℕ = length G - 1 in
    let h : r < length G = omega (arith, g.some) in
    omega (arith, params-preorder G r g h, (g.each r h).shaped.start (omega (arith, g.some)))

pub total-told : (names : List (Kind × List ℕ)) (G : List Rule) (C : CountTable) → AreCounts names G C → IsGrammar G → (m : Measure) → told m C.rows (C.rules - 1) 0 ≡ sum_by (weigh names m) (listed (value G) [])
total-told names G C a g m =
    let r : ℕ = length G - 1 in
    let h : r < length G = omega (arith, g.some) in
    ap (λ n. told m C.rows (n - 1) 0) a.rules ∙ a.numbers.each m r 0 h ∙ ap (sum_by (weigh names m)) (segment-whole (preorder G r) (closed-value G g))
