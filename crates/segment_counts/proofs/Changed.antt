-- Counts again, after a grammar and its rows changed.
use Rattle.std.proofs.Common.{◌≡◌, ◌≢◌, ℕ, zero, suc, ◌+◌, ◌-◌, ◌*◌, ◌^◌, ◌<◌, ◌≤◌, List, [], ◌∷◌, ◌++◌, length, get_or, refl, ap, sym, ◌∙◌, arith, sum_by, ◌⊎◌, inl, inr, subst, append-nil}
use Rattle.std.specs.Prelude.{set}
use Rattle.std.specs.List.{insert, remove}
use Rattle.std.proofs.lemmas.Bool.{cases_lt}
use Rattle.std.proofs.lemmas.List.Sums.{sum_by-cons}
use Rattle.std.proofs.lemmas.List.{get_or-set_same, get_or-set_other}
use Rattle.std.proofs.lemmas.List.Edits.{get_or-insert_at, get_or-insert_below, get_or-insert_above, get_or-remove_below, get_or-remove_above}
use Rattle.plain_tree.specs.declared.kind.Kind.{Kind}
use Rattle.rule_arena.specs.declared.label.Label.{Label}
use Rattle.rule_arena.specs.declared.label.Label.TheVariants.{Bottom, Symbol, Param}
use Rattle.slt_grammar.specs.Bodies.{params}
use Rattle.slt_grammar.specs.Grammars.{IsGrammar, value, value_at}
use Rattle.slt_grammar.specs.Segments.{listed, preorder, segment}
use Rattle.slt_grammar.specs.declared.rules.Rule.{Rule}
use Rattle.slt_grammar.specs.Terms.{Term, Leaf, Node, Hole}
use Rattle.slt_grammar.proofs.Keeping.{shifted-before, shifted-behind}
use Rattle.slt_grammar.specs.RuleValues.{HasRuleMore, HaveOtherValues}
use Rattle.segment_counts.specs.Changes.{HasMore, IsRowOf, IsWeighed, leaf_weights, lowered, raised, start_weights}
use Rattle.segment_counts.specs.Counting.{AreCounts, AreCountsBelow, CountTable, no_row, no_weights, told, weight_by}
use Rattle.segment_counts.specs.Weights.{all_weight, count, node_weight, text_weight, weigh}
use Rattle.segment_counts.specs.declared.counts.Measure.{Measure}
use Rattle.segment_counts.specs.declared.counts.Measure.TheVariants.{Nodes, Texts, All}
use Rattle.segment_counts.specs.declared.counts.Weights.{Weights}
use Rattle.slt_grammar.proofs.TourLemmas.{segment-others}
use Rattle.segment_counts.proofs.Cuts.{padded}
use Rattle.segment_counts.proofs.Rows.{few-row, length-row}
use Rattle.segment_counts.proofs.Telling.{closed-value, segment-whole, total-told}

-- these are the counts of the grammar's rules but for one of them
pub record AreCountsBut (names : List (Kind × List ℕ)) (rule : ℕ) (G : List Rule) (C : CountTable) : Type 0 where
  pub rules : C.rules ≡ length G
  pub room : length G ≤ length C.rows
  pub others : (q : ℕ) → q ≢ rule → q < length G → IsRowOf names (value_at G q) (get_or C.rows q no_row)

nodes-behind : (t : Term) (k : List Label) → sum_by node_weight (listed t k) ≡ sum_by node_weight (listed t []) + sum_by node_weight k
nodes-behind Leaf k = omega (arith, sum_by-cons node_weight Bottom k)
nodes-behind (Hole i) k = omega (arith, sum_by-cons node_weight Param k)
nodes-behind (Node f a b) k = omega (arith, sum_by-cons node_weight (Symbol f) (listed a (listed b k)), sum_by-cons node_weight (Symbol f) (listed a (listed b [])), nodes-behind a (listed b k), nodes-behind b k, nodes-behind a (listed b []))

params-behind : (t : Term) (k : List Label) → params (listed t k) ≡ params (listed t []) + params k
params-behind Leaf k = omega arith
params-behind (Hole i) k = omega arith
params-behind (Node f a b) k = omega (arith, params-behind a (listed b k), params-behind b k, params-behind a (listed b []))

-- with its parameters a value has one bottom more than it has nodes
pub all-closed : (t : Term) (k : List Label) → sum_by all_weight (listed t k) + params (listed t []) ≡ 2 * sum_by node_weight (listed t []) + 1 + sum_by all_weight k
all-closed Leaf k = omega (arith, sum_by-cons all_weight Bottom k)
all-closed (Hole i) k = omega (arith, sum_by-cons all_weight Param k)
all-closed (Node f a b) k =
    omega (arith, sum_by-cons all_weight (Symbol f) (listed a (listed b k)), sum_by-cons node_weight (Symbol f) (listed a (listed b [])), all-closed a (listed b k), all-closed b k, nodes-behind a (listed b []), params-behind a (listed b []))

pub all-is : (t : Term) → params (listed t []) ≡ 0 → sum_by all_weight (listed t []) ≡ 2 * sum_by node_weight (listed t []) + 1
all-is t e = omega (arith, e, all-closed t [])

module _ (names : List (Kind × List ℕ)) where
  -- counts are a row for each rule
  pub row-counted : (G : List Rule) (C : CountTable) → AreCounts names G C → (q : ℕ) → q < length G → IsRowOf names (value_at G q) (get_or C.rows q no_row)
  row-counted G C a q h = record { each = λ m i. a.numbers.each m q i h; small = λ m. a.numbers.small m q h }

  pub counted-rows : (G : List Rule) (C : CountTable) → C.rules ≡ length G → length G ≤ length C.rows → ((q : ℕ) → q < length G → IsRowOf names (value_at G q) (get_or C.rows q no_row)) → AreCounts names G C
  counted-rows G C n r f = record { rules = n; room = r; numbers = record { each = λ m q i h. (f q h).each m i; small = λ m q h. (f q h).small m } }

  -- a row of an equal value
  row-same : (s t : Term) (R S : List Weights) → s ≡ t → R ≡ S → IsRowOf names s R → IsRowOf names t S
  row-same s t R S e f r = subst (λ (x : Term). IsRowOf names x S) e (subst (λ (X : List Weights). IsRowOf names s X) f r)

  -- all rows but one, and that one
  pub counted-with : (rule : ℕ) (G : List Rule) (C : CountTable) → AreCountsBut names rule G C → IsRowOf names (value_at G rule) (get_or C.rows rule no_row) → AreCounts names G C
  counted-with rule G C a r = counted-rows G C a.rules a.room (λ q h. by_place q h (cases_lt q rule))
    where
      by_place : (q : ℕ) → q < length G → (q < rule) ⊎ (rule ≤ q) → IsRowOf names (value_at G q) (get_or C.rows q no_row)
      by_place q h (inl l) = a.others q (omega (arith, l)) h
      by_place q h (inr g) = behind (cases_lt rule q)
        where
          behind : (rule < q) ⊎ (q ≤ rule) → IsRowOf names (value_at G q) (get_or C.rows q no_row)
          behind (inl l) = a.others q (omega (arith, l)) h
          behind (inr d) = let e : rule ≡ q = omega (arith, g, d) in subst (λ (j : ℕ). IsRowOf names (value_at G j) (get_or C.rows j no_row)) e r

  pub but-below : (rule : ℕ) (G : List Rule) (C : CountTable) → AreCountsBut names rule G C → rule ≤ length G → AreCountsBelow names rule G C.rows
  but-below rule G C a h = record { each = λ m q i l. (a.others q (omega (arith, l)) (omega (arith, l, h))).each m i; small = λ m q l. (a.others q (omega (arith, l)) (omega (arith, l, h))).small m }

  -- one row was replaced
  pub but-set : (rule : ℕ) (G H : List Rule) (C D : CountTable) → AreCountsBut names rule G C → HaveOtherValues rule G H → (R : List Weights) → D.rows ≡ set C.rows rule R → D.rules ≡ C.rules → length D.rows ≡ length C.rows → AreCountsBut names rule H D
  but-set rule G H C D a v R e n l = record {
    rules = omega (arith, n, a.rules, v.rules);
    room = omega (arith, l, a.room, v.rules);
    others = λ q d h. row-same _ _ _ _ (sym (v.values q d (omega (arith, h, v.rules)))) (sym (get_or-set_other C.rows rule q R no_row d) ∙ ap (λ (X : List (List Weights)). get_or X q no_row) (sym e)) (a.others q d (omega (arith, h, v.rules)));
  }

  pub counts-but : (rule : ℕ) (G : List Rule) (C : CountTable) → AreCounts names G C → AreCountsBut names rule G C
  counts-but rule G C a = record { rules = a.rules; room = a.room; others = λ q d h. row-counted G C a q h }

  pub same-values : (rule : ℕ) (G : List Rule) → HaveOtherValues rule G G
  same-values rule G = record { rules = refl; values = λ r d h. refl }

  -- a row was put in
  module _ (place : ℕ) (G H : List Rule) (C D : CountTable) (a : AreCounts names G C) (v : HasRuleMore place G H) (free : C.rules < length C.rows) (n : D.rules ≡ C.rules + 1)
      (R : List Weights) (e : D.rows ++ no_row ∷ [] ≡ insert C.rows place R) (l : length D.rows ≡ length C.rows) where
    in-room : place ≤ length C.rows
    in-room = omega (arith, v.within, a.room)

    there : (q : ℕ) → get_or (insert C.rows place R) q no_row ≡ get_or D.rows q no_row
    there q = ap (λ (X : List (List Weights)). get_or X q no_row) (sym e) ∙ padded D.rows 1 q

    other : (q : ℕ) → q ≢ place → q < length H → (q < place) ⊎ (place ≤ q) → IsRowOf names (value_at H q) (get_or D.rows q no_row)
    other q d h (inl b) =
        let w : q < length G = omega (arith, b, v.within) in
        row-same _ _ _ _ (sym (v.values q w) ∙ ap (value_at H) (shifted-before place q b)) (sym (get_or-insert_below C.rows place R no_row q b in-room) ∙ there q) (row-counted G C a q w)
    other zero d h (inr g) = let z : zero ≡ place = omega (arith, g) in absurd (d z)
    other (suc r) d h (inr g) =
        let b : place ≤ r = omega (arith, g, d) in
        let w : r < length G = omega (arith, h, v.more) in
        let s : get_or (insert C.rows place R) (suc r) no_row ≡ get_or C.rows r no_row = let z : r + 1 ≡ suc r = omega arith in subst (λ (j : ℕ). get_or (insert C.rows place R) j no_row ≡ get_or C.rows r no_row) z (get_or-insert_above C.rows place R no_row r b in-room) in
        row-same _ _ _ _ (sym (v.values r w) ∙ ap (value_at H) (shifted-behind place r b)) (sym s ∙ there (suc r)) (row-counted G C a r w)

    pub but-inserted : AreCountsBut names place H D
    but-inserted = record {
      rules = omega (arith, n, a.rules, v.more);
      room = omega (arith, l, free, a.rules, v.more);
      others = λ q d h. other q d h (cases_lt q place);
    }

  -- a row was taken out
  module _ (place : ℕ) (G H : List Rule) (C D : CountTable) (a : AreCounts names H C) (v : HasRuleMore place G H) (n : D.rules + 1 ≡ C.rules) (e : D.rows ≡ remove C.rows place ++ no_row ∷ []) (l : length D.rows ≡ length C.rows) where
    in-rows : place < length C.rows
    in-rows = omega (arith, v.within, v.more, a.room)

    left : (q : ℕ) → get_or (remove C.rows place) q no_row ≡ get_or D.rows q no_row
    left q = sym (padded (remove C.rows place) 1 q) ∙ ap (λ (X : List (List Weights)). get_or X q no_row) (sym e)

    kept : (q : ℕ) → q < length G → (q < place) ⊎ (place ≤ q) → IsRowOf names (value_at G q) (get_or D.rows q no_row)
    kept q h (inl b) = row-same _ _ _ _ (ap (value_at H) (sym (shifted-before place q b)) ∙ v.values q h) (sym (get_or-remove_below C.rows place no_row q b in-rows) ∙ left q) (row-counted H C a q (omega (arith, h, v.more)))
    kept q h (inr g) =
        let z : suc q ≡ q + 1 = omega arith in
        row-same _ _ _ _ (ap (value_at H) (sym z ∙ sym (shifted-behind place q g)) ∙ v.values q h) (sym (get_or-remove_above C.rows place no_row q g in-rows) ∙ left q) (row-counted H C a (q + 1) (omega (arith, h, v.more)))

    pub counted-removed : AreCounts names G D
    counted-removed = counted-rows G D (omega (arith, n, a.rules, v.more)) (omega (arith, l, a.room, v.more)) (λ q h. kept q h (cases_lt q place))

  -- the row of a value without parameters
  pub closed-row : (t : Term) (w : Weights) → params (listed t []) ≡ 0 → w.nodes ≡ sum_by node_weight (listed t []) → w.texts ≡ sum_by (text_weight names) (listed t []) → w.all ≡ 2 * w.nodes + 1 → ((m : Measure) → weight_by m w < 2 ^ 64) → IsRowOf names t (w ∷ [])
  closed-row t w z n x a b = record { each = each; small = λ m. omega (arith, b m, whole m) }
    where
      ls : List Label
      ls = listed t []

      whole : (m : Measure) → weight_by m w ≡ sum_by (weigh names m) (listed t [])
      whole Nodes = n
      whole Texts = x
      whole All = omega (arith, a, n, all-is t z)

      each : (m : Measure) (i : ℕ) → weight_by m (get_or (w ∷ []) i no_weights) ≡ sum_by (weigh names m) (segment i (listed t []))
      each m zero = whole m ∙ ap (sum_by (weigh names m)) (sym (segment-whole (listed t []) z))
      each m (suc i) = nothing m ∙ ap (sum_by (weigh names m)) (sym (segment-others i (listed t []) [] z) ∙ ap (segment (suc i)) (append-nil (listed t [])))
        where
          nothing : (m : Measure) → weight_by m no_weights ≡ 0
          nothing Nodes = refl
          nothing Texts = refl
          nothing All = refl

  pub leaf-row : (t : Term) (nodes texts : ℕ) → IsWeighed names t nodes texts → nodes < 2 ^ 63 → texts < 2 ^ 64 → IsRowOf names t (leaf_weights nodes texts ∷ [])
  leaf-row t nodes texts w h k = closed-row t (leaf_weights nodes texts) w.closed (sym w.nodes_are) (sym w.texts_are) refl small
    where
      small : (m : Measure) → weight_by m (leaf_weights nodes texts) < 2 ^ 64
      small Nodes = omega (arith, h)
      small Texts = k
      small All = omega (arith, h)

  pub leaf-counted : (place : ℕ) (G H : List Rule) (C D : CountTable) (nodes texts : ℕ) → AreCounts names G C → HasRuleMore place G H → IsWeighed names (value_at H place) nodes texts → C.rules < length C.rows → D.rules ≡ C.rules + 1
      → D.rows ++ no_row ∷ [] ≡ insert C.rows place (leaf_weights nodes texts ∷ []) → length D.rows ≡ length C.rows → nodes < 2 ^ 63 → texts < 2 ^ 64 → AreCounts names H D
  leaf-counted place G H C D nodes texts a v w free n e l f g =
      let there : get_or D.rows place no_row ≡ leaf_weights nodes texts ∷ [] = sym (padded D.rows 1 place) ∙ ap (λ (X : List (List Weights)). get_or X place no_row) e ∙ get_or-insert_at C.rows place (leaf_weights nodes texts ∷ []) no_row (omega (arith, v.within, a.room)) in
      counted-with place H D (but-inserted place G H C D a v free n (leaf_weights nodes texts ∷ []) e l)
      (subst (λ (R : List Weights). IsRowOf names (value_at H place) R) (sym there) (leaf-row (value_at H place) nodes texts w f g))

  -- the start's row was replaced
  pub start-counted : (G H : List Rule) (C D : CountTable) (w : Weights) → AreCounts names G C → HaveOtherValues (length G - 1) G H → 0 < C.rules → D.rules ≡ C.rules → D.rows ≡ set C.rows (C.rules - 1) (w ∷ [])
      → IsRowOf names (value H) (w ∷ []) → AreCounts names H D
  start-counted G H C D w a v s n e r =
      let R : List Weights = w ∷ [] in
      let f : D.rows ≡ set C.rows (length G - 1) R = e ∙ ap (λ k. set C.rows (k - 1) R) a.rules in
      let l : length D.rows ≡ length C.rows = ap length f ∙ length-row C.rows (length G - 1) R in
      let there : get_or D.rows (length G - 1) no_row ≡ R = ap (λ (X : List (List Weights)). get_or X (length G - 1) no_row) f ∙ get_or-set_same C.rows (length G - 1) R no_row (omega (arith, s, a.rules, a.room)) in
      let last : value H ≡ value_at H (length G - 1) = ap (λ k. value_at H (k - 1)) v.rules in
      counted-with (length G - 1) H D (but-set (length G - 1) G H C D (counts-but (length G - 1) G C a) v R f n l) (row-same _ _ _ _ last (sym there) r)

  module _ (G H : List Rule) (C D : CountTable) (nodes texts : ℕ) (a : AreCounts names G C) (v : HaveOtherValues (length G - 1) G H) (s : 0 < C.rules) (n : D.rules ≡ C.rules) where
    old-is : (m : Measure) → params (listed (value G) []) ≡ 0 → weight_by m (start_weights C) ≡ sum_by (weigh names m) (listed (value G) [])
    old-is m z = ap (λ k. told m C.rows (k - 1) 0) a.rules ∙ a.numbers.each m (length G - 1) 0 (omega (arith, s, a.rules)) ∙ ap (sum_by (weigh names m)) (segment-whole (listed (value G) []) z)

    pub start-raised : HasMore names (value G) (value H) nodes texts → D.rows ≡ set C.rows (C.rules - 1) (raised (start_weights C) nodes texts ∷ []) → ((m : Measure) → weight_by m (raised (start_weights C) nodes texts) < 2 ^ 64) → AreCounts names H D
    start-raised w e b = start-counted G H C D (raised (start_weights C) nodes texts) a v s n e
        (closed-row (value H) (raised (start_weights C) nodes texts) w.closed_too (omega (arith, old-is Nodes w.closed, w.nodes_are)) (omega (arith, old-is Texts w.closed, w.texts_are))
        (omega (arith, old-is All w.closed, old-is Nodes w.closed, all-is (value G) w.closed)) b)

    pub start-lowered : HasMore names (value H) (value G) nodes texts → D.rows ≡ set C.rows (C.rules - 1) (lowered (start_weights C) nodes texts ∷ []) → AreCounts names H D
    start-lowered w e = start-counted G H C D (lowered (start_weights C) nodes texts) a v s n e
        (closed-row (value H) (lowered (start_weights C) nodes texts) w.closed (omega (arith, old-is Nodes w.closed_too, w.nodes_are)) (omega (arith, old-is Texts w.closed_too, w.texts_are))
        (omega (arith, old-is All w.closed_too, old-is Nodes w.closed_too, all-is (value G) w.closed_too, w.nodes_are)) small)
      where
        b : (m : Measure) → weight_by m (start_weights C) < 2 ^ 64
        b m = omega (arith, old-is m w.closed_too, a.numbers.small m (length G - 1) (omega (arith, s, a.rules)))

        small : (m : Measure) → weight_by m (lowered (start_weights C) nodes texts) < 2 ^ 64
        small Nodes = omega (arith, b Nodes)
        small Texts = omega (arith, b Texts)
        small All = omega (arith, b All)

-- all rules but the last were counted, and the last one's value is that of the start whose row was there
module _ (names : List (Kind × List ℕ)) (G H : List Rule) (C : CountTable) (a : AreCounts names G C) (g : IsGrammar G) (same : value H ≡ value G) where
  start-is : (m : Measure) → weight_by m (start_weights C) ≡ sum_by (weigh names m) (listed (value H) [])
  start-is m = total-told names G C a g m ∙ ap (λ (t : Term). sum_by (weigh names m) (listed t [])) (sym same)

  start-small : (m : Measure) → sum_by (weigh names m) (listed (value H) []) < 2 ^ 64
  start-small m = subst (λ (t : Term). sum_by (weigh names m) (listed t []) < 2 ^ 64) (sym same) (a.numbers.small m (length G - 1) (omega (arith, g.some)))

  closed : params (listed (value H) []) ≡ 0
  closed = ap (λ (t : Term). params (listed t [])) same ∙ closed-value G g

  pub few-kept : sum_by node_weight (listed (value H) []) < 2 ^ 63
  few-kept = omega (arith, start-small All, all-is (value H) closed)

  start-row : IsRowOf names (value H) (start_weights C ∷ [])
  start-row =
      closed-row names (value H) (start_weights C) closed (start-is Nodes) (start-is Texts) (omega (arith, start-is Nodes, start-is All, all-is (value H) closed)) (λ m. omega (arith, start-is m, start-small m))

  pub start-kept : (last : ℕ) (D E : CountTable) → last + 1 ≡ length H → AreCountsBelow names last H D.rows → D.rules ≡ last → length H ≤ length D.rows → E.rows ≡ set D.rows D.rules (start_weights C ∷ []) → E.rules ≡ D.rules + 1 → AreCounts names H E
  start-kept last D E h b n l e f = counted-rows names H E (omega (arith, f, n, h)) (omega (arith, l, ap length there, length-row D.rows last R)) (λ q k. by_place q k (cases_lt q last))
    where
      R : List Weights
      R = start_weights C ∷ []

      there : E.rows ≡ set D.rows last R
      there = e ∙ ap (λ k. set D.rows k R) n

      by_place : (q : ℕ) → q < length H → (q < last) ⊎ (last ≤ q) → IsRowOf names (value_at H q) (get_or E.rows q no_row)
      by_place q k (inl d) =
          let r : get_or D.rows q no_row ≡ get_or E.rows q no_row = sym (get_or-set_other D.rows last q R no_row (omega (arith, d))) ∙ ap (λ (X : List (List Weights)). get_or X q no_row) (sym there) in
          subst (λ (X : List Weights). IsRowOf names (value_at H q) X) r (record { each = λ m i. b.each m q i d; small = λ m. b.small m q d })
      by_place q k (inr d) =
          let z : last ≡ q = omega (arith, d, k) in
          let r : R ≡ get_or E.rows last no_row = sym (get_or-set_same D.rows last R no_row (omega (arith, l, h))) ∙ ap (λ (X : List (List Weights)). get_or X last no_row) (sym there) in
          let v : length H - 1 ≡ last = omega (arith, h) in
          subst (λ (j : ℕ). IsRowOf names (value_at H j) (get_or E.rows j no_row)) z (subst (λ (X : List Weights). IsRowOf names (value_at H last) X) r (subst (λ (j : ℕ). IsRowOf names (value_at H j) R) v start-row))

pub raised-small : (w : Weights) (nodes texts : ℕ) → w.nodes + nodes < 2 ^ 64 → w.texts + texts < 2 ^ 64 → w.all + 2 * nodes < 2 ^ 64 → (m : Measure) → weight_by m (raised w nodes texts) < 2 ^ 64
raised-small w nodes texts h k l Nodes = h
raised-small w nodes texts h k l Texts = k
raised-small w nodes texts h k l All = l
