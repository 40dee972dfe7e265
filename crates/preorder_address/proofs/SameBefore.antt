-- Changes of the start behind a place, and names that grow, as marks see them.
use Rattle.std.proofs.Common.{◌≡◌, ℕ, zero, suc, ◌+◌, ◌-◌, ◌<◌, ◌≤◌, List, [], ◌∷◌, ◌++◌, length, drop, take, Option, Some, None, refl, ap, sym, ◌∙◌, arith, sum_by}
use Rattle.std.specs.Prelude.{slice_get}
use Rattle.std.proofs.lemmas.List.{length-take-le, take-append-le, take-take}
use Rattle.std.proofs.lemmas.List.Elements.{All-weaker}
use Rattle.plain_tree.specs.declared.kind.Kind.{Kind}
use Rattle.rule_arena.specs.Preorder.{span, subterm, with_subterm}
use Rattle.rule_arena.specs.Terms.{Node, kids_of, labelled}
use Rattle.rule_arena.specs.declared.key.Key.{Key}
use Rattle.rule_arena.specs.declared.label.Label.{Label}
use Rattle.rule_arena.specs.declared.label.Label.TheVariants.{Call}
use Rattle.rule_arena.proofs.ListLemmas.{get-take}
use Rattle.slt_grammar.specs.Grammars.{value_at}
use Rattle.slt_grammar.specs.Keyed.{KeyedRule, key_at, nodes_at, rules_of}
use Rattle.slt_grammar.specs.KeyedEdits.{rule_shared, with_nodes}
use Rattle.slt_grammar.specs.declared.level.Level.{Level}
use Rattle.slt_grammar.specs.RuleValues.{HasRuleMore, HaveOtherValues}
use Rattle.slt_grammar.specs.Segments.{part_of}
use Rattle.slt_grammar.proofs.Keeping.{shifted-before}
use Rattle.slt_grammar.proofs.KeyedEdits.{nodes-with_nodes}
use Rattle.slt_grammar.proofs.KeyedLemmas.{length-rules_of}
use Rattle.segment_counts.specs.Weights.{weigh}
use Rattle.segment_counts.specs.declared.counts.Measure.{Measure}
use Rattle.preorder_address.specs.Marks.{AreMarks, IsMark, IsSameBefore, MarksFirst, MarksPlace}
use Rattle.preorder_address.specs.Routes.{stop_weight}
use Rattle.preorder_address.specs.declared.marks.Mark.{Mark}
use Rattle.preorder_address.proofs.TourSums.{none-behind, tour-sums}

pub same-refl : (place : ℕ) (G : List KeyedRule) → IsSameBefore place G G
same-refl place G = record { nodes = refl; values = λ r h. refl }

pub same-trans : (place : ℕ) (G H K : List KeyedRule) → length G ≤ length H → IsSameBefore place G H → IsSameBefore place H K → IsSameBefore place G K
same-trans place G H K h s t = record { nodes = t.nodes ∙ s.nodes; values = λ r b. t.values r (omega (arith, b, h)) ∙ s.values r b }

-- an earlier place
pub same-earlier : (place later : ℕ) (G H : List KeyedRule) → place ≤ later → IsSameBefore later G H → IsSameBefore place G H
same-earlier place later G H h s = record {
  nodes =
      sym (take-take place later (nodes_at H (length H - 1)) h)
      ∙ ap (take place) s.nodes
      ∙ take-take place later (nodes_at G (length G - 1)) h;
  values = s.values;
}

-- the mark of the first level's node is that of the place at which the level's key stands
pub marks-place : (names : List (Kind × List ℕ)) (G : List KeyedRule) (level : Level) (levels : List Level) (first : Option Mark) (place : ℕ) → MarksFirst names G (level ∷ levels) first → key_at G (length G - 1) place ≡ Some level.key → MarksPlace names G place first
marks-place names G level levels None place m e = tt
marks-place names G level levels (Some mark) place m e = (m.0, e ∙ m.1)

-- marks by other names by which the start's nodes stand for as much
pub marks-renamed : (names more : List (Kind × List ℕ)) (G : List KeyedRule) → ((m : Measure) (p : ℕ) (x : Node) (i : ℕ) → slice_get (nodes_at G (length G - 1)) p ≡ Some x → sum_by (weigh more m) (part_of (rules_of G) x.label i) ≡ sum_by (weigh names m) (part_of (rules_of G) x.label i))
    → (ms : List Mark) → AreMarks names G ms → AreMarks more G ms
marks-renamed names more G same ms a = All-weaker (IsMark names G) (IsMark more G) renamed ms a
  where
    renamed : (mark : Mark) → IsMark names G mark → IsMark more G mark
    renamed mark t =
        let ns : List Node = nodes_at G (length G - 1) in
        record {
          place = t.place;
          there = t.there;
          weights = λ m.
              t.weights m
              ∙ sym (tour-sums (stop_weight (weigh more m) G) (stop_weight (weigh names m) G) kids_of ([] ∷ []) (take t.place ns) (λ p x e i. same m p x i (get-take t.place ns p x e).1) (none-behind (stop_weight (weigh more m) G) (stop_weight (weigh names m) G)));
        }

-- another term at a place
take-with_subterm : (place p : ℕ) (ns ys : List Node) → place ≤ p → p ≤ length ns → take place (with_subterm kids_of ns p ys) ≡ take place ns
take-with_subterm place p ns ys h l =
    take-append-le place (take p ns) (ys ++ drop (span kids_of 1 (drop p ns)) (drop p ns)) (omega (arith, h, length-take-le p ns l))
    ∙ take-take place p ns h

-- another label at a place
take-labelled : (place p : ℕ) (ns : List Node) (l : Label) → place ≤ p → take place (labelled ns p l) ≡ take place ns
take-labelled place p [] l h = refl
take-labelled zero p (n ∷ ns) l h = refl
take-labelled (suc place) zero (n ∷ ns) l h = absurd (omega (arith, h))
take-labelled (suc place) (suc p) (n ∷ ns) l h = ap (λ ms. n ∷ ms) (take-labelled place p ns l (omega (arith, h)))

-- as many rules, and the start alone has another value
module _ (G H : List KeyedRule) (v : HaveOtherValues (length (rules_of G) - 1) (rules_of G) (rules_of H)) where
  abbrev start : ℕ
  start = length G - 1

  many : length H ≡ length G
  many = sym (length-rules_of H) ∙ v.rules ∙ length-rules_of G

  others : (r : ℕ) → r + 1 < length G → value_at (rules_of H) r ≡ value_at (rules_of G) r
  others r h = v.values r (λ e. omega (arith, e, h, length-rules_of G)) (omega (arith, h, length-rules_of G))

  pub same-front : (place : ℕ) → take place (nodes_at H (length H - 1)) ≡ take place (nodes_at G (length G - 1)) → IsSameBefore place G H
  same-front place e = record { nodes = e; values = others }

  same-nodes : (place : ℕ) (ns : List Node) → 0 < length G → H ≡ with_nodes G start ns → take place ns ≡ take place (nodes_at G start) → IsSameBefore place G H
  same-nodes place ns some e t =
      same-front place (
      ap (λ n. take place (nodes_at H (n - 1))) many
      ∙ ap (λ K. take place (nodes_at K start)) e
      ∙ ap (take place) (nodes-with_nodes G start ns (omega (arith, some)))
      ∙ t)

  -- another term at this place of the start or behind
  pub same-term : (place p : ℕ) (ys : List Node) → 0 < length G → place ≤ p → p ≤ length (nodes_at G (length G - 1)) → H ≡ with_nodes G (length G - 1) (with_subterm kids_of (nodes_at G (length G - 1)) p ys) → IsSameBefore place G H
  same-term place p ys some h l e = same-nodes place (with_subterm kids_of (nodes_at G start) p ys) some e (take-with_subterm place p (nodes_at G start) ys h l)

  -- another label
  pub same-label : (place p : ℕ) (l : Label) → 0 < length G → place ≤ p → H ≡ with_nodes G (length G - 1) (labelled (nodes_at G (length G - 1)) p l) → IsSameBefore place G H
  same-label place p l some h e = same-nodes place (labelled (nodes_at G start) p l) some e (take-labelled place p (nodes_at G start) l h)

nodes-last : (xs : List KeyedRule) (R S : KeyedRule) → nodes_at (xs ++ R ∷ S ∷ []) (suc (length xs)) ≡ S.nodes
nodes-last [] R S = refl
nodes-last (x ∷ xs) R S = nodes-last xs R S

-- the term at this place of the start or behind becomes a rule
pub same-shared : (place p : ℕ) (key : Key) (G H : List KeyedRule) → 0 < length G → place ≤ p → p ≤ length (nodes_at G (length G - 1)) → HasRuleMore (length G - 1) (rules_of G) (rules_of H) → H ≡ rule_shared G (length G - 1) p key
    → IsSameBefore place G H
same-shared place p key G H some h l v e =
    let start : ℕ = length G - 1 in
    let ns : List Node = nodes_at G (length G - 1) in
    let call : Node = record { key = key; label = Call (length G - 1); kids = 0 } in
    let R : KeyedRule = record { rank = 0; nodes = subterm kids_of ns p } in
    let S : KeyedRule = record { rank = 0; nodes = with_subterm kids_of ns p (call ∷ []) } in
    let first : length (take start G) ≡ start = length-take-le start G (omega arith) in
    let last : length H - 1 ≡ suc (length (take start G)) = omega (arith, some, first, length-rules_of H, v.more, length-rules_of G) in
    record {
      nodes =
          ap (λ n. take place (nodes_at H n)) last
          ∙ ap (λ K. take place (nodes_at K (suc (length (take start G))))) e
          ∙ ap (take place) (nodes-last (take start G) R S)
          ∙ take-with_subterm place p ns (call ∷ []) h l;
      values = λ r b.
          ap (value_at (rules_of H)) (sym (shifted-before start r (omega (arith, b))))
          ∙ v.values r (omega (arith, b, length-rules_of G));
    }
