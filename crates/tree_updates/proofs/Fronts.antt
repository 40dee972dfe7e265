-- What stays of the start before the node at which a grammar changes, and the marks there.
use Rattle.std.proofs.Common.{◌≡◌, ℕ, ◌+◌, ◌-◌, ◌<◌, ◌≤◌, List, [], ◌∷◌, length, take, Option, Some, None, ap, sym, ◌∙◌, arith, subst}
use Rattle.plain_tree.specs.declared.kind.Kind.{Kind}
use Rattle.rule_arena.specs.Preorder.{with_subterm}
use Rattle.rule_arena.specs.Terms.{Node, kids_of, labelled}
use Rattle.rule_arena.specs.declared.key.Key.{Key}
use Rattle.rule_arena.specs.declared.label.Label.TheVariants.{Symbol}
use Rattle.slt_grammar.specs.Grammars.{value_at}
use Rattle.slt_grammar.specs.Keyed.{IsKeyed, Keyed, KeyedRule, key_at, nodes_at, rules_of}
use Rattle.slt_grammar.specs.KeyedEdits.{Stands, rule_shared, with_nodes}
use Rattle.slt_grammar.specs.RuleValues.{HasRuleMore, HaveOtherValues}
use Rattle.slt_grammar.specs.declared.level.Level.{Level}
use Rattle.slt_grammar.proofs.KeyedLemmas.{key_at-within, length-rules_of}
use Rattle.path_isolation.specs.Chains.{IsChain}
use Rattle.path_isolation.specs.Isolations.{IsSameInFront}
use Rattle.preorder_address.specs.Chains.{LeadsTo}
use Rattle.preorder_address.specs.Marks.{AreMarks, IsSameBefore, MarksFirst, MarksPlace}
use Rattle.preorder_address.specs.Spots.{IsSpot}
use Rattle.preorder_address.specs.declared.marks.Mark.{Mark}
use Rattle.preorder_address.specs.declared.spot.Spot.{Spot}
use Rattle.preorder_address.proofs.SameBefore.{same-earlier, same-front, same-label, same-refl, same-shared, same-term, same-trans}
use Rattle.tree_updates.specs.CodePlaces.{LeadToPlace}
use Rattle.tree_updates.specs.Fronts.{IsSameBeforeFirst, KeepsMarks, StandsBehindFirst, first_key}
use Rattle.tree_updates.proofs.Bridging.{leads-on}
use Rattle.tree_updates.proofs.IsolatedPlaces.{leading-place}

-- the node of a first level stands in the start
first-there : (G : List KeyedRule) (l : Level) (p : ℕ) → l.rule + 1 ≡ length G → key_at G l.rule p ≡ Some l.key → Some l.key ≡ key_at G (length G - 1) p
first-there G l p e k =
    let last : l.rule ≡ length G - 1 = omega (arith, e) in
    sym k ∙ ap (λ r. key_at G r p) last

-- a node that was isolated stands behind the first one of its chain
pub stands-behind : (G H : List KeyedRule) (levels : List Level) (ps : List ℕ) (key : Key) → IsChain G levels ps → ((r : ℕ) → value_at (rules_of H) r ≡ value_at (rules_of G) r) → IsSameInFront G H ps key → StandsBehindFirst levels G H key
stands-behind G H [] ps key c v f = absurd c
stands-behind G H (l ∷ ls) [] key c v f = absurd c
stands-behind G H (l ∷ ls) (p ∷ ps) key c v f = record {
  place = p;
  first = first-there G l p c.0 c.1;
  same = record { nodes = f.nodes; values = λ r h. v r };
  later = f.place;
  there = f.there;
  behind = f.behind;
}

-- nothing changes
pub front-still : (names : List (Kind × List ℕ)) (G : List KeyedRule) (n : ℕ) (s : Spot) → IsSpot names G n s → IsSameBeforeFirst s.levels.items G G
front-still names G n s S = at s.levels.items S.chain
  where
    at : (levels : List Level) → LeadsTo G (length G - 1) levels (Symbol s.symbol) → IsSameBeforeFirst levels G G
    at [] c = absurd c
    at (l ∷ ls) c =
        let P = leads-on G (length G - 1) l ls (Symbol s.symbol) c tt in
        record { place = P.place; first = sym P.there ∙ ap (λ r. key_at G r P.place) P.rule; same = same-refl P.place G }

pub chain-still : (G : List KeyedRule) (levels : List Level) (ps : List ℕ) → IsChain G levels ps → IsSameBeforeFirst levels G G
chain-still G [] ps c = absurd c
chain-still G (l ∷ ls) [] c = absurd c
chain-still G (l ∷ ls) (p ∷ ps) c = record { place = p; first = first-there G l p c.0 c.1; same = same-refl p G }

pub place-still : (K : Keyed) (sound : IsKeyed K) (place : ℕ) (levels : List Level) → LeadToPlace K.rules levels place → IsSameBeforeFirst levels K.rules K.rules
place-still K sound place levels L = let N = leading-place K sound place levels L in chain-still K.rules levels N.places N.chain

-- changes at a node that stands behind the first one
module _ (levels : List Level) (G : List KeyedRule) (h : Keyed) (k : IsKeyed h) (key : Key) (many : length h.rules ≡ length G) (F : StandsBehindFirst levels G h.rules key) where
  abbrev H : List KeyedRule
  H = h.rules

  some : 0 < length H
  some = let s = k.grammar.some in omega (arith, s, length-rules_of H)

  at-key : (S : Stands H key) → (S.rule ≡ length H - 1) × (S.place ≡ F.later)
  at-key S = k.once key S.rule S.place (length H - 1) F.later S.there F.there

  behind-first : (S : Stands H key) → F.place ≤ S.place
  behind-first S = let e = (at-key S).1 in let b = F.behind in omega (arith, e, b)

  pub front-then : (L : List KeyedRule) → IsSameBefore F.place H L → IsSameBeforeFirst levels G L
  front-then L s = record { place = F.place; first = F.first; same = same-trans F.place G H L (omega (arith, many)) F.same s }

  -- it gets another symbol
  pub front-relabelled : (S : Stands H key) (f : ℕ) (L : List KeyedRule) → HaveOtherValues (length (rules_of H) - 1) (rules_of H) (rules_of L)
      → L ≡ with_nodes H S.rule (labelled (nodes_at H S.rule) S.place (Symbol f)) → IsSameBeforeFirst levels G L
  front-relabelled S f L v is =
      front-then L
      (same-label H L v F.place S.place (Symbol f) some (behind-first S) (is ∙ ap (λ r. with_nodes H r (labelled (nodes_at H r) S.place (Symbol f))) (at-key S).0))

  -- another term comes in its place
  pub front-replaced : (S : Stands H key) (ys : List Node) (L : List KeyedRule) → HaveOtherValues (length (rules_of H) - 1) (rules_of H) (rules_of L)
      → L ≡ with_nodes H S.rule (with_subterm kids_of (nodes_at H S.rule) S.place ys) → IsSameBeforeFirst levels G L
  front-replaced S ys L v is =
      let within = (key_at-within H (length H - 1) S.place key (ap (λ r. key_at H r S.place) (sym (at-key S).0) ∙ S.there)).1 in
      front-then L
      (same-term H L v F.place S.place ys some (behind-first S) (omega (arith, within)) (is ∙ ap (λ r. with_nodes H r (with_subterm kids_of (nodes_at H r) S.place ys)) (at-key S).0))

  -- something comes around it
  pub front-wrapped : (S : Stands H key) (L : List KeyedRule) → HaveOtherValues (length (rules_of H) - 1) (rules_of H) (rules_of L)
      → take S.place (nodes_at L (length L - 1)) ≡ take S.place (nodes_at H (length H - 1)) → IsSameBeforeFirst levels G L
  front-wrapped S L v e = front-then L (same-earlier F.place S.place H L (behind-first S) (same-front H L v S.place e))

  -- the term behind it becomes a rule, and then something comes around it
  pub front-shared : (p : ℕ) → key_at H (length H - 1) p ≡ Some key → (child call : Key) → key_at H (length H - 1) (p + 1) ≡ Some child → (S W : List KeyedRule) → HasRuleMore (length H - 1) (rules_of H) (rules_of S) → S ≡ rule_shared H (length H - 1) (p + 1) call
      → HaveOtherValues (length (rules_of S) - 1) (rules_of S) (rules_of W) → take p (nodes_at W (length W - 1)) ≡ take p (nodes_at S (length S - 1)) → IsSameBeforeFirst levels G W
  front-shared p there child call next S W more new v e =
      let b : F.place ≤ p = behind-first (record { rule = length H - 1; place = p; there = there }) in
      let within = (key_at-within H (length H - 1) (p + 1) child next).1 in
      let m = more.more in
      let one = same-shared F.place (p + 1) call H S some (omega (arith, b)) (omega (arith, within)) more new in
      let two = same-earlier F.place p S W b (same-front S W v p e) in
      front-then W (same-trans F.place H S W (omega (arith, m, length-rules_of H, length-rules_of S)) one two)

-- the mark of the first level's node is that of its place
first-placed : (names : List (Kind × List ℕ)) (G : List KeyedRule) (levels : List Level) (first : Option Mark) (place : ℕ) → MarksFirst names G levels first → first_key levels ≡ key_at G (length G - 1) place → MarksPlace names G place first
first-placed names G levels None place m e = tt
first-placed names G levels (Some mark) place m e = (m.0, sym e ∙ m.1)

-- marks that were cut at the first level's node are marks of each start that is the same before it
pub cut-stay : (names : List (Kind × List ℕ)) (g : Keyed) (levels : List Level) (own first : Option Mark) (old new : List Mark)
    → ((names : List (Kind × List ℕ)) (g : Keyed) (H : List KeyedRule) (place : ℕ) → IsKeyed g → AreMarks names g.rules old → MarksPlace names g.rules place first → IsSameBefore place g.rules H → AreMarks names H new)
    → IsKeyed g → AreMarks names g.rules old → first ≡ own → MarksFirst names g.rules levels own → (K : List KeyedRule) → IsSameBeforeFirst levels g.rules K → AreMarks names K new
cut-stay names g levels own first old new cut k a told m K s =
    let m' : MarksFirst names g.rules levels first = subst (λ (o : Option Mark). MarksFirst names g.rules levels o) (sym told) m in
    cut names g K s.place k a (first-placed names g.rules levels first s.place m' s.first) s.same

-- what keeps marks: nothing changes
pub keeps-same : (levels : List Level) (G H : List KeyedRule) → IsSameBeforeFirst levels G G → H ≡ G → KeepsMarks levels G H
keeps-same levels G H s e = λ names marks f. f H (subst (λ (K : List KeyedRule). IsSameBeforeFirst levels G K) (sym e) s)

pub keeps-still : (names : List (Kind × List ℕ)) (G : List KeyedRule) (n : ℕ) (s : Spot) → IsSpot names G n s → (H : List KeyedRule) → H ≡ G → KeepsMarks s.levels.items G H
keeps-still names G n s S H e = keeps-same s.levels.items G H (front-still names G n s S) e

-- or what changes is behind, and then rules go that nobody calls
pub keeps-swept : (levels : List Level) (G R K H : List KeyedRule) → R ≡ G → IsSameBeforeFirst levels R K → ((names : List (Kind × List ℕ)) (marks : List Mark) → AreMarks names K marks → AreMarks names H marks) → KeepsMarks levels G H
keeps-swept levels G R K H e s w = λ names marks f. w names marks (f K (subst (λ (Q : List KeyedRule). IsSameBeforeFirst levels Q K) e s))
