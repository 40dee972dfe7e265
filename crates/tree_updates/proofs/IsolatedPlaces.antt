-- Places of the value, once their labels stand in the start's body, and bodies around them.
use Rattle.std.proofs.Common.{◌≡◌, ℕ, ◌+◌, ◌-◌, ◌*◌, ◌<◌, List, [], ◌∷◌, length, Some, ap, sym, ◌∙◌, subst, arith, sum_by}
use Rattle.plain_tree.specs.declared.kind.Kind.{Kind}
use Rattle.plain_tree.specs.Tree.{Tree, none, more, node_count}
use Rattle.rule_arena.specs.declared.key.Key.{Key}
use Rattle.rule_arena.specs.declared.label.Label.{Label}
use Rattle.rule_arena.specs.declared.label.Label.TheVariants.{Bottom, Symbol, Call, Param}
use Rattle.slt_grammar.specs.Algebras.{all_meanings, ranks_of}
use Rattle.slt_grammar.specs.Bodies.{CallsBelow}
use Rattle.slt_grammar.specs.ChangedValues.{StandsWithin, term_around}
use Rattle.slt_grammar.specs.Coding.{Codes}
use Rattle.slt_grammar.specs.Grammars.{value}
use Rattle.slt_grammar.specs.Keyed.{IsKeyed, Keyed, KeyedRule, key_at, rules_of}
use Rattle.slt_grammar.specs.KeyedEdits.{label_at}
use Rattle.slt_grammar.specs.Terms.{Term, substitute, term_algebra}
use Rattle.slt_grammar.specs.Wrapping.{IsInStart, IsWrapper}
use Rattle.slt_grammar.specs.declared.level.Level.{Level}
use Rattle.slt_grammar.specs.declared.rules.Rule.{Rule}
use Rattle.slt_grammar.proofs.KeyedLemmas.{key_at-within}
use Rattle.segment_counts.specs.Weights.{all_weight}
use Rattle.path_isolation.specs.Chains.{IsChain, IsOfValue, last_label}
use Rattle.path_isolation.specs.Isolations.{IsIsolated, start_of}
use Rattle.preorder_address.specs.declared.numbering.Numbering.TheVariants.{All}
use Rattle.preorder_address.proofs.Naming.{value-last}
use Rattle.preorder_address.proofs.TreePlaces.{all-coded}
use Rattle.tree_updates.specs.CodePlaces.{ComesAround, IsBodyOf, IsPlaceIsolated, LeadToPlace, levels_to_place, places_in}
use Rattle.tree_updates.specs.Differences.{hole_at}
use Rattle.tree_updates.proofs.Bridging.{of-value}
use Rattle.tree_updates.proofs.Numbered.{AreNumbered, numbered, number-isolated}

-- levels that lead to a place are a chain
pub leading-place : (K : Keyed) (sound : IsKeyed K) (n : ℕ) (ls : List Level) → LeadToPlace K.rules ls n → AreNumbered All K.rules n ls
leading-place K sound n ls L = subst (AreNumbered All K.rules n) (sym L.located) (numbered All K sound n L.low)

pub chain-to-place : (K : Keyed) (sound : IsKeyed K) (n : ℕ) (ls : List Level) → n < places_in K.rules → ls ≡ levels_to_place K.rules n → (ps : List ℕ) × IsChain K.rules ls ps
chain-to-place K sound n ls low e = let N = leading-place K sound n ls (record { located = e; low = low }) in (N.places, N.chain)

-- their label, once it stands in the start's body
pub place-isolated : (K : Keyed) (sound : IsKeyed K) (n : ℕ) (ls : List Level) (L : LeadToPlace K.rules ls n) (H : List KeyedRule) (key : Key)
    → length H ≡ length K.rules → IsIsolated K.rules H ls (leading-place K sound n ls L).places key → IsPlaceIsolated H n key
place-isolated K sound n ls L H key m I =
    let N = leading-place K sound n ls L in
    let e : start_of K.rules ≡ length H - 1 = ap (λ (k : ℕ). k - 1) (sym m) in
    let v = of-value All (last_label K.rules Bottom ls N.places) N.counted in
    record {
      position = I.place;
      there = subst (λ r. key_at H r I.place ≡ Some key) e I.there;
      label = subst (λ r. IsOfValue (label_at H r I.place)) e (subst IsOfValue (sym I.label) v);
      before = number-isolated All K sound H n ls key N I;
    }

-- a document has a place for each node and for each bottom, of which there is one more
pub places-coded : (names : List (Kind × List ℕ)) (G : List KeyedRule) (t : Tree) → Codes names (more t none) (value (rules_of G)) → places_in G ≡ 2 * node_count t + 1
places-coded names G t c = omega (arith, all-coded names (more t none) (value (rules_of G)) c [], ap (sum_by all_weight) (value-last G))

pub place-last : (H : List KeyedRule) (n : ℕ) (key : Key) (I : IsPlaceIsolated H n key) → length H - 1 + 1 ≡ length H
place-last H n key I = let h = (key_at-within H (length H - 1) I.position key I.there).0 in omega (arith, h)

-- the node of a place as one that `wrap` takes
abbrev pub place-in-start : (H : List KeyedRule) (n : ℕ) (key : Key) → IsPlaceIsolated H n key → IsInStart H key
place-in-start H n key I = record { here = record { rule = length H - 1; place = I.position; there = I.there }; start = place-last H n key I }

calls-none : (r : ℕ) (ls : List Label) → CallsBelow 0 ls → CallsBelow r ls
calls-none r [] c = tt
calls-none r (Call q ∷ ls) c = absurd (omega (arith, c.0))
calls-none r (Bottom ∷ ls) c = calls-none r ls c
calls-none r (Symbol f ∷ ls) c = calls-none r ls c
calls-none r (Param ∷ ls) c = calls-none r ls c

-- labels that call no rule may come around any node
pub body-wraps : (G : List Rule) (front : Term) (body : List Label) → IsBodyOf front body → IsWrapper G body
body-wraps G front body b = record { earlier = calls-none (length G - 1) body b.plain; term = b.term (ranks_of G); linear = b.linear }

-- what comes around the node of a place comes around the place
pub around-place : (G H K : List Rule) (position n : ℕ) (front : Term) (body : List Label) → value H ≡ value G → IsBodyOf front body → hole_at all_weight (term_around H position) ≡ n → StandsWithin H K position body
    → ComesAround G K n front
around-place G H K position n front body v b e S = record {
  this = S.term;
  differ = record {
    around = term_around H position;
    once = S.differ.once;
    before = e;
    first = sym v ∙ S.differ.first;
    second = S.differ.second ∙ ap (λ (x : Term). substitute (term_around H position) (substitute x (S.term ∷ []) ∷ [])) (b.means (ranks_of H) (all_meanings term_algebra H));
  };
}
