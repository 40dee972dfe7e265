-- A walk upward from a node of a body.
use Rattle.std.proofs.Common.{◌≡◌, ℕ, ◌+◌, ◌*◌, ◌<◌, ◌≤◌, List, [], ◌∷◌, length, Option, None, Some, refl, ap, sym, ◌∙◌, arith, subst}
use Rattle.std.specs.Prelude.{slice_get}
use Rattle.rule_arena.specs.Terms.{Node, parent_in}
use Rattle.rule_arena.specs.declared.key.Key.{Key}
use Rattle.slt_grammar.specs.Grammars.{whole}
use Rattle.slt_grammar.specs.Keyed.{Keyed, KeyedRule, IsKeyed, key_at, nodes_at, rules_of}
use Rattle.slt_grammar.proofs.KeyedLemmas.{key_at-within}
use Rattle.slt_grammar.proofs.TourLemmas.{spread_nodes}
use Rattle.slt_grammar.proofs.TourWalking.{node-key}
use Rattle.preorder_address.specs.Parents.{TellsParent, first_terms, parent_behind, told_by}
use Rattle.preorder_address.specs.Sites.{labels_before, stops_before}
use Rattle.preorder_address.specs.declared.parent.Edge.{Edge}
use Rattle.preorder_address.proofs.Descending.{nodes-within}
use Rattle.preorder_address.proofs.Locating.{nodes-few}
use Rattle.preorder_address.proofs.ParentRises.{IsAbove, above, climbs, entry-is, entry-tells}
use Rattle.preorder_address.proofs.ParentStops.{EndsIn, ends-in}

-- the walk has come to a node whose parent is that of the node with the key
pub record Rising (G : List KeyedRule) (key at : Key) (first steps : ℕ) : Type 0 where
  pub rule : ℕ
  pub start : ℕ
  pub start_is : key_at G rule start ≡ Some key
  pub place : ℕ
  pub there : key_at G rule place ≡ Some at
  pub same : (args : List ℕ) (number : ℕ) (up : Option ℕ) → parent_behind args number up (labels_before G rule start) ≡ parent_behind args number up (labels_before G rule place)
  pub few : steps + 2 * place ≤ first + 2 * start

nothing-before : (g : Keyed) → IsKeyed g → (r p : ℕ) (key : Key) → key_at g.rules r p ≡ Some key → parent_in (nodes_at g.rules r) p ≡ None → labels_before g.rules r p ≡ []
nothing-before g K r p key e f =
    let h : stops_before ([] ∷ []) (nodes_at g.rules r) p ≡ [] = subst (λ (o : Option (Key × ℕ)). EndsIn (nodes_at g.rules r) p (stops_before ([] ∷ []) (nodes_at g.rules r) p) o) f (ends-in g K r p key e) in
    ap (spread_nodes (rules_of g.rules)) h

module _ (g : Keyed) (K : IsKeyed g) (key : Key) where
  pub rising-start : (r p : ℕ) → key_at g.rules r p ≡ Some key → (steps : ℕ) → Rising g.rules key key steps steps
  rising-start r p e steps = record { rule = r; start = p; start_is = e; place = p; there = e; same = λ args number up. refl; few = omega arith }

  module _ (at : Key) (first steps : ℕ) (s : Rising g.rules key at first steps) where
    -- the root has come
    pub rising-root : parent_in (nodes_at g.rules s.rule) s.place ≡ None → (r p : ℕ) → key_at g.rules r p ≡ Some key → TellsParent g.rules r p None
    rising-root f r p e =
        let o = K.once key r p s.rule s.start e s.start_is in
        let n = nothing-before g K s.rule s.place at s.there f in
        λ args number up. ap (parent_behind args number up) (ap (λ q. labels_before g.rules q p) o.0 ∙ ap (labels_before g.rules s.rule) o.1) ∙ s.same args number up ∙ ap (parent_behind args number up) n

    pub rising-few : steps < first + 2 * whole (rules_of g.rules)
    rising-few =
        let h = key_at-within g.rules s.rule s.start key s.start_is in
        omega (arith, s.few, h.1, nodes-within g.rules s.rule, nodes-few g.rules s.rule)

    pub rising-steps : (r p : ℕ) → key_at g.rules r p ≡ Some key → steps + 2 ≤ first + 2 * length (nodes_at g.rules r)
    rising-steps r p e =
        let o = K.once key r p s.rule s.start e s.start_is in
        let h = key_at-within g.rules s.rule s.start key s.start_is in
        omega (arith, s.few, h.1, ap (λ q. length (nodes_at g.rules q)) o.0)

    module _ (edge : Edge) (f : parent_in (nodes_at g.rules s.rule) s.place ≡ Some (edge.key, edge.kid + 1))
        (told : (r q : ℕ) → key_at g.rules r q ≡ Some edge.key → (x : Node) × (slice_get (nodes_at g.rules r) q ≡ Some x) × (x.key ≡ edge.key) × (x.label ≡ edge.label)) where
      pub edge-is : IsAbove g.rules s.rule s.place edge
      edge-is = above g K s.rule s.place at s.there edge f told

      pub rising-told : 0 < first_terms (rules_of g.rules) edge.label edge.kid → (r p : ℕ) → key_at g.rules r p ≡ Some key → TellsParent g.rules r p (Some edge)
      rising-told h r p e =
          let o = K.once key r p s.rule s.start e s.start_is in
          let a = edge-is in
          let b : (args : List ℕ) (number : ℕ) (up : Option ℕ) → parent_behind args number up (labels_before g.rules s.rule p) ≡ told_by g.rules s.rule edge a.place a.node args number =
          λ args number up. ap (λ q. parent_behind args number up (labels_before g.rules s.rule q)) o.1 ∙ s.same args number up ∙ entry-tells g.rules s.rule s.place edge a h args number up in
          subst (λ (q : ℕ). TellsParent g.rules q p (Some edge)) (sym o.0) (a.place, a.node, entry-is g.rules s.rule s.place edge a h, b)

      pub rising-next : first_terms (rules_of g.rules) edge.label edge.kid ≡ 0 → (steps' : ℕ) → steps' ≤ steps + 2 → Rising g.rules key edge.key first steps'
      rising-next h steps' l =
          let a = edge-is in
          record {
            rule = s.rule;
            start = s.start;
            start_is = s.start_is;
            place = a.place;
            there = node-key (nodes_at g.rules s.rule) a.place a.node a.there ∙ ap Some a.key;
            same = λ args number up. s.same args number up ∙ climbs g.rules s.rule s.place edge a h args number up;
            few = omega (arith, s.few, l, a.early);
          }
