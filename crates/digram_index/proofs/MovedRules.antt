-- Occurrences where a rule was put before another, or was taken away.
use Rattle.std.proofs.Common.{◌≡◌, ◌≢◌, ◌+◌, ◌-◌, ◌≤◌, ◌⊎◌, inl, inr, ℕ, zero, suc, List, [], ◌∷◌, ◌++◌, map, length, get_or, drop, remove, Option, Some, None, slice_get, refl, ap, sym, ◌∙◌, subst, arith}
use Rattle.std.proofs.Math.ListN.{get_or-map}
use Rattle.std.proofs.lemmas.List.{length-map}
use Rattle.rule_arena.specs.Preorder.{parents, places}
use Rattle.rule_arena.specs.Terms.{Node, kids_of, key_in}
use Rattle.rule_arena.specs.declared.label.Label.{Label}
use Rattle.rule_arena.specs.declared.label.Label.TheVariants.{Bottom, Symbol, Call, Param}
use Rattle.slt_grammar.specs.Algebras.{ranks_of}
use Rattle.slt_grammar.specs.Bodies.{arity, calls_in}
use Rattle.slt_grammar.specs.Editing.{shifted, shifted_label}
use Rattle.slt_grammar.specs.Grammars.{calls_of}
use Rattle.slt_grammar.specs.Keyed.{KeyedRule, rules_of, nodes_at, key_at}
use Rattle.slt_grammar.specs.KeyedEdits.{shifted_keyed, unshifted_keyed, rule_put, rule_dropped}
use Rattle.slt_grammar.specs.Placing.{shifted_node, unshifted, unshifted_label, unshifted_node, DoesNotCall, DoNotCall}
use Rattle.slt_grammar.proofs.Additions.{get-shifted}
use Rattle.slt_grammar.proofs.KeyedLemmas.{body_at-rules_of}
use Rattle.slt_grammar.proofs.KeyedRemovals.{rules-dropped, do-not-call}
use Rattle.slt_grammar.proofs.Removals.{get-left, get-unshifted, none-calls, ranks-left}
use Rattle.digram_index.specs.Digrams.{Cell, parent_node, joint_rank, occurrence_under, occurrence_below, occurrence_at}
use Rattle.digram_index.specs.Linked.{shifted_cell, unshifted_cell}
use Rattle.digram_index.proofs.ParentLemmas.{parent-there}
use Rattle.digram_index.proofs.PlainDigrams.{real-under}

-- a node, a node with a place under it, and a cell, with other labels
abbrev pub moved_node : (Label → Label) → Node → Node
moved_node f n = record n { label = f n.label }

abbrev pub moved_some : (Label → Label) → Option Node → Option Node
moved_some f None = None
moved_some f (Some n) = Some (moved_node f n)

abbrev pub moved_up : (Label → Label) → Option (Node × ℕ) → Option (Node × ℕ)
moved_up f None = None
moved_up f (Some u) = Some (moved_node f u.0, u.1)

abbrev pub moved_cell : (Label → Label) → Option Cell → Option Cell
moved_cell f None = None
moved_cell f (Some c) = Some (record { digram = record { upper = f c.digram.upper; place = c.digram.place; lower = f c.digram.lower }; rank = c.rank; upper = c.upper })

abbrev pub SameUp : (Label → Label) → List (Option (Node × ℕ)) → List (Option (Node × ℕ)) → Type 0
SameUp f os ks = (i : ℕ) → get_or ks i None ≡ moved_up f (get_or os i None)

same-below : (f : Label → Label) (x : Node) (i n : ℕ) (os ks : List (Option (Node × ℕ))) → SameUp f os ks → SameUp f (places x i n ++ os) (places (moved_node f x) i n ++ ks)
same-below f x i zero os ks S = S
same-below f x i (suc n) os ks S = at (same-below f x (suc i) n os ks S)
  where
    at : SameUp f (places x (suc i) n ++ os) (places (moved_node f x) (suc i) n ++ ks) → (j : ℕ) → get_or (Some (moved_node f x, i) ∷ (places (moved_node f x) (suc i) n ++ ks)) j None ≡ moved_up f (get_or (Some (x, i) ∷ (places x (suc i) n ++ os)) j None)
    at again zero = refl
    at again (suc j) = again j

same-beside : (f : Label → Label) (os ks : List (Option (Node × ℕ))) → SameUp f os ks → SameUp f (drop 1 os) (drop 1 ks)
same-beside f [] [] S = S
same-beside f [] (k ∷ ks) S = λ i. S (suc i)
same-beside f (o ∷ os) [] S = λ i. S (suc i)
same-beside f (o ∷ os) (k ∷ ks) S = λ i. S (suc i)

parents-moved : (f : Label → Label) (ns : List Node) (os ks : List (Option (Node × ℕ))) → SameUp f os ks → (p : ℕ) → get_or (parents kids_of (λ n. n) ks (map (moved_node f) ns)) p None ≡ moved_up f (get_or (parents kids_of (λ n. n) os ns) p None)
parents-moved f [] os ks S p = refl
parents-moved f (n ∷ ns) os ks S zero = S 0
parents-moved f (n ∷ ns) os ks S (suc p) = parents-moved f ns (places n 1 n.kids ++ drop 1 os) (places (moved_node f n) 1 n.kids ++ drop 1 ks) (same-below f n 1 n.kids (drop 1 os) (drop 1 ks) (same-beside f os ks S)) p

parent-moved : (f : Label → Label) (ns : List Node) (p : ℕ) → parent_node (map (moved_node f) ns) p ≡ moved_up f (parent_node ns p)
parent-moved f ns p = parents-moved f ns (None ∷ []) (None ∷ []) nothing p
  where
    nothing : SameUp f (None ∷ []) (None ∷ [])
    nothing zero = refl
    nothing (suc i) = refl

node-moved : (f : Label → Label) (ns : List Node) (p : ℕ) → slice_get (map (moved_node f) ns) p ≡ moved_some f (slice_get ns p)
node-moved f [] p = refl
node-moved f (n ∷ ns) zero = refl
node-moved f (n ∷ ns) (suc p) = node-moved f ns p

key-moved : (f : Label → Label) (ns : List Node) (p : ℕ) → key_in (map (moved_node f) ns) p ≡ key_in ns p
key-moved f [] p = refl
key-moved f (n ∷ ns) zero = refl
key-moved f (n ∷ ns) (suc p) = key-moved f ns p

param_cases : (l : Label) → (l ≡ Param) ⊎ (l ≢ Param)
param_cases Bottom = inr (λ e. let z : Bottom ≡ Param = e in cc)
param_cases (Symbol f) = inr (λ e. let z : Symbol f ≡ Param = e in cc)
param_cases (Call q) = inr (λ e. let z : Call q ≡ Param = e in cc)
param_cases Param = inl refl

-- other labels of the same ranks, under which parameters alone become parameters
module _ (f : Label → Label) (keeps : f Param ≡ Param) (only : (l : Label) → f l ≡ Param → l ≡ Param) (ranks ranks' : List ℕ) where
  under-moved : (up : Node) (c : ℕ) (l : Label) → joint_rank ranks' (f up.label) (f l) ≡ joint_rank ranks up.label l → occurrence_under ranks' (moved_node f up) c (f l) ≡ moved_cell f (occurrence_under ranks up c l)
  under-moved up c l e = at (param_cases l)
    where
      at : (l ≡ Param) ⊎ (l ≢ Param) → occurrence_under ranks' (moved_node f up) c (f l) ≡ moved_cell f (occurrence_under ranks up c l)
      at (inl x) = ap (occurrence_under ranks' (moved_node f up) c) (ap f x ∙ keeps) ∙ ap (λ m. moved_cell f (occurrence_under ranks up c m)) (sym x)
      at (inr x) =
          real-under ranks' (moved_node f up) c (f l) (λ y. x (only l y))
          ∙ ap (λ (n : ℕ). let o : Cell = record { digram = record { upper = f up.label; place = c; lower = f l }; rank = n; upper = up.key.number } in Some o) e
          ∙ ap (moved_cell f) (sym (real-under ranks up c l x))

  below-moved : (u : Option (Node × ℕ)) (n : Option Node) → ((v : Node × ℕ) → u ≡ Some v → arity ranks' (f v.0.label) ≡ arity ranks v.0.label) → ((m : Node) → n ≡ Some m → arity ranks' (f m.label) ≡ arity ranks m.label)
      → occurrence_below ranks' (moved_up f u) (moved_some f n) ≡ moved_cell f (occurrence_below ranks u n)
  below-moved None n a b = refl
  below-moved (Some u) None a b = refl
  below-moved (Some u) (Some n) a b = under-moved u.0 u.1 n.label (ap (λ (k : ℕ). k + arity ranks' (f n.label) - 1) (a u refl) ∙ ap (λ (k : ℕ). arity ranks u.0.label + k - 1) (b n refl))

  occurrence-moved : (ns : List Node) (p : ℕ) → ((q : ℕ) (n : Node) → slice_get ns q ≡ Some n → arity ranks' (f n.label) ≡ arity ranks n.label)
      → occurrence_below ranks' (parent_node (map (moved_node f) ns) p) (slice_get (map (moved_node f) ns) p) ≡ moved_cell f (occurrence_below ranks (parent_node ns p) (slice_get ns p))
  occurrence-moved ns p h =
      ap (λ u. occurrence_below ranks' u (slice_get (map (moved_node f) ns) p)) (parent-moved f ns p)
      ∙ ap (λ n. occurrence_below ranks' (moved_up f (parent_node ns p)) n) (node-moved f ns p)
      ∙ below-moved (parent_node ns p) (slice_get ns p) (λ v e. let t = parent-there ns p v e in h t.0 v.0 t.1.1) (λ m e. h p m e)

abbrev pub no_nodes : KeyedRule
no_nodes = record { rank = 0; nodes = [] }

rank-there : (G : List KeyedRule) (q : ℕ) → get_or (ranks_of (rules_of G)) q 0 ≡ (get_or G q no_nodes).rank
rank-there [] q = refl
rank-there (R ∷ G) zero = refl
rank-there (R ∷ G) (suc q) = rank-there G q

-- where a rule stands once another was put before the one at a place
pub place_cases : (place r : ℕ) → (r ≡ place) ⊎ ((s : ℕ) × (r ≡ shifted place s))
place_cases zero zero = inl refl
place_cases zero (suc r) = inr (r, refl)
place_cases (suc place) zero = inr (0, refl)
place_cases (suc place) (suc r) = up (place_cases place r)
  where
    up : (r ≡ place) ⊎ ((s : ℕ) × (r ≡ shifted place s)) → (suc r ≡ suc place) ⊎ ((s : ℕ) × (suc r ≡ shifted (suc place) s))
    up (inl e) = inl (ap suc e)
    up (inr e) = inr (suc e.0, ap suc e.1)

shifted-param : (place : ℕ) (l : Label) → shifted_label place l ≡ Param → l ≡ Param
shifted-param place Bottom e = absurd (let z : Bottom ≡ Param = e in cc)
shifted-param place (Symbol f) e = absurd (let z : Symbol f ≡ Param = e in cc)
shifted-param place (Call q) e = absurd (let z : Call (shifted place q) ≡ Param = e in cc)
shifted-param place Param e = refl

shifted-moved : (place : ℕ) (c : Option Cell) → moved_cell (shifted_label place) c ≡ shifted_cell place c
shifted-moved place None = refl
shifted-moved place (Some c) = refl

module _ (G : List KeyedRule) (place : ℕ) (R : KeyedRule) (h : place ≤ length G) where
  there-put : (q : ℕ) → get_or (rule_put G place R) (shifted place q) no_nodes ≡ shifted_keyed place (get_or G q no_nodes)
  there-put q =
      get-shifted (map (shifted_keyed place) G) place q R no_nodes (omega (arith, length-map G (shifted_keyed place)))
      ∙ get_or-map (shifted_keyed place) G q no_nodes

  arity-put : (l : Label) → arity (ranks_of (rules_of (rule_put G place R))) (shifted_label place l) ≡ arity (ranks_of (rules_of G)) l
  arity-put Bottom = refl
  arity-put (Symbol f) = refl
  arity-put (Call q) = rank-there (rule_put G place R) (shifted place q) ∙ ap (λ (S : KeyedRule). S.rank) (there-put q) ∙ sym (rank-there G q)
  arity-put Param = refl

  nodes-put : (r : ℕ) → nodes_at (rule_put G place R) (shifted place r) ≡ map (shifted_node place) (nodes_at G r)
  nodes-put r = ap (λ (S : KeyedRule). S.nodes) (there-put r)

  pub key-put : (r p : ℕ) → key_at (rule_put G place R) (shifted place r) p ≡ key_at G r p
  key-put r p = ap (λ ns. key_in ns p) (nodes-put r) ∙ key-moved (shifted_label place) (nodes_at G r) p

  -- the occurrences of the other rules are those of before, with the new places
  pub occurrence-put : (r p : ℕ) → occurrence_at (rule_put G place R) (shifted place r) p ≡ shifted_cell place (occurrence_at G r p)
  occurrence-put r p =
      ap (λ ns. occurrence_below (ranks_of (rules_of (rule_put G place R))) (parent_node ns p) (slice_get ns p)) (nodes-put r)
      ∙ occurrence-moved (shifted_label place) refl (shifted-param place) (ranks_of (rules_of G)) (ranks_of (rules_of (rule_put G place R))) (nodes_at G r) p (λ q n e. arity-put n.label)
      ∙ shifted-moved place (occurrence_at G r p)

unshifted-param : (place : ℕ) (l : Label) → unshifted_label place l ≡ Param → l ≡ Param
unshifted-param place Bottom e = absurd (let z : Bottom ≡ Param = e in cc)
unshifted-param place (Symbol f) e = absurd (let z : Symbol f ≡ Param = e in cc)
unshifted-param place (Call q) e = absurd (let z : Call (unshifted place q) ≡ Param = e in cc)
unshifted-param place Param e = refl

unshifted-moved : (place : ℕ) (c : Option Cell) → moved_cell (unshifted_label place) c ≡ unshifted_cell place c
unshifted-moved place None = refl
unshifted-moved place (Some c) = refl

-- each of these nodes does not call the rule
each-node : (place : ℕ) (ns : List Node) → DoNotCall place ns → (q : ℕ) (n : Node) → slice_get ns q ≡ Some n → DoesNotCall place n.label
each-node place [] D q n e = absurd (cc)
each-node place (m ∷ ns) D zero n e = let z : m ≡ n = cc in subst (λ (x : Node). DoesNotCall place x.label) z D.0
each-node place (m ∷ ns) D (suc q) n e = each-node place ns D.1 q n e

module _ (G : List KeyedRule) (place : ℕ) (uncalled : calls_of (rules_of G) place ≡ 0) where
  -- no node calls the rule
  pub never-called : (r q : ℕ) (n : Node) → slice_get (nodes_at G r) q ≡ Some n → DoesNotCall place n.label
  never-called r = each-node place (nodes_at G r) (do-not-call place (nodes_at G r) (ap (calls_in place) (sym (body_at-rules_of G r)) ∙ none-calls place (rules_of G) uncalled r))

  arity-left : (l : Label) → DoesNotCall place l → arity (ranks_of (rules_of (rule_dropped G place))) (unshifted_label place l) ≡ arity (ranks_of (rules_of G)) l
  arity-left Bottom n = refl
  arity-left (Symbol f) n = refl
  arity-left (Call q) n = ap (λ (rs : List ℕ). get_or rs (unshifted place q) 0) (ap ranks_of (rules-dropped G place) ∙ ranks-left (rules_of G) place) ∙ get-unshifted (ranks_of (rules_of G)) place q n
  arity-left Param n = refl

  nodes-left : (r : ℕ) → nodes_at (rule_dropped G place) r ≡ map (unshifted_node place) (nodes_at G (shifted place r))
  nodes-left r =
      ap (λ (S : KeyedRule). S.nodes) (get_or-map (unshifted_keyed place) (remove G place) r no_nodes)
      ∙ ap (λ (S : KeyedRule). map (unshifted_node place) S.nodes) (get-left G place r no_nodes)

  pub key-left : (r p : ℕ) → key_at (rule_dropped G place) r p ≡ key_at G (shifted place r) p
  key-left r p = ap (λ ns. key_in ns p) (nodes-left r) ∙ key-moved (unshifted_label place) (nodes_at G (shifted place r)) p

  -- the occurrences that are left are those of before, with the new places
  pub occurrence-left : (r p : ℕ) → occurrence_at (rule_dropped G place) r p ≡ unshifted_cell place (occurrence_at G (shifted place r) p)
  occurrence-left r p =
      let s = shifted place r in
      ap (λ ns. occurrence_below (ranks_of (rules_of (rule_dropped G place))) (parent_node ns p) (slice_get ns p)) (nodes-left r)
      ∙ occurrence-moved (unshifted_label place) refl (unshifted-param place) (ranks_of (rules_of G)) (ranks_of (rules_of (rule_dropped G place))) (nodes_at G s) p (λ q n e. arity-left n.label (never-called s q n e))
      ∙ unshifted-moved place (occurrence_at G s p)
