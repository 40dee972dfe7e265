-- The counts of a swept grammar by names that have grown, and by another symbol for one node.
use Rattle.std.proofs.Common.{◌≡◌, ℕ, zero, suc, ◌-◌, ◌<◌, ◌≤◌, List, [], ◌∷◌, length, refl, ap, sym, ◌∙◌, subst, arith, ◌⊎◌, inl, inr, Some}
use Rattle.std.specs.Prelude.{slice_get}
use Rattle.std.proofs.lemmas.Bool.{cases_lt}
use Rattle.plain_tree.specs.NodePairs.{Pair}
use Rattle.plain_tree.specs.Tree.{Tree, none, more}
use Rattle.rule_arena.specs.declared.label.Label.{Label}
use Rattle.rule_arena.specs.declared.label.Label.TheVariants.{Bottom, Symbol, Param}
use Rattle.slt_grammar.specs.Coding.{Codes}
use Rattle.slt_grammar.specs.Grammars.{IsGrammar, IsSwept, value, value_at}
use Rattle.slt_grammar.specs.RuleValues.{HaveOtherValues}
use Rattle.slt_grammar.specs.Segments.{listed, preorder}
use Rattle.slt_grammar.specs.Terms.{Term, Leaf, Node, Hole, substitute}
use Rattle.slt_grammar.specs.declared.rules.Rule.{Rule}
use Rattle.fcns_encoding.specs.Interning.{Interns}
use Rattle.fcns_encoding.proofs.InternLemmas.{Interns-keeps}
use Rattle.segment_counts.specs.Counting.{AreCounts, CountTable}
use Rattle.segment_counts.specs.Weights.{node_weight, valued, weigh}
use Rattle.segment_counts.specs.declared.counts.Measure.{Measure}
use Rattle.segment_counts.specs.declared.counts.Measure.TheVariants.{Nodes, Texts, All}
use Rattle.tree_updates.specs.Differences.{DifferThere}
use Rattle.tree_updates.proofs.NamedValues.{AreBelow, values-named}
use Rattle.tree_updates.proofs.WeighedAlike.{WeighAlike, SymbolsAlike, alike-none, alike-listed, alike-around, counts-alike}

there-below : (xs : List Pair) (i : ℕ) → i < length xs → (p : Pair) × (slice_get xs i ≡ Some p)
there-below [] i h = absurd (omega arith)
there-below (x ∷ xs) zero h = (x, refl)
there-below (x ∷ xs) (suc i) h = there-below xs i (omega arith)

bottom-weight : (old new : List Pair) (m : Measure) → weigh old m Bottom ≡ weigh new m Bottom
bottom-weight old new Nodes = refl
bottom-weight old new Texts = refl
bottom-weight old new All = refl

param-weight : (old new : List Pair) (m : Measure) → weigh old m Param ≡ weigh new m Param
param-weight old new Nodes = refl
param-weight old new Texts = refl
param-weight old new All = refl

same-weight : (old new : List Pair) (m : Measure) (f g : ℕ) → valued (slice_get old f) ≡ valued (slice_get new g) → weigh old m (Symbol f) ≡ weigh new m (Symbol g)
same-weight old new Nodes f g e = refl
same-weight old new Texts f g e = e
same-weight old new All f g e = refl

module _ (old ps new : List Pair) (i : Interns old ps new) (m : Measure) where
  grown-symbols : (t : Term) → AreBelow (length old) t → SymbolsAlike (weigh old m) (weigh new m) t
  grown-symbols Leaf b = tt
  grown-symbols (Hole k) b = tt
  grown-symbols (Node f l r) b =
      let p = there-below old f b.0 in
      let q : slice_get new f ≡ Some p.0 = Interns-keeps old ps new i f p.0 p.1 in
      (same-weight old new m f f (ap valued (p.1 ∙ sym q)), grown-symbols l b.1, grown-symbols r b.2)

  grown-listed : (t : Term) → AreBelow (length old) t → WeighAlike (weigh old m) (weigh new m) (listed t []) (listed t [])
  grown-listed t b = alike-listed (weigh old m) (weigh new m) (bottom-weight old new m) (param-weight old new m) t [] [] (grown-symbols t b) (alike-none (weigh old m) (weigh new m))

-- counts by names are counts by the names that have grown
pub counts-grown : (G : List Rule) (old ps new : List Pair) (t : Tree) (C : CountTable) → IsGrammar G → IsSwept G → Codes old (more t none) (value G) → Interns old ps new → AreCounts old G C → AreCounts new G C
counts-grown G old ps new t C g swept code i a = counts-alike old new G G C a refl (λ m q h. grown-listed old ps new i m (value_at G q) (values-named G old (more t none) g swept code q h))

all-alike : (w : Label → ℕ) (t : Term) → SymbolsAlike w w t
all-alike w Leaf = tt
all-alike w (Hole k) = tt
all-alike w (Node f l r) = (refl, all-alike w l, all-alike w r)

listed-alike : (w : Label → ℕ) (s t : Term) → s ≡ t → WeighAlike w w (listed s []) (listed t [])
listed-alike w s t e = subst (λ (u : Term). WeighAlike w w (listed s []) (listed u [])) e (alike-listed w w refl refl s [] [] (all-alike w s) (alike-none w w))

-- a node gets another symbol, of which a node has a text as of its own
module _ (names : List Pair) (G H : List Rule) (n f g : ℕ) (l r : Term) (d : DifferThere node_weight G H n (Node f l r) (Node g l r)) (others : HaveOtherValues (length G - 1) G H) (same : valued (slice_get names f) ≡ valued (slice_get names g)) where
  start-alike : (m : Measure) → WeighAlike (weigh names m) (weigh names m) (listed (value G) []) (listed (value H) [])
  start-alike m =
      let w : Label → ℕ = weigh names m in
      subst (λ (s : Term). WeighAlike w w (listed s []) (listed (value H) [])) (sym d.first)
      (subst (λ (s : Term). WeighAlike w w (listed (substitute d.around (Node f l r ∷ [])) []) (listed s [])) (sym d.second)
      (alike-around w w refl refl (all-alike w) f g l r (same-weight names names m f g same) d.around [] [] (alike-none w w)))

  rule-alike : (m : Measure) (q : ℕ) → q < length G → (q < length G - 1) ⊎ (length G - 1 ≤ q) → WeighAlike (weigh names m) (weigh names m) (preorder G q) (preorder H q)
  rule-alike m q h (inl k) = listed-alike (weigh names m) (value_at G q) (value_at H q) (sym (others.values q (λ e. absurd (omega (arith, e, k))) h))
  rule-alike m q h (inr k) =
      let w : Label → ℕ = weigh names m in
      let is : length G - 1 ≡ q = omega (arith, h, k) in
      let also : length H - 1 ≡ q = omega (arith, h, k, others.rules) in
      subst (λ (j : ℕ). WeighAlike w w (preorder G j) (preorder H q)) is (subst (λ (j : ℕ). WeighAlike w w (preorder G (length G - 1)) (preorder H j)) also (start-alike m))

  pub counts-relabelled : (C : CountTable) → AreCounts names G C → AreCounts names H C
  counts-relabelled C a = counts-alike names names G H C a others.rules (λ m q h. rule-alike m q h (cases_lt q (length G - 1)))
