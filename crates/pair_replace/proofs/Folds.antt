-- A node that folds into its parent.
use Rattle.std.proofs.Common.{◌≡◌, ℕ, suc, Option, Some, sym, ap, ◌∙◌}
use Rattle.rule_arena.specs.Terms.{parent_in}
use Rattle.rule_arena.specs.declared.key.Key.{Key}
use Rattle.slt_grammar.specs.Holding.{IsLawful}
use Rattle.slt_grammar.specs.Keyed.{Keyed, IsKeyed, key_at, nodes_at}
use Rattle.slt_grammar.specs.KeyedEdits.{FoldsInto}
use Rattle.slt_grammar.proofs.FoldedRules.{one-term}
use Rattle.digram_index.proofs.Kids.{kid-parent}

pub fold-parent : (g : Keyed) → IsKeyed g → (low : Key) (q : ℕ) (F : FoldsInto g.rules low q) → parent_in (nodes_at g.rules F.here.rule) F.here.place ≡ Some (F.upper, suc F.child)
fold-parent g K low q F =
    let lawful : IsLawful g.rules = record { grammar = K.grammar; arities = K.arities } in
    let once = λ (i j : ℕ) (k : Key) (e : key_at g.rules F.here.rule i ≡ Some k) (f : key_at g.rules F.here.rule j ≡ Some k). (K.once k F.here.rule i F.here.rule j e f).1 in
    kid-parent (nodes_at g.rules F.here.rule) F.place F.here.place F.upper F.child low (one-term g.rules low q lawful F once) F.above F.is_child F.here.there

pub the-up : (o : Option (Key × ℕ)) (v : Key × ℕ) (up : Key) (c : ℕ) → o ≡ Some (up, c) → o ≡ Some v → v.0 ≡ up
the-up o v up c e f = ap (λ (x : Key × ℕ). x.0) (one v (up, c) (sym f ∙ e))
  where
    one : (a b : Key × ℕ) → Some a ≡ Some b → a ≡ b
    one a b z = cc
