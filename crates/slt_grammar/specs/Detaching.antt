-- Subterms that are taken out of a term.
use Rattle.std.specs.Prelude.{◌≡◌, ◌≢◌, ℕ, List, [], ◌∷◌, ◌++◌, ◌≤◌, length, Some, IsSome, slice_get}
use Rattle.std.specs.List.{flat_map}
use Rattle.rule_arena.specs.Preorder.{AreTerms}
use Rattle.rule_arena.specs.Terms.{Node, Terms, AreDistinctKeys, term_at, key_in, kids_of}
use Rattle.rule_arena.specs.declared.key.Key.{Key}
use Rattle.slt_grammar.specs.Holding.{terms_of}

-- terms with their roots
abbrev pub AreArgs : List Key → List (List Node) → Type 0
AreArgs [] [] = Unit {0}
AreArgs [] (a ∷ args) = ⊥
AreArgs (k ∷ ks) [] = ⊥
AreArgs (k ∷ ks) (a ∷ args) = AreTerms kids_of 1 a × (key_in a 0 ≡ Some k) × AreArgs ks args

-- pieces with terms between them, in turn
abbrev pub between : List (List Node) → List (List Node) → List Node
between [] gs = []
between (w ∷ ws) [] = w ++ between ws []
between (w ∷ ws) (g ∷ gs) = w ++ (g ++ between ws gs)

-- the nodes have one term at a place, made of pieces with these terms between them; the first piece has a node
pub record Laced (ns : List Node) (p : ℕ) (args : List (List Node)) : Type 0 where
  pub front : List Node
  pub begin : Node
  pub first : List Node
  pub more : List (List Node)
  pub back : List Node
  pub whole : ns ≡ front ++ (between ((begin ∷ first) ∷ more) args ++ back)
  pub place : length front ≡ p
  pub one : AreTerms kids_of 1 (between ((begin ∷ first) ∷ more) args)
  pub enough : length args ≤ length more

-- the terms between the pieces were taken out, and leaves stand in their places
pub record Loosened (a b : Terms) (r : ℕ) (ns : List Node) (p : ℕ) (args : List (List Node)) (L : Laced ns p args) (keys : List Key) : Type 0 where
  pub leaves : List (List Node)
  pub one : AreTerms kids_of 1 (between ((L.begin ∷ L.first) ∷ L.more) leaves)
  pub size : length (flat_map (λ zs. zs) leaves) ≡ length keys
  pub many : length leaves ≡ length keys
  pub rest : term_at b r ≡ Some (L.front ++ (between ((L.begin ∷ L.first) ∷ L.more) leaves ++ L.back))
  pub roots : (i : ℕ) (k : Key) → slice_get keys i ≡ Some k → IsSome (term_at b k.number)
  pub distinct : AreDistinctKeys keys
  -- none of them was a root
  pub inner : (i : ℕ) (k : Key) → slice_get keys i ≡ Some k → (s : ℕ) → IsSome (term_at a s) → k.number ≢ s
  pub given : terms_of b keys ≡ args
  pub others : (s : ℕ) → IsSome (term_at a s) → s ≢ r → term_at b s ≡ term_at a s
