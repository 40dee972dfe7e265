-- Bodies that are put into an arena, from their end.
use Rattle.std.specs.Prelude.{◌≡◌, ℕ, List, length, Some, IsSome, slice_get}
use Rattle.rule_arena.specs.Preorder.{AreTerms}
use Rattle.rule_arena.specs.Terms.{Terms, term_at, joined}
use Rattle.rule_arena.specs.declared.key.Key.{Key}
use Rattle.rule_arena.specs.declared.label.Label.{Label}
use Rattle.slt_grammar.specs.Bodies.{arity}
use Rattle.slt_grammar.specs.Keyed.{labels_of, HasArities}

-- different roots whose terms, one after another, are nodes with these labels
pub record AreBuilt (ranks : List ℕ) (a : Terms) (keys : List Key) (labels : List Label) : Type 0 where
  pub stand : (i : ℕ) (k : Key) → slice_get keys i ≡ Some k → IsSome (term_at a k.number)
  pub distinct : (i j : ℕ) (k m : Key) → slice_get keys i ≡ Some k → slice_get keys j ≡ Some m → k.number ≡ m.number → i ≡ j
  pub labelled : labels_of (joined a keys) ≡ labels
  pub arities : HasArities ranks (joined a keys)
  pub terms : AreTerms (arity ranks) (length keys) labels

-- the terms that stood before stand as they were
abbrev pub TermsStay : Terms → Terms → Type 0
TermsStay a b = (r : ℕ) → IsSome (term_at a r) → term_at b r ≡ term_at a r
