-- Terms that are built over roots from their end.
use Rattle.std.specs.Prelude.{◌≡◌, ℕ, ◌+◌, List, drop, length, Some, IsSome, slice_get, ◌⊎◌, None}
use Rattle.rule_arena.specs.Preorder.{AreTerms}
use Rattle.rule_arena.specs.Terms.{Node, Terms, term_at, key_in, kids_of, Apart, AreDistinctKeys, joined}
use Rattle.rule_arena.specs.declared.key.Key.{Key}
use Rattle.slt_grammar.specs.Copying.{holes_in, copied}
use Rattle.slt_grammar.specs.Holding.{terms_of, IsIn}

-- the roots are the last nodes of a term, over the arguments from `left` on
pub record IsGrown (a b : Terms) (ns : List Node) (args : List Key) (left : ℕ) (roots keys : List Key) : Type 0 where
  pub given : (i : ℕ) (k : Key) → slice_get args i ≡ Some k → IsSome (term_at a k.number)
  pub apart : AreDistinctKeys args
  pub nodes : joined b roots ≡ copied ns (terms_of a (drop left args)) keys
  pub many : length keys ≡ length ns
  pub terms : AreTerms kids_of (length roots) ns
  pub used : left + holes_in ns ≡ length args
  pub stand : (i : ℕ) (k : Key) → slice_get roots i ≡ Some k → IsSome (term_at b k.number)
  pub distinct : AreDistinctKeys roots
  pub origin : (i : ℕ) (k : Key) → slice_get roots i ≡ Some k → (term_at a k.number ≡ None) ⊎ IsIn (drop left args) k
  pub inside : (k : Key) → IsIn (drop left args) k → (p : ℕ) × (key_in (joined b roots) p ≡ Some k)
  pub others : (r : ℕ) → IsSome (term_at a r) → Apart (drop left args) r → term_at b r ≡ term_at a r
