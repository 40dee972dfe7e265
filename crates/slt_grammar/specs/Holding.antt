-- How a grammar holds its rules in an arena.
use Rattle.std.specs.Prelude.{◌≡◌, ◌+◌, ◌<◌, ◌≤◌, ℕ, List, [], ◌∷◌, length, map, get_or, slice_set as set, Some, IsSome, slice_get}
use Rattle.rule_arena.specs.Terms.{Node, Terms, At, AreDistinctKeys, key_in, kids_in, term_at, or_nothing}
use Rattle.rule_arena.specs.declared.key.Key.{Key}
use Rattle.slt_grammar.specs.Algebras.{ranks_of}
use Rattle.slt_grammar.specs.Grammars.{IsGrammar, calls_of, size}
use Rattle.slt_grammar.specs.Keyed.{KeyedRule, rules_of, nodes_at, HasArities}
use Rattle.slt_grammar.specs.Placing.{placed, AreKnown}

-- the terms of these roots
abbrev pub terms_of : Terms → List Key → List (List Node)
terms_of a = map (λ k. or_nothing (term_at a k.number))

-- each root stands, and no two are one
pub record AreHeld (a : Terms) (roots : List Key) : Type 0 where
  pub stands : (i : ℕ) (k : Key) → slice_get roots i ≡ Some k → IsSome (term_at a k.number)
  pub distinct : AreDistinctKeys roots

-- rules of these ranks and bodies, whose calls hold identities, as they are seen: with the places of the rules that they call
abbrev pub seen : List ℕ → List ℕ → List (List Node) → List KeyedRule
seen order [] bodies = []
seen order (r ∷ ranks) [] = []
seen order (r ∷ ranks) (b ∷ bodies) = record { rank = r; nodes = placed order b } ∷ seen order ranks bodies

abbrev pub AllKnown : List ℕ → List (List Node) → Type 0
AllKnown order [] = Unit {0}
AllKnown order (b ∷ bodies) = AreKnown order b × AllKnown order bodies

-- each rule has a root, a rank and an identity, and all calls are of rules that are there
pub record AreRules (a : Terms) (roots : List Key) (ranks order : List ℕ) : Type 0 where
  pub held : AreHeld a roots
  pub ranked : length ranks ≡ length roots
  pub ordered : length order ≡ length roots
  pub known : AllKnown order (terms_of a roots)

-- the rules are a grammar, and each node has as many children as its label says
pub record IsLawful (G : List KeyedRule) : Type 0 where
  pub grammar : IsGrammar (rules_of G)
  pub arities : (r : ℕ) → HasArities (ranks_of (rules_of G)) (nodes_at G r)

-- how often each rule is called, and how many nodes are no parameters
pub record AreCounted (G : List KeyedRule) (calls : List ℕ) (nodes : ℕ) : Type 0 where
  pub many : length calls ≡ length G
  pub each : (q : ℕ) → q < length G → get_or calls q 0 ≡ calls_of (rules_of G) q
  pub real : nodes ≡ size (rules_of G)

-- the rules are held and lawful, and what is counted is right
pub record IsKept (a : Terms) (roots : List Key) (ranks calls order : List ℕ) (nodes : ℕ) : Type 0 where
  pub rules : AreRules a roots ranks order
  pub lawful : IsLawful (seen order ranks (terms_of a roots))
  pub counted : AreCounted (seen order ranks (terms_of a roots)) calls nodes

-- one body is other nodes, and each other is as it was
pub record Changed (a b : Terms) (roots news : List Key) (r : ℕ) (ms : List Node) : Type 0 where
  pub held : AreHeld b news
  pub bodies : terms_of b news ≡ set (terms_of a roots) r ms

-- one of these keys
abbrev pub IsIn : List Key → Key → Type 0
IsIn ks k = (j : ℕ) × (slice_get ks j ≡ Some k)

-- a node is a child of another, which has room for its children
pub record IsFoldable (a : Terms) (upper lower : Key) : Type 0 where
  pub here : At a lower
  pub place : ℕ
  pub above : key_in here.nodes place ≡ Some upper
  pub child : ℕ
  pub is_child : slice_get (kids_in here.nodes place) child ≡ Some lower
  pub few : length (kids_in here.nodes place) + length (kids_in here.nodes here.place) ≤ 9
