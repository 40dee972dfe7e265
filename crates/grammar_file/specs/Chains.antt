-- What an automaton tells of coded chains of siblings: of which lawful nodes they may be the kids, by kinds alone.
use Rattle.std.specs.Prelude.{ℕ, Bool, true, false, if◌then◌else◌, List, [], map, Option, Some, None, slice_get}
use Rattle.plain_tree.specs.declared.kind.Kind.{Kind}
use Rattle.plain_tree.specs.declared.kind.Kind.TheVariants.{Document, Element, Attribute, Text, Comment, Instruction}
use Rattle.slt_grammar.specs.Algebras.{Algebra}
use Rattle.slt_grammar.specs.Terms.{Term, up}
use Rattle.grammar_file.specs.declared.chains.Chain.{Chain}
use Rattle.grammar_file.specs.declared.chains.Chain.TheVariants.{Broken, Empty, Whole, Aside, Rooted, Content, Tagged}

abbrev pub is_empty : Chain → Bool
is_empty Empty = true
is_empty c = false

-- whether an element may have these kids
abbrev pub is_of_element : Chain → Bool
is_of_element Broken = false
is_of_element Whole = false
is_of_element c = true

-- a document with these kids, before a chain
abbrev pub document : Chain → Chain → Chain
document Rooted Empty = Whole
document kids rest = Broken

-- a chain behind an element
abbrev pub behind_element : Chain → Chain
behind_element Empty = Rooted
behind_element Aside = Rooted
behind_element Rooted = Content
behind_element Content = Content
behind_element c = Broken

-- behind a text
abbrev pub behind_text : Chain → Chain
behind_text Empty = Content
behind_text Aside = Content
behind_text Rooted = Content
behind_text Content = Content
behind_text c = Broken

-- behind a comment or an instruction
abbrev pub behind_aside : Chain → Chain
behind_aside Empty = Aside
behind_aside Aside = Aside
behind_aside Rooted = Rooted
behind_aside Content = Content
behind_aside c = Broken

-- behind an attribute
abbrev pub behind_attribute : Chain → Chain
behind_attribute Broken = Broken
behind_attribute Whole = Broken
behind_attribute c = Tagged

-- a chain behind a node of a kind with kids
abbrev pub behind_node : Option Kind → Chain → Chain → Chain
behind_node None kids rest = Broken
behind_node (Some Document) kids rest = document kids rest
behind_node (Some Element) kids rest = if is_of_element kids then behind_element rest else Broken
behind_node (Some Attribute) kids rest = if is_empty kids then behind_attribute rest else Broken
behind_node (Some Text) kids rest = if is_empty kids then behind_text rest else Broken
behind_node (Some Comment) kids rest = if is_empty kids then behind_aside rest else Broken
behind_node (Some Instruction) kids rest = if is_empty kids then behind_aside rest else Broken

-- no nodes are the empty chain, and a symbol, of one of these kinds by its place, is a node before the chain of its next sibling
abbrev pub chain_algebra : List Kind → Algebra Chain
chain_algebra kinds = record { bottom = Empty; node = λ f kids rest. behind_node (slice_get kinds f) kids rest }

abbrev pub kinds_of : List (Kind × List ℕ) → List Kind
kinds_of = map (λ pair. pair.0)

-- the chain that a term codes
abbrev pub chain_of : List (Kind × List ℕ) → Term → Chain
chain_of names term = up (chain_algebra (kinds_of names)) term []
