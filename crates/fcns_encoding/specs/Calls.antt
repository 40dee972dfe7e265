-- What a builder's calls say of names and texts.
use Rattle.std.specs.Prelude.{ℕ, List, [], ◌∷◌}
use Rattle.plain_tree.specs.declared.kind.Kind.TheVariants as kind
use Rattle.xml_nodes.specs.Machine.{Event, Opened, Leaf, Closed}
use Rattle.fcns_encoding.specs.Interning.{Pair}

-- the pairs of the nodes that were begun
abbrev pub event_pairs : List Event → List Pair
event_pairs [] = []
event_pairs (Opened n ∷ es) = (kind.Element, n) ∷ event_pairs es
event_pairs (Leaf k n v ∷ es) = (k, n) ∷ event_pairs es
event_pairs (Closed ∷ es) = event_pairs es

-- and before them the document's
abbrev pub started_pairs : List Event → List Pair
started_pairs es = (kind.Document, []) ∷ event_pairs es

-- and before them the document's, where there are any calls
abbrev pub begun_pairs : List Event → List Pair
begun_pairs [] = []
begun_pairs (e ∷ es) = started_pairs (e ∷ es)

-- the values, in order
abbrev pub event_texts : List Event → List (List ℕ)
event_texts [] = []
event_texts (Opened n ∷ es) = event_texts es
event_texts (Leaf k n v ∷ es) = v ∷ event_texts es
event_texts (Closed ∷ es) = event_texts es

-- the first value, and none where there is none
abbrev pub first_value : List (List ℕ) → List ℕ
first_value [] = []
first_value (v ∷ vs) = v

abbrev pub other_values : List (List ℕ) → List (List ℕ)
other_values [] = []
other_values (v ∷ vs) = vs

-- the calls with these values, one after another
abbrev pub valued : List Event → List (List ℕ) → List Event
valued [] values = []
valued (Opened n ∷ es) values = Opened n ∷ valued es values
valued (Leaf k n v ∷ es) values = Leaf k n (first_value values) ∷ valued es (other_values values)
valued (Closed ∷ es) values = Closed ∷ valued es values
