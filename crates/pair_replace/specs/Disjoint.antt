-- Occurrences of a digram of which no two share a node.
use Rattle.std.specs.Prelude.{List, [], ◌∷◌}
use Rattle.slt_grammar.specs.Digrams.{Occurrence, Occurs, AreDisjoint}
use Rattle.slt_grammar.specs.declared.digram.Digram.{Digram}
use Rattle.slt_grammar.specs.declared.rules.Rule.{Rule}

-- an occurrence shares a node with none of others
abbrev pub IsDisjointFrom : Occurrence → List Occurrence → Type 0
IsDisjointFrom o [] = Unit {0}
IsDisjointFrom o (p ∷ ps) = AreDisjoint o p × IsDisjointFrom o ps

-- the digram occurs at all of these, and no two of them share a node
abbrev pub OccurDisjoint : List Rule → Digram → List Occurrence → Type 0
OccurDisjoint G d [] = Unit {0}
OccurDisjoint G d (o ∷ os) = Occurs G d o × (IsDisjointFrom o os × OccurDisjoint G d os)
