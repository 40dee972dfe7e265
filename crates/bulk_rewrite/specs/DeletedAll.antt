-- Documents all of whose nodes with some numbers are taken out.
use Rattle.std.specs.Prelude.{ℕ, List, map}
use Rattle.plain_tree.specs.NodePairs.{Pair}
use Rattle.plain_tree.specs.Tree.{Tree}
use Rattle.slt_grammar.specs.Automata.{Downward}
use Rattle.slt_grammar.specs.Standing.{StandsFor}
use Rattle.slt_grammar.specs.declared.rules.Rule.{Rule}
use Rattle.bulk_rewrite.specs.Joining.{MayDelete, Marked, deleted, joining_run, texts_in}
use Rattle.bulk_rewrite.specs.Numbered.{has}
use Rattle.bulk_rewrite.specs.declared.renaming_all.BulkError.{BulkError}
use Rattle.bulk_rewrite.specs.declared.renaming_all.BulkError.TheVariants.{NotAllowed, Memory}

-- The rules stand with the names and with these texts for the document without the nodes with these numbers and all below them, where texts
-- that meet are one. Neither the document nor its root element is among those.
pub record AreDeleted (numbers : List ℕ) (names : List Pair) (H : List Rule) (values : List (List ℕ)) (t : Tree) : Type 0 where
  pub allowed : MayDelete (has numbers) t
  pub stand : StandsFor H names values (deleted (has numbers) 0 t)

-- why the nodes are not taken out
abbrev pub IsNotDeletedFor : BulkError → List ℕ → Tree → Type 0
IsNotDeletedFor NotAllowed numbers t = MayDelete (has numbers) t → ⊥
IsNotDeletedFor Memory numbers t = Unit {0}

-- the run downward by which the nodes are taken out that another hits
abbrev pub deleting_run : {S D : Type 0} → Downward S D → List Pair → Downward S (Marked D)
deleting_run W names = joining_run W (texts_in (map (λ p. p.0) names))
