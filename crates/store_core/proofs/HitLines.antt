-- The lines of hits are those of the document's nodes.
use Rattle.std.proofs.Common.{◌≡◌, ℕ, List, [], ◌∷◌, ◌++◌, Some, slice_get, All, refl, ap, ◌∙◌}
use Rattle.std.specs.List.{flat_map}
use Rattle.std.proofs.lemmas.List.Elements.{All-head, All-tail}
use Rattle.plain_tree.specs.declared.kind.Kind.{Kind}
use Rattle.plain_tree.specs.Tree.{Tree}
use Rattle.slt_grammar.specs.Grammars.{value}
use Rattle.rule_runs.specs.Hits.{numbers, symbols_in}
use Rattle.rule_runs.specs.declared.listing.Hit.{Hit}
use Rattle.rule_runs.proofs.Symbols.{document-symbol}
use Rattle.store_core.specs.Printed.{hit_line, hit_lines}
use Rattle.store_core.specs.Texts.{selected_line}
use Rattle.store_core.specs.Worlds.{Parts, PartsStandFor}

-- the line of a hit is that of the node with its number
pub line-told : (parts : Parts) (tree : Tree) → PartsStandFor parts tree → (hit : Hit) → slice_get (symbols_in (value parts.rules)) hit.number ≡ Some hit.symbol → hit_line parts.names hit ≡ selected_line tree hit.number
line-told parts tree stand hit e =
    let n = document-symbol parts.names parts.rules parts.texts tree stand hit.number hit.symbol e in
    rw (n.pair, n.there) refl

pub lines-told : (names : List (Kind × List ℕ)) (tree : Tree) (hits : List Hit) → All (λ hit. hit_line names hit ≡ selected_line tree hit.number) hits → hit_lines names hits ≡ flat_map (selected_line tree) (numbers hits)
lines-told names tree [] told = refl
lines-told names tree (hit ∷ hits) told =
    let P : Hit → Type 0 = λ hit. hit_line names hit ≡ selected_line tree hit.number in
    ap (λ line. line ++ hit_lines names hits) (All-head P hit hits told) ∙ ap (λ lines. selected_line tree hit.number ++ lines) (lines-told names tree hits (All-tail P hit hits told))
