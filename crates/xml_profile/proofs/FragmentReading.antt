-- From the nodes of a builder to the fragment that the bytes spell.
use Rattle.std.proofs.Common.{◌≡◌, ℕ, false, List, [], ◌∷◌, ◌++◌, refl, ap, sym, ◌∙◌, subst}
use Rattle.plain_tree.specs.Tree.{Tree, Trees, none, trees}
use Rattle.xml_nodes.specs.Machine.{Event, Opened, events_all, AreShaped}
use Rattle.xml_nodes.specs.Spelling.{SpellsList}
use Rattle.xml_nodes.proofs.One.{content_shaped}
use Rattle.xml_profile.specs.Reading.{EndsContent}
use Rattle.xml_profile.proofs.Fragments.{spelled_content, silent_content}

module _ (log after calls : List Event) (bytes : List ℕ) (begun : log ≡ Opened [] ∷ calls) (e : EndsContent log after calls bytes)
    (result : List Tree) (content : (ks : Trees) → AreShaped ks → after ≡ Opened [] ∷ events_all ks [] → trees result ≡ ks) where
  -- they are the nodes of the content
  are : trees result ≡ e.nodes
  are = content e.nodes (content_shaped e.nodes false e.tokens [] e.content)
      (e.logged ∙ ap (λ z. z ++ e.more) begun ∙ ap (λ z. Opened [] ∷ z) e.all)

  pub fragment_spelled : (result ≡ [] → ⊥) → SpellsList bytes (trees result)
  fragment_spelled some = subst (λ z. SpellsList bytes z) (sym are) (spelled_content log after calls bytes e (λ empty. some (no_trees result (are ∙ empty)))) where
    no_trees : (ts : List Tree) → trees ts ≡ none → ts ≡ []
    no_trees [] f = refl
    no_trees (t ∷ ts) f = cc

  pub fragment_empty : result ≡ [] → (nodes : Trees) → SpellsList bytes nodes → ⊥
  fragment_empty empty = silent_content log after calls bytes e (sym are ∙ ap trees empty)
