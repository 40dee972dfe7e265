-- Codes that end in a parameter.
use Rattle.std.proofs.Common.{◌≡◌, List, [], ◌∷◌, ◌++◌, ap, sym, ◌∙◌, subst}
use Rattle.plain_tree.specs.Tree.{Tree, node, Trees, none, more, trees}
use Rattle.slt_grammar.specs.Terms.{Term, Node, Hole, substitute}
use Rattle.slt_grammar.specs.Coding.{Codes, CodesTo}
use Rattle.fcns_encoding.specs.Interning.{Pair}

-- a code that ends in bottom has no place for arguments
codes-closed : (names : List Pair) (ts : Trees) (term : Term) (args : List Term) → Codes names ts term → substitute term args ≡ term
codes-closed names none term args c = ap (λ t. substitute t args) c ∙ sym c
codes-closed names (more (node k n v ks) ts) term args c =
    let below : substitute c.1 args ≡ c.1 = codes-closed names ks c.1 args c.4 in
    let behind : substitute c.2 args ≡ c.2 = codes-closed names ts c.2 args c.5 in
    ap (λ t. substitute t args) c.6 ∙ ap (λ t. Node c.0 t (substitute c.2 args)) below ∙ ap (λ t. Node c.0 c.1 t) behind ∙ sym c.6

pub code-goes-before : (names : List Pair) (last : Term) (ss ts : List Tree) (front back : Term) → CodesTo names (Hole 0) (trees ss) front → CodesTo names last (trees ts) back
    → CodesTo names last (trees (ss ++ ts)) (substitute front (back ∷ []))
code-goes-before names last [] ts front back c d = subst (CodesTo names last (trees ts)) (sym (ap (λ t. substitute t (back ∷ [])) c)) d
code-goes-before names last (node k n v ks ∷ ss) ts front back c d =
    let args : List Term = back ∷ [] in
    let below : substitute c.1 args ≡ c.1 = codes-closed names ks c.1 args c.4 in (
      c.0,
      c.1,
      substitute c.2 args,
      c.3,
      c.4,
      code-goes-before names last ss ts c.2 back c.5 d,
      ap (λ t. substitute t args) c.6 ∙ ap (λ t. Node c.0 t (substitute c.2 args)) below,
    )
