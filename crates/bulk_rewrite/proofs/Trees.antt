-- What becomes of the code of a document is the code of what becomes of the document.
use Rattle.std.proofs.Common.{◌≡◌, ℕ, suc, ◌+◌, List, Bool, true, false, Some, slice_get, if◌then◌else◌, refl, ap, ◌∙◌, arith}
use Rattle.plain_tree.specs.declared.kind.Kind.{Kind}
use Rattle.plain_tree.specs.Tree.{node, Trees, none, more, node_count_all}
use Rattle.slt_grammar.specs.Algebras.{Algebra}
use Rattle.slt_grammar.specs.Automata.{Downward, nodes_in}
use Rattle.slt_grammar.specs.Coding.{Codes}
use Rattle.slt_grammar.specs.Terms.{Term, Node, up}
use Rattle.slt_grammar.specs.declared.automata.Fell.{Fell}
use Rattle.bulk_rewrite.specs.Rewriting.{rewritten}
use Rattle.bulk_rewrite.specs.Numbered.{AreHits, AllHit}
use Rattle.bulk_rewrite.specs.Renaming.{renaming, renamed_all}
use Rattle.bulk_rewrite.proofs.Numbered.{hits-here, hits-below, hits-after}

-- a code has as many nodes as what it codes
pub count-code : (names : List (Kind × List ℕ)) (ts : Trees) (term : Term) → Codes names ts term → nodes_in term ≡ node_count_all ts
count-code names none term c = ap nodes_in c
count-code names (more (node kind name value kids) ts) term (f, below, behind, at, cb, cr, e) =
    let b = count-code names kids below cb in
    let r = count-code names ts behind cr in
    ap nodes_in e ∙ omega arith

module _ {S D : Type 0} (A : Algebra S) (W : Downward S D) (states : List S) (names new : List (Kind × List ℕ)) (taken : ℕ → Bool) where
  module _ (name : List ℕ) (change : ℕ → ℕ) (keeps : (f : ℕ) (p : Kind × List ℕ) → slice_get names f ≡ Some p → slice_get new f ≡ Some p) where
    -- the symbols of nodes that are hit get the new name
    abbrev pub Changes : ℕ → Type 0
    Changes f = (kind : Kind) (old : List ℕ) → slice_get names f ≡ Some (kind, old) → slice_get new (change f) ≡ Some (kind, name)

    symbol-named : (hit : Bool) (f : ℕ) (kind : Kind) (old : List ℕ) → slice_get names f ≡ Some (kind, old) → (hit ≡ true → Changes f) → slice_get new (if hit then change f else f) ≡ Some (kind, if hit then name else old)
    symbol-named true f kind old e h = h refl kind old e
    symbol-named false f kind old e h = keeps f (kind, old) e

    pub codes-renamed : (ts : Trees) (term : Term) (n : ℕ) (d : D) → Codes names ts term → AreHits A W taken n term states d → AllHit A W Changes term states d → Codes new (renamed_all taken name n ts) (rewritten A W (renaming change) term states d)
    codes-renamed none term n d c h all = rw c refl
    codes-renamed (more (node kind old value kids) ts) term n d (f, below, behind, at, cb, cr, e) h all =
        let s : Fell D = W.step f d (up A below states) (up A behind states) in
        let h' : AreHits A W taken n (Node f below behind) states d = rw e at h in
        let all' : AllHit A W Changes (Node f below behind) states d = rw e at all in
        let here : taken n ≡ s.hit = hits-here A W states taken n f below behind d h' in
        let a : Term = rewritten A W (renaming change) below states s.left in
        let b : Term = rewritten A W (renaming change) behind states s.right in
        let m : n + (node_count_all kids + 1) ≡ suc n + nodes_in below = (let k = count-code names kids below cb in omega arith) in
        let p : slice_get new (if s.hit then change f else f) ≡ Some (kind, if taken n then name else old) = rw here (symbol-named s.hit f kind old at all'.0) in
        let first : Codes new (renamed_all taken name (suc n) kids) a = codes-renamed kids below (suc n) s.left cb (hits-below A W states taken n f below behind d h') all'.1 in
        let rest : Codes new (renamed_all taken name (n + (node_count_all kids + 1)) ts) b = rw m (codes-renamed ts behind (suc n + nodes_in below) s.right cr (hits-after A W states taken n f below behind d h') all'.2) in
        (if s.hit then change f else f, a, b, p, first, rest, ap (λ t. rewritten A W (renaming change) t states d) e)
