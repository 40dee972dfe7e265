-- What a folder keeps tells one list of calls.
use Rattle.std.proofs.Common.{◌≡◌, ℕ, List, [], ◌∷◌, Some, slice_get, refl, ap, sym, ◌∙◌}
use Rattle.plain_tree.specs.declared.kind.Kind.TheVariants as kind
use Rattle.plain_tree.specs.Tree.{Tree, node, Trees, none, more}
use Rattle.slt_grammar.specs.Terms.{Term, Leaf as Bottom, Node}
use Rattle.slt_grammar.specs.Coding.{Codes}
use Rattle.xml_nodes.specs.Machine.{Event, Opened, Leaf, Closed, events, events_all, IsShaped, AreShaped}
use Rattle.fcns_encoding.specs.Calls.{event_texts, valued}
use Rattle.fcns_encoding.specs.Cells.{terms_of}
use Rattle.fcns_encoding.specs.Folding.{Builds, Tells, kids_of, pair_at, node_calls, term_calls, stack_calls, told}
use Rattle.fcns_encoding.specs.Interning.{Pair, tree_pair}
use Rattle.fcns_encoding.specs.declared.part.Part.{Part}
use Rattle.fcns_encoding.specs.declared.part.Part.TheVariants.{Begun, Whole}
use Rattle.fcns_encoding.specs.declared.subterms.Cell.{Cell}
use Rattle.fcns_encoding.proofs.CellLemmas.{get_is}

-- the calls without their values
abbrev pub bare : List Event → List Event
bare [] = []
bare (Opened n ∷ es) = Opened n ∷ bare es
bare (Leaf k n v ∷ es) = Leaf k n [] ∷ bare es
bare (Closed ∷ es) = Closed ∷ bare es

-- with its values they are the calls
valued-bare : (log : List Event) → valued (bare log) (event_texts log) ≡ log
valued-bare [] = refl
valued-bare (Opened n ∷ es) = ap (λ fs. Opened n ∷ fs) (valued-bare es)
valued-bare (Leaf k n v ∷ es) = ap (λ fs. Leaf k n v ∷ fs) (valued-bare es)
valued-bare (Closed ∷ es) = ap (λ fs. Closed ∷ fs) (valued-bare es)

-- the code of trees, of which there is a first
record First (names : List Pair) (t : Tree) (ts : Trees) (term : Term) : Type 0 where
  symbol : ℕ
  below : Term
  behind : Term
  pair : slice_get names symbol ≡ Some (tree_pair t)
  kids : Codes names (kids_of t) below
  others : Codes names ts behind
  is : term ≡ Node symbol below behind

first_of : (names : List Pair) (t : Tree) (ts : Trees) (term : Term) → Codes names (more t ts) term → First names t ts term
first_of names (node k n v ks) ts term c = record { symbol = c.0; below = c.1; behind = c.2; pair = c.3; kids = c.4; others = c.5; is = c.6 }

module _ (names : List Pair) where
  mutual
    -- the calls of a node's code are those of the node without values
    node-calls : (t : Tree) (symbol : ℕ) (below : Term) (next : List Event) → IsShaped t → slice_get names symbol ≡ Some (tree_pair t) → Codes names (kids_of t) below
        → node_calls (pair_at names symbol) (term_calls names below (Closed ∷ bare next)) (bare next) ≡ bare (events t next)
    node-calls (node kind.Element n v ks) f a next s e c =
        ap (λ p. node_calls p (term_calls names a (Closed ∷ bare next)) (bare next)) (get_is names f (kind.Element, n) (kind.Text, []) e)
        ∙ ap (λ es. Opened n ∷ es) (trees-calls ks a (Closed ∷ next) s.1 c)
    node-calls (node kind.Document n v ks) f a next s e c = absurd s
    node-calls (node kind.Attribute n v ks) f a next s e c =
        ap (λ p. node_calls p (term_calls names a (Closed ∷ bare next)) (bare next)) (get_is names f (kind.Attribute, n) (kind.Text, []) e)
    node-calls (node kind.Text n v ks) f a next s e c =
        ap (λ p. node_calls p (term_calls names a (Closed ∷ bare next)) (bare next)) (get_is names f (kind.Text, n) (kind.Text, []) e)
    node-calls (node kind.Comment n v ks) f a next s e c =
        ap (λ p. node_calls p (term_calls names a (Closed ∷ bare next)) (bare next)) (get_is names f (kind.Comment, n) (kind.Text, []) e)
    node-calls (node kind.Instruction n v ks) f a next s e c =
        ap (λ p. node_calls p (term_calls names a (Closed ∷ bare next)) (bare next)) (get_is names f (kind.Instruction, n) (kind.Text, []) e)

    trees-calls : (ts : Trees) (term : Term) (next : List Event) → AreShaped ts → Codes names ts term → term_calls names term (bare next) ≡ bare (events_all ts next)
    trees-calls none term next s c = ap (λ t. term_calls names t (bare next)) c
    trees-calls (more t ts) term next s c =
        let w = first_of names t ts term c in
        ap (λ t. term_calls names t (bare next)) w.is
        ∙ ap (λ es. node_calls (pair_at names w.symbol) (term_calls names w.below (Closed ∷ es)) es) (trees-calls ts w.behind next s.1 w.others)
        ∙ node-calls t w.symbol w.below (events_all ts next) s.0 w.pair w.kids

  stack-calls : (terms : List Term) (parts : List Part) (log : List Event) → Builds names terms parts log → stack_calls names terms parts ≡ bare log
  stack-calls terms [] log b = sym (ap bare b)
  stack-calls terms (Begun symbol ∷ parts) log b =
      ap (λ (p : Pair). Opened p.1 ∷ stack_calls names terms parts) (get_is names symbol (kind.Element, b.0) (kind.Text, []) b.2)
      ∙ ap (λ es. Opened b.0 ∷ es) (stack-calls terms parts b.1 b.4) ∙ sym (ap bare b.3)
  stack-calls terms (Whole symbol below ∷ parts) log b =
      ap (λ t. node_calls (pair_at names symbol) (term_calls names t (Closed ∷ stack_calls names terms parts)) (stack_calls names terms parts)) (get_is terms below b.1 Bottom b.5)
      ∙ ap (λ es. node_calls (pair_at names symbol) (term_calls names b.1 (Closed ∷ es)) es) (stack-calls terms parts b.2 b.8)
      ∙ node-calls b.0 symbol b.1 b.2 b.3 b.4 b.6 ∙ sym (ap bare b.7)

-- the calls that are told are the log
pub tells-told : (names : List Pair) (cells : List Cell) (values : List (List ℕ)) (stack : List Part) (log : List Event) → Tells names (terms_of cells) values stack log → told names cells values stack ≡ log
tells-told names cells values stack log w =
    ap (λ es. valued es values) (stack-calls names (terms_of cells) stack log w.built) ∙ ap (valued (bare log)) w.texts ∙ valued-bare log
