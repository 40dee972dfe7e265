-- What a selector hits in the code of a document is what the query selects.
use Rattle.std.proofs.Common.{◌≡◌, ℕ, zero, suc, ◌+◌, ◌*◌, ◌-◌, ◌<◌, ◌≤◌, List, ◌++◌, Bool, true, false, refl, ap, sym, ◌∙◌, arith, length, subst, append-nil}
use Rattle.std.specs.Option.{option_map_or}
use Rattle.std.specs.Prelude.{◌==◌, nat_lt, Option, Some, None, slice_get}
use Rattle.std.proofs.lemmas.Bool.Decides.{nat_tests}
use mathlib.Core.Path.{fun_ext}
use Rattle.plain_tree.specs.declared.kind.Kind.{Kind}
use Rattle.plain_tree.specs.declared.kind.Kind.TheVariants as kinds
use Rattle.plain_tree.specs.NameTable.{AreDistinct}
use Rattle.plain_tree.specs.Numbers.{nodes, nodes_all}
use Rattle.plain_tree.specs.Tree.{Tree, node, Trees, none, more, kind_code, node_count, node_count_all}
use Rattle.plain_tree.proofs.NodeCounts.{length-nodes_all}
use Rattle.rule_arena.proofs.PreorderLemmas.{slice_get-left, slice_get-right}
use Rattle.slt_grammar.specs.Automata.{nodes_in, hits}
use Rattle.slt_grammar.specs.Terms.{Term, Leaf, Node}
use Rattle.xpath_parser.specs.declared.query.Axis.{Axis}
use Rattle.xpath_parser.specs.Comparing.{literals_of_test, literals_of}
use Rattle.xpath_parser.specs.Meaning.{answer, selected}
use Rattle.xpath_parser.specs.Numbering.{Numbering, numbered, is_kind, passes_test}
use Rattle.xpath_parser.specs.Queries.{Test, Paths}
use Rattle.selecting_automaton.specs.declared.turns.Turn.{Turn}
use Rattle.selecting_automaton.specs.declared.turns.Wanted.{Wanted}
use Rattle.selecting_automaton.proofs.Literals.{TellsTexts, AreMarked}
use Rattle.value_tests.specs.MarkedCodes.{node_mark, CodesMarked}
use Rattle.selecting_automaton.specs.Places.{code_at, kids_of, code_numbered}
use Rattle.selecting_automaton.specs.Program.{selecting}
use Rattle.selecting_automaton.specs.Readings.{first_is, first_passes}
use Rattle.selecting_automaton.specs.Turning.{Eyes, list_algebra, list_downward}
use Rattle.selecting_automaton.specs.Wanting.{wanted, eyes, kinds_of}
use Rattle.selecting_automaton.proofs.Agreeing.{answer-same}
use Rattle.selecting_automaton.proofs.Naming.{kind-at, takes-passes}
use Rattle.selecting_automaton.proofs.Selected.{hits-answer}

module _ (names : List (Kind × List ℕ)) (mark : List ℕ → ℕ) (tells : TellsTexts mark) (one : AreDistinct names) where
  abbrev E : Eyes
  E = eyes (kinds_of names)

  abbrev W : Axis → Test → Wanted
  W = wanted names mark

  -- a code begins with the code of a tree, or it is none where no tree is
  abbrev Begins : Term → Option Tree → Type 0
  Begins F None = F ≡ Leaf
  Begins F (Some t) = (first_is E.attribute F ≡ is_kind kinds.Attribute t) × ((a : Axis) (test : Test) → AreMarked mark (literals_of_test test) → first_passes E W a test F ≡ passes_test a test t) × (nodes_in (kids_of F) ≡ node_count t - 1)

  size-coded : (ts : Trees) (term : Term) → CodesMarked names mark ts term → nodes_in term ≡ node_count_all ts
  size-coded none term c = ap nodes_in c
  size-coded (more (node k n v ks) ts) term c = ap nodes_in c.6 ∙ omega (arith, size-coded ks c.1 c.4, size-coded ts c.2 c.5)

  begins-behind : (f : ℕ) (below behind : Term) (ks ts : Trees) (i : ℕ) (b : Bool) → nat_lt i (nodes_in below) ≡ b → nodes_in below ≡ node_count_all ks
      → Begins (code_at below i) (slice_get (nodes_all ks) i) → ((j : ℕ) → Begins (code_at behind j) (slice_get (nodes_all ts) j))
      → Begins (code_at (Node f below behind) (suc i)) (slice_get (nodes_all ks ++ nodes_all ts) i)
  begins-behind f below behind ks ts i true e s kids rest =
      let l : i < length (nodes_all ks) = grind (arith, nat_tests, s, length-nodes_all ks) in
      rw (e, slice_get-left (nodes_all ks) (nodes_all ts) i l) kids
  begins-behind f below behind ks ts i false e s kids rest =
      let j : ℕ = i - nodes_in below in
      let l : nodes_in below ≤ i = grind (arith, nat_tests) in
      let d : i ≡ length (nodes_all ks) + j = omega (arith, l, s, length-nodes_all ks) in
      rw (e, ap (slice_get (nodes_all ks ++ nodes_all ts)) d ∙ slice_get-right (nodes_all ks) (nodes_all ts) j) (rest j)

  begins-coded : (ts : Trees) (term : Term) → CodesMarked names mark ts term → (i : ℕ) → Begins (code_at term i) (slice_get (nodes_all ts) i)
  begins-coded none term c i = ap (λ (F : Term). code_at F i) c
  begins-coded (more (node k n v ks) ts) term c zero =
      let e : node_count_all ks ≡ node_count_all ks + 1 - 1 = omega arith in
      subst (λ (F : Term). Begins (code_at F 0) (Some (node k n v ks))) (sym c.6)
      (ap (λ (j : Kind). kind_code j == 2) (kind-at names mark tells one c.0 k n v c.3), takes-passes names mark tells one c.0 k n v c.3 ks, size-coded ks c.1 c.4 ∙ e)
  begins-coded (more (node k n v ks) ts) term c (suc i) =
      subst (λ (F : Term). Begins (code_at F (suc i)) (slice_get (nodes_all ks ++ nodes_all ts) i)) (sym c.6)
      (begins-behind (c.0 + length names * node_mark names mark k v) c.1 c.2 ks ts i (nat_lt i (nodes_in c.1)) refl (size-coded ks c.1 c.4) (begins-coded ks c.1 c.4 i) (begins-coded ts c.2 c.5))

  extent-coded : (F : Term) (o : Option Tree) → Begins F o → nodes_in (kids_of F) ≡ option_map_or (λ (s : Tree). node_count s - 1) o 0
  extent-coded F None b = ap (λ (G : Term). nodes_in (kids_of G)) b
  extent-coded F (Some t) b = b.2

  attribute-coded : (F : Term) (o : Option Tree) → Begins F o → first_is E.attribute F ≡ option_map_or (is_kind kinds.Attribute) o false
  attribute-coded F None b = ap (first_is E.attribute) b
  attribute-coded F (Some t) b = b.0

  passes-coded : (a : Axis) (test : Test) → AreMarked mark (literals_of_test test) → (F : Term) (o : Option Tree) → Begins F o → first_passes E W a test F ≡ option_map_or (passes_test a test) o false
  passes-coded a test h F None b = ap (first_passes E W a test) b
  passes-coded a test h F (Some t) b = b.1 a test h

  same-numbering : (c d : ℕ) (e f : ℕ → ℕ) (g h : ℕ → Bool) (p : Axis → Test → ℕ → Bool) → c ≡ d → e ≡ f → g ≡ h
      → ◌≡◌ {A = Numbering} (record { count = c; extent = e; attribute = g; passes = p }) (record { count = d; extent = f; attribute = h; passes = p })
  same-numbering c d e f g h p w x y = rw (w, x, y) refl

  -- a query whose values have marks has the same answer by the numbers of a document and by those of its code
  answer-coded : (t : Tree) (term : Term) (ps : Paths) → AreMarked mark (literals_of ps) → CodesMarked names mark (more t none) term → answer (code_numbered E W term) ps ≡ selected t ps
  answer-coded t term ps w c =
      let D : Numbering = code_numbered E W term in
      let at : (i : ℕ) → Begins (code_at term i) (slice_get (nodes t) i) = λ i. rw (append-nil (nodes t)) at (begins-coded (more t none) term c i) in
      let size : node_count t + 0 ≡ node_count t = omega arith in
      ap (λ (N : Numbering). answer N ps) (same-numbering (nodes_in term) (node_count t) D.extent (numbered t).extent D.attribute (numbered t).attribute D.passes
      (size-coded (more t none) term c ∙ size)
      (fun_ext (λ i. extent-coded (code_at term i) (slice_get (nodes t) i) (at i)))
      (fun_ext (λ i. attribute-coded (code_at term i) (slice_get (nodes t) i) (at i))))
      ∙ answer-same mark (node_count t) (numbered t).extent (numbered t).attribute D.passes (numbered t).passes (λ a test h i. passes-coded a test h (code_at term i) (slice_get (nodes t) i) (at i)) ps w

-- what the selector of a query hits in the code of a document is what the query selects
pub hits-select : (names : List (Kind × List ℕ)) (mark : List ℕ → ℕ) (t : Tree) (term : Term) (ps : Paths) → TellsTexts mark → AreDistinct names → AreMarked mark (literals_of ps) → CodesMarked names mark (more t none) term
    → hits (list_algebra (eyes (kinds_of names)) (selecting (wanted names mark) ps)) (list_downward (eyes (kinds_of names)) (selecting (wanted names mark) ps)) term ≡ selected t ps
hits-select names mark (node k n v ks) term ps tells one marked c =
    let E : Eyes = eyes (kinds_of names) in
    let W : Axis → Test → Wanted = wanted names mark in
    let ts : List Turn = selecting W ps in
    let symbol : ℕ = c.0 + length names * node_mark names mark k v in
    let root : term ≡ Node symbol c.1 Leaf = c.6 ∙ ap (Node symbol c.1) c.5 in
    subst (λ (F : Term). hits (list_algebra E ts) (list_downward E ts) F ≡ answer (code_numbered E W F) ps) (sym root) (hits-answer E W ps symbol c.1)
    ∙ answer-coded names mark tells one (node k n v ks) term ps marked c
