-- The tokens of a code are those of the trees.
use Rattle.std.proofs.Common.{◌≡◌, ℕ, suc, ◌-◌, List, [], ◌∷◌, ◌++◌, sum_by, refl, ap, sym, ◌∙◌, arith, subst, Some, append_assoc, append-nil}
use Rattle.std.specs.Prelude.{slice_get, nat_lt, if◌then◌else◌}
use Rattle.std.proofs.lemmas.Bool.{lt-ltb, le-ltb}
use Rattle.std.proofs.lemmas.List.Sums.{sum_by-cons}
use Rattle.plain_tree.specs.declared.kind.Kind.{Kind}
use Rattle.plain_tree.specs.Numbers.{nodes, nodes_all}
use Rattle.plain_tree.specs.Tree.{Tree, node, Trees, none, more}
use Rattle.rule_arena.specs.declared.label.Label.{Label}
use Rattle.rule_arena.specs.declared.label.Label.TheVariants.{Bottom, Symbol}
use Rattle.slt_grammar.specs.Coding.{Codes}
use Rattle.slt_grammar.specs.Grammars.{value}
use Rattle.slt_grammar.specs.Keyed.{rules_of}
use Rattle.slt_grammar.specs.Segments.{listed}
use Rattle.slt_grammar.specs.Terms.{Term}
use Rattle.segment_counts.specs.Weights.{node_weight}
use Rattle.value_cursor.specs.Cursors.{left_of}
use Rattle.value_cursor.specs.Laws.{CursorsTellSubtrees}
use Rattle.value_cursor.specs.Tokens.{Tells, TellsAll, tokens}
use Rattle.value_cursor.specs.declared.cursor.Token.{Token}
use Rattle.value_cursor.specs.declared.cursor.Token.TheVariants.{Open, Close}
use Rattle.value_cursor.proofs.Beginning.{IsOpening}

-- the tokens behind the close of a node around which n nodes are open
abbrev closed : ℕ → List Label → List Token
closed n rest = if nat_lt 1 (suc n) then tokens n rest else []

closed-more : (n : ℕ) (rest : List Label) → closed (suc n) rest ≡ tokens (suc n) rest
closed-more n rest = ap (λ b. if b then tokens (suc n) rest else []) (lt-ltb 1 (suc (suc n)) (omega arith))

closed-last : (rest : List Label) → closed 0 rest ≡ []
closed-last rest = ap (λ b. if b then tokens 0 rest else []) (le-ltb 1 1 (omega arith))

module _ (names : List (Kind × List ℕ)) where
  -- the tokens of a code, and the close behind it
  pub record ToldAll (ts : Trees) (n : ℕ) (ls rest : List Label) : Type 0 where
    pub inner : List Token
    pub tells : TellsAll names ts inner
    pub told : tokens (suc n) ls ≡ inner ++ Close ∷ closed n rest

  told-code : (ts : Trees) (term : Term) → Codes names ts term → (n : ℕ) (rest : List Label) → ToldAll ts n (listed term rest) rest
  told-code none term c n rest =
      let e : suc n - 1 ≡ n = omega arith in
      record { inner = []; tells = refl; told = ap (λ t. tokens (suc n) (listed t rest)) c ∙ ap (λ m. Close ∷ (if nat_lt 1 (suc n) then tokens m rest else [])) e }
  told-code (more (node kind name value kids) ts) term (f, below, behind, pair, k, b, e) n rest =
      let u = told-code kids below k (suc n) (listed behind rest) in
      let v = told-code ts behind b n rest in
      let w : tokens (suc (suc n)) (listed below (listed behind rest)) ≡ u.inner ++ Close ∷ (v.inner ++ Close ∷ closed n rest) =
      u.told ∙ ap (λ ls. u.inner ++ Close ∷ ls) (closed-more n (listed behind rest) ∙ v.told) in
      let s : u.inner ++ Close ∷ (v.inner ++ Close ∷ closed n rest) ≡ ((u.inner ++ Close ∷ []) ++ v.inner) ++ Close ∷ closed n rest = simp append_assoc in
      record {
        inner = (Open f ∷ u.inner ++ Close ∷ []) ++ v.inner;
        tells = (Open f ∷ u.inner ++ Close ∷ [], v.inner, (f, u.inner, pair, u.tells, refl), v.tells, refl);
        told = ap (λ t. tokens (suc n) (listed t rest)) e ∙ ap (λ ls. Open f ∷ ls) (w ∙ s);
      }

  -- where labels from a symbol on are left, the node of that number is there, and its tokens come next
  AreTold : List Label → List Tree → Type 0
  AreTold ls all = (before left : List Label) → ls ≡ before ++ left → IsOpening left → (s : Tree) × (slice_get all (sum_by node_weight before) ≡ Some s) × Tells names s (tokens 0 left)

  told-listed : (ts : Trees) (term : Term) → Codes names ts term → (rest : List Label) (all : List Tree) → AreTold rest all → AreTold (listed term rest) (nodes_all ts ++ all)
  unfolding AreTold
  told-listed none term c rest all h [] left e o = absurd (subst IsOpening (sym e ∙ ap (λ t. listed t rest) c) o)
  told-listed none term c rest all h (b ∷ before) left e o =
      let d : Bottom ∷ rest ≡ b ∷ before ++ left = sym (ap (λ t. listed t rest) c) ∙ e in
      let s : Bottom ≡ b = cc in
      let t : rest ≡ before ++ left = cc in
      let m : sum_by node_weight (b ∷ before) ≡ sum_by node_weight before = omega (arith, sum_by-cons node_weight b before, ap node_weight s) in
      rw m (h before left t o)
  told-listed (more (node kind name value kids) ts) term (f, below, behind, pair, k, b, e) rest all h [] left d o =
      let u = told-code kids below k 0 (listed behind rest) in
      let l : tokens 0 left ≡ Open f ∷ u.inner ++ Close ∷ [] =
      ap (tokens 0) (sym d ∙ ap (λ t. listed t rest) e) ∙ ap (λ ls. Open f ∷ ls) (u.told ∙ ap (λ ls. u.inner ++ Close ∷ ls) (closed-last (listed behind rest))) in
      (node kind name value kids, refl, (f, u.inner, pair, u.tells, l))
  told-listed (more (node kind name value kids) ts) term (f, below, behind, pair, k, b, e) rest all h (c ∷ before) left d o =
      let t : Symbol f ∷ listed below (listed behind rest) ≡ c ∷ before ++ left = sym (ap (λ t. listed t rest) e) ∙ d in
      let s : Symbol f ≡ c = cc in
      let v : listed below (listed behind rest) ≡ before ++ left = cc in
      let m : sum_by node_weight (c ∷ before) ≡ suc (sum_by node_weight before) = omega (arith, sum_by-cons node_weight c before, ap node_weight s) in
      let w = told-listed kids below k (listed behind rest) (nodes_all ts ++ all) (told-listed ts behind b rest all h) before left v o in
      let x : slice_get (node kind name value kids ∷ ((nodes_all kids ++ nodes_all ts) ++ all)) (sum_by node_weight (c ∷ before)) ≡ Some w.0 =
      ap (slice_get (node kind name value kids ∷ ((nodes_all kids ++ nodes_all ts) ++ all))) m ∙ ap (λ ns. slice_get ns (sum_by node_weight before)) (append_assoc (nodes_all kids) (nodes_all ts) all) ∙ w.1 in
      (w.0, x, w.2)

nothing-told : (names : List (Kind × List ℕ)) → AreTold names [] []
unfolding AreTold
nothing-told names [] left e o = absurd (subst IsOpening (sym e) o)
nothing-told names (b ∷ before) left e o = cc

pub cursors-tell-subtrees : CursorsTellSubtrees
unfolding AreTold
cursors-tell-subtrees G names t number c k b =
    let w = told-listed names (more t none) (value (rules_of G)) k [] [] (nothing-told names) b.before (left_of G c) b.split (subst IsOpening (sym b.begins) tt) in
    let n : slice_get (nodes t) number ≡ Some w.0 = ap (slice_get (nodes t)) (sym b.number_is) ∙ ap (λ ns. slice_get ns (sum_by node_weight b.before)) (sym (append-nil (nodes t ++ []) ∙ append-nil (nodes t))) ∙ w.1 in
    (w.0, n, subst (λ m. Tells names w.0 (tokens m (left_of G c))) (sym b.none_open) w.2)
