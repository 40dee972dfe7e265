-- The calls of a tree write its spelling.
use Rattle.std.proofs.Common.{◌≡◌, ℕ, ◌+◌, ◌-◌, Bool, true, false, List, [], ◌∷◌, ◌++◌, refl, ap, ◌∙◌, append_assoc, append-nil, arith}
use Rattle.std.specs.Prelude.{◌==◌, ◌&&◌}
use Rattle.std.proofs.lemmas.Bool.Decides.{nat_tests}
use Rattle.plain_tree.specs.declared.kind.Kind.TheVariants as kind
use Rattle.plain_tree.specs.Tree.{Tree, node, Trees, none, more}
use Rattle.xml_nodes.specs.Saved.{before_kid, is_attribute, element_end, spelling, kids_text, lines_of}
use Rattle.xml_nodes.specs.Pen.{Call, Close, calls, calls_all, Pen, new_pen, ended_tag, line_end, calls_text, CallsWriteTree, CallsSaveDocument}

-- no line feed inside an element
inner_end : (lines : Bool) (depth : ℕ) → line_end lines (depth + 1) ≡ []
inner_end true depth = rw (later depth) refl where
  later : (d : ℕ) → ((d + 1) == 0) ≡ false
  later d = grind (arith, nat_tests)
inner_end false depth = refl

back_again : (depth : ℕ) → depth + 1 - 1 ≡ depth
back_again depth = omega arith

abbrev pen : Bool → ℕ → Bool → Pen
pen lines depth in_tag = record { lines = lines; depth = depth; in_tag = in_tag }

element_shape : (ended name kids last rest : List ℕ) → (ended ++ 60 ∷ name) ++ (kids ++ (last ++ rest)) ≡ ((ended ++ (60 ∷ (name ++ kids))) ++ last) ++ rest
element_shape ended name kids last rest = simp append_assoc

kid_shape : (before first others rest : List ℕ) → ((before ++ first) ++ []) ++ (others ++ rest) ≡ (before ++ (first ++ others)) ++ rest
kid_shape before first others rest = rw (append-nil (before ++ first)) (simp append_assoc)

ended_is : (in_tag : Bool) (n v : List ℕ) (ks : Trees) → before_kid in_tag (node kind.Element n v ks) ≡ ended_tag in_tag
ended_is true n v ks = refl
ended_is false n v ks = refl

never : (b : Bool) → (b && false) ≡ false
never true = refl
never false = refl

-- an element, by its kids
element_text : (t : Tree) (n : List ℕ) (ks : Trees) (lines in_tag : Bool) (depth : ℕ) (next : List Call) (ended : List ℕ)
    → calls_text (pen lines (depth + 1) true) (calls_all ks (Close n ∷ next)) ≡ kids_text true ks n ++ (line_end lines depth ++ calls_text (pen lines depth false) next)
    → (ended ++ 60 ∷ n) ++ calls_text (pen lines (depth + 1) true) (calls_all ks (Close n ∷ next))
    ≡ ((ended ++ (60 ∷ (n ++ kids_text true ks n))) ++ line_end lines depth) ++ calls_text (pen lines depth false) next
element_text t n ks lines in_tag depth next ended e =
    ap (λ z. (ended ++ 60 ∷ n) ++ z) e ∙ element_shape ended n (kids_text true ks n) (line_end lines depth) (calls_text (pen lines depth false) next)

mutual
  tree_text : (t : Tree) (lines in_tag : Bool) (depth : ℕ) (next : List Call) →
      calls_text (pen lines depth in_tag) (calls t next)
      ≡ ((before_kid in_tag t ++ spelling t) ++ line_end lines depth) ++ calls_text (pen lines depth (in_tag && is_attribute t)) next
  tree_text (node kind.Element n v ks) lines true depth next =
      element_text (node kind.Element n v ks) n ks lines true depth next (62 ∷ []) (list_text ks lines true depth n next)
  tree_text (node kind.Element n v ks) lines false depth next =
      element_text (node kind.Element n v ks) n ks lines false depth next [] (list_text ks lines true depth n next)
  tree_text (node kind.Document n v ks) lines true depth next =
      element_text (node kind.Document n v ks) n ks lines true depth next (62 ∷ []) (list_text ks lines true depth n next)
  tree_text (node kind.Document n v ks) lines false depth next =
      element_text (node kind.Document n v ks) n ks lines false depth next [] (list_text ks lines true depth n next)
  tree_text (node kind.Attribute n v ks) lines true depth next = refl
  tree_text (node kind.Attribute n v ks) lines false depth next = refl
  tree_text (node kind.Text n v ks) lines true depth next = refl
  tree_text (node kind.Text n v ks) lines false depth next = refl
  tree_text (node kind.Comment n v ks) lines true depth next = refl
  tree_text (node kind.Comment n v ks) lines false depth next = refl
  tree_text (node kind.Instruction n v ks) lines true depth next = refl
  tree_text (node kind.Instruction n v ks) lines false depth next = refl

  list_text : (ts : Trees) (lines in_tag : Bool) (depth : ℕ) (n : List ℕ) (next : List Call) →
      calls_text (pen lines (depth + 1) in_tag) (calls_all ts (Close n ∷ next)) ≡ kids_text in_tag ts n ++ (line_end lines depth ++ calls_text (pen lines depth false) next)
  list_text none lines in_tag depth n next = rw (back_again depth) (append_assoc (element_end in_tag n) (line_end lines depth) (calls_text (pen lines depth false) next))
  list_text (more t ts) lines in_tag depth n next =
      let first = tree_text t lines in_tag (depth + 1) (calls_all ts (Close n ∷ next)) in
      let others = list_text ts lines (in_tag && is_attribute t) depth n next in
      first ∙ ap (λ z. ((before_kid in_tag t ++ spelling t) ++ z) ++ calls_text (pen lines (depth + 1) (in_tag && is_attribute t)) (calls_all ts (Close n ∷ next))) (inner_end lines depth)
      ∙ ap (λ z. ((before_kid in_tag t ++ spelling t) ++ []) ++ z) others
      ∙ kid_shape (before_kid in_tag t) (spelling t) (kids_text (in_tag && is_attribute t) ts n) (line_end lines depth ++ calls_text (pen lines depth false) next)

pub calls-write_tree : CallsWriteTree
calls-write_tree t p next = tree_text t p.lines p.in_tag p.depth next

outermost_text : (ts : Trees) → calls_text (new_pen true) (calls_all ts []) ≡ lines_of ts
outermost_text none = refl
outermost_text (more t ts) = tree_text t true false 0 (calls_all ts []) ∙ ap (λ x. (spelling t ++ 10 ∷ []) ++ x) (outermost_text ts)

pub calls-save_document : CallsSaveDocument
calls-save_document (node k n v ks) = outermost_text ks
