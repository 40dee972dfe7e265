-- Each edit as edits by which no texts meet, one after another.
use Rattle.std.proofs.Common.{◌≡◌, ℕ, suc, ◌+◌, ◌<◌, List, [], ◌++◌, false, refl, ap, sym, ◌∙◌, arith}
use Rattle.plain_tree.specs.declared.kind.Kind.{Kind}
use Rattle.plain_tree.specs.declared.kind.Kind.TheVariants.{Text}
use Rattle.plain_tree.specs.Joined.{join_front}
use Rattle.plain_tree.specs.Tree.{Tree, node, Trees, none, more, node_count_all}
use Rattle.plain_tree.specs.Edits.{changed, chained, with_first, with_kids, with_value, others, alone, made}
use Rattle.plain_tree.specs.declared.edit.Edit.TheVariants.{Delete, Value, Copy}
use Rattle.plain_tree.proofs.Changing.{changed-inside, more-later, from_node, changed-alike, changed-within, changed-deeper, changed-same, from-deeper, chained-more, chained-none, chained-chained, count-chained}
use Rattle.plain_tree.proofs.Seams.{HaveLeafTexts}
use Rattle.plain_tree.proofs.SeamTexts.{text, begins_text, ends_text, text_before, join-apart, meets-nothing, text-meets, valued-then, valued-alone, text-apart, begins-first, begins-chained, not-begins, chained-apart, chained-aside, chained-meet}

-- the trees before node n
abbrev pub inserted : (Tree → Trees → Trees) → Trees → ℕ → Trees → Trees
inserted put F = changed put (chained put F)

-- the trees behind the last kid of node n
abbrev pub appended : (Tree → Trees → Trees) → Trees → ℕ → Trees → Trees
appended put F = changed more (with_first (with_kids (λ kids. chained put kids F)))

abbrev pub valued_at : List ℕ → ℕ → Trees → Trees
valued_at w = changed more (with_first (with_value w))

abbrev pub deleted : ℕ → Trees → Trees
deleted = changed more others

module _ (a : ℕ) (ts : Trees) (low : suc a < node_count_all ts) where
  low-before : a < node_count_all ts
  low-before = omega arith

  -- no text stands just before node n
  module _ (leaves : HaveLeafTexts ts) (no : text_before (from_node a ts) ≡ false) where
    pub delete-apart : made join_front (Delete (suc a)) ts ≡ made more (Delete (suc a)) ts
    delete-apart = meets-nothing others a ts low leaves no

    pub insert-apart : (F : Trees) → inserted join_front F (suc a) ts ≡ changed more (chained join_front F) (suc a) ts
    insert-apart F = meets-nothing (chained join_front F) a ts low leaves no

    pub copy-apart : (k : Kind) (m v : List ℕ) (ks us : Trees) → from_node (suc a) ts ≡ more (node k m v ks) us → begins_text (more (node k m v ks) none) ≡ false → made join_front (Copy (suc a)) ts ≡ made more (Copy (suc a)) ts
    copy-apart k m v ks us here other =
        let f : Trees → Trees = λ ts. chained join_front (alone ts) ts in
        let g : Trees → Trees = λ ts. chained more (alone ts) ts in
        meets-nothing f a ts low leaves no ∙ changed-alike f g (suc a) ts low (ap f here ∙ not-begins (node k m v ks) (more (node k m v ks) us) other ∙ ap g (sym here))

    pub copy-text : (z : List ℕ) (us : Trees) → from_node (suc a) ts ≡ more (text z) us → made join_front (Copy (suc a)) ts ≡ valued_at (z ++ z) (suc a) ts
    copy-text z us here =
        let f : Trees → Trees = λ ts. chained join_front (alone ts) ts in
        meets-nothing f a ts low leaves no ∙ changed-alike f (with_first (with_value (z ++ z))) (suc a) ts low (ap f here ∙ ap (with_first (with_value (z ++ z))) (sym here))

  -- the text x stands just before node n, which is t
  module _ (x : List ℕ) (t : Tree) (us : Trees) (here : from_node a ts ≡ more (text x) (more t us)) where
    pub delete-aside : begins_text us ≡ false → made join_front (Delete (suc a)) ts ≡ made more (Delete (suc a)) ts
    delete-aside e = text-apart a ts x t us here low-before others e

    -- what begins with no text comes there
    pub insert-aside : (s : Tree) (F : Trees) → begins_text (more s F) ≡ false → inserted join_front (more s F) (suc a) ts ≡ changed more (chained join_front (more s F)) (suc a) ts
    insert-aside s F e = text-apart a ts x t us here low-before (chained join_front (more s F)) (begins-chained s F (more t us) ∙ e)

    -- a text comes there, and others behind it
    pub insert-front : (y : List ℕ) (s : Tree) (F : Trees) → inserted join_front (more (text y) (more s F)) (suc a) ts ≡ changed more (chained join_front (more s F)) (suc a) (valued_at (x ++ y) a ts)
    insert-front y s F = text-meets a ts x t us here low-before (chained join_front (more (text y) (more s F))) ∙ sym (valued-then a ts x t us here low-before (x ++ y) (chained join_front (more s F)))

    -- a text alone, before a node that is none
    pub insert-text : (y : List ℕ) → begins_text (more t us) ≡ false → inserted join_front (more (text y) none) (suc a) ts ≡ valued_at (x ++ y) a ts
    insert-text y e =
        text-meets a ts x t us here low-before (chained join_front (more (text y) none))
        ∙ ap (λ vs. changed more (λ _. vs) a ts) (ap (join_front (text x)) (join-apart (text y) (more t us) e))
        ∙ sym (valued-alone a ts x t us here low-before (x ++ y))

  -- between two texts
  module _ (x z : List ℕ) (us : Trees) (here : from_node a ts ≡ more (text x) (more (text z) us)) where
    -- three texts become one
    pub insert-between : (y : List ℕ) → inserted join_front (more (text y) none) (suc a) ts ≡ deleted (suc a) (valued_at (x ++ (y ++ z)) a ts)
    insert-between y =
        text-meets a ts x (text z) us here low-before (chained join_front (more (text y) none))
        ∙ sym (valued-then a ts x (text z) us here low-before (x ++ (y ++ z)) others)

    pub copy-behind-text : made join_front (Copy (suc a)) ts ≡ deleted (suc a) (valued_at (x ++ (z ++ z)) a ts)
    copy-behind-text =
        text-meets a ts x (text z) us here low-before (λ ts. chained join_front (alone ts) ts)
        ∙ sym (valued-then a ts x (text z) us here low-before (x ++ (z ++ z)) others)

  module _ (x : List ℕ) (k : Kind) (m v : List ℕ) (ks us : Trees) where
    pub copy-aside : from_node a ts ≡ more (text x) (more (node k m v ks) us) → begins_text (more (node k m v ks) none) ≡ false → made join_front (Copy (suc a)) ts ≡ made more (Copy (suc a)) ts
    copy-aside here other =
        let f : Trees → Trees = λ ts. chained join_front (alone ts) ts in
        let g : Trees → Trees = λ ts. chained more (alone ts) ts in
        let z : a + 1 ≡ suc a = omega arith in
        let some : 1 < node_count_all (from_node a ts) = rw here (omega arith) in
        let at : from_node (suc a) ts ≡ more (node k m v ks) us = ap (λ (i : ℕ). from_node i ts) (sym z) ∙ from-deeper a ts low-before 0 some ∙ ap (from_node 1) here in
        let same : f (more (node k m v ks) us) ≡ g (more (node k m v ks) us) = not-begins (node k m v ks) (more (node k m v ks) us) other in
        text-apart a ts x (node k m v ks) us here low-before f (ap begins_text same ∙ begins-first (node k m v ks) (more (node k m v ks) us) none ∙ other)
        ∙ changed-alike f g (suc a) ts low (ap f at ∙ same ∙ ap g (sym at))

    -- two texts meet where a node between them goes
    pub delete-between : (y : List ℕ) → from_node a ts ≡ more (text x) (more (node k m v ks) (more (text y) us))
        → made join_front (Delete (suc a)) ts ≡ made more (Delete (suc a)) (made more (Delete (suc a + suc (node_count_all ks))) (made more (Value a (x ++ y)) ts))
    delete-between y here =
        let t : Tree = node k m v ks in
        let w : List ℕ = x ++ y in
        let c : ℕ = node_count_all ks in
        let V : Trees → Trees = with_first (with_value w) in
        let F : Trees → Trees = λ vs. changed more others (suc (suc c)) (V vs) in
        let valued : V (from_node a ts) ≡ more (text w) (more t (more (text y) us)) = ap V here in
        let size : suc (suc c) < node_count_all (V (from_node a ts)) = rw valued (omega arith) in
        let i1 : suc a + suc c ≡ a + suc (suc c) = omega arith in
        let i2 : suc (suc c) ≡ suc (0 + suc c) = omega arith in
        let i3 : suc c ≡ suc (c + 0) = omega arith in
        let inner : changed more others (suc (suc c)) (more (text w) (more t (more (text y) us))) ≡ more (text w) (more t us) =
        ap (λ (i : ℕ). changed more others i (more (text w) (more t (more (text y) us)))) i2 ∙ more-later others Text [] w none (more t (more (text y) us)) (suc c)
        ∙ ap (λ (i : ℕ). more (text w) (changed more others i (more t (more (text y) us)))) i3 ∙ ap (more (text w)) (more-later others k m v ks (more (text y) us) 0) in
        let made-F : F (from_node a ts) ≡ more (text w) (more t us) = ap (changed more others (suc (suc c))) valued ∙ inner in
        let first : changed more others (suc a + suc c) (changed more V a ts) ≡ changed more F a ts = ap (λ (i : ℕ). changed more others i (changed more V a ts)) i1 ∙ changed-within V others a ts low-before (suc (suc c)) size in
        let i4 : a + 1 ≡ suc a = omega arith in
        let second : changed more others (suc a) (changed more F a ts) ≡ changed more (λ vs. changed more others 1 (F vs)) a ts =
        ap (λ (i : ℕ). changed more others i (changed more F a ts)) (sym i4) ∙ changed-within F others a ts low-before 1 (rw made-F (omega arith)) in
        text-meets a ts x t (more (text y) us) here low-before others
        ∙ changed-alike (λ _. more (text w) us) (λ vs. changed more others 1 (F vs)) a ts low-before (sym (ap (changed more others 1) made-F))
        ∙ sym second ∙ ap (changed more others (suc a)) (sym first)

-- what comes before node n, and the last of it is no text, or the node is none
pub inserted-aside : (F : Trees) (n : ℕ) (ts : Trees) → n < node_count_all ts → begins_text (from_node n ts) ≡ false → changed more (chained join_front F) n ts ≡ inserted more F n ts
inserted-aside F n ts low e = changed-alike (chained join_front F) (chained more F) n ts low (chained-aside F (from_node n ts) e)

pub inserted-apart : (F : Trees) (n : ℕ) (ts : Trees) → n < node_count_all ts → ends_text F ≡ false → changed more (chained join_front F) n ts ≡ inserted more F n ts
inserted-apart F n ts low e = changed-alike (chained join_front F) (chained more F) n ts low (chained-apart F (from_node n ts) e)

-- or both are texts
pub inserted-meets : (F : Trees) (y z : List ℕ) (us : Trees) (n : ℕ) (ts : Trees) → n < node_count_all ts → from_node n ts ≡ more (text z) us
    → changed more (chained join_front (chained more F (more (text y) none))) n ts ≡ inserted more F n (valued_at (y ++ z) n ts)
inserted-meets F y z us n ts low here =
    let f : Trees → Trees = chained join_front (chained more F (more (text y) none)) in
    let V : Trees → Trees = with_first (with_value (y ++ z)) in
    let i : n + 0 ≡ n = omega arith in
    let valued : V (from_node n ts) ≡ more (text (y ++ z)) us = ap V here in
    changed-alike f (λ vs. chained more F (V vs)) n ts low (ap f here ∙ chained-meet F us y z ∙ ap (chained more F) (sym valued))
    ∙ sym (changed-within V (chained more F) n ts low 0 (rw valued (omega arith))) ∙ ap (λ (j : ℕ). changed more (chained more F) j (changed more V n ts)) i

-- what comes behind the last kid of node n, which is no text or comes before none
pub append-aside : (F : Trees) (n : ℕ) (ts : Trees) → n < node_count_all ts → begins_text F ≡ false → appended join_front F n ts ≡ appended more F n ts
append-aside F n ts low e = changed-alike (with_first (with_kids (λ kids. chained join_front kids F))) (with_first (with_kids (λ kids. chained more kids F))) n ts low (same (from_node n ts))
  where
    same : (us : Trees) → with_first (with_kids (λ kids. chained join_front kids F)) us ≡ with_first (with_kids (λ kids. chained more kids F)) us
    same none = refl
    same (more (node k m v ks) us) = ap (λ xs. more (node k m v xs) us) (chained-aside ks F e)

module _ (F : Trees) (n : ℕ) (ts : Trees) (low : n < node_count_all ts) (k : Kind) (m v : List ℕ) (us : Trees) where
  pub append-apart : (ks : Trees) → from_node n ts ≡ more (node k m v ks) us → ends_text ks ≡ false → appended join_front F n ts ≡ appended more F n ts
  append-apart ks here e =
      let f : Trees → Trees = with_first (with_kids (λ kids. chained join_front kids F)) in
      let g : Trees → Trees = with_first (with_kids (λ kids. chained more kids F)) in
      changed-alike f g n ts low (ap f here ∙ ap (λ xs. more (node k m v xs) us) (chained-apart ks F e) ∙ ap g (sym here))

  -- a text comes behind a text
  pub append-meets : (ks : Trees) (x y : List ℕ) → from_node n ts ≡ more (node k m v (chained more ks (more (text x) none))) us
      → appended join_front (more (text y) F) n ts ≡ appended more F n (valued_at (x ++ y) (n + suc (node_count_all ks)) ts)
  append-meets ks x y here =
      let w : List ℕ = x ++ y in
      let K : Trees = chained more ks (more (text x) none) in
      let c : ℕ = node_count_all ks in
      let V : Trees → Trees = with_first (with_value w) in
      let f : Trees → Trees = with_first (with_kids (λ kids. chained join_front kids (more (text y) F))) in
      let g : Trees → Trees = with_first (with_kids (λ kids. chained more kids F)) in
      let h : Trees → Trees = λ vs. changed more V (suc c) vs in
      let count-K : node_count_all K ≡ c + 1 = omega (arith, count-chained ks (more (text x) none)) in
      let made-f : f (more (node k m v K) us) ≡ more (node k m v (chained more ks (more (text w) F))) us = ap (λ xs. more (node k m v xs) us) (chained-meet ks F x y) in
      let made-h : h (more (node k m v K) us) ≡ more (node k m v (chained more ks (more (text w) none))) us =
      changed-inside more V k m v K us c (omega arith) ∙ ap (λ xs. more (node k m v xs) us) (at-end ks) in
      let made-g : g (more (node k m v (chained more ks (more (text w) none))) us) ≡ more (node k m v (chained more ks (more (text w) F))) us =
      ap (λ xs. more (node k m v xs) us) (chained-chained ks (more (text w) none) F) in
      let deep : changed more V (n + suc c) ts ≡ changed more h n ts = changed-deeper more V n ts low c (rw here (omega arith)) in
      let i : n + 0 ≡ n = omega arith in
      let h-is : h (from_node n ts) ≡ more (node k m v (chained more ks (more (text w) none))) us = ap h here ∙ made-h in
      changed-alike f (λ vs. g (h vs)) n ts low (ap f here ∙ made-f ∙ sym (ap g h-is ∙ made-g))
      ∙ sym (changed-within h g n ts low 0 (rw h-is (omega arith))) ∙ ap (λ (j : ℕ). changed more g j (changed more h n ts)) i ∙ ap (changed more g n) (sym deep)
    where
      at-end : (ks : Trees) → changed more (with_first (with_value (x ++ y))) (node_count_all ks) (chained more ks (more (text x) none)) ≡ chained more ks (more (text (x ++ y)) none)
      at-end none = refl
      at-end (more (node k' m' v' ks') ss) =
          let V : Trees → Trees = with_first (with_value (x ++ y)) in
          let i : node_count_all (more (node k' m' v' ks') ss) ≡ suc (node_count_all ks' + node_count_all ss) = omega arith in
          ap (λ us. changed more V (node_count_all (more (node k' m' v' ks') ss)) us) (chained-more (node k' m' v' ks') ss (more (text x) none))
          ∙ ap (λ (j : ℕ). changed more V j (more (node k' m' v' ks') (chained more ss (more (text x) none)))) i
          ∙ more-later V k' m' v' ks' (chained more ss (more (text x) none)) (node_count_all ss) ∙ ap (more (node k' m' v' ks')) (at-end ss)
          ∙ sym (chained-more (node k' m' v' ks') ss (more (text (x ++ y)) none))

-- nothing comes behind the last kid
pub append-nothing : (n : ℕ) (ts : Trees) → n < node_count_all ts → appended more none n ts ≡ ts
append-nothing n ts low = changed-same (with_first (with_kids (λ kids. chained more kids none))) n ts low (same (from_node n ts))
  where
    same : (us : Trees) → with_first (with_kids (λ kids. chained more kids none)) us ≡ us
    same none = refl
    same (more (node k m v ks) us) = ap (λ xs. more (node k m v xs) us) (chained-none ks)
