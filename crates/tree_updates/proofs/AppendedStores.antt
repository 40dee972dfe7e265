-- A fragment that comes behind the last kid of a node.
use Rattle.std.proofs.Common.{◌≡◌, ℕ, ◌+◌, ◌-◌, ◌*◌, ◌<◌, ◌≤◌, ◌^◌, List, [], ◌∷◌, ◌++◌, length, ap, sym, ◌∙◌, subst, arith, Some, append-nil}
use Rattle.std.specs.Prelude.{option_map}
use Rattle.std.specs.List.{insert_slice}
use Rattle.std.proofs.lemmas.Option.{same_Some}
use Rattle.plain_tree.specs.declared.edit.Edit.TheVariants.{Append}
use Rattle.plain_tree.specs.declared.kind.Kind.{Kind}
use Rattle.plain_tree.specs.Allowed.{IsAllowed, MayStandUnder}
use Rattle.plain_tree.specs.EditLaws.{IsEditOf}
use Rattle.plain_tree.specs.Edits.{edited, made, placed}
use Rattle.plain_tree.specs.Lawful.{IsDocument}
use Rattle.plain_tree.specs.NodePairs.{Pair}
use Rattle.plain_tree.specs.Numbers.{texts, texts_all}
use Rattle.plain_tree.specs.Tree.{Tree, node, Trees, none, more, trees, node_count, node_count_all}
use Rattle.plain_tree.proofs.EditCounts.{count-appended, edits-are-counted}
use Rattle.plain_tree.proofs.LawfulDocuments.{placed-alone}
use Rattle.rule_arena.specs.declared.label.Label.{Label}
use Rattle.rule_arena.specs.declared.label.Label.TheVariants.{Bottom, Symbol, Call, Param}
use Rattle.slt_grammar.specs.Bodies.{real_nodes}
use Rattle.slt_grammar.specs.Coding.{Codes, CodesTo}
use Rattle.slt_grammar.specs.Terms.{Term, Leaf, Hole, substitute}
use Rattle.slt_grammar.proofs.Standing.{own, texts-one, texts_all-more}
use Rattle.fcns_encoding.specs.Labels.{term_labels}
use Rattle.preorder_address.specs.Spots.{place_at}
use Rattle.preorder_address.specs.TreeNumbers.{end_at, kind_at}
use Rattle.tree_updates.specs.CodePlaces.{IsBodyOf}
use Rattle.tree_updates.specs.Extents.{IsExtentOf}
use Rattle.tree_updates.specs.FragmentGrowths.{IsEndSite, IsFragmentGrowth}
use Rattle.tree_updates.specs.Growths.{GrowsInto}
use Rattle.tree_updates.specs.declared.growing.Growth.{Growth}
use Rattle.tree_updates.specs.declared.growing.Site.{Site}
use Rattle.tree_updates.specs.declared.node_extent.Extent.{Extent}
use Rattle.tree_updates.proofs.FragmentBodies.{fragment-body}
use Rattle.tree_updates.proofs.KidPlaces.{code-appended, end-leaf, placed-within}
use Rattle.tree_updates.proofs.NameableNodes.{at-told, here-is}
use Rattle.tree_updates.proofs.NodeExtents.{texts-fit}
use Rattle.tree_updates.proofs.NodePlaces.{allowed-there, there-allowed}
use Rattle.tree_updates.proofs.NodesThere.{allowed-low, node-there}
use Rattle.tree_updates.proofs.Ranks.{rank-told}
use Rattle.tree_updates.proofs.StoreSteps.{NodeOf, place-of}
use Rattle.tree_updates.proofs.Texts.{rank_in, texts-appended}

-- what kind a node has that may get such kids
module _ (t : Tree) (n : ℕ) (kind : Kind) (told : Some kind ≡ kind_at t n) (F : List Tree) where
  pub under-allowed : MayStandUnder kind (trees F) → IsAllowed t (Append n F)
  under-allowed h = allowed-there t (Append n F) (at-told t n kind told) (subst (λ (k : Kind). MayStandUnder k (trees F)) (sym (here-is t n kind told)) h)

  pub allowed-under : IsAllowed t (Append n F) → MayStandUnder kind (trees F)
  allowed-under h = subst (λ (k : Kind). MayStandUnder k (trees F)) (here-is t n kind told) (there-allowed t (Append n F) (at-told t n kind told) h)

real-append : (xs ys : List Label) → real_nodes (xs ++ ys) ≡ real_nodes xs + real_nodes ys
real-append [] ys = omega arith
real-append (Param ∷ xs) ys = real-append xs ys
real-append (Bottom ∷ xs) ys = omega (arith, real-append xs ys)
real-append (Symbol f ∷ xs) ys = omega (arith, real-append xs ys)
real-append (Call q ∷ xs) ys = omega (arith, real-append xs ys)

-- a code has two labels for each node
real-coded : (names : List Pair) (last : Term) (ts : Trees) (term : Term) → CodesTo names last ts term → real_nodes (term_labels term) ≡ 2 * node_count_all ts + real_nodes (term_labels last)
real-coded names last none term c = ap (λ x. real_nodes (term_labels x)) c ∙ omega arith
real-coded names last (more (node k m v ks) ts) term c =
    omega (arith, ap (λ x. real_nodes (term_labels x)) c.6, real-append (term_labels c.1) (term_labels c.2), real-coded names Leaf ks c.1 c.4, real-coded names last ts c.2 c.5)

pub real-fragment : (names : List Pair) (F : List Tree) (count : ℕ) (site : Site) (g : Growth) → IsFragmentGrowth names F count site g → real_nodes g.body ≡ 2 * node_count_all (trees F)
real-fragment names F count site g x = ap real_nodes x.body ∙ real-coded names (Hole 0) (trees F) x.front x.code ∙ omega arith

same-node : (r s : Tree) (us vs : Trees) → more r us ≡ more s vs → r ≡ s
same-node r s us vs e = cc

module _ (t : Tree) (n : ℕ) (low : n < node_count t) where
  host : NodeOf n t
  host = node-there t n low

  abbrev host-node : Tree
  host-node = node host.kind host.name host.content host.kids

  all-low : n < node_count_all (more t none)
  all-low = omega (arith, low)

  host-texts : length (texts (node host.kind host.name host.content host.kids)) ≡ length (own host.kind host.content ++ texts_all host.kids)
  host-texts = ap length (sym (texts-one (node host.kind host.name host.content host.kids)) ∙ texts_all-more host.kind host.name host.content host.kids none ∙ ap (λ xs. own host.kind host.content ++ xs) (append-nil (texts_all host.kids)))

  ends : end_at t n ≡ Some ((place-of n t host).0 + 2 * node_count (node host.kind host.name host.content host.kids) - 1)
  ends = ap (option_map (λ (e : ℕ × Tree). e.0 + 2 * node_count e.1 - 1)) (place-of n t host).1

  -- the place and the rank behind its last kid
  module _ (x : Extent) (extent : IsExtentOf t n x) where
    same : extent.here ≡ node host.kind host.name host.content host.kids
    same = same-node extent.here (node host.kind host.name host.content host.kids) extent.behind host.behind (sym extent.from_is ∙ host.here)

    pub some-nodes : 0 < x.nodes
    some-nodes = omega (arith, extent.nodes, ap node_count same)

    rank-is : rank_in n (more t none) ≡ x.rank
    rank-is = same_Some (rank_in n (more t none)) x.rank (sym (rank-told t n low) ∙ extent.rank)

    some-texts : length (texts (node host.kind host.name host.content host.kids)) ≡ x.texts
    some-texts = sym (ap (λ (r : Tree). length (texts r)) same) ∙ sym extent.texts_are

    -- they are numbers of the document's nodes and texts
    pub end-fits : (place : ℕ) → Some place ≡ place_at t n → (place + 2 * x.nodes ≤ 2 * node_count t) × (x.rank + x.texts ≤ length (texts t))
    end-fits place at =
        let q = place-of n t host in
        let place-is : place ≡ q.0 = same_Some place q.0 (at ∙ ap (option_map (λ (e : ℕ × Tree). e.0)) q.1) in
        let w = placed-within (more t none) 0 n q.0 (node host.kind host.name host.content host.kids) q.1 in
        (omega (arith, place-is, w.1, extent.nodes, ap node_count same), omega (arith, rank-is, some-texts, texts-fit t n low (node host.kind host.name host.content host.kids) host.behind host.here))

    pub end-site : (place : ℕ) → Some place ≡ place_at t n → IsEndSite t n (record { place = place + 2 * x.nodes - 1; rank = x.rank + x.texts })
    end-site place at =
        let q = place-of n t host in
        let place-is : place ≡ q.0 = same_Some place q.0 (at ∙ ap (option_map (λ (e : ℕ × Tree). e.0)) q.1) in
        let size : x.nodes ≡ node_count (node host.kind host.name host.content host.kids) = extent.nodes ∙ ap node_count same in
        let new-rank : rank_in n (more t none) + length (own host.kind host.content ++ texts_all host.kids) ≡ x.rank + x.texts = omega (arith, rank-is, some-texts, host-texts) in
        record {
          place = ends ∙ ap (λ (i : ℕ). Some i) (omega (arith, place-is, size));
          fits = (end-fits place at).1;
          texts_are = λ F.
              texts-appended n (more t none) all-low host.kind host.name host.content host.kids host.behind host.here (trees F)
              ∙ ap (λ (i : ℕ). insert_slice (texts_all (more t none)) i (texts_all (trees F))) new-rank ∙ ap (λ xs. insert_slice xs (x.rank + x.texts) (texts_all (trees F))) (texts-one t);
        }

  -- it is a place of the code
  pub end-low : (site : Site) → IsEndSite t n site → site.place < 2 * node_count t + 1
  end-low site h =
      let q = place-of n t host in
      let w = placed-within (more t none) 0 n q.0 (node host.kind host.name host.content host.kids) q.1 in
      let is = same_Some site.place (q.0 + 2 * node_count (node host.kind host.name host.content host.kids) - 1) (sym h.place ∙ ends) in
      omega (arith, is, w.1)

  -- a fragment there makes the document the one with it
  module _ (names : List Pair) (F : List Tree) (count : ℕ) (size : count ≡ node_count_all (trees F)) (site : Site) (h : IsEndSite t n site) (g : Growth) (x : IsFragmentGrowth names F count site g)
      (u : Tree) (is : made more (Append n F) (more t none) ≡ more u none) (document : IsDocument u) where
    site-place : g.site.place ≡ (place-of n t host).0 + 2 * node_count (node host.kind host.name host.content host.kids) - 1
    site-place = ap (λ (w : Site). w.place) x.site_is ∙ same_Some site.place ((place-of n t host).0 + 2 * node_count (node host.kind host.name host.content host.kids) - 1) (sym h.place ∙ ends)

    pub grown-count : node_count u ≡ node_count t + count
    grown-count = omega (arith, ap node_count_all is, count-appended n (more t none) all-low host.kind host.name host.content host.kids host.behind host.here (trees F), size)

    pub fragment-grows : node_count t + count < 2 ^ 63 → GrowsInto names t u g
    fragment-grows few =
        let q = place-of n t host in
        let w = placed-within (more t none) 0 n q.0 (node host.kind host.name host.content host.kids) q.1 in
        let rank-is = ap (λ (w : Site). w.rank) x.site_is in
        record {
          front = x.front;
          body = subst (IsBodyOf x.front) (sym x.body) (fragment-body names (trees F) x.front x.code);
          place = omega (arith, site-place, w.1);
          code = λ around this once before c.
              let at = before ∙ site-place ∙ omega arith in
              let leaf = end-leaf names (more t none) around this once c n all-low q.0 host.kind host.name host.content host.kids host.behind host.here q.1 at in
              subst (λ us. Codes names us (substitute around (substitute x.front (this ∷ []) ∷ []))) is
              (subst (λ (y : Term). Codes names (made more (Append n F) (more t none)) (substitute around (substitute x.front (y ∷ []) ∷ []))) (sym leaf)
              (code-appended names (more t none) around this once c n all-low q.0 host.kind host.name host.content host.kids host.behind host.here q.1 at leaf (trees F) x.front x.code));
          rank = omega (arith, rank-is, h.fits);
          texts_are =
              sym (texts-one u) ∙ ap texts_all (sym is) ∙ h.texts_are F ∙ ap (λ (i : ℕ). insert_slice (texts t) i (texts_all (trees F))) (sym rank-is) ∙ ap (insert_slice (texts t) g.site.rank) (sym x.texts);
          nodes = omega (arith, grown-count, x.nodes);
          document = document;
          small = omega (arith, few, grown-count);
        }

-- the edit by which a fragment comes there, where no texts meet
module _ (t : Tree) (n : ℕ) (F : List Tree) (edit : IsEditOf t (Append n F)) where
  pub host-there : n < node_count t
  host-there = allowed-low t (Append n F) edit.allowed

  alone : (made more (Append n F) (more t none) ≡ more (placed t (Append n F)) none) × IsDocument (placed t (Append n F))
  alone = placed-alone t edit.document_is (Append n F) edit.allowed edit.parts

  pub apart-count : edited t (Append n F) ≡ placed t (Append n F) → node_count (edited t (Append n F)) ≡ node_count t + node_count_all (trees F)
  apart-count same = ap node_count same ∙ omega (arith, edits-are-counted t (Append n F) edit)

  pub apart-grows : (names : List Pair) (count : ℕ) → count ≡ node_count_all (trees F) → (site : Site) → IsEndSite t n site → (g : Growth) → IsFragmentGrowth names F count site g → node_count t + count < 2 ^ 63 → GrowsInto names t (placed t (Append n F)) g
  apart-grows names count size site h g x few = fragment-grows t n host-there names F count size site h g x (placed t (Append n F)) alone.0 alone.1 few
