-- The parent of a node of a body, by that of the node above it.
use Rattle.std.proofs.Common.{◌≡◌, ℕ, zero, suc, ◌+◌, ◌<◌, ◌≤◌, List, [], ◌∷◌, ◌++◌, length, get_or, take, drop, refl, ap, sym, ◌∙◌, arith, append_assoc, append-nil, Option, None, Some, subst}
use Rattle.std.specs.Prelude.{slice_get}
use Rattle.std.proofs.lemmas.Option.{same_Some}
use Rattle.rule_arena.specs.Preorder.{AreTerms}
use Rattle.rule_arena.specs.Terms.{Node, kids_of, parent_in}
use Rattle.rule_arena.specs.declared.key.Key.{Key}
use Rattle.rule_arena.specs.declared.label.Label.{Label}
use Rattle.rule_arena.specs.declared.label.Label.TheVariants.{Bottom, Symbol, Call, Param}
use Rattle.slt_grammar.specs.Algebras.{ranks_of}
use Rattle.slt_grammar.specs.Bodies.{CallsBelow, arity, params}
use Rattle.slt_grammar.specs.Editing.{put}
use Rattle.slt_grammar.specs.Keyed.{Keyed, KeyedRule, IsKeyed, key_at, nodes_at, rules_of}
use Rattle.slt_grammar.specs.Segments.{part_of, preorder, segment}
use Rattle.slt_grammar.specs.Tours.{Stop, stop, tour}
use Rattle.slt_grammar.specs.declared.rules.Rule.{Rule}
use Rattle.slt_grammar.proofs.KeyedLemmas.{key_at-within, nodes-are-term}
use Rattle.slt_grammar.proofs.Spreads.{IsPlain}
use Rattle.slt_grammar.proofs.TourLemmas.{spread_nodes}
use Rattle.slt_grammar.proofs.TourWalking.{key-node, node-key}
use Rattle.segment_counts.specs.Weights.{node_weight}
use Rattle.preorder_address.specs.Parents.{IsEntry, first_terms, kid_sizes, parent_behind, parents_behind, told_by, until}
use Rattle.preorder_address.specs.Sites.{laden, labels_before, shape, stops_before}
use Rattle.preorder_address.specs.declared.parent.Edge.{Edge}
use Rattle.preorder_address.proofs.Lading.{label_arity}
use Rattle.preorder_address.proofs.Listings.{before_place, fronts, kids_from, placed-in-tour, spread-nodes-append, tour-comes}
use Rattle.preorder_address.proofs.Loads.{shape-params, shape-term}
use Rattle.preorder_address.proofs.ParentLists.{behind-append, behind-put, behind-within, length-same, params-until, until-split}
use Rattle.preorder_address.proofs.ParentStops.{last-stop}
use Rattle.preorder_address.proofs.Siting.{is, kid-args, kids-terms, kids_at, length-kids}

-- the segments and kids before part i of a call
abbrev seg_fronts : List Label → List (List Label) → ℕ → List Label
seg_fronts T cs zero = []
seg_fronts T cs (suc i) = seg_fronts T cs i ++ (segment i T ++ get_or cs i [])

module _ (l : Label) (T : List Label) (first : segment 0 (l ∷ T) ≡ l ∷ segment 0 T) (others : (i : ℕ) → segment (suc i) (l ∷ T) ≡ segment (suc i) T) where
  plain-fronts : (cs : List (List Label)) (i : ℕ) → seg_fronts (l ∷ T) cs i ++ segment i (l ∷ T) ≡ l ∷ (seg_fronts T cs i ++ segment i T)
  plain-fronts cs zero = first
  plain-fronts cs (suc i) =
      let c = get_or cs i [] in
      ap (λ ls. ls ++ segment (suc i) (l ∷ T)) (sym (append_assoc (seg_fronts (l ∷ T) cs i) (segment i (l ∷ T)) c) ∙ ap (λ ls. ls ++ c) (plain-fronts cs i))
      ∙ ap (λ ls. ((l ∷ (seg_fronts T cs i ++ segment i T)) ++ c) ++ ls) (others i) ∙ ap (λ ls. l ∷ (ls ++ segment (suc i) T)) (append_assoc (seg_fronts T cs i) (segment i T) c)

param-fronts : (T c : List Label) (cs : List (List Label)) (i : ℕ) → seg_fronts (Param ∷ T) (c ∷ cs) (suc i) ≡ c ++ seg_fronts T cs i
param-fronts T c cs zero = sym (append-nil c)
param-fronts T c cs (suc i) = ap (λ ls. ls ++ (segment i T ++ get_or cs i [])) (param-fronts T c cs i) ∙ append_assoc c (seg_fronts T cs i) (segment i T ++ get_or cs i [])

fronts-until : (T : List Label) (cs : List (List Label)) (i : ℕ) → i < params T → i ≤ length cs → seg_fronts T cs i ++ segment i T ≡ put (until T i) cs
fronts-until [] cs i h k = absurd (omega arith)
fronts-until (Param ∷ T) cs zero h k = refl
fronts-until (Param ∷ T) [] (suc i) h k = absurd (omega arith)
fronts-until (Param ∷ T) (c ∷ cs) (suc i) h k =
    ap (λ ls. ls ++ segment i T) (param-fronts T c cs i) ∙ append_assoc c (seg_fronts T cs i) (segment i T) ∙ ap (λ ls. c ++ ls) (fronts-until T cs i (omega arith) (omega arith))
fronts-until (Bottom ∷ T) cs i h k = plain-fronts Bottom T refl (λ i. refl) cs i ∙ ap (λ ls. Bottom ∷ ls) (fronts-until T cs i h k)
fronts-until (Symbol f ∷ T) cs i h k = plain-fronts (Symbol f) T refl (λ i. refl) cs i ∙ ap (λ ls. Symbol f ∷ ls) (fronts-until T cs i h k)
fronts-until (Call q ∷ T) cs i h k = plain-fronts (Call q) T refl (λ i. refl) cs i ∙ ap (λ ls. Call q ∷ ls) (fronts-until T cs i h k)

get-take : (k j : ℕ) (cs : List (List Label)) → j < k → get_or (take k cs) j [] ≡ get_or cs j []
get-take zero j cs h = absurd (omega arith)
get-take (suc k) j [] h = refl
get-take (suc k) zero (c ∷ cs) h = refl
get-take (suc k) (suc j) (c ∷ cs) h = get-take k j cs (omega arith)

module _ (G : List Rule) where
  fronts-take : (l : Label) (k i : ℕ) (cs : List (List Label)) → i ≤ k → fronts G l (take k cs) i ≡ fronts G l cs i
  fronts-take l k zero cs h = refl
  fronts-take l k (suc i) cs h = ap (λ ls. ls ++ (part_of G l i ++ get_or (take k cs) i [])) (fronts-take l k i cs (omega arith)) ∙ ap (λ c. fronts G l cs i ++ (part_of G l i ++ c)) (get-take k i cs h)

  fronts-call : (q i : ℕ) (cs : List (List Label)) → fronts G (Call q) cs i ≡ seg_fronts (preorder G q) cs i
  fronts-call q zero cs = refl
  fronts-call q (suc i) cs = ap (λ ls. ls ++ (segment i (preorder G q) ++ get_or cs i [])) (fronts-call q i cs)

  -- before a kid stand the labels of its node's meaning before the kid's parameter
  fronts-put : (l : Label) → IsPlain l → (k i : ℕ) (cs : List (List Label)) → params (shape G l) ≡ k → length cs ≡ k → i < k → fronts G l cs i ++ part_of G l i ≡ put (until (shape G l) i) cs
  fronts-put Param p k i cs e n h = absurd p
  fronts-put Bottom p k i cs e n h = absurd (omega arith)
  fronts-put (Symbol f) p k zero cs e n h = refl
  fronts-put (Symbol f) p k (suc zero) [] e n h = absurd (omega arith)
  fronts-put (Symbol f) p k (suc zero) (c ∷ cs) e n h = refl
  fronts-put (Symbol f) p k (suc (suc i)) cs e n h = absurd (omega arith)
  fronts-put (Call q) p k i cs e n h = ap (λ ls. ls ++ segment i (preorder G q)) (fronts-call q i cs) ∙ fronts-until (preorder G q) cs i (omega arith) (omega arith)

pub plain-kids : (ranks : List ℕ) (l : Label) (k i : ℕ) → k ≡ arity ranks l → i < k → IsPlain l
plain-kids ranks Param k i e h = omega arith
plain-kids ranks Bottom k i e h = tt
plain-kids ranks (Symbol f) k i e h = tt
plain-kids ranks (Call q) k i e h = tt

pub plain-not : (l : Label) → IsPlain l → l ≡ Param → ⊥
plain-not l p e = subst IsPlain e p

-- the edge leads to the node at place p of a rule's body, and what is open before the node is what is open above it and what is opened on the edge
pub record IsAbove (G : List KeyedRule) (r p : ℕ) (edge : Edge) : Type 0 where
  pub place : ℕ
  pub node : Node
  pub there : slice_get (nodes_at G r) place ≡ Some node
  pub key : node.key ≡ edge.key
  pub label : node.label ≡ edge.label
  pub kid : edge.kid < node.kids
  pub arity_is : node.kids ≡ arity (ranks_of (rules_of G)) edge.label
  pub calls : CallsBelow (length (rules_of G)) (edge.label ∷ [])
  pub early : place < p
  pub rises : (args : List ℕ) (first : ℕ) (up : Option ℕ) → parents_behind args first (up ∷ []) (labels_before G r p)
      ≡ parents_behind (kid_sizes G args r place node) (first + laden node_weight args (labels_before G r place)) [] (until (shape (rules_of G) edge.label) edge.kid) ++ parents_behind args first (up ∷ []) (labels_before G r place)

module _ (g : Keyed) (K : IsKeyed g) (r p : ℕ) (key : Key) (e : key_at g.rules r p ≡ Some key) (edge : Edge) (f : parent_in (nodes_at g.rules r) p ≡ Some (edge.key, edge.kid + 1))
    (told : (r q : ℕ) → key_at g.rules r q ≡ Some edge.key → (x : Node) × (slice_get (nodes_at g.rules r) q ≡ Some x) × (x.key ≡ edge.key) × (x.label ≡ edge.label)) where
  abbrev H : List Rule
  H = rules_of g.rules

  abbrev ns : List Node
  ns = nodes_at g.rules r

  t : AreTerms kids_of 1 ns
  t = nodes-are-term g K r (key_at-within g.rules r p key e).0

  module _ (q : ℕ) (y : Node) (there : slice_get ns q ≡ Some y) (before : List (Stop Node)) (part : ℕ) (split : stops_before ([] ∷ []) ns p ≡ before ++ stop y part ∷ []) (is_part : part ≡ edge.kid) (label : y.label ≡ edge.label) (kid : edge.kid < y.kids) where
    base-is : labels_before g.rules r p ≡ labels_before g.rules r q ++ (fronts H y.label (kids_from H ns t q) part ++ part_of H y.label part)
    base-is =
        let x = key-node ns p key e in
        let c = tour-comes H ns t p x.0 x.1 in
        let s : tour kids_of ([] ∷ []) ns ≡ before ++ stop y part ∷ (stop x.0 0 ∷ c.0) = c.1 ∙ ap (λ ms. ms ++ stop x.0 0 ∷ c.0) split ∙ append_assoc before (stop y part ∷ []) (stop x.0 0 ∷ c.0) in
        let d = placed-in-tour H ns t before (stop x.0 0 ∷ c.0) (stop y part) s in
        let o = K.once y.key r d.0 r q (node-key ns d.0 y d.1) (node-key ns q y there) in
        ap (spread_nodes H) split ∙ spread-nodes-append H before (stop y part ∷ []) ∙ ap (λ ls. spread_nodes H before ++ ls) (append-nil (part_of H y.label part))
        ∙ ap (λ ls. ls ++ part_of H y.label part) (d.2 ∙ ap (λ j. before_place H ns t j ++ fronts H y.label (kids_from H ns t j) part) o.1)
        ∙ append_assoc (labels_before g.rules r q) (fronts H y.label (kids_from H ns t q) part) (part_of H y.label part)

    module _ (args : List ℕ) (first : ℕ) (up : Option ℕ) where
      abbrev cs : List (List Label)
      cs = kids_at g K node_weight refl r args q y there

      rising : parents_behind args first (up ∷ []) (labels_before g.rules r p)
          ≡ parents_behind (kid_sizes g.rules args r q y) (first + laden node_weight args (labels_before g.rules r q)) [] (until (shape H edge.label) edge.kid) ++ parents_behind args first (up ∷ []) (labels_before g.rules r q)
      rising =
          let i = is g K node_weight refl r args q y there in
          let T = shape H edge.label in
          let n = length-kids g K node_weight refl r args q y there in
          let plain : IsPlain y.label = plain-kids (ranks_of H) y.label y.kids edge.kid i.kids kid in
          let m : params (shape H y.label) ≡ y.kids = shape-params H K.grammar y.label plain i.calls ∙ sym i.kids in
          let m' : params T ≡ y.kids = ap (λ l. params (shape H l)) (sym label) ∙ m in
          let d : edge.kid < params T = omega (arith, kid, m') in
          let front : fronts H y.label (kids_from H ns t q) part ++ part_of H y.label part ≡ put (until T edge.kid) cs =
          ap (λ ls. ls ++ part_of H y.label part) (sym (fronts-take H y.label y.kids part (kids_from H ns t q) (omega (arith, is_part, kid))))
          ∙ fronts-put H y.label plain y.kids part cs m n (omega (arith, is_part, kid)) ∙ ap (λ j. put (until (shape H y.label) j) cs) is_part ∙ ap (λ l. put (until (shape H l) edge.kid) cs) label in
          let base = labels_before g.rules r q in
          let us = drop (params base) args in
          let k : ℕ = first + laden node_weight args base in
          let S = parents_behind args first (up ∷ []) base in
          let v = until-split edge.kid T d in
          let one : AreTerms label_arity 1 (until T edge.kid ++ Param ∷ v.0) = subst (λ (ls : List Label). AreTerms label_arity 1 ls) v.1 (shape-term H K.grammar edge.label) in
          ap (parents_behind args first (up ∷ [])) (base-is ∙ ap (λ ls. base ++ ls) front)
          ∙ behind-append args first (up ∷ []) base (put (until T edge.kid) cs) us k refl refl
          ∙ behind-put us k S (until T edge.kid) cs (omega (arith, params-until edge.kid T d, kid, n)) (kids-terms g K node_weight refl r args q y there)
          ∙ ap (λ vs. parents_behind vs k S (until T edge.kid)) (kid-args g K node_weight refl r args q y there)
          ∙ behind-within Param v.0 0 (kid_sizes g.rules args r q y) k [] S (until T edge.kid) refl one

  pub above : IsAbove g.rules r p edge
  above =
      let L = last-stop g K r p key e (edge.key, edge.kid + 1) f in
      let q = L.place in
      let y = L.node in
      let w = told r q (node-key ns q y L.there ∙ ap Some L.key) in
      let same : w.0 ≡ y = same_Some w.0 y (sym w.1 ∙ L.there) in
      let label : y.label ≡ edge.label = ap (λ (z : Node). z.label) (sym same) ∙ w.3 in
      let part : L.part ≡ edge.kid = omega (arith, L.kid) in
      let i = is g K node_weight refl r [] q y L.there in
      let arities : y.kids ≡ arity (ranks_of H) edge.label = i.kids ∙ ap (arity (ranks_of H)) label in
      let kid : edge.kid < y.kids = omega (arith, part, L.within) in
      record {
        place = q;
        node = y;
        there = L.there;
        key = L.key;
        label = label;
        kid = kid;
        arity_is = arities;
        calls = subst (λ (l : Label). CallsBelow (length H) (l ∷ [])) label i.calls;
        early = L.early;
        rises = λ args first up. rising q y L.there L.before L.part L.split part label kid args first up;
      }

pub first-of : (xs ys : List (Option ℕ)) → 0 < length xs → get_or (xs ++ ys) 0 None ≡ get_or xs 0 None
first-of [] ys h = absurd (omega arith)
first-of (x ∷ xs) ys h = refl

none-of : (xs ys : List (Option ℕ)) → length xs ≡ 0 → xs ++ ys ≡ ys
none-of [] ys h = refl
none-of (x ∷ xs) ys h = absurd (omega arith)

module _ (G : List KeyedRule) (r p : ℕ) (edge : Edge) (a : IsAbove G r p edge) where
  opened : (args : List ℕ) (first : ℕ) → length (parents_behind (kid_sizes G args r a.place a.node) (first + laden node_weight args (labels_before G r a.place)) [] (until (shape (rules_of G) edge.label) edge.kid)) ≡ first_terms (rules_of G) edge.label edge.kid
  opened args first = length-same (kid_sizes G args r a.place a.node) [] (first + laden node_weight args (labels_before G r a.place)) 0 [] [] (until (shape (rules_of G) edge.label) edge.kid) refl

  pub entry-is : 0 < first_terms (rules_of G) edge.label edge.kid → IsEntry G r edge a.place a.node
  entry-is h = record { there = a.there; key = a.key; label = a.label; kid = a.kid; enters = h }

  -- where the way goes over a first term, the edge tells the parent
  pub entry-tells : 0 < first_terms (rules_of G) edge.label edge.kid → (args : List ℕ) (first : ℕ) (up : Option ℕ) → parent_behind args first up (labels_before G r p) ≡ told_by G r edge a.place a.node args first
  entry-tells h args first up =
      ap (λ us. get_or us 0 None) (a.rises args first up)
      ∙ first-of (parents_behind (kid_sizes G args r a.place a.node) (first + laden node_weight args (labels_before G r a.place)) [] (until (shape (rules_of G) edge.label) edge.kid)) (parents_behind args first (up ∷ []) (labels_before G r a.place)) (omega (arith, h, opened args first))

  -- and where it doesn't, the parent is that of the node above
  pub climbs : first_terms (rules_of G) edge.label edge.kid ≡ 0 → (args : List ℕ) (first : ℕ) (up : Option ℕ) → parent_behind args first up (labels_before G r p) ≡ parent_behind args first up (labels_before G r a.place)
  climbs h args first up =
      ap (λ us. get_or us 0 None) (a.rises args first up
      ∙ none-of (parents_behind (kid_sizes G args r a.place a.node) (first + laden node_weight args (labels_before G r a.place)) [] (until (shape (rules_of G) edge.label) edge.kid)) (parents_behind args first (up ∷ []) (labels_before G r a.place)) (omega (arith, h, opened args first)))
