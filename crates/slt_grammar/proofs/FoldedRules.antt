-- A fold of nodes is, without the keys, a call in the place of a rule's body over arguments.
use Rattle.std.proofs.Common.{◌≡◌, ◌≢◌, ℕ, zero, suc, ◌+◌, ◌-◌, ◌<◌, ◌≤◌, List, [], ◌∷◌, ◌++◌, length, get_or, take, drop, map, Some, slice_get, refl, sym, ap, ◌∙◌, subst, arith, append_assoc, length-append}
use Rattle.std.specs.List.{flat_map}
use Rattle.std.proofs.lemmas.List.{map-append, length-map, append-nil}
use Rattle.rule_arena.specs.Children.{Child, ChildAt, merged}
use Rattle.rule_arena.specs.Laws.{IsKeyedTerm}
use Rattle.rule_arena.specs.Preorder.{AreTerms, span, terms, subterm, with_subterm}
use Rattle.rule_arena.specs.Terms.{Node, kids_of}
use Rattle.rule_arena.specs.declared.key.Key.{Key}
use Rattle.rule_arena.specs.declared.label.Label.{Label}
use Rattle.rule_arena.specs.declared.label.Label.TheVariants.{Bottom, Symbol, Call, Param}
use Rattle.rule_arena.proofs.PreorderLemmas.{AreTerms-append, span-all, joined-terms, length-terms, subterm-split, AreTerms-split, split_at}
use Rattle.rule_arena.proofs.TakingLaws.{child_apart, dissolving}
use Rattle.rule_arena.proofs.ChildLemmas.{child_place}
use Rattle.slt_grammar.specs.Algebras.{Algebra, ranks_of, all_meanings}
use Rattle.slt_grammar.specs.Bodies.{arity, params, IsTerm}
use Rattle.slt_grammar.specs.Editing.{put, with_body}
use Rattle.slt_grammar.specs.Grammars.{IsGrammar, body_at, rank_at}
use Rattle.slt_grammar.specs.Holding.{IsLawful}
use Rattle.slt_grammar.specs.Keyed.{KeyedRule, key_at, nodes_at, rules_of, labels_of}
use Rattle.slt_grammar.specs.KeyedEdits.{FoldsInto, with_nodes, label_at, parameters, digram_body, folded_nodes}
use Rattle.slt_grammar.proofs.Agreeing.{Agree, agree-of, agree-append, agree-parts, agree-take, agree-drop, agree-with, kids-terms, labels-terms, labels-append, labels-subterm, labels-with, label-is}
use Rattle.slt_grammar.proofs.Folding.{folding-keeps, grammar-folded}
use Rattle.slt_grammar.proofs.KeyedEdits.{rules-with_nodes, arities-with, ranks-with}
use Rattle.slt_grammar.proofs.KeyedLemmas.{length-rules_of, body_at-rules_of, key_at-within}
use Rattle.slt_grammar.proofs.Meanings.{params-append}
use Rattle.slt_grammar.proofs.RuleMeanings.{rank_at-ranks_of}
use Rattle.slt_grammar.proofs.Substitutions.{joined, AllTerms}
use Rattle.slt_grammar.proofs.TourWalking.{key-node}
use Rattle.slt_grammar.proofs.Weights.{weigh, weigh-append}

abbrev pub flat : List (List Node) → List Node
flat = flat_map (λ zs. zs)

-- terms whose nodes have their arities
abbrev pub Each : List ℕ → List (List Node) → Type 0
Each ranks [] = Unit {0}
Each ranks (g ∷ gs) = AreTerms kids_of 1 g × Agree ranks g × Each ranks gs

pub each-append : (ranks : List ℕ) (xs ys : List (List Node)) → Each ranks xs → Each ranks ys → Each ranks (xs ++ ys)
each-append ranks [] ys a b = b
each-append ranks (x ∷ xs) ys a b = (a.0, a.1, each-append ranks xs ys a.2 b)

pub each-terms : (ranks : List ℕ) (n m : ℕ) (xs : List Node) → Agree ranks xs → AreTerms kids_of (n + m) xs → Each ranks (terms kids_of n xs)
each-terms ranks zero m xs a t = tt
each-terms ranks (suc n) m xs a t =
    let e : suc n + m ≡ 1 + (n + m) = omega arith in
    let s = AreTerms-split kids_of 1 (n + m) xs (subst (λ (k : ℕ). AreTerms kids_of k xs) e t) in
    (s.0, agree-take ranks (span kids_of 1 xs) xs a, each-terms ranks n m (drop (span kids_of 1 xs) xs) (agree-drop ranks (span kids_of 1 xs) xs a) s.1)

pub all-terms : (ranks : List ℕ) (gs : List (List Node)) → Each ranks gs → AllTerms ranks (map labels_of gs)
all-terms ranks [] a = tt
all-terms ranks (g ∷ gs) a = (labels-terms ranks 1 g a.1 a.0, all-terms ranks gs a.2)

pub joined-labels : (gs : List (List Node)) → joined (map labels_of gs) ≡ labels_of (flat gs)
joined-labels [] = refl
joined-labels (g ∷ gs) = ap (λ ls. labels_of g ++ ls) (joined-labels gs) ∙ sym (map-append (λ (n : Node). n.label) g (flat gs))

pub flat-append : (xs ys : List (List Node)) → flat (xs ++ ys) ≡ flat xs ++ flat ys
flat-append [] ys = refl
flat-append (x ∷ xs) ys = ap (λ (zs : List Node). x ++ zs) (flat-append xs ys) ∙ sym (append_assoc x (flat xs) (flat ys))

-- terms that are all of a list
pub flat-terms : (n : ℕ) (xs : List Node) → AreTerms kids_of n xs → flat (terms kids_of n xs) ≡ xs
flat-terms n xs t =
    let e : drop (span kids_of n xs) xs ≡ [] = ap (λ (k : ℕ). drop k xs) (span-all kids_of n xs t) ∙ none xs in
    sym (append-nil (flat (terms kids_of n xs))) ∙ ap (λ (zs : List Node). flat (terms kids_of n xs) ++ zs) (sym e) ∙ joined-terms kids_of n xs
  where
    none : (zs : List Node) → drop (length zs) zs ≡ []
    none [] = refl
    none (z ∷ zs) = none zs

-- arguments in the places of parameters
put-real : (l : Label) (ls : List Label) (given : List (List Label)) → l ≢ Param → put (l ∷ ls) given ≡ l ∷ put ls given
put-real Bottom ls given n = refl
put-real (Symbol f) ls given n = refl
put-real (Call q) ls given n = refl
put-real Param ls given n = absurd (n refl)

put-parameters : (xs ys : List (List Label)) (c : ℕ) (ls : List Label) → c ≡ length xs → put (parameters c ++ ls) (xs ++ ys) ≡ joined xs ++ put ls ys
put-parameters [] ys zero ls e = refl
put-parameters [] ys (suc c) ls e = absurd (omega arith)
put-parameters (x ∷ xs) ys zero ls e = absurd (omega arith)
put-parameters (x ∷ xs) ys (suc c) ls e = ap (λ zs. x ++ zs) (put-parameters xs ys c ls (omega arith)) ∙ sym (append_assoc x (joined xs) (put ls ys))

put-digram : (u l : Label) (xs ys : List (List Label)) (c k : ℕ) → u ≢ Param → l ≢ Param → c ≡ length xs → k ≡ length ys → put (u ∷ (parameters c ++ (l ∷ parameters k))) (xs ++ ys) ≡ u ∷ (joined xs ++ (l ∷ joined ys))
put-digram u l xs ys c k n m e f =
    put-real u (parameters c ++ (l ∷ parameters k)) (xs ++ ys) n
    ∙ ap (λ zs. u ∷ zs) (put-parameters xs ys c (l ∷ parameters k) e
    ∙ ap (λ zs. joined xs ++ zs) (put-real l (parameters k) ys m
    ∙ ap (λ zs. l ∷ zs) (ap (λ zs. put zs ys) (sym (append-nil (parameters k))) ∙ ap (λ zs. put (parameters k ++ []) zs) (sym (append-nil ys)) ∙ put-parameters ys [] k [] f ∙ append-nil (joined ys))))

pub params-parameters : (n : ℕ) → params (parameters n) ≡ n
params-parameters zero = refl
params-parameters (suc n) = ap suc (params-parameters n)

params-real : (l : Label) (ls : List Label) → l ≢ Param → params (l ∷ ls) ≡ params ls
params-real Bottom ls n = refl
params-real (Symbol f) ls n = refl
params-real (Call q) ls n = refl
params-real Param ls n = absurd (n refl)

params-digram : (u l : Label) (c k : ℕ) → u ≢ Param → l ≢ Param → params (u ∷ (parameters c ++ (l ∷ parameters k))) ≡ c + k
params-digram u l c k n m =
    params-real u (parameters c ++ (l ∷ parameters k)) n ∙ params-append (parameters c) (l ∷ parameters k)
    ∙ ap (λ j. params (parameters c) + j) (params-real l (parameters k) m ∙ params-parameters k) ∙ ap (λ j. j + k) (params-parameters c)

pub agree-flat : (ranks : List ℕ) (gs : List (List Node)) → Each ranks gs → Agree ranks (flat gs)
agree-flat ranks [] a = tt
agree-flat ranks (g ∷ gs) a = agree-append ranks g (flat gs) a.1 (agree-flat ranks gs a.2)

pub agree-node : (ranks : List ℕ) (ns : List Node) (p : ℕ) (n : Node) → Agree ranks ns → slice_get ns p ≡ Some n → n.kids ≡ arity ranks n.label
agree-node ranks [] p n a e = absurd (cc)
agree-node ranks (m ∷ ns) zero n a e = let q : m ≡ n = cc in subst (λ (x : Node). x.kids ≡ arity ranks x.label) q a.0
agree-node ranks (m ∷ ns) (suc p) n a e = agree-node ranks ns p n a.1 e

-- the keys of lawful rules stand once in their rule
pub keyed-body : (G : List KeyedRule) (r : ℕ) → IsLawful G → r < length G → ((i j : ℕ) (k : Key) → key_at G r i ≡ Some k → key_at G r j ≡ Some k → i ≡ j) → IsKeyedTerm (nodes_at G r)
keyed-body G r L h once = record {
  term = kids-terms (ranks_of (rules_of G)) 1 (nodes_at G r) (agree-of (ranks_of (rules_of G)) (nodes_at G r) (L.arities r))
      (subst (IsTerm (ranks_of (rules_of G))) (body_at-rules_of G r) (L.grammar.each r (omega (arith, length-rules_of G))).shaped.term);
  once = once;
}

module _ (G : List KeyedRule) (lower : Key) (q : ℕ) (L : IsLawful G) (F : FoldsInto G lower q) (once : (i j : ℕ) (k : Key) → key_at G F.here.rule i ≡ Some k → key_at G F.here.rule j ≡ Some k → i ≡ j) where
  abbrev pub r : ℕ
  r = F.here.rule

  abbrev pub ns : List Node
  ns = nodes_at G r

  abbrev pub ranks : List ℕ
  ranks = ranks_of (rules_of G)

  pub in-rules : r < length G
  in-rules = (key_at-within G r F.place F.upper F.above).0

  pub one-term : IsKeyedTerm ns
  one-term = keyed-body G r L in-rules once

  pub agree : Agree ranks ns
  agree = agree-of ranks ns (L.arities r)

  abbrev pub high : (n : Node) × (slice_get ns F.place ≡ Some n) × (n.key ≡ F.upper)
  high = key-node ns F.place F.upper F.above

  abbrev pub N : Node
  N = high.0

  pub C : ChildAt ns F.place N F.child lower
  C = child_apart ns F.place N F.child lower one-term high.1 F.is_child

  abbrev pub D : Child C.rest N.kids F.child lower
  D = C.child

  pub low-place : F.here.place ≡ suc (F.place + length D.before)
  low-place = child_place ns F.place N F.child lower C F.here.place F.here.there (λ i j e f. once i j lower e f)

  whole : ns ≡ C.front ++ (N ∷ (D.before ++ ((D.node ∷ D.below) ++ (D.after ++ D.back))))
  whole = C.split ∙ ap (λ (zs : List Node). C.front ++ (N ∷ zs)) D.split

  pub upper-label : label_at G r F.place ≡ N.label
  upper-label = ap (λ ls. get_or ls F.place Bottom) (body_at-rules_of G r) ∙ label-is ns F.place N high.1

  pub low-node : slice_get ns F.here.place ≡ Some D.node
  low-node =
      let z : F.here.place ≡ length C.front + suc (length D.before + 0) = omega (arith, low-place, C.at) in
      ap (λ (i : ℕ). slice_get ns i) z ∙ ap (λ (zs : List Node). slice_get zs (length C.front + suc (length D.before + 0))) whole
      ∙ right C.front (N ∷ (D.before ++ ((D.node ∷ D.below) ++ (D.after ++ D.back)))) (suc (length D.before + 0))
      ∙ right D.before ((D.node ∷ D.below) ++ (D.after ++ D.back)) 0
    where
      right : (xs ys : List Node) (p : ℕ) → slice_get (xs ++ ys) (length xs + p) ≡ slice_get ys p
      right [] ys p = let z : 0 + p ≡ p = omega arith in ap (λ (k : ℕ). slice_get ys k) z
      right (x ∷ xs) ys p = let z : suc (length xs) + p ≡ suc (length xs + p) = omega arith in ap (λ (k : ℕ). slice_get (x ∷ (xs ++ ys)) k) z ∙ right xs ys p

  pub lower-label : label_at G r F.here.place ≡ D.node.label
  lower-label = ap (λ ls. get_or ls F.here.place Bottom) (body_at-rules_of G r) ∙ label-is ns F.here.place D.node low-node

  pub upper-real : N.label ≢ Param
  upper-real e = absurd (omega (arith, agree-node ranks ns F.place N agree high.1, ap (arity ranks) e, D.many))

  pub lower-real : D.node.label ≢ Param
  lower-real e = F.real (lower-label ∙ e)

  pub upper-kids : N.kids ≡ arity ranks N.label
  upper-kids = agree-node ranks ns F.place N agree high.1

  pub lower-kids : D.node.kids ≡ arity ranks D.node.label
  lower-kids = agree-node ranks ns F.here.place D.node agree low-node

  parts : Agree ranks D.before × (Agree ranks (D.node ∷ D.below) × Agree ranks D.after)
  parts =
      let a = agree-parts ranks C.front (N ∷ (D.before ++ ((D.node ∷ D.below) ++ (D.after ++ D.back)))) (subst (Agree ranks) whole agree) in
      let b = agree-parts ranks D.before ((D.node ∷ D.below) ++ (D.after ++ D.back)) a.1.1 in
      let c = agree-parts ranks (D.node ∷ D.below) (D.after ++ D.back) b.1 in
      let d = agree-parts ranks D.after D.back c.1 in
      (b.0, (c.0, d.0))

  abbrev pub front : List (List Node)
  front = terms kids_of F.child D.before

  abbrev pub back : List (List Node)
  back = terms kids_of D.node.kids D.below ++ terms kids_of D.more D.after

  abbrev pub gs : List (List Node)
  gs = front ++ back

  flat-front : flat front ≡ D.before
  flat-front = flat-terms F.child D.before D.before_terms

  flat-back : flat back ≡ D.below ++ D.after
  flat-back =
      flat-append (terms kids_of D.node.kids D.below) (terms kids_of D.more D.after) ∙ ap (λ (zs : List Node). zs ++ flat (terms kids_of D.more D.after)) (flat-terms D.node.kids D.below D.below_terms)
      ∙ ap (λ (zs : List Node). D.below ++ zs) (flat-terms D.more D.after D.after_terms)

  flat-gs : flat gs ≡ D.before ++ (D.below ++ D.after)
  flat-gs = flat-append front back ∙ ap (λ (zs : List Node). zs ++ flat back) flat-front ∙ ap (λ (zs : List Node). D.before ++ zs) flat-back

  each-gs : Each ranks gs
  each-gs =
      let from : (n : ℕ) (xs : List Node) → Agree ranks xs → AreTerms kids_of n xs → Each ranks (terms kids_of n xs) =
      λ n xs a t. let z : n ≡ n + 0 = omega arith in each-terms ranks n 0 xs a (subst (λ (k : ℕ). AreTerms kids_of k xs) z t) in
      each-append ranks front back (from F.child D.before parts.0 D.before_terms)
      (each-append ranks (terms kids_of D.node.kids D.below) (terms kids_of D.more D.after) (from D.node.kids D.below parts.1.0.1 D.below_terms) (from D.more D.after parts.1.1 D.after_terms))

  abbrev pub given : List (List Label)
  given = map labels_of gs

  length-front : length front ≡ F.child
  length-front = length-terms kids_of F.child D.before

  length-back : length back ≡ D.node.kids + D.more
  length-back = length-append (terms kids_of D.node.kids D.below) (terms kids_of D.more D.after) ∙ omega (arith, length-terms kids_of D.node.kids D.below, length-terms kids_of D.more D.after)

  behind-is : arity ranks D.node.label + (arity ranks N.label - suc F.child) ≡ D.node.kids + D.more
  behind-is = omega (arith, upper-kids, lower-kids, D.many)

  body-is : body_at (rules_of G) q ≡ N.label ∷ (parameters F.child ++ (D.node.label ∷ parameters (D.node.kids + D.more)))
  body-is =
      F.body ∙ ap (λ (l : Label). digram_body ranks l F.child (label_at G r F.here.place)) upper-label ∙ ap (λ (l : Label). digram_body ranks N.label F.child l) lower-label
      ∙ ap (λ (k : ℕ). N.label ∷ (parameters F.child ++ (D.node.label ∷ parameters k))) behind-is

  body-rank : rank_at (rules_of G) q ≡ F.child + (D.node.kids + D.more)
  body-rank =
      let h : q < length (rules_of G) = let e = F.earlier in omega (arith, in-rules, length-rules_of G) in
      sym (L.grammar.each q h).linear ∙ ap params body-is ∙ params-digram N.label D.node.label F.child (D.node.kids + D.more) upper-real lower-real

  -- the children of both fit under one node
  pub few-kids : N.kids + D.node.kids ≤ 9
  few-kids =
      let h : q < length (rules_of G) = let e = F.earlier in omega (arith, in-rules, length-rules_of G) in
      omega (arith, body-rank, D.many, (L.grammar.each q h).shaped.small)

  one : AreTerms kids_of 1 (N ∷ (D.before ++ ((D.node ∷ D.below) ++ D.after)))
  one =
      let z0 : D.node.kids ≡ D.node.kids + 0 = omega arith in
      let low : AreTerms kids_of 1 (D.node ∷ D.below) = subst (λ (n : ℕ). AreTerms kids_of n D.below) z0 D.below_terms in
      let z : F.child + (1 + D.more) ≡ N.kids + 0 = omega (arith, D.many) in
      subst (λ (n : ℕ). AreTerms kids_of n (D.before ++ ((D.node ∷ D.below) ++ D.after))) z
      (AreTerms-append kids_of F.child (1 + D.more) D.before ((D.node ∷ D.below) ++ D.after) D.before_terms (AreTerms-append kids_of 1 D.more (D.node ∷ D.below) D.after low D.after_terms))

  pub subterm-is : subterm kids_of ns F.place ≡ N ∷ (D.before ++ ((D.node ∷ D.below) ++ D.after))
  subterm-is =
      ap (λ (zs : List Node). subterm kids_of zs F.place) (whole ∙ ap (λ (zs : List Node). C.front ++ (N ∷ zs)) (ap (λ (zs : List Node). D.before ++ zs) (sym (append_assoc (D.node ∷ D.below) D.after D.back)) ∙ sym (append_assoc D.before ((D.node ∷ D.below) ++ D.after) D.back)))
      ∙ subterm-split kids_of C.front (N ∷ (D.before ++ ((D.node ∷ D.below) ++ D.after))) D.back F.place C.at one

  put-is : subterm (arity ranks) (body_at (rules_of G) r) F.place ≡ put (body_at (rules_of G) q) given
  put-is =
      let f : Node → Label = λ n. n.label in
      ap (λ ls. subterm (arity ranks) ls F.place) (body_at-rules_of G r) ∙ labels-subterm ranks ns F.place agree ∙ ap labels_of subterm-is
      ∙ ap (λ ls. N.label ∷ ls) (labels-append D.before ((D.node ∷ D.below) ++ D.after))
      ∙ ap (λ ls. N.label ∷ (ls ++ (D.node.label ∷ labels_of (D.below ++ D.after)))) (ap labels_of (sym flat-front) ∙ sym (joined-labels front))
      ∙ ap (λ ls. N.label ∷ (joined (map labels_of front) ++ (D.node.label ∷ ls))) (ap labels_of (sym flat-back) ∙ sym (joined-labels back))
      ∙ sym (ap (λ ls. put ls given) body-is ∙ ap (λ gl. put (N.label ∷ (parameters F.child ++ (D.node.label ∷ parameters (D.node.kids + D.more)))) gl) (map-append labels_of front back)
      ∙ put-digram N.label D.node.label (map labels_of front) (map labels_of back) F.child (D.node.kids + D.more) upper-real lower-real
      (sym (length-map front labels_of ∙ length-front)) (sym (length-map back labels_of ∙ length-back)))

  many : length given ≡ rank_at (rules_of G) q
  many = length-map gs labels_of ∙ length-append front back ∙ omega (arith, length-front, length-back, body-rank)

  abbrev pub node : Node
  node = record { key = N.key; label = Call q; kids = F.child + (D.node.kids + D.more) }

  abbrev pub ms : List Node
  ms = folded_nodes ns F.place F.upper F.here.place (Call q)

  pub merged-is : (l : Label) → folded_nodes ns F.place F.upper F.here.place l ≡ with_subterm kids_of ns F.place (merged N C.rest F.child lower D l)
  merged-is l =
      ap (λ (k : Key). folded_nodes ns F.place k F.here.place l) (sym high.2)
      ∙ dissolving ns F.place F.here.place N F.child lower one-term C F.here.there l

  made : ms ≡ with_subterm kids_of ns F.place (node ∷ flat gs)
  made = merged-is (Call q) ∙ ap (λ (zs : List Node). with_subterm kids_of ns F.place (node ∷ zs)) (sym flat-gs)

  rules-are : rules_of (with_nodes G r ms) ≡ with_body (rules_of G) r (with_subterm (arity ranks) (body_at (rules_of G) r) F.place (Call q ∷ joined given))
  rules-are =
      rules-with_nodes G r ms
      ∙ ap (with_body (rules_of G) r) (ap labels_of made ∙ labels-with ranks ns F.place agree (node ∷ flat gs)
      ∙ ap (λ ls. with_subterm (arity ranks) ls F.place (Call q ∷ labels_of (flat gs))) (sym (body_at-rules_of G r))
      ∙ ap (λ ls. with_subterm (arity ranks) (body_at (rules_of G) r) F.place (Call q ∷ ls)) (sym (joined-labels gs)))

  in-body : F.place < length (body_at (rules_of G) r)
  in-body = omega (arith, (key_at-within G r F.place F.upper F.above).1, ap length (body_at-rules_of G r), length-map ns (λ (n : Node). n.label))

  in-list : r < length (rules_of G)
  in-list = omega (arith, in-rules, length-rules_of G)

  pub folded-lawful : IsLawful (with_nodes G r ms)
  folded-lawful =
      let fits : node.kids ≡ arity ranks (Call q) = sym body-rank ∙ sym (rank_at-ranks_of (rules_of G) q) in
      let a : Agree ranks ms = subst (Agree ranks) (sym made) (agree-with ranks ns F.place (node ∷ flat gs) agree ((fits, agree-flat ranks gs each-gs))) in
      record {
        grammar = subst IsGrammar (sym rules-are) (grammar-folded (rules_of G) r F.place q given L.grammar in-list F.earlier in-body (all-terms ranks gs each-gs) many put-is);
        arities = arities-with G r ms L in-rules a;
      }

  pub folded-means : {S : Type 0} (A : Algebra S) → all_meanings A (rules_of (with_nodes G r ms)) ≡ all_meanings A (rules_of G)
  folded-means A = ap (all_meanings A) rules-are ∙ folding-keeps (rules_of G) r F.place q given L.grammar in-list F.earlier in-body (all-terms ranks gs each-gs) many put-is A

  pub folded-ranks : ranks_of (rules_of (with_nodes G r ms)) ≡ ranks_of (rules_of G)
  folded-ranks = ranks-with G r ms L in-rules

  -- what went and what came
  pub folded-weighs : (w : Label → ℕ) → weigh w (labels_of ms) + weigh w (N.label ∷ D.node.label ∷ []) ≡ weigh w (labels_of ns) + weigh w (Call q ∷ [])
  folded-weighs w =
      let tail : List Node = drop (span kids_of 1 (drop F.place ns)) (drop F.place ns) in
      let news : List Node = node ∷ (D.before ++ (D.below ++ D.after)) in
      let olds : List Node = N ∷ (D.before ++ ((D.node ∷ D.below) ++ D.after)) in
      let s : weigh w (labels_of ms) ≡ weigh w (labels_of (take F.place ns ++ (news ++ tail))) = ap (λ (zs : List Node). weigh w (labels_of zs)) (merged-is (Call q)) in
      let o : weigh w (labels_of ns) ≡ weigh w (labels_of (take F.place ns ++ (olds ++ tail))) = ap (λ (zs : List Node). weigh w (labels_of zs)) (sym (split_at kids_of ns F.place) ∙ ap (λ (zs : List Node). take F.place ns ++ (zs ++ tail)) subterm-is) in
      let sum : (xs ys : List Node) → weigh w (labels_of (xs ++ ys)) ≡ weigh w (labels_of xs) + weigh w (labels_of ys) = λ xs ys. ap (weigh w) (labels-append xs ys) ∙ weigh-append w (labels_of xs) (labels_of ys) in
      omega (
        arith,
        s,
        o,
        sum (take F.place ns) (news ++ tail),
        sum news tail,
        sum (take F.place ns) (olds ++ tail),
        sum olds tail,
        sum D.before (D.below ++ D.after),
        sum D.before ((D.node ∷ D.below) ++ D.after),
      )

  -- what went is part of the rule
  pub gone-within : (w : Label → ℕ) → weigh w (N.label ∷ D.node.label ∷ []) ≤ weigh w (labels_of ns)
  gone-within w =
      let tail : List Node = drop (span kids_of 1 (drop F.place ns)) (drop F.place ns) in
      let olds : List Node = N ∷ (D.before ++ ((D.node ∷ D.below) ++ D.after)) in
      let o : weigh w (labels_of ns) ≡ weigh w (labels_of (take F.place ns ++ (olds ++ tail))) = ap (λ (zs : List Node). weigh w (labels_of zs)) (sym (split_at kids_of ns F.place) ∙ ap (λ (zs : List Node). take F.place ns ++ (zs ++ tail)) subterm-is) in
      let sum : (xs ys : List Node) → weigh w (labels_of (xs ++ ys)) ≡ weigh w (labels_of xs) + weigh w (labels_of ys) = λ xs ys. ap (weigh w) (labels-append xs ys) ∙ weigh-append w (labels_of xs) (labels_of ys) in
      omega (arith, o, sum (take F.place ns) (olds ++ tail), sum olds tail, sum D.before ((D.node ∷ D.below) ++ D.after))
