-- A node and its parent that become a call keep what stands before all other nodes, and before the call.
use Rattle.std.proofs.Common.{◌≡◌, ◌≢◌, ◌⊎◌, inl, inr, ℕ, zero, suc, ◌+◌, ◌-◌, ◌<◌, List, [], ◌∷◌, ◌++◌, length, map, take, drop, Some, refl, sym, ap, ◌∙◌, subst, arith, append-nil, append_assoc, length-append}
use Rattle.std.proofs.lemmas.Bool.{cases_eq}
use Rattle.std.proofs.lemmas.List.{length-map, length-take-le, map-append, take-append-le, take-take}
use Rattle.rule_arena.specs.Children.{Child}
use Rattle.rule_arena.specs.Preorder.{AreTerms, span, terms}
use Rattle.rule_arena.specs.Terms.{Node, key_in, kids_of}
use Rattle.rule_arena.specs.declared.key.Key.{Key}
use Rattle.rule_arena.specs.declared.label.Label.{Label}
use Rattle.rule_arena.specs.declared.label.Label.TheVariants.{Bottom, Symbol, Call, Param}
use Rattle.rule_arena.proofs.PreorderLemmas.{length-terms, split_at}
use Rattle.slt_grammar.specs.Algebras.{all_meanings, ranks_of}
use Rattle.slt_grammar.specs.Bodies.{arity}
use Rattle.slt_grammar.specs.Editing.{put}
use Rattle.slt_grammar.specs.Grammars.{body_at, rank_at, value_at}
use Rattle.slt_grammar.specs.Holding.{IsLawful}
use Rattle.slt_grammar.specs.Keyed.{Keyed, KeyedRule, IsKeyed, key_at, labels_of, nodes_at, rules_of}
use Rattle.slt_grammar.specs.KeyedEdits.{FoldsInto, digram_body, folded_nodes, label_at, parameters, with_nodes}
use Rattle.slt_grammar.specs.Terms.{term_algebra}
use Rattle.slt_grammar.proofs.Agreeing.{Agree, agree-of, agree-parts}
use Rattle.slt_grammar.proofs.FoldedRules as folded
use Rattle.slt_grammar.proofs.FoldedRules.{Each, agree-node, all-terms, each-append, each-terms, flat, flat-append, flat-terms}
use Rattle.slt_grammar.proofs.KeyedEdits.{length-with_nodes, nodes-with_nodes}
use Rattle.slt_grammar.proofs.KeyedLemmas.{key_at-within, length-rules_of}
use Rattle.slt_grammar.proofs.RuleMeanings.{rank_at-ranks_of}
use Rattle.slt_grammar.proofs.Substitutions.{AllTerms, joined}
use Rattle.start_fronts.specs.Before.{KeepsBefore}
use Rattle.start_fronts.proofs.Exchanges.{Exchange}
use Rattle.start_fronts.proofs.Flags.{flagged, flagged-append, flagged-flat, flagged-other, same-key, times, times-append, times-other}
use Rattle.start_fronts.proofs.Keeping.{Once, at-most-once, keeps-changed, lawful, not-gone, once-in}
use Rattle.start_fronts.proofs.Staying.{Stays, stays-called, stays-in-front, values-same}

-- arguments in the places of parameters
put-real : (l : Label) (ls : List Label) (given : List (List Label)) → l ≢ Param → put (l ∷ ls) given ≡ l ∷ put ls given
put-real Bottom ls given n = refl
put-real (Symbol f) ls given n = refl
put-real (Call q) ls given n = refl
put-real Param ls given n = absurd (n refl)

put-parameters : (xs ys : List (List Label)) (c : ℕ) (ls : List Label) → c ≡ length xs → put (parameters c ++ ls) (xs ++ ys) ≡ joined xs ++ put ls ys
put-parameters [] ys zero ls e = refl
put-parameters [] ys (suc c) ls e = absurd (omega (arith, e))
put-parameters (x ∷ xs) ys zero ls e = absurd (omega (arith, e))
put-parameters (x ∷ xs) ys (suc c) ls e = ap (λ zs. x ++ zs) (put-parameters xs ys c ls (omega (arith, e))) ∙ sym (append_assoc x (joined xs) (put ls ys))

put-last : (ys : List (List Label)) (k : ℕ) → k ≡ length ys → put (parameters k) ys ≡ joined ys
put-last ys k e =
    ap (λ zs. put zs ys) (sym (append-nil (parameters k))) ∙ ap (λ zs. put (parameters k ++ []) zs) (sym (append-nil ys))
    ∙ put-parameters ys [] k [] e ∙ append-nil (joined ys)

put-digram : (u l : Label) (xs ys : List (List Label)) (c k : ℕ) → u ≢ Param → l ≢ Param → c ≡ length xs → k ≡ length ys
    → put (u ∷ (parameters c ++ (l ∷ parameters k))) (xs ++ ys) ≡ u ∷ (joined xs ++ (l ∷ joined ys))
put-digram u l xs ys c k n m e f =
    put-real u (parameters c ++ (l ∷ parameters k)) (xs ++ ys) n
    ∙ ap (λ zs. u ∷ zs) (put-parameters xs ys c (l ∷ parameters k) e
    ∙ ap (λ zs. joined xs ++ zs) (put-real l (parameters k) ys m ∙ ap (λ zs. l ∷ zs) (put-last ys k f)))

key-behind : (xs : List Node) (n : Node) (rest : List Node) (p : ℕ) → length xs ≡ p → key_in (xs ++ (n ∷ rest)) p ≡ Some n.key
key-behind [] n rest zero e = refl
key-behind [] n rest (suc p) e = absurd (omega (arith, e))
key-behind (x ∷ xs) n rest zero e = absurd (omega (arith, e))
key-behind (x ∷ xs) n rest (suc p) e = key-behind xs n rest p (omega (arith, e))

module _ (G : List KeyedRule) (lower : Key) (q : ℕ) (L : IsLawful G) (F : FoldsInto G lower q) (old : Once G F.here.rule) where
  abbrev r : ℕ
  r = F.here.rule

  abbrev p : ℕ
  p = F.place

  abbrev ns : List Node
  ns = nodes_at G r

  abbrev ranks : List ℕ
  ranks = ranks_of (rules_of G)

  one-place : (i j : ℕ) (k : Key) → key_at G r i ≡ Some k → key_at G r j ≡ Some k → i ≡ j
  one-place i j k = old k i j

  abbrev N : Node
  N = folded.N G lower q L F one-place

  abbrev D : Child (folded.C G lower q L F one-place).rest N.kids F.child lower
  D = folded.D G lower q L F one-place

  abbrev args : List (List Node)
  args = folded.gs G lower q L F one-place

  abbrev front : List (List Node)
  front = terms kids_of F.child D.before

  abbrev more : List (List Node)
  more = terms kids_of D.node.kids D.below ++ terms kids_of D.more D.after

  abbrev ms : List Node
  ms = folded_nodes ns p F.upper F.here.place (Call q)

  abbrev H : List KeyedRule
  H = with_nodes G r ms

  abbrev call : Node
  call = record { key = N.key; label = Call q; kids = F.child + (D.node.kids + D.more) }

  abbrev tail : List Node
  tail = drop (span kids_of 1 (drop p ns)) (drop p ns)

  in-rules : r < length G
  in-rules = folded.in-rules G lower q L F one-place

  flat-front : flat front ≡ D.before
  flat-front = flat-terms F.child D.before D.before_terms

  flat-more : flat more ≡ D.below ++ D.after
  flat-more =
      flat-append (terms kids_of D.node.kids D.below) (terms kids_of D.more D.after)
      ∙ ap (λ (zs : List Node). zs ++ flat (terms kids_of D.more D.after)) (flat-terms D.node.kids D.below D.below_terms)
      ∙ ap (λ (zs : List Node). D.below ++ zs) (flat-terms D.more D.after D.after_terms)

  flat-args : flat args ≡ D.before ++ (D.below ++ D.after)
  flat-args = flat-append front more ∙ ap (λ (zs : List Node). zs ++ flat more) flat-front ∙ ap (λ (zs : List Node). D.before ++ zs) flat-more

  bodies-are : ns ≡ take p ns ++ ((N ∷ (D.before ++ ((D.node ∷ D.below) ++ D.after))) ++ tail)
  bodies-are = sym (split_at kids_of ns p) ∙ ap (λ (zs : List Node). take p ns ++ (zs ++ tail)) (folded.subterm-is G lower q L F one-place)

  calls-are : nodes_at H r ≡ take p ns ++ (call ∷ (flat args ++ tail))
  calls-are =
      nodes-with_nodes G r ms in-rules
      ∙ folded.merged-is G lower q L F one-place (Call q)
      ∙ ap (λ (zs : List Node). take p ns ++ (call ∷ (zs ++ tail))) (sym flat-args)

  fits : Agree ranks ns
  fits = folded.agree G lower q L F one-place

  parts : Agree ranks D.before × (Agree ranks D.below × Agree ranks D.after)
  parts =
      let a = agree-parts ranks (take p ns) ((N ∷ (D.before ++ ((D.node ∷ D.below) ++ D.after))) ++ tail) (subst (λ (xs : List Node). Agree ranks xs) bodies-are fits) in
      let b = agree-parts ranks (N ∷ (D.before ++ ((D.node ∷ D.below) ++ D.after))) tail a.1 in
      let c = agree-parts ranks D.before ((D.node ∷ D.below) ++ D.after) b.0.1 in
      let d = agree-parts ranks (D.node ∷ D.below) D.after c.1 in
      (c.0, (d.0.1, d.1))

  all-args : AllTerms ranks (map labels_of args)
  all-args =
      let from : (n : ℕ) (xs : List Node) → Agree ranks xs → AreTerms kids_of n xs → Each ranks (terms kids_of n xs) =
      λ n xs a t. let z : n ≡ n + 0 = omega arith in each-terms ranks n 0 xs a (subst (λ (k : ℕ). AreTerms kids_of k xs) z t) in
      all-terms ranks args
      (each-append ranks front more (from F.child D.before parts.0 D.before_terms)
      (each-append ranks (terms kids_of D.node.kids D.below) (terms kids_of D.more D.after) (from D.node.kids D.below parts.1.0 D.below_terms) (from D.more D.after parts.1.1 D.after_terms)))

  length-front : length front ≡ F.child
  length-front = length-terms kids_of F.child D.before

  length-more : length more ≡ D.node.kids + D.more
  length-more =
      length-append (terms kids_of D.node.kids D.below) (terms kids_of D.more D.after)
      ∙ omega (arith, length-terms kids_of D.node.kids D.below, length-terms kids_of D.more D.after)

  body-is : body_at (rules_of G) q ≡ N.label ∷ (parameters F.child ++ (D.node.label ∷ parameters (D.node.kids + D.more)))
  body-is =
      let behind : arity ranks D.node.label + (arity ranks N.label - suc F.child) ≡ D.node.kids + D.more =
      omega (arith, folded.upper-kids G lower q L F one-place, folded.lower-kids G lower q L F one-place, D.many) in
      F.body
      ∙ ap (λ (l : Label). digram_body ranks l F.child (label_at G r F.here.place)) (folded.upper-label G lower q L F one-place)
      ∙ ap (λ (l : Label). digram_body ranks N.label F.child l) (folded.lower-label G lower q L F one-place)
      ∙ ap (λ (k : ℕ). N.label ∷ (parameters F.child ++ (D.node.label ∷ parameters k))) behind

  -- the call has as many children as its rule has parameters
  many : IsLawful H → length args ≡ rank_at (rules_of G) q
  many M =
      let same = folded.folded-ranks G lower q L F one-place in
      let a : Agree (ranks_of (rules_of H)) (take p ns ++ (call ∷ (flat args ++ tail))) =
      subst (λ (xs : List Node). Agree (ranks_of (rules_of H)) xs) calls-are (agree-of (ranks_of (rules_of H)) (nodes_at H r) (M.arities r)) in
      let kids : F.child + (D.node.kids + D.more) ≡ arity (ranks_of (rules_of H)) (Call q) = (agree-parts (ranks_of (rules_of H)) (take p ns) (call ∷ (flat args ++ tail)) a).1.0 in
      length-append front more ∙ omega (arith, length-front, length-more)
      ∙ kids ∙ ap (λ ks. arity ks (Call q)) same ∙ rank_at-ranks_of (rules_of G) q

  module _ (key : Key) (upper : N.key ≢ key) (low : D.node.key ≢ key) where
    times-body : times key (N ∷ (D.before ++ ((D.node ∷ D.below) ++ D.after))) ≡ times key (flat args)
    times-body =
        omega (
          arith,
          times-other key N (D.before ++ ((D.node ∷ D.below) ++ D.after)) upper,
          times-append key D.before ((D.node ∷ D.below) ++ D.after),
          times-other key D.node (D.below ++ D.after) low,
          ap (times key) flat-args,
          times-append key D.before (D.below ++ D.after),
        )

    flagged-body : (f : ℕ) → flagged key f (N ∷ (D.before ++ ((D.node ∷ D.below) ++ D.after))) ≡ put (body_at (rules_of G) q) (map (flagged key f) args)
    flagged-body f =
        let h : List Node → List Label = flagged key f in
        flagged-other key f N (D.before ++ ((D.node ∷ D.below) ++ D.after)) upper
        ∙ ap (λ ls. N.label ∷ ls) (flagged-append key f D.before ((D.node ∷ D.below) ++ D.after)
        ∙ ap (λ ls. h D.before ++ ls) (flagged-other key f D.node (D.below ++ D.after) low))
        ∙ ap (λ (zs : List Node). N.label ∷ (h zs ++ (D.node.label ∷ h (D.below ++ D.after)))) (sym flat-front)
        ∙ ap (λ (zs : List Node). N.label ∷ (h (flat front) ++ (D.node.label ∷ h zs))) (sym flat-more)
        ∙ ap (λ ls. N.label ∷ (ls ++ (D.node.label ∷ h (flat more)))) (flagged-flat key f front)
        ∙ ap (λ ls. N.label ∷ (joined (map h front) ++ (D.node.label ∷ ls))) (flagged-flat key f more)
        ∙ sym (ap (λ ls. put ls (map h args)) body-is
        ∙ ap (λ gs. put (N.label ∷ (parameters F.child ++ (D.node.label ∷ parameters (D.node.kids + D.more)))) gs) (map-append h front more)
        ∙ put-digram N.label D.node.label (map h front) (map h more) F.child (D.node.kids + D.more)
        (folded.upper-real G lower q L F one-place) (folded.lower-real G lower q L F one-place)
        (sym (length-map front h ∙ length-front)) (sym (length-map more h ∙ length-more)))

    exchange : IsLawful H → Exchange (rules_of G) q key (nodes_at H r) ns
    exchange M =
        let e = F.earlier in
        record {
          front = take p ns;
          call = call;
          args = args;
          body = N ∷ (D.before ++ ((D.node ∷ D.below) ++ D.after));
          back = tail;
          calls_are = calls-are;
          bodies_are = bodies-are;
          called = omega (arith, e, in-rules, length-rules_of G);
          label = refl;
          terms = all-args;
          many = many M;
          other = upper;
          times_body = times-body;
          flagged_body = flagged-body;
        }

  means : all_meanings term_algebra (rules_of H) ≡ all_meanings term_algebra (rules_of G)
  means = folded.folded-means G lower q L F one-place term_algebra

  same-ranks : ranks_of (rules_of H) ≡ ranks_of (rules_of G)
  same-ranks = folded.folded-ranks G lower q L F one-place

  in-place : length (take p ns) ≡ p
  in-place = length-take-le p ns (let w = key_at-within G r p F.upper F.above in omega (arith, w.1))

  module _ (M : IsLawful H) where
    in-new : r < length H
    in-new = omega (arith, in-rules, length-with_nodes G r ms in-rules)

    values : (s : ℕ) → value_at (rules_of H) s ≡ value_at (rules_of G) s
    values = values-same (rules_of G) (rules_of H) same-ranks means

    -- the call has the parent's key and its place
    stays-upper : (key : Key) → N.key ≡ key → Stays G H r p key
    stays-upper key e =
        stays-in-front G H L M same-ranks values r in-rules in-new p key
        (ap (λ (xs : List Node). key_in xs p) calls-are ∙ key-behind (take p ns) call (flat args ++ tail) p in-place ∙ ap (λ (k : Key). Some k) e)
        (ap (take p) calls-are ∙ take-append-le p (take p ns) (call ∷ (flat args ++ tail)) (omega (arith, in-place)) ∙ take-take p p ns (omega arith))

    stays : (i : ℕ) (key : Key) → key_at G r i ≡ Some key → lower ≢ key → (N.key.number ≡ key.number) ⊎ (N.key.number ≡ key.number → ⊥) → Stays G H r i key
    stays i key there d (inl e) =
        let same : N.key ≡ key = same-key N.key key e in
        let above : key_at G r p ≡ Some key = F.above ∙ ap (λ (k : Key). Some k) (sym (folded.high G lower q L F one-place).2 ∙ same) in
        subst (λ (j : ℕ). Stays G H r j key) (old key p i above there) (stays-upper key same)
    stays i key there d (inr e) =
        stays-called G H L M same-ranks values r in-rules in-new q key
        (exchange key (λ z. e (ap (λ (k : Key). k.number) z)) (λ z. d (sym D.named ∙ z)) M) (at-most-once G r old key) i there

  pub keeps-folded : KeepsBefore (lower ∷ []) G H
  keeps-folded =
      let M : IsLawful H = folded.folded-lawful G lower q L F one-place in
      keeps-changed G r ms (lower ∷ []) L M in-rules means
      (λ i key there apart. stays M i key there (not-gone lower key apart) (cases_eq N.key.number key.number))

pub keeps-folding : (g h : Keyed) → IsKeyed g → (lower : Key) (called : ℕ) (F : FoldsInto g.rules lower called)
    → h.rules ≡ with_nodes g.rules F.here.rule (folded_nodes (nodes_at g.rules F.here.rule) F.place F.upper F.here.place (Call called)) → KeepsBefore (lower ∷ []) g.rules h.rules
keeps-folding g h K lower called F e =
    subst (λ (Q : List KeyedRule). KeepsBefore (lower ∷ []) g.rules Q) (sym e) (keeps-folded g.rules lower called (lawful g K) F (once-in g K F.here.rule))
