-- Rules for pairs change no meaning.
use Rattle.std.proofs.Common.{◌≡◌, ℕ, suc, ◌+◌, ◌-◌, ◌<◌, List, [], ◌∷◌, ◌++◌, length, take, drop, get_or, map, slice_get, Option, Some, None, refl, ap, sym, ◌∙◌, subst, arith, length-append, append_assoc, append-nil, zero-add}
use Rattle.std.proofs.Math.Path.{fun_ext}
use Rattle.std.proofs.lemmas.List.{length-map, get_or_append_left, get_or-append-add, get_or_at}
use Rattle.rule_arena.specs.declared.label.Label.{Label}
use Rattle.rule_arena.specs.declared.label.Label.TheVariants.{Bottom, Symbol, Call, Param}
use Rattle.slt_grammar.proofs.Adding.{meanings-before, CallsBelow-le}
use Rattle.slt_grammar.proofs.RuleMeanings.{rule_meanings-append, rule_meanings-at, length-rule_meanings, rank_at-ranks_of, call-earlier}
use Rattle.slt_grammar.specs.Algebras.{Algebra, meaning, meanings, rule_meanings, ranks_of, all_meanings}
use Rattle.slt_grammar.specs.Bodies.{CallsBelow}
use Rattle.slt_grammar.specs.Grammars.{IsGrammar, body_at, no_rule, rank_at, value}
use Rattle.slt_grammar.specs.Terms.{Term, Leaf, term_algebra, holes}
use Rattle.slt_grammar.specs.declared.rules.Rule.{Rule}
use Rattle.fcns_encoding.specs.declared.pair_rules.Pair.{Pair}
use Rattle.fcns_encoding.specs.Pairs.{pair_rule, place_of, pair_before, paired, paired_rule, with_pairs, AreFound}
use Rattle.fcns_encoding.proofs.CellLemmas.{get_is, got_map, got_within}
use Rattle.fcns_encoding.proofs.PairSteps.{place-told}

-- rules mean the same by other ranks of those that they do not call
rules-same : {S : Type 0} (A : Algebra S) (ranks ranks' : List ℕ) (place : ℕ) → ((q : ℕ) → q < place → get_or ranks' q 0 ≡ get_or ranks q 0) → (fs : List (List S → S)) (G : List Rule)
    → ((q : ℕ) → q < length G → CallsBelow place (body_at G q)) → rule_meanings A ranks' fs G ≡ rule_meanings A ranks fs G
rules-same A ranks ranks' place same fs [] calls = refl
rules-same A ranks ranks' place same fs (R ∷ Rs) calls =
    let m : meaning A ranks' fs R.body ≡ meaning A ranks fs R.body =
    fun_ext (λ args. ap (λ ms. get_or ms 0 A.bottom) (meanings-before A ranks ranks' place same fs args R.body [] (calls 0 (omega arith)))) in
    ap (λ f. rule_meanings A ranks' (fs ++ f ∷ []) Rs) m ∙ rules-same A ranks ranks' place same (fs ++ meaning A ranks fs R.body ∷ []) Rs (λ q h. calls (suc q) (omega (arith, h)))

-- what a pair's rule means over the rules before it
abbrev pub pair_meaning : {S : Type 0} → Algebra S → List (List S → S) → Pair → List S → S
pair_meaning A fs p args = A.node p.symbol (get_or fs p.rule (λ _. A.bottom) []) (get_or args 0 A.bottom)

-- the rules of pairs mean a symbol over a call and what the rule is given
module _ {S : Type 0} (A : Algebra S) (ranks : List ℕ) (fs : List (List S → S)) where
  pair-means : (gs : List (List S → S)) (p : Pair) → p.rule < length fs → get_or ranks p.rule 0 ≡ 0 → (args : List S) → meaning A ranks (fs ++ gs) (pair_rule p).body args ≡ pair_meaning A fs p args
  pair-means gs p low plain args =
      let behind : List S = get_or args 0 A.bottom ∷ [] in
      let over : List S → S = λ all. A.node p.symbol (get_or (take 2 all) 0 A.bottom) (get_or (take 2 all) 1 A.bottom) in
      ap (λ n. over (get_or (fs ++ gs) p.rule (λ _. A.bottom) (take n behind) ∷ drop n behind)) plain
      ∙ ap (λ (h : List S → S). A.node p.symbol (h []) (get_or args 0 A.bottom)) (get_or_append_left fs gs (λ _. A.bottom) p.rule low)

  pairs-mean : (gs : List (List S → S)) (pairs : List Pair) → ((i : ℕ) (p : Pair) → slice_get pairs i ≡ Some p → (p.rule < length fs) × (get_or ranks p.rule 0 ≡ 0))
      → rule_meanings A ranks (fs ++ gs) (map pair_rule pairs) ≡ fs ++ (gs ++ map (pair_meaning A fs) pairs)
  pairs-mean gs [] plain = ap (λ hs. fs ++ hs) (sym (append-nil gs))
  pairs-mean gs (p ∷ ps) plain =
      let own = plain 0 p refl in
      let m : meaning A ranks (fs ++ gs) (pair_rule p).body ≡ pair_meaning A fs p = fun_ext (pair-means gs p own.0 own.1) in
      let one : List (List S → S) = pair_meaning A fs p ∷ [] in
      ap (λ h. rule_meanings A ranks ((fs ++ gs) ++ h ∷ []) (map pair_rule ps)) m ∙ ap (λ hs. rule_meanings A ranks hs (map pair_rule ps)) (append_assoc fs gs one)
      ∙ pairs-mean (gs ++ one) ps (λ i q e. plain (suc i) q e) ∙ ap (λ hs. fs ++ hs) (append_assoc gs one (map (pair_meaning A fs) ps))

module _ (pairs : List Pair) (above : ℕ) {S : Type 0} (A : Algebra S) (ranks ranks' : List ℕ) (fs gs : List (List S → S)) where
  module _ (same : (q : ℕ) → q < above → get_or ranks' q 0 ≡ get_or ranks q 0) (calls : (q : ℕ) → q < above → get_or gs q (λ _. A.bottom) ≡ get_or fs q (λ _. A.bottom)) where
    module _ (single : (i : ℕ) (p : Pair) → slice_get pairs i ≡ Some p → get_or ranks' (above + i) 0 ≡ 1) (plain : (i : ℕ) (p : Pair) → slice_get pairs i ≡ Some p → get_or ranks p.rule 0 ≡ 0) where
      module _ (own : (i : ℕ) (p : Pair) → slice_get pairs i ≡ Some p → (args : List S) → get_or gs (above + i) (λ _. A.bottom) args ≡ pair_meaning A fs p args) where
        symbol-same : (f : ℕ) (args : List S) (ls' ls : List Label) (rest : List S) → meanings A ranks' gs args ls' rest ≡ meanings A ranks fs args ls rest
            → meanings A ranks' gs args (Symbol f ∷ ls') rest ≡ meanings A ranks fs args (Symbol f ∷ ls) rest
        symbol-same f args ls' ls rest e = ap (λ all. A.node f (get_or (take 2 all) 0 A.bottom) (get_or (take 2 all) 1 A.bottom) ∷ drop 2 all) e

        call-same : (q : ℕ) (args : List S) (ls' ls : List Label) (rest : List S) → q < above → meanings A ranks' gs args ls' rest ≡ meanings A ranks fs args ls rest
            → meanings A ranks' gs args (Call q ∷ ls') rest ≡ meanings A ranks fs args (Call q ∷ ls) rest
        call-same q args ls' ls rest low e =
            let all = meanings A ranks fs args ls rest in
            ap (λ xs. get_or gs q (λ _. A.bottom) (take (get_or ranks' q 0) xs) ∷ drop (get_or ranks' q 0) xs) e ∙ ap (λ n. get_or gs q (λ _. A.bottom) (take n all) ∷ drop n all) (same q low)
            ∙ ap (λ (h : List S → S). h (take (get_or ranks q 0) all) ∷ drop (get_or ranks q 0) all) (calls q low)

        before-means : (o : Option ℕ) (p : Pair) → ((i : ℕ) → o ≡ Some i → slice_get pairs i ≡ Some p) → p.rule < above → (args : List S) (ls : List Label) (rest : List S)
            → meanings A ranks' gs args (pair_before o above p ls) rest ≡ meanings A ranks' gs args (Symbol p.symbol ∷ Call p.rule ∷ ls) rest
        before-means None p told low args ls rest = refl
        before-means (Some i) p told low args ls rest =
            let all = meanings A ranks' gs args ls rest in
            let over : List S → List S = λ xs. A.node p.symbol (get_or (take 2 xs) 0 A.bottom) (get_or (take 2 xs) 1 A.bottom) ∷ drop 2 xs in
            let plainly : get_or ranks' p.rule 0 ≡ 0 = same p.rule low ∙ plain i p (told i refl) in
            ap (λ n. get_or gs (above + i) (λ _. A.bottom) (take n all) ∷ drop n all) (single i p (told i refl)) ∙ ap (λ x. x ∷ drop 1 all) (own i p (told i refl) (take 1 all))
            ∙ ap (λ (h : List S → S). over (h [] ∷ all)) (sym (calls p.rule low)) ∙ ap (λ n. over (get_or gs p.rule (λ _. A.bottom) (take n all) ∷ drop n all)) (sym plainly)

        paired-means : (args : List S) (ls : List Label) (rest : List S) → CallsBelow above ls → meanings A ranks' gs args (paired pairs above ls) rest ≡ meanings A ranks fs args ls rest
        paired-means args [] rest c = refl
        paired-means args (Bottom ∷ ls) rest c = rw (paired-means args ls rest c)
        paired-means args (Param ∷ ls) rest c = ap (λ ms. get_or args 0 A.bottom ∷ ms) (paired-means (drop 1 args) ls rest c)
        paired-means args (Call q ∷ ls) rest c = call-same q args (paired pairs above ls) ls rest c.0 (paired-means args ls rest c.1)
        paired-means args (Symbol f ∷ []) rest c = refl
        paired-means args (Symbol f ∷ Bottom ∷ ls) rest c = symbol-same f args (paired pairs above (Bottom ∷ ls)) (Bottom ∷ ls) rest (paired-means args (Bottom ∷ ls) rest c)
        paired-means args (Symbol f ∷ Symbol g ∷ ls) rest c = symbol-same f args (paired pairs above (Symbol g ∷ ls)) (Symbol g ∷ ls) rest (paired-means args (Symbol g ∷ ls) rest c)
        paired-means args (Symbol f ∷ Param ∷ ls) rest c = symbol-same f args (paired pairs above (Param ∷ ls)) (Param ∷ ls) rest (paired-means args (Param ∷ ls) rest c)
        paired-means args (Symbol f ∷ Call q ∷ ls) rest c =
            let p : Pair = record { symbol = f; rule = q } in
            before-means (place_of pairs p) p (place-told pairs p) c.0 args (paired pairs above ls) rest
            ∙ symbol-same f args (Call q ∷ paired pairs above ls) (Call q ∷ ls) rest (call-same q args (paired pairs above ls) ls rest c.0 (paired-means args ls rest c.1))

-- what a grammar stands for, by its last rule
last-value : (F : List Rule) (R : Rule) → value (F ++ R ∷ []) ≡ meaning term_algebra (ranks_of (F ++ R ∷ [])) (rule_meanings term_algebra (ranks_of (F ++ R ∷ [])) [] F) R.body (holes 0 R.rank)
last-value F R =
    let G = F ++ R ∷ [] in
    let ms : List (List Term → Term) = all_meanings term_algebra G in
    let last : length G - 1 ≡ length F = omega (arith, length-append F (R ∷ [])) in
    let rank : rank_at G (length F) ≡ R.rank = ap (λ (Q : Rule). Q.rank) (get_or_at F R [] no_rule (length F) refl) in
    ap (λ k. get_or {A = List Term → Term} ms k (λ _. Leaf) (holes 0 (rank_at G k))) last ∙ ap (λ n. get_or {A = List Term → Term} ms (length F) (λ _. Leaf) (holes 0 n)) rank
    ∙ ap (λ k. get_or {A = List Term → Term} ms k (λ _. Leaf) (holes 0 R.rank)) (sym (zero-add (length F)))
    ∙ ap (λ (h : List Term → Term). h (holes 0 R.rank)) (rule_meanings-at term_algebra (ranks_of G) [] F R [])

module _ (pairs : List Pair) (before : List Rule) (start : Rule) where
  pub length-front : length (before ++ map pair_rule pairs) ≡ length before + length pairs
  length-front = omega (arith, length-append before (map pair_rule pairs), length-map pairs pair_rule)

  pub length-with_pairs : length (with_pairs pairs before start) ≡ suc (length before + length pairs)
  length-with_pairs = omega (arith, length-front, length-append (before ++ map pair_rule pairs) (paired_rule pairs (length before) start ∷ []))

  pub length-before : length (before ++ start ∷ []) ≡ suc (length before)
  length-before = omega (arith, length-append before (start ∷ []))

  -- rules by their places
  pub rule-before : (q : ℕ) → q < length before → get_or (with_pairs pairs before start) q no_rule ≡ get_or (before ++ start ∷ []) q no_rule
  rule-before q h =
      get_or_append_left (before ++ map pair_rule pairs) (paired_rule pairs (length before) start ∷ []) no_rule q (omega (arith, h, length-front))
      ∙ get_or_append_left before (map pair_rule pairs) no_rule q h ∙ sym (get_or_append_left before (start ∷ []) no_rule q h)

  pub rule-pair : (i : ℕ) (p : Pair) → slice_get pairs i ≡ Some p → get_or (with_pairs pairs before start) (length before + i) no_rule ≡ pair_rule p
  rule-pair i p e =
      get_or_append_left (before ++ map pair_rule pairs) (paired_rule pairs (length before) start ∷ []) no_rule (length before + i) (omega (arith, length-front, got_within pairs i p e))
      ∙ get_or-append-add before (map pair_rule pairs) i no_rule ∙ got_map pair_rule pairs i p no_rule e

  pub rule-start : get_or (with_pairs pairs before start) (length before + length pairs) no_rule ≡ paired_rule pairs (length before) start
  rule-start = get_or_at (before ++ map pair_rule pairs) (paired_rule pairs (length before) start) [] no_rule (length before + length pairs) length-front

  -- ranks by their places
  pub rank-before : (q : ℕ) → q < length before → get_or (ranks_of (with_pairs pairs before start)) q 0 ≡ get_or (ranks_of (before ++ start ∷ [])) q 0
  rank-before q h = rank_at-ranks_of (with_pairs pairs before start) q ∙ ap (λ (R : Rule). R.rank) (rule-before q h) ∙ sym (rank_at-ranks_of (before ++ start ∷ []) q)

  pub rank-pair : (i : ℕ) (p : Pair) → slice_get pairs i ≡ Some p → get_or (ranks_of (with_pairs pairs before start)) (length before + i) 0 ≡ 1
  rank-pair i p e = rank_at-ranks_of (with_pairs pairs before start) (length before + i) ∙ ap (λ (R : Rule). R.rank) (rule-pair i p e)

  module _ (g : IsGrammar (before ++ start ∷ [])) (found : AreFound before start.body pairs) where
    pub start-calls : CallsBelow (length before) start.body
    start-calls = subst (λ (R : Rule). CallsBelow (length before) R.body) (get_or_at before start [] no_rule (length before) refl) (g.each (length before) (omega (arith, length-before))).earlier

    pub rule-low : (i : ℕ) (p : Pair) → slice_get pairs i ≡ Some p → p.rule < length before
    rule-low i p e = let f = found i p e in call-earlier (length before) (f.at + 1) p.rule start.body start-calls (get_is start.body (f.at + 1) (Call p.rule) Bottom f.stands.1)

    pub rule-plain : (i : ℕ) (p : Pair) → slice_get pairs i ≡ Some p → get_or (ranks_of (before ++ start ∷ [])) p.rule 0 ≡ 0
    rule-plain i p e =
        rank_at-ranks_of (before ++ start ∷ []) p.rule ∙ ap (λ (R : Rule). R.rank) (get_or_append_left before (start ∷ []) no_rule p.rule (rule-low i p e)) ∙ (found i p e).plain

    before-calls : (q : ℕ) → q < length before → CallsBelow (length before) (body_at before q)
    before-calls q h =
        subst (λ (R : Rule). CallsBelow (length before) R.body) (get_or_append_left before (start ∷ []) no_rule q h)
        (CallsBelow-le q (length before) (body_at (before ++ start ∷ []) q) (omega (arith, h)) (g.each q (omega (arith, h, length-before))).earlier)

    module _ {S : Type 0} (A : Algebra S) where
      abbrev pub before_meanings : List (List S → S)
      before_meanings = rule_meanings A (ranks_of (before ++ start ∷ [])) [] before

      length-before_meanings : length before_meanings ≡ length before
      length-before_meanings = length-rule_meanings A (ranks_of (before ++ start ∷ [])) [] before ∙ zero-add (length before)

      front-means : rule_meanings A (ranks_of (with_pairs pairs before start)) [] (before ++ map pair_rule pairs) ≡ before_meanings ++ map (pair_meaning A before_meanings) pairs
      front-means =
          let ranks' = ranks_of (with_pairs pairs before start) in
          rule_meanings-append A ranks' [] before (map pair_rule pairs)
          ∙ ap (λ ms. rule_meanings A ranks' ms (map pair_rule pairs)) (rules-same A (ranks_of (before ++ start ∷ [])) ranks' (length before) rank-before [] before before-calls ∙ sym (append-nil before_meanings))
          ∙ pairs-mean A ranks' before_meanings [] pairs (λ i p e. (omega (arith, rule-low i p e, length-before_meanings), rank-before p.rule (rule-low i p e) ∙ rule-plain i p e))

      start-means : (args : List S)
          → meaning A (ranks_of (with_pairs pairs before start)) (rule_meanings A (ranks_of (with_pairs pairs before start)) [] (before ++ map pair_rule pairs)) (paired pairs (length before) start.body) args
          ≡ meaning A (ranks_of (before ++ start ∷ [])) before_meanings start.body args
      start-means args =
          let ranks' = ranks_of (with_pairs pairs before start) in
          let hs : List (List S → S) = map (pair_meaning A before_meanings) pairs in
          let calls : (q : ℕ) → q < length before → get_or (before_meanings ++ hs) q (λ _. A.bottom) ≡ get_or before_meanings q (λ _. A.bottom) =
          λ q h. get_or_append_left before_meanings hs (λ _. A.bottom) q (omega (arith, h, length-before_meanings)) in
          let own : (i : ℕ) (p : Pair) → slice_get pairs i ≡ Some p → (args : List S) → get_or (before_meanings ++ hs) (length before + i) (λ _. A.bottom) args ≡ pair_meaning A before_meanings p args =
          λ i p e xs. ap (λ k. get_or (before_meanings ++ hs) (k + i) (λ _. A.bottom) xs) (sym length-before_meanings)
          ∙ ap (λ (h : List S → S). h xs) (get_or-append-add before_meanings hs i (λ _. A.bottom)) ∙ ap (λ (h : List S → S). h xs) (got_map (pair_meaning A before_meanings) pairs i p (λ _. A.bottom) e) in
          ap (λ ms. meaning A ranks' ms (paired pairs (length before) start.body) args) front-means
          ∙ ap (λ xs. get_or xs 0 A.bottom)
          (paired-means pairs (length before) A (ranks_of (before ++ start ∷ [])) ranks' before_meanings (before_meanings ++ hs) rank-before calls rank-pair rule-plain own args start.body [] start-calls)

    pub same-value : value (with_pairs pairs before start) ≡ value (before ++ start ∷ [])
    same-value =
        last-value (before ++ map pair_rule pairs) (paired_rule pairs (length before) start) ∙ start-means term_algebra (holes 0 start.rank) ∙ sym (last-value before start)
