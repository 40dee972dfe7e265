-- Rules for leaves change no meaning, and the rules with them are a grammar.
use Rattle.std.proofs.Common.{◌≡◌, ℕ, zero, suc, ◌+◌, ◌-◌, ◌<◌, List, [], ◌∷◌, ◌++◌, length, take, drop, get_or, map, slice_get, Some, refl, ap, sym, ◌∙◌, arith, length-append, append_assoc, append-nil}
use Rattle.std.specs.Prelude.{Option, None}
use Rattle.std.proofs.Math.Path.{fun_ext}
use Rattle.std.proofs.lemmas.List.{map-append, length-map, get_or_append_left, get_or-append-add}
use Rattle.rule_arena.specs.declared.label.Label.{Label}
use Rattle.rule_arena.specs.declared.label.Label.TheVariants.{Bottom, Symbol, Call, Param}
use Rattle.slt_grammar.proofs.RuleMeanings.{rule_meanings-append, rank_at-ranks_of}
use Rattle.slt_grammar.specs.Algebras.{Algebra, meaning, meanings, rule_meanings, ranks_of, all_meanings}
use Rattle.slt_grammar.specs.Grammars.{rank_at, value}
use Rattle.slt_grammar.specs.Terms.{Term, Leaf, term_algebra, holes}
use Rattle.slt_grammar.specs.declared.rules.Rule.{Rule}
use Rattle.fcns_encoding.specs.Leaves.{leaf_rule, leaf_before, symbol_before, joined, joined_rule, with_leaves, AreLeaves}
use Rattle.fcns_encoding.proofs.CellLemmas.{got_map, got_within}

-- what a leaf's rule means
abbrev pub leaf_meaning : {S : Type 0} → Algebra S → ℕ → List S → S
leaf_meaning A f args = A.node f A.bottom (get_or args 0 A.bottom)

leaves-mean : {S : Type 0} (A : Algebra S) (ranks : List ℕ) (before : List (List S → S)) (symbols : List ℕ) → rule_meanings A ranks before (map leaf_rule symbols) ≡ before ++ map (leaf_meaning A) symbols
leaves-mean A ranks before [] = sym (append-nil before)
leaves-mean A ranks before (f ∷ fs) =
    let m : meaning A ranks before (leaf_rule f).body ≡ leaf_meaning A f = fun_ext (λ args. refl) in
    rw m (leaves-mean A ranks (before ++ leaf_meaning A f ∷ []) fs ∙ append_assoc before (leaf_meaning A f ∷ []) (map (leaf_meaning A) fs))

leaf-rank : (symbols : List ℕ) (i f : ℕ) → slice_get symbols i ≡ Some f → get_or (ranks_of (map leaf_rule symbols)) i 0 ≡ 1
leaf-rank [] i f e = cc
leaf-rank (g ∷ gs) zero f e = refl
leaf-rank (g ∷ gs) (suc i) f e = leaf-rank gs i f e

module _ (places : List (Option ℕ)) (symbols : List ℕ) (leaves : AreLeaves places symbols) where
  module _ {S : Type 0} (A : Algebra S) (ranks ranks' : List ℕ) (shifted : (q : ℕ) → get_or ranks' (length symbols + q) 0 ≡ get_or ranks q 0) (single : (i f : ℕ) → slice_get symbols i ≡ Some f → get_or ranks' i 0 ≡ 1) where
    module _ (fs gs : List (List S → S)) (calls : (q : ℕ) → get_or gs (length symbols + q) (λ _. A.bottom) ≡ get_or fs q (λ _. A.bottom)) (own : (i f : ℕ) → slice_get symbols i ≡ Some f → (args : List S) → get_or gs i (λ _. A.bottom) args ≡ leaf_meaning A f args) where
      leaf-means : (o : Option ℕ) (f : ℕ) → ((i : ℕ) → o ≡ Some i → slice_get symbols i ≡ Some f) → (args : List S) (ls : List Label) (rest : List S)
          → meanings A ranks' gs args (leaf_before o f ls) rest ≡ meanings A ranks' gs args (Symbol f ∷ Bottom ∷ ls) rest
      leaf-means None f told args ls rest = refl
      leaf-means (Some i) f told args ls rest =
          let all = meanings A ranks' gs args ls rest in
          ap (λ n. get_or gs i (λ _. A.bottom) (take n all) ∷ drop n all) (single i f (told i refl)) ∙ ap (λ x. x ∷ drop 1 all) (own i f (told i refl) (take 1 all))

      symbol-means : (f : ℕ) (args : List S) (ls : List Label) (rest : List S) → meanings A ranks' gs args (symbol_before places f ls) rest ≡ meanings A ranks' gs args (Symbol f ∷ ls) rest
      symbol-means f args [] rest = refl
      symbol-means f args (Bottom ∷ ls) rest = leaf-means (get_or places f None) f (leaves.told f) args ls rest
      symbol-means f args (Symbol g ∷ ls) rest = refl
      symbol-means f args (Call q ∷ ls) rest = refl
      symbol-means f args (Param ∷ ls) rest = refl

      joined-means : (args : List S) (ls : List Label) (rest : List S) → meanings A ranks' gs args (joined places (length symbols) ls) rest ≡ meanings A ranks fs args ls rest
      joined-means args [] rest = refl
      joined-means args (Bottom ∷ ls) rest = rw (joined-means args ls rest)
      joined-means args (Symbol f ∷ ls) rest = symbol-means f args (joined places (length symbols) ls) rest ∙ rw (joined-means args ls rest)
      joined-means args (Call q ∷ ls) rest = rw (joined-means args ls rest, shifted q, calls q)
      joined-means args (Param ∷ ls) rest = ap (λ ms. get_or args 0 A.bottom ∷ ms) (joined-means (drop 1 args) ls rest)

    rules-mean : (hs fs : List (List S → S)) (G : List Rule) → length hs ≡ length symbols → ((i f : ℕ) → slice_get symbols i ≡ Some f → (args : List S) → get_or hs i (λ _. A.bottom) args ≡ leaf_meaning A f args)
        → rule_meanings A ranks' (hs ++ fs) (map (joined_rule places (length symbols)) G) ≡ hs ++ rule_meanings A ranks fs G
    rules-mean hs fs [] n own = refl
    rules-mean hs fs (R ∷ G) n own =
        let calls : (q : ℕ) → get_or (hs ++ fs) (length symbols + q) (λ _. A.bottom) ≡ get_or fs q (λ _. A.bottom) = λ q. ap (λ k. get_or (hs ++ fs) (k + q) (λ _. A.bottom)) (sym n) ∙ get_or-append-add hs fs q (λ _. A.bottom) in
        let front : (i f : ℕ) → slice_get symbols i ≡ Some f → (args : List S) → get_or (hs ++ fs) i (λ _. A.bottom) args ≡ leaf_meaning A f args =
        λ i f e args. ap (λ (h : List S → S). h args) (get_or_append_left hs fs (λ _. A.bottom) i (omega (arith, n, got_within symbols i f e))) ∙ own i f e args in
        let m : meaning A ranks' (hs ++ fs) (joined places (length symbols) R.body) ≡ meaning A ranks fs R.body = fun_ext (λ args. ap (λ ms. get_or ms 0 A.bottom) (joined-means fs (hs ++ fs) calls front args R.body [])) in
        let more : rule_meanings A ranks' ((hs ++ fs) ++ meaning A ranks' (hs ++ fs) (joined places (length symbols) R.body) ∷ []) (map (joined_rule places (length symbols)) G) ≡ hs ++ rule_meanings A ranks (fs ++ meaning A ranks fs R.body ∷ []) G =
        rw (m, append_assoc hs fs (meaning A ranks fs R.body ∷ [])) (rules-mean hs (fs ++ meaning A ranks fs R.body ∷ []) G n own) in
        more

  ranks-joined : (G : List Rule) → ranks_of (map (joined_rule places (length symbols)) G) ≡ ranks_of G
  ranks-joined [] = refl
  ranks-joined (R ∷ G) = ap (λ ns. R.rank ∷ ns) (ranks-joined G)

  ranks-with : (G : List Rule) → ranks_of (with_leaves symbols places G) ≡ ranks_of (map leaf_rule symbols) ++ ranks_of G
  ranks-with G = map-append (λ (R : Rule). R.rank) (map leaf_rule symbols) (map (joined_rule places (length symbols)) G) ∙ ap (λ ns. ranks_of (map leaf_rule symbols) ++ ns) (ranks-joined G)

  length-leaves : length (ranks_of (map leaf_rule symbols)) ≡ length symbols
  length-leaves = length-map (map leaf_rule symbols) (λ (R : Rule). R.rank) ∙ length-map symbols leaf_rule

  pub rank-behind : (G : List Rule) (q : ℕ) → get_or (ranks_of (with_leaves symbols places G)) (length symbols + q) 0 ≡ get_or (ranks_of G) q 0
  rank-behind G q = ap (λ ns. get_or ns (length symbols + q) 0) (ranks-with G)
      ∙ ap (λ k. get_or (ranks_of (map leaf_rule symbols) ++ ranks_of G) (k + q) 0) (sym length-leaves) ∙ get_or-append-add (ranks_of (map leaf_rule symbols)) (ranks_of G) q 0

  pub rank-front : (G : List Rule) (i f : ℕ) → slice_get symbols i ≡ Some f → get_or (ranks_of (with_leaves symbols places G)) i 0 ≡ 1
  rank-front G i f e =
      ap (λ ns. get_or ns i 0) (ranks-with G) ∙ get_or_append_left (ranks_of (map leaf_rule symbols)) (ranks_of G) 0 i (omega (arith, length-leaves, got_within symbols i f e)) ∙ leaf-rank symbols i f e

  all-mean : {S : Type 0} (A : Algebra S) (G : List Rule) → all_meanings A (with_leaves symbols places G) ≡ map (leaf_meaning A) symbols ++ all_meanings A G
  all-mean {S} A G =
      let ranks' = ranks_of (with_leaves symbols places G) in
      let hs : List (List S → S) = map (leaf_meaning A) symbols in
      rule_meanings-append A ranks' [] (map leaf_rule symbols) (map (joined_rule places (length symbols)) G)
      ∙ ap (λ ms. rule_meanings A ranks' ms (map (joined_rule places (length symbols)) G)) (leaves-mean A ranks' [] symbols ∙ sym (append-nil hs))
      ∙ rules-mean A (ranks_of G) ranks' (rank-behind G) (rank-front G) hs [] G (length-map symbols (leaf_meaning A)) (λ i f e args. ap (λ (h : List S → S). h args) (got_map (leaf_meaning A) symbols i f (λ _. A.bottom) e))

  pub length-with : (G : List Rule) → length (with_leaves symbols places G) ≡ length symbols + length G
  length-with G = omega (arith, length-append (map leaf_rule symbols) (map (joined_rule places (length symbols)) G), length-map symbols leaf_rule, length-map G (joined_rule places (length symbols)))

  pub same-value : (G : List Rule) → 0 < length G → value (with_leaves symbols places G) ≡ value G
  same-value G some =
      let H = with_leaves symbols places G in
      let r = length G - 1 in
      let last : length H - 1 ≡ length symbols + r = omega (arith, length-with G, some) in
      let hs : List (List Term → Term) = map (leaf_meaning term_algebra) symbols in
      let rank : rank_at H (length symbols + r) ≡ rank_at G r = sym (rank_at-ranks_of H (length symbols + r)) ∙ rank-behind G r ∙ rank_at-ranks_of G r in
      ap (λ k. get_or {A = List Term → Term} (all_meanings term_algebra H) k (λ _. Leaf) (holes 0 (rank_at H k))) last
      ∙ ap (λ k. get_or {A = List Term → Term} (all_meanings term_algebra H) (length symbols + r) (λ _. Leaf) (holes 0 k)) rank
      ∙ ap (λ (ms : List (List Term → Term)). get_or ms (length symbols + r) (λ _. Leaf) (holes 0 (rank_at G r))) (all-mean term_algebra G)
      ∙ ap (λ k. get_or {A = List Term → Term} (hs ++ all_meanings term_algebra G) (k + r) (λ _. Leaf) (holes 0 (rank_at G r))) (sym (length-map symbols (leaf_meaning term_algebra)))
      ∙ ap (λ (f : List Term → Term). f (holes 0 (rank_at G r))) (get_or-append-add hs (all_meanings term_algebra G) r (λ _. Leaf))
