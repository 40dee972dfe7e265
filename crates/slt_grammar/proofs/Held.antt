-- Where the nodes of a rule stand in the arena.
use Rattle.std.proofs.Common.{◌≡◌, ◌≢◌, ℕ, zero, suc, ◌+◌, ◌<◌, ◌≤◌, ◌^◌, List, [], ◌∷◌, length, get_or, set, Option, Some, None, slice_get, IsSome, refl, sym, ap, ◌∙◌, subst, arith}
use Rattle.std.specs.List.{sum_by}
use Rattle.std.proofs.lemmas.List.{length-map}
use Rattle.std.proofs.lemmas.List.Sums.{sum_by-cons}
use Rattle.std.proofs.lemmas.Option.{slice_get_read}
use Rattle.rule_arena.specs.Terms.{Node, Terms, At, AreDistinctKeys, term_at, key_in, or_nothing, node_count, IsSound}
use Rattle.rule_arena.specs.declared.key.Key.{Key}
use Rattle.slt_grammar.specs.Grammars.{rank_at, whole}
use Rattle.slt_grammar.specs.Keyed.{Keyed, KeyedRule, IsKeyed, nodes_at, key_at, rules_of, labels_of}
use Rattle.slt_grammar.specs.Holding.{terms_of, seen, AreRules, IsLawful}
use Rattle.slt_grammar.specs.Placing.{placed}
use Rattle.slt_grammar.specs.declared.rules.Rule.{Rule}
use Rattle.slt_grammar.proofs.KeyedLemmas.{key_at-within}
use Rattle.slt_grammar.proofs.Orders.{get-any}
use Rattle.slt_grammar.proofs.Seen.{seen-at, length-seen, key-placed}

pub some-at : (xs : List Key) (r : ℕ) → r < length xs → (k : Key) × (slice_get xs r ≡ Some k)
some-at [] r h = absurd (omega arith)
some-at (x ∷ xs) zero h = (x, refl)
some-at (x ∷ xs) (suc r) h = some-at xs r (omega arith)

terms-get : (a : Terms) (roots : List Key) (r : ℕ) (k : Key) → slice_get roots r ≡ Some k → IsSome (term_at a k.number) → term_at a k.number ≡ Some (get_or (terms_of a roots) r [])
terms-get a [] r k e s = absurd (cc)
terms-get a (x ∷ roots) zero k e s = let q : x ≡ k = cc in at (term_at a k.number) refl s (ap (λ (y : Key). or_nothing (term_at a y.number)) q)
  where
    at : (o : Option (List Node)) → term_at a k.number ≡ o → IsSome o → or_nothing (term_at a x.number) ≡ or_nothing (term_at a k.number) → o ≡ Some (or_nothing (term_at a x.number))
    at None t s q = absurd (cc)
    at (Some ns) t s q = ap Some (sym (q ∙ ap or_nothing t))
terms-get a (x ∷ roots) (suc r) k e s = terms-get a roots r k e s

-- a place of a rule that has a key, in the arena
module _ (a : Terms) (roots : List Key) (ranks order : List ℕ) (G : List KeyedRule) (R : AreRules a roots ranks order) (see : seen order ranks (terms_of a roots) ≡ G) where
  abbrev pub body : ℕ → List Node
  body s = get_or (terms_of a roots) s []

  pub many-bodies : length (terms_of a roots) ≡ length roots
  many-bodies = length-map roots (λ (k : Key). or_nothing (term_at a k.number))

  pub many-ranks : length ranks ≡ length (terms_of a roots)
  many-ranks = R.ranked ∙ sym many-bodies

  pub many-rules : length G ≡ length roots
  many-rules = sym (ap length see) ∙ length-seen order ranks (terms_of a roots) many-ranks ∙ many-bodies

  pub nodes-are : (s : ℕ) → nodes_at G s ≡ placed order (body s)
  nodes-are s = ap (λ (H : List KeyedRule). nodes_at H s) (sym see) ∙ seen-at order ranks (terms_of a roots) s many-ranks

  pub rank-is : (r rank : ℕ) → r < length G → rank ≡ get_or ranks r rank → rank ≡ rank_at (rules_of G) r
  rank-is r rank h e = e ∙ get-any ranks r rank 0 (omega (arith, R.ranked, many-rules)) ∙ at ranks (terms_of a roots) r many-ranks ∙ ap (λ (H : List KeyedRule). rank_at (rules_of H) r) see
    where
      at : (rs : List ℕ) (bs : List (List Node)) (r : ℕ) → length rs ≡ length bs → get_or rs r 0 ≡ rank_at (rules_of (seen order rs bs)) r
      at [] bs r e = refl
      at (x ∷ rs) [] r e = absurd (omega arith)
      at (x ∷ rs) (b ∷ bs) zero e = refl
      at (x ∷ rs) (b ∷ bs) (suc r) e = at rs bs r (omega arith)

  pub rule-within : (r p : ℕ) (key : Key) → key_at G r p ≡ Some key → r < length roots
  rule-within r p key e = let w = key_at-within G r p key e in omega (arith, w.0, many-rules)

  pub body-stands : (s : ℕ) (k : Key) → slice_get roots s ≡ Some k → term_at a k.number ≡ Some (body s)
  body-stands s k e = terms-get a roots s k e (R.held.stands s k e)

  pub key-is : (r p : ℕ) (key : Key) → key_at G r p ≡ Some key → key_in (body r) p ≡ Some key
  key-is r p key e = sym (key-placed order (body r) p) ∙ ap (λ (ns : List Node). key_in ns p) (sym (nodes-are r)) ∙ e

  abbrev pub root-at : (r p : ℕ) (key : Key) → key_at G r p ≡ Some key → (k : Key) × (slice_get roots r ≡ Some k)
  root-at r p key e = some-at roots r (rule-within r p key e)

  abbrev pub node-is : (r p : ℕ) (key : Key) (e : key_at G r p ≡ Some key) → At a key
  node-is r p key e = record { root = (root-at r p key e).0.number; nodes = body r; place = p; stands = body-stands r (root-at r p key e).0 (root-at r p key e).1; there = key-is r p key e }

  -- a rule's body begins with its root
  pub root-keyed : (r : ℕ) (root : Key) → IsSound a → r < length roots → root ≡ get_or roots r root → key_at G r 0 ≡ Some root
  root-keyed r root S h e =
      let i : slice_get roots r ≡ Some root = slice_get_read roots (length roots) r root refl h e in
      ap (λ (ns : List Node). key_in ns 0) (nodes-are r) ∙ key-placed order (body r) 0 ∙ S.first root.number (body r) (body-stands r root i)

-- the terms of different roots are no more nodes than all terms
within-set : (ts : List (Option (List Node))) (k : ℕ) → length (or_nothing (get_or ts k None)) + sum_by (λ t. length (or_nothing t)) (set ts k None) ≡ sum_by (λ t. length (or_nothing t)) ts
within-set [] k = refl
within-set (t ∷ ts) zero = rw (sum_by-cons (λ o. length (or_nothing o)) t ts, sum_by-cons (λ o. length (or_nothing o)) None ts) (omega arith)
within-set (t ∷ ts) (suc k) =
    rw (sum_by-cons (λ o. length (or_nothing o)) t ts, sum_by-cons (λ o. length (or_nothing o)) t (set ts k None)) (omega (arith, within-set ts k))

get-set : (ts : List (Option (List Node))) (k j : ℕ) → j ≢ k → get_or (set ts k None) j None ≡ get_or ts j None
get-set [] k j n = refl
get-set (t ∷ ts) zero zero n = absurd (n refl)
get-set (t ∷ ts) zero (suc j) n = refl
get-set (t ∷ ts) (suc k) zero n = refl
get-set (t ∷ ts) (suc k) (suc j) n = get-set ts k j (λ e. n (ap suc e))

lengths-within : (ts : List (Option (List Node))) (ks : List Key) → AreDistinctKeys ks → sum_by (λ (k : Key). length (or_nothing (get_or ts k.number None))) ks ≤ sum_by (λ t. length (or_nothing t)) ts
lengths-within ts [] d = omega arith
lengths-within ts (k ∷ ks) d =
    let us : List (Option (List Node)) = set ts k.number None in
    let f : Key → ℕ = λ (x : Key). length (or_nothing (get_or ts x.number None)) in
    let g : Key → ℕ = λ (x : Key). length (or_nothing (get_or us x.number None)) in
    let ih = lengths-within us ks (λ i j x y e f n. let z = d (suc i) (suc j) x y e f n in omega arith) in
    let same : sum_by g ks ≡ sum_by f ks = all ks (λ i x e. ap (λ o. length (or_nothing o)) (get-set ts k.number x.number (λ n. absurd (let z = d (suc i) 0 x k e refl n in omega arith)))) in
    rw (sum_by-cons f k ks) (omega (arith, ih, same, within-set ts k.number))
  where
    all : (xs : List Key) → ((i : ℕ) (x : Key) → slice_get xs i ≡ Some x → length (or_nothing (get_or (set ts k.number None) x.number None)) ≡ length (or_nothing (get_or ts x.number None)))
        → sum_by (λ (x : Key). length (or_nothing (get_or (set ts k.number None) x.number None))) xs ≡ sum_by (λ (x : Key). length (or_nothing (get_or ts x.number None))) xs
    all [] h = refl
    all (x ∷ xs) h =
        let f : Key → ℕ = λ (x : Key). length (or_nothing (get_or ts x.number None)) in
        let g : Key → ℕ = λ (x : Key). length (or_nothing (get_or (set ts k.number None) x.number None)) in
        rw (sum_by-cons f x xs, sum_by-cons g x xs) (omega (arith, h 0 x refl, all xs (λ i y e. h (suc i) y e)))

-- rules in an arena have no more nodes than the arena
pub whole-within : (a : Terms) (roots : List Key) (ranks order : List ℕ) → AreRules a roots ranks order → whole (rules_of (seen order ranks (terms_of a roots))) ≤ node_count a
whole-within a roots ranks order R =
    let m : length ranks ≡ length roots = R.ranked in
    let e = sums ranks roots m in
    omega (arith, e, lengths-within a.terms roots R.held.distinct)
  where
    sums : (rs : List ℕ) (ks : List Key) → length rs ≡ length ks → whole (rules_of (seen order rs (terms_of a ks))) ≡ sum_by (λ (k : Key). length (or_nothing (get_or a.terms k.number None))) ks
    sums [] [] e = refl
    sums [] (k ∷ ks) e = absurd (omega arith)
    sums (r ∷ rs) [] e = absurd (omega arith)
    sums (r ∷ rs) (k ∷ ks) e =
        let f : Key → ℕ = λ (x : Key). length (or_nothing (get_or a.terms x.number None)) in
        let b : List Node = or_nothing (term_at a k.number) in
        let R0 : Rule = record { rank = r; body = labels_of (placed order b) } in
        let ih = sums rs ks (omega arith) in
        let l : length (labels_of (placed order b)) ≡ length b = length-map (placed order b) _ ∙ length-map b _ in
        rw (sum_by-cons f k ks, sum_by-cons (λ (x : Rule). length x.body) R0 (rules_of (seen order rs (terms_of a ks)))) (omega (arith, ih, l))

-- what is kept is what callers are told
pub is_keyed : (a : Terms) (roots : List Key) (ranks order : List ℕ) (g : Keyed) → AreRules a roots ranks order → IsLawful (seen order ranks (terms_of a roots)) → IsSound a → node_count a ≤ 2 ^ 32
    → seen order ranks (terms_of a roots) ≡ g.rules → a.limit ≡ g.limit → IsKeyed g
is_keyed a roots ranks order g R L S n e l = record {
  grammar = (subst IsLawful e L).grammar;
  few = subst (λ (G : List KeyedRule). whole (rules_of G) < 2 ^ 63) e (omega (arith, whole-within a roots ranks order R));
  arities = (subst IsLawful e L).arities;
  once = λ key r p s q x y.
      let at_x = node-is a roots ranks order g.rules R e r p key x in
      let at_y = node-is a roots ranks order g.rules R e s q key y in
      let o = S.once key at_x at_y in
      let u = root-at a roots ranks order g.rules R e r p key x in
      let v = root-at a roots ranks order g.rules R e s q key y in
      (R.held.distinct r s u.0 v.0 u.1 v.1 o.0, o.1);
  below = λ key r p x. subst (λ (n : ℕ). key.number < n) l (S.below key (node-is a roots ranks order g.rules R e r p key x));
}

-- a term has no more nodes than the arena
pub term-within : (a : Terms) (r : ℕ) (ns : List Node) → term_at a r ≡ Some ns → length ns ≤ node_count a
term-within a r ns t = omega (arith, ap (λ (o : Option (List Node)). length (or_nothing o)) t, within-set a.terms r)
