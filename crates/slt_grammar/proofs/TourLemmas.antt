-- Tours with keys and without, their lengths, and the segments of labels.
use Rattle.std.proofs.Common.{◌≡◌, ℕ, zero, suc, ◌+◌, ◌*◌, ◌<◌, List, [], ◌∷◌, ◌++◌, length, get_or, drop, map, refl, ap, sym, ◌∙◌, arith, length-append}
use Rattle.std.proofs.lemmas.List.{map-append}
use Rattle.rule_arena.specs.Preorder.{AreTerms}
use Rattle.rule_arena.specs.Terms.{Node, kids_of}
use Rattle.rule_arena.specs.declared.label.Label.{Label}
use Rattle.rule_arena.specs.declared.label.Label.TheVariants.{Bottom, Symbol, Call, Param}
use Rattle.slt_grammar.specs.Algebras.{ranks_of}
use Rattle.slt_grammar.specs.Bodies.{arity, params}
use Rattle.slt_grammar.specs.Grammars.{IsGrammar, rank_at, value_at}
use Rattle.slt_grammar.specs.Keyed.{Keyed, KeyedRule, IsKeyed, HasArities, rules_of, nodes_at}
use Rattle.slt_grammar.specs.Segments.{segment, preorder, piece, spread, body_tour, node_tour}
use Rattle.slt_grammar.specs.Tours.{Stop, stop, opened_kids, once_closed, entered, tour}
use Rattle.slt_grammar.specs.declared.rules.Rule.{Rule}
use Rattle.slt_grammar.proofs.KeyedLemmas.{body_at-rules_of, length-rules_of, nodes-are-term}
use Rattle.slt_grammar.proofs.Linear.{value_at-linear, length-holes}
use Rattle.slt_grammar.proofs.Spreads.{params-listed, preorder-tour}

abbrev pub stops_map : {X Y : Type 0} → (X → Y) → List (Stop X) → List (Stop Y)
stops_map f = map (λ m. stop (f m.item) m.part)

opened_kids-map : {X Y : Type 0} (f : X → Y) (x : X) (i n : ℕ) (a : List (Stop X)) → map (stops_map f) (opened_kids x i n a) ≡ opened_kids (f x) i n (stops_map f a)
opened_kids-map f x i zero a = refl
opened_kids-map f x i (suc zero) a = refl
opened_kids-map f x i (suc (suc n)) a = ap (λ b. (stop (f x) i ∷ []) ∷ b) (opened_kids-map f x (suc i) (suc n) a)

once_closed-map : {X Y : Type 0} (f : X → Y) (n : ℕ) (a : List (Stop X)) → stops_map f (once_closed n a) ≡ once_closed n (stops_map f a)
once_closed-map f zero a = refl
once_closed-map f (suc n) a = refl

first-map : {X Y : Type 0} (f : X → Y) (afters : List (List (Stop X))) → stops_map f (get_or afters 0 []) ≡ get_or (map (stops_map f) afters) 0 []
first-map f [] = refl
first-map f (a ∷ afters) = refl

drop_one-map : {X Y : Type 0} (g : X → Y) (xs : List X) → map g (drop 1 xs) ≡ drop 1 (map g xs)
drop_one-map g [] = refl
drop_one-map g (x ∷ xs) = refl

-- a tour of other items of the same arities
pub tour-map : {X Y : Type 0} (f : X → Y) (ar : Y → ℕ) (afters : List (List (Stop X))) (xs : List X) → stops_map f (tour (λ x. ar (f x)) afters xs) ≡ tour ar (map (stops_map f) afters) (map f xs)
tour-map f ar afters [] = refl
tour-map f ar afters (x ∷ xs) =
    let n : ℕ = ar (f x) in
    let a = get_or afters 0 [] in
    let rest = opened_kids x 1 n a ++ drop 1 afters in
    ap (λ b. stop (f x) 0 ∷ b) (
    map-append (λ m. stop (f m.item) m.part) (once_closed n a) (tour (λ y. ar (f y)) rest xs)
    ∙ rw (once_closed-map f n a, tour-map f ar rest xs, map-append (stops_map f) (opened_kids x 1 n a) (drop 1 afters), opened_kids-map f x 1 n a, drop_one-map (stops_map f) afters, first-map f afters) refl)

-- a tour by the numbers of children is one by the labels' arities
pub tour-kids : (ranks : List ℕ) (afters : List (List (Stop Node))) (ns : List Node) → HasArities ranks ns → tour kids_of afters ns ≡ tour (λ n. arity ranks n.label) afters ns
tour-kids ranks afters [] h = refl
tour-kids ranks afters (n ∷ ns) h =
    let e : n.kids ≡ arity ranks n.label = h 0 n (omega arith) in
    ap (λ k. stop n 0 ∷ (once_closed k (get_or afters 0 []) ++ tour kids_of (opened_kids n 1 k (get_or afters 0 []) ++ drop 1 afters) ns)) e
    ∙ ap (λ ms. stop n 0 ∷ (once_closed (arity ranks n.label) (get_or afters 0 []) ++ ms)) (tour-kids ranks (entered (λ m. arity ranks m.label) n afters) ns (λ k d l. h (suc k) d (omega arith)))

-- the tour of a rule's body is that with keys, without them
pub body_tour-nodes : (G : List KeyedRule) (r : ℕ) → HasArities (ranks_of (rules_of G)) (nodes_at G r) → body_tour (rules_of G) r ≡ stops_map (λ n. n.label) (node_tour G r)
body_tour-nodes G r h =
    ap (tour (arity (ranks_of (rules_of G))) ([] ∷ [])) (body_at-rules_of G r)
    ∙ sym (tour-map (λ (n : Node). n.label) (arity (ranks_of (rules_of G))) ([] ∷ []) (nodes_at G r))
    ∙ ap (stops_map (λ n. n.label)) (sym (tour-kids (ranks_of (rules_of G)) ([] ∷ []) (nodes_at G r) h))

-- what stops with keys stand for
abbrev pub spread_nodes : List Rule → List (Stop Node) → List Label
spread_nodes G ms = spread (piece G) (stops_map (λ n. n.label) ms) []

pub preorder-nodes : (g : Keyed) → IsKeyed g → (r : ℕ) → r < length g.rules → preorder (rules_of g.rules) r ≡ spread_nodes (rules_of g.rules) (node_tour g.rules r)
preorder-nodes g k r h =
    preorder-tour (rules_of g.rules) r k.grammar (omega (arith, length-rules_of g.rules))
    ∙ ap (λ ms. spread (piece (rules_of g.rules)) ms []) (body_tour-nodes g.rules r (k.arities r))

-- a value has its rule's rank of parameters
pub params-preorder : (G : List Rule) (r : ℕ) → IsGrammar G → r < length G → params (preorder G r) ≡ rank_at G r
params-preorder G r g h = omega (arith, params-listed (value_at G r) [], ap length (value_at-linear G r g h), length-holes 0 (rank_at G r))

module _ {X : Type 0} (ar : X → ℕ) where
  abbrev lengths : List (List (Stop X)) → ℕ
  lengths [] = 0
  lengths (a ∷ afters) = length a + lengths afters

  lengths-append : (xs ys : List (List (Stop X))) → lengths (xs ++ ys) ≡ lengths xs + lengths ys
  lengths-append [] ys = omega arith
  lengths-append (x ∷ xs) ys = omega (arith, lengths-append xs ys)

  lengths-opened_kids : (x : X) (i n : ℕ) (a : List (Stop X)) → lengths (opened_kids x i n a) + length (once_closed n a) ≡ n + length a
  lengths-opened_kids x i zero a = omega arith
  lengths-opened_kids x i (suc zero) a = omega arith
  lengths-opened_kids x i (suc (suc n)) a = omega (arith, lengths-opened_kids x (suc i) (suc n) a)

  length-opened_kids : (x : X) (i n : ℕ) (a : List (Stop X)) → length (opened_kids x i n a) ≡ n
  length-opened_kids x i zero a = refl
  length-opened_kids x i (suc zero) a = refl
  length-opened_kids x i (suc (suc n)) a = ap suc (length-opened_kids x (suc i) (suc n) a)

  length-tours : (n : ℕ) (xs : List X) (afters : List (List (Stop X))) → AreTerms ar n xs → length afters ≡ n → length (tour ar afters xs) + n ≡ 2 * length xs + lengths afters
  length-tours zero [] [] t e = refl
  length-tours zero [] (a ∷ afters) t e = absurd (omega arith)
  length-tours zero (x ∷ xs) afters t e = absurd t
  length-tours (suc n) [] afters t e = absurd t
  length-tours (suc n) (x ∷ xs) [] t e = absurd (omega arith)
  length-tours (suc n) (x ∷ xs) (a ∷ afters) t e =
      let k : ℕ = ar x in
      let rest = opened_kids x 1 k a ++ afters in
      let o = length-opened_kids x 1 k a in
      let ih = length-tours (k + n) xs rest t (omega (arith, length-append (opened_kids x 1 k a) afters, o)) in
      omega (arith, ih, lengths-append (opened_kids x 1 k a) afters, lengths-opened_kids x 1 k a, length-append (once_closed k a) (tour ar rest xs))

  -- a tour has fewer than two stops for each node
  pub length-tour : (xs : List X) → AreTerms ar 1 xs → length (tour ar ([] ∷ []) xs) + 1 ≡ 2 * length xs
  length-tour xs t = omega (arith, length-tours 1 xs ([] ∷ []) t refl)

pub length-node_tour : (g : Keyed) → IsKeyed g → (r : ℕ) → r < length g.rules → length (node_tour g.rules r) + 1 ≡ 2 * length (nodes_at g.rules r)
length-node_tour g k r h = length-tour kids_of (nodes_at g.rules r) (nodes-are-term g k r h)

pub params-segment : (i : ℕ) (ls : List Label) → params (segment i ls) ≡ 0
params-segment i [] = refl
params-segment zero (Param ∷ ls) = refl
params-segment (suc i) (Param ∷ ls) = params-segment i ls
params-segment zero (Bottom ∷ ls) = params-segment zero ls
params-segment (suc i) (Bottom ∷ ls) = params-segment (suc i) ls
params-segment zero (Symbol f ∷ ls) = params-segment zero ls
params-segment (suc i) (Symbol f ∷ ls) = params-segment (suc i) ls
params-segment zero (Call q ∷ ls) = params-segment zero ls
params-segment (suc i) (Call q ∷ ls) = params-segment (suc i) ls

pub segment-first : (xs ys : List Label) → params xs ≡ 0 → segment 0 (xs ++ ys) ≡ xs ++ segment 0 ys
segment-first [] ys e = refl
segment-first (Param ∷ xs) ys e = absurd (omega arith)
segment-first (Bottom ∷ xs) ys e = ap (λ ls. Bottom ∷ ls) (segment-first xs ys e)
segment-first (Symbol f ∷ xs) ys e = ap (λ ls. Symbol f ∷ ls) (segment-first xs ys e)
segment-first (Call q ∷ xs) ys e = ap (λ ls. Call q ∷ ls) (segment-first xs ys e)

pub segment-others : (i : ℕ) (xs ys : List Label) → params xs ≡ 0 → segment (suc i) (xs ++ ys) ≡ segment (suc i) ys
segment-others i [] ys e = refl
segment-others i (Param ∷ xs) ys e = absurd (omega arith)
segment-others i (Bottom ∷ xs) ys e = segment-others i xs ys e
segment-others i (Symbol f ∷ xs) ys e = segment-others i xs ys e
segment-others i (Call q ∷ xs) ys e = segment-others i xs ys e
