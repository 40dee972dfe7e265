-- What stands before a symbol of a body's value, and bodies in which a call and its rule's body stand for each other.
use Rattle.std.proofs.Common.{◌≡◌, ℕ, suc, ◌+◌, ◌<◌, ◌≤◌, List, [], ◌∷◌, ◌++◌, length, get_or, refl, sym, ap, ◌∙◌, arith, append_assoc}
use Rattle.rule_arena.specs.declared.label.Label.{Label}
use Rattle.rule_arena.specs.declared.label.Label.TheVariants.{Bottom, Symbol, Call, Param}
use Rattle.slt_grammar.specs.Algebras.{meanings, ranks_of, all_meanings}
use Rattle.slt_grammar.specs.Bodies.{arity, params, IsTerm}
use Rattle.slt_grammar.specs.Editing.{put}
use Rattle.slt_grammar.specs.Grammars.{IsGrammar, body_at, rank_at}
use Rattle.slt_grammar.specs.Segments.{piece, spread}
use Rattle.slt_grammar.specs.Terms.{term_algebra, holes}
use Rattle.slt_grammar.specs.Tours.{Stop, stop, once_closed, entered, tour}
use Rattle.slt_grammar.specs.declared.rules.Rule.{Rule}
use Rattle.slt_grammar.proofs.Inlining.{meanings-inline}
use Rattle.slt_grammar.proofs.Meanings.{params-append}
use Rattle.slt_grammar.proofs.RuleMeanings.{memo-at, rank_at-ranks_of}
use Rattle.slt_grammar.proofs.Spreads.{spread-append, spread-tour, strung}
use Rattle.slt_grammar.proofs.Substitutions.{joined, AllTerms, params-put}

-- the tour meets a node behind the tour of those before it
pub tour-meets : {X : Type 0} (ar : X → ℕ) (afters : List (List (Stop X))) (xs : List X) (y : X) (ys : List X) → (rest : List (Stop X)) × (tour ar afters (xs ++ (y ∷ ys)) ≡ tour ar afters xs ++ (stop y 0 ∷ rest))
tour-meets ar afters [] y ys = (once_closed (ar y) (get_or afters 0 []) ++ tour ar (entered ar y afters) ys, refl)
tour-meets ar afters (x ∷ xs) y ys =
    let closed = once_closed (ar x) (get_or afters 0 []) in
    let ih = tour-meets ar (entered ar x afters) xs y ys in
    (ih.0, ap (λ ms. stop x 0 ∷ (closed ++ ms)) ih.1 ∙ ap (λ ms. stop x 0 ∷ ms) (sym (append_assoc closed (tour ar (entered ar x afters) xs) (stop y 0 ∷ ih.0))))

pub spread-onto : {X : Type 0} (f : Stop X → List Label) (ms : List (Stop X)) (k : List Label) → spread f ms k ≡ spread f ms [] ++ k
spread-onto f [] k = refl
spread-onto f (m ∷ ms) k = ap (λ ls. f m ++ ls) (spread-onto f ms k) ∙ sym (append_assoc (f m) (spread f ms []) k)

-- a number above those of the symbols
abbrev pub symbol_sum : List Label → ℕ
symbol_sum [] = 0
symbol_sum (Symbol f ∷ ls) = suc f + symbol_sum ls
symbol_sum (l ∷ ls) = symbol_sum ls

-- two lists are the same up to a symbol that neither has before it
pub same-front : (f : ℕ) (xs ys more others : List Label) → symbol_sum xs ≤ f → symbol_sum ys ≤ f → xs ++ (Symbol f ∷ more) ≡ ys ++ (Symbol f ∷ others) → xs ≡ ys
same-front f [] [] more others h k e = refl
same-front f [] (Symbol g ∷ ys) more others h k e = absurd (let z : f ≡ g = cc in omega (arith, z, k))
same-front f [] (Bottom ∷ ys) more others h k e = absurd (cc)
same-front f [] (Call q ∷ ys) more others h k e = absurd (cc)
same-front f [] (Param ∷ ys) more others h k e = absurd (cc)
same-front f (Symbol g ∷ xs) [] more others h k e = absurd (let z : g ≡ f = cc in omega (arith, z, h))
same-front f (Bottom ∷ xs) [] more others h k e = absurd (cc)
same-front f (Call q ∷ xs) [] more others h k e = absurd (cc)
same-front f (Param ∷ xs) [] more others h k e = absurd (cc)
same-front f (x ∷ xs) (y ∷ ys) more others h k e =
    let a : x ≡ y = cc in
    let t : xs ++ (Symbol f ∷ more) ≡ ys ++ (Symbol f ∷ others) = cc in
    let ih = same-front f xs ys more others (less x xs h) (less y ys k) t in
    cc
  where
    less : (l : Label) (ls : List Label) → symbol_sum (l ∷ ls) ≤ f → symbol_sum ls ≤ f
    less Bottom ls h = h
    less (Symbol g) ls h = omega (arith, h)
    less (Call q) ls h = h
    less Param ls h = h

module _ (G : List Rule) (g : IsGrammar G) where
  -- what the tour of a body's first labels stands for
  abbrev pub before : List Label → List Label
  before ls = spread (piece G) (tour (arity (ranks_of G)) ([] ∷ []) ls) []

  -- the listing of a body's value, up to a symbol
  abbrev listing : List Label → List Label
  listing ls = strung G g (meanings term_algebra (ranks_of G) (all_meanings term_algebra G) (holes 0 (params ls)) ls []) ([] ∷ []) []

  listing-split : (xs : List Label) (f : ℕ) (rest : List Label) → IsTerm (ranks_of G) (xs ++ (Symbol f ∷ rest)) → (more : List Label) × (listing (xs ++ (Symbol f ∷ rest)) ≡ before xs ++ (Symbol f ∷ more))
  listing-split xs f rest t =
      let ar = arity (ranks_of G) in
      let m = tour-meets ar ([] ∷ []) xs (Symbol f) rest in
      let ms = tour ar ([] ∷ []) xs in (
        spread (piece G) m.0 [],
        sym (spread-tour G g 1 0 (xs ++ (Symbol f ∷ rest)) ([] ∷ []) [] t)
            ∙ ap (λ ns. spread (piece G) ns []) m.1
            ∙ spread-append G g ms (stop (Symbol f) 0 ∷ m.0) []
            ∙ spread-onto (piece G) ms (Symbol f ∷ spread (piece G) m.0 []),
      )

  -- where a call and its rule's body stand for each other, a symbol that is rare enough has the same before it in both
  pub same-before : (q : ℕ) (front : List Label) (given : List (List Label)) (back : List Label) → q < length G → AllTerms (ranks_of G) given → length given ≡ rank_at G q
      → (f : ℕ) (xs more ys others : List Label) → front ++ (Call q ∷ (joined given ++ back)) ≡ xs ++ (Symbol f ∷ more) → front ++ (put (body_at G q) given ++ back) ≡ ys ++ (Symbol f ∷ others)
      → IsTerm (ranks_of G) (xs ++ (Symbol f ∷ more)) → IsTerm (ranks_of G) (ys ++ (Symbol f ∷ others))
      → symbol_sum (before xs) ≤ f → symbol_sum (before ys) ≤ f → before xs ≡ before ys
  same-before q front given back h all many f xs more ys others calls bodies s t u v =
      let lq = g.each q h in
      let ranks = ranks_of G in
      let fs = all_meanings term_algebra G in
      let body = body_at G q in
      let k : length given ≡ params body = many ∙ sym lq.linear in
      let one : List Label = front ++ (Call q ∷ (joined given ++ back)) in
      let two : List Label = front ++ (put body given ++ back) in
      let p : params two ≡ params one =
      omega (arith, params-append front (put body given ++ back), params-append (put body given) back, params-put body given k, params-append front (Call q ∷ (joined given ++ back)), params-append (joined given) back) in
      let e : meanings term_algebra ranks fs (holes 0 (params two)) two [] ≡ meanings term_algebra ranks fs (holes 0 (params one)) one [] =
      meanings-inline term_algebra ranks fs (holes 0 (params two)) front q body given back [] lq.shaped.term all k (rank_at-ranks_of G q ∙ sym lq.linear) (λ vs. memo-at term_algebra G g q h vs)
      ∙ ap (λ n. meanings term_algebra ranks fs (holes 0 n) one []) p in
      let l : listing two ≡ listing one = ap (λ ms. strung G g ms ([] ∷ []) []) e in
      let a = listing-split xs f more s in
      let b = listing-split ys f others t in
      same-front f (before xs) (before ys) a.0 b.0 u v
      (sym a.1 ∙ ap listing (sym calls) ∙ sym l ∙ ap listing bodies ∙ b.1)
