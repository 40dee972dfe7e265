-- What bodies mean with other bodies in the places of their parameters, and what holds of terms with arguments in their holes.
use Rattle.std.proofs.Common.{◌≡◌, ℕ, zero, suc, ◌+◌, ◌<◌, List, [], ◌∷◌, ◌++◌, length, get_or, take, drop, map, refl, ap, sym, ◌∙◌, arith, append-nil, zero-add}
use Rattle.std.proofs.Math.Numerals.{one-add}
use Rattle.std.proofs.Math.ListN.{get_or-map}
use Rattle.rule_arena.specs.Preorder.{AreTerms, span, terms, subterm, with_subterm}
use Rattle.rule_arena.proofs.PreorderLemmas.{AreTerms-append, AreTerms-split, AreTerms-with, split_at}
use Rattle.rule_arena.specs.declared.label.Label.{Label}
use Rattle.rule_arena.specs.declared.label.Label.TheVariants.{Bottom, Symbol, Call, Param}
use Rattle.slt_grammar.specs.Bodies.{arity, params, IsTerm}
use Rattle.slt_grammar.specs.Algebras.{Algebra, meanings}
use Rattle.slt_grammar.specs.Editing.{put}
use Rattle.slt_grammar.specs.Terms.{Term, Leaf, Node, Hole, substitute, up, term_algebra}
use Rattle.slt_grammar.proofs.Meanings.{params-append, meanings-append, meanings-whole, only}

-- bodies one after another
abbrev pub joined : List (List Label) → List Label
joined [] = []
joined (a ∷ args) = a ++ joined args

abbrev pub AllTerms : List ℕ → List (List Label) → Type 0
AllTerms ranks [] = Unit {0}
AllTerms ranks (a ∷ args) = IsTerm ranks a × AllTerms ranks args

-- the parameters of a body with arguments are those of the arguments
pub params-put : (ls : List Label) (given : List (List Label)) → length given ≡ params ls → params (put ls given) ≡ params (joined given)
params-put [] [] e = refl
params-put [] (a ∷ given) e = absurd (omega arith)
params-put (Param ∷ ls) [] e = absurd (omega arith)
params-put (Param ∷ ls) (a ∷ given) e =
    let i : length given ≡ params ls = omega arith in
    rw (params-append a (put ls given), params-append a (joined given), params-put ls given i)
params-put (Bottom ∷ ls) given e = params-put ls given e
params-put (Symbol f ∷ ls) given e = params-put ls given e
params-put (Call q ∷ ls) given e = params-put ls given e

module _ (ranks : List ℕ) where
  pub AreTerms-joined : (given : List (List Label)) → AllTerms ranks given → AreTerms (arity ranks) (length given) (joined given)
  AreTerms-joined [] t = tt
  AreTerms-joined (a ∷ given) t = rw one-add at (AreTerms-append (arity ranks) 1 (length given) a (joined given) t.0 (AreTerms-joined given t.1))

  -- a body with terms in the places of its parameters is as many terms as the body
  pub AreTerms-put : (n : ℕ) (ls : List Label) (given : List (List Label)) → AreTerms (arity ranks) n ls → AllTerms ranks given → length given ≡ params ls → AreTerms (arity ranks) n (put ls given)
  AreTerms-put zero [] given t a e = tt
  AreTerms-put zero (l ∷ ls) given t a e = absurd t
  AreTerms-put (suc n) [] given t a e = absurd t
  AreTerms-put (suc n) (Param ∷ ls) [] t a e = absurd (omega arith)
  AreTerms-put (suc n) (Param ∷ ls) (g ∷ given) t a e =
      rw (zero-add n, one-add n) at (AreTerms-append (arity ranks) 1 (0 + n) g (put ls given) a.0 (AreTerms-put (0 + n) ls given t a.1 (omega arith)))
  AreTerms-put (suc n) (Bottom ∷ ls) given t a e = AreTerms-put (0 + n) ls given t a e
  AreTerms-put (suc n) (Symbol f ∷ ls) given t a e = AreTerms-put (2 + n) ls given t a e
  AreTerms-put (suc n) (Call q ∷ ls) given t a e = AreTerms-put (get_or ranks q 0 + n) ls given t a e

  -- the first of some terms are terms
  pub AllTerms-terms : (m n : ℕ) (ls : List Label) → AreTerms (arity ranks) (m + n) ls → AllTerms ranks (terms (arity ranks) m ls)
  AllTerms-terms zero n ls t = tt
  AllTerms-terms (suc m) n ls t =
      let u : AreTerms (arity ranks) (1 + (m + n)) ls = omega_shift m n ls t in
      let s = AreTerms-split (arity ranks) 1 (m + n) ls u in
      (s.0, AllTerms-terms m n (drop (span (arity ranks) 1 ls) ls) s.1)
    where
      omega_shift : (m n : ℕ) (ls : List Label) → AreTerms (arity ranks) (suc m + n) ls → AreTerms (arity ranks) (1 + (m + n)) ls
      omega_shift m n ls t = let e : 1 + (m + n) ≡ suc m + n = omega arith in rw e t

module _ {S : Type 0} (A : Algebra S) (ranks : List ℕ) (fs : List (List S → S)) where
  -- a body with arguments means what the body means over the arguments' meanings
  pub meanings-put : (args : List S) (ls : List Label) (given : List (List Label)) (rest : List S) → AllTerms ranks given → length given ≡ params ls → meanings A ranks fs args (put ls given) rest ≡ meanings A ranks fs (meanings A ranks fs args (joined given) []) ls rest
  meanings-put args [] given rest t e = refl
  meanings-put args (Param ∷ ls) [] rest t e = absurd (omega arith)
  meanings-put args (Param ∷ ls) (a ∷ given) rest t e =
      let i : length given ≡ params ls = omega arith in
      let ih = meanings-put (drop (params a) args) ls given rest t.1 i in
      let W : List S = meanings A ranks fs (drop (params a) args) (joined given) [] in
      let w = meanings-whole A ranks fs 1 args a W t.0 in
      let m = meanings-whole A ranks fs 1 args a (meanings A ranks fs W ls rest) t.0 in
      let o = only A.bottom (meanings A ranks fs args a []) m.1 in
      rw (meanings-append A ranks fs args a (put ls given) rest, ih, meanings-append A ranks fs args a (joined given) [], m.0, w.0, o)
  meanings-put args (Bottom ∷ ls) given rest t e = rw (meanings-put args ls given rest t e)
  meanings-put args (Symbol f ∷ ls) given rest t e = rw (meanings-put args ls given rest t e)
  meanings-put args (Call q ∷ ls) given rest t e = rw (meanings-put args ls given rest t e)

pub put-none : (ls : List Label) → params ls ≡ 0 → put ls [] ≡ ls
put-none [] e = refl
put-none (Param ∷ ls) e = absurd (omega arith)
put-none (Bottom ∷ ls) e = ap (λ ms. Bottom ∷ ms) (put-none ls e)
put-none (Symbol f ∷ ls) e = ap (λ ms. Symbol f ∷ ms) (put-none ls e)
put-none (Call q ∷ ls) e = ap (λ ms. Call q ∷ ms) (put-none ls e)

-- a body without parameters is its context with the subterm in the one parameter's place
pub put-cut : (front back sub : List Label) → params front ≡ 0 → params back ≡ 0 → put (front ++ (Param ∷ back)) (sub ∷ []) ≡ front ++ (sub ++ back)
put-cut [] back sub a b = rw (put-none back b) refl
put-cut (Param ∷ front) back sub a b = absurd (omega arith)
put-cut (Bottom ∷ front) back sub a b = ap (λ ls. Bottom ∷ ls) (put-cut front back sub a b)
put-cut (Symbol f ∷ front) back sub a b = ap (λ ls. Symbol f ∷ ls) (put-cut front back sub a b)
put-cut (Call q ∷ front) back sub a b = ap (λ ls. Call q ∷ ls) (put-cut front back sub a b)

module _ {S : Type 0} (A : Algebra S) (ranks : List ℕ) (fs : List (List S → S)) where
  -- a body means what its context means over the subterm's meaning
  pub meanings-cut : (front back sub : List Label) → AreTerms (arity ranks) 1 sub → params front ≡ 0 → params back ≡ 0
      → meanings A ranks fs [] (front ++ (sub ++ back)) [] ≡ meanings A ranks fs (meanings A ranks fs [] sub []) (front ++ (Param ∷ back)) []
  meanings-cut front back sub t a b =
      let n : 1 ≡ params (front ++ (Param ∷ back)) = omega (arith, params-append front (Param ∷ back)) in
      rw (← put-cut front back sub a b) (meanings-put A ranks fs [] (front ++ (Param ∷ back)) (sub ∷ []) [] (t, tt) n ∙ ap (λ ls. meanings A ranks fs (meanings A ranks fs [] ls []) (front ++ (Param ∷ back)) []) (append-nil sub))

  -- the same of a body with arguments: what stands before, in and behind the subterm takes its own arguments
  pub meanings-at : (args : List S) (front sub back : List Label) (rest : List S) → AreTerms (arity ranks) 1 sub
      → meanings A ranks fs args (front ++ (sub ++ back)) rest
      ≡ meanings A ranks fs args front (get_or (meanings A ranks fs (drop (params front) args) sub []) 0 A.bottom ∷ meanings A ranks fs (drop (params sub) (drop (params front) args)) back rest)
  meanings-at args front sub back rest t =
      let here : List S = drop (params front) args in
      let M : List S = meanings A ranks fs (drop (params sub) here) back rest in
      let w = meanings-whole A ranks fs 1 here sub M t in
      let o = only A.bottom (meanings A ranks fs here sub []) w.1 in
      rw (meanings-append A ranks fs args front (sub ++ back) rest, meanings-append A ranks fs here sub back rest)
      (ap (meanings A ranks fs args front) (w.0 ∙ ap (λ ms. ms ++ M) o))

  -- another term of the same meaning, with as many parameters, changes no meaning
  pub meanings-with_subterm : (args : List S) (ls : List Label) (place : ℕ) (sub : List Label) (rest : List S) → AreTerms (arity ranks) 1 ls → place < length ls → AreTerms (arity ranks) 1 sub
      → params sub ≡ params (subterm (arity ranks) ls place)
      → ((vs : List S) → get_or (meanings A ranks fs vs sub []) 0 A.bottom ≡ get_or (meanings A ranks fs vs (subterm (arity ranks) ls place) []) 0 A.bottom)
      → meanings A ranks fs args (with_subterm (arity ranks) ls place sub) rest ≡ meanings A ranks fs args ls rest
  meanings-with_subterm args ls place sub rest t h s p e =
      let ar = arity ranks in
      let old : List Label = subterm ar ls place in
      let front : List Label = take place ls in
      let back : List Label = drop (span ar 1 (drop place ls)) (drop place ls) in
      let here : List S = drop (params front) args in
      let o = (AreTerms-with ar 1 ls place sub t h s).0 in
      meanings-at args front sub back rest s
      ∙ rw (e here, p) (sym (meanings-at args front old back rest o))
      ∙ ap (λ ms. meanings A ranks fs args ms rest) (split_at ar ls place)

-- terms with arguments in their holes
pub substitute-up : (t : Term) (args : List Term) → substitute t args ≡ up term_algebra t args
substitute-up Leaf args = refl
substitute-up (Node f a b) args = rw (substitute-up a args, substitute-up b args)
substitute-up (Hole i) args = refl

pub substitute-substitute : (t : Term) (args more : List Term) → substitute (substitute t args) more ≡ substitute t (map (λ a. substitute a more) args)
substitute-substitute Leaf args more = refl
substitute-substitute (Node f a b) args more = rw (substitute-substitute a args more, substitute-substitute b args more)
substitute-substitute (Hole i) args more = sym (get_or-map (λ a. substitute a more) args i Leaf)

pub up-substitute : {S : Type 0} (A : Algebra S) (t : Term) (args : List Term) (states : List S) → up A (substitute t args) states ≡ up A t (map (λ a. up A a states) args)
up-substitute A Leaf args states = refl
up-substitute A (Node f a b) args states = rw (up-substitute A a args states, up-substitute A b args states)
up-substitute A (Hole i) args states = sym (get_or-map (λ a. up A a states) args i Leaf)
