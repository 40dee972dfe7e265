-- Weights of labels whose parameters weigh what their arguments do.
use Rattle.std.proofs.Common.{◌≡◌, ℕ, zero, suc, ◌+◌, ◌<◌, ◌≤◌, List, [], ◌∷◌, ◌++◌, length, get_or, drop, take, refl, ap, sym, ◌∙◌, arith, sum_by, subst}
use Rattle.std.specs.Prelude.{sum}
use Rattle.std.proofs.lemmas.List.Sums.{sum_by-cons, sum_by-append}
use Rattle.rule_arena.specs.Preorder.{AreTerms}
use Rattle.rule_arena.specs.declared.label.Label.{Label}
use Rattle.rule_arena.specs.declared.label.Label.TheVariants.{Bottom, Symbol, Call, Param}
use Rattle.slt_grammar.specs.Bodies.{arity, params}
use Rattle.slt_grammar.specs.Editing.{put}
use Rattle.slt_grammar.specs.Segments.{listed, segment}
use Rattle.slt_grammar.specs.Terms.{Term, Leaf, Node, Hole}
use Rattle.slt_grammar.proofs.Meanings.{drop-one}
use Rattle.slt_grammar.proofs.Spreads.{IsPlain}
use Rattle.segment_counts.specs.Weights.{node_weight, segments_sum}
use Rattle.segment_counts.proofs.Numbers.{segments_sum-param, segment-now, segment-later, segments_sum-later}
use Rattle.preorder_address.specs.Sites.{laden, weight_before, terms_weight, weight_below}

-- a symbol stands before two terms, and each other label is a term
abbrev pub label_arity : Label → ℕ
label_arity l = arity [] l

-- each of these is one term
abbrev pub AllTerms : List (List Label) → Type 0
AllTerms [] = Unit {0}
AllTerms (c ∷ cs) = AreTerms label_arity 1 c × AllTerms cs

-- how many nodes each of these has
abbrev pub sizes : List (List Label) → List ℕ
sizes [] = []
sizes (c ∷ cs) = sum_by node_weight c ∷ sizes cs

module _ (w : Label → ℕ) where
  -- what each of these weighs, where their parameters take the arguments one after another
  abbrev pub portions : List ℕ → List (List Label) → List ℕ
  portions args [] = []
  portions args (c ∷ cs) = laden w args c ∷ portions (drop (params c) args) cs

  pub laden-append : (args : List ℕ) (xs ys : List Label) → laden w args (xs ++ ys) ≡ laden w args xs + laden w (drop (params xs) args) ys
  laden-append args [] ys = omega arith
  laden-append args (Param ∷ xs) ys = omega (arith, laden-append (drop 1 args) xs ys, ap (λ us. laden w us ys) (drop-one (params xs) args))
  laden-append args (Bottom ∷ xs) ys = omega (arith, laden-append args xs ys)
  laden-append args (Symbol f ∷ xs) ys = omega (arith, laden-append args xs ys)
  laden-append args (Call q ∷ xs) ys = omega (arith, laden-append args xs ys)

  pub before-append : (args : List ℕ) (xs ys : List Label) (i n : ℕ) → i ≡ sum_by node_weight xs + n → weight_before w args (xs ++ ys) i ≡ laden w args xs + weight_before w (drop (params xs) args) ys n
  before-append args [] ys i n e = let z : i ≡ n = omega arith in omega (arith, ap (weight_before w args ys) z)
  before-append args (Param ∷ xs) ys i n e =
      omega (arith, before-append (drop 1 args) xs ys i n (omega (arith, e, sum_by-cons node_weight Param xs)), ap (λ us. weight_before w us ys n) (drop-one (params xs) args))
  before-append args (Bottom ∷ xs) ys i n e = omega (arith, before-append args xs ys i n (omega (arith, e, sum_by-cons node_weight Bottom xs)))
  before-append args (Symbol f ∷ xs) ys zero n e = absurd (omega (arith, e, sum_by-cons node_weight (Symbol f) xs))
  before-append args (Symbol f ∷ xs) ys (suc i) n e = omega (arith, before-append args xs ys i n (omega (arith, e, sum_by-cons node_weight (Symbol f) xs)))
  before-append args (Call q ∷ xs) ys i n e = omega (arith, before-append args xs ys i n (omega (arith, e, sum_by-cons node_weight (Call q) xs)))

  pub below-append : (args : List ℕ) (xs ys : List Label) (i n : ℕ) → i ≡ sum_by node_weight xs + n → weight_below w args (xs ++ ys) i ≡ weight_below w (drop (params xs) args) ys n
  below-append args [] ys i n e = let z : i ≡ n = omega arith in ap (weight_below w args ys) z
  below-append args (Param ∷ xs) ys i n e = below-append (drop 1 args) xs ys i n (omega (arith, e, sum_by-cons node_weight Param xs)) ∙ ap (λ us. weight_below w us ys n) (drop-one (params xs) args)
  below-append args (Bottom ∷ xs) ys i n e = below-append args xs ys i n (omega (arith, e, sum_by-cons node_weight Bottom xs))
  below-append args (Symbol f ∷ xs) ys zero n e = absurd (omega (arith, e, sum_by-cons node_weight (Symbol f) xs))
  below-append args (Symbol f ∷ xs) ys (suc i) n e = below-append args xs ys i n (omega (arith, e, sum_by-cons node_weight (Symbol f) xs))
  below-append args (Call q ∷ xs) ys i n e = below-append args xs ys i n (omega (arith, e, sum_by-cons node_weight (Call q) xs))

  -- what whole terms weigh before other labels
  pub terms-append : (m n j : ℕ) (args : List ℕ) (c k : List Label) → AreTerms label_arity m c → j ≡ m + n → terms_weight w args j (c ++ k) ≡ laden w args c + terms_weight w (drop (params c) args) n k
  terms-append zero n j args [] k t e = let z : j ≡ n = omega arith in omega (arith, ap (λ i. terms_weight w args i k) z)
  terms-append zero n j args (l ∷ c) k t e = absurd t
  terms-append (suc m) n j args [] k t e = absurd t
  terms-append (suc m) n zero args (l ∷ c) k t e = absurd (omega arith)
  terms-append (suc m) n (suc j) args (Param ∷ c) k t e = omega (arith, terms-append (0 + m) n j (drop 1 args) c k t (omega arith), ap (λ us. terms_weight w us n k) (drop-one (params c) args))
  terms-append (suc m) n (suc j) args (Bottom ∷ c) k t e = omega (arith, terms-append (0 + m) n j args c k t (omega arith))
  terms-append (suc m) n (suc j) args (Symbol f ∷ c) k t e = omega (arith, terms-append (2 + m) n (suc (suc j)) args c k t (omega arith))
  terms-append (suc m) n (suc j) args (Call q ∷ c) k t e = omega (arith, terms-append (0 + m) n j args c k t (omega arith))

  -- labels with terms in the places of their parameters weigh what they do where the parameters weigh the terms
  pub laden-put : (args : List ℕ) (T : List Label) (cs : List (List Label)) → params T ≡ length cs → laden w args (put T cs) ≡ laden w (portions args cs) T
  laden-put args [] cs e = refl
  laden-put args (Param ∷ T) [] e = absurd (omega arith)
  laden-put args (Param ∷ T) (c ∷ cs) e = omega (arith, laden-append args c (put T cs), laden-put (drop (params c) args) T cs (omega arith))
  laden-put args (Bottom ∷ T) cs e = omega (arith, laden-put args T cs e)
  laden-put args (Symbol f ∷ T) cs e = omega (arith, laden-put args T cs e)
  laden-put args (Call q ∷ T) cs e = omega (arith, laden-put args T cs e)

  pub before-put : (args : List ℕ) (T : List Label) (cs : List (List Label)) (i n : ℕ) → params T ≡ length cs → i ≡ weight_before node_weight (sizes cs) T n → n < sum_by node_weight T → weight_before w args (put T cs) i ≡ weight_before w (portions args cs) T n
  before-put args [] cs i n e d h = absurd (omega arith)
  before-put args (Param ∷ T) [] i n e d h = absurd (omega arith)
  before-put args (Param ∷ T) (c ∷ cs) i n e d h =
      let j : ℕ = weight_before node_weight (sizes cs) T n in
      omega (arith, before-append args c (put T cs) i j d, before-put (drop (params c) args) T cs j n (omega arith) refl (omega (arith, h, sum_by-cons node_weight Param T)))
  before-put args (Bottom ∷ T) cs i n e d h = omega (arith, before-put args T cs i n e (omega arith) (omega (arith, h, sum_by-cons node_weight Bottom T)))
  before-put args (Symbol f ∷ T) cs zero zero e d h = refl
  before-put args (Symbol f ∷ T) cs (suc i) zero e d h = absurd (omega arith)
  before-put args (Symbol f ∷ T) cs zero (suc n) e d h = absurd (omega arith)
  before-put args (Symbol f ∷ T) cs (suc i) (suc n) e d h = omega (arith, before-put args T cs i n e (omega arith) (omega (arith, h, sum_by-cons node_weight (Symbol f) T)))
  before-put args (Call q ∷ T) cs i n e d h = omega (arith, before-put args T cs i n e (omega arith) (omega (arith, h, sum_by-cons node_weight (Call q) T)))

  terms-put : (m n : ℕ) (args : List ℕ) (T : List Label) (cs : List (List Label)) → params T ≡ length cs → AllTerms cs → AreTerms label_arity m T → n ≤ m → terms_weight w args n (put T cs) ≡ terms_weight w (portions args cs) n T
  terms-put m zero args T cs e a t h = refl
  terms-put zero (suc n) args T cs e a t h = absurd (omega arith)
  terms-put (suc m) (suc n) args [] cs e a t h = absurd t
  terms-put (suc m) (suc n) args (Param ∷ T) [] e a t h = absurd (omega arith)
  terms-put (suc m) (suc n) args (Param ∷ T) (c ∷ cs) e a t h =
      omega (arith, terms-append 1 n (suc n) args c (put T cs) a.0 (omega arith), terms-put (0 + m) n (drop (params c) args) T cs (omega arith) a.1 t (omega arith))
  terms-put (suc m) (suc n) args (Bottom ∷ T) cs e a t h = omega (arith, terms-put (0 + m) n args T cs e a t (omega arith))
  terms-put (suc m) (suc n) args (Symbol f ∷ T) cs e a t h = omega (arith, terms-put (2 + m) (suc (suc n)) args T cs e a t (omega arith))
  terms-put (suc m) (suc n) args (Call q ∷ T) cs e a t h = omega (arith, terms-put (0 + m) n args T cs e a t (omega arith))

  pub below-put : (m : ℕ) (args : List ℕ) (T : List Label) (cs : List (List Label)) (i n : ℕ) → params T ≡ length cs → AllTerms cs → AreTerms label_arity m T → i ≡ weight_before node_weight (sizes cs) T n → n < sum_by node_weight T → weight_below w args (put T cs) i ≡ weight_below w (portions args cs) T n
  below-put m args [] cs i n e a t d h = absurd (omega arith)
  below-put zero args (l ∷ T) cs i n e a t d h = absurd t
  below-put (suc m) args (Param ∷ T) [] i n e a t d h = absurd (omega arith)
  below-put (suc m) args (Param ∷ T) (c ∷ cs) i n e a t d h =
      let j : ℕ = weight_before node_weight (sizes cs) T n in
      below-append args c (put T cs) i j d ∙ below-put (0 + m) (drop (params c) args) T cs j n (omega arith) a.1 t refl (omega (arith, h, sum_by-cons node_weight Param T))
  below-put (suc m) args (Bottom ∷ T) cs i n e a t d h = below-put (0 + m) args T cs i n e a t (omega arith) (omega (arith, h, sum_by-cons node_weight Bottom T))
  below-put (suc m) args (Symbol f ∷ T) cs zero zero e a t d h = terms-put (2 + m) 1 args T cs e a t (omega arith)
  below-put (suc m) args (Symbol f ∷ T) cs (suc i) zero e a t d h = absurd (omega arith)
  below-put (suc m) args (Symbol f ∷ T) cs zero (suc n) e a t d h = absurd (omega arith)
  below-put (suc m) args (Symbol f ∷ T) cs (suc i) (suc n) e a t d h = below-put (2 + m) args T cs i n e a t (omega arith) (omega (arith, h, sum_by-cons node_weight (Symbol f) T))
  below-put (suc m) args (Call q ∷ T) cs i n e a t d h = below-put (0 + m) args T cs i n e a t (omega arith) (omega (arith, h, sum_by-cons node_weight (Call q) T))

  -- what labels weigh is what they do without their parameters, and the arguments
  pub laden-sum : (zero_param : w Param ≡ 0) (args : List ℕ) (T : List Label) → params T ≡ length args → laden w args T ≡ sum_by w T + sum args
  laden-sum z [] [] e = refl
  laden-sum z (a ∷ args) [] e = absurd (omega arith)
  laden-sum z [] (Param ∷ T) e = absurd (omega arith)
  laden-sum z (a ∷ args) (Param ∷ T) e = omega (arith, laden-sum z args T (omega arith), sum_by-cons w Param T, sum_by-cons (λ (x : ℕ). x) a args, z)
  laden-sum z args (Bottom ∷ T) e = omega (arith, laden-sum z args T e, sum_by-cons w Bottom T)
  laden-sum z args (Symbol f ∷ T) e = omega (arith, laden-sum z args T e, sum_by-cons w (Symbol f) T)
  laden-sum z args (Call q ∷ T) e = omega (arith, laden-sum z args T e, sum_by-cons w (Call q) T)

-- labels without parameters weigh what they do alone
pub laden-none : (w : Label → ℕ) (args : List ℕ) (ls : List Label) → params ls ≡ 0 → laden w args ls ≡ sum_by w ls
laden-none w args [] e = refl
laden-none w args (Param ∷ ls) e = absurd (omega arith)
laden-none w args (Bottom ∷ ls) e = omega (arith, laden-none w args ls e, sum_by-cons w Bottom ls)
laden-none w args (Symbol f ∷ ls) e = omega (arith, laden-none w args ls e, sum_by-cons w (Symbol f) ls)
laden-none w args (Call q ∷ ls) e = omega (arith, laden-none w args ls e, sum_by-cons w (Call q) ls)

-- the nodes and the arguments in the first i segments
abbrev pub reach : List Label → List ℕ → ℕ → ℕ
reach T args zero = 0
reach T args (suc i) = reach T args i + sum_by node_weight (segment i T) + get_or args i 0

reach-param : (T : List Label) (args : List ℕ) (i : ℕ) → reach (Param ∷ T) args (suc i) ≡ get_or args 0 0 + reach T (drop 1 args) i
reach-param T args zero = omega arith
reach-param T args (suc i) = omega (arith, reach-param T args i, next args i)
  where
    next : (args : List ℕ) (i : ℕ) → get_or args (suc i) 0 ≡ get_or (drop 1 args) i 0
    next [] i = refl
    next (a ∷ args) i = refl

reach-plain : (l : Label) → IsPlain l → (T : List Label) (args : List ℕ) (i : ℕ) → reach (l ∷ T) args (suc i) ≡ node_weight l + reach T args (suc i)
reach-plain l p T args zero = omega (arith, ap (sum_by node_weight) (segment-now node_weight l p T), sum_by-cons node_weight l (segment 0 T))
reach-plain l p T args (suc i) = omega (arith, reach-plain l p T args i, ap (sum_by node_weight) (segment-later node_weight l p T i))

pub sums-plain : (w : Label → ℕ) (l : Label) → IsPlain l → (T : List Label) (i : ℕ) → segments_sum w (l ∷ T) 0 (suc i) ≡ w l + segments_sum w T 0 (suc i)
sums-plain w l p T i = omega (arith, ap (sum_by w) (segment-now w l p T), sum_by-cons w l (segment 0 T), segments_sum-later w l p T 0 i)

-- all segments together
pub segments-all : (w : Label → ℕ) → w Param ≡ 0 → (T : List Label) → segments_sum w T 0 (suc (params T)) ≡ sum_by w T
segments-all w z [] = refl
segments-all w z (Param ∷ T) = omega (arith, segments_sum-param w T 0 (suc (params T)), segments-all w z T, sum_by-cons w Param T, z)
segments-all w z (Bottom ∷ T) = omega (arith, sums-plain w Bottom tt T (params T), segments-all w z T, sum_by-cons w Bottom T)
segments-all w z (Symbol f ∷ T) = omega (arith, sums-plain w (Symbol f) tt T (params T), segments-all w z T, sum_by-cons w (Symbol f) T)
segments-all w z (Call q ∷ T) = omega (arith, sums-plain w (Call q) tt T (params T), segments-all w z T, sum_by-cons w (Call q) T)

-- the number of a node with the arguments' nodes counted in
pub before-segments : (args : List ℕ) (T : List Label) (i o n : ℕ) → n ≡ segments_sum node_weight T 0 i + o → o < sum_by node_weight (segment i T) → weight_before node_weight args T n ≡ reach T args i + o
before-segments args [] i o n e h = absurd (omega arith)
before-segments args (Param ∷ T) zero o n e h = absurd (omega arith)
before-segments args (Param ∷ T) (suc i) o n e h = omega (arith, before-segments (drop 1 args) T i o n (omega (arith, e, segments_sum-param node_weight T 0 i)) h, reach-param T args i)
before-segments args (Bottom ∷ T) zero o n e h = omega (arith, before-segments args T 0 o n e (omega (arith, h, sum_by-cons node_weight Bottom (segment 0 T))))
before-segments args (Bottom ∷ T) (suc i) o n e h = omega (arith, before-segments args T (suc i) o n (omega (arith, e, sums-plain node_weight Bottom tt T i)) h, reach-plain Bottom tt T args i)
before-segments args (Call q ∷ T) zero o n e h = omega (arith, before-segments args T 0 o n e (omega (arith, h, sum_by-cons node_weight (Call q) (segment 0 T))))
before-segments args (Call q ∷ T) (suc i) o n e h = omega (arith, before-segments args T (suc i) o n (omega (arith, e, sums-plain node_weight (Call q) tt T i)) h, reach-plain (Call q) tt T args i)
before-segments args (Symbol f ∷ T) zero o zero e h = omega arith
before-segments args (Symbol f ∷ T) zero o (suc n) e h = omega (arith, before-segments args T 0 n n (omega arith) (omega (arith, h, e, sum_by-cons node_weight (Symbol f) (segment 0 T))))
before-segments args (Symbol f ∷ T) (suc i) o zero e h = absurd (omega (arith, e, sums-plain node_weight (Symbol f) tt T i))
before-segments args (Symbol f ∷ T) (suc i) o (suc n) e h = omega (arith, before-segments args T (suc i) o n (omega (arith, e, sums-plain node_weight (Symbol f) tt T i)) h, reach-plain (Symbol f) tt T args i)

-- what is listed of a term is one term
pub listed-term : (n : ℕ) (t : Term) (k : List Label) → AreTerms label_arity n k → AreTerms label_arity (suc n) (listed t k)
listed-term n Leaf k a = let z : n ≡ 0 + n = omega arith in subst (λ (j : ℕ). AreTerms label_arity j k) z a
listed-term n (Hole i) k a = let z : n ≡ 0 + n = omega arith in subst (λ (j : ℕ). AreTerms label_arity j k) z a
listed-term n (Node f a b) k t =
    let z : suc (suc n) ≡ 2 + n = omega arith in
    subst (λ (j : ℕ). AreTerms label_arity j (listed a (listed b k))) z (listed-term (suc n) a (listed b k) (listed-term n b k t))

-- arguments that weigh the same
abbrev pub Alike : List ℕ → List ℕ → Type 0
Alike a b = (j : ℕ) → get_or a j 0 ≡ get_or b j 0

pub alike-behind : (a b : List ℕ) → Alike a b → Alike (drop 1 a) (drop 1 b)
alike-behind a b e j = behind a j ∙ e (suc j) ∙ sym (behind b j)
  where
    behind : (a : List ℕ) (j : ℕ) → get_or (drop 1 a) j 0 ≡ get_or a (suc j) 0
    behind [] j = refl
    behind (x ∷ a) j = refl

module _ (w : Label → ℕ) where
  pub laden-alike : (a b : List ℕ) → Alike a b → (ls : List Label) → laden w a ls ≡ laden w b ls
  laden-alike a b e [] = refl
  laden-alike a b e (Param ∷ ls) = omega (arith, e 0, laden-alike (drop 1 a) (drop 1 b) (alike-behind a b e) ls)
  laden-alike a b e (Bottom ∷ ls) = omega (arith, laden-alike a b e ls)
  laden-alike a b e (Symbol f ∷ ls) = omega (arith, laden-alike a b e ls)
  laden-alike a b e (Call q ∷ ls) = omega (arith, laden-alike a b e ls)

  pub before-alike : (a b : List ℕ) → Alike a b → (ls : List Label) (n : ℕ) → weight_before w a ls n ≡ weight_before w b ls n
  before-alike a b e [] n = refl
  before-alike a b e (Param ∷ ls) n = omega (arith, e 0, before-alike (drop 1 a) (drop 1 b) (alike-behind a b e) ls n)
  before-alike a b e (Bottom ∷ ls) n = omega (arith, before-alike a b e ls n)
  before-alike a b e (Symbol f ∷ ls) zero = refl
  before-alike a b e (Symbol f ∷ ls) (suc n) = omega (arith, before-alike a b e ls n)
  before-alike a b e (Call q ∷ ls) n = omega (arith, before-alike a b e ls n)

  terms-alike : (a b : List ℕ) → Alike a b → (n : ℕ) (ls : List Label) → terms_weight w a n ls ≡ terms_weight w b n ls
  terms-alike a b e zero ls = refl
  terms-alike a b e (suc n) [] = refl
  terms-alike a b e (suc n) (Param ∷ ls) = omega (arith, e 0, terms-alike (drop 1 a) (drop 1 b) (alike-behind a b e) n ls)
  terms-alike a b e (suc n) (Bottom ∷ ls) = omega (arith, terms-alike a b e n ls)
  terms-alike a b e (suc n) (Symbol f ∷ ls) = omega (arith, terms-alike a b e (suc (suc n)) ls)
  terms-alike a b e (suc n) (Call q ∷ ls) = omega (arith, terms-alike a b e n ls)

  pub below-alike : (a b : List ℕ) → Alike a b → (ls : List Label) (n : ℕ) → weight_below w a ls n ≡ weight_below w b ls n
  below-alike a b e [] n = refl
  below-alike a b e (Param ∷ ls) n = below-alike (drop 1 a) (drop 1 b) (alike-behind a b e) ls n
  below-alike a b e (Bottom ∷ ls) n = below-alike a b e ls n
  below-alike a b e (Symbol f ∷ ls) zero = terms-alike a b e 1 ls
  below-alike a b e (Symbol f ∷ ls) (suc n) = below-alike a b e ls n
  below-alike a b e (Call q ∷ ls) n = below-alike a b e ls n

  -- what stands behind a node's labels tells nothing of it
  pub before-front : (a : List ℕ) (xs ys : List Label) (n : ℕ) → n < sum_by node_weight xs → weight_before w a (xs ++ ys) n ≡ weight_before w a xs n
  before-front a [] ys n h = absurd (omega arith)
  before-front a (Param ∷ xs) ys n h = omega (arith, before-front (drop 1 a) xs ys n (omega (arith, h, sum_by-cons node_weight Param xs)))
  before-front a (Bottom ∷ xs) ys n h = omega (arith, before-front a xs ys n (omega (arith, h, sum_by-cons node_weight Bottom xs)))
  before-front a (Symbol f ∷ xs) ys zero h = refl
  before-front a (Symbol f ∷ xs) ys (suc n) h = omega (arith, before-front a xs ys n (omega (arith, h, sum_by-cons node_weight (Symbol f) xs)))
  before-front a (Call q ∷ xs) ys n h = omega (arith, before-front a xs ys n (omega (arith, h, sum_by-cons node_weight (Call q) xs)))

  terms-front : (m n : ℕ) (a : List ℕ) (xs ys : List Label) → AreTerms label_arity m xs → n ≤ m → terms_weight w a n (xs ++ ys) ≡ terms_weight w a n xs
  terms-front m zero a xs ys t h = refl
  terms-front zero (suc n) a xs ys t h = absurd (omega arith)
  terms-front (suc m) (suc n) a [] ys t h = absurd t
  terms-front (suc m) (suc n) a (Param ∷ xs) ys t h = omega (arith, terms-front (0 + m) n (drop 1 a) xs ys t (omega arith))
  terms-front (suc m) (suc n) a (Bottom ∷ xs) ys t h = omega (arith, terms-front (0 + m) n a xs ys t (omega arith))
  terms-front (suc m) (suc n) a (Symbol f ∷ xs) ys t h = omega (arith, terms-front (2 + m) (suc (suc n)) a xs ys t (omega arith))
  terms-front (suc m) (suc n) a (Call q ∷ xs) ys t h = omega (arith, terms-front (0 + m) n a xs ys t (omega arith))

  pub below-front : (m : ℕ) (a : List ℕ) (xs ys : List Label) (n : ℕ) → AreTerms label_arity m xs → n < sum_by node_weight xs → weight_below w a (xs ++ ys) n ≡ weight_below w a xs n
  below-front m a [] ys n t h = absurd (omega arith)
  below-front zero a (l ∷ xs) ys n t h = absurd t
  below-front (suc m) a (Param ∷ xs) ys n t h = below-front (0 + m) (drop 1 a) xs ys n t (omega (arith, h, sum_by-cons node_weight Param xs))
  below-front (suc m) a (Bottom ∷ xs) ys n t h = below-front (0 + m) a xs ys n t (omega (arith, h, sum_by-cons node_weight Bottom xs))
  below-front (suc m) a (Symbol f ∷ xs) ys zero t h = terms-front (2 + m) 1 a xs ys t (omega arith)
  below-front (suc m) a (Symbol f ∷ xs) ys (suc n) t h = below-front (2 + m) a xs ys n t (omega (arith, h, sum_by-cons node_weight (Symbol f) xs))
  below-front (suc m) a (Call q ∷ xs) ys n t h = below-front (0 + m) a xs ys n t (omega (arith, h, sum_by-cons node_weight (Call q) xs))

pub nodes-put : (T : List Label) (cs : List (List Label)) → params T ≡ length cs → sum_by node_weight (put T cs) ≡ laden node_weight (sizes cs) T
nodes-put [] cs e = refl
nodes-put (Param ∷ T) [] e = absurd (omega arith)
nodes-put (Param ∷ T) (c ∷ cs) e = omega (arith, nodes-put T cs (omega arith), sum_by-append node_weight c (put T cs))
nodes-put (Bottom ∷ T) cs e = omega (arith, nodes-put T cs e, sum_by-cons node_weight Bottom (put T cs))
nodes-put (Symbol f ∷ T) cs e = omega (arith, nodes-put T cs e, sum_by-cons node_weight (Symbol f) (put T cs))
nodes-put (Call q ∷ T) cs e = omega (arith, nodes-put T cs e, sum_by-cons node_weight (Call q) (put T cs))

pub before-less : (a : List ℕ) (T : List Label) (n : ℕ) → n < sum_by node_weight T → weight_before node_weight a T n < laden node_weight a T
before-less a [] n h = absurd (omega arith)
before-less a (Param ∷ T) n h = omega (arith, before-less (drop 1 a) T n (omega (arith, h, sum_by-cons node_weight Param T)))
before-less a (Bottom ∷ T) n h = omega (arith, before-less a T n (omega (arith, h, sum_by-cons node_weight Bottom T)))
before-less a (Symbol f ∷ T) zero h = omega arith
before-less a (Symbol f ∷ T) (suc n) h = omega (arith, before-less a T n (omega (arith, h, sum_by-cons node_weight (Symbol f) T)))
before-less a (Call q ∷ T) n h = omega (arith, before-less a T n (omega (arith, h, sum_by-cons node_weight (Call q) T)))

pub segment-past : (T : List Label) (i : ℕ) → params T < i → segment i T ≡ []
segment-past [] i h = refl
segment-past (Param ∷ T) zero h = absurd (omega arith)
segment-past (Param ∷ T) (suc i) h = segment-past T i (omega arith)
segment-past (Bottom ∷ T) zero h = absurd (omega arith)
segment-past (Bottom ∷ T) (suc i) h = segment-past T (suc i) h
segment-past (Symbol f ∷ T) zero h = absurd (omega arith)
segment-past (Symbol f ∷ T) (suc i) h = segment-past T (suc i) h
segment-past (Call q ∷ T) zero h = absurd (omega arith)
segment-past (Call q ∷ T) (suc i) h = segment-past T (suc i) h

pub get_or-sizes : (k : ℕ) (cs : List (List Label)) (i : ℕ) → i < k → get_or (sizes (take k cs)) i 0 ≡ sum_by node_weight (get_or cs i [])
get_or-sizes zero cs i h = absurd (omega arith)
get_or-sizes (suc k) [] i h = refl
get_or-sizes (suc k) (c ∷ cs) zero h = refl
get_or-sizes (suc k) (c ∷ cs) (suc i) h = get_or-sizes k cs i (omega arith)

-- a term whose first labels are a whole term weighs what these do
pub first-term : (w : Label → ℕ) (a : List ℕ) (c k : List Label) → AreTerms label_arity 1 c → terms_weight w a 1 (c ++ k) ≡ laden w a c
first-term w a c k t = omega (arith, terms-append w 1 0 1 a c k t (omega arith))
