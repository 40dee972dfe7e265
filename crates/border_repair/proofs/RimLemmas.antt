-- What nodes weigh along shared rules.
use Rattle.std.proofs.Common.{◌≡◌, ◌⊎◌, inl, inr, ℕ, zero, suc, ◌+◌, ◌-◌, ◌<◌, ◌≤◌, List, [], ◌∷◌, ◌++◌, Some, None, length, get_or, take, drop, refl, ap, sym, subst, ◌∙◌, arith, length-append, length-take-le}
use Rattle.rule_arena.specs.Preorder.{AreTerms}
use Rattle.rule_arena.specs.declared.label.Label.{Label}
use Rattle.rule_arena.specs.declared.label.Label.TheVariants.{Bottom, Symbol, Call, Param}
use Rattle.slt_grammar.specs.Algebras.{apply, meanings, ranks_of, all_meanings}
use Rattle.slt_grammar.specs.Bodies.{arity, params, CallsBelow}
use Rattle.slt_grammar.proofs.Meanings.{meanings-whole}
use Rattle.slt_grammar.specs.Grammars.{IsGrammar, body_at, rank_at}
use Rattle.slt_grammar.specs.declared.rules.Rule.{Rule}
use Rattle.slt_grammar.proofs.RuleMeanings.{rank_at-ranks_of, memo-at}
use Rattle.slt_grammar.proofs.Carrying.{up-value_at}
use Rattle.std.proofs.lemmas.Bool.{cases_lt}
use Rattle.border_repair.specs.Weighing.{weight, Scale, Above, hung, Weighed, weight_algebra, Rim, under, AreKnown, first_of, root_from, borders_from, arisen, called, rim_of, hung_all, AreRims}

-- a rule's meaning weighs what its rim says, under whatever is above it
pub record IsRim (e : Scale) (n : ℕ) (F : List Weighed → Weighed) (rim : Rim) (w : ℕ) : Type 0 where
  pub many : length rim.borders ≡ n
  pub means : (c : Above) (kids : List Weighed) → length kids ≡ n → hung e c (F kids).root + (F kids).weight ≡ hung e c rim.root + (w + hung_all e (under c rim.borders) kids)

length-under : (c : Above) (bs : List Above) → length (under c bs) ≡ length bs
length-under c [] = refl
length-under c (None ∷ bs) = ap suc (length-under c bs)
length-under c (Some a ∷ bs) = ap suc (length-under c bs)

-- terms, cut in two
pub hung-cut : (e : Scale) (bs cs : List Above) (n : ℕ) (ss : List Weighed) → length bs ≡ n → hung_all e (bs ++ cs) ss ≡ hung_all e bs (take n ss) + hung_all e cs (drop n ss)
hung-cut e [] cs zero ss l = omega arith
hung-cut e [] cs (suc n) ss l = absurd (omega arith)
hung-cut e (b ∷ bs) cs zero ss l = absurd (omega arith)
hung-cut e (b ∷ bs) [] (suc n) [] l = refl
hung-cut e (b ∷ bs) (c ∷ cs) (suc n) [] l = refl
hung-cut e (b ∷ bs) cs (suc n) (s ∷ ss) l = omega (arith, hung-cut e bs cs n ss (omega arith))

-- two at the front
two : (ss : List Weighed) (n : ℕ) → length ss ≡ 2 + n → (a b : Weighed) × (rest : List Weighed) × (ss ≡ a ∷ b ∷ rest)
two [] n l = absurd (omega arith)
two (a ∷ []) n l = absurd (omega arith)
two (a ∷ b ∷ rest) n l = (a, b, rest, refl)

module _ (e : Scale) (ranks : List ℕ) (fs : List (List Weighed → Weighed)) (rims : ℕ → Rim) (ws : ℕ → ℕ) where
  -- the called rules have these rims
  abbrev pub HaveRims : List Label → Type 0
  HaveRims [] = Unit {0}
  HaveRims (Call q ∷ ls) = IsRim e (get_or ranks q 0) (get_or fs q (λ _. (weight_algebra e).bottom)) (rims q) (ws q) × HaveRims ls
  HaveRims (l ∷ ls) = HaveRims ls

  meant : List Weighed → List Label → List Weighed
  meant args ls = meanings (weight_algebra e) ranks fs args ls []

  -- what terms weigh: what arises in them, what the called rules weigh, and what the arguments weigh where they hang
  pub weighs : (n : ℕ) (ls : List Label) (cs : List Above) (args : List Weighed) → AreTerms (arity ranks) n ls → HaveRims ls → length cs ≡ n → params ls ≤ length args
      → hung_all e cs (meanings (weight_algebra e) ranks fs args ls []) ≡ arisen rims e cs ls + (called ws ls + hung_all e (borders_from rims cs ls) args)
  weighs zero [] [] args t r l p = refl
  weighs zero [] (c ∷ cs) args t r l p = absurd (omega arith)
  weighs zero (k ∷ ls) cs args t r l p = absurd t
  weighs (suc n) [] cs args t r l p = absurd t
  weighs (suc n) (k ∷ ls) [] args t r l p = absurd (omega arith)
  weighs (suc n) (Param ∷ ls) (c ∷ cs) [] t r l p = absurd (omega arith)
  weighs (suc n) (Param ∷ ls) (c ∷ cs) (a ∷ args) t r l p = omega (arith, weighs (0 + n) ls cs args t r (omega arith) (omega arith))
  weighs (suc n) (Bottom ∷ ls) (c ∷ cs) args t r l p = omega (arith, weighs (0 + n) ls cs args t r (omega arith) p)
  weighs (suc n) (Symbol f ∷ ls) (c ∷ cs) args t r l p =
      let all = meanings (weight_algebra e) ranks fs args ls [] in
      let ih = weighs (2 + n) ls (Some (f, 1) ∷ Some (f, 2) ∷ cs) args t r (omega arith) p in
      let h = two all n (meanings-whole (weight_algebra e) ranks fs (2 + n) args ls [] t).1 in
      symbol f n c cs all h.0 h.1 h.2 h.3 (arisen rims e (Some (f, 1) ∷ Some (f, 2) ∷ cs) ls) (called ws ls + hung_all e (borders_from rims (Some (f, 1) ∷ Some (f, 2) ∷ cs) ls) args) ih where
        symbol : (f n : ℕ) (c : Above) (cs : List Above) (all : List Weighed) (a b : Weighed) (rest : List Weighed) → all ≡ a ∷ b ∷ rest → (x y : ℕ) → hung_all e (Some (f, 1) ∷ Some (f, 2) ∷ cs) all ≡ x + y
            → hung_all e (c ∷ cs) (apply (weight_algebra e) fs (Symbol f) (take 2 all) ∷ drop 2 all) ≡ (hung e c (Some (Symbol f)) + x) + y
        symbol f n c cs all a b rest q x y ih =
            let ih' : hung_all e (Some (f, 1) ∷ Some (f, 2) ∷ cs) (a ∷ b ∷ rest) ≡ x + y = ap (hung_all e (Some (f, 1) ∷ Some (f, 2) ∷ cs)) (sym q) ∙ ih in
            ap (λ z. hung_all e (c ∷ cs) (apply (weight_algebra e) fs (Symbol f) (take 2 z) ∷ drop 2 z)) q ∙ omega (arith, ih')
  weighs (suc n) (Call q ∷ ls) (c ∷ cs) args t r l p =
      let k = get_or ranks q 0 in
      let all = meanings (weight_algebra e) ranks fs args ls [] in
      let bs = under c (rims q).borders in
      let m : length bs ≡ k = length-under c (rims q).borders ∙ r.0.many in
      let ih = weighs (k + n) ls (bs ++ cs) args t r.1 (omega (arith, length-append bs cs)) p in
      let whole = (meanings-whole (weight_algebra e) ranks fs (k + n) args ls [] t).1 in
      let here = r.0.means c (take k all) (length-take-le k all (omega arith)) in
      omega (arith, ih, hung-cut e bs cs k all m, here)

-- what is above a rule that stands under something
abbrev inside : Above → Above → Above
inside c None = c
inside c (Some a) = Some a

under-append : (c : Above) (xs ys : List Above) → under c (xs ++ ys) ≡ under c xs ++ under c ys
under-append c [] ys = refl
under-append c (None ∷ xs) ys = ap (λ z. c ∷ z) (under-append c xs ys)
under-append c (Some a ∷ xs) ys = ap (λ z. Some a ∷ z) (under-append c xs ys)

under-twice : (c b : Above) (xs : List Above) → under c (under b xs) ≡ under (inside c b) xs
under-twice c b [] = refl
under-twice c None (None ∷ xs) = ap (λ z. c ∷ z) (under-twice c None xs)
under-twice c (Some a) (None ∷ xs) = ap (λ z. Some a ∷ z) (under-twice c (Some a) xs)
under-twice c b (Some a ∷ xs) = ap (λ z. Some a ∷ z) (under-twice c b xs)

pub known-under : (c : Above) (bs : List Above) → AreKnown bs → under c bs ≡ bs
known-under c [] k = refl
known-under c (None ∷ bs) k = absurd k
known-under c (Some a ∷ bs) k = ap (λ z. Some a ∷ z) (known-under c bs k)

under-known : (a : ℕ × ℕ) (xs : List Above) → AreKnown (under (Some a) xs)
under-known a [] = tt
under-known a (None ∷ xs) = under-known a xs
under-known a (Some b ∷ xs) = under-known a xs

known-append : (xs ys : List Above) → AreKnown xs → AreKnown ys → AreKnown (xs ++ ys)
known-append [] ys a b = b
known-append (None ∷ xs) ys a b = absurd a
known-append (Some x ∷ xs) ys a b = known-append xs ys a b

-- a rule has a root under which its parameters hang, or is its parameter
abbrev pub IsWhole : Rim → Type 0
IsWhole r = ((l : Label) × (r.root ≡ Some l) × AreKnown r.borders) ⊎ ((r.root ≡ None) × (r.borders ≡ None ∷ []))

module _ (rims : ℕ → Rim) (limit : ℕ) (each : (q : ℕ) → q < limit → IsWhole (rims q)) where
  -- borders under something are borders, and that
  pub borders-under : (c : Above) (ls : List Label) (bs : List Above) → borders_from rims (under c bs) ls ≡ under c (borders_from rims bs ls)
  borders-under c [] bs = refl
  borders-under c (l ∷ ls) [] = refl
  borders-under c (Bottom ∷ ls) (None ∷ bs) = borders-under c ls bs
  borders-under c (Bottom ∷ ls) (Some a ∷ bs) = borders-under c ls bs
  borders-under c (Symbol f ∷ ls) (None ∷ bs) = borders-under c ls (Some (f, 1) ∷ Some (f, 2) ∷ bs)
  borders-under c (Symbol f ∷ ls) (Some a ∷ bs) = borders-under c ls (Some (f, 1) ∷ Some (f, 2) ∷ bs)
  borders-under c (Call q ∷ ls) (None ∷ bs) =
      ap (λ z. borders_from rims z ls) (ap (λ z. z ++ under c bs) (sym (under-twice c None (rims q).borders)) ∙ sym (under-append c (under None (rims q).borders) bs)) ∙ borders-under c ls (under None (rims q).borders ++ bs)
  borders-under c (Call q ∷ ls) (Some a ∷ bs) =
      ap (λ z. borders_from rims z ls) (ap (λ z. z ++ under c bs) (sym (under-twice c (Some a) (rims q).borders)) ∙ sym (under-append c (under (Some a) (rims q).borders) bs)) ∙ borders-under c ls (under (Some a) (rims q).borders ++ bs)
  borders-under c (Param ∷ ls) (None ∷ bs) = ap (λ z. c ∷ z) (borders-under c ls bs)
  borders-under c (Param ∷ ls) (Some a ∷ bs) = ap (λ z. Some a ∷ z) (borders-under c ls bs)

  hung-none : (e : Scale) (c : Above) → hung e c None ≡ 0
  hung-none e None = refl
  hung-none e (Some (f, i)) = refl

  -- what is above a term adds what its root weighs there
  pub arisen-under : (e : Scale) (c : Above) (ls : List Label) (cs : List Above) → CallsBelow limit ls → arisen rims e (c ∷ cs) ls ≡ hung e c (root_from rims ls) + arisen rims e (None ∷ cs) ls
  arisen-under e c [] cs b = omega (arith, hung-none e c)
  arisen-under e c (Bottom ∷ ls) cs b = omega arith
  arisen-under e c (Symbol f ∷ ls) cs b = omega arith
  arisen-under e c (Param ∷ ls) cs b = omega (arith, hung-none e c)
  arisen-under e c (Call q ∷ ls) cs d = by_kind (each q d.0) (arisen-under e c ls cs d.1) where
    goal : Type 0
    goal = hung e c (rims q).root + arisen rims e (under c (rims q).borders ++ cs) ls ≡ hung e c (first_of (rims q).root (root_from rims ls)) + (0 + arisen rims e (under None (rims q).borders ++ cs) ls)

    by_kind : IsWhole (rims q) → arisen rims e (c ∷ cs) ls ≡ hung e c (root_from rims ls) + arisen rims e (None ∷ cs) ls
        → hung e c (rims q).root + arisen rims e (under c (rims q).borders ++ cs) ls ≡ hung e c (first_of (rims q).root (root_from rims ls)) + (0 + arisen rims e (under None (rims q).borders ++ cs) ls)
    by_kind (inl (l, r, k)) ih =
        let a = known-under c (rims q).borders k in
        let b = known-under None (rims q).borders k in
        rw (r, a, b) (omega arith)
    by_kind (inr (r, b)) ih = rw (r, b) (omega (arith, ih, hung-none e c))

  -- known borders stay known
  borders-known : (ls : List Label) (bs : List Above) → AreKnown bs → AreKnown (borders_from rims bs ls)
  borders-known [] bs k = tt
  borders-known (l ∷ ls) [] k = tt
  borders-known (l ∷ ls) (None ∷ bs) k = absurd k
  borders-known (Bottom ∷ ls) (Some a ∷ bs) k = borders-known ls bs k
  borders-known (Symbol f ∷ ls) (Some a ∷ bs) k = borders-known ls (Some (f, 1) ∷ Some (f, 2) ∷ bs) k
  borders-known (Param ∷ ls) (Some a ∷ bs) k = borders-known ls bs k
  borders-known (Call q ∷ ls) (Some a ∷ bs) k = borders-known ls (under (Some a) (rims q).borders ++ bs) (known-append (under (Some a) (rims q).borders) bs (under-known a (rims q).borders) k)

  pub body-whole : (ranks : List ℕ) (ls : List Label) → AreTerms (arity ranks) 1 ls → ((q : ℕ) → q < limit → length (rims q).borders ≡ get_or ranks q 0) → CallsBelow limit ls
      → ((l : Label) × (root_from rims ls ≡ Some l) × AreKnown (borders_from rims (None ∷ []) ls)) ⊎ ((root_from rims ls ≡ None) × (borders_from rims (None ∷ []) ls ≡ None ∷ []))
  body-whole ranks [] t m d = absurd t
  body-whole ranks (Bottom ∷ ls) t m d = inl (Bottom, refl, borders-known ls [] tt)
  body-whole ranks (Symbol f ∷ ls) t m d = inl (Symbol f, refl, borders-known ls (Some (f, 1) ∷ Some (f, 2) ∷ []) tt)
  body-whole ranks (Param ∷ []) t m d = inr (refl, refl)
  body-whole ranks (Param ∷ l ∷ ls) t m d = absurd t
  body-whole ranks (Call q ∷ ls) t m d = by_kind (each q d.0) (λ one. body-whole ranks ls (subst (λ k. AreTerms (arity ranks) k ls) (ap (λ k. k + 0) one) t) m d.1) where
    by_kind : IsWhole (rims q)
        → (get_or ranks q 0 ≡ 1 → ((l : Label) × (root_from rims ls ≡ Some l) × AreKnown (borders_from rims (None ∷ []) ls)) ⊎ ((root_from rims ls ≡ None) × (borders_from rims (None ∷ []) ls ≡ None ∷ [])))
        → ((l : Label) × (first_of (rims q).root (root_from rims ls) ≡ Some l) × AreKnown (borders_from rims (under None (rims q).borders ++ []) ls))
        ⊎ ((first_of (rims q).root (root_from rims ls) ≡ None) × (borders_from rims (under None (rims q).borders ++ []) ls ≡ None ∷ []))
    by_kind (inl (l, r, k)) ih =
        inl (l, ap (λ z. first_of z (root_from rims ls)) r, subst (λ z. AreKnown (borders_from rims (z ++ []) ls)) (sym (known-under None (rims q).borders k)) (borders-known ls ((rims q).borders ++ []) (known-append (rims q).borders [] k tt)))
    by_kind (inr (r, b)) ih = rw (r, b) (ih (sym (m q d.0) ∙ ap length b))

  pub borders-many : (ranks : List ℕ) (n : ℕ) (ls : List Label) (cs : List Above) → AreTerms (arity ranks) n ls → length cs ≡ n → ((q : ℕ) → q < limit → length (rims q).borders ≡ get_or ranks q 0) → CallsBelow limit ls
      → length (borders_from rims cs ls) ≡ params ls
  borders-many ranks n [] cs t l m d = refl
  borders-many ranks zero (k ∷ ls) cs t l m d = absurd t
  borders-many ranks (suc n) (k ∷ ls) [] t l m d = absurd (omega arith)
  borders-many ranks (suc n) (Bottom ∷ ls) (c ∷ cs) t l m d = borders-many ranks (0 + n) ls cs t (omega arith) m d
  borders-many ranks (suc n) (Symbol f ∷ ls) (c ∷ cs) t l m d = borders-many ranks (2 + n) ls (Some (f, 1) ∷ Some (f, 2) ∷ cs) t (omega arith) m d
  borders-many ranks (suc n) (Param ∷ ls) (c ∷ cs) t l m d = ap suc (borders-many ranks (0 + n) ls cs t (omega arith) m d)
  borders-many ranks (suc n) (Call q ∷ ls) (c ∷ cs) t l m d =
      borders-many ranks (get_or ranks q 0 + n) ls (under c (rims q).borders ++ cs) t (omega (arith, length-append (under c (rims q).borders) cs, length-under c (rims q).borders, m q d.0)) m d.1

pub hung_all-none : (e : Scale) (cs : List Above) → hung_all e cs [] ≡ 0
hung_all-none e [] = refl
hung_all-none e (c ∷ cs) = refl

pub have-rims : (e : Scale) (ranks : List ℕ) (fs : List (List Weighed → Weighed)) (rims : ℕ → Rim) (ws : ℕ → ℕ) (k : ℕ)
    → ((q : ℕ) → q < k → IsRim e (get_or ranks q 0) (get_or fs q (λ _. (weight_algebra e).bottom)) (rims q) (ws q)) → (ls : List Label) → CallsBelow k ls → HaveRims e ranks fs rims ws ls
have-rims e ranks fs rims ws k h [] d = tt
have-rims e ranks fs rims ws k h (Bottom ∷ ls) d = have-rims e ranks fs rims ws k h ls d
have-rims e ranks fs rims ws k h (Symbol f ∷ ls) d = have-rims e ranks fs rims ws k h ls d
have-rims e ranks fs rims ws k h (Param ∷ ls) d = have-rims e ranks fs rims ws k h ls d
have-rims e ranks fs rims ws k h (Call q ∷ ls) d = (h q d.0, have-rims e ranks fs rims ws k h ls d.1)

-- each rule weighs what arises in it, and what the rules that it calls weigh
abbrev pub AreWeights : Scale → List Rule → (ℕ → Rim) → (ℕ → ℕ) → Type 0
AreWeights e G rims ws = (r : ℕ) → r < length G → ws r ≡ arisen rims e (None ∷ []) (body_at G r) + called ws (body_at G r)

-- a rule is whole, and its meaning weighs what its rim and its weight say
pub record Tells (e : Scale) (G : List Rule) (r : ℕ) (rim : Rim) (w : ℕ) : Type 0 where
  pub is : IsRim e (get_or (ranks_of G) r 0) (get_or (all_meanings (weight_algebra e) G) r (λ _. (weight_algebra e).bottom)) rim w
  pub whole : IsWhole rim

-- what one term means hangs as it does alone
pub alone : (e : Scale) (c : Above) (ms : List Weighed) → length ms ≡ 1 → hung e c (get_or ms 0 (weight_algebra e).bottom).root + (get_or ms 0 (weight_algebra e).bottom).weight ≡ hung_all e (c ∷ []) ms
alone e c [] l = absurd (omega arith)
alone e c (m ∷ []) l = omega arith
alone e c (m ∷ k ∷ ms) l = absurd (omega arith)

module _ (e : Scale) (G : List Rule) (g : IsGrammar G) (rims : ℕ → Rim) (ws : ℕ → ℕ) where
  body-means : (k : ℕ) → k < length G → ((q : ℕ) → q < k → Tells e G q (rims q) (ws q)) → (c : Above) (kids : List Weighed) → length kids ≡ get_or (ranks_of G) k 0
      → hung e c (get_or (all_meanings (weight_algebra e) G) k (λ _. (weight_algebra e).bottom) kids).root + (get_or (all_meanings (weight_algebra e) G) k (λ _. (weight_algebra e).bottom) kids).weight
      ≡ hung e c (root_from rims (body_at G k)) + ((arisen rims e (None ∷ []) (body_at G k) + called ws (body_at G k)) + hung_all e (under c (borders_from rims (None ∷ []) (body_at G k))) kids)
  body-means k h before c kids l =
      let A = weight_algebra e in
      let body = body_at G k in
      let ranks = ranks_of G in
      let fs = all_meanings A G in
      let d : CallsBelow k body = (g.each k h).earlier in
      let t : AreTerms (arity ranks) 1 body = (g.each k h).shaped.term in
      let n : params body ≤ length kids = omega (arith, (g.each k h).linear, rank_at-ranks_of G k) in
      let w = λ (q : ℕ) (b : q < k). (before q b).whole in
      let one = (meanings-whole A ranks fs 1 kids body [] t).1 in
      let all = weighs e ranks fs rims ws 1 body (c ∷ []) kids t (have-rims e ranks fs rims ws k (λ q b. (before q b).is) body d) refl n in
      let up = arisen-under rims k w e c body [] d in
      let side = ap (λ bs. hung_all e bs kids) (borders-under rims k w c body (None ∷ [])) in
      ap (λ m. hung e c m.root + m.weight) (memo-at A G g k h kids) ∙ alone e c (meanings A ranks fs kids body []) one ∙ omega (arith, all, up, side)

  next-tells : (k : ℕ) → k < length G → ((q : ℕ) → q < k → Tells e G q (rims q) (ws q)) → Tells e G k (rim_of rims (body_at G k)) (arisen rims e (None ∷ []) (body_at G k) + called ws (body_at G k))
  next-tells k h before =
      let w = λ (q : ℕ) (b : q < k). (before q b).whole in
      let m = λ (q : ℕ) (b : q < k). (before q b).is.many in
      let t : AreTerms (arity (ranks_of G)) 1 (body_at G k) = (g.each k h).shaped.term in
      record {
        is = record {
          many = borders-many rims k w (ranks_of G) 1 (body_at G k) (None ∷ []) t refl m (g.each k h).earlier ∙ (g.each k h).linear ∙ sym (rank_at-ranks_of G k);
          means = body-means k h before;
        };
        whole = body-whole rims k w (ranks_of G) (body_at G k) t m (g.each k h).earlier;
      }

  module _ (are : AreRims G rims) (weigh : AreWeights e G rims ws) where
    pub tell-before : (k : ℕ) → k ≤ length G → (q : ℕ) → q < k → Tells e G q (rims q) (ws q)
    tell-before zero l q b = absurd (omega arith)
    tell-before (suc k) l q b = by_place (cases_lt q k) (tell-before k (omega arith)) where
      by_place : (q < k) ⊎ (k ≤ q) → ((p : ℕ) → p < k → Tells e G p (rims p) (ws p)) → Tells e G q (rims q) (ws q)
      by_place (inl x) ih = ih q x
      by_place (inr x) ih =
          let same : k ≡ q = omega arith in
          let here : Tells e G k (rims k) (ws k) = subst (λ (r : Rim). Tells e G k r (ws k)) (sym (are k (omega arith))) (subst (λ (n : ℕ). Tells e G k (rim_of rims (body_at G k)) n) (sym (weigh k (omega arith))) (next-tells k (omega arith) ih)) in
          subst (λ p. Tells e G p (rims p) (ws p)) same here

    -- the nodes of the value weigh what the start weighs
    pub weight-told : weight e G ≡ ws (length G - 1)
    weight-told =
        let last : length G - 1 < length G = omega (arith, g.some) in
        let told = (tell-before (length G) (omega arith) (length G - 1) last).is in
        let rank : rank_at G (length G - 1) ≡ 0 = (g.each (length G - 1) last).shaped.start (omega arith) in
        ap (λ (m : Weighed). m.weight) (up-value_at (weight_algebra e) G (length G - 1) [] (sym rank))
        ∙ omega (arith, told.means None [] (sym rank ∙ sym (rank_at-ranks_of G (length G - 1))), hung_all-none e (under None (rims (length G - 1)).borders))
