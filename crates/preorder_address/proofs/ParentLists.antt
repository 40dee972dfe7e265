-- The parents of what is still to come, over lists of labels.
use Rattle.std.proofs.Common.{◌≡◌, ℕ, zero, suc, ◌+◌, ◌*◌, ◌<◌, ◌≤◌, List, [], ◌∷◌, ◌++◌, length, get_or, drop, refl, ap, sym, ◌∙◌, arith, sum_by, subst, Option, None, Some, length-drop}
use Rattle.std.proofs.lemmas.List.Sums.{sum_by-cons}
use Rattle.rule_arena.specs.Preorder.{AreTerms}
use Rattle.rule_arena.specs.declared.label.Label.{Label}
use Rattle.rule_arena.specs.declared.label.Label.TheVariants.{Bottom, Symbol, Call, Param}
use Rattle.slt_grammar.specs.Bodies.{params, CallsBelow}
use Rattle.slt_grammar.specs.Editing.{put}
use Rattle.slt_grammar.specs.Segments.{listed}
use Rattle.slt_grammar.specs.Terms.{Term, Leaf, Node, Hole}
use Rattle.slt_grammar.proofs.Meanings.{drop-one}
use Rattle.segment_counts.specs.Weights.{node_weight, all_weight}
use Rattle.preorder_address.specs.Parents.{parents_behind, parent_among, until}
use Rattle.preorder_address.specs.Sites.{laden, weight_before}
use Rattle.preorder_address.proofs.Lading.{Alike, AllTerms, alike-behind, label_arity, portions, sizes}

drop-next : {X : Type 0} (m n : ℕ) (xs : List X) → n ≡ suc m → drop m (drop 1 xs) ≡ drop n xs
drop-next m zero xs e = absurd (omega arith)
drop-next zero (suc n) [] e = refl
drop-next (suc m) (suc n) [] e = refl
drop-next m (suc n) (x ∷ xs) e = let z : m ≡ n = omega arith in ap (λ k. drop k xs) z

pub behind-append : (args : List ℕ) (k : ℕ) (up : List (Option ℕ)) (xs ys : List Label) (us : List ℕ) (j : ℕ) → us ≡ drop (params xs) args → j ≡ k + laden node_weight args xs
    → parents_behind args k up (xs ++ ys) ≡ parents_behind us j (parents_behind args k up xs) ys
behind-append args k up [] ys us j e h = let z : k ≡ j = omega (arith, h) in ap (λ vs. parents_behind vs k up ys) (sym e) ∙ ap (λ i. parents_behind us i up ys) z
behind-append args k up (Param ∷ xs) ys us j e h = behind-append (drop 1 args) (k + get_or args 0 0) (drop 1 up) xs ys us j (e ∙ sym (drop-one (params xs) args)) (omega (arith, h))
behind-append args k up (Bottom ∷ xs) ys us j e h = behind-append args k (drop 1 up) xs ys us j e (omega (arith, h))
behind-append args k up (Symbol f ∷ xs) ys us j e h = behind-append args (k + 1) (Some k ∷ up) xs ys us j e (omega (arith, h))
behind-append args k up (Call q ∷ xs) ys us j e h = behind-append args k (drop 1 up) xs ys us j e (omega (arith, h))

pub among-append : (args : List ℕ) (k : ℕ) (up : List (Option ℕ)) (xs ys : List Label) (i n : ℕ) (us : List ℕ) (j : ℕ) → i ≡ sum_by node_weight xs + n → us ≡ drop (params xs) args → j ≡ k + laden node_weight args xs
    → parent_among args k up (xs ++ ys) i ≡ parent_among us j (parents_behind args k up xs) ys n
among-append args k up [] ys i n us j d e h =
    let z : k ≡ j = omega (arith, h) in
    let y : i ≡ n = omega arith in
    ap (λ vs. parent_among vs k up ys i) (sym e) ∙ ap (λ m. parent_among us m up ys i) z ∙ ap (parent_among us j up ys) y
among-append args k up (Param ∷ xs) ys i n us j d e h =
    among-append (drop 1 args) (k + get_or args 0 0) (drop 1 up) xs ys i n us j (omega (arith, d, sum_by-cons node_weight Param xs)) (e ∙ sym (drop-one (params xs) args)) (omega (arith, h))
among-append args k up (Bottom ∷ xs) ys i n us j d e h = among-append args k (drop 1 up) xs ys i n us j (omega (arith, d, sum_by-cons node_weight Bottom xs)) e (omega (arith, h))
among-append args k up (Symbol f ∷ xs) ys zero n us j d e h = absurd (omega (arith, d, sum_by-cons node_weight (Symbol f) xs))
among-append args k up (Symbol f ∷ xs) ys (suc i) n us j d e h = among-append args (k + 1) (Some k ∷ up) xs ys i n us j (omega (arith, d, sum_by-cons node_weight (Symbol f) xs)) e (omega (arith, h))
among-append args k up (Call q ∷ xs) ys i n us j d e h = among-append args k (drop 1 up) xs ys i n us j (omega (arith, d, sum_by-cons node_weight (Call q) xs)) e (omega (arith, h))

-- behind whole terms their parents are left out
pub behind-terms : (m : ℕ) (args : List ℕ) (k : ℕ) (up : List (Option ℕ)) (T : List Label) → AreTerms label_arity m T → parents_behind args k up T ≡ drop m up
behind-terms zero args k up [] t = refl
behind-terms zero args k up (l ∷ T) t = absurd t
behind-terms (suc m) args k up [] t = absurd t
behind-terms (suc m) args k up (Param ∷ T) t = behind-terms (0 + m) (drop 1 args) (k + get_or args 0 0) (drop 1 up) T t ∙ drop-next (0 + m) (suc m) up (omega arith)
behind-terms (suc m) args k up (Bottom ∷ T) t = behind-terms (0 + m) args k (drop 1 up) T t ∙ drop-next (0 + m) (suc m) up (omega arith)
behind-terms (suc m) args k up (Symbol f ∷ T) t = let z : 2 + m ≡ suc (suc m) = omega arith in behind-terms (2 + m) args (k + 1) (Some k ∷ up) T t ∙ ap (λ j. drop j (Some k ∷ up)) z
behind-terms (suc m) args k up (Call q ∷ T) t = behind-terms (0 + m) args k (drop 1 up) T t ∙ drop-next (0 + m) (suc m) up (omega arith)

-- terms in the places of the parameters count as their nodes do
pub behind-put : (args : List ℕ) (k : ℕ) (up : List (Option ℕ)) (T : List Label) (cs : List (List Label)) → params T ≤ length cs → AllTerms cs → parents_behind args k up (put T cs) ≡ parents_behind (portions node_weight args cs) k up T
behind-put args k up [] cs e a = refl
behind-put args k up (Param ∷ T) [] e a = absurd (omega arith)
behind-put args k up (Param ∷ T) (c ∷ cs) e a =
    behind-append args k up c (put T cs) (drop (params c) args) (k + laden node_weight args c) refl refl
    ∙ ap (λ vs. parents_behind (drop (params c) args) (k + laden node_weight args c) vs (put T cs)) (behind-terms 1 args k up c a.0)
    ∙ behind-put (drop (params c) args) (k + laden node_weight args c) (drop 1 up) T cs (omega arith) a.1
behind-put args k up (Bottom ∷ T) cs e a = behind-put args k (drop 1 up) T cs e a
behind-put args k up (Symbol f ∷ T) cs e a = behind-put args (k + 1) (Some k ∷ up) T cs e a
behind-put args k up (Call q ∷ T) cs e a = behind-put args k (drop 1 up) T cs e a

pub among-put : (args : List ℕ) (k : ℕ) (up : List (Option ℕ)) (T : List Label) (cs : List (List Label)) (i n : ℕ) → params T ≡ length cs → AllTerms cs → i ≡ weight_before node_weight (sizes cs) T n → n < sum_by node_weight T
    → parent_among args k up (put T cs) i ≡ parent_among (portions node_weight args cs) k up T n
among-put args k up [] cs i n e a d h = absurd (omega arith)
among-put args k up (Param ∷ T) [] i n e a d h = absurd (omega arith)
among-put args k up (Param ∷ T) (c ∷ cs) i n e a d h =
    let j : ℕ = weight_before node_weight (sizes cs) T n in
    among-append args k up c (put T cs) i j (drop (params c) args) (k + laden node_weight args c) d refl refl
    ∙ ap (λ vs. parent_among (drop (params c) args) (k + laden node_weight args c) vs (put T cs) j) (behind-terms 1 args k up c a.0)
    ∙ among-put (drop (params c) args) (k + laden node_weight args c) (drop 1 up) T cs j n (omega arith) a.1 refl (omega (arith, h, sum_by-cons node_weight Param T))
among-put args k up (Bottom ∷ T) cs i n e a d h = among-put args k (drop 1 up) T cs i n e a (omega arith) (omega (arith, h, sum_by-cons node_weight Bottom T))
among-put args k up (Symbol f ∷ T) cs zero zero e a d h = refl
among-put args k up (Symbol f ∷ T) cs (suc i) zero e a d h = absurd (omega arith)
among-put args k up (Symbol f ∷ T) cs zero (suc n) e a d h = absurd (omega arith)
among-put args k up (Symbol f ∷ T) cs (suc i) (suc n) e a d h = among-put args (k + 1) (Some k ∷ up) T cs i n e a (omega arith) (omega (arith, h, sum_by-cons node_weight (Symbol f) T))
among-put args k up (Call q ∷ T) cs i n e a d h = among-put args k (drop 1 up) T cs i n e a (omega arith) (omega (arith, h, sum_by-cons node_weight (Call q) T))

get-next : (j : ℕ) (up : List (Option ℕ)) → get_or (drop 1 up) j None ≡ get_or up (suc j) None
get-next j [] = refl
get-next j (u ∷ up) = refl

-- the parent of a symbol of whole terms is told by the terms and their own parents
pub among-top : (m : ℕ) (args : List ℕ) (k : ℕ) (up vs : List (Option ℕ)) (T rest : List Label) (n : ℕ) → AreTerms label_arity m T → n < sum_by node_weight T → ((j : ℕ) → j < m → get_or up j None ≡ get_or vs j None)
    → parent_among args k up (T ++ rest) n ≡ parent_among args k vs T n
among-top m args k up vs [] rest n t h e = absurd (omega arith)
among-top zero args k up vs (l ∷ T) rest n t h e = absurd t
among-top (suc m) args k up vs (Param ∷ T) rest n t h e =
    among-top (0 + m) (drop 1 args) (k + get_or args 0 0) (drop 1 up) (drop 1 vs) T rest n t (omega (arith, h, sum_by-cons node_weight Param T)) (λ j l. get-next j up ∙ e (suc j) (omega (arith, l)) ∙ sym (get-next j vs))
among-top (suc m) args k up vs (Bottom ∷ T) rest n t h e =
    among-top (0 + m) args k (drop 1 up) (drop 1 vs) T rest n t (omega (arith, h, sum_by-cons node_weight Bottom T)) (λ j l. get-next j up ∙ e (suc j) (omega (arith, l)) ∙ sym (get-next j vs))
among-top (suc m) args k up vs (Symbol f ∷ T) rest zero t h e = e 0 (omega arith)
among-top (suc m) args k up vs (Symbol f ∷ T) rest (suc n) t h e =
    among-top (2 + m) args (k + 1) (Some k ∷ up) (Some k ∷ vs) T rest n t (omega (arith, h, sum_by-cons node_weight (Symbol f) T)) (λ j l. later j l)
  where
    later : (j : ℕ) → j < 2 + m → get_or (Some k ∷ up) j None ≡ get_or (Some k ∷ vs) j None
    later zero l = refl
    later (suc j) l = e j (omega (arith, l))
among-top (suc m) args k up vs (Call q ∷ T) rest n t h e =
    among-top (0 + m) args k (drop 1 up) (drop 1 vs) T rest n t (omega (arith, h, sum_by-cons node_weight (Call q) T)) (λ j l. get-next j up ∙ e (suc j) (omega (arith, l)) ∙ sym (get-next j vs))

pub among-alike : (a b : List ℕ) → Alike a b → (k : ℕ) (up : List (Option ℕ)) (ls : List Label) (n : ℕ) → parent_among a k up ls n ≡ parent_among b k up ls n
among-alike a b e k up [] n = refl
among-alike a b e k up (Param ∷ ls) n =
    ap (λ i. parent_among (drop 1 a) (k + i) (drop 1 up) ls n) (e 0) ∙ among-alike (drop 1 a) (drop 1 b) (alike-behind a b e) (k + get_or b 0 0) (drop 1 up) ls n
among-alike a b e k up (Bottom ∷ ls) n = among-alike a b e k (drop 1 up) ls n
among-alike a b e k up (Symbol f ∷ ls) zero = refl
among-alike a b e k up (Symbol f ∷ ls) (suc n) = among-alike a b e (k + 1) (Some k ∷ up) ls n
among-alike a b e k up (Call q ∷ ls) n = among-alike a b e k (drop 1 up) ls n

pub behind-alike : (a b : List ℕ) → Alike a b → (k : ℕ) (up : List (Option ℕ)) (ls : List Label) → parents_behind a k up ls ≡ parents_behind b k up ls
behind-alike a b e k up [] = refl
behind-alike a b e k up (Param ∷ ls) =
    ap (λ i. parents_behind (drop 1 a) (k + i) (drop 1 up) ls) (e 0) ∙ behind-alike (drop 1 a) (drop 1 b) (alike-behind a b e) (k + get_or b 0 0) (drop 1 up) ls
behind-alike a b e k up (Bottom ∷ ls) = behind-alike a b e k (drop 1 up) ls
behind-alike a b e k up (Symbol f ∷ ls) = behind-alike a b e (k + 1) (Some k ∷ up) ls
behind-alike a b e k up (Call q ∷ ls) = behind-alike a b e k (drop 1 up) ls

drop-front : (ts st : List (Option ℕ)) → 0 < length ts → drop 1 (ts ++ st) ≡ drop 1 ts ++ st
drop-front [] st h = absurd (omega arith)
drop-front (u ∷ ts) st h = refl

length-drop-one : (ts : List (Option ℕ)) → 0 < length ts → length ts ≡ suc (length (drop 1 ts))
length-drop-one [] h = absurd (omega arith)
length-drop-one (u ∷ ts) h = refl

-- within terms, what is open below them stays
module _ (l : Label) (rest : List Label) where
  pub behind-within : (m : ℕ) (args : List ℕ) (k : ℕ) (ts st : List (Option ℕ)) (T : List Label) → m ≡ length ts → AreTerms label_arity (suc m) (T ++ l ∷ rest) → parents_behind args k (ts ++ st) T ≡ parents_behind args k ts T ++ st
  behind-within m args k ts st [] e t = refl
  behind-within m args k ts st (Symbol f ∷ T) e t =
      let z : 2 + m ≡ suc (suc m) = omega arith in
      behind-within (suc m) args (k + 1) (Some k ∷ ts) st T (omega arith) (subst (λ (j : ℕ). AreTerms label_arity j (T ++ l ∷ rest)) z t)
  behind-within zero args k ts st (Param ∷ T) e t = absurd (never T t)
    where
      never : (T : List Label) → AreTerms label_arity (0 + 0) (T ++ l ∷ rest) → ⊥
      never [] t = t
      never (x ∷ T) t = t
  behind-within (suc m) args k ts st (Param ∷ T) e t =
      let z : 0 + suc m ≡ suc m = omega arith in
      ap (λ us. parents_behind (drop 1 args) (k + get_or args 0 0) us T) (drop-front ts st (omega arith))
      ∙ behind-within m (drop 1 args) (k + get_or args 0 0) (drop 1 ts) st T (omega (arith, length-drop-one ts (omega arith))) (subst (λ (j : ℕ). AreTerms label_arity j (T ++ l ∷ rest)) z t)
  behind-within zero args k ts st (Bottom ∷ T) e t = absurd (never T t)
    where
      never : (T : List Label) → AreTerms label_arity (0 + 0) (T ++ l ∷ rest) → ⊥
      never [] t = t
      never (x ∷ T) t = t
  behind-within (suc m) args k ts st (Bottom ∷ T) e t =
      let z : 0 + suc m ≡ suc m = omega arith in
      ap (λ us. parents_behind args k us T) (drop-front ts st (omega arith))
      ∙ behind-within m args k (drop 1 ts) st T (omega (arith, length-drop-one ts (omega arith))) (subst (λ (j : ℕ). AreTerms label_arity j (T ++ l ∷ rest)) z t)
  behind-within zero args k ts st (Call q ∷ T) e t = absurd (never T t)
    where
      never : (T : List Label) → AreTerms label_arity (0 + 0) (T ++ l ∷ rest) → ⊥
      never [] t = t
      never (x ∷ T) t = t
  behind-within (suc m) args k ts st (Call q ∷ T) e t =
      let z : 0 + suc m ≡ suc m = omega arith in
      ap (λ us. parents_behind args k us T) (drop-front ts st (omega arith))
      ∙ behind-within m args k (drop 1 ts) st T (omega (arith, length-drop-one ts (omega arith))) (subst (λ (j : ℕ). AreTerms label_arity j (T ++ l ∷ rest)) z t)

  -- how many terms are open is told by the numbers of labels
  pub length-within : (m : ℕ) (args : List ℕ) (k : ℕ) (ts : List (Option ℕ)) (T : List Label) → m ≡ length ts → CallsBelow 0 T → AreTerms label_arity (suc m) (T ++ l ∷ rest)
      → length (parents_behind args k ts T) + sum_by all_weight T + params T ≡ m + 2 * sum_by node_weight T
  length-within m args k ts [] e c t = omega arith
  length-within m args k ts (Symbol f ∷ T) e c t =
      let z : 2 + m ≡ suc (suc m) = omega arith in
      omega (
        arith,
        length-within (suc m) args (k + 1) (Some k ∷ ts) T (omega arith) c (subst (λ (j : ℕ). AreTerms label_arity j (T ++ l ∷ rest)) z t),
        sum_by-cons all_weight (Symbol f) T,
        sum_by-cons node_weight (Symbol f) T,
      )
  length-within zero args k ts (Param ∷ T) e c t = absurd (never T t)
    where
      never : (T : List Label) → AreTerms label_arity (0 + 0) (T ++ l ∷ rest) → ⊥
      never [] t = t
      never (x ∷ T) t = t
  length-within (suc m) args k ts (Param ∷ T) e c t =
      let z : 0 + suc m ≡ suc m = omega arith in
      omega (
        arith,
        length-within m (drop 1 args) (k + get_or args 0 0) (drop 1 ts) T (omega (arith, length-drop-one ts (omega arith))) c (subst (λ (j : ℕ). AreTerms label_arity j (T ++ l ∷ rest)) z t),
        sum_by-cons all_weight Param T,
        sum_by-cons node_weight Param T,
      )
  length-within zero args k ts (Bottom ∷ T) e c t = absurd (never T t)
    where
      never : (T : List Label) → AreTerms label_arity (0 + 0) (T ++ l ∷ rest) → ⊥
      never [] t = t
      never (x ∷ T) t = t
  length-within (suc m) args k ts (Bottom ∷ T) e c t =
      let z : 0 + suc m ≡ suc m = omega arith in
      omega (
        arith,
        length-within m args k (drop 1 ts) T (omega (arith, length-drop-one ts (omega arith))) c (subst (λ (j : ℕ). AreTerms label_arity j (T ++ l ∷ rest)) z t),
        sum_by-cons all_weight Bottom T,
        sum_by-cons node_weight Bottom T,
      )
  length-within m args k ts (Call q ∷ T) e c t = absurd (omega (arith, c.0))

-- the labels before a parameter
pub until-split : (i : ℕ) (T : List Label) → i < params T → (rest : List Label) × (T ≡ until T i ++ Param ∷ rest)
until-split i [] h = absurd (omega arith)
until-split zero (Param ∷ T) h = (T, refl)
until-split (suc i) (Param ∷ T) h = let r = until-split i T (omega arith) in (r.0, ap (λ ls. Param ∷ ls) r.1)
until-split i (Bottom ∷ T) h = let r = until-split i T h in (r.0, ap (λ ls. Bottom ∷ ls) r.1)
until-split i (Symbol f ∷ T) h = let r = until-split i T h in (r.0, ap (λ ls. Symbol f ∷ ls) r.1)
until-split i (Call q ∷ T) h = let r = until-split i T h in (r.0, ap (λ ls. Call q ∷ ls) r.1)

pub params-until : (i : ℕ) (T : List Label) → i < params T → params (until T i) ≡ i
params-until i [] h = absurd (omega arith)
params-until zero (Param ∷ T) h = refl
params-until (suc i) (Param ∷ T) h = ap suc (params-until i T (omega arith))
params-until i (Bottom ∷ T) h = params-until i T h
params-until i (Symbol f ∷ T) h = params-until i T h
params-until i (Call q ∷ T) h = params-until i T h

-- labels that stand before a parameter are those before the parameter with their number of parameters
pub until-here : (i : ℕ) (xs ys : List Label) → params xs ≡ i → until (xs ++ Param ∷ ys) i ≡ xs
until-here zero [] ys e = refl
until-here (suc i) [] ys e = absurd (omega arith)
until-here zero (Param ∷ xs) ys e = absurd (omega arith)
until-here (suc i) (Param ∷ xs) ys e = ap (λ ls. Param ∷ ls) (until-here i xs ys (omega arith))
until-here i (Bottom ∷ xs) ys e = ap (λ ls. Bottom ∷ ls) (until-here i xs ys e)
until-here i (Symbol f ∷ xs) ys e = ap (λ ls. Symbol f ∷ ls) (until-here i xs ys e)
until-here i (Call q ∷ xs) ys e = ap (λ ls. Call q ∷ ls) (until-here i xs ys e)

pub until-calls : (i : ℕ) (T : List Label) → CallsBelow 0 T → CallsBelow 0 (until T i)
until-calls i [] c = tt
until-calls zero (Param ∷ T) c = tt
until-calls (suc i) (Param ∷ T) c = until-calls i T c
until-calls i (Bottom ∷ T) c = until-calls i T c
until-calls i (Symbol f ∷ T) c = until-calls i T c
until-calls i (Call q ∷ T) c = absurd (omega (arith, c.0))

pub listed-calls : (t : Term) (k : List Label) → CallsBelow 0 k → CallsBelow 0 (listed t k)
listed-calls Leaf k c = c
listed-calls (Hole i) k c = c
listed-calls (Node f a b) k c = listed-calls a (listed b k) (listed-calls b k c)

-- how many parents there are hangs on nothing but the labels
pub length-same : (a b : List ℕ) (j k : ℕ) (us vs : List (Option ℕ)) (T : List Label) → length us ≡ length vs → length (parents_behind a j us T) ≡ length (parents_behind b k vs T)
length-same a b j k us vs [] e = e
length-same a b j k us vs (Param ∷ T) e = length-same (drop 1 a) (drop 1 b) (j + get_or a 0 0) (k + get_or b 0 0) (drop 1 us) (drop 1 vs) T (omega (arith, e, length-drop 1 us, length-drop 1 vs))
length-same a b j k us vs (Symbol f ∷ T) e = length-same a b (j + 1) (k + 1) (Some j ∷ us) (Some k ∷ vs) T (omega arith)
length-same a b j k us vs (Bottom ∷ T) e = length-same a b j k (drop 1 us) (drop 1 vs) T (omega (arith, e, length-drop 1 us, length-drop 1 vs))
length-same a b j k us vs (Call q ∷ T) e = length-same a b j k (drop 1 us) (drop 1 vs) T (omega (arith, e, length-drop 1 us, length-drop 1 vs))
