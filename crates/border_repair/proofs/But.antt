-- The value with the calls of one rule left in it, as labels, weighs what runs along the rules with that rule opaque tell.
use Rattle.std.proofs.Common.{◌≡◌, ◌≢◌, ◌⊎◌, inl, inr, ℕ, zero, suc, ◌+◌, ◌*◌, ◌<◌, ◌≤◌, if◌then◌else◌, eqb, true, false, List, [], ◌∷◌, ◌++◌, Option, Some, None, length, get_or, take, drop, refl, ap, sym, subst, ◌∙◌, arith, append_assoc, append-nil, length-append, length-take-le}
use Rattle.std.proofs.lemmas.Bool.Decides.{eqb_tells}
use Rattle.rule_arena.specs.Preorder.{AreTerms}
use Rattle.rule_arena.proofs.PreorderLemmas.{AreTerms-append}
use Rattle.rule_arena.specs.declared.label.Label.{Label}
use Rattle.rule_arena.specs.declared.label.Label.TheVariants.{Bottom, Symbol, Call, Param}
use Rattle.slt_grammar.specs.Algebras.{meanings}
use Rattle.slt_grammar.specs.Bodies.{arity, params, CallsBelow, calls_in}
use Rattle.slt_grammar.proofs.Meanings.{meanings-whole}
use Rattle.slt_grammar.proofs.Substitutions.{joined}
use Rattle.border_repair.specs.ValueBut.{label_algebra, adds_before}
use Rattle.border_repair.specs.Edges.{kid_tops, weighs_at, all_edges}
use Rattle.border_repair.specs.Weighing.{Scale, Above, hung, Weighed, weight_algebra, Rim, called, hung_all}
use Rattle.border_repair.proofs.Opaque.{opaque}
use Rattle.border_repair.proofs.UseLemmas.{sum_below, sum-same, sum-add, sum-times, called-sum}

pub calls-append : (x : ℕ) (xs ys : List Label) → calls_in x (xs ++ ys) ≡ calls_in x xs + calls_in x ys
calls-append x [] ys = omega arith
calls-append x (Param ∷ xs) ys = calls-append x xs ys
calls-append x (Bottom ∷ xs) ys = calls-append x xs ys
calls-append x (Symbol f ∷ xs) ys = calls-append x xs ys
calls-append x (Call q ∷ xs) ys = omega (arith, calls-append x xs ys)

pub calls-own : (x : ℕ) (ls : List Label) → calls_in x (Call x ∷ ls) ≡ suc (calls_in x ls)
calls-own x ls = by_test (eqb_tells x x) where
  by_test : ((eqb x x ≡ true) × (x ≡ x)) ⊎ ((eqb x x ≡ false) × (x ≢ x)) → (if eqb x x then 1 else 0) + calls_in x ls ≡ suc (calls_in x ls)
  by_test (inl t) = rw t.0 (omega arith)
  by_test (inr t) = absurd (t.1 refl)

pub used-adds : (ws : ℕ → ℕ) (own : ℕ → ℕ) (lists : ℕ → List Label) (n : ℕ) → ((k : ℕ) → k < n → (ws k ≡ own k + called ws (lists k)) × CallsBelow k (lists k))
    → (k : ℕ) (used : ℕ → ℕ) → k ≤ n → sum_below k (λ q. used q * ws q) ≡ adds_before own lists k used
used-adds ws own lists n h zero used l = refl
used-adds ws own lists n h (suc k) used l =
    let body = lists k in
    let w = ws in
    let here = (h k (omega arith)).0 in
    let calls = called-sum ws k body (h k (omega arith)).1 in
    let ih = used-adds ws own lists n h k (λ q. used q + used k * calls_in q body) (omega arith) in
    let cut = sum-same k (λ q. (used q + used k * calls_in q body) * w q) (λ q. used q * w q + used k * (calls_in q body * w q)) (λ q h. spread (used q) (used k) (calls_in q body) (w q)) in
    let add = sum-add k (λ q. used q * w q) (λ q. used k * (calls_in q body * w q)) in
    let times = sum-times k (used k) (λ q. calls_in q body * w q) in
    last (used k) (w k) (own k) (called ws body) (sum_below k (λ q. calls_in q body * w q)) (sum_below k (λ q. used q * w q)) (adds_before own lists k (λ q. used q + used k * calls_in q body)) here calls (sym ih ∙ cut ∙ add ∙ ap (λ n. sum_below k (λ q. used q * w q) + n) times) where
      spread : (a b c d : ℕ) → (a + b * c) * d ≡ a * d + b * (c * d)
      spread a b c d = grind arith

      distribute : (u a s t : ℕ) → u * (a + s) + t ≡ u * a + (t + u * s)
      distribute u a s t = omega arith

      last : (u w a c s t r : ℕ) → w ≡ a + c → c ≡ s → r ≡ t + u * s → u * w + t ≡ u * a + r
      last u w a c s t r x y z = ap (λ n. u * n + t) x ∙ ap (λ n. u * (a + n) + t) y ∙ distribute u a s t ∙ ap (λ n. u * a + n) (sym z)

module _ (e : Scale) (s : ℕ → Rim) (x each : ℕ) where
  abbrev tops_many : Label → ℕ
  tops_many l = length (kid_tops e s l)

  abbrev rooted : Label → Option Label
  rooted Bottom = Some Bottom
  rooted (Symbol f) = Some (Symbol f)
  rooted (Call q) = (s q).root
  rooted Param = None

  weighs-rooted : (c : Above) (l : Label) → weighs_at e s c l ≡ hung e c (rooted l)
  weighs-rooted c Bottom = refl
  weighs-rooted c (Symbol f) = refl
  weighs-rooted c (Call q) = refl
  weighs-rooted None Param = refl
  weighs-rooted (Some (f, i)) Param = refl

  edges-append : (n : ℕ) (xs ys : List Label) (aboves cs : List Above) → AreTerms tops_many n xs → length aboves ≡ n → all_edges e s (aboves ++ cs) (xs ++ ys) ≡ all_edges e s aboves xs + all_edges e s cs ys
  edges-append zero [] ys [] cs t l = sym (zero-plus (all_edges e s cs ys)) where
    zero-plus : (n : ℕ) → 0 + n ≡ n
    zero-plus n = omega arith
  edges-append zero [] ys (a ∷ aboves) cs t l = absurd (omega arith)
  edges-append zero (k ∷ xs) ys aboves cs t l = absurd t
  edges-append (suc n) [] ys aboves cs t l = absurd t
  edges-append (suc n) (k ∷ xs) ys [] cs t l = absurd (omega arith)
  edges-append (suc n) (k ∷ xs) ys (a ∷ aboves) cs t l =
      ap (λ z. weighs_at e s a k + all_edges e s z (xs ++ ys)) (sym (append_assoc (kid_tops e s k) aboves cs))
      ∙ omega (arith, edges-append (tops_many k + n) xs ys (kid_tops e s k ++ aboves) cs t (omega (arith, length-append (kid_tops e s k) aboves)))

  -- a term of labels weighs that much under its root
  pub record Weighs (t : List Label) (w : Weighed) : Type 0 where
    pub top : Label
    pub below : List Label
    pub whole : t ≡ top ∷ below
    pub terms : AreTerms tops_many (tops_many top) below
    pub root : w.root ≡ rooted top
    pub weight : w.weight ≡ all_edges e s (kid_tops e s top) below + each * calls_in x (top ∷ below)

  abbrev pub AllWeigh : List (List Label) → List Weighed → Type 0
  AllWeigh [] [] = Unit {0}
  AllWeigh [] (w ∷ ws) = ⊥
  AllWeigh (t ∷ ts) [] = ⊥
  AllWeigh (t ∷ ts) (w ∷ ws) = Weighs t w × AllWeigh ts ws

  one_term : (t : List Label) (w : Weighed) → Weighs t w → AreTerms tops_many 1 t
  one_term t w h = subst (AreTerms tops_many 1) (sym h.whole) (subst (λ n. AreTerms tops_many n h.below) (omega arith) h.terms)

  pub hung-term : (c : Above) (t : List Label) (w : Weighed) → Weighs t w → all_edges e s (c ∷ []) t + each * calls_in x t ≡ hung e c w.root + w.weight
  hung-term c t w h =
      let a = ap (λ z. all_edges e s (c ∷ []) z + each * calls_in x z) h.whole in
      let b = ap (λ z. all_edges e s z h.below) (append-nil (kid_tops e s h.top)) in
      let r = ap (hung e c) h.root in
      omega (arith, a, b, r, weighs-rooted c h.top, h.weight)

  terms-joined : (ts : List (List Label)) (ws : List Weighed) → AllWeigh ts ws → AreTerms tops_many (length ts) (joined ts)
  terms-joined [] [] h = tt
  terms-joined [] (w ∷ ws) h = absurd h
  terms-joined (t ∷ ts) [] h = absurd h
  terms-joined (t ∷ ts) (w ∷ ws) h = let n : 1 + length ts ≡ suc (length ts) = omega arith in subst (λ n. AreTerms tops_many n (t ++ joined ts)) n (AreTerms-append tops_many 1 (length ts) t (joined ts) (one_term t w h.0) (terms-joined ts ws h.1))

  hung-joined : (cs : List Above) (ts : List (List Label)) (ws : List Weighed) → length cs ≡ length ts → AllWeigh ts ws → all_edges e s cs (joined ts) + each * calls_in x (joined ts) ≡ hung_all e cs ws
  hung-joined [] [] [] l h = omega arith
  hung-joined (c ∷ cs) [] [] l h = absurd (omega arith)
  hung-joined cs [] (w ∷ ws) l h = absurd h
  hung-joined cs (t ∷ ts) [] l h = absurd h
  hung-joined [] (t ∷ ts) (w ∷ ws) l h = absurd (omega arith)
  hung-joined (c ∷ cs) (t ∷ ts) (w ∷ ws) l h =
      let a = edges-append 1 t (joined ts) (c ∷ []) cs (one_term t w h.0) refl in
      let b = ap (λ n. each * n) (calls-append x t (joined ts)) in
      let d = hung-term c t w h.0 in
      let ih = hung-joined cs ts ws (omega arith) h.1 in
      grouped (all_edges e s (c ∷ cs) (t ++ joined ts)) (all_edges e s (c ∷ []) t) (all_edges e s cs (joined ts)) (each * calls_in x (t ++ joined ts)) each (calls_in x t) (calls_in x (joined ts)) (hung e c w.root) w.weight (hung_all e cs ws) a b d ih where
        grouped : (p q r u m y z a b v : ℕ) → p ≡ q + r → u ≡ m * (y + z) → q + m * y ≡ a + b → r + m * z ≡ v → p + u ≡ a + (b + v)
        grouped p q r u m y z a b v i j k l = omega arith

  bottom-weighs : Weighs (Bottom ∷ []) (weight_algebra e).bottom
  bottom-weighs = record { top = Bottom; below = []; whole = refl; terms = tt; root = refl; weight = omega arith }

  node-weighs : (f : ℕ) (a b : List Label) (u v : Weighed) → Weighs a u → Weighs b v → Weighs (Symbol f ∷ (a ++ b)) ((weight_algebra e).node f u v)
  node-weighs f a b u v h k =
      let both : AllWeigh (a ∷ b ∷ []) (u ∷ v ∷ []) = (h, (k, tt)) in
      let r = hung-joined (Some (f, 1) ∷ Some (f, 2) ∷ []) (a ∷ b ∷ []) (u ∷ v ∷ []) refl both in
      let z = ap (λ y. a ++ y) (append-nil b) in
      record {
        top = Symbol f;
        below = a ++ b;
        whole = refl;
        terms = subst (AreTerms tops_many 2) z (terms-joined (a ∷ b ∷ []) (u ∷ v ∷ []) both);
        root = refl;
        weight = omega (arith, subst (λ y. all_edges e s (Some (f, 1) ∷ Some (f, 2) ∷ []) y + each * calls_in x y ≡ hung_all e (Some (f, 1) ∷ Some (f, 2) ∷ []) (u ∷ v ∷ [])) z r);
      }

  pub opaque-weighs : (ts : List (List Label)) (ws : List Weighed) → length ((s x).borders) ≡ length ts → AllWeigh ts ws → Weighs (Call x ∷ joined ts) (opaque e (s x) each ws)
  opaque-weighs ts ws l h =
      let r = hung-joined ((s x).borders) ts ws l h in
      record {
        top = Call x;
        below = joined ts;
        whole = refl;
        terms = subst (λ n. AreTerms tops_many n (joined ts)) (sym l) (terms-joined ts ws h);
        root = refl;
        weight = own (all_edges e s ((s x).borders) (joined ts)) each (calls_in x (joined ts)) (calls_in x (Call x ∷ joined ts)) (hung_all e ((s x).borders) ws) r (calls-own x (joined ts));
      } where
        own : (p m y z v : ℕ) → p + m * y ≡ v → z ≡ suc y → m + v ≡ p + m * z
        own p m y z v i j = ap (λ n. m + n) (sym i) ∙ more p m y ∙ ap (λ n. p + m * n) (sym j) where
          more : (p m y : ℕ) → m + (p + m * y) ≡ p + m * suc y
          more p m y = omega arith

  weigh-many : (ts : List (List Label)) (ws : List Weighed) → AllWeigh ts ws → length ts ≡ length ws
  weigh-many [] [] h = refl
  weigh-many [] (w ∷ ws) h = absurd h
  weigh-many (t ∷ ts) [] h = absurd h
  weigh-many (t ∷ ts) (w ∷ ws) h = ap suc (weigh-many ts ws h.1)

  weigh-take : (n : ℕ) (ts : List (List Label)) (ws : List Weighed) → AllWeigh ts ws → AllWeigh (take n ts) (take n ws)
  weigh-take zero ts ws h = tt
  weigh-take (suc n) [] [] h = tt
  weigh-take (suc n) [] (w ∷ ws) h = absurd h
  weigh-take (suc n) (t ∷ ts) [] h = absurd h
  weigh-take (suc n) (t ∷ ts) (w ∷ ws) h = (h.0, weigh-take n ts ws h.1)

  weigh-drop : (n : ℕ) (ts : List (List Label)) (ws : List Weighed) → AllWeigh ts ws → AllWeigh (drop n ts) (drop n ws)
  weigh-drop zero ts ws h = h
  weigh-drop (suc n) [] [] h = tt
  weigh-drop (suc n) [] (w ∷ ws) h = absurd h
  weigh-drop (suc n) (t ∷ ts) [] h = absurd h
  weigh-drop (suc n) (t ∷ ts) (w ∷ ws) h = weigh-drop n ts ws h.1

  first-two : (f : ℕ) (ts : List (List Label)) (ws : List Weighed) → 2 ≤ length ts → AllWeigh ts ws
      → Weighs (label_algebra.node f (get_or (take 2 ts) 0 (Bottom ∷ [])) (get_or (take 2 ts) 1 (Bottom ∷ []))) ((weight_algebra e).node f (get_or (take 2 ws) 0 (weight_algebra e).bottom) (get_or (take 2 ws) 1 (weight_algebra e).bottom))
  first-two f [] ws l h = absurd (omega arith)
  first-two f (a ∷ []) ws l h = absurd (omega arith)
  first-two f (a ∷ b ∷ ts) [] l h = absurd h
  first-two f (a ∷ b ∷ ts) (u ∷ []) l h = absurd h.1
  first-two f (a ∷ b ∷ ts) (u ∷ v ∷ ws) l h = node-weighs f a b u v h.0 h.1.0

  module _ (ranks : List ℕ) (ls-means : List (List (List Label) → List Label)) (ws-means : List (List Weighed → Weighed)) where
    -- the called rules make of terms that weigh so a term that weighs so
    abbrev pub CallsWeigh : List Label → Type 0
    CallsWeigh [] = Unit {0}
    CallsWeigh (Call q ∷ ls) =
        ((ts : List (List Label)) (ws : List Weighed) → length ts ≡ get_or ranks q 0 → AllWeigh ts ws → Weighs (get_or ls-means q (λ _. Bottom ∷ []) ts) (get_or ws-means q (λ _. (weight_algebra e).bottom) ws))
        × CallsWeigh ls
    CallsWeigh (l ∷ ls) = CallsWeigh ls

    -- so a body weighs what the run along the rules tells
    pub meanings-weigh : (n : ℕ) (ls : List Label) (args : List (List Label)) (given : List Weighed) → AreTerms (arity ranks) n ls → CallsWeigh ls → params ls ≤ length args → AllWeigh args given
        → AllWeigh (meanings label_algebra ranks ls-means args ls []) (meanings (weight_algebra e) ranks ws-means given ls [])
    meanings-weigh n [] args given t c p h = tt
    meanings-weigh zero (l ∷ ls) args given t c p h = absurd t
    meanings-weigh (suc n) (Param ∷ ls) [] given t c p h = absurd (omega arith)
    meanings-weigh (suc n) (Param ∷ ls) (a ∷ args) [] t c p h = absurd h
    meanings-weigh (suc n) (Param ∷ ls) (a ∷ args) (w ∷ given) t c p h = (h.0, meanings-weigh (0 + n) ls args given t c (omega arith) h.1)
    meanings-weigh (suc n) (Bottom ∷ ls) args given t c p h = (bottom-weighs, meanings-weigh (0 + n) ls args given t c p h)
    meanings-weigh (suc n) (Symbol f ∷ ls) args given t c p h =
        let ih = meanings-weigh (2 + n) ls args given t c p h in
        let ts = meanings label_algebra ranks ls-means args ls [] in
        let ws = meanings (weight_algebra e) ranks ws-means given ls [] in
        let m = (meanings-whole label_algebra ranks ls-means (2 + n) args ls [] t).1 in
        (first-two f ts ws (omega arith) ih, weigh-drop 2 ts ws ih)
    meanings-weigh (suc n) (Call q ∷ ls) args given t c p h =
        let k = get_or ranks q 0 in
        let ih = meanings-weigh (k + n) ls args given t c.1 p h in
        let ts = meanings label_algebra ranks ls-means args ls [] in
        let ws = meanings (weight_algebra e) ranks ws-means given ls [] in
        let m = (meanings-whole label_algebra ranks ls-means (k + n) args ls [] t).1 in
        (c.0 (take k ts) (take k ws) (length-take-le k ts (omega arith)) (weigh-take k ts ws ih), weigh-drop k ts ws ih)
