-- What the value but for the first rule's calls weighs.
use Rattle.std.proofs.Common.{◌≡◌, ◌⊎◌, inl, inr, ℕ, zero, suc, ◌+◌, ◌*◌, ◌-◌, ◌<◌, ◌≤◌, List, [], ◌∷◌, ◌++◌, Some, None, length, get_or, take, drop, refl, ap, sym, subst, ◌∙◌, arith, if◌then◌else◌, eqb}
use Rattle.std.proofs.lemmas.Bool.{cases_lt}
use Rattle.std.proofs.lemmas.List.{drop_more, take-append-drop, length-take-le}
use Rattle.rule_arena.specs.declared.label.Label.{Label}
use Rattle.rule_arena.specs.declared.label.Label.TheVariants.{Bottom, Symbol, Call, Param}
use Rattle.slt_grammar.specs.Algebras.{Algebra, meanings, meaning, rule_meanings, ranks_of}
use Rattle.slt_grammar.specs.Bodies.{params, CallsBelow, calls_in}
use Rattle.slt_grammar.specs.Grammars.{IsGrammar, body_at, rank_at, no_rule}
use Rattle.slt_grammar.specs.declared.rules.Rule.{Rule}
use Rattle.slt_grammar.proofs.Meanings.{meanings-whole}
use Rattle.slt_grammar.proofs.RuleMeanings.{rank_at-ranks_of, meanings-earlier, length-rule_meanings, rule_meanings-append, rule_meanings-front, rule_meanings-at}
use Rattle.slt_grammar.proofs.Substitutions.{joined}
use Rattle.border_repair.specs.Edges.{all_edges}
use Rattle.border_repair.specs.ValueBut.{label_algebra, but_meanings, value_but, adds_before}
use Rattle.border_repair.specs.Weighing.{AreKnown, Scale, Weighed, weight_algebra, Rim, under, arisen, called, rim_of}
use Rattle.border_repair.proofs.But.{Weighs, AllWeigh, CallsWeigh, opaque-weighs, meanings-weigh, hung-term, used-adds}
use Rattle.border_repair.proofs.Opaque.{opaque, opaque-told, Told, HasBody, all-told}
use Rattle.border_repair.proofs.RimLemmas.{IsRim, hung_all-none}
use Rattle.border_repair.proofs.UseLemmas.{sum-one}

-- a rule behind others means what its body means
means-behind : {S : Type 0} (A : Algebra S) (ranks : List ℕ) (base : List (List S → S)) (H : List Rule) (q : ℕ) (args : List S) → q < length H → CallsBelow (length base + q) (body_at H q)
    → get_or (rule_meanings A ranks base H) (length base + q) (λ _. A.bottom) args ≡ get_or (meanings A ranks (rule_meanings A ranks base H) args (body_at H q) []) 0 A.bottom
means-behind {S} A ranks base H r args h b =
    let R : Rule = get_or H r no_rule in
    let before : List (List S → S) = rule_meanings A ranks base (take r H) in
    let e : H ≡ take r H ++ R ∷ drop (r + 1) H = sym (rw (← drop_more H r no_rule h) (take-append-drop r H)) in
    let n : length (take r H) ≡ r = length-take-le r H (omega arith) in
    let m : length before ≡ length base + r = omega (arith, length-rule_meanings A ranks base (take r H)) in
    let f = rule_meanings-front A ranks before (R ∷ drop (r + 1) H) in
    let whole : rule_meanings A ranks base H ≡ before ++ f.0 = ap (rule_meanings A ranks base) e ∙ rule_meanings-append A ranks base (take r H) (R ∷ drop (r + 1) H) ∙ f.1 in
    let at : get_or (rule_meanings A ranks base H) (length base + r) (λ _. A.bottom) ≡ meaning A ranks before R.body =
    ap (λ K. get_or (rule_meanings A ranks base K) (length base + r) (λ _. A.bottom)) e
    ∙ ap (λ k. get_or (rule_meanings A ranks base (take r H ++ R ∷ drop (r + 1) H)) (length base + k) (λ _. A.bottom)) (sym n)
    ∙ rule_meanings-at A ranks base (take r H) R (drop (r + 1) H) in
    let c : CallsBelow (length before) (body_at H r) = subst (λ k. CallsBelow k (body_at H r)) (sym m) b in
    ap (λ k. k args) at ∙ sym (ap (λ fs. get_or (meanings A ranks fs args (body_at H r) []) 0 A.bottom) whole ∙ ap (λ ms. get_or ms 0 A.bottom) (meanings-earlier A ranks before f.0 args (body_at H r) [] c))

drop-body : (G : List Rule) (k : ℕ) → body_at (drop 1 G) k ≡ body_at G (suc k)
drop-body [] k = refl
drop-body (R ∷ G) k = refl

length-rest : (G : List Rule) (k : ℕ) → suc k < length G → k < length (drop 1 G)
length-rest [] k l = absurd (omega arith)
length-rest (R ∷ G) k l = omega arith

-- a later rule means what its body means, whatever the first one means
pub but-means : {S : Type 0} (A : Algebra S) (first : List S → S) (G : List Rule) → IsGrammar G → (k : ℕ) → suc k < length G → (args : List S)
    → get_or (but_meanings A first G) (suc k) (λ _. A.bottom) args ≡ get_or (meanings A (ranks_of G) (but_meanings A first G) args (body_at G (suc k)) []) 0 A.bottom
but-means A first G g k l args =
    let b : CallsBelow (suc k) (body_at G (suc k)) = (g.each (suc k) l).earlier in
    let n : 1 + k ≡ suc k = omega arith in
    let c : CallsBelow (1 + k) (body_at (drop 1 G) k) = subst (λ i. CallsBelow i (body_at (drop 1 G) k)) (sym n) (subst (CallsBelow (suc k)) (sym (drop-body G k)) b) in
    ap (λ i. get_or (but_meanings A first G) i (λ _. A.bottom) args) (sym n)
    ∙ means-behind A (ranks_of G) (first ∷ []) (drop 1 G) k args (length-rest G k l) c
    ∙ ap (λ body. get_or (meanings A (ranks_of G) (but_meanings A first G) args body []) 0 A.bottom) (drop-body G k)

-- the first rule means the function
first-means : {S : Type 0} (A : Algebra S) (first : List S → S) (G : List Rule) → get_or (but_meanings A first G) 0 (λ _. A.bottom) ≡ first
first-means A first G = let f = rule_meanings-front A (ranks_of G) (first ∷ []) (drop 1 G) in ap (λ fs. get_or fs 0 (λ _. A.bottom)) f.1

module _ (e : Scale) (s : ℕ → Rim) (each : ℕ) (G : List Rule) (g : IsGrammar G) (many : length ((s 0).borders) ≡ rank_at G 0) where
  abbrev words : List (List (List Label) → List Label)
  words = but_meanings label_algebra (λ kids. Call 0 ∷ joined kids) G

  abbrev weights : List (List Weighed → Weighed)
  weights = but_meanings (weight_algebra e) (opaque e (s 0) each) G

  abbrev RuleWeighs : ℕ → Type 0
  RuleWeighs q = (ts : List (List Label)) (ws : List Weighed) → length ts ≡ get_or (ranks_of G) q 0 → AllWeigh e s 0 each ts ws
      → Weighs e s 0 each (get_or words q (λ _. Bottom ∷ []) ts) (get_or weights q (λ _. (weight_algebra e).bottom) ws)

  calls-weigh : (k : ℕ) → ((q : ℕ) → q < k → RuleWeighs q) → (ls : List Label) → CallsBelow k ls → CallsWeigh e s 0 each (ranks_of G) words weights ls
  calls-weigh k h [] b = tt
  calls-weigh k h (Bottom ∷ ls) b = calls-weigh k h ls b
  calls-weigh k h (Symbol f ∷ ls) b = calls-weigh k h ls b
  calls-weigh k h (Param ∷ ls) b = calls-weigh k h ls b
  calls-weigh k h (Call q ∷ ls) b = (h q b.0, calls-weigh k h ls b.1)

  one_of : (ts : List (List Label)) (ws : List Weighed) → length ts ≡ 1 → AllWeigh e s 0 each ts ws → Weighs e s 0 each (get_or ts 0 (Bottom ∷ [])) (get_or ws 0 (weight_algebra e).bottom)
  one_of [] ws l h = absurd (omega arith)
  one_of (t ∷ ts) [] l h = absurd h
  one_of (t ∷ ts) (w ∷ ws) l h = h.0

  next-weighs : (k : ℕ) → k < length G → ((q : ℕ) → q < k → RuleWeighs q) → RuleWeighs k
  next-weighs zero l before ts ws n h =
      let m : length ((s 0).borders) ≡ length ts = many ∙ sym (rank_at-ranks_of G 0) ∙ sym n in
      subst (λ f. Weighs e s 0 each (f ts) (get_or weights 0 (λ _. (weight_algebra e).bottom) ws)) (sym (first-means label_algebra (λ kids. Call 0 ∷ joined kids) G))
      (subst (λ f. Weighs e s 0 each (Call 0 ∷ joined ts) (f ws)) (sym (first-means (weight_algebra e) (opaque e (s 0) each) G))
      (opaque-weighs e s 0 each ts ws m h))
  next-weighs (suc k) l before ts ws n h =
      let law = g.each (suc k) l in
      let a = but-means label_algebra (λ kids. Call 0 ∷ joined kids) G g k l ts in
      let b = but-means (weight_algebra e) (opaque e (s 0) each) G g k l ws in
      let p : params (body_at G (suc k)) ≤ length ts = omega (arith, law.linear, rank_at-ranks_of G (suc k)) in
      let m = (meanings-whole label_algebra (ranks_of G) words 1 ts (body_at G (suc k)) [] law.shaped.term).1 in
      subst (λ t. Weighs e s 0 each t (get_or weights (suc k) (λ _. (weight_algebra e).bottom) ws)) (sym a)
      (subst (λ w. Weighs e s 0 each (get_or (meanings label_algebra (ranks_of G) words ts (body_at G (suc k)) []) 0 (Bottom ∷ [])) w) (sym b)
      (one_of (meanings label_algebra (ranks_of G) words ts (body_at G (suc k)) []) (meanings (weight_algebra e) (ranks_of G) weights ws (body_at G (suc k)) []) m
      (meanings-weigh e s 0 each (ranks_of G) words weights 1 (body_at G (suc k)) ts ws law.shaped.term (calls-weigh (suc k) before (body_at G (suc k)) law.earlier) p h)))

  weighs-before : (k : ℕ) → k ≤ length G → (q : ℕ) → q < k → RuleWeighs q
  weighs-before zero l q b = absurd (omega arith)
  weighs-before (suc k) l q b = by_place (cases_lt q k) (weighs-before k (omega arith)) where
    by_place : (q < k) ⊎ (k ≤ q) → ((p : ℕ) → p < k → RuleWeighs p) → RuleWeighs q
    by_place (inl c) ih = ih q c
    by_place (inr c) ih = let same : k ≡ q = omega arith in subst RuleWeighs same (next-weighs k (omega arith) ih)

  -- the edges of the value but for the first rule's calls, and these calls, weigh what the run along the rules tells
  pub but-weighs : all_edges e s (None ∷ []) (value_but G) + each * calls_in 0 (value_but G) ≡ (get_or weights (length G - 1) (λ _. (weight_algebra e).bottom) []).weight
  but-weighs =
      let last = length G - 1 in
      let l : last < length G = omega (arith, g.some) in
      let rank : get_or (ranks_of G) last 0 ≡ 0 = rank_at-ranks_of G last ∙ (g.each last l).shaped.start (omega arith) in
      let w = weighs-before (length G) (omega arith) last l [] [] (sym rank) tt in
      hung-term e s 0 each None (value_but G) (get_or weights last (λ _. (weight_algebra e).bottom) []) w ∙ zero-plus (get_or weights last (λ _. (weight_algebra e).bottom) []).weight where
        zero-plus : (n : ℕ) → 0 + n ≡ n
        zero-plus n = omega arith

-- the law of weights where the first rule stays
module _ (e : Scale) (s : ℕ → Rim) (each : ℕ) (G : List Rule) (g : IsGrammar G) (top : Label) (o : (s 0).root ≡ Some top) (many : length ((s 0).borders) ≡ rank_at G 0) (known : AreKnown ((s 0).borders))
    (rims : ℕ → Rim) (ws : ℕ → ℕ) (first : rims 0 ≡ s 0) (first_weighs : ws 0 ≡ each) (later : (k : ℕ) → suc k < length G → rims (suc k) ≡ rim_of rims (body_at G (suc k)))
    (later_weigh : (k : ℕ) → suc k < length G → ws (suc k) ≡ arisen rims e (None ∷ []) (body_at G (suc k)) + called ws (body_at G (suc k))) where
  abbrev pub own : ℕ → ℕ
  own zero = each
  own (suc k) = arisen rims e (None ∷ []) (body_at G (suc k))

  abbrev pub lists : ℕ → List Label
  lists zero = []
  lists (suc k) = body_at G (suc k)

  abbrev runs : List (List Weighed → Weighed)
  runs = but_meanings (weight_algebra e) (opaque e (s 0) each) G

  told : (k : ℕ) → k < length G → HasBody e (ranks_of G) runs (body_at G) rims ws k ⊎ Told e (ranks_of G) runs (body_at G) rims ws k (rims k) (ws k)
  told zero l =
      inr (subst (λ (r : Rim). Told e (ranks_of G) runs (body_at G) rims ws 0 r (ws 0)) (sym first) (subst (λ (n : ℕ). Told e (ranks_of G) runs (body_at G) rims ws 0 (s 0) n) (sym first_weighs) (record {
        is = subst (λ f. IsRim e (get_or (ranks_of G) 0 0) f (s 0) each) (sym (first-means (weight_algebra e) (opaque e (s 0) each) G))
            (opaque-told e (s 0) (get_or (ranks_of G) 0 0) each (many ∙ sym (rank_at-ranks_of G 0)) known);
        whole = inl (top, o, known);
      })))
  told (suc k) l =
      inl (record {
        earlier = (g.each (suc k) l).earlier;
        term = (g.each (suc k) l).shaped.term;
        linear = (g.each (suc k) l).linear ∙ sym (rank_at-ranks_of G (suc k));
        means = but-means (weight_algebra e) (opaque e (s 0) each) G g k l;
        rim = later k l;
        weight = later_weigh k l;
      })

  adds : (k : ℕ) → k < length G → (ws k ≡ own k + called ws (lists k)) × CallsBelow k (lists k)
  adds zero l = (first_weighs ∙ plus-zero each, tt) where
    plus-zero : (n : ℕ) → n ≡ n + 0
    plus-zero n = omega arith
  adds (suc k) l = (later_weigh k l, (g.each (suc k) l).earlier)

  -- edges and calls of the value but for the first rule's are what arises in the rules, as often as they are used
  pub but-arises : all_edges e s (None ∷ []) (value_but G) + each * calls_in 0 (value_but G) ≡ adds_before own lists (length G) (λ q. if eqb (length G - 1) q then 1 else 0)
  but-arises =
      let last = length G - 1 in
      let l : last < length G = omega (arith, g.some) in
      let rank : get_or (ranks_of G) last 0 ≡ 0 = rank_at-ranks_of G last ∙ (g.each last l).shaped.start (omega arith) in
      let t = (all-told e (ranks_of G) runs (body_at G) rims ws (length G) told last l).is in
      but-weighs e s each G g many
      ∙ omega (arith, t.means None [] (sym rank), hung_all-none e (under None (rims last).borders))
      ∙ sym (sum-one (length G) last ws l)
      ∙ used-adds ws own lists (length G) adds (length G) (λ q. if eqb last q then 1 else 0) (omega arith)

  nothing-added : (n : ℕ) (used : ℕ → ℕ) → ((k : ℕ) → k < n → own k ≡ 0) → adds_before own lists n used ≡ 0
  nothing-added zero used h = refl
  nothing-added (suc n) used h = omega (arith, ap (λ m. used n * m) (h n (omega arith)), nothing-added n (λ q. used q + used n * calls_in q (lists n)) (λ k l. h k (omega (arith, l))))

  -- where nothing arises in any rule, no edge is left
  pub none-left : ((k : ℕ) → k < length G → own k ≡ 0) → all_edges e s (None ∷ []) (value_but G) ≡ 0
  none-left h = omega (arith, but-arises, nothing-added (length G) (λ q. if eqb (length G - 1) q then 1 else 0) h)
