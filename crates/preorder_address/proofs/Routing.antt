-- Routes from rule to rule.
use Rattle.std.proofs.Common.{◌≡◌, ℕ, zero, suc, ◌+◌, ◌<◌, List, [], ◌∷◌, ◌++◌, length, get_or, drop, refl, ap, arith, Option, Some, None, subst}
use Rattle.rule_arena.specs.Terms.{Node, kids_of}
use Rattle.slt_grammar.specs.Bodies.{CallsBelow}
use Rattle.slt_grammar.specs.Grammars.{IsGrammar}
use Rattle.slt_grammar.specs.Keyed.{KeyedRule, labels_of, rules_of, nodes_at}
use Rattle.slt_grammar.specs.Segments.{node_tour}
use Rattle.rule_arena.specs.declared.label.Label.{Label}
use Rattle.rule_arena.specs.declared.label.Label.TheVariants.{Bottom, Symbol, Call, Param}
use Rattle.slt_grammar.specs.Tours.{Stop, opened_kids, once_closed, tour}
use Rattle.segment_counts.specs.Weights.{count_before}
use Rattle.preorder_address.specs.Routes.{past, Found, chosen, sought, stop_weight, onward, routed, route}
use Rattle.slt_grammar.specs.declared.level.Level.{Level}
use Rattle.slt_grammar.proofs.KeyedLemmas.{body_at-rules_of, length-rules_of}

abbrev pub Each : {X : Type 0} → (X → Type 0) → List X → Type 0
Each P [] = Unit {0}
Each P (x ∷ xs) = P x × Each P xs

pub Each-append : {X : Type 0} (P : X → Type 0) (xs ys : List X) → Each P xs → Each P ys → Each P (xs ++ ys)
Each-append P [] ys a b = b
Each-append P (x ∷ xs) ys a b = (a.0, Each-append P xs ys a.1 b)

module _ {X : Type 0} (P : X → Type 0) where
  abbrev OnStops : List (Stop X) → Type 0
  OnStops ms = Each (λ m. P m.item) ms

  each-first : (after : List (List (Stop X))) → Each OnStops after → OnStops (get_or after 0 [])
  each-first [] e = tt
  each-first (a ∷ after) e = e.0

  each-others : (after : List (List (Stop X))) → Each OnStops after → Each OnStops (drop 1 after)
  each-others [] e = tt
  each-others (a ∷ after) e = e.1

  each-once_closed : (n : ℕ) (a : List (Stop X)) → OnStops a → OnStops (once_closed n a)
  each-once_closed zero a e = e
  each-once_closed (suc n) a e = tt

  each-opened_kids : (x : X) (i n : ℕ) (a : List (Stop X)) → P x → OnStops a → Each OnStops (opened_kids x i n a)
  each-opened_kids x i zero a p e = tt
  each-opened_kids x i (suc zero) a p e = ((p, e), tt)
  each-opened_kids x i (suc (suc n)) a p e = ((p, tt), each-opened_kids x (suc i) (suc n) a p e)

  -- what holds of the nodes holds of the stops
  pub each-tour : (ar : X → ℕ) (after : List (List (Stop X))) (xs : List X) → Each P xs → Each OnStops after → OnStops (tour ar after xs)
  each-tour ar after [] e f = tt
  each-tour ar after (x ∷ xs) e f =
      let a = get_or after 0 [] in (
        e.0,
        Each-append (λ m. P m.item) (once_closed (ar x) a) (tour ar (opened_kids x 1 (ar x) a ++ drop 1 after) xs) (each-once_closed (ar x) a (each-first after f))
            (each-tour ar (opened_kids x 1 (ar x) a ++ drop 1 after) xs e.1 (Each-append OnStops (opened_kids x 1 (ar x) a) (drop 1 after) (each-opened_kids x 1 (ar x) a e.0 (each-first after f)) (each-others after f))),
      )

chosen-in : (P : Stop Node → Type 0) (o : Option ℕ) (here f : Found) (later : ℕ → Option Found) → P here.at → ((k : ℕ) → later k ≡ Some f → P f.at) → chosen o here later ≡ Some f → P f.at
chosen-in P None here f later p q e = let g : here ≡ f = cc in subst (λ (x : Found). P x.at) g p
chosen-in P (Some k) here f later p q e = q k e

pub sought-in : (P : Stop Node → Type 0) (W : Stop Node → ℕ) (ms : List (Stop Node)) (n : ℕ) (f : Found) → Each P ms → sought W ms n ≡ Some f → P f.at
sought-in P W [] n f a e = cc
sought-in P W (m ∷ ms) n f a e = chosen-in P (past n (W m)) (record { at = m; offset = n }) f (λ k. sought W ms k) a.0 (λ k d. sought-in P W ms k f a.1 d) e

pub calls-each : (k : ℕ) (ns : List Node) → CallsBelow k (labels_of ns) → Each (λ (x : Node). CallsBelow k (x.label ∷ [])) ns
calls-each k [] c = tt
calls-each k (x ∷ ns) c = let h = head k x.label (labels_of ns) c in (h.0, calls-each k ns h.1)
  where
    head : (k : ℕ) (l : Label) (ls : List Label) → CallsBelow k (l ∷ ls) → CallsBelow k (l ∷ []) × CallsBelow k ls
    head k Bottom ls c = (tt, c)
    head k (Symbol f) ls c = (tt, c)
    head k (Call q) ls c = ((c.0, tt), c.1)
    head k Param ls c = (tt, c)

module _ (w : Label → ℕ) (G : List KeyedRule) (g : IsGrammar (rules_of G)) where
  -- calls that are found name earlier rules
  pub found-below : (r n : ℕ) (f : Found) → r < length G → sought (stop_weight w G) (node_tour G r) n ≡ Some f → CallsBelow r (f.at.item.label ∷ [])
  found-below r n f h e =
      let l = (g.each r (omega (arith, length-rules_of G))).earlier in
      let c = calls-each r (nodes_at G r) (rw (← body_at-rules_of G r) l) in
      sought-in (λ m. CallsBelow r (m.item.label ∷ [])) (stop_weight w G) (node_tour G r) n f (each-tour (λ x. CallsBelow r (x.label ∷ [])) kids_of ([] ∷ []) (nodes_at G r) c (tt, tt)) e

  onward-same : (r : ℕ) (l : Label) (f h : ℕ → List Level) → CallsBelow r (l ∷ []) → ((q : ℕ) → q < r → f q ≡ h q) → onward l f ≡ onward l h
  onward-same r Bottom f h c e = refl
  onward-same r (Symbol s) f h c e = refl
  onward-same r (Call q) f h c e = e q c.0
  onward-same r Param f h c e = refl

  routed-same : (r n : ℕ) (o : Option Found) (f h : ℕ → ℕ → ℕ → List Level) → r < length G → sought (stop_weight w G) (node_tour G r) n ≡ o → ((q i k : ℕ) → q < r → f q i k ≡ h q i k) → routed r o f ≡ routed r o h
  routed-same r n None f h b e s = refl
  routed-same r n (Some m) f h b e s = ap (λ ls. record { rule = r; key = m.at.item.key } ∷ ls) (onward-same r m.at.item.label (λ q. f q m.at.part m.offset) (λ q. h q m.at.part m.offset) (found-below r n m b e) (λ q l. s q m.at.part m.offset l))

  -- enough is enough
  pub route-same : (j k r n : ℕ) → r < j → r < k → r < length G → route w G j r n ≡ route w G k r n
  route-same zero k r n a b h = absurd (omega arith)
  route-same (suc j) zero r n a b h = absurd (omega arith)
  route-same (suc j) (suc k) r n a b h = routed-same r n (sought (stop_weight w G) (node_tour G r) n) _ _ h refl (λ q i o l. route-same j k q (count_before w (rules_of G) q i + o) (omega arith) (omega arith) (omega arith))
