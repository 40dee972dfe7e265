-- A node of the start's body once the term of its first child became a rule of its own.
use Rattle.std.proofs.Common.{◌≡◌, ℕ, zero, suc, ◌+◌, ◌-◌, ◌<◌, ◌≤◌, List, [], ◌∷◌, ◌++◌, length, get_or, take, drop, Option, Some, refl, ap, sym, ◌∙◌, subst, arith, ◌⊎◌, inl, inr}
use Rattle.std.specs.Prelude.{IsSome, slice_get}
use Rattle.std.proofs.lemmas.Bool.{cases_lt}
use Rattle.std.proofs.lemmas.List.{drop_all, drop_more, length-map, length-take-le, map-append, take-append-drop, take-map}
use Rattle.rule_arena.specs.Preorder.{AreTerms, span, subterm}
use Rattle.rule_arena.specs.Terms.{Node, key_in, kids_of}
use Rattle.rule_arena.specs.declared.key.Key.{Key}
use Rattle.rule_arena.specs.declared.label.Label.{Label}
use Rattle.rule_arena.specs.declared.label.Label.TheVariants.{Bottom, Symbol, Call, Param}
use Rattle.rule_arena.proofs.NodeLemmas.{same_key}
use Rattle.rule_arena.proofs.PreorderLemmas.{AreTerms-with}
use Rattle.slt_grammar.specs.Algebras.{ranks_of}
use Rattle.slt_grammar.specs.Bodies.{arity, CallsBelow}
use Rattle.slt_grammar.specs.ChangedValues.{StandsWithin, start_body, term_around}
use Rattle.slt_grammar.specs.Grammars.{body_at, rank_at, value, value_at}
use Rattle.slt_grammar.specs.Holding.{IsLawful}
use Rattle.slt_grammar.specs.Keyed.{KeyedRule, key_at, labels_of, nodes_at, rules_of}
use Rattle.slt_grammar.specs.KeyedEdits.{label_at, rule_shared}
use Rattle.slt_grammar.specs.RuleValues.{HasRuleMore, HaveOtherValues}
use Rattle.slt_grammar.specs.Wrapping.{IsInStart, IsWrapper}
use Rattle.slt_grammar.specs.declared.rules.Rule.{Rule}
use Rattle.slt_grammar.proofs.Keeping.{CallsBelow-take, shifted-before}
use Rattle.slt_grammar.proofs.KeyedLemmas.{body_at-rules_of, key_at-within, key_in-there, length-rules_of}
use Rattle.segment_counts.specs.Weights.{node_weight}
use Rattle.linked_edits.specs.Endings.{EndsInParam}
use Rattle.tree_updates.specs.Copies.{IsTwinBody, SharesBelow}
use Rattle.tree_updates.specs.Differences.{hole_at}
use Rattle.tree_updates.specs.Marked.{number_before}
use Rattle.tree_updates.specs.Numbered.{IsNodeIsolated}
use Rattle.tree_updates.proofs.CalledBelow.{shares-below, twin-wraps}
use Rattle.tree_updates.proofs.InStart.{last, same-value}
use Rattle.tree_updates.proofs.PlaceNumbers.{before-place, number-same}

abbrev none_there : KeyedRule
none_there = record { rank = 0; nodes = [] }

-- the last two rules behind others
many-two : (G : List KeyedRule) (r : ℕ) (A B : KeyedRule) → r ≤ length G → length (take r G ++ A ∷ B ∷ []) ≡ suc (suc r)
many-two G zero A B h = refl
many-two [] (suc r) A B h = absurd (omega arith)
many-two (R ∷ G) (suc r) A B h = ap suc (many-two G r A B (omega arith))

second-last : (G : List KeyedRule) (r : ℕ) (A B : KeyedRule) → r ≤ length G → get_or (take r G ++ A ∷ B ∷ []) (suc r) none_there ≡ B
second-last G zero A B h = refl
second-last [] (suc r) A B h = absurd (omega arith)
second-last (R ∷ G) (suc r) A B h = second-last G r A B (omega arith)

first-rank : (G : List KeyedRule) (r : ℕ) (A B : KeyedRule) → r ≤ length G → rank_at (rules_of (take r G ++ A ∷ B ∷ [])) r ≡ A.rank
first-rank G zero A B h = refl
first-rank [] (suc r) A B h = absurd (omega arith)
first-rank (R ∷ G) (suc r) A B h = first-rank G r A B (omega arith)

ranks-before : (G : List KeyedRule) (r q : ℕ) (Rs : List KeyedRule) → r ≤ length G → q < r → get_or (ranks_of (rules_of (take r G ++ Rs))) q 0 ≡ get_or (ranks_of (rules_of G)) q 0
ranks-before G zero q Rs h l = absurd (omega arith)
ranks-before [] (suc r) q Rs h l = absurd (omega arith)
ranks-before (R ∷ G) (suc r) zero Rs h l = refl
ranks-before (R ∷ G) (suc r) (suc q) Rs h l = ranks-before G r q Rs (omega arith) (omega arith)

-- nodes of which all from a place on are others
front-node : (ns rest : List Node) (j i : ℕ) → j ≤ length ns → i < j → slice_get (take j ns ++ rest) i ≡ slice_get ns i
front-node ns rest zero i h l = absurd (omega arith)
front-node [] rest (suc j) i h l = absurd (omega arith)
front-node (n ∷ ns) rest (suc j) zero h l = refl
front-node (n ∷ ns) rest (suc j) (suc i) h l = front-node ns rest j i (omega arith) (omega arith)

front-label : (ns rest : List Node) (j i : ℕ) → j ≤ length ns → i < j → get_or (labels_of (take j ns ++ rest)) i Bottom ≡ get_or (labels_of ns) i Bottom
front-label ns rest zero i h l = absurd (omega arith)
front-label [] rest (suc j) i h l = absurd (omega arith)
front-label (n ∷ ns) rest (suc j) zero h l = refl
front-label (n ∷ ns) rest (suc j) (suc i) h l = front-label ns rest j i (omega arith) (omega arith)

next-label : (ns rest : List Node) (m : Node) (j : ℕ) → j ≤ length ns → get_or (labels_of (take j ns ++ m ∷ rest)) j Bottom ≡ m.label
next-label ns rest m zero h = refl
next-label [] rest m (suc j) h = absurd (omega arith)
next-label (n ∷ ns) rest m (suc j) h = next-label ns rest m j (omega arith)

many-front : (ns rest : List Node) (m : Node) (j : ℕ) → j ≤ length ns → j < length (labels_of (take j ns ++ m ∷ rest))
many-front ns rest m zero h = omega arith
many-front [] rest m (suc j) h = absurd (omega arith)
many-front (n ∷ ns) rest m (suc j) h = omega (arith, many-front ns rest m j (omega arith))

front-parts : (ns rest : List Node) (p j : ℕ) → p ≤ j → j ≤ length ns → (zs : List Node) × (take j ns ++ rest ≡ take p ns ++ zs)
front-parts ns rest zero j h l = (take j ns ++ rest, refl)
front-parts ns rest (suc p) zero h l = absurd (omega arith)
front-parts [] rest (suc p) (suc j) h l = absurd (omega arith)
front-parts (n ∷ ns) rest (suc p) (suc j) h l = let i = front-parts ns rest p j (omega arith) (omega arith) in (i.0, ap (λ (xs : List Node). n ∷ xs) i.1)

-- a rule more, in terms of rules with the same values
pub more-rules : (G H S : List Rule) (rule : ℕ) → length H ≡ length G → ((q : ℕ) → value_at H q ≡ value_at G q) → HasRuleMore rule H S → HasRuleMore rule G S
more-rules G H S rule n v m = record {
  within = let w = m.within in omega (arith, n, w);
  more = m.more ∙ ap (λ (k : ℕ). k + 1) n;
  values = λ q l. m.values q (omega (arith, n, l)) ∙ v q;
}

-- a node of the start's body by its number
module _ (H : List KeyedRule) (L : IsLawful H) (n : ℕ) (at : Key) (I : IsNodeIsolated H n at) where
  abbrev pub r : ℕ
  r = length H - 1

  abbrev pub p : ℕ
  p = I.place

  abbrev ns : List Node
  ns = nodes_at H (length H - 1)

  start : length H - 1 + 1 ≡ length H
  start = last H n at I

  inside : I.place < length (nodes_at H (length H - 1))
  inside = (key_at-within H (length H - 1) I.place at I.there).1

  body-is : body_at (rules_of H) (length H - 1) ≡ labels_of (nodes_at H (length H - 1))
  body-is = body_at-rules_of H (length H - 1)

  many-labels : length (labels_of (nodes_at H (length H - 1))) ≡ length (nodes_at H (length H - 1))
  many-labels = length-map (nodes_at H (length H - 1)) (λ (m : Node). m.label)

  -- its first child stands just behind it
  child-inside : I.place + 1 < length (nodes_at H (length H - 1))
  child-inside = by (cases_lt (p + 1) (length ns))
    where
      G : List Rule
      G = rules_of H

      body : List Label
      body = body_at (rules_of H) (length H - 1)

      whole : length (body_at (rules_of H) (length H - 1)) ≡ length (nodes_at H (length H - 1))
      whole = ap length body-is ∙ many-labels

      term : AreTerms (arity (ranks_of (rules_of H))) 1 (subterm (arity (ranks_of (rules_of H))) (body_at (rules_of H) (length H - 1)) I.place)
      term =
          (AreTerms-with (arity (ranks_of (rules_of H))) 1 (body_at (rules_of H) (length H - 1)) p (Bottom ∷ []) (L.grammar.each r (omega (arith, start, length-rules_of H))).shaped.term (omega (arith, whole, inside)) tt).0

      by : (p + 1 < length ns) ⊎ (length ns ≤ p + 1) → p + 1 < length ns
      by (inl l) = l
      by (inr l) =
          let ar : Label → ℕ = arity (ranks_of (rules_of H)) in
          let from : drop p (body_at (rules_of H) r) ≡ Symbol I.symbol ∷ [] =
          drop_more (body_at (rules_of H) r) p Bottom (omega (arith, whole, inside)) ∙ ap (λ (l : Label). l ∷ drop (p + 1) (body_at (rules_of H) r)) I.label
          ∙ ap (λ (ls : List Label). Symbol I.symbol ∷ ls) (drop_all (p + 1) (body_at (rules_of H) r) (omega (arith, whole, l))) in
          absurd (subst (λ (ls : List Label). AreTerms ar 1 (take (span ar 1 ls) ls)) from term)

  pub child-there : (o : Option Key) → key_at H (length H - 1) (I.place + 1) ≡ o → IsSome o
  child-there o e = let k = key_in-there ns (p + 1) child-inside in subst (λ x. IsSome x) (sym k.1 ∙ e) refl

  pub child-in-start : (child : Key) (o : Option Key) → key_at H (length H - 1) (I.place + 1) ≡ o → o ≡ Some child → IsInStart H child
  child-in-start child o e f = record { here = record { rule = r; place = p + 1; there = e ∙ f }; start = start }

  -- once its term became a rule
  module _ (S : List KeyedRule) (L' : IsLawful S) (call : Key) (new : S ≡ rule_shared H (length H - 1) (I.place + 1) call) (more : HasRuleMore (length H - 1) (rules_of H) (rules_of S)) where
    abbrev leaf : Node
    leaf = record { key = call; label = Call r; kids = 0 }

    abbrev back : List Node
    back = drop (span kids_of 1 (drop (p + 1) ns)) (drop (p + 1) ns)

    abbrev A : KeyedRule
    A = record { rank = 0; nodes = subterm kids_of ns (p + 1) }

    abbrev ms : List Node
    ms = take (p + 1) ns ++ leaf ∷ back

    abbrev B : KeyedRule
    B = record { rank = 0; nodes = ms }

    fits : r ≤ length H
    fits = omega (arith, start)

    below : I.place + 1 ≤ length (nodes_at H (length H - 1))
    below = omega (arith, inside)

    many : length S ≡ suc (suc r)
    many = ap length new ∙ many-two H r A B fits

    start-is : length S - 1 ≡ suc r
    start-is = omega (arith, many)

    nodes-are : nodes_at S (length S - 1) ≡ ms
    nodes-are = ap (nodes_at S) start-is ∙ ap (λ (X : List KeyedRule). nodes_at X (suc r)) new ∙ ap (λ (R : KeyedRule). R.nodes) (second-last H r A B fits)

    new-body : body_at (rules_of S) (length S - 1) ≡ labels_of ms
    new-body = body_at-rules_of S (length S - 1) ∙ ap labels_of nodes-are

    pub shared-start : length S - 1 + 1 ≡ length S
    shared-start = omega (arith, many)

    shared-rank : rank_at (rules_of S) (length H - 1) ≡ 0
    shared-rank = ap (λ (X : List KeyedRule). rank_at (rules_of X) r) new ∙ first-rank H r A B fits

    shared-low : length H - 1 < length (rules_of S) - 1
    shared-low = omega (arith, many, length-rules_of S)

    pub stays-there : key_at S (length S - 1) I.place ≡ Some at
    stays-there =
        ap (λ (xs : List Node). key_in xs p) nodes-are ∙ same_key ms ns p p (front-node ns (leaf ∷ back) (p + 1) p below (omega arith)) ∙ I.there

    stays-labelled : label_at S (length S - 1) I.place ≡ Symbol I.symbol
    stays-labelled =
        ap (λ (ls : List Label). get_or ls p Bottom) new-body ∙ front-label ns (leaf ∷ back) (p + 1) p below (omega arith)
        ∙ sym (ap (λ (ls : List Label). get_or ls p Bottom) body-is) ∙ I.label

    start-same : start_body (rules_of S) ≡ body_at (rules_of S) (length S - 1)
    start-same = ap (λ (k : ℕ). body_at (rules_of S) (k - 1)) (length-rules_of S)

    calls-next : get_or (start_body (rules_of S)) (I.place + 1) Bottom ≡ Call (length H - 1)
    calls-next = ap (λ (ls : List Label). get_or ls (p + 1) Bottom) (start-same ∙ new-body) ∙ next-label ns back leaf (p + 1) below

    next-inside : I.place + 1 < length (start_body (rules_of S))
    next-inside = omega (arith, ap length (start-same ∙ new-body), many-front ns back leaf (p + 1) below)

    values : (q : ℕ) → q < r → value_at (rules_of S) q ≡ value_at (rules_of H) q
    values q l = ap (value_at (rules_of S)) (sym (shifted-before r q l)) ∙ more.values q (omega (arith, l, start, length-rules_of H))

    ranks : (q : ℕ) → q < r → get_or (ranks_of (rules_of S)) q 0 ≡ get_or (ranks_of (rules_of H)) q 0
    ranks q l = ap (λ (X : List KeyedRule). get_or (ranks_of (rules_of X)) q 0) new ∙ ranks-before H r q (A ∷ B ∷ []) fits l

    abbrev xs : List Label
    xs = take p (labels_of ns)

    long : length xs ≡ p
    long = length-take-le p (labels_of ns) (omega (arith, many-labels, inside))

    old-parts : body_at (rules_of H) (length H - 1) ≡ xs ++ drop p (labels_of ns)
    old-parts = body-is ∙ sym (take-append-drop p (labels_of ns))

    new-parts : (zs : List Label) × (body_at (rules_of S) (length S - 1) ≡ xs ++ zs)
    new-parts =
        let w = front-parts ns (leaf ∷ back) p (p + 1) (omega arith) below in
        (labels_of w.0, new-body ∙ ap labels_of w.1 ∙ map-append (λ (m : Node). m.label) (take p ns) w.0 ∙ ap (λ (ls : List Label). ls ++ labels_of w.0) (sym (take-map (λ (m : Node). m.label) p ns)))

    calls : CallsBelow r xs
    calls = CallsBelow-take r p (labels_of ns) (subst (CallsBelow r) body-is (L.grammar.each r (omega (arith, start, length-rules_of H))).earlier)

    -- the node has the number that it had
    stays-numbered : hole_at node_weight (term_around (rules_of S) I.place) ≡ n
    stays-numbered =
        let w = node_weight in
        let z = new-parts in
        before-place w S L' p I.symbol at shared-start stays-there stays-labelled
        ∙ ap (λ (ls : List Label). number_before w (rules_of S) [] ([] ∷ []) p ls) z.1
        ∙ ap (λ (i : ℕ). number_before w (rules_of S) [] ([] ∷ []) i (xs ++ z.0)) (sym long)
        ∙ number-same w (rules_of H) (rules_of S) r values ranks [] ([] ∷ []) xs z.0 (drop p (labels_of ns)) calls (refl, tt)
        ∙ ap (λ (i : ℕ). number_before w (rules_of H) [] ([] ∷ []) i (xs ++ drop p (labels_of ns))) long
        ∙ ap (λ (ls : List Label). number_before w (rules_of H) [] ([] ∷ []) p ls) (sym old-parts)
        ∙ sym (before-place w H L p I.symbol at start I.there I.label) ∙ I.before

    -- a symbol over the call may come around it
    module _ (G : List KeyedRule) (as_many : length H ≡ length G) (s : ℕ) (body : List Label) (twin : IsTwinBody s (Call (length G - 1)) body) where
      twin-is : body ≡ Symbol s ∷ Call (length H - 1) ∷ Param ∷ []
      twin-is = twin ∙ ap (λ (k : ℕ). Symbol s ∷ Call (k - 1) ∷ Param ∷ []) (sym as_many)

      pub wraps : IsWrapper (rules_of S) body
      wraps = subst (IsWrapper (rules_of S)) (sym twin-is) (twin-wraps (rules_of S) r shared-rank s shared-low)

      pub ends : EndsInParam body
      ends = record { front = Symbol s ∷ Call r ∷ []; is = twin-is }

      -- and does, where that changes the start alone
      pub shares : ((q : ℕ) → value_at (rules_of H) q ≡ value_at (rules_of G) q) → value (rules_of S) ≡ value (rules_of H) → (K : List Rule) → HaveOtherValues (length (rules_of S) - 1) (rules_of S) K → StandsWithin (rules_of S) K I.place body
          → SharesBelow (rules_of G) K (length G - 1) n s
      shares v same K others W =
          let m : length (rules_of H) ≡ length (rules_of G) = length-rules_of H ∙ as_many ∙ sym (length-rules_of G) in
          subst (λ (q : ℕ). SharesBelow (rules_of G) K q n s) (ap (λ (k : ℕ). k - 1) as_many)
          (shares-below (rules_of S) r shared-rank s L'.grammar p I.symbol (omega (arith, next-inside)) (ap (λ (ls : List Label). get_or ls p Bottom) start-same ∙ stays-labelled) next-inside calls-next (rules_of G) K n stays-numbered
          (more-rules (rules_of G) (rules_of H) (rules_of S) r m v more) (same ∙ same-value (rules_of G) (rules_of H) m v) others body twin-is W)
