-- The first level of a chain, and an inlined call on the way.
use Rattle.std.proofs.Common.{◌≡◌, ℕ, zero, suc, ◌+◌, ◌-◌, ◌<◌, ◌≤◌, ◌*◌, List, [], ◌∷◌, ◌++◌, length, get_or, take, drop, Some, slice_get, refl, sym, ap, ◌∙◌, subst, arith}
use Rattle.rule_arena.specs.Preorder.{span}
use Rattle.rule_arena.specs.Terms.{Node, key_in, kids_of}
use Rattle.rule_arena.specs.declared.key.Key.{Key}
use Rattle.rule_arena.specs.declared.label.Label.{Label}
use Rattle.rule_arena.specs.declared.label.Label.TheVariants.{Bottom, Call}
use Rattle.slt_grammar.specs.Algebras.{ranks_of, all_meanings}
use Rattle.slt_grammar.specs.Bodies.{arity, params, real_nodes}
use Rattle.slt_grammar.specs.Editing.{inlined, with_body}
use Rattle.slt_grammar.specs.ChangedValues.{start_body}
use Rattle.slt_grammar.specs.Grammars.{body_at, rank_at, size, value_at, whole}
use Rattle.slt_grammar.specs.Keyed.{KeyedRule, key_at, nodes_at, rules_of, labels_of}
use Rattle.slt_grammar.specs.Terms.{Term, Leaf, Hole, holes, term_algebra}
use Rattle.slt_grammar.specs.declared.rules.Rule.{Rule}
use Rattle.slt_grammar.proofs.Inlining.{ranks-with_body}
use Rattle.slt_grammar.proofs.Keeping.{length-with_body}
use Rattle.slt_grammar.proofs.KeyedLemmas.{body_at-rules_of, length-rules_of, key_at-within}
use Rattle.slt_grammar.proofs.RuleMeanings.{rank_at-ranks_of}
use Rattle.std.proofs.lemmas.List.{length-map, length-take-le, take-append-le, take-take}
use Rattle.slt_grammar.specs.Copying.{args_at, copied, holes_in, kids_at, inlined_nodes}
use Rattle.slt_grammar.specs.Holding.{IsLawful}
use Rattle.slt_grammar.specs.KeyedEdits.{IsInlined, StandsAsCall, label_at, with_nodes}
use Rattle.slt_grammar.specs.Ways.{HaveSameRules}
use Rattle.slt_grammar.proofs.Agreeing.{agree-of}
use Rattle.slt_grammar.proofs.InlinedRules.{holes-params, kids-label, labels-inlined, inlined-lawful, inlined-means}
use Rattle.slt_grammar.proofs.KeyedEdits.{rules-with_nodes, nodes-with_nodes}
use Rattle.path_isolation.specs.Chains.{IsChain, Leads, led, last_label, meaning_with, weight_of}
use Rattle.path_isolation.specs.Isolations.{IsRestated, IsIsolated, IsSameInFront, Walk, calls_along, come_along, first_place, room_along, start_of}
use Rattle.slt_grammar.specs.declared.level.Level.{Level}
use Rattle.path_isolation.proofs.Around.{around-node}
use Rattle.path_isolation.proofs.ChainLemmas.{AreAsBefore, as-before, inner-leads, leads-same, last_label-same, weight-same, led-same, meaning_with-same, earlier, levels-before, weight-all}
use Rattle.path_isolation.proofs.Copied.{key-inlined, real_nodes-inlined, sum-with_body}
use Rattle.path_isolation.proofs.Marks.{IsInner, landing, given_at, with-inlined, label-inlined}

-- the chain from its first level on
pub walk-first : (G : List KeyedRule) (l : Level) (ls : List Level) (qs : List ℕ) → IsLawful G → IsChain G (l ∷ ls) qs → Walk G (l ∷ ls) qs G l.key ls
walk-first G l ls [] L c = absurd c
walk-first G l ls (p ∷ ps) L c =
    let e : l.rule ≡ start_of G = omega (arith, c.0) in
    let h : Leads G (label_at G (start_of G) p) ls ps = subst (λ r. Leads G (label_at G r p) ls ps) e c.2 in
    record {
      restated = record { differ = record { many = refl; others = λ r h. refl }; ranks = refl; means = refl };
      lawful = L;
      place = p;
      ps = ps;
      there = subst (λ r. key_at G r p ≡ Some l.key) e c.1;
      front = refl;
      behind = omega arith;
      leads = h;
      label = ap (λ r. last_label G (label_at G r p) ls ps) (sym e);
      node = λ F. ap (λ r. meaning_with term_algebra (rules_of G) (body_at (rules_of G) r) p (led term_algebra G ls ps F) []) (sym e);
      size = omega arith;
    }

rules-before : (G : List KeyedRule) (r s : ℕ) (rest : List KeyedRule) → r ≤ length G → s < r → slice_get (take r G ++ rest) s ≡ slice_get G s
rules-before [] r s rest h l = absurd (omega (arith, h, l))
rules-before (R ∷ G) zero s rest h l = absurd (omega (arith, l))
rules-before (R ∷ G) (suc r) zero rest h l = refl
rules-before (R ∷ G) (suc r) (suc s) rest h l = rules-before G r s rest (omega (arith, h)) (omega (arith, l))

module _ (G : List KeyedRule) (r p q j : ℕ) (here follow : Key) (keys : List Key) (L : IsLawful G) (there : key_at G r p ≡ Some here) (label : label_at G r p ≡ Call q)
    (followed : key_at G q j ≡ Some follow) (inner : IsInner (label_at G q j)) where
  abbrev R : List Rule
  R = rules_of G

  abbrev ranks : List ℕ
  ranks = ranks_of (rules_of G)

  abbrev B : List Label
  B = body_at (rules_of G) r

  abbrev C : List Label
  C = body_at (rules_of G) q

  abbrev inl : List Label
  inl = inlined (ranks_of (rules_of G)) (get_or (ranks_of (rules_of G)) q 0) (body_at (rules_of G) q) (body_at (rules_of G) r) p

  abbrev pub landed : ℕ
  landed = p + landing (body_at (rules_of G) q) j (given_at (ranks_of (rules_of G)) (body_at (rules_of G) r) p q)

  within : r < length G
  within = (key_at-within G r p here there).0

  within-rules : r < length (rules_of G)
  within-rules = omega (arith, within, length-rules_of G)

  lower : q < r
  lower = earlier G r p q L.grammar within label

  lower-rules : q < length (rules_of G)
  lower-rules = omega (arith, lower, within-rules)

  linear : params (body_at (rules_of G) q) ≡ get_or (ranks_of (rules_of G)) q 0
  linear = (L.grammar.each q lower-rules).linear ∙ sym (rank_at-ranks_of (rules_of G) q)

  body-len : p < length (body_at (rules_of G) r)
  body-len = omega (arith, (key_at-within G r p here there).1, ap length (body_at-rules_of G r), length-map (nodes_at G r) (λ (n : Node). n.label))

  callee-len : j < length (body_at (rules_of G) q)
  callee-len = omega (arith, (key_at-within G q j follow followed).1, ap length (body_at-rules_of G q), length-map (nodes_at G q) (λ (n : Node). n.label))

  kids : kids_at (nodes_at G r) p ≡ get_or (ranks_of (rules_of G)) q 0
  kids =
      kids-label (ranks_of (rules_of G)) (nodes_at G r) p here (agree-of (ranks_of (rules_of G)) (nodes_at G r) (L.arities r)) there
      ∙ ap (λ ls. arity (ranks_of (rules_of G)) (get_or ls p Bottom)) (sym (body_at-rules_of G r)) ∙ ap (arity (ranks_of (rules_of G))) label

  many-holes : holes_in (nodes_at G q) ≡ get_or (ranks_of (rules_of G)) q 0
  many-holes = holes-params (nodes_at G q) ∙ ap params (sym (body_at-rules_of G q)) ∙ linear

  module _ (H : List KeyedRule) (new : H ≡ with_nodes G r (inlined_nodes (nodes_at G r) p (nodes_at G q) keys)) where
    nodes-new : nodes_at H r ≡ inlined_nodes (nodes_at G r) p (nodes_at G q) keys
    nodes-new = ap (λ K. nodes_at K r) new ∙ nodes-with_nodes G r (inlined_nodes (nodes_at G r) p (nodes_at G q) keys) within

    pub front-new : (n : ℕ) → n ≤ p → take n (nodes_at H r) ≡ take n (nodes_at G r)
    front-new n h =
        let ns : List Node = nodes_at G r in
        let few : length (take p ns) ≡ p = length-take-le p ns (omega (arith, (key_at-within G r p here there).1)) in
        ap (take n) nodes-new ∙ take-append-le n (take p ns) (copied (nodes_at G q) (args_at ns p) keys ++ drop (span kids_of 1 (drop p ns)) (drop p ns)) (omega (arith, h, few)) ∙ take-take n p ns h

    labels-new : labels_of (inlined_nodes (nodes_at G r) p (nodes_at G q) keys) ≡ inl
    labels-new =
        let ns : List ℕ = ranks_of (rules_of G) in
        labels-inlined ns (nodes_at G r) p here (nodes_at G q) keys (agree-of ns (nodes_at G r) (L.arities r)) there (kids ∙ sym many-holes)
        ∙ ap (λ n. inlined ns n (labels_of (nodes_at G q)) (labels_of (nodes_at G r)) p) many-holes
        ∙ ap (λ ls. inlined ns (get_or ns q 0) ls (labels_of (nodes_at G r)) p) (sym (body_at-rules_of G q))
        ∙ ap (λ ls. inlined ns (get_or ns q 0) (body_at (rules_of G) q) ls p) (sym (body_at-rules_of G r))

    pub body-new : body_at (rules_of H) r ≡ inl
    body-new = body_at-rules_of H r ∙ ap labels_of nodes-new ∙ labels-new

    rules-new : rules_of H ≡ with_body (rules_of G) r inl
    rules-new =
        ap rules_of new ∙ rules-with_nodes G r (inlined_nodes (nodes_at G r) p (nodes_at G q) keys)
        ∙ ap (with_body (rules_of G) r) labels-new

    pub ranks-new : ranks_of (rules_of H) ≡ ranks_of (rules_of G)
    ranks-new = ap ranks_of rules-new ∙ ranks-with_body (rules_of G) r inl within-rules

    pub many-new : length H ≡ length G
    many-new = sym (length-rules_of H) ∙ ap length rules-new ∙ length-with_body (rules_of G) r inl within-rules ∙ length-rules_of G

    pub others-new : (s : ℕ) → s < r → slice_get H s ≡ slice_get G s
    others-new s d = ap (λ K. slice_get K s) new ∙ rules-before G r s (record { rank = rank_at (rules_of G) r; nodes = inlined_nodes (nodes_at G r) p (nodes_at G q) keys } ∷ drop (r + 1) G) (omega (arith, within)) d

    pub lawful-new : IsLawful H
    lawful-new = subst IsLawful (sym new) (inlined-lawful G r p q here keys L there label)

    pub means-new : all_meanings term_algebra (rules_of H) ≡ all_meanings term_algebra (rules_of G)
    means-new = ap (λ K. all_meanings term_algebra (rules_of K)) new ∙ inlined-means G r p q here keys L there label term_algebra

    pub key-new : (key : Key) → slice_get keys j ≡ Some key → key_at H r landed ≡ Some key
    key-new key e =
        let ns : List ℕ = ranks_of (rules_of G) in
        let x : j < length (nodes_at G q) = (key_at-within G q j follow followed).1 in
        let i : IsInner (get_or (labels_of (nodes_at G q)) j Bottom) = subst (λ ls. IsInner (get_or ls j Bottom)) (body_at-rules_of G q) inner in
        let k = key-inlined ns (nodes_at G r) p (nodes_at G q) keys j key q (agree-of ns (nodes_at G r) (L.arities r)) (key_at-within G r p here there).1 kids (kids ∙ sym many-holes) e x i in
        ap (λ ms. key_in ms landed) nodes-new
        ∙ ap (λ ls. key_in (inlined_nodes (nodes_at G r) p (nodes_at G q) keys) (p + landing ls j (given_at ns (body_at (rules_of G) r) p q))) (body_at-rules_of G q)
        ∙ ap (λ ls. key_in (inlined_nodes (nodes_at G r) p (nodes_at G q) keys) (p + landing (labels_of (nodes_at G q)) j (given_at ns ls p q))) (body_at-rules_of G r)
        ∙ k

    pub label-new : label_at H r landed ≡ label_at G q j
    label-new =
        ap (λ ls. get_or ls landed Bottom) body-new
        ∙ label-inlined term_algebra (ranks_of (rules_of G)) (all_meanings term_algebra (rules_of G)) (body_at (rules_of G) r) (body_at (rules_of G) q) p q j
        (L.grammar.each r within-rules).shaped.term body-len label (L.grammar.each q lower-rules).shaped.term linear callee-len inner

    pub node-new : (F : List Term → Term) (args : List Term)
        → meaning_with term_algebra (rules_of H) (body_at (rules_of H) r) landed F args ≡ meaning_with term_algebra (rules_of G) (body_at (rules_of G) r) p (meaning_with term_algebra (rules_of G) (body_at (rules_of G) q) j F) args
    node-new F args =
        ap (λ ls. meaning_with term_algebra (rules_of H) ls landed F args) body-new
        ∙ ap (λ (f : List Term → Term). f args) (meaning_with-same (rules_of G) (rules_of H) inl landed F ranks-new means-new)
        ∙ ap (λ (ts : List Term). get_or ts 0 Leaf) (with-inlined term_algebra (ranks_of (rules_of G)) (all_meanings term_algebra (rules_of G)) (body_at (rules_of G) r) (body_at (rules_of G) q) p q j
        (L.grammar.each r within-rules).shaped.term body-len label (L.grammar.each q lower-rules).shaped.term linear callee-len inner F args)

    pub size-new : size (rules_of H) + 1 ≡ size (rules_of G) + real_nodes (body_at (rules_of G) q)
    size-new =
        omega (
          arith,
          ap size rules-new,
          sum-with_body real_nodes (rules_of G) r inl within-rules,
          real_nodes-inlined (ranks_of (rules_of G)) (body_at (rules_of G) q) (body_at (rules_of G) r) p q (L.grammar.each r within-rules).shaped.term body-len label
              (L.grammar.each q lower-rules).shaped.term linear,
        )

start-below : (n r : ℕ) → r + 1 < n → r < n - 1
start-below n r h = omega (arith, h)

-- after the next call was inlined
pub walk-next : (G : List KeyedRule) (levels : List Level) (qs : List ℕ) (H K : List KeyedRule) (here key : Key) (m : Level) (ls : List Level) (ps : List ℕ) (place : ℕ) (keys : List Key)
    → IsRestated G H → IsLawful H → key_at H (start_of G) place ≡ Some here → take (first_place qs) (nodes_at H (start_of G)) ≡ take (first_place qs) (nodes_at G (start_of G)) → first_place qs ≤ place
    → Leads H (label_at H (start_of G) place) (m ∷ ls) ps
    → last_label H (label_at H (start_of G) place) (m ∷ ls) ps ≡ last_label G Bottom levels qs
    → ((F : List Term → Term) → meaning_with term_algebra (rules_of H) (body_at (rules_of H) (start_of G)) place (led term_algebra H (m ∷ ls) ps F) [] ≡ led term_algebra G levels qs F [])
    → size (rules_of H) + (weight_of real_nodes H (m ∷ ls) + calls_along levels) ≡ size (rules_of G) + (come_along G levels + length (m ∷ ls))
    → K ≡ with_nodes H (start_of G) (inlined_nodes (nodes_at H (start_of G)) place (nodes_at H m.rule) keys)
    → ((j : ℕ) → key_at H m.rule j ≡ Some m.key → slice_get keys j ≡ Some key)
    → Walk G levels qs K key ls
walk-next G levels qs H K here key m ls [] place keys S L there front behind leads label node sz new follows = absurd leads
walk-next G levels qs H K here key m ls (j ∷ ps) place keys S L there front behind leads label node sz new follows =
    let r : ℕ = start_of G in
    let q : ℕ = m.rule in
    let inner : IsInner (label_at H q j) = inner-leads H (label_at H q j) ls ps leads.2 in
    let w = (key_at-within H r place here there).0 in
    let lt : q < r = earlier H r place q L.grammar w leads.0 in
    let o : ℕ = landed H r place q j here m.key keys L there leads.0 leads.1 inner in
    let others = others-new H r place q j here m.key keys L there leads.0 leads.1 inner K new in
    let before : AreAsBefore H K ls = as-before H K ls (levels-before H K q j ls ps L.grammar (omega (arith, lt, w)) leads.2 (λ s h. others s (omega (arith, h, lt)))) in
    let ranks = ranks-new H r place q j here m.key keys L there leads.0 leads.1 inner K new in
    let means = means-new H r place q j here m.key keys L there leads.0 leads.1 inner K new in
    let lab : label_at K r o ≡ label_at H q j = label-new H r place q j here m.key keys L there leads.0 leads.1 inner K new in
    record {
      restated = record {
        differ = record { many = many-new H r place q j here m.key keys L there leads.0 leads.1 inner K new ∙ S.differ.many; others = λ s h. others s (start-below (length G) s h) ∙ S.differ.others s h };
        ranks = ranks ∙ S.ranks;
        means = means ∙ S.means;
      };
      lawful = lawful-new H r place q j here m.key keys L there leads.0 leads.1 inner K new;
      place = o;
      ps = ps;
      there = key-new H r place q j here m.key keys L there leads.0 leads.1 inner K new key (follows j leads.1);
      front = front-new H r place q j here m.key keys L there leads.0 leads.1 inner K new (first_place qs) behind ∙ front;
      behind = omega (arith, behind);
      leads = subst (λ l. Leads K l ls ps) (sym lab) (leads-same H K (label_at H q j) ls ps before leads.2);
      label = ap (λ l. last_label K l ls ps) lab ∙ last_label-same H K (label_at H q j) ls ps before ∙ label;
      node = λ F.
          ap (λ (f : List Term → Term). meaning_with term_algebra (rules_of K) (body_at (rules_of K) r) o f []) (led-same H K ls ps F before ranks means)
          ∙ node-new H r place q j here m.key keys L there leads.0 leads.1 inner K new (led term_algebra H ls ps F) []
          ∙ node F;
      size = omega (arith, size-new H r place q j here m.key keys L there leads.0 leads.1 inner K new, weight-same real_nodes H K ls before, sz);
    }

-- at the end of the way
pub walk-end : (G : List KeyedRule) (levels : List Level) (qs : List ℕ) (H : List KeyedRule) (key : Key) → Walk G levels qs H key [] → IsIsolated G H levels qs key
walk-end G levels qs H key w = end w.ps w.place w.there w.leads w.label w.node
  where
    end : (ps : List ℕ) (place : ℕ) → key_at H (start_of G) place ≡ Some key → Leads H (label_at H (start_of G) place) [] ps
        → last_label H (label_at H (start_of G) place) [] ps ≡ last_label G Bottom levels qs
        → ((F : List Term → Term) → meaning_with term_algebra (rules_of H) (body_at (rules_of H) (start_of G)) place (led term_algebra H [] ps F) [] ≡ led term_algebra G levels qs F [])
        → IsIsolated G H levels qs key
    end ps place a b c d = record { place = place; there = a; label = c; around = around-node G H place key w.lawful w.restated.differ.many a ∙ d (λ _. Hole 0) }

-- and before the chain's first node nothing is changed
pub walk-front : (G : List KeyedRule) (levels ls : List Level) (qs : List ℕ) (H : List KeyedRule) (key : Key) → Walk G levels qs H key ls → IsSameInFront G H qs key
walk-front G levels ls qs H key w =
    let s : start_of H ≡ start_of G = ap (λ n. n - 1) w.restated.differ.many in
    record {
      nodes = ap (λ r. take (first_place qs) (nodes_at H r)) s ∙ w.front;
      place = w.place;
      there = ap (λ r. key_at H r w.place) s ∙ w.there;
      behind = w.behind;
    }

pub calls-next : (H : List KeyedRule) (l : Label) (m : Level) (ls : List Level) (ps : List ℕ) → Leads H l (m ∷ ls) ps → l ≡ Call m.rule
calls-next H l m ls [] h = absurd h
calls-next H l m ls (p ∷ ps) h = h.0

-- the node at which the walk stands is a call of the next level
abbrev pub walk-call : (G : List KeyedRule) (levels : List Level) (qs : List ℕ) (H : List KeyedRule) (here : Key) (m : Level) (ls : List Level) → Walk G levels qs H here (m ∷ ls) → StandsAsCall H here
walk-call G levels qs H here m ls w =
    record { here = record { rule = start_of G; place = w.place; there = w.there }; called = m.rule; label = calls-next H (label_at H (start_of G) w.place) m ls w.ps w.leads }

-- what inlining tells
abbrev pub Inlines : List KeyedRule → List KeyedRule → Key → Key → Key → Type 0
Inlines H K here follow key = (C : StandsAsCall H here) → IsInlined H K C.here.rule C.here.place C.called follow key

pub walk-inlined : (G : List KeyedRule) (levels : List Level) (qs : List ℕ) (H K : List KeyedRule) (here key : Key) (m : Level) (ls : List Level) → Walk G levels qs H here (m ∷ ls)
    → Inlines H K here m.key key → Walk G levels qs K key ls
walk-inlined G levels qs H K here key m ls w f =
    let t = f (walk-call G levels qs H here m ls w) in
    walk-next G levels qs H K here key m ls w.ps w.place t.keys w.restated w.lawful w.there w.front w.behind w.leads w.label w.node w.size t.rules t.follows

-- the rules of the levels still to come stay
pub walk-kept : (G : List KeyedRule) (levels : List Level) (qs : List ℕ) (H K : List KeyedRule) (here key : Key) (m : Level) (ls : List Level) → Walk G levels qs H here (m ∷ ls)
    → Inlines H K here m.key key → HaveSameRules ls H K
walk-kept G levels qs H K here key m ls w f =
    let r : ℕ = start_of G in
    let t = f (walk-call G levels qs H here m ls w) in
    let h = (key_at-within H r w.place here w.there).0 in
    let X : List KeyedRule = record { rank = rank_at (rules_of H) r; nodes = inlined_nodes (nodes_at H r) w.place (nodes_at H m.rule) t.keys } ∷ drop (r + 1) H in
    let b : HaveSameRules (m ∷ ls) H K =
    levels-before H K r w.place (m ∷ ls) w.ps w.lawful.grammar h w.leads
    (λ s k. ap (λ L. slice_get L s) t.rules ∙ rules-before H r s X (omega (arith, h)) k) in
    b.1

pub walk-begin : (G : List KeyedRule) (lv : List Level) (l : Level) (ls rest : List Level) (key : Key) (qs : List ℕ) → IsLawful G → lv ≡ l ∷ ls → key ≡ l.key → rest ≡ ls → IsChain G lv qs → Walk G lv qs G key rest
walk-begin G lv l ls rest key qs L a b c h =
    subst (λ x. Walk G lv qs G x rest) (sym b)
    (subst (λ x. Walk G lv qs G l.key x) (sym c) (subst (λ x. Walk G x qs G l.key ls) (sym a) (walk-first G l ls qs L (subst (λ x. IsChain G x qs) a h))))

pub first-level : (G : List KeyedRule) (lv : List Level) (qs : List ℕ) → IsChain G lv qs → (l : Level) × (ls : List Level) × (lv ≡ l ∷ ls)
first-level G [] qs h = absurd h
first-level G (l ∷ ls) qs h = (l, ls, refl)

-- what comes along a chain is at most all other bodies
pub along-few : (G : List KeyedRule) (lv : List Level) (qs : List ℕ) → IsLawful G → IsChain G lv qs → come_along G lv + real_nodes (body_at (rules_of G) (start_of G)) ≤ size (rules_of G)
along-few G [] qs L c = absurd c
along-few G (l ∷ ls) [] L c = absurd c
along-few G (l ∷ ls) (p ∷ ps) L c =
    let e : l.rule ≡ start_of G = omega (arith, c.0) in
    omega (arith, weight-all real_nodes G p ls ps L.grammar (subst (λ r. Leads G (label_at G r p) ls ps) e c.2))

-- a body has as many labels as its rule has nodes
pub length-body : (G : List KeyedRule) (r : ℕ) → length (body_at (rules_of G) r) ≡ length (nodes_at G r)
length-body G r = ap length (body_at-rules_of G r) ∙ length-map (nodes_at G r) (λ (n : Node). n.label)

-- every rule has the value that it had
pub restated-values : (G H : List KeyedRule) → IsRestated G H → (r : ℕ) → value_at (rules_of H) r ≡ value_at (rules_of G) r
restated-values G H S r =
    let rank : rank_at (rules_of H) r ≡ rank_at (rules_of G) r = sym (rank_at-ranks_of (rules_of H) r) ∙ ap (λ (ns : List ℕ). get_or ns r 0) S.ranks ∙ rank_at-ranks_of (rules_of G) r in
    let f : List (List Term → Term) → Term = λ fs. get_or fs r (λ _. Leaf) (holes 0 (rank_at (rules_of H) r)) in
    let h : ℕ → Term = λ n. get_or (all_meanings term_algebra (rules_of G)) r (λ _. Leaf) (holes 0 n) in
    ap f S.means ∙ ap h rank

-- the size at the end of a way
pub isolated-size : (G : List KeyedRule) (lv : List Level) (qs : List ℕ) (H : List KeyedRule) (key : Key) → IsLawful G → IsChain G lv qs → Walk G lv qs H key []
    → size (rules_of H) + real_nodes (start_body (rules_of G)) ≤ 2 * size (rules_of G)
isolated-size G lv qs H key L c w =
    let n : start_of G ≡ length (rules_of G) - 1 = omega (arith, length-rules_of G) in
    omega (arith, w.size, along-few G lv qs L c, ap (λ r. real_nodes (body_at (rules_of G) r)) n)

-- the bodies of a chain behind the first are at most all bodies
pub room-few : (G : List KeyedRule) (lv : List Level) (qs : List ℕ) → IsLawful G → IsChain G lv qs → room_along G lv ≤ whole (rules_of G)
room-few G [] qs L c = absurd c
room-few G (l ∷ ls) [] L c = absurd c
room-few G (l ∷ ls) (p ∷ ps) L c =
    let e : l.rule ≡ start_of G = omega (arith, c.0) in
    omega (arith, weight-all length G p ls ps L.grammar (subst (λ r. Leads G (label_at G r p) ls ps) e c.2))
