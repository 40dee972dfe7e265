-- Rules that come and go, and rules that change without another value: the start's nodes stand for what they stood for.
use Rattle.std.proofs.Common.{◌≡◌, ◌≢◌, ℕ, zero, suc, ◌+◌, ◌-◌, ◌<◌, ◌≤◌, List, [], ◌∷◌, length, map, remove, refl, sym, ap, ◌∙◌, subst, arith}
use Rattle.std.proofs.Math.ListN.{get_or-map}
use Rattle.std.proofs.lemmas.List.{length-map}
use Rattle.rule_arena.specs.Terms.{Node}
use Rattle.rule_arena.specs.declared.label.Label.{Label}
use Rattle.rule_arena.specs.declared.label.Label.TheVariants.{Bottom, Symbol, Call, Param}
use Rattle.slt_grammar.specs.Bodies.{CallsBelow}
use Rattle.slt_grammar.specs.Editing.{shifted, shifted_label}
use Rattle.slt_grammar.specs.Grammars.{calls_of, value_at}
use Rattle.slt_grammar.specs.Holding.{IsLawful}
use Rattle.slt_grammar.specs.Keyed.{Keyed, KeyedRule, IsKeyed, labels_of, nodes_at, rules_of}
use Rattle.slt_grammar.specs.KeyedEdits.{DropsTo, rule_dropped, rule_put, shifted_keyed, unshifted_keyed, with_nodes}
use Rattle.slt_grammar.specs.KeyedEdits.DropsTo.{NoDrop, Drop}
use Rattle.slt_grammar.specs.Placing.{DoNotCall, DoesNotCall, shifted_node, unshifted, unshifted_label, unshifted_node}
use Rattle.slt_grammar.specs.RuleValues.{HasRuleMore}
use Rattle.slt_grammar.specs.Segments.{listed, part_of, segment}
use Rattle.slt_grammar.specs.Terms.{Term}
use Rattle.slt_grammar.specs.declared.rules.Rule.{Rule}
use Rattle.slt_grammar.proofs.Additions.{get-shifted}
use Rattle.slt_grammar.proofs.Keeping.{shifted-behind}
use Rattle.slt_grammar.proofs.KeyedEdits.{length-with_nodes, nodes-others}
use Rattle.slt_grammar.proofs.KeyedLemmas.{body_at-rules_of, length-rules_of}
use Rattle.slt_grammar.proofs.KeyedRemovals.{do-not-call, dropped-lawful, never, values-dropped}
use Rattle.slt_grammar.proofs.Removals.{get-left, length-left}
use Rattle.start_fronts.specs.Alike.{AreAlike}
use Rattle.start_fronts.specs.Before.{KeepsBefore}
use Rattle.start_fronts.proofs.Alike.{keeps-alike}
use Rattle.start_fronts.proofs.Composing.{keeps-all, keeps-both}
use Rattle.start_fronts.proofs.Keeping.{lawful}
use Rattle.start_fronts.proofs.Staying.{part-same}

-- nodes whose labels changed
module _ (G H : List Rule) (place : ℕ) where
  -- calls of a rule before k have other numbers, under which the values are
  part-shifted : (k : ℕ) → ((r : ℕ) → r < k → value_at H (shifted place r) ≡ value_at G r) → (l : Label) (ls : List Label) → CallsBelow k (l ∷ ls) → (i : ℕ) → part_of H (shifted_label place l) i ≡ part_of G l i
  part-shifted k v (Call q) ls c i = ap (λ (t : Term). segment i (listed t [])) (v q c.0)
  part-shifted k v Param ls c i = refl
  part-shifted k v Bottom ls c zero = refl
  part-shifted k v Bottom ls c (suc i) = refl
  part-shifted k v (Symbol f) ls c zero = refl
  part-shifted k v (Symbol f) ls c (suc i) = refl

  calls-on : (k : ℕ) (l : Label) (ls : List Label) → CallsBelow k (l ∷ ls) → CallsBelow k ls
  calls-on k (Call q) ls c = c.1
  calls-on k Param ls c = c
  calls-on k Bottom ls c = c
  calls-on k (Symbol f) ls c = c

  alike-shifted : (k : ℕ) → ((r : ℕ) → r < k → value_at H (shifted place r) ≡ value_at G r) → (ns : List Node) → CallsBelow k (labels_of ns) → AreAlike G H ns (map (shifted_node place) ns)
  alike-shifted k v [] c = tt
  alike-shifted k v (n ∷ ns) c =
      (record { key = refl; kids = refl; parts = part-shifted k v n.label (labels_of ns) c }, alike-shifted k v ns (calls-on k n.label (labels_of ns) c))

  shifted-back : (x q : ℕ) → (q ≢ x) → shifted x (unshifted x q) ≡ q
  shifted-back zero zero d = absurd (d refl)
  shifted-back zero (suc q) d = omega arith
  shifted-back (suc x) zero d = refl
  shifted-back (suc x) (suc q) d = ap suc (shifted-back x q (λ e. d (ap suc e)))

  unshifted-within : (x q : ℕ) → unshifted x q ≤ q
  unshifted-within zero q = omega arith
  unshifted-within (suc x) zero = omega arith
  unshifted-within (suc x) (suc q) = omega (arith, unshifted-within x q)

  part-unshifted : (k : ℕ) → ((r : ℕ) → r < k → value_at G (shifted place r) ≡ value_at H r) → (l : Label) (ls : List Label) → CallsBelow k (l ∷ ls) → DoesNotCall place l → (i : ℕ) → part_of H (unshifted_label place l) i ≡ part_of G l i
  part-unshifted k v (Call q) ls c d i =
      let w : unshifted place q < k = omega (arith, unshifted-within place q, c.0) in
      ap (λ (t : Term). segment i (listed t [])) (sym (v (unshifted place q) w) ∙ ap (value_at G) (shifted-back place q d))
  part-unshifted k v Param ls c d i = refl
  part-unshifted k v Bottom ls c d zero = refl
  part-unshifted k v Bottom ls c d (suc i) = refl
  part-unshifted k v (Symbol f) ls c d zero = refl
  part-unshifted k v (Symbol f) ls c d (suc i) = refl

  alike-unshifted : (k : ℕ) → ((r : ℕ) → r < k → value_at G (shifted place r) ≡ value_at H r) → (ns : List Node) → CallsBelow k (labels_of ns) → DoNotCall place ns → AreAlike G H ns (map (unshifted_node place) ns)
  alike-unshifted k v [] c d = tt
  alike-unshifted k v (n ∷ ns) c d =
      (record { key = refl; kids = refl; parts = part-unshifted k v n.label (labels_of ns) c d.0 }, alike-unshifted k v ns (calls-on k n.label (labels_of ns) c) d.1)

  alike-same : ((s : ℕ) → value_at H s ≡ value_at G s) → (ns : List Node) → AreAlike G H ns ns
  alike-same v [] = tt
  alike-same v (n ∷ ns) = (record { key = refl; kids = refl; parts = part-same G H v n.label }, alike-same v ns)

pub start-calls : (G : List KeyedRule) → IsLawful G → CallsBelow (length G - 1) (labels_of (nodes_at G (length G - 1)))
start-calls G L =
    let some = L.grammar.some in
    subst (λ (ls : List Label). CallsBelow (length G - 1) ls) (body_at-rules_of G (length G - 1))
    (L.grammar.each (length G - 1) (omega (arith, some, length-rules_of G))).earlier

-- a rule is put before the start, or earlier
pub keeps-putting : (g : Keyed) (H : List KeyedRule) → IsKeyed g → (place : ℕ) (R : KeyedRule) → place < length g.rules → H ≡ rule_put g.rules place R → HasRuleMore place (rules_of g.rules) (rules_of H) → KeepsBefore [] g.rules H
keeps-putting g H K place R h e m =
    let G : List KeyedRule = g.rules in
    let start : ℕ = length G - 1 in
    let none : KeyedRule = record { rank = 0; nodes = [] } in
    let last : length H - 1 ≡ shifted place start = omega (arith, h, m.more, length-rules_of G, length-rules_of H, shifted-behind place start (omega (arith, h))) in
    let nodes : nodes_at H (length H - 1) ≡ map (shifted_node place) (nodes_at G start) =
    ap (nodes_at H) last
    ∙ ap (λ (Q : List KeyedRule). nodes_at Q (shifted place start)) e
    ∙ ap (λ (S : KeyedRule). S.nodes) (get-shifted (map (shifted_keyed place) G) place start R none (omega (arith, h, length-map G (shifted_keyed place))))
    ∙ ap (λ (S : KeyedRule). S.nodes) (get_or-map (shifted_keyed place) G start none) in
    keeps-alike G H
    (subst (λ (ms : List Node). AreAlike (rules_of G) (rules_of H) (nodes_at G start) ms) (sym nodes)
    (alike-shifted (rules_of G) (rules_of H) place start (λ r l. m.values r (omega (arith, l, length-rules_of G))) (nodes_at G start) (start-calls G (lawful g K))))

-- a rule that isn't called is dropped
keeps-one-drop : (G : List KeyedRule) (p : ℕ) → IsLawful G → p + 1 < length G → calls_of (rules_of G) p ≡ 0 → KeepsBefore [] G (rule_dropped G p)
keeps-one-drop G p L h u =
    let H : List KeyedRule = rule_dropped G p in
    let start : ℕ = length G - 1 in
    let none : KeyedRule = record { rank = 0; nodes = [] } in
    let m = values-dropped G p L h u in
    let len : length H + 1 ≡ length G = omega (arith, length-map (remove G p) (unshifted_keyed p), length-left G p (omega (arith, h))) in
    let last : shifted p (length H - 1) ≡ start = omega (arith, h, len, shifted-behind p (length H - 1) (omega (arith, h, len))) in
    let nodes : nodes_at H (length H - 1) ≡ map (unshifted_node p) (nodes_at G start) =
    ap (λ (S : KeyedRule). S.nodes) (get_or-map (unshifted_keyed p) (remove G p) (length H - 1) none)
    ∙ ap (λ (S : KeyedRule). map (unshifted_node p) S.nodes) (get-left G p (length H - 1) none)
    ∙ ap (λ s. map (unshifted_node p) (nodes_at G s)) last in
    keeps-alike G H
    (subst (λ (ms : List Node). AreAlike (rules_of G) (rules_of H) (nodes_at G start) ms) (sym nodes)
    (alike-unshifted (rules_of G) (rules_of H) p start (λ r l. m.values r (omega (arith, l, len, length-rules_of H))) (nodes_at G start) (start-calls G L) (do-not-call p (nodes_at G start) (never G p L h u start))))

pub keeps-dropping : (g : Keyed) → IsKeyed g → (rule : ℕ) → rule + 1 < length g.rules → calls_of (rules_of g.rules) rule ≡ 0 → KeepsBefore [] g.rules (rule_dropped g.rules rule)
keeps-dropping g K rule h u = keeps-one-drop g.rules rule (lawful g K) h u

-- and one rule after another
keeps-drops : (G H : List KeyedRule) → DropsTo G H → IsLawful G → IsLawful H × KeepsBefore [] G H
keeps-drops _ _ (NoDrop G) L = (L, keeps-all G)
keeps-drops _ _ (Drop G J rule d h u) L =
    let ih = keeps-drops G J d L in
    (dropped-lawful J rule ih.0 h u, keeps-both [] [] G J (rule_dropped J rule) ih.1 (keeps-one-drop J rule ih.0 h u))

pub keeps-sweeping : (g : Keyed) (H : List KeyedRule) → IsKeyed g → DropsTo g.rules H → KeepsBefore [] g.rules H
keeps-sweeping g H K d = (keeps-drops g.rules H d (lawful g K)).1

-- a rule that isn't the start has other nodes, and all rules their values
pub keeps-elsewhere : (G H : List KeyedRule) (rule : ℕ) (ns : List Node) → rule + 1 < length G → H ≡ with_nodes G rule ns → ((r : ℕ) → value_at (rules_of H) r ≡ value_at (rules_of G) r) → KeepsBefore [] G H
keeps-elsewhere G H rule ns h e v =
    let start : ℕ = length G - 1 in
    let len : length H ≡ length G = ap length e ∙ length-with_nodes G rule ns (omega (arith, h)) in
    let nodes : nodes_at H (length H - 1) ≡ nodes_at G start =
    ap (λ n. nodes_at H (n - 1)) len ∙ ap (λ (Q : List KeyedRule). nodes_at Q start) e ∙ nodes-others G rule start ns (omega (arith, h)) (λ z. omega (arith, z, h)) in
    keeps-alike G H
    (subst (λ (ms : List Node). AreAlike (rules_of G) (rules_of H) (nodes_at G start) ms) (sym nodes) (alike-same (rules_of G) (rules_of H) 0 v (nodes_at G start)))
