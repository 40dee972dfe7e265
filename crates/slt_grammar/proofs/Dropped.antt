-- A term whose labels are counted one after another.
use Rattle.std.proofs.Common.{◌≡◌, ℕ, zero, suc, ◌+◌, ◌-◌, ◌<◌, ◌≤◌, List, [], ◌∷◌, length, get_or, drop, Option, Some, None, slice_get, refl, sym, ap, ◌∙◌, arith}
use Rattle.rule_arena.specs.Terms.{Node, key_in}
use Rattle.rule_arena.specs.declared.key.Key.{Key}
use Rattle.rule_arena.specs.declared.label.Label.{Label}
use Rattle.rule_arena.specs.declared.label.Label.TheVariants.{Bottom, Symbol, Call, Param}
use Rattle.slt_grammar.specs.Bodies.{calls_in, params, real_nodes, CallsBelow}
use Rattle.slt_grammar.specs.Keyed.{labels_of}
use Rattle.slt_grammar.specs.Ordering.{IsThere, place_of}
use Rattle.slt_grammar.specs.Placing.{placed, placed_node, placed_label, IsKnown}
use Rattle.slt_grammar.proofs.CallCounts.{real_nodes-are, calls_in-few}
use Rattle.std.proofs.lemmas.List.{length-map}
use Rattle.slt_grammar.proofs.Weights.{calls-weigh}

-- the labels from a node on
abbrev pub labels_past : List ℕ → List Node → ℕ → List Label
labels_past order ns p = labels_of (placed order (drop p ns))

drop-node : (ns : List Node) (p : ℕ) (n : Node) → slice_get ns p ≡ Some n → drop p ns ≡ n ∷ drop (suc p) ns
drop-node [] p n e = absurd (cc)
drop-node (m ∷ ns) zero n e = let q : m ≡ n = cc in ap (λ (x : Node). x ∷ ns) q
drop-node (m ∷ ns) (suc p) n e = drop-node ns p n e

-- one label more
pub labels_past-next : (order : List ℕ) (ns : List Node) (p : ℕ) (n : Node) → slice_get ns p ≡ Some n → labels_past order ns p ≡ placed_label order n.label ∷ labels_past order ns (suc p)
labels_past-next order ns p n e = ap (λ (ms : List Node). labels_of (placed order ms)) (drop-node ns p n e)

pub labels_past-end : (order : List ℕ) (ns : List Node) (p : ℕ) → key_in ns p ≡ None → labels_past order ns p ≡ []
labels_past-end order [] zero e = refl
labels_past-end order [] (suc p) e = refl
labels_past-end order (n ∷ ns) zero e = absurd (cc)
labels_past-end order (n ∷ ns) (suc p) e = labels_past-end order ns p e

pub calls-one : (q : ℕ) (l : Label) (ls : List Label) → calls_in q (l ∷ ls) ≡ calls_in q (l ∷ []) + calls_in q ls
calls-one q l ls = omega (arith, calls-weigh q (l ∷ ls), calls-weigh q (l ∷ []), calls-weigh q ls)

pub params-one : (l : Label) (ls : List Label) → params (l ∷ ls) ≡ params (l ∷ []) + params ls
params-one Bottom ls = omega arith
params-one (Symbol f) ls = omega arith
params-one (Call q) ls = omega arith
params-one Param ls = omega arith

-- a known label calls a rule that is there
pub below-placed : (order : List ℕ) (n : ℕ) (l : Label) → length order ≡ n → IsKnown order l → ((id : ℕ) → IsThere order id → place_of order id < length order) → CallsBelow n (placed_label order l ∷ [])
below-placed order n Bottom e k w = tt
below-placed order n (Symbol f) e k w = tt
below-placed order n (Call id) e k w = (omega (arith, w id k, e), tt)
below-placed order n Param e k w = tt

drop-none : (ns : List Node) → drop 0 ns ≡ ns
drop-none [] = refl
drop-none (n ∷ ns) = refl

-- the calls of the labels so far are taken away
pub record IsDropped (order : List ℕ) (ns : List Node) (old new : List ℕ) (at : Option Key) (nodes holes : ℕ) : Type 0 where
  pub next : at ≡ key_in ns nodes
  pub few : nodes ≤ length ns
  pub len : length new ≡ length old
  pub counted : (q : ℕ) → q < length old → calls_in q (labels_past order ns nodes) ≤ get_or new q 0
  pub calls : (q : ℕ) → q < length old → get_or new q 0 + calls_in q (labels_of (placed order ns)) ≡ get_or old q 0 + calls_in q (labels_past order ns nodes)
  pub holes_are : holes + params (labels_past order ns nodes) ≡ params (labels_of (placed order ns))

pub dropped-none : (order : List ℕ) (ns : List Node) (old : List ℕ) (root : Key) → key_in ns 0 ≡ Some root → ((q : ℕ) → q < length old → calls_in q (labels_of (placed order ns)) ≤ get_or old q 0) → IsDropped order ns old old (Some root) 0 0
dropped-none order ns old root e c =
    let z : labels_past order ns 0 ≡ labels_of (placed order ns) = ap (λ (ms : List Node). labels_of (placed order ms)) (drop-none ns) in
    record {
      next = sym e;
      few = omega arith;
      len = refl;
      counted = λ q h. omega (arith, c q h, ap (calls_in q) z);
      calls = λ q h. omega (arith, ap (calls_in q) z);
      holes_are = omega (arith, ap params z);
    }

pub dropped-more : (order : List ℕ) (ns : List Node) (old mid new : List ℕ) (at next : Option Key) (nodes holes holes' : ℕ) (n : Node) (l : Label) → IsDropped order ns old mid at nodes holes → slice_get ns nodes ≡ Some n → l ≡ placed_label order n.label
    → key_in ns (nodes + 1) ≡ next → nodes < length ns → length new ≡ length mid → ((q : ℕ) → q < length mid → get_or new q 0 + calls_in q (l ∷ []) ≡ get_or mid q 0) → holes' ≡ holes + params (l ∷ []) → IsDropped order ns old new next (nodes + 1) holes'
dropped-more order ns old mid new at next nodes holes holes' n l D node label key within len calls h =
    let z : nodes + 1 ≡ suc nodes = omega arith in
    let e : labels_past order ns nodes ≡ l ∷ labels_past order ns (nodes + 1) =
    labels_past-next order ns nodes n node ∙ ap (λ (m : Label). m ∷ labels_past order ns (suc nodes)) (sym label) ∙ ap (λ (k : ℕ). l ∷ labels_past order ns k) (sym z) in
    record {
      next = sym key;
      few = omega arith;
      len = len ∙ D.len;
      counted = λ q k. omega (arith, D.counted q k, ap (calls_in q) e, calls-one q l (labels_past order ns (nodes + 1)), calls q (omega (arith, D.len)));
      calls = λ q k. omega (arith, D.calls q k, ap (calls_in q) e, calls-one q l (labels_past order ns (nodes + 1)), calls q (omega (arith, D.len)));
      holes_are = omega (arith, h, D.holes_are, ap params e, params-one l (labels_past order ns (nodes + 1)));
    }

-- at the end
pub dropped-all : (order : List ℕ) (ns : List Node) (old new : List ℕ) (at : Option Key) (nodes holes : ℕ) → IsDropped order ns old new at nodes holes → at ≡ None
    → ((q : ℕ) → q < length old → get_or new q 0 + calls_in q (labels_of (placed order ns)) ≡ get_or old q 0) × (nodes - holes ≡ real_nodes (labels_of (placed order ns)))
dropped-all order ns old new at nodes holes D e =
    let z : labels_past order ns nodes ≡ [] = labels_past-end order ns nodes (sym D.next ∙ e) in
    let n : nodes ≡ length ns = past ns nodes (sym D.next ∙ e) D.few in (
      λ q h. omega (arith, D.calls q h, ap (calls_in q) z),
      omega (arith, n, D.holes_are, ap params z, real_nodes-are (labels_of (placed order ns)), length-map (placed order ns) (λ (m : Node). m.label), length-map ns (placed_node order)),
    )
  where
    past : (ms : List Node) (p : ℕ) → key_in ms p ≡ None → p ≤ length ms → p ≡ length ms
    past [] p e h = omega arith
    past (m ∷ ms) zero e h = absurd (cc)
    past (m ∷ ms) (suc p) e h = ap suc (past ms p e (omega arith))

pub params-few : (order : List ℕ) (ns : List Node) → params (labels_of (placed order ns)) ≤ length ns
params-few order ns = omega (arith, real_nodes-are (labels_of (placed order ns)), length-map (placed order ns) (λ (m : Node). m.label), length-map ns (placed_node order))

pub real-few : (order : List ℕ) (ns : List Node) → real_nodes (labels_of (placed order ns)) ≤ length ns
real-few order ns = omega (arith, real_nodes-are (labels_of (placed order ns)), length-map (placed order ns) (λ (m : Node). m.label), length-map ns (placed_node order))

pub dropped-fewer : (order : List ℕ) (ns : List Node) (old new : List ℕ) (at : Option Key) (nodes holes : ℕ) → IsDropped order ns old new at nodes holes → at ≡ None → holes ≤ nodes
dropped-fewer order ns old new at nodes holes D e =
    omega (arith, D.holes_are, params-few order ns, past ns nodes (sym D.next ∙ e))
  where
    past : (ms : List Node) (p : ℕ) → key_in ms p ≡ None → length ms ≤ p
    past [] p e = omega arith
    past (m ∷ ms) zero e = absurd (cc)
    past (m ∷ ms) (suc p) e = let h = past ms p e in omega arith

-- the calls of the labels so far are counted
pub record IsSummed (order : List ℕ) (ns : List Node) (old new : List ℕ) (nodes holes : ℕ) : Type 0 where
  pub len : length new ≡ length old
  pub few : (q : ℕ) → q < length old → get_or new q 0 ≤ get_or old q 0 + nodes
  pub calls : (q : ℕ) → q < length old → get_or new q 0 + calls_in q (labels_past order ns nodes) ≡ get_or old q 0 + calls_in q (labels_of (placed order ns))
  pub holes_are : holes + params (labels_past order ns nodes) ≡ params (labels_of (placed order ns))

pub summed-none : (order : List ℕ) (ns : List Node) (old : List ℕ) → IsSummed order ns old old 0 0
summed-none order ns old =
    let z : labels_past order ns 0 ≡ labels_of (placed order ns) = ap (λ (ms : List Node). labels_of (placed order ms)) (drop-none ns) in
    record { len = refl; few = λ q h. omega arith; calls = λ q h. omega (arith, ap (calls_in q) z); holes_are = omega (arith, ap params z) }

pub summed-more : (order : List ℕ) (ns : List Node) (old mid new : List ℕ) (nodes holes holes' : ℕ) (n : Node) (l : Label) → IsSummed order ns old mid nodes holes → slice_get ns nodes ≡ Some n → l ≡ placed_label order n.label
    → length new ≡ length mid → ((q : ℕ) → q < length mid → get_or new q 0 ≡ get_or mid q 0 + calls_in q (l ∷ [])) → holes' ≡ holes + params (l ∷ []) → IsSummed order ns old new (nodes + 1) holes'
summed-more order ns old mid new nodes holes holes' n l D node label len calls h =
    let z : nodes + 1 ≡ suc nodes = omega arith in
    let e : labels_past order ns nodes ≡ l ∷ labels_past order ns (nodes + 1) =
    labels_past-next order ns nodes n node ∙ ap (λ (m : Label). m ∷ labels_past order ns (suc nodes)) (sym label) ∙ ap (λ (k : ℕ). l ∷ labels_past order ns k) (sym z) in
    record {
      len = len ∙ D.len;
      few = λ q k. omega (arith, D.few q k, calls q (omega (arith, D.len)), calls_in-few q (l ∷ []));
      calls = λ q k. omega (arith, D.calls q k, ap (calls_in q) e, calls-one q l (labels_past order ns (nodes + 1)), calls q (omega (arith, D.len)));
      holes_are = omega (arith, h, D.holes_are, ap params e, params-one l (labels_past order ns (nodes + 1)));
    }

pub summed-all : (order : List ℕ) (ns : List Node) (old new : List ℕ) (nodes holes : ℕ) → IsSummed order ns old new nodes holes → nodes ≡ length ns
    → ((q : ℕ) → q < length old → get_or new q 0 ≡ get_or old q 0 + calls_in q (labels_of (placed order ns))) × (length ns - holes ≡ real_nodes (labels_of (placed order ns))) × (holes ≤ length ns)
summed-all order ns old new nodes holes D e =
    let z : labels_past order ns nodes ≡ [] = ap (labels_past order ns) e ∙ past ns in (
      λ q h. omega (arith, D.calls q h, ap (calls_in q) z),
      omega (arith, D.holes_are, ap params z, real_nodes-are (labels_of (placed order ns)), length-map (placed order ns) (λ (m : Node). m.label), length-map ns (placed_node order)),
      omega (arith, D.holes_are, params-few order ns),
    )
  where
    past : (ms : List Node) → labels_past order ms (length ms) ≡ []
    past [] = refl
    past (m ∷ ms) = past ms
