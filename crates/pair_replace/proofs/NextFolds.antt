-- An occurrence at the head of a chain folds into the new rule, and the others that share no node with it stay.
use Rattle.std.proofs.Common.{◌≡◌, ◌≢◌, ◌⊎◌, inl, inr, ℕ, zero, suc, ◌-◌, ◌<◌, ◌≤◌, List, [], ◌∷◌, length, get_or, Some, None, slice_get, sym, ap, ◌∙◌, subst, arith}
use Rattle.std.proofs.lemmas.Bool.{cases_eq}
use Rattle.rule_arena.specs.Terms.{Node, parent_in, kids_in, key_in}
use Rattle.rule_arena.specs.Laws.{IsKeyedTerm}
use Rattle.rule_arena.specs.declared.key.Key.{Key}
use Rattle.rule_arena.specs.declared.label.Label.{Label}
use Rattle.rule_arena.proofs.NodeLemmas.{key_of_node}
use Rattle.slt_grammar.specs.Names.{Bottom, Symbol, Call, Param}
use Rattle.slt_grammar.specs.Algebras.{ranks_of}
use Rattle.slt_grammar.specs.Bodies.{CallsBelow}
use Rattle.slt_grammar.specs.Grammars.{body_at}
use Rattle.slt_grammar.specs.Keyed.{Keyed, KeyedRule, IsKeyed, nodes_at, key_at, rules_of, labels_of}
use Rattle.slt_grammar.specs.KeyedEdits.{FoldsInto, label_at, digram_body, with_nodes, folded_nodes}
use Rattle.slt_grammar.specs.declared.digram.Digram.{Digram}
use Rattle.slt_grammar.proofs.KeyedLemmas.{key_at-within, nodes-are-term, body_at-rules_of, label-there, length-rules_of}
use Rattle.slt_grammar.proofs.KeyedEdits.{nodes-others}
use Rattle.slt_grammar.proofs.KeptLemmas.{below-get, below-two}
use Rattle.digram_index.specs.Digrams.{Cell, OccursAt, occurrence_at, occurrence_under, occurrence_below, parent_node}
use Rattle.digram_index.specs.Keeping.{AreOccurrences, IsIndexBut}
use Rattle.digram_index.specs.Linked.{Linked, cell}
use Rattle.digram_index.proofs.Apartness.{Stands, stands, one-key}
use Rattle.digram_index.proofs.ParentLemmas.{parent-key, keyed_place}
use Rattle.pair_replace.specs.Chains.{IsLinkedAs, IsHead, upper_at, ShareNoNode, SharesNoNode, AreApart}
use Rattle.pair_replace.specs.NewRules.{IsNewRule}
use Rattle.pair_replace.specs.Near.{IsAround}
use Rattle.pair_replace.proofs.ChainLemmas.{linked-upper}
use Rattle.digram_index.proofs.Kids.{child-of, IsChildOf, kid-there, kid-parent}

-- what is linked in an index that lacks one node occurs
pub but-occurs : (g : Keyed) (I : Linked) (own : Key) → IsIndexBut g I (λ k. k ≡ own.number) → AreOccurrences g.rules I
but-occurs g I own B key o c =
    let w = B.only key.number (λ z. let x : Some o ≡ None = sym c ∙ z in cc) in
    let t : key_at g.rules w.1.0 w.1.1.0 ≡ Some key = w.1.1.1.0 ∙ ap Some (one-key w.0 key w.1.1.1.1) in
    record { rule = w.1.0; place = w.1.1.0; there = t; here = sym (B.all w.1.0 w.1.1.0 key t (λ z. let x : Some o ≡ None = sym c ∙ B.free key.number z in cc)) ∙ c }

pub under-real : (ranks : List ℕ) (up : Node) (c : ℕ) (l : Label) (o : Cell) → occurrence_under ranks up c l ≡ Some o → l ≢ Param
under-real ranks up c Bottom o e z = cc
under-real ranks up c (Symbol f) o e z = cc
under-real ranks up c (Call q) o e z = cc
under-real ranks up c Param o e z = let x : None ≡ Some o = e in cc

one : (a b : Key) → Some a ≡ Some b → a ≡ b
one a b z = cc

one-up : (a b : Key × ℕ) → Some a ≡ Some b → a ≡ b
one-up a b z = cc

-- an occurrence has the upper node and the place that its lower node tells
parent-told : (G : List KeyedRule) (key : Key) (o : Cell) (O : OccursAt G key o) → (u : Key × ℕ) → parent_in (nodes_at G O.rule) O.place ≡ Some u → (o.upper ≡ u.0.number) × (o.digram.place ≡ u.1)
parent-told G key o O u e =
    let S = stands G O.rule O.place key o O.there O.here in
    let z : (S.up.key, o.digram.place) ≡ u = one-up (S.up.key, o.digram.place) u (sym (parent-key (nodes_at G O.rule) O.place ∙ ap keyed_place S.parent) ∙ e) in
    (sym S.upper ∙ ap (λ (v : Key × ℕ). v.0.number) z, ap (λ (v : Key × ℕ). v.1) z)

pub keyed-nodes : (g : Keyed) → IsKeyed g → (r : ℕ) → r < length g.rules → IsKeyedTerm (nodes_at g.rules r)
keyed-nodes g K r h = record { term = nodes-are-term g K r h; once = λ i j k e f. (K.once k r i r j e f).1 }

-- a child that the code reads stands in the rules
pub kid-stands : (g : Keyed) → IsKeyed g → (low : Key) (o : Cell) → OccursAt g.rules low o → (kids : List Key) (i : ℕ) (key : Key) → ((r p : ℕ) → key_at g.rules r p ≡ Some low → kids_in (nodes_at g.rules r) p ≡ kids) → slice_get kids i ≡ Some key
    → (r : ℕ) × (p : ℕ) × (key_at g.rules r p ≡ Some key)
kid-stands g K low o O kids i key read e =
    let h = key_at-within g.rules O.rule O.place low O.there in
    let t = kid-there (nodes_at g.rules O.rule) O.place low i key (keyed-nodes g K O.rule h.0) O.there (ap (λ (ks : List Key). slice_get ks i) (read O.rule O.place O.there) ∙ e) in
    (O.rule, t.0, t.1)

pub get-of : (ls : List Label) (p : ℕ) (l : Label) → slice_get ls p ≡ Some l → get_or ls p Bottom ≡ l
get-of [] p l e = absurd (let z : None ≡ Some l = e in cc)
get-of (x ∷ ls) zero l e = cc
get-of (x ∷ ls) (suc p) l e = get-of ls p l e

module _ (g : Keyed) (K : IsKeyed g) (d : Digram) (rule : ℕ) (own : Key) (R : IsNewRule g.rules d rule own) (I : Linked) (B : IsIndexBut g I (λ k. k ≡ own.number)) (low : Key) (H : IsHead I d low.number) where
  abbrev G : List KeyedRule
  G = g.rules

  abbrev o : Cell
  o = H.linked.0

  pub O : OccursAt G low o
  O = but-occurs g I own B low o H.linked.1.0

  digram-is : o.digram ≡ d
  digram-is = H.linked.1.1

  abbrev r : ℕ
  r = O.rule

  abbrev ns : List Node
  ns = nodes_at G r

  S : Stands G r O.place low o
  S = stands G r O.place low o O.there O.here

  within : r < length G
  within = (key_at-within G r O.place low O.there).0

  parent : parent_in ns O.place ≡ Some (S.up.key, o.digram.place)
  parent = parent-key ns O.place ∙ ap keyed_place S.parent

  child : IsChildOf ns O.place (S.up.key, o.digram.place)
  child = child-of ns O.place (S.up.key, o.digram.place) (nodes-are-term g K r within) parent

  low-label : label_at G r O.place ≡ d.lower
  low-label = get-of (body_at (rules_of G) r) O.place d.lower (label-there G r O.place S.node S.here ∙ ap Some (S.low ∙ ap (λ (x : Digram). x.lower) digram-is))

  high-label : label_at G r child.above ≡ d.upper
  high-label =
      let z : S.above ≡ child.above = (K.once S.up.key r S.above r child.above (above-key S.above S.up S.there) child.there).1 in
      get-of (body_at (rules_of G) r) child.above d.upper (label-there G r child.above S.up (ap (λ (j : ℕ). slice_get ns j) (sym z) ∙ S.there) ∙ ap Some (S.high ∙ ap (λ (x : Digram). x.upper) digram-is))
    where
      above-key : (p : ℕ) (n : Node) → slice_get ns p ≡ Some n → key_in ns p ≡ Some n.key
      above-key p n e = key_of_node ns p n e

  real : label_at G r O.place ≢ Param
  real z =
      let e : occurrence_under (ranks_of (rules_of G)) S.up o.digram.place S.node.label ≡ Some o =
      sym (ap (λ u. occurrence_below (ranks_of (rules_of G)) u (slice_get ns O.place)) S.parent ∙ ap (λ n. occurrence_below (ranks_of (rules_of G)) (Some (S.up, o.digram.place)) n) S.here) ∙ O.here in
      under-real (ranks_of (rules_of G)) S.up o.digram.place S.node.label o e (S.low ∙ ap (λ (x : Digram). x.lower) digram-is ∙ sym low-label ∙ z)

  earlier : rule < r
  earlier = by (cases_eq r rule)
    where
      below : CallsBelow r (body_at (rules_of G) r)
      below = (K.grammar.each r (omega (arith, within, length-rules_of G))).earlier

      first : rule ≤ r
      first =
          R.before r within (subst (λ (l : Label). CallsBelow r (l ∷ d.lower ∷ [])) high-label (subst (λ (l : Label). CallsBelow r (label_at G r child.above ∷ l ∷ [])) low-label
          (below-two r (label_at G r child.above) (label_at G r O.place) (below-get r (body_at (rules_of G) r) child.above below) (below-get r (body_at (rules_of G) r) O.place below))))

      by : (r ≡ rule) ⊎ (r ≡ rule → ⊥) → rule < r
      by (inl z) =
          let k : key_at G rule O.place ≡ Some low = subst (λ (s : ℕ). key_at G s O.place ≡ Some low) z O.there in
          let h : occurrence_at G rule O.place ≡ Some o = subst (λ (s : ℕ). occurrence_at G s O.place ≡ Some o) z O.here in
          let e : low ≡ own = R.alone O.place low o k h in
          absurd (let x : Some o ≡ None = sym H.linked.1.0 ∙ B.free low.number (ap (λ (x : Key). x.number) e) in cc)
      by (inr n) = omega (arith, first, n)

  pub folds : FoldsInto G low rule
  folds = record {
    here = record { rule = r; place = O.place; there = O.there };
    upper = S.up.key;
    place = child.above;
    above = child.there;
    child = child.child;
    is_child = child.is_child ∙ O.there;
    earlier = earlier;
    real = real;
    body =
        let z : d.place - 1 ≡ child.child = let e = ap (λ (x : Digram). x.place) digram-is in let f = child.place in omega (arith, e, f) in
        R.body ∙ ap (λ (c : ℕ). digram_body (ranks_of (rules_of G)) d.upper c d.lower) z
        ∙ ap (λ (l : Label). digram_body (ranks_of (rules_of G)) l child.child d.lower) (sym high-label)
        ∙ ap (λ (l : Label). digram_body (ranks_of (rules_of G)) (label_at G r child.above) child.child l) (sym low-label);
  }

  -- its labels are the digram's
  pub upper-is : label_at G folds.here.rule folds.place ≡ d.upper
  unfolding folds
  upper-is = high-label

  pub lower-is : label_at G folds.here.rule folds.here.place ≡ d.lower
  unfolding folds
  lower-is = low-label

  -- another occurrence of the digram that shares no node with it is not near
  far : (k : ℕ) → IsLinkedAs I d k → k ≢ low.number → upper_at I k ≢ low.number → IsAround folds.upper (kids_in ns folds.place) (kids_in ns folds.here.place) k → ⊥
  unfolding folds S
  far k L apart below near = by near
    where
      up-number : upper_at I low.number ≡ S.up.key.number
      up-number = linked-upper I d low.number o H.linked.1.0 ∙ sym S.upper

      -- a child of a node of the rule that is the lower node of the other
      told : (s i : ℕ) (up key : Key) → key_in ns s ≡ Some up → slice_get (kids_in ns s) i ≡ Some key → key.number ≡ k → (upper_at I k ≡ up.number) × (d.place ≡ suc i)
      told s i up key there e z =
          let t = keyed-nodes g K r within in
          let w = kid-there ns s up i key t there e in
          let c : cell I key.number ≡ Some L.0 = ap (λ (n : ℕ). cell I n) z ∙ L.1.0 in
          let Q = but-occurs g I own B key L.0 c in
          let u = kid-parent ns s w.0 up i key t there e w.1 in
          let m = K.once key r w.0 Q.rule Q.place w.1 Q.there in
          let v : parent_in (nodes_at G Q.rule) Q.place ≡ Some (up, suc i) = subst (λ (j : ℕ). parent_in (nodes_at G j) Q.place ≡ Some (up, suc i)) m.0 (subst (λ (j : ℕ). parent_in ns j ≡ Some (up, suc i)) m.1 u) in
          let x = parent-told G key L.0 Q (up, suc i) v in
          (linked-upper I d k L.0 L.1.0 ∙ x.0, ap (λ (y : Digram). y.place) (sym L.1.1) ∙ x.1)

      by : IsAround folds.upper (kids_in ns folds.place) (kids_in ns folds.here.place) k → ⊥
      by (inl z) = H.first (subst (λ (n : ℕ). IsLinkedAs I d n) (z ∙ sym up-number) L)
      by (inr (inl (i, (key, (e, z))))) =
          let x = told child.above i S.up.key key child.there e z in
          let y : i ≡ child.child = let f = ap (λ (w : Digram). w.place) digram-is in let h = child.place in omega (arith, x.1, f, h) in
          let v : key ≡ low = one key low (sym e ∙ ap (λ (j : ℕ). slice_get (kids_in ns child.above) j) y ∙ child.is_child ∙ O.there) in
          apart (sym z ∙ ap (λ (w : Key). w.number) v)
      by (inr (inr (i, (key, (e, z))))) = below (told O.place i low key O.there e z).0

  pub far-from : (k : ℕ) → IsLinkedAs I d k → k ≢ low.number → upper_at I k ≢ low.number
      → IsAround folds.upper (kids_in (nodes_at G folds.here.rule) folds.place) (kids_in (nodes_at G folds.here.rule) folds.here.place) k → ⊥
  unfolding folds
  far-from k L apart below near = far k L apart below near

  module _ (J : Linked) (same : (n : ℕ) → (IsAround folds.upper (kids_in ns folds.place) (kids_in ns folds.here.place) n → ⊥) → cell J n ≡ cell I n) where
    stays : (k : ℕ) → IsLinkedAs I d k → k ≢ low.number → upper_at I k ≢ low.number → cell J k ≡ cell I k
    stays k L a b = same k (far k L a b)

    -- an occurrence that shares a node with the folded one
    abbrev Hit : ℕ → Type 0
    Hit k = (k ≡ low.number) ⊎ (upper_at I k ≡ low.number)

    hit-test : (k : ℕ) → Hit k ⊎ (Hit k → ⊥)
    hit-test k = by (cases_eq k low.number) (cases_eq (upper_at I k) low.number)
      where
        no : (k ≡ low.number → ⊥) → (upper_at I k ≡ low.number → ⊥) → Hit k → ⊥
        no a b (inl z) = a z
        no a b (inr z) = b z

        by : (k ≡ low.number) ⊎ (k ≡ low.number → ⊥) → (upper_at I k ≡ low.number) ⊎ (upper_at I k ≡ low.number → ⊥) → Hit k ⊎ (Hit k → ⊥)
        by (inl z) b = inl (inl z)
        by (inr a) (inl z) = inl (inr z)
        by (inr a) (inr b) = inr (no a b)

    -- of two that share no node one at most is hit
    one-hit : (a b : ℕ) → ShareNoNode I a b → Hit a → Hit b → ⊥
    one-hit a b A (inl x) (inl y) = A.lows (x ∙ sym y)
    one-hit a b A (inl x) (inr y) = A.down (x ∙ sym y)
    one-hit a b A (inr x) (inl y) = A.back (x ∙ sym y)
    one-hit a b A (inr x) (inr y) = A.highs (x ∙ sym y)

    kept : (k : ℕ) → IsLinkedAs I d k → (Hit k → ⊥) → cell J k ≡ cell I k
    kept k L n = stays k L (λ z. n (inl z)) (λ z. n (inr z))

    abbrev AllSame : List ℕ → Type 0
    AllSame [] = Unit {0}
    AllSame (k ∷ ks) = (cell J k ≡ cell I k) × AllSame ks

    -- what shares no node with a hit one is not changed
    same-beside : (a : ℕ) (ks : List ℕ) → Hit a → AreApart I d ks → SharesNoNode I a ks → AllSame ks
    same-beside a [] h P A = tt
    same-beside a (k ∷ ks) h P A = (kept k P.0 (λ z. one-hit a k A.0 h z), same-beside a ks h P.1.1 A.1)

    -- all but one of those that share no node are not changed
    record Rest (ks : List ℕ) : Type 0 where
      pub items : List ℕ
      pub many : length ks ≤ suc (length items)
      pub apart : AreApart I d items
      pub unchanged : AllSame items
      pub from : (a : ℕ) → SharesNoNode I a ks → SharesNoNode I a items

    rest-apart : (ks : List ℕ) → AreApart I d ks → Rest ks
    rest-apart [] P = record { items = []; many = omega arith; apart = tt; unchanged = tt; from = λ a s. tt }
    rest-apart (k ∷ ks) P = by (hit-test k) (rest-apart ks P.1.1)
      where
        by : Hit k ⊎ (Hit k → ⊥) → Rest ks → Rest (k ∷ ks)
        by (inl h) Q = record { items = ks; many = omega arith; apart = P.1.1; unchanged = same-beside k ks h P.1.1 P.1.0; from = λ a s. s.1 }
        by (inr n) Q =
            record {
              items = k ∷ Q.items;
              many = let m = Q.many in omega (arith, m);
              apart = (P.0, (Q.from k P.1.0, Q.apart));
              unchanged = (kept k P.0 n, Q.unchanged);
              from = λ a s. (s.0, Q.from a s.1);
            }

    shares-kept : (a : ℕ) (ks : List ℕ) → cell J a ≡ cell I a → AllSame ks → SharesNoNode I a ks → SharesNoNode J a ks
    shares-kept a [] e f A = tt
    shares-kept a (k ∷ ks) e f A =
        let x = f.0 in
        (record { lows = A.0.lows; highs = rw (e, x) A.0.highs; down = rw x A.0.down; back = rw e A.0.back }, shares-kept a ks e f.1 A.1)

    apart-kept : (ks : List ℕ) → AllSame ks → AreApart I d ks → AreApart J d ks
    apart-kept [] f P = tt
    apart-kept (k ∷ ks) f P = ((P.0.0, (f.0 ∙ P.0.1.0, P.0.1.1)), (shares-kept k ks f.0 f.1 P.1.0, apart-kept ks f.1 P.1.1))

    -- after the fold one less of those that share no node is there
    pub still-apart : (ks : List ℕ) → AreApart I d ks → (js : List ℕ) × (AreApart J d js × (length ks ≤ suc (length js)))
    still-apart ks P = let R = rest-apart ks P in (R.items, (apart-kept R.items R.unchanged R.apart, R.many))

  pub apart-after : (J : Linked)
      → ((n : ℕ) → (IsAround folds.upper (kids_in (nodes_at G folds.here.rule) folds.place) (kids_in (nodes_at G folds.here.rule) folds.here.place) n → ⊥) → cell J n ≡ cell I n)
      → (ks : List ℕ) → AreApart I d ks → (js : List ℕ) × (AreApart J d js × (length ks ≤ suc (length js)))
  unfolding folds
  apart-after J same ks P = still-apart J same ks P

-- the new rule stays while others are folded
pub new-stays : (g h : Keyed) (K : IsKeyed g) (d : Digram) (rule : ℕ) (own low : Key) (F : FoldsInto g.rules low rule) → h.rules ≡ with_nodes g.rules F.here.rule (folded_nodes (nodes_at g.rules F.here.rule) F.place F.upper F.here.place (Call rule))
    → ranks_of (rules_of h.rules) ≡ ranks_of (rules_of g.rules) → length h.rules ≡ length g.rules → IsNewRule g.rules d rule own → IsNewRule h.rules d rule own
new-stays g h K d rule own low F made ranks many R = record {
  there = ap (λ (ns : List Node). key_in ns d.place) nodes ∙ R.there;
  alone = λ p key o k e. R.alone p key o (ap (λ (ns : List Node). key_in ns p) (sym nodes) ∙ k) (sym (occurrences p) ∙ e);
  body = body_at-rules_of h.rules rule ∙ ap labels_of nodes ∙ sym (body_at-rules_of g.rules rule) ∙ R.body ∙ ap (λ (rs : List ℕ). digram_body rs d.upper (d.place - 1) d.lower) (sym ranks);
  before = λ r w b. R.before r (omega (arith, w, many)) b;
}
  where
    nodes : nodes_at h.rules rule ≡ nodes_at g.rules rule
    nodes =
        ap (λ (H : List KeyedRule). nodes_at H rule) made
        ∙ nodes-others g.rules F.here.rule rule (folded_nodes (nodes_at g.rules F.here.rule) F.place F.upper F.here.place (Call rule)) (key_at-within g.rules F.here.rule F.here.place low F.here.there).0
        (λ z. absurd (let e = F.earlier in omega (arith, e, z)))

    occurrences : (p : ℕ) → occurrence_at h.rules rule p ≡ occurrence_at g.rules rule p
    occurrences p =
        ap (λ (rs : List ℕ). occurrence_below rs (parent_node (nodes_at h.rules rule) p) (slice_get (nodes_at h.rules rule) p)) ranks
        ∙ ap (λ (ns : List Node). occurrence_below (ranks_of (rules_of g.rules)) (parent_node ns p) (slice_get ns p)) nodes
