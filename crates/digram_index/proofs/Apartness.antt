-- Which occurrences share no node.
use Rattle.std.proofs.Common.{◌≡◌, ◌≢◌, ◌+◌, ◌⊎◌, inl, inr, ℕ, zero, suc, List, [], ◌∷◌, Option, Some, None, slice_get, Bool, true, false, not, refl, ap, sym, ◌∙◌, subst, arith}
use Rattle.rule_arena.specs.Terms.{Node}
use Rattle.rule_arena.specs.declared.key.Key.{Key}
use Rattle.rule_arena.specs.declared.label.Label.{Label}
use Rattle.rule_arena.proofs.NodeLemmas.{key_of_node, node_of}
use Rattle.slt_grammar.specs.Algebras.{ranks_of}
use Rattle.slt_grammar.specs.Keyed.{Keyed, KeyedRule, IsKeyed, rules_of, nodes_at, key_at}
use Rattle.slt_grammar.specs.declared.digram.Digram.{Digram}
use Rattle.digram_index.specs.Grouped.{IsAmong, AreDifferent, named_count}
use Rattle.digram_index.specs.Digrams.{Cell, parent_node, joint_rank, occurrence_under, occurrence_below, occurrence_at}
use Rattle.digram_index.specs.Settled.{NodePair, OccursBetween, PairsShareNone}
use Rattle.digram_index.proofs.Readings.{under-is}
use Rattle.digram_index.proofs.LevelLemmas.{same_some, level, parent-level, OnceKeyed, one-kid}

-- how an occurrence stands at a place
pub record Stands (G : List KeyedRule) (r p : ℕ) (key : Key) (o : Cell) : Type 0 where
  pub node : Node
  pub up : Node
  pub above : ℕ
  pub here : slice_get (nodes_at G r) p ≡ Some node
  pub key_here : node.key ≡ key
  pub parent : parent_node (nodes_at G r) p ≡ Some (up, o.digram.place)
  pub there : slice_get (nodes_at G r) above ≡ Some up
  pub deeper : level (nodes_at G r) p ≡ suc (level (nodes_at G r) above)
  pub low : node.label ≡ o.digram.lower
  pub high : up.label ≡ o.digram.upper
  pub upper : up.key.number ≡ o.upper
  pub rank : o.rank ≡ joint_rank (ranks_of (rules_of G)) o.digram.upper o.digram.lower

pub stands : (G : List KeyedRule) (r p : ℕ) (key : Key) (o : Cell) → key_at G r p ≡ Some key → occurrence_at G r p ≡ Some o → Stands G r p key o
stands G r p key o k h = at (node_of (nodes_at G r) p key k) (parent_node (nodes_at G r) p) refl
  where
    at : (n : Node) × ((slice_get (nodes_at G r) p ≡ Some n) × (n.key ≡ key)) → (u : Option (Node × ℕ)) → parent_node (nodes_at G r) p ≡ u → Stands G r p key o
    at N None e = absurd (let z : None ≡ Some o = sym (ap (λ u. occurrence_below (ranks_of (rules_of G)) u (slice_get (nodes_at G r) p)) e) ∙ h in cc)
    at N (Some u) e =
        let P = parent-level (nodes_at G r) p u e in
        let z : occurrence_under (ranks_of (rules_of G)) u.0 u.1 N.0.label ≡ Some o = sym (ap (λ v. occurrence_below (ranks_of (rules_of G)) v (slice_get (nodes_at G r) p)) e ∙ ap (λ v. occurrence_below (ranks_of (rules_of G)) (Some u) v) N.1.0) ∙ h in
        let t = under-is (ranks_of (rules_of G)) u.0 u.1 N.0.label o z in
        let d : u.1 ≡ o.digram.place = ap (λ (x : Cell). x.digram.place) (sym t) in
        let hi : u.0.label ≡ o.digram.upper = ap (λ (x : Cell). x.digram.upper) (sym t) in
        let lo : N.0.label ≡ o.digram.lower = ap (λ (x : Cell). x.digram.lower) (sym t) in
        record {
          node = N.0;
          up = u.0;
          above = P.0;
          here = N.1.0;
          key_here = N.1.1;
          parent = e ∙ ap (λ (c : ℕ). Some (u.0, c)) d;
          there = P.1.1.0;
          deeper = P.1.1.1;
          low = lo;
          high = hi;
          upper = ap (λ (x : Cell). x.upper) (sym t);
          rank = ap (λ (x : Cell). x.rank) t ∙ ap (λ (l : Label). joint_rank (ranks_of (rules_of G)) l N.0.label) hi ∙ ap (λ (l : Label). joint_rank (ranks_of (rules_of G)) o.digram.upper l) lo;
        }

pub one-key : (k m : Key) → k.number ≡ m.number → k ≡ m
one-key k m e = ap (λ n. let x : Key = record { number = n } in x) e

-- an occurrence by its lower node's number
pub record Stood (G : List KeyedRule) (d : Digram) (n : NodePair) : Type 0 where
  pub rule : ℕ
  pub place : ℕ
  pub key : Key
  pub occurrence : Cell
  pub key_at : key_at G rule place ≡ Some key
  pub at : Stands G rule place key occurrence
  pub low : key.number ≡ n.low
  pub high : occurrence.upper ≡ n.high
  pub digram : occurrence.digram ≡ d

module _ (g : Keyed) (K : IsKeyed g) where
  once-keyed : (r : ℕ) → OnceKeyed (nodes_at g.rules r)
  once-keyed r p q m n a b e = (K.once m.key r p r q (key_of_node (nodes_at g.rules r) p m a) (key_of_node (nodes_at g.rules r) q n b ∙ ap Some (sym e))).1

  abbrev pub depth : (d : Digram) (n : NodePair) → Stood g.rules d n → ℕ
  depth d n S = level (nodes_at g.rules S.rule) S.place

  -- two that hang from one node are one
  pub one-high : (d : Digram) (m n : NodePair) → Stood g.rules d m → Stood g.rules d n → m.high ≡ n.high → m.low ≡ n.low
  one-high d m n S T e =
      let k : S.at.up.key ≡ T.at.up.key = one-key S.at.up.key T.at.up.key (S.at.upper ∙ S.high ∙ e ∙ sym T.high ∙ sym T.at.upper) in
      let o = K.once S.at.up.key S.rule S.at.above T.rule T.at.above (key_of_node (nodes_at g.rules S.rule) S.at.above S.at.up S.at.there) (key_of_node (nodes_at g.rules T.rule) T.at.above T.at.up T.at.there ∙ ap Some (sym k)) in
      let P : parent_node (nodes_at g.rules S.rule) T.place ≡ Some (T.at.up, T.occurrence.digram.place) = subst (λ r. parent_node (nodes_at g.rules r) T.place ≡ Some (T.at.up, T.occurrence.digram.place)) (sym o.0) T.at.parent in
      let q : S.place ≡ T.place = one-kid (nodes_at g.rules S.rule) (once-keyed S.rule) S.place T.place (S.at.up, S.occurrence.digram.place) (T.at.up, T.occurrence.digram.place) S.at.parent P k (ap (λ (x : Digram). x.place) (S.digram ∙ sym T.digram)) in
      let z : Some S.key ≡ Some T.key = sym S.key_at ∙ ap (λ r. key_at g.rules r S.place) o.0 ∙ ap (λ p. key_at g.rules T.rule p) q ∙ T.key_at in
      sym S.low ∙ ap (λ (x : Key). x.number) (same_some S.key T.key z) ∙ T.low

  -- where the lower node of one is the upper node of another
  pub record Meet (d : Digram) (m n : NodePair) (S : Stood g.rules d m) (T : Stood g.rules d n) : Type 0 where
    pub labels : d.lower ≡ d.upper
    pub deeper : depth d n T ≡ suc (depth d m S)

  pub meet : (d : Digram) (m n : NodePair) (S : Stood g.rules d m) (T : Stood g.rules d n) → m.low ≡ n.high → Meet d m n S T
  meet d m n S T e =
      let k : S.key ≡ T.at.up.key = one-key S.key T.at.up.key (S.low ∙ e ∙ sym T.high ∙ sym T.at.upper) in
      let o = K.once S.key S.rule S.place T.rule T.at.above S.key_at (key_of_node (nodes_at g.rules T.rule) T.at.above T.at.up T.at.there ∙ ap Some (sym k)) in
      let z : Some S.at.node ≡ Some T.at.up = sym S.at.here ∙ ap (λ r. slice_get (nodes_at g.rules r) S.place) o.0 ∙ ap (λ p. slice_get (nodes_at g.rules T.rule) p) o.1 ∙ T.at.there in
      record {
        labels = ap (λ (x : Digram). x.lower) (sym S.digram) ∙ sym S.at.low ∙ ap (λ (x : Node). x.label) (same_some S.at.node T.at.up z) ∙ T.at.high ∙ ap (λ (x : Digram). x.upper) T.digram;
        deeper = T.at.deeper ∙ ap suc (ap (λ p. level (nodes_at g.rules T.rule) p) (sym o.1) ∙ ap (λ r. level (nodes_at g.rules r) S.place) (sym o.0));
      }

  abbrev pub odd : ℕ → Bool
  odd zero = false
  odd (suc n) = not (odd n)

  flips : (b : Bool) → not b ≡ b → ⊥
  flips true e = cc
  flips false e = cc

  -- different ones of equal parity share no node
  pub even-apart : (d : Digram) (m n : NodePair) (S : Stood g.rules d m) (T : Stood g.rules d n) → m.low ≢ n.low → odd (depth d m S) ≡ odd (depth d n T) → PairsShareNone m n
  even-apart d m n S T x e = record {
    lows = x;
    highs = λ h. x (one-high d m n S T h);
    down = λ h. let M = meet d m n S T h in flips (odd (depth d m S)) (ap odd (sym M.deeper) ∙ sym e);
    back = λ h. let M = meet d n m T S (sym h) in flips (odd (depth d n T)) (ap odd (sym M.deeper) ∙ e);
  }

  -- different ones of different labels share no node
  pub differ-apart : (d : Digram) (m n : NodePair) (S : Stood g.rules d m) (T : Stood g.rules d n) → m.low ≢ n.low → d.upper ≢ d.lower → PairsShareNone m n
  differ-apart d m n S T x e = record {
    lows = x;
    highs = λ h. x (one-high d m n S T h);
    down = λ h. e (sym (meet d m n S T h).labels);
    back = λ h. e (sym (meet d n m T S (sym h)).labels);
  }

  pub occurs : (d : Digram) (n : NodePair) (S : Stood g.rules d n) → occurrence_at g.rules S.rule S.place ≡ Some S.occurrence → OccursBetween g.rules d n
  occurs d n S h = record {
    key = S.key;
    occurrence = S.occurrence;
    at = record { rule = S.rule; place = S.place; there = S.key_at; here = h };
    low = S.low;
    high = S.high;
    digram = S.digram;
  }

-- those that pass a test, and those that fail it
pub record Side (ks : List (Option ℕ)) (F : (k : ℕ) → Bool → Type 0) (b : Bool) : Type 0 where
  pub items : List (Option ℕ)
  pub different : AreDifferent items
  pub among : (k : ℕ) → IsAmong k items → IsAmong k ks
  pub facts : (k : ℕ) → IsAmong k items → F k b

pub record Sides (ks : List (Option ℕ)) (F : (k : ℕ) → Bool → Type 0) : Type 0 where
  pub yes : Side ks F true
  pub no_ : Side ks F false
  pub counts : named_count yes.items + named_count no_.items ≡ named_count ks

-- with another one in front
abbrev pub side-more : (k : ℕ) (ks : List (Option ℕ)) (F : (k : ℕ) → Bool → Type 0) (b : Bool) → (IsAmong k ks → ⊥) → F k b → Side ks F b → Side (Some k ∷ ks) F b
side-more k ks F b n f S = record {
  items = Some k ∷ S.items;
  different = (λ i. n (S.among k i), S.different);
  among = λ j i. at j i;
  facts = λ j i. fact j i;
}
  where
    at : (j : ℕ) → (j ≡ k) ⊎ IsAmong j S.items → (j ≡ k) ⊎ IsAmong j ks
    at j (inl x) = inl x
    at j (inr x) = inr (S.among j x)

    fact : (j : ℕ) → (j ≡ k) ⊎ IsAmong j S.items → F j b
    fact j (inl x) = subst (λ m. F m b) (sym x) f
    fact j (inr x) = S.facts j x

abbrev pub side-same : (k : ℕ) (ks : List (Option ℕ)) (F : (k : ℕ) → Bool → Type 0) (b : Bool) → Side ks F b → Side (Some k ∷ ks) F b
side-same k ks F b S = record { items = S.items; different = S.different; among = λ j i. inr (S.among j i); facts = S.facts }

pub sides : (ks : List (Option ℕ)) (F : (k : ℕ) → Bool → Type 0) → AreDifferent ks → ((k : ℕ) → IsAmong k ks → (b : Bool) × F k b) → Sides ks F
sides [] F D f = record {
  yes = record { items = []; different = tt; among = λ k i. i; facts = λ k i. absurd i };
  no_ = record { items = []; different = tt; among = λ k i. i; facts = λ k i. absurd i };
  counts = omega arith;
}
sides (None ∷ ks) F D f =
    let S = sides ks F D f in
    record {
      yes = record { items = S.yes.items; different = S.yes.different; among = S.yes.among; facts = S.yes.facts };
      no_ = record { items = S.no_.items; different = S.no_.different; among = S.no_.among; facts = S.no_.facts };
      counts = S.counts;
    }
sides (Some k ∷ ks) F D f = at (sides ks F D.1 (λ j i. f j (inr i))) (f k (inl refl))
  where
    at : Sides ks F → (b : Bool) × F k b → Sides (Some k ∷ ks) F
    at S (true, x) = record { yes = side-more k ks F true D.0 x S.yes; no_ = side-same k ks F false S.no_; counts = let n = S.counts in omega arith }
    at S (false, x) = record { yes = side-same k ks F true S.yes; no_ = side-more k ks F false D.0 x S.no_; counts = let n = S.counts in omega arith }
