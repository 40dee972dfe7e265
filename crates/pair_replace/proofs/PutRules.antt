-- Where a digram's new rule stands, and what the index has then.
use Rattle.std.proofs.Common.{◌≡◌, ◌≢◌, ◌⊎◌, inl, inr, ◌-◌, ◌<◌, ◌≤◌, ℕ, zero, suc, List, [], ◌∷◌, length, Option, Some, None, IsSome, slice_get, refl, ap, sym, ◌∙◌, arith}
use Rattle.std.proofs.lemmas.Bool.{cases_eq}
use Rattle.rule_arena.specs.Preorder.{AreTerms}
use Rattle.rule_arena.specs.Terms.{Node, kids_in, kids_of}
use Rattle.rule_arena.specs.declared.key.Key.{Key}
use Rattle.rule_arena.specs.declared.label.Label.{Label}
use Rattle.rule_arena.proofs.ChildLemmas.{length-kids}
use Rattle.slt_grammar.specs.Names.{Param}
use Rattle.slt_grammar.specs.Algebras.{ranks_of}
use Rattle.slt_grammar.specs.Bodies.{arity, CallsBelow}
use Rattle.slt_grammar.specs.Grammars.{body_at}
use Rattle.slt_grammar.specs.Keyed.{Keyed, KeyedRule, IsKeyed, rules_of, labels_of, nodes_at, key_at}
use Rattle.slt_grammar.specs.KeyedEdits.{digram_body}
use Rattle.slt_grammar.specs.declared.digram.Digram.{Digram}
use Rattle.slt_grammar.proofs.Agreeing.{Agree, agree-of}
use Rattle.slt_grammar.proofs.KeyedLemmas.{body_at-rules_of, label-there, nodes-are-term}
use Rattle.digram_index.specs.Building.{IsNumberIn}
use Rattle.digram_index.specs.Digrams.{Cell, occurrence_at, occurrence_under, occurrence_below, parent_node}
use Rattle.digram_index.specs.Keeping.{IsIndexBut}
use Rattle.digram_index.specs.Linked.{Linked, IsIndexOf, cell, shifted_cell, shifted_digram}
use Rattle.digram_index.specs.Settled.{NodePair, OccursBetween, PairsShareNone, SharesNone, OccurApart, HasApart}
use Rattle.digram_index.proofs.Apartness.{Stands, stands, one-key}
use Rattle.digram_index.proofs.LevelLemmas.{same_some}
use Rattle.pair_replace.specs.Chains.{IsLinkedAs, ShareNoNode, SharesNoNode, AreApart, HasApartLinked, upper_at, upper_of}
use Rattle.pair_replace.specs.NewRules.{IsNewRule}
use Rattle.pair_replace.proofs.DigramBodies.{others-parameters, lower-key}
use Rattle.pair_replace.proofs.NextFolds.{under-real}
use Rattle.pair_replace.proofs.PutCounts.{digram-stays}

-- a root has no parent
no-parent : (ns : List Node) → parent_node ns 0 ≡ None
no-parent [] = refl
no-parent (n ∷ ns) = refl

never-both : {X : Type 0} (x : X) (o : Option X) → o ≡ None → o ≡ Some x → ⊥
never-both x o a b = cc

-- a lower node is no root and no parameter
module _ (G : List KeyedRule) (r p : ℕ) (key : Key) (o : Cell) (k : key_at G r p ≡ Some key) (e : occurrence_at G r p ≡ Some o) where
  S : Stands G r p key o
  S = stands G r p key o k e

  no-root : p ≢ 0
  no-root z = never-both (S.up, o.digram.place) (parent_node (nodes_at G r) p) (ap (parent_node (nodes_at G r)) z ∙ no-parent (nodes_at G r)) S.parent

  no-parameter : S.node.label ≢ Param
  no-parameter z =
      let ranks : List ℕ = ranks_of (rules_of G) in
      let x : occurrence_under ranks S.up o.digram.place S.node.label ≡ Some o =
      sym (ap (λ u. occurrence_below ranks u (slice_get (nodes_at G r) p)) S.parent ∙ ap (λ n. occurrence_below ranks (Some (S.up, o.digram.place)) n) S.here) ∙ e in
      under-real ranks S.up o.digram.place S.node.label o x z

  -- in a digram over parameters it is the lower one
  pub lower-place : (ranks : List ℕ) (u l : Label) (c : ℕ) → body_at (rules_of G) r ≡ digram_body ranks u c l → p ≡ suc c
  lower-place ranks u l c b = at (others-parameters ranks u l S.node.label c p (ap (λ (ls : List Label). slice_get ls p) (sym b) ∙ label-there G r p S.node S.here))
    where
      at : (p ≡ 0) ⊎ ((p ≡ suc c) ⊎ (S.node.label ≡ Param)) → p ≡ suc c
      at (inl x) = absurd (no-root x)
      at (inr (inl x)) = x
      at (inr (inr x)) = absurd (no-parameter x)

kids-many : (ranks ranks' : List ℕ) (u l : Label) (c : ℕ) (ns : List Node) → labels_of ns ≡ digram_body ranks' u c l → Agree ranks ns → AreTerms kids_of 1 ns → length (kids_in ns 0) ≡ arity ranks u
kids-many ranks ranks' u l c [] e a t = absurd (cc)
kids-many ranks ranks' u l c (x ∷ ns) e a t =
    let z : x.label ≡ u = cc in
    length-kids 1 (x ∷ ns) 0 x t refl ∙ a.0 ∙ ap (arity ranks) z

some-there : {X : Type 0} (xs : List X) (i : ℕ) → i < length xs → IsSome (slice_get xs i)
some-there [] i h = absurd (omega arith)
some-there (x ∷ xs) zero h = refl
some-there (x ∷ xs) (suc i) h = some-there xs i (omega arith)

-- the root of a digram over parameters has a child at the digram's place
pub child-there : (g : Keyed) → IsKeyed g → (d : Digram) (rule : ℕ) → rule < length g.rules → 1 ≤ d.place → d.place ≤ arity (ranks_of (rules_of g.rules)) d.upper
    → body_at (rules_of g.rules) rule ≡ digram_body (ranks_of (rules_of g.rules)) d.upper (d.place - 1) d.lower → (keys : List Key) → kids_in (nodes_at g.rules rule) 0 ≡ keys → IsSome (slice_get keys (d.place - 1))
child-there g K d rule h first last body keys e =
    let ranks : List ℕ = ranks_of (rules_of g.rules) in
    let ns : List Node = nodes_at g.rules rule in
    let k : length (kids_in ns 0) ≡ arity ranks d.upper = kids-many ranks ranks d.upper d.lower (d.place - 1) ns (sym (body_at-rules_of g.rules rule) ∙ body) (agree-of ranks ns (K.arities rule)) (nodes-are-term g K rule h) in
    let m = ap length e in
    some-there keys (d.place - 1) (omega arith)

-- a rule whose body is a digram over parameters is the digram's new rule
pub is-new : (g : Keyed) → IsKeyed g → (d : Digram) (rule : ℕ) (lower : Key) → 1 ≤ d.place → body_at (rules_of g.rules) rule ≡ digram_body (ranks_of (rules_of g.rules)) d.upper (d.place - 1) d.lower
    → slice_get (kids_in (nodes_at g.rules rule) 0) (d.place - 1) ≡ Some lower → ((r : ℕ) → CallsBelow r (d.upper ∷ d.lower ∷ []) → rule ≤ r) → IsNewRule g.rules d rule lower
is-new g K d rule lower first body child least = record {
  there = there;
  alone = λ p key o k e.
      let z : p ≡ d.place = lower-place g.rules rule p key o k e ranks d.upper d.lower (d.place - 1) body ∙ place in
      same_some key lower (sym k ∙ ap (key_at g.rules rule) z ∙ there);
  body = body;
  before = λ r h b. least r b;
}
  where
    ranks : List ℕ
    ranks = ranks_of (rules_of g.rules)

    place : suc (d.place - 1) ≡ d.place
    place = omega arith

    there : key_at g.rules rule d.place ≡ Some lower
    there =
        ap (key_at g.rules rule) (sym place)
        ∙ lower-key ranks ranks d.upper d.lower (d.place - 1) (nodes_at g.rules rule) lower (sym (body_at-rules_of g.rules rule) ∙ body) (agree-of ranks (nodes_at g.rules rule) (K.arities rule)) child

-- of a new rule's nodes, the index lacks the lower one alone
pub index-but-lower : (g : Keyed) → IsKeyed g → (d : Digram) (rule : ℕ) (lower : Key) → IsNewRule g.rules d rule lower → (I : Linked) → IsIndexBut g I (IsNumberIn g.rules rule) → IsIndexBut g I (λ k. k ≡ lower.number)
index-but-lower g K d rule lower N I B = record {
  rules = B.rules;
  all = λ r p key k far. at r p key k far (cases_eq r rule);
  free = λ k e. B.free k (d.place, (lower, (N.there, sym e)));
  only = B.only;
}
  where
    nothing : (p : ℕ) (key : Key) → key_at g.rules rule p ≡ Some key → (key.number ≡ lower.number → ⊥) → (o : Option Cell) → occurrence_at g.rules rule p ≡ o → None ≡ o
    nothing p key k far None e = refl
    nothing p key k far (Some o) e = absurd (far (ap (λ (x : Key). x.number) (N.alone p key o k e)))

    at : (r p : ℕ) (key : Key) → key_at g.rules r p ≡ Some key → (key.number ≡ lower.number → ⊥) → (r ≡ rule) ⊎ (r ≡ rule → ⊥) → cell I key.number ≡ occurrence_at g.rules r p
    at r p key k far (inl e) =
        let m : key_at g.rules rule p ≡ Some key = ap (λ x. key_at g.rules x p) (sym e) ∙ k in
        B.free key.number (p, (key, (m, refl))) ∙ nothing p key m far (occurrence_at g.rules rule p) refl ∙ ap (λ x. occurrence_at g.rules x p) (sym e)
    at r p key k far (inr n) = B.all r p key k (λ w. n (K.once w.1.0 r p rule w.0 (k ∙ ap Some (one-key key w.1.0 (sym w.1.1.1))) w.1.1.0).0)

module _ (g : Keyed) (d : Digram) (place : ℕ) (I J : Linked) (A : IsIndexOf g I) (below : CallsBelow place (d.upper ∷ d.lower ∷ [])) (cells : (k : ℕ) → cell J k ≡ shifted_cell place (cell I k)) where
  -- an occurrence that was linked still is
  linked : (n : NodePair) → OccursBetween g.rules d n → IsLinkedAs J d n.low × (upper_at J n.low ≡ n.high)
  linked n O =
      let o = O.occurrence in
      let c : Cell = record { digram = shifted_digram place o.digram; rank = o.rank; upper = o.upper } in
      let e : cell J n.low ≡ Some c = cells n.low ∙ ap (shifted_cell place) (ap (cell I) (sym O.low) ∙ A.all O.at.rule O.at.place O.key O.at.there ∙ O.at.here) in
      ((c, (e, ap (shifted_digram place) O.digram ∙ digram-stays place d below)), ap upper_of e ∙ O.high)

  apart : (m n : NodePair) → OccursBetween g.rules d m → OccursBetween g.rules d n → PairsShareNone m n → ShareNoNode J m.low n.low
  apart m n M N P =
      let a = (linked m M).1 in
      let b = (linked n N).1 in
      record {
        lows = P.lows;
        highs = λ e. P.highs (sym a ∙ e ∙ b);
        down = λ e. P.down (e ∙ b);
        back = λ e. P.back (sym a ∙ e);
      }

  abbrev lows : List NodePair → List ℕ
  lows [] = []
  lows (n ∷ ns) = n.low ∷ lows ns

  length-lows : (ns : List NodePair) → length (lows ns) ≡ length ns
  length-lows [] = refl
  length-lows (n ∷ ns) = ap suc (length-lows ns)

  shares-linked : (m : NodePair) → OccursBetween g.rules d m → (ns : List NodePair) → OccurApart g.rules d ns → SharesNone m ns → SharesNoNode J m.low (lows ns)
  shares-linked m M [] O P = tt
  shares-linked m M (n ∷ ns) O P = (apart m n M O.0 P.0, shares-linked m M ns O.1.1 P.1)

  all-linked : (ns : List NodePair) → OccurApart g.rules d ns → AreApart J d (lows ns)
  all-linked [] O = tt
  all-linked (n ∷ ns) O = ((linked n O.0).0, (shares-linked n O.0 ns O.1.1 O.1.0, all-linked ns O.1.1))

  -- those that share no node are linked
  pub apart-linked : (least : ℕ) → HasApart g.rules d least → HasApartLinked J d least
  apart-linked least H = (lows H.0, (all-linked H.0 H.1.0, let l = length-lows H.0 in let m = H.1.1 in omega (arith, l, m)))
