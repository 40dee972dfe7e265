-- A step is as near backward as it is forward.
use Rattle.std.proofs.Common.{◌≡◌, ℕ, List, Option, Some, sym, ap, ◌∙◌, subst}
use Rattle.rule_arena.specs.declared.key.Key.{Key}
use Rattle.slt_grammar.specs.Keyed.{Keyed, KeyedRule, IsKeyed, key_at}
use Rattle.digram_index.specs.Keeping.{IsNear, TellsSame}

tells-turned : (G H : List KeyedRule) (r p s q : ℕ) → TellsSame G H r p s q → TellsSame H G s q r p
tells-turned G H r p s q T = record {
  node = T.other;
  other = T.node;
  here = T.there;
  there = T.here;
  label = sym T.label;
  parent = sym T.parent;
  above = λ a b m n e f k c z. sym (T.above b a n m f e (sym k) c (T.parent ∙ z ∙ ap (λ (x : Key). let o : Option (Key × ℕ) = Some (x, c) in o) k));
}

-- where a key stands once before the step
pub near-turned : (G H : Keyed) (near : ℕ → Type 0) → IsKeyed G → IsNear G H near → IsNear H G near
near-turned G H near K N = record {
  ranks = sym N.ranks;
  rules = sym N.rules;
  same = λ r p key e f. same r p key e f;
  stay = λ r p key e f. let S = N.same r p key e f in (S.0, (S.1.0, S.1.1.0));
}
  where
    same : (r p : ℕ) (key : Key) → key_at G.rules r p ≡ Some key → (near key.number → ⊥) → (s : ℕ) × ((q : ℕ) × ((key_at H.rules s q ≡ Some key) × TellsSame G.rules H.rules r p s q))
    same r p key e f =
        let W = N.stay r p key e f in
        let S = N.same W.0 W.1.0 key W.1.1 f in
        let o = K.once key S.0 S.1.0 r p S.1.1.0 e in
        let T = subst (λ (x : ℕ). TellsSame H.rules G.rules W.0 W.1.0 x S.1.0) o.0 S.1.1.1 in
        (W.0, (W.1.0, (W.1.1, tells-turned H.rules G.rules W.0 W.1.0 r p (subst (λ (x : ℕ). TellsSame H.rules G.rules W.0 W.1.0 r x) o.1 T))))
