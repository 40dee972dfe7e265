-- The rims of the rules of a grammar, none of which is its parameter alone.
use Rattle.std.proofs.Common.{◌≡◌, ◌⊎◌, inl, inr, ℕ, zero, suc, ◌<◌, ◌≤◌, List, [], ◌∷◌, Option, Some, None, length, get_or, refl, ap, sym, subst, ◌∙◌, arith}
use Rattle.std.proofs.lemmas.Bool.{cases_lt}
use Rattle.std.proofs.lemmas.List.{get_or_past}
use Rattle.rule_arena.specs.declared.label.Label.{Label}
use Rattle.rule_arena.specs.declared.label.Label.TheVariants.{Bottom, Symbol, Call, Param}
use Rattle.slt_grammar.specs.Algebras.{ranks_of}
use Rattle.slt_grammar.specs.Bodies.{CallsBelow}
use Rattle.slt_grammar.specs.Grammars.{IsGrammar, body_at, no_rule}
use Rattle.slt_grammar.specs.declared.rules.Rule.{Rule}
use Rattle.slt_grammar.proofs.RuleMeanings.{rank_at-ranks_of}
use Rattle.border_repair.specs.Cuts.{ShowRims}
use Rattle.border_repair.specs.Rims.{no_rim}
use Rattle.border_repair.specs.Splitting.{HasFront}
use Rattle.border_repair.specs.Weighing.{Scale, AreKnown, Rim, first_of, root_from, rim_of}
use Rattle.border_repair.proofs.RimLemmas.{IsWhole, tell-before}
use Rattle.border_repair.proofs.RimSteps.{rim-same}
use Rattle.border_repair.proofs.WeightLemmas.{weights_of, weights-are}

-- rims by so many steps down
abbrev rim_upto : List Rule → ℕ → ℕ → Rim
rim_upto G zero q = no_rim
rim_upto G (suc n) q = rim_of (rim_upto G n) (body_at G q)

module _ (G : List Rule) (g : IsGrammar G) where
  upto-same : (n m q : ℕ) → q < n → q < m → q < length G → rim_upto G n q ≡ rim_upto G m q
  upto-same zero m q a b l = absurd (omega arith)
  upto-same (suc n) zero q a b l = absurd (omega arith)
  upto-same (suc n) (suc m) q a b l = rim-same q (rim_upto G n) (rim_upto G m) (λ p c. upto-same n m p (omega arith) (omega arith) (omega arith)) (body_at G q) (g.each q l).earlier

  table-is : (r : ℕ) → r < length G → rim_upto G (length G) r ≡ rim_of (rim_upto G (length G)) (body_at G r)
  table-is r l = upto-same (length G) (suc (length G)) r l (omega arith) l

  module _ (fronts : (r : ℕ) → r < length G → HasFront (body_at G r)) where
    -- each rule has a root
    rooted : (k : ℕ) → k ≤ length G → (q : ℕ) → q < k → (l : Label) × ((rim_upto G (length G) q).root ≡ Some l)
    rooted zero b q l = absurd (omega arith)
    rooted (suc k) b q l = by_place (cases_lt q k) (rooted k (omega arith)) where
      root-of : ((p : ℕ) → p < k → (l : Label) × ((rim_upto G (length G) p).root ≡ Some l)) → (l : Label) (rest ls : List Label) → ls ≡ l ∷ rest → (l ≡ Param → ⊥) → CallsBelow k ls → (l : Label) × (root_from (rim_upto G (length G)) ls ≡ Some l)
      root-of ih Bottom rest ls e n c = (Bottom, ap (root_from (rim_upto G (length G))) e)
      root-of ih (Symbol f) rest ls e n c = (Symbol f, ap (root_from (rim_upto G (length G))) e)
      root-of ih Param rest ls e n c = absurd (n refl)
      root-of ih (Call p) rest ls e n c =
          let d = subst (CallsBelow k) e c in
          let r = ih p d.0 in
          (r.0, ap (root_from (rim_upto G (length G))) e ∙ ap (λ z. first_of z (root_from (rim_upto G (length G)) rest)) r.1)

      by_place : (q < k) ⊎ (k ≤ q) → ((p : ℕ) → p < k → (l : Label) × ((rim_upto G (length G) p).root ≡ Some l)) → (l : Label) × ((rim_upto G (length G) q).root ≡ Some l)
      by_place (inl c) ih = ih q c
      by_place (inr c) ih =
          let same : k ≡ q = omega arith in
          let (front, rest, e, n) = fronts k b in
          let r = root-of ih front rest (body_at G k) e n (g.each k b).earlier in
          subst (λ j. (l : Label) × ((rim_upto G (length G) j).root ≡ Some l)) same (r.0, ap (λ (z : Rim). z.root) (table-is k b) ∙ r.1)

    none : Scale
    none f i l = 0

    told : (q : ℕ) (l : q < length G) → (length ((rim_upto G (length G) q).borders) ≡ get_or (ranks_of G) q 0) × IsWhole (rim_upto G (length G) q)
    told q l =
        let t = tell-before none G g (rim_upto G (length G)) (weights_of none G (rim_upto G (length G)) (length G)) table-is (weights-are none G (rim_upto G (length G)) g) (length G) (omega arith) q l in
        (t.is.many, t.whole)

    known-at : (q : ℕ) → q < length G → AreKnown ((rim_upto G (length G) q).borders)
    known-at q l = by_kind ((told q l).1) (rooted (length G) (omega arith) q l) where
      by_kind : IsWhole (rim_upto G (length G) q) → (l : Label) × ((rim_upto G (length G) q).root ≡ Some l) → AreKnown ((rim_upto G (length G) q).borders)
      by_kind (inl (k, r, w)) z = w
      by_kind (inr (r, b)) z = absurd (some_none z.0 (sym z.1 ∙ r)) where
        some_none : (l : Label) → ◌≡◌ {A = Option Label} (Some l) None → ⊥
        some_none l y = cc

    abbrev picked : (q : ℕ) → (q < length G) ⊎ (length G ≤ q) → Rim
    picked q (inl l) = rim_upto G (length G) q
    picked q (inr l) = record { root = Some Bottom; borders = [] }

    unfold-picked : (q : ℕ) → q < length G → (c : (q < length G) ⊎ (length G ≤ q)) → picked q c ≡ rim_upto G (length G) q
    unfold-picked q l (inl a) = refl
    unfold-picked q l (inr a) = absurd (omega arith)

    at : (q : ℕ) → q < length G → picked q (cases_lt q (length G)) ≡ rim_upto G (length G) q
    at q l = unfold-picked q l (cases_lt q (length G))

    all-many : (q : ℕ) → length ((picked q (cases_lt q (length G))).borders) ≡ get_or (ranks_of G) q 0
    all-many q = by_place (cases_lt q (length G)) where
      by_place : (c : (q < length G) ⊎ (length G ≤ q)) → length ((picked q c).borders) ≡ get_or (ranks_of G) q 0
      by_place (inl l) = (told q l).0
      by_place (inr l) = sym (rank_at-ranks_of G q ∙ ap (λ (R : Rule). R.rank) (get_or_past G q no_rule l))

    shows : ShowRims G (λ q. picked q (cases_lt q (length G)))
    shows = record {
      are = λ r l. at r l ∙ table-is r l ∙ rim-same r (rim_upto G (length G)) (λ q. picked q (cases_lt q (length G))) (λ q b. sym (at q (omega arith))) (body_at G r) (g.each r l).earlier;
      known = λ q. known_by q (cases_lt q (length G));
      many = λ q l. all-many q;
      roots = λ q. root_by q (cases_lt q (length G));
    }
      where
        known_by : (q : ℕ) (c : (q < length G) ⊎ (length G ≤ q)) → AreKnown ((picked q c).borders)
        known_by q (inl l) = known-at q l
        known_by q (inr l) = tt

        root_by : (q : ℕ) (c : (q < length G) ⊎ (length G ≤ q)) → (k : Label) × ((picked q c).root ≡ Some k)
        root_by q (inl l) = rooted (length G) (omega arith) q l
        root_by q (inr l) = (Bottom, refl)

-- there are rims of all rules
pub record Table (G : List Rule) : Type 0 where
  pub rims : ℕ → Rim
  pub shows : ShowRims G rims
  pub all : (q : ℕ) → length ((rims q).borders) ≡ get_or (ranks_of G) q 0

pub rim-table : (G : List Rule) → IsGrammar G → ((r : ℕ) → r < length G → HasFront (body_at G r)) → Table G
rim-table G g f = record { rims = λ q. picked G g f q (cases_lt q (length G)); shows = shows G g f; all = all-many G g f }
