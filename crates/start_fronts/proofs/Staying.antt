-- Grammars of which a call and its rule's body stand for each other in one rule: each key of the rule stays behind the same labels.
use Rattle.std.proofs.Common.{◌≡◌, ℕ, zero, suc, ◌<◌, ◌≤◌, List, [], ◌∷◌, ◌++◌, length, get_or, take, Some, refl, sym, ap, ◌∙◌, subst, arith}
use Rattle.rule_arena.specs.Terms.{Node}
use Rattle.rule_arena.specs.declared.key.Key.{Key}
use Rattle.rule_arena.specs.declared.label.Label.{Label}
use Rattle.rule_arena.specs.declared.label.Label.TheVariants.{Bottom, Symbol, Call, Param}
use Rattle.slt_grammar.specs.Algebras.{ranks_of, all_meanings}
use Rattle.slt_grammar.specs.Bodies.{IsTerm}
use Rattle.slt_grammar.specs.Grammars.{rank_at, value_at}
use Rattle.slt_grammar.specs.Holding.{IsLawful}
use Rattle.slt_grammar.specs.Keyed.{KeyedRule, key_at, labels_of, nodes_at, rules_of}
use Rattle.slt_grammar.specs.Segments.{listed, part_of, segment, spread}
use Rattle.slt_grammar.specs.Terms.{Term, Leaf, holes, term_algebra}
use Rattle.slt_grammar.specs.Tours.{Stop}
use Rattle.slt_grammar.specs.declared.rules.Rule.{Rule}
use Rattle.slt_grammar.proofs.Agreeing.{Agree, agree-of, agree-take}
use Rattle.slt_grammar.proofs.KeyedLemmas.{body_at-rules_of, length-rules_of}
use Rattle.slt_grammar.proofs.RuleMeanings.{rank_at-ranks_of}
use Rattle.start_fronts.specs.Before.{labels_before, passed_to}
use Rattle.start_fronts.proofs.Exchanges.{Exchange, before-nodes, exchanged, same-times}
use Rattle.start_fronts.proofs.Flags.{stands-times, times, times-stands}
use Rattle.start_fronts.proofs.Listings.{before}

-- rules with the ranks and meanings of others have their values
pub values-same : (R Q : List Rule) → ranks_of Q ≡ ranks_of R → all_meanings term_algebra Q ≡ all_meanings term_algebra R → (s : ℕ) → value_at Q s ≡ value_at R s
values-same R Q k e s =
    let rank : rank_at Q s ≡ rank_at R s = sym (rank_at-ranks_of Q s) ∙ ap (λ ns. get_or ns s 0) k ∙ rank_at-ranks_of R s in
    ap (λ n. get_or (all_meanings term_algebra Q) s (λ _. Leaf) (holes 0 n)) rank
    ∙ ap (λ (fs : List (List Term → Term)). get_or fs s (λ _. Leaf) (holes 0 (rank_at R s))) e

-- and the parts of labels stand for the same
pub part-same : (R Q : List Rule) → ((s : ℕ) → value_at Q s ≡ value_at R s) → (l : Label) (i : ℕ) → part_of Q l i ≡ part_of R l i
part-same R Q v (Call q) i = ap (λ (t : Term). segment i (listed t [])) (v q)
part-same R Q v Param i = refl
part-same R Q v Bottom i = bottom i
  where
    bottom : (i : ℕ) → part_of Q Bottom i ≡ part_of R Bottom i
    bottom zero = refl
    bottom (suc i) = refl
part-same R Q v (Symbol f) i = symbol i
  where
    symbol : (i : ℕ) → part_of Q (Symbol f) i ≡ part_of R (Symbol f) i
    symbol zero = refl
    symbol (suc i) = refl

pub spread-same : {X : Type 0} (f g : Stop X → List Label) → ((m : Stop X) → f m ≡ g m) → (ms : List (Stop X)) (k : List Label) → spread f ms k ≡ spread g ms k
spread-same f g h [] k = refl
spread-same f g h (m ∷ ms) k = ap (λ ls. ls ++ spread f ms k) (h m) ∙ ap (λ ls. g m ++ ls) (spread-same f g h ms k)

-- a key of a rule of G stands in that rule of H, behind the same labels
pub record Stays (G H : List KeyedRule) (r p : ℕ) (key : Key) : Type 0 where
  pub now : ℕ
  pub there : key_at H r now ≡ Some key
  pub same : labels_before H r now ≡ labels_before G r p

module _ (G H : List KeyedRule) (L : IsLawful G) (M : IsLawful H) (ranks : ranks_of (rules_of H) ≡ ranks_of (rules_of G)) (values : (s : ℕ) → value_at (rules_of H) s ≡ value_at (rules_of G) s)
    (r : ℕ) (in_old : r < length G) (in_new : r < length H) where
  old-agree : Agree (ranks_of (rules_of G)) (nodes_at G r)
  old-agree = agree-of (ranks_of (rules_of G)) (nodes_at G r) (L.arities r)

  new-agree : Agree (ranks_of (rules_of G)) (nodes_at H r)
  new-agree = subst (λ (ks : List ℕ). Agree ks (nodes_at H r)) ranks (agree-of (ranks_of (rules_of H)) (nodes_at H r) (M.arities r))

  old-term : IsTerm (ranks_of (rules_of G)) (labels_of (nodes_at G r))
  old-term = subst (λ (ls : List Label). IsTerm (ranks_of (rules_of G)) ls) (body_at-rules_of G r) (L.grammar.each r (omega (arith, in_old, length-rules_of G))).shaped.term

  new-term : IsTerm (ranks_of (rules_of G)) (labels_of (nodes_at H r))
  new-term =
      subst (λ (ks : List ℕ). IsTerm ks (labels_of (nodes_at H r))) ranks
      (subst (λ (ls : List Label). IsTerm (ranks_of (rules_of H)) ls) (body_at-rules_of H r) (M.grammar.each r (omega (arith, in_new, length-rules_of H))).shaped.term)

  old-before : (p : ℕ) → labels_before G r p ≡ before (rules_of G) L.grammar (labels_of (take p (nodes_at G r)))
  old-before p = before-nodes (rules_of G) L.grammar (take p (nodes_at G r)) (agree-take (ranks_of (rules_of G)) p (nodes_at G r) old-agree)

  new-before : (p : ℕ) → labels_before H r p ≡ before (rules_of G) L.grammar (labels_of (take p (nodes_at H r)))
  new-before p =
      spread-same (λ (m : Stop Node). part_of (rules_of H) m.item.label m.part) (λ m. part_of (rules_of G) m.item.label m.part)
      (λ m. part-same (rules_of G) (rules_of H) values m.item.label m.part) (passed_to H r p) []
      ∙ before-nodes (rules_of G) L.grammar (take p (nodes_at H r)) (agree-take (ranks_of (rules_of G)) p (nodes_at H r) new-agree)

  -- a place with the same nodes before it
  pub stays-in-front : (p : ℕ) (key : Key) → key_at H r p ≡ Some key → take p (nodes_at H r) ≡ take p (nodes_at G r) → Stays G H r p key
  stays-in-front p key there e = record {
    now = p;
    there = there;
    same = new-before p ∙ ap (λ (xs : List Node). before (rules_of G) L.grammar (labels_of xs)) e ∙ sym (old-before p);
  }

  -- the call gave way to the body
  pub stays-inlined : (q : ℕ) (key : Key) → Exchange (rules_of G) q key (nodes_at G r) (nodes_at H r) → times key (nodes_at G r) ≤ 1 → (p : ℕ) → key_at G r p ≡ Some key → Stays G H r p key
  stays-inlined q key X once p there =
      let same = same-times (rules_of G) q key (nodes_at G r) (nodes_at H r) X in
      let at = times-stands key (nodes_at H r) (omega (arith, same, stands-times key (nodes_at G r) p there)) in
      record {
        now = at.0;
        there = at.1;
        same = new-before at.0 ∙ sym (exchanged (rules_of G) q key (nodes_at G r) (nodes_at H r) X L.grammar once old-term new-term p at.0 there at.1) ∙ sym (old-before p);
      }

  -- the body became the call
  pub stays-called : (q : ℕ) (key : Key) → Exchange (rules_of G) q key (nodes_at H r) (nodes_at G r) → times key (nodes_at G r) ≤ 1 → (p : ℕ) → key_at G r p ≡ Some key → Stays G H r p key
  stays-called q key X once p there =
      let same = same-times (rules_of G) q key (nodes_at H r) (nodes_at G r) X in
      let at = times-stands key (nodes_at H r) (omega (arith, same, stands-times key (nodes_at G r) p there)) in
      record {
        now = at.0;
        there = at.1;
        same = new-before at.0 ∙ exchanged (rules_of G) q key (nodes_at H r) (nodes_at G r) X L.grammar (omega (arith, once, same)) new-term old-term at.0 p at.1 there ∙ sym (old-before p);
      }
