-- Starts whose nodes stand for the same: each key is behind the same labels.
use Rattle.std.proofs.Common.{◌≡◌, ℕ, zero, suc, ◌-◌, List, [], ◌∷◌, ◌++◌, drop, get_or, length, take, Some, refl, sym, ap, ◌∙◌, append_assoc}
use Rattle.rule_arena.specs.Terms.{Node, key_in, kids_of}
use Rattle.rule_arena.specs.declared.key.Key.{Key}
use Rattle.rule_arena.specs.declared.label.Label.{Label}
use Rattle.slt_grammar.specs.Keyed.{KeyedRule, nodes_at, rules_of}
use Rattle.slt_grammar.specs.Segments.{part_of, spread}
use Rattle.slt_grammar.specs.Tours.{Stop, stop, once_closed, opened_kids, tour}
use Rattle.slt_grammar.specs.declared.rules.Rule.{Rule}
use Rattle.start_fronts.specs.Alike.{AreAlike}
use Rattle.start_fronts.specs.Before.{KeepsBefore}

module _ (G H : List Rule) where
  -- what stops of each grammar's nodes stand for
  abbrev pub first : List (Stop Node) → List Label
  first ms = spread (λ m. part_of G m.item.label m.part) ms []

  abbrev pub second : List (Stop Node) → List Label
  second ms = spread (λ m. part_of H m.item.label m.part) ms []

  pub first-append : (ms ns : List (Stop Node)) → first (ms ++ ns) ≡ first ms ++ first ns
  first-append [] ns = refl
  first-append (m ∷ ms) ns = ap (λ ls. part_of G m.item.label m.part ++ ls) (first-append ms ns) ∙ sym (append_assoc (part_of G m.item.label m.part) (first ms) (first ns))

  pub second-append : (ms ns : List (Stop Node)) → second (ms ++ ns) ≡ second ms ++ second ns
  second-append [] ns = refl
  second-append (m ∷ ms) ns = ap (λ ls. part_of H m.item.label m.part ++ ls) (second-append ms ns) ∙ sym (append_assoc (part_of H m.item.label m.part) (second ms) (second ns))

  -- the stops behind each term stand for the same
  abbrev pub Behind : List (List (Stop Node)) → List (List (Stop Node)) → Type 0
  Behind afters others = (i : ℕ) → second (get_or others i []) ≡ first (get_or afters i [])

  -- where the parts behind the first stand for the same
  module _ (n m : Node) (later : (i : ℕ) → part_of H m.label (suc i) ≡ part_of G n.label (suc i)) where
    pub behind-opened : (j c : ℕ) (after other : List (Stop Node)) (afters others : List (List (Stop Node))) → second other ≡ first after → Behind afters others
        → Behind (opened_kids n (suc j) c after ++ afters) (opened_kids m (suc j) c other ++ others)
    behind-opened j zero after other afters others e b i = b i
    behind-opened j (suc zero) after other afters others e b zero = ap (λ ls. ls ++ second other) (later j) ∙ ap (λ ls. part_of G n.label (suc j) ++ ls) e
    behind-opened j (suc zero) after other afters others e b (suc i) = b i
    behind-opened j (suc (suc c)) after other afters others e b zero = ap (λ ls. ls ++ []) (later j)
    behind-opened j (suc (suc c)) after other afters others e b (suc i) = behind-opened (suc j) (suc c) after other afters others e b i

  closed-same : (c : ℕ) (after other : List (Stop Node)) → second other ≡ first after → second (once_closed c other) ≡ first (once_closed c after)
  closed-same zero after other e = e
  closed-same (suc c) after other e = refl

  pub dropped-same : (afters others : List (List (Stop Node))) → Behind afters others → Behind (drop 1 afters) (drop 1 others)
  dropped-same [] [] b i = refl
  dropped-same [] (o ∷ others) b i = b (suc i)
  dropped-same (a ∷ afters) [] b i = b (suc i)
  dropped-same (a ∷ afters) (o ∷ others) b i = b (suc i)

  -- tours of such nodes stand for the same
  pub tours-same : (ns ms : List Node) (afters others : List (List (Stop Node))) → AreAlike G H ns ms → Behind afters others → second (tour kids_of others ms) ≡ first (tour kids_of afters ns)
  tours-same [] [] afters others a b = refl
  tours-same [] (m ∷ ms) afters others a b = absurd a
  tours-same (n ∷ ns) [] afters others a b = absurd a
  tours-same (n ∷ ns) (m ∷ ms) afters others a b =
      let c : ℕ = n.kids in
      let after : List (Stop Node) = get_or afters 0 [] in
      let other : List (Stop Node) = get_or others 0 [] in
      let rest : List (Stop Node) = tour kids_of (opened_kids n 1 c after ++ drop 1 afters) ns in
      let later : List (Stop Node) = tour kids_of (opened_kids m 1 c other ++ drop 1 others) ms in
      let ih : second later ≡ first rest =
      tours-same ns ms (opened_kids n 1 c after ++ drop 1 afters) (opened_kids m 1 c other ++ drop 1 others) a.1
      (behind-opened n m (λ i. a.0.parts (suc i)) 0 c after other (drop 1 afters) (drop 1 others) (b 0) (dropped-same afters others b)) in
      ap (λ k. second (stop m 0 ∷ (once_closed k other ++ tour kids_of (opened_kids m 1 k other ++ drop 1 others) ms))) a.0.kids
      ∙ ap (λ ls. ls ++ second (once_closed c other ++ later)) (a.0.parts 0)
      ∙ ap (λ ls. part_of G n.label 0 ++ ls) (
      second-append (once_closed c other) later
      ∙ ap (λ ls. ls ++ second later) (closed-same c after other (b 0))
      ∙ ap (λ ls. first (once_closed c after) ++ ls) ih
      ∙ sym (first-append (once_closed c after) rest))

  pub none-behind : Behind ([] ∷ []) ([] ∷ [])
  none-behind zero = refl
  none-behind (suc i) = refl

  pub alike-take : (p : ℕ) (ns ms : List Node) → AreAlike G H ns ms → AreAlike G H (take p ns) (take p ms)
  alike-take zero ns ms a = tt
  alike-take (suc p) [] [] a = tt
  alike-take (suc p) [] (m ∷ ms) a = absurd a
  alike-take (suc p) (n ∷ ns) [] a = absurd a
  alike-take (suc p) (n ∷ ns) (m ∷ ms) a = (a.0, alike-take p ns ms a.1)

  alike-key : (p : ℕ) (ns ms : List Node) → AreAlike G H ns ms → key_in ms p ≡ key_in ns p
  alike-key p [] [] a = refl
  alike-key p [] (m ∷ ms) a = absurd a
  alike-key p (n ∷ ns) [] a = absurd a
  alike-key zero (n ∷ ns) (m ∷ ms) a = ap (λ (k : Key). Some k) a.0.key
  alike-key (suc p) (n ∷ ns) (m ∷ ms) a = alike-key p ns ms a.1

pub keeps-alike : (G H : List KeyedRule) → AreAlike (rules_of G) (rules_of H) (nodes_at G (length G - 1)) (nodes_at H (length H - 1)) → KeepsBefore [] G H
keeps-alike G H a key place there apart =
    let ns : List Node = nodes_at G (length G - 1) in
    let ms : List Node = nodes_at H (length H - 1) in
    record {
      now = place;
      there = alike-key (rules_of G) (rules_of H) place ns ms a ∙ there;
      same = tours-same (rules_of G) (rules_of H) (take place ns) (take place ms) ([] ∷ []) ([] ∷ []) (alike-take (rules_of G) (rules_of H) place ns ms a) (none-behind (rules_of G) (rules_of H));
    }
