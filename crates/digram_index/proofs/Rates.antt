-- How frequent the digram of the best entry is.
use Rattle.std.proofs.Common.{◌≡◌, ◌≤◌, ◌*◌, ◌-◌, ◌/◌, ℕ, suc, List, [], ◌∷◌, map, get_or, max, Option, Some, None, Bool, true, false, refl, ap, sym, ◌∙◌, subst, arith}
use Rattle.slt_grammar.specs.Algebras.{ranks_of}
use Rattle.slt_grammar.specs.Keyed.{Keyed, IsKeyed, rules_of}
use Rattle.slt_grammar.specs.contracts.digram.DigramPartialEq.TheImpl as eqs
use Rattle.slt_grammar.specs.declared.digram.Digram.{Digram}
use Rattle.digram_index.specs.declared.patterns.Pattern.{Pattern}
use Rattle.digram_index.specs.Digrams.{joint_rank}
use Rattle.digram_index.specs.Frequency.{IsFrequency, IsRate, IsBest}
use Rattle.digram_index.specs.Linked.{label_of, digram_of, cell_of, cell_count, AreKnown}
use Rattle.digram_index.specs.Numbers.{Numbering}
use Rattle.digram_index.specs.Settled.{HasApart, IsWithin}
use Rattle.digram_index.specs.Spots.{Spot, Entered, spot_count, IsOften}
use Rattle.digram_index.proofs.RankLemmas.{digram-sound, digram-same}
use Rattle.digram_index.proofs.SpotCounts.{one_of, one-spot, one-spot-same, one-spot-other, spot-cons}
use Rattle.digram_index.proofs.Tops.{label-injective, fields, AreCells, AreAllCells, Member, member, often-member, apart-pattern}

-- the occurrences of a pattern are the cells of its digram, where no other pattern has it
count-cells : (ns : List ℕ) (p : Pattern) (ss : List (Option Spot)) → ((k : ℕ) (s : Spot) → get_or ss k None ≡ Some s → digram_of ns s.pattern ≡ digram_of ns p → s.pattern ≡ p) → spot_count p ss ≡ cell_count (digram_of ns p) (map (cell_of ns) ss)
count-cells ns p [] h = refl
count-cells ns p (None ∷ ss) h = count-cells ns p ss (λ k. h (suc k))
count-cells ns p (Some s ∷ ss) h =
    let again = count-cells ns p ss (λ k. h (suc k)) in
    let c = spot-cons p s ss in
    let o = at (eqs.eq-value.it (digram_of ns s.pattern) (digram_of ns p)) refl in
    omega arith
  where
    at : (b : Bool) → eqs.eq-value.it (digram_of ns s.pattern) (digram_of ns p) ≡ b → one-spot s.pattern p ≡ one_of (eqs.eq-value.it (digram_of ns s.pattern) (digram_of ns p))
    at true x = one-spot-same s.pattern p (h 0 s refl (digram-sound (digram_of ns s.pattern) (digram_of ns p) x)) ∙ ap one_of (sym x)
    at false x = one-spot-other s.pattern p (λ z. let w : true ≡ false = sym (digram-same (digram_of ns s.pattern) (digram_of ns p) (ap (digram_of ns) z)) ∙ x in cc) ∙ ap one_of (sym x)

module _ (g : Keyed) (K : IsKeyed g) (n : Numbering) (e : Entered) (N : AreKnown n e) (C : AreCells g n e) where
  -- patterns with occurrences of one digram are one
  member-same : (p q : Pattern) (a b : ℕ) → Member g K n e N C p a → Member g K n e N C q b → digram_of n.numbers p ≡ digram_of n.numbers q → p ≡ q
  member-same p q a b M L z =
      let u = label-injective n.numbers p.upper q.upper M.upper L.upper (ap (λ (v : Digram). v.upper) z) in
      let l = label-injective n.numbers p.lower q.lower M.lower L.lower (ap (λ (v : Digram). v.lower) z) in
      let c : p.place ≡ q.place = ap (λ (v : Digram). v.place) z in
      let r : p.rank ≡ q.rank = sym M.rank ∙ M.stood.at.rank ∙ ap (λ (v : Digram). joint_rank (ranks_of (rules_of g.rules)) v.upper v.lower) (M.stood.digram ∙ z ∙ sym L.stood.digram) ∙ sym L.stood.at.rank ∙ L.rank in
      fields p q u c l r

  -- the occurrences of a pattern are those of its digram
  pub often-count : (p : Pattern) → IsOften 3 p e.spots → spot_count p e.spots ≡ cell_count (digram_of n.numbers p) (map (cell_of n.numbers) e.spots)
  often-count p O = count-cells n.numbers p e.spots (λ k s h z. let M = often-member g K n e N C 3 (omega arith) p O in member-same s.pattern p k M.0 (member g K n e N C s.pattern k (s.upper, h)) M.1 z)

  -- and it is as frequent as its digram
  pub often-rate : (p : Pattern) (f : ℕ) → IsOften 3 p e.spots → IsFrequency (digram_of n.numbers p) (cell_count (digram_of n.numbers p) (map (cell_of n.numbers) e.spots)) f → IsRate p (spot_count p e.spots) f
  often-rate p f O F =
      let M = (often-member g K n e N C 3 (omega arith) p O).1 in
      let c = often-count p O in
      record {
        differ = λ d. F.differ (λ z. d (label-injective n.numbers p.upper p.lower M.upper M.lower z)) ∙ sym c;
        same = λ s. F.same (ap (label_of n.numbers) s) ∙ ap (λ m. max 3 (m - m / 2)) (sym c);
      }

  -- the digram of the best pattern is the most frequent
  pub best-digram : AreAllCells g n e → (bound : ℕ) (p : Pattern) → IsOften 3 p e.spots → IsBest e.spots bound p → (d : Digram) → HasApart g.rules d 3 → IsWithin g.rules bound d
      → (a b : ℕ) → IsFrequency (digram_of n.numbers p) (cell_count (digram_of n.numbers p) (map (cell_of n.numbers) e.spots)) a → IsFrequency d (cell_count d (map (cell_of n.numbers) e.spots)) b → 16 * b ≤ 17 * a
  best-digram all bound p O B d H w a b F G =
      let q = apart-pattern g K n e N C all d bound 3 (omega arith) w H in
      B q.0 a b q.1.0 q.1.1.0 (often-rate p a O F) (often-rate q.0 b q.1.1.0 (subst (λ x. IsFrequency x (cell_count x (map (cell_of n.numbers) e.spots)) b) (sym q.1.1.1) G))
