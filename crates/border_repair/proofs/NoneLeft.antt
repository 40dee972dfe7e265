-- Once calm rules are folded, no occurrence is left beside the calls of the digram's rule.
use Rattle.std.proofs.Common.{◌≡◌, ◌≢◌, ◌⊎◌, inl, inr, ℕ, zero, suc, ◌-◌, ◌<◌, List, [], ◌∷◌, ◌++◌, Some, None, length, get_or, refl, ap, sym, subst, ◌∙◌, arith, append-nil}
use Rattle.rule_arena.specs.declared.label.Label.{Label}
use Rattle.rule_arena.specs.declared.label.Label.TheVariants.{Bottom, Symbol, Call, Param}
use Rattle.slt_grammar.specs.Algebras.{ranks_of}
use Rattle.slt_grammar.specs.Bodies.{arity, IsTerm}
use Rattle.slt_grammar.specs.Grammars.{IsGrammar, body_at}
use Rattle.slt_grammar.specs.KeyedEdits.{digram_body}
use Rattle.slt_grammar.specs.declared.digram.Digram.{Digram}
use Rattle.slt_grammar.specs.declared.rules.Rule.{Rule}
use Rattle.slt_grammar.proofs.RuleMeanings.{rank_at-ranks_of}
use Rattle.border_repair.specs.Cuts.{ShowRims, AreCalm}
use Rattle.border_repair.specs.Digrams.{is, IsEnd, IsSymbol}
use Rattle.border_repair.specs.Edges.{IsSafe, IsHarmless, kid_tops, all_edges}
use Rattle.border_repair.specs.Folding.{Folds, HasPairRank, AreFolded}
use Rattle.border_repair.specs.Splitting.{HasFront}
use Rattle.border_repair.specs.ValueBut.{value_but, nones, pairs_in}
use Rattle.border_repair.specs.Weighing.{Above, Rim, hung, arisen, called, borders_from, rim_of}
use Rattle.border_repair.proofs.CallsLeft.{Alike, hung-other, hung-upper, same-edges}
use Rattle.border_repair.proofs.FoldedQuiet.{folded-none}
use Rattle.border_repair.proofs.FoldedRims.{folds-rim, folds-front}
use Rattle.border_repair.proofs.Quiet.{AreSafe}
use Rattle.border_repair.proofs.RimTables.{rim-table}
use Rattle.border_repair.proofs.ValueBut.{own, none-left}

module _ (d : Digram) (u : IsSymbol d.upper) (low : IsEnd d.lower) (apart : d.upper ≢ d.lower) (place : (d.place ≡ 1) ⊎ (d.place ≡ 2)) (G H : List Rule) (g : IsGrammar H) (f : AreFolded d G H) (calm : AreCalm d G)
    (pair : HasPairRank (ranks_of G) d) (body : body_at H 0 ≡ digram_body (ranks_of H) d.upper (d.place - 1) d.lower) where
  many : length H ≡ length G
  many = f.many

  some : 0 < length H
  some = g.some

  own-term : (r : ℕ) → 0 < r → r < length G → IsTerm (ranks_of G) (body_at G r)
  own-term r o l = subst (λ K. IsTerm (ranks_of K) (body_at G r)) (append-nil G) (calm.terms r o l [])

  own-fold : (r : ℕ) → 0 < r → r < length G → Folds (ranks_of G) 0 d (body_at G r) (body_at H r ∷ [])
  own-fold r o l = f.others r o l (own-term r o l)

  fronts : (r : ℕ) → r < length H → HasFront (body_at H r)
  fronts zero l = subst HasFront (sym f.first) (calm.fronts 0 (omega (arith, many, some)))
  fronts (suc r) l = folds-front (ranks_of G) d (body_at G (suc r)) (body_at H (suc r)) (calm.fronts (suc r) (omega (arith, many))) (own-fold (suc r) (omega arith) (omega (arith, many)))

  module _ (s : ℕ → Rim) (shows : ShowRims H s) (all : (q : ℕ) → length ((s q).borders) ≡ get_or (ranks_of H) q 0) where
    first-is : s 0 ≡ rim_of s (digram_body (ranks_of H) (Symbol u.0) (d.place - 1) d.lower)
    first-is = shows.are 0 some ∙ ap (rim_of s) (body ∙ ap (λ (k : Label). digram_body (ranks_of H) k (d.place - 1) d.lower) u.1)

    top : (s 0).root ≡ Some (Symbol u.0)
    top = ap (λ (z : Rim). z.root) first-is

    -- what is above the parameters of the digram's rule
    borders : (d.place ≡ 1 → (s 0).borders ≡ kid_tops (is d) s d.lower ++ Some (u.0, 2) ∷ []) × (d.place ≡ 2 → (s 0).borders ≡ Some (u.0, 1) ∷ kid_tops (is d) s d.lower)
    borders = (λ p. ap (λ (z : Rim). z.borders) first-is ∙ at_one (omega arith) low, λ p. ap (λ (z : Rim). z.borders) first-is ∙ at_two (omega arith) low) where
      known : (n : ℕ) (k : Label) → d.place - 1 ≡ n → d.lower ≡ k → borders_from s (None ∷ []) (digram_body (ranks_of H) (Symbol u.0) (d.place - 1) d.lower) ≡ borders_from s (None ∷ []) (digram_body (ranks_of H) (Symbol u.0) n k)
      known n k p y = ap (λ m. borders_from s (None ∷ []) (digram_body (ranks_of H) (Symbol u.0) m d.lower)) p ∙ ap (λ (l : Label). borders_from s (None ∷ []) (digram_body (ranks_of H) (Symbol u.0) n l)) y

      at_one : d.place - 1 ≡ 0 → IsEnd d.lower → borders_from s (None ∷ []) (digram_body (ranks_of H) (Symbol u.0) (d.place - 1) d.lower) ≡ kid_tops (is d) s d.lower ++ Some (u.0, 2) ∷ []
      at_one p (inl (h, y)) = known 0 (Symbol h) p y ∙ ap (λ (k : Label). kid_tops (is d) s k ++ Some (u.0, 2) ∷ []) (sym y)
      at_one p (inr y) = known 0 Bottom p y ∙ ap (λ (k : Label). kid_tops (is d) s k ++ Some (u.0, 2) ∷ []) (sym y)

      at_two : d.place - 1 ≡ 1 → IsEnd d.lower → borders_from s (None ∷ []) (digram_body (ranks_of H) (Symbol u.0) (d.place - 1) d.lower) ≡ Some (u.0, 1) ∷ kid_tops (is d) s d.lower
      at_two p (inl (h, y)) = known 1 (Symbol h) p y ∙ ap (λ (k : Label). Some (u.0, 1) ∷ kid_tops (is d) s k) (sym y)
      at_two p (inr y) = known 1 Bottom p y ∙ ap (λ (k : Label). Some (u.0, 1) ∷ kid_tops (is d) s k) (sym y)

    same : (l : Label) → length (kid_tops (is d) s l) ≡ arity (ranks_of G) l
    same Bottom = refl
    same (Symbol h) = refl
    same Param = refl
    same (Call q) = all q ∙ ap (λ rs. get_or rs q 0) f.ranks

    -- nothing weighs anything above the arguments of the digram's rule, or is it weighed itself
    harmless : IsHarmless (is d) (s 0).root
    harmless c = ap (hung (is d) c) (top ∙ ap Some (sym u.1)) ∙ hung-upper d apart c

    lower-safe : AreSafe (is d) s (ranks_of G) same (kid_tops (is d) s d.lower)
    lower-safe = by_kind low where
      by_kind : IsEnd d.lower → AreSafe (is d) s (ranks_of G) same (kid_tops (is d) s d.lower)
      by_kind (inl (h, y)) =
          subst (λ (k : Label). AreSafe (is d) s (ranks_of G) same (kid_tops (is d) s k)) (sym y)
          (hung-other d h 1 (λ x z. apart (x ∙ sym y)), (hung-other d h 2 (λ x z. apart (x ∙ sym y)), tt))
      by_kind (inr y) = subst (λ (k : Label). AreSafe (is d) s (ranks_of G) same (kid_tops (is d) s k)) (sym y) tt

    safe : AreSafe (is d) s (ranks_of G) same (s 0).borders
    safe = by_place place where
      push : (xs : List Above) (c : Above) → AreSafe (is d) s (ranks_of G) same xs → IsSafe (is d) c → AreSafe (is d) s (ranks_of G) same (xs ++ c ∷ [])
      push [] c x y = (y, tt)
      push (b ∷ xs) c x y = (x.0, push xs c x.1 y)

      by_place : (d.place ≡ 1) ⊎ (d.place ≡ 2) → AreSafe (is d) s (ranks_of G) same (s 0).borders
      by_place (inl p) = subst (AreSafe (is d) s (ranks_of G) same) (sym (borders.0 p)) (push (kid_tops (is d) s d.lower) (Some (u.0, 2)) lower-safe (hung-other d u.0 2 (λ x z. omega (arith, p, z))))
      by_place (inr p) = subst (AreSafe (is d) s (ranks_of G) same) (sym (borders.1 p)) (hung-other d u.0 1 (λ x z. omega (arith, p, z)), lower-safe)

    no-param : d.lower ≢ Param
    no-param p = by_kind low where
      by_kind : IsEnd d.lower → ⊥
      by_kind (inl (h, y)) = let z : Symbol h ≡ Param = sym y ∙ p in cc
      by_kind (inr y) = let z : Bottom ≡ Param = sym y ∙ p in cc

    -- the rims of the folded rules are those of the rules
    shown-before : ShowRims G s
    shown-before = record {
      are = λ r l. by_rule r l;
      known = shows.known;
      many = λ q l. all q ∙ ap (λ rs. get_or rs q 0) f.ranks;
      roots = shows.roots;
    }
      where
        by_rule : (r : ℕ) → r < length G → s r ≡ rim_of s (body_at G r)
        by_rule zero l = shows.are 0 some ∙ ap (rim_of s) f.first
        by_rule (suc r) l =
            shows.are (suc r) (omega (arith, many))
            ∙ folds-rim (is d) s (ranks_of G) same d u.0 u.1 no-param pair borders shows.roots shows.known top (body_at G (suc r)) (body_at H (suc r)) (calm.fronts (suc r) l) (own-fold (suc r) (omega arith) l)

    none-arises : (r : ℕ) → suc r < length H → arisen s (is d) (None ∷ []) (body_at H (suc r)) ≡ 0
    none-arises r l =
        folded-none d s (ranks_of G) same harmless safe pair shows.known (body_at G (suc r)) (body_at H (suc r)) (calm.calm (suc r) (omega arith) (omega (arith, many)) s shown-before) (own-fold (suc r) (omega arith) (omega (arith, many)))

    -- the same rims where all rules look like the digram's from above
    abbrev but_rims : ℕ → Rim
    but_rims zero = s 0
    but_rims (suc q) = record { root = (s 0).root; borders = nones (get_or (ranks_of H) (suc q) 0) }

    none-called : (ls : List Label) → called (λ q. 0) ls ≡ 0
    none-called [] = refl
    none-called (Bottom ∷ ls) = none-called ls
    none-called (Symbol h ∷ ls) = none-called ls
    none-called (Param ∷ ls) = none-called ls
    none-called (Call q ∷ ls) = omega (arith, none-called ls)

    no-edge : all_edges (is d) but_rims (None ∷ []) (value_but H) ≡ 0
    no-edge =
        none-left (is d) but_rims 0 H g (Symbol u.0) top (all 0 ∙ rank_at-ranks_of H 0) (shows.known 0) s (λ q. 0) refl refl (λ k l. shows.are (suc k) l) (λ k l. omega (arith, none-arises k l, none-called (body_at H (suc k)))) by_rule where
          by_rule : (k : ℕ) → k < length H → own (is d) but_rims 0 H g (Symbol u.0) top (all 0 ∙ rank_at-ranks_of H 0) (shows.known 0) s (λ q. 0) refl refl (λ k l. shows.are (suc k) l) (λ k l. omega (arith, none-arises k l, none-called (body_at H (suc k)))) k ≡ 0
          by_rule zero l = refl
          by_rule (suc k) l = none-arises k l

    alike : (q : ℕ) → Alike d ((but_rims q).borders) (nones (get_or (ranks_of H) q 0))
    alike zero = safe_alike (s 0).borders (get_or (ranks_of H) 0 0) (all 0) safe where
      safe_alike : (bs : List Above) (n : ℕ) → length bs ≡ n → AreSafe (is d) s (ranks_of G) same bs → Alike d bs (nones n)
      safe_alike [] zero e x = tt
      safe_alike [] (suc n) e x = absurd (omega arith)
      safe_alike (b ∷ bs) zero e x = absurd (omega arith)
      safe_alike (b ∷ bs) (suc n) e x = (x.0, safe_alike bs n (omega arith) x.1)
    alike (suc q) = alike_self (nones (get_or (ranks_of H) (suc q) 0)) where
      alike_self : (bs : List Above) → Alike d bs bs
      alike_self [] = tt
      alike_self (b ∷ bs) = (λ r. refl, alike_self bs)

    no-root : (q : ℕ) (c : Above) → hung (is d) c ((but_rims q).root) ≡ 0
    no-root zero c = harmless c
    no-root (suc q) c = harmless c

    no-pair : pairs_in d (ranks_of H) (value_but H) ≡ 0
    no-pair = sym (same-edges d (ranks_of H) but_rims no-root alike (value_but H) (None ∷ []) (None ∷ []) (λ r. refl, tt)) ∙ no-edge

  -- no pair of the digram is left
  pub none-left-over : pairs_in d (ranks_of H) (value_but H) ≡ 0
  none-left-over = let t = rim-table H g fronts in no-pair t.rims t.shows t.all
