-- Where no text has a mark.
use Rattle.std.proofs.Common.{◌≡◌, ℕ, suc, ◌+◌, ◌*◌, List, [], ◌∷◌, ◌++◌, false, Some, slice_get, refl, ap, ◌∙◌, arith, length, subst}
use Rattle.std.specs.Prelude.{nat_lt}
use Rattle.std.proofs.lemmas.Bool.Decides.{nat_tests}
use Rattle.plain_tree.specs.declared.kind.Kind.{Kind}
use Rattle.plain_tree.specs.declared.kind.Kind.TheVariants as kinds
use Rattle.plain_tree.specs.Numbers.{texts_all}
use Rattle.plain_tree.specs.Tree.{node, Trees, none, more}
use Rattle.rule_arena.proofs.PreorderLemmas.{slice_get-right}
use Rattle.slt_grammar.specs.Coding.{Codes}
use Rattle.slt_grammar.specs.Terms.{Term, Node}
use Rattle.slt_grammar.proofs.Standing.{own, texts_all-more}
use Rattle.text_list.specs.Marking.{mark_of}
use Rattle.value_tests.specs.MarkedCodes.{node_mark, CodesMarked}
use Rattle.value_tests.proofs.Becoming.{get-front}
use Rattle.xpath_parser.specs.Comparing.{literals_of, paths_compare}
use Rattle.xpath_parser.specs.Queries.{Paths}

module _ (names : List (Kind × List ℕ)) (mark : List ℕ → ℕ) where
  -- none of these has a mark
  abbrev pub AreClear : List (List ℕ) → Type 0
  AreClear vs = (i : ℕ) (v : List ℕ) → slice_get vs i ≡ Some v → mark v ≡ 0

  own-clear : (k : Kind) (v : List ℕ) (xs : List (List ℕ)) → AreClear (own k v ++ xs) → (node_mark names mark k v ≡ 0) × AreClear xs
  own-clear kinds.Document v xs h = (refl, h)
  own-clear kinds.Element v xs h = (refl, h)
  own-clear kinds.Attribute v xs h = (h 0 v refl, λ i u g. h (suc i) u g)
  own-clear kinds.Text v xs h = (h 0 v refl, λ i u g. h (suc i) u g)
  own-clear kinds.Comment v xs h = (h 0 v refl, λ i u g. h (suc i) u g)
  own-clear kinds.Instruction v xs h = (h 0 v refl, λ i u g. h (suc i) u g)

  -- a code has the symbols that it has without marks
  pub codes-clear : (ts : Trees) (term : Term) → AreClear (texts_all ts) → Codes names ts term → CodesMarked names mark ts term
  codes-clear none term h c = c
  codes-clear (more (node k n v ks) ts) term h c =
      let o = own-clear k v (texts_all ks ++ texts_all ts) (subst AreClear (texts_all-more k n v ks ts) h) in
      let below : AreClear (texts_all ks) = λ i u g. o.1 i u (get-front (texts_all ks) (texts_all ts) i u g) in
      let behind : AreClear (texts_all ts) = λ i u g. o.1 (length (texts_all ks) + i) u (slice_get-right (texts_all ks) (texts_all ts) i ∙ g) in
      let same : c.0 ≡ c.0 + length names * node_mark names mark k v = omega (arith, ap (λ m. length names * m) o.0) in
      (c.0, c.1, c.2, c.3, codes-clear ks c.1 below c.4, codes-clear ts c.2 behind c.5, c.6 ∙ ap (λ (s : ℕ). Node s c.1 c.2) same)

-- where a query compares with nothing no text has one
pub codes-unmarked : (names : List (Kind × List ℕ)) (ps : Paths) (ts : Trees) (term : Term) → literals_of ps ≡ [] → Codes names ts term → CodesMarked names (mark_of (literals_of ps)) ts term
codes-unmarked names ps ts term e c = codes-clear names (mark_of (literals_of ps)) ts term (λ i v g. ap (λ (ls : List (List ℕ)). mark_of ls v) e) c

-- it does where no comparison stands in it
pub plain-literals : (ps : Paths) → paths_compare ps ≡ false → literals_of ps ≡ []
plain-literals ps e = none (literals_of ps) e where
  none : (vs : List (List ℕ)) → nat_lt 0 (length vs) ≡ false → vs ≡ []
  none [] e = refl
  none (v ∷ vs) e = absurd (grind (arith, nat_tests))
