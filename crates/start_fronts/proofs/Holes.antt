-- What stands before the hole of the term around a node of the start.
use Rattle.std.proofs.Common.{◌≡◌, ℕ, ◌-◌, ◌<◌, List, [], ◌∷◌, ◌++◌, drop, length, take, sym, ap, ◌∙◌, arith, append-nil}
use Rattle.std.proofs.lemmas.List.{length-map, take-append-drop, take-map}
use Rattle.rule_arena.specs.Preorder.{span}
use Rattle.rule_arena.specs.Terms.{Node, kids_of}
use Rattle.rule_arena.specs.declared.label.Label.{Label}
use Rattle.rule_arena.specs.declared.label.Label.TheVariants.{Param}
use Rattle.rule_arena.proofs.PreorderLemmas.{AreTerms-with}
use Rattle.slt_grammar.specs.Algebras.{all_meanings, meanings, ranks_of}
use Rattle.slt_grammar.specs.Bodies.{IsTerm, arity, params}
use Rattle.slt_grammar.specs.ChangedValues.{start_body, term_around}
use Rattle.slt_grammar.specs.Grammars.{IsGrammar}
use Rattle.slt_grammar.specs.Keyed.{IsKeyed, Keyed, labels_of, nodes_at, rules_of}
use Rattle.slt_grammar.specs.Segments.{listed, piece, preorder, segment, spread}
use Rattle.slt_grammar.specs.Terms.{Term, Leaf, holes, term_algebra}
use Rattle.slt_grammar.specs.Tours.{Stop, stop, tour}
use Rattle.slt_grammar.specs.declared.rules.Rule.{Rule}
use Rattle.slt_grammar.proofs.Agreeing.{agree-of, agree-take}
use Rattle.slt_grammar.proofs.KeyedLemmas.{body_at-rules_of, length-rules_of}
use Rattle.slt_grammar.proofs.Meanings.{meanings-whole, only, params-append}
use Rattle.slt_grammar.proofs.Spreads.{spread-append, spread-tour, strung}
use Rattle.slt_grammar.proofs.TourLemmas.{params-preorder, segment-first}
use Rattle.slt_grammar.proofs.Values.{no-params}
use Rattle.start_fronts.specs.Before.{labels_before}
use Rattle.start_fronts.specs.Moved.{value_labels}
use Rattle.start_fronts.proofs.Exchanges.{before-nodes}
use Rattle.start_fronts.proofs.Listings.{before, spread-onto, tour-meets}
use Rattle.start_fronts.proofs.Stacks.{opens, tour-append}
use Rattle.start_fronts.proofs.Windows.{spelt, value-spelt}
use Rattle.start_fronts.proofs.Alike.{first-append}

-- up to a parameter
segment-front : (xs more : List Label) → params xs ≡ 0 → segment 0 (xs ++ (Param ∷ more)) ≡ xs
segment-front xs more z = segment-first xs (Param ∷ more) z ∙ append-nil xs

module _ (G : List Rule) (g : IsGrammar G) where
  -- the listing of the value of a body with one parameter, up to that
  listed-front : (xs rest : List Label) → IsTerm (ranks_of G) (xs ++ (Param ∷ rest)) → params (xs ++ (Param ∷ rest)) ≡ 1 → params (before G g xs) ≡ 0
      → (t : Term) → (meanings term_algebra (ranks_of G) (all_meanings term_algebra G) (holes 0 1) (xs ++ (Param ∷ rest)) [] ≡ t ∷ []) → segment 0 (listed t []) ≡ before G g xs
  listed-front xs rest s one none t e =
      let ar = arity (ranks_of G) in
      let body : List Label = xs ++ (Param ∷ rest) in
      let m = tour-meets ar ([] ∷ []) xs Param rest in
      let ms = tour ar ([] ∷ []) xs in
      let whole : listed t [] ≡ before G g xs ++ (Param ∷ spread (piece G) m.0 []) =
      ap (λ ts. strung G g ts ([] ∷ []) []) (sym e)
      ∙ ap (λ n. strung G g (meanings term_algebra (ranks_of G) (all_meanings term_algebra G) (holes 0 n) body []) ([] ∷ []) []) (sym one)
      ∙ sym (spread-tour G g 1 0 body ([] ∷ []) [] s)
      ∙ ap (λ ns. spread (piece G) ns []) m.1
      ∙ spread-append G g ms (stop Param 0 ∷ m.0) []
      ∙ spread-onto (piece G) ms (Param ∷ spread (piece G) m.0 []) in
      ap (segment 0) whole ∙ segment-front (before G g xs) (spread (piece G) m.0 []) none

module _ (g : Keyed) (K : IsKeyed g) (place : ℕ) (within : place < length (nodes_at g.rules (length g.rules - 1))) where
  abbrev s : ℕ
  s = length g.rules - 1

  abbrev R : List Rule
  R = rules_of g.rules

  abbrev ns : List Node
  ns = nodes_at g.rules (length g.rules - 1)

  abbrev ar : Label → ℕ
  ar = arity (ranks_of R)

  abbrev body : List Label
  body = start_body R

  abbrev rest : List Label
  rest = drop (span ar 1 (drop place body)) (drop place body)

  last : length R - 1 ≡ s
  last = ap (λ n. n - 1) (length-rules_of g.rules)

  body-is : body ≡ labels_of ns
  body-is = body_at-rules_of g.rules (length R - 1) ∙ ap (λ r. labels_of (nodes_at g.rules r)) last

  in-body : place < length body
  in-body = omega (arith, within, ap length body-is, length-map ns (λ (n : Node). n.label))

  in-rules : s < length R
  in-rules = let some = K.grammar.some in omega (arith, some, length-rules_of g.rules)

  last-rule : length R - 1 < length R
  last-rule = let some = K.grammar.some in omega (arith, some)

  holed : IsTerm (ranks_of R) (take place body ++ (Param ∷ rest))
  holed = (AreTerms-with ar 1 body place (Param ∷ []) (K.grammar.each (length R - 1) last-rule).shaped.term in-body tt).1

  one : params (take place body ++ (Param ∷ rest)) ≡ 1
  one =
      let n = no-params R K.grammar place in-body in
      omega (arith, n.0, n.1, params-append (take place body) (Param ∷ rest))

  closed : params (value_labels g.rules) ≡ 0
  closed =
      let w = K.grammar.each s in-rules in
      let some = K.grammar.some in
      ap (λ n. params (preorder R (n - 1))) (length-rules_of g.rules) ∙ params-preorder R s K.grammar in-rules ∙ w.shaped.start (omega (arith, some, length-rules_of g.rules))

  before-closed : params (labels_before g.rules s place) ≡ 0
  before-closed =
      let none : List (List (Stop Node)) = [] ∷ [] in
      let q = opens kids_of none (take place ns) in
      let more : List Label = spelt R (tour kids_of q (drop place ns)) in
      let split : value_labels g.rules ≡ labels_before g.rules s place ++ more =
      value-spelt g K
      ∙ ap (λ xs. spelt R (tour kids_of none xs)) (sym (take-append-drop place ns))
      ∙ ap (spelt R) (tour-append kids_of none (take place ns) (drop place ns))
      ∙ first-append R R (tour kids_of none (take place ns)) (tour kids_of q (drop place ns)) in
      omega (arith, closed, ap params split, params-append (labels_before g.rules s place) more)

  before-is : before R K.grammar (take place body) ≡ labels_before g.rules s place
  before-is =
      ap (λ ls. before R K.grammar (take place ls)) body-is
      ∙ ap (before R K.grammar) (take-map (λ (n : Node). n.label) place ns)
      ∙ sym (before-nodes R K.grammar (take place ns) (agree-take (ranks_of R) place ns (agree-of (ranks_of R) ns (K.arities s))))

  pub hole-behind : segment 0 (listed (term_around R place) []) ≡ labels_before g.rules s place
  hole-behind =
      let ms : List Term = meanings term_algebra (ranks_of R) (all_meanings term_algebra R) (holes 0 1) (take place body ++ (Param ∷ rest)) [] in
      let o = only Leaf ms (meanings-whole term_algebra (ranks_of R) (all_meanings term_algebra R) 1 (holes 0 1) (take place body ++ (Param ∷ rest)) [] holed).1 in
      listed-front R K.grammar (take place body) rest holed one (ap params before-is ∙ before-closed) (term_around R place) o ∙ before-is
