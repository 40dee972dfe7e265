-- The rules of a folder that is finished.
use Rattle.std.proofs.Common.{◌≡◌, ℕ, zero, suc, ◌+◌, ◌-◌, ◌*◌, ◌<◌, ◌≤◌, List, [], ◌∷◌, ◌++◌, length, Some, slice_get, ap, sym, ◌∙◌, subst, inl, inr, arith}
use Rattle.std.specs.Prelude.{Option, None}
use Rattle.plain_tree.specs.declared.kind.Kind.TheVariants as kind
use Rattle.slt_grammar.specs.Grammars.{IsGrammar, IsSwept, size, value}
use Rattle.slt_grammar.specs.Terms.{Term, Leaf, Node}
use Rattle.slt_grammar.specs.declared.rules.Rule.{Rule}
use Rattle.xml_nodes.specs.Machine.{Event}
use Rattle.fcns_encoding.specs.Calls.{started_pairs}
use Rattle.fcns_encoding.specs.Cells.{Extends, AreUsed, AreEarlier, AreDistinctCells, terms_of, term_at}
use Rattle.fcns_encoding.specs.Folding.{IsFolding, Taken, Stood, told, waiting}
use Rattle.fcns_encoding.specs.Interning.{Pair, Interns}
use Rattle.fcns_encoding.specs.Marks.{SharesTwice, marks_of}
use Rattle.fcns_encoding.specs.Sharing.{rules_of_cells}
use Rattle.fcns_encoding.specs.Subterms.{AreSubterms}
use Rattle.fcns_encoding.specs.declared.part.Part.{Part}
use Rattle.fcns_encoding.specs.declared.sharing.Sharing.{Sharing}
use Rattle.fcns_encoding.specs.declared.subterms.Cell.{Cell}
use Rattle.fcns_encoding.proofs.CellLemmas.{get_is, has_get, got_within, terms_zero}
use Rattle.fcns_encoding.proofs.InternLemmas.{KeepsPlaces}
use Rattle.fcns_encoding.proofs.MarkLemmas.{twice-marked}
use Rattle.fcns_encoding.proofs.NameLemmas.{document_again}
use Rattle.fcns_encoding.proofs.PartLemmas.{used-others, used-over}
use Rattle.fcns_encoding.proofs.RuleLemmas.{no_cell, rules-grammar, rules-value}
use Rattle.fcns_encoding.proofs.SizeLemmas.{rules-small}
use Rattle.fcns_encoding.proofs.StandLemmas.{Folds, folds}
use Rattle.fcns_encoding.proofs.SubtermLemmas.{few-cells}
use Rattle.fcns_encoding.proofs.SweptLemmas.{rules-swept}

-- the one number that no cell uses is the last
root-last : (cells : List Cell) (root : ℕ) → AreEarlier cells → AreUsed cells (root ∷ []) → 0 < length cells → root ≡ length cells
root-last cells root low used some =
    elim (used (length cells - 1) (omega (arith, some))) [
      | inl u ↦ absurd (elim u.3 [
        | inl e ↦ omega (arith, e, (low u.0 u.1 u.2).0, got_within cells u.0 u.1 u.2, some)
        | inr e ↦ omega (arith, e, (low u.0 u.1 u.2).1, got_within cells u.0 u.1 u.2, some)
      ])
      | inr w ↦ omega (arith, only w.0 w.1, some)
    ]
  where
    only : (i : ℕ) → slice_get (root ∷ []) i ≡ Some (length cells - 1 + 1) → root ≡ length cells - 1 + 1
    only zero e = cc
    only (suc i) e = cc

-- what the rules are
pub record Finished (sharing : Sharing) (G : List Rule) (names : List Pair) (values : List (List ℕ)) (log : List Event) : Type 0 where
  pub grammar : IsGrammar G
  pub swept : IsSwept G
  pub folds : Folds G names values log
  pub small : SharesTwice sharing → (all : List Term) → AreSubterms all (value G) → size G ≤ 3 * length all

pub finished : (sharing : Sharing) (names names' : List Pair) (cells before after : List Cell) (values : List (List ℕ)) (stack parts : List Part) (code document root : ℕ) (begun : Option ℕ) (G : List Rule)
    → IsFolding names cells values stack → Taken names (terms_of before) parts (told names cells values stack) code begun → begun ≡ None → AreUsed before (code ∷ waiting parts)
    → KeepsPlaces names names' → Interns [] (started_pairs (told names cells values stack) ++ (kind.Document, []) ∷ []) names' → slice_get names' document ≡ Some (kind.Document, [])
    → Extends before (record { symbol = document; first = code; second = 0 }) root after
    → ((a b : Term) → slice_get (terms_of before) code ≡ Some a → slice_get (terms_of before) 0 ≡ Some b → slice_get (terms_of after) root ≡ Some (Node document a b))
    → AreEarlier after → AreDistinctCells after → G ≡ rules_of_cells (marks_of sharing after) after → Finished sharing G names' values (told names cells values stack)
finished sharing names names' cells before after values stack parts code document root begun G f taken none used keeps named place g term low one is =
    let empty : parts ≡ [] = nothing begun none taken.stood in
    let others : AreUsed before (0 ∷ code ∷ []) = used-others before (code ∷ waiting parts) (0 ∷ code ∷ []) (λ k w. only k w.0 (subst (λ ps. slice_get (code ∷ waiting ps) w.0 ≡ Some k) empty w.1)) used in
    let top : AreUsed after (root ∷ []) = used-over before after (record { symbol = document; first = code; second = 0 }) root [] g others in
    let some : 0 < length after = omega (arith, got_within after g.place _ g.stands) in
    let last : root ≡ length after = root-last after root low top some in
    let all : AreUsed after (length after ∷ []) = subst (λ k. AreUsed after (k ∷ [])) last top in
    let n : length after ≡ suc (length after - 1) = omega (arith, some) in
    let marks = marks_of sharing after in
    let value_is : value (rules_of_cells marks after) ≡ term_at after (length after) = rules-value marks after low (length after - 1) n in
    let here : term_at after (length after) ≡ Node document taken.term Leaf = ap (term_at after) (sym last) ∙ get_is (terms_of after) root _ Leaf (term taken.term Leaf taken.value (terms_zero before)) in
    subst (λ H. Finished sharing H names' values (told names cells values stack)) (sym is) (record {
      grammar = rules-grammar marks after low (length after - 1) n;
      swept = rules-swept marks after low (length after - 1) n all;
      folds = folds (rules_of_cells marks after) names names' (terms_of before) values parts (told names cells values stack) code document begun none taken keeps (document_again (told names cells values stack) names' named) place f.tells.texts (value_is ∙ here);
      small = λ shares terms are. omega (
        arith,
        rules-small marks after low (λ i h twice. twice-marked sharing after i _ low (has_get after i no_cell h) shares twice),
        few-cells after low (length after - 1) n all one terms (subst (AreSubterms terms) value_is are),
      );
    })
  where
    nothing : (b : Option ℕ) → b ≡ None → Stood names (terms_of before) parts taken.front b → parts ≡ []
    nothing None e s = s.0
    nothing (Some x) e s = cc

    only : (k i : ℕ) → slice_get (code ∷ []) i ≡ Some k → (j : ℕ) × (slice_get (0 ∷ code ∷ []) j ≡ Some k)
    only k zero e = (1, e)
    only k (suc i) e = cc
