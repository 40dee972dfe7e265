-- What calls become.
use Rattle.std.proofs.Common.{◌≡◌, ℕ, ◌+◌, ◌<◌, ◌≤◌, List, [], ◌∷◌, ◌++◌, length, take, refl, ap, sym, ◌∙◌, arith, subst, Some, Option, slice_get, append_assoc, true, inr}
use Rattle.std.proofs.lemmas.Option.{slice_get_within}
use Rattle.plain_tree.specs.declared.kind.Kind.{Kind}
use Rattle.rule_arena.proofs.PreorderLemmas.{slice_get-left}
use Rattle.rule_arena.specs.declared.label.Label.{Label}
use Rattle.segment_counts.specs.Counting.{AreCounts, CountTable, told}
use Rattle.segment_counts.specs.declared.counts.Measure.TheVariants.{Texts}
use Rattle.segment_counts.specs.Weights.{text_weight}
use Rattle.slt_grammar.specs.Grammars.{IsGrammar, rank_at, value_at}
use Rattle.slt_grammar.specs.declared.rules.Rule.{Rule}
use Rattle.value_tests.specs.Relabelled.{Spot}
use Rattle.value_tests.specs.TextPlaces.{places, AreClear}
use Rattle.value_tests.specs.Marking.{has_mark}
use Rattle.value_tests.specs.Steps.{IsPlainSpot}
use Rattle.value_tests.specs.Becoming.{CallBecomes, CallTurns, LabelBecomes}
use Rattle.rule_arena.specs.declared.label.Label.TheVariants.{Symbol, Call}
use Rattle.slt_grammar.proofs.RuleMeanings.{rank_at-ranks_of}
use Rattle.value_tests.specs.TextPlaces.{marked}
use Rattle.value_tests.specs.Steps.{kid_notes}
use Rattle.value_tests.proofs.Stepping.{plain-serves, handed-told, clear-told, taken-kids}

-- an item stays where others come behind it
pub get-front : {X : Type 0} (xs ys : List X) (i : ℕ) (x : X) → slice_get xs i ≡ Some x → slice_get (xs ++ ys) i ≡ Some x
get-front xs ys i x e = slice_get-left xs ys i (slice_get_within xs i x e) ∙ e

pub get-last : {X : Type 0} (xs ys : List X) (x : X) → slice_get (xs ++ x ∷ ys) (length xs) ≡ Some x
get-last [] ys x = refl
get-last (y ∷ xs) ys x = get-last xs ys x

module _ (names : List (Kind × List ℕ)) (G : List Rule) (g : IsGrammar G) (C : CountTable) (k : AreCounts names G C) (q : ℕ) (h : q < length G) (symbols : ℕ) (marks : ℕ → ℕ) (place : ℕ)
    (kids left all before after : List ℕ) (n : length kids ≡ rank_at G q) (e : kids ++ left ≡ all) (o : after ≡ places (told Texts C.rows q) 0 kids place ++ before) where
  pub call-plain : (spots : List (Spot ℕ (Option ℕ))) (id : ℕ) → AreClear (told Texts C.rows q) marks 0 kids place → IsPlainSpot spots id q
      → CallTurns (text_weight names) G symbols marks q place all spots id left before after
  call-plain spots id a s ss rest l f =
      let t = taken-kids (rank_at G q) ss rest kids left all l n e f in
      subst (λ xs. CallBecomes (text_weight names) G symbols marks q place xs rest spots id left before after) t.0 (record {
        notes_left = t.1;
        opened = places (told Texts C.rows q) 0 kids place;
        on_top = o;
        places = sym (handed-told names G g C k q h kids n place);
        serves = λ later. plain-serves (text_weight names) G g symbols marks (spots ++ later) id q kids (Some place) (s.0, get-front spots later id s.0 s.1, s.2, s.3) (clear-told names G g C k q h kids n symbols marks place a);
      })

  pub call-marked : (spots new : List (Spot ℕ (Option ℕ))) (id : ℕ) (states : List ℕ) → id ≡ length spots → new ≡ spots ++ record { rule = q; states = states; down = Some place } ∷ [] → states ≡ kids
      → has_mark (text_weight names) marks (value_at G q) kids place ≡ true → CallTurns (text_weight names) G symbols marks q place all new id left before after
  call-marked spots new id states i s st m ss rest l f =
      let t = taken-kids (rank_at G q) ss rest kids left all l n e f in
      let x : Spot ℕ (Option ℕ) = record { rule = q; states = kids; down = Some place } in
      let s' : new ≡ spots ++ x ∷ [] = s ∙ ap (λ xs. spots ++ record { rule = q; states = xs; down = Some place } ∷ []) st in
      subst (λ xs. CallBecomes (text_weight names) G symbols marks q place xs rest new id left before after) t.0 (record {
        notes_left = t.1;
        opened = places (told Texts C.rows q) 0 kids place;
        on_top = o;
        places = sym (handed-told names G g C k q h kids n place);
        serves = λ later.
            let there : slice_get (new ++ later) id ≡ Some x = ap (λ xs. slice_get (xs ++ later) id) s' ∙ ap (λ xs. slice_get xs id) (append_assoc spots (x ∷ []) later) ∙ ap (slice_get (spots ++ x ∷ later)) i ∙ get-last spots later x in
            record { serves = record { spot = x; there = there; rule = refl; same = refl }; kind = inr (there, m) };
      })

-- what a call becomes is what its label becomes
pub call-label : (w : Label → ℕ) (G : List Rule) (symbols : ℕ) (marks : ℕ → ℕ) (q place : ℕ) (ss rest : List ℕ) (spots : List (Spot ℕ (Option ℕ))) (id : ℕ) (notes before after : List ℕ)
    → CallBecomes w G symbols marks q place (take (rank_at G q) ss) rest spots id notes before after → LabelBecomes w G symbols marks (Call q) place ss rest spots (Call id) notes before after
call-label w G symbols marks q place ss rest spots id notes before after b = record {
  notes_left = b.notes_left;
  opened = b.opened;
  on_top = b.on_top;
  steps = λ later. rw (rank_at-ranks_of G q) ((id, refl, b.serves later), b.places);
}

-- what a symbol becomes
pub symbol-label : (w : Label → ℕ) (G : List Rule) (symbols : ℕ) (marks : ℕ → ℕ) (f place : ℕ) (ss rest : List ℕ) (spots : List (Spot ℕ (Option ℕ))) (new first left right : ℕ) (all notes before after : List ℕ)
    → 2 ≤ length ss → all ≡ kid_notes w G (Symbol f) ss ++ rest → all ≡ first ∷ notes → new ≡ marked w symbols marks f (Some place)
    → left ≡ place + w (Symbol f) → right ≡ place + (w (Symbol f) + first) → after ≡ left ∷ right ∷ before
    → LabelBecomes w G symbols marks (Symbol f) place ss rest spots (Symbol new) notes before after
symbol-label w G symbols marks f place [] rest spots new first left right all notes before after h e p n x y o = absurd (omega arith)
symbol-label w G symbols marks f place (s ∷ ss) rest spots new first left right all notes before after h e p n x y o =
    let both : s ∷ rest ≡ first ∷ notes = sym e ∙ p in
    let a : s ≡ first = cc in
    let b : rest ≡ notes = cc in
    record {
      notes_left = sym b;
      opened = left ∷ right ∷ [];
      on_top = o;
      steps = λ later. (ap Symbol n, rw (x, y, a) refl);
    }
