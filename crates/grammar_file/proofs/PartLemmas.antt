-- The parts of a rule's segment in lists.
use Rattle.std.proofs.Common.{◌≡◌, ℕ, zero, suc, ◌<◌, ◌≤◌, nat_eq, false, List, [], ◌∷◌, ◌++◌, length, get_or, Some, None, Vec, Global, refl, sym, ap, subst, arith, append-nil, length-append}
use Rattle.plain_tree.specs.declared.kind.Kind.{Kind}
use Rattle.rule_arena.specs.declared.label.Label.TheVariants.{Call}
use Rattle.slt_grammar.specs.Bodies.{CallsBelow}
use Rattle.slt_grammar.specs.Segments.{part_of}
use Rattle.slt_grammar.specs.declared.rules.Rule.{Rule}
use Rattle.grammar_file.specs.TextLists.{Lists, parts_at, segment_parts, segment_marks, marks_of, ArePartsBelow, AreParts, AreTextLists, IsPartOf}
use Rattle.grammar_file.specs.Marks.{Thins}
use Rattle.grammar_file.specs.declared.text_lists.Mark.TheVariants.{Bare}
use Rattle.grammar_file.specs.declared.text_lists.Part.{Part}
use Rattle.grammar_file.specs.declared.text_lists.Part.TheVariants.{Node, Segment}
use Rattle.grammar_file.proofs.MarkLemmas.{some-thins, thins-is}

pub parts-there : (lists : Lists) (r i : ℕ) (S : Vec (Vec Part Global) Global) → r < length lists → S ≡ get_or lists r S → parts_at lists r i ≡ segment_parts S.items i
parts-there [] r i S lt e = absurd (omega arith)
parts-there (T ∷ Ts) zero i S lt e = ap (λ (R : Vec (Vec Part Global) Global). segment_parts R.items i) (sym e)
parts-there (T ∷ Ts) (suc r) i S lt e = parts-there Ts r i S (omega arith) e

pub parts-past : (lists : Lists) (r i : ℕ) → length lists ≤ r → parts_at lists r i ≡ []
parts-past [] r i le = refl
parts-past (T ∷ Ts) zero i le = absurd (omega arith)
parts-past (T ∷ Ts) (suc r) i le = parts-past Ts r i (omega arith)

pub segment-there : (Ls : List (Vec Part Global)) (i : ℕ) (L : Vec Part Global) → i < length Ls → L ≡ get_or Ls i L → segment_parts Ls i ≡ L.items
segment-there [] i L lt e = absurd (omega arith)
segment-there (K ∷ Ks) zero L lt e = ap (λ (M : Vec Part Global). M.items) (sym e)
segment-there (K ∷ Ks) (suc i) L lt e = segment-there Ks i L (omega arith) e

pub segment-past : (Ls : List (Vec Part Global)) (i : ℕ) → length Ls ≤ i → segment_parts Ls i ≡ []
segment-past [] i le = refl
segment-past (K ∷ Ks) zero le = absurd (omega arith)
segment-past (K ∷ Ks) (suc i) le = segment-past Ks i (omega arith)

pub not-empty : {X : Type 0} (xs : List X) → false ≡ nat_eq (length xs) 0 → 0 < length xs
not-empty [] e = cc
not-empty (x ∷ xs) e = omega arith

module _ (names : List (Kind × List ℕ)) (G : List Rule) where
  -- each part stands for some marks
  some-marks : (r : ℕ) (ps : List Part) → ArePartsBelow names G r ps → 0 < length ps → 0 < length (marks_of names G ps)
  some-marks r [] h lt = absurd (omega arith)
  some-marks r (Node m ∷ ps) h lt = omega arith
  some-marks r (Segment q i ∷ ps) h lt = omega (arith, h.1, length-append (segment_marks names G q i) (marks_of names G ps))

  module _ (r q i : ℕ) (lists : Lists) (all : AreTextLists names G r lists) (below : CallsBelow r (Call q ∷ [])) where
    parts : AreParts names G q (parts_at lists q i) (segment_marks names G q i)
    parts = all.each q i below.0

    -- a call whose segment has parts
    pub part-call : 0 < length (parts_at lists q i) → IsPartOf names G r (part_of G (Call q) i) (Some (Segment q i))
    part-call lt = record {
      below = (below.0, some-thins (marks_of names G (parts_at lists q i)) (segment_marks names G q i) parts.same (some-marks q (parts_at lists q i) parts.below lt), tt);
      same = thins-is (segment_marks names G q i ++ []) (segment_marks names G q i) (append-nil (segment_marks names G q i));
    }

    -- and none
    pub part-none : parts_at lists q i ≡ [] → IsPartOf names G r (part_of G (Call q) i) None
    part-none e = record { below = tt; same = subst (λ ps. Thins (marks_of names G ps) (segment_marks names G q i)) e parts.same }

    -- and only nodes without a text
    pub part-bare : parts_at lists q i ≡ Node Bare ∷ [] → IsPartOf names G r (part_of G (Call q) i) (Some (Node Bare))
    part-bare e = record { below = tt; same = subst (λ ps. Thins (marks_of names G ps) (segment_marks names G q i)) e parts.same }
