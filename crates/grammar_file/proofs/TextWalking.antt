-- Levels that tell a list go on by one part.
use Rattle.std.proofs.Common.{◌≡◌, ℕ, zero, suc, ◌+◌, ◌-◌, ◌<◌, List, [], ◌∷◌, ◌++◌, length, get_or, drop, Some, sym, ap, ◌∙◌, subst, arith, append_assoc, append-nil}
use Rattle.std.specs.Prelude.{slice_get, Option, option_to_list}
use Rattle.plain_tree.specs.declared.kind.Kind.{Kind}
use Rattle.slt_grammar.specs.Bodies.{params}
use Rattle.slt_grammar.specs.Grammars.{IsGrammar, value}
use Rattle.slt_grammar.specs.Segments.{listed, segment, preorder}
use Rattle.slt_grammar.specs.declared.rules.Rule.{Rule}
use Rattle.slt_grammar.proofs.TourLemmas.{params-preorder, segment-first}
use Rattle.rule_arena.specs.declared.label.Label.{Label}
use Rattle.grammar_file.specs.Marks.{marks, Thins}
use Rattle.grammar_file.specs.TextLists.{Lists, parts_at, segment_marks, marks_of, ArePartsBelow, AreParts, AreTextLists}
use Rattle.grammar_file.specs.TextWalks.{list_at, coming}
use Rattle.grammar_file.specs.declared.text_lists.Mark.{Mark}
use Rattle.grammar_file.specs.declared.text_lists.Part.{Part}
use Rattle.grammar_file.specs.declared.text_lists.Part.TheVariants.{Node, Segment}
use Rattle.grammar_file.specs.declared.text_walk.Level.{Level}
use Rattle.grammar_file.proofs.ListLemmas.{drop-at}
use Rattle.grammar_file.proofs.MarkLemmas.{thins-behind, thins-is, thins-some}

item-at : {X : Type 0} (xs : List X) (i : ℕ) (x d : X) → i < length xs → get_or xs i d ≡ x → slice_get xs i ≡ Some x
item-at [] i x d lt e = absurd (omega arith)
item-at (y ∷ xs) zero x d lt e = ap Some e
item-at (y ∷ xs) (suc i) x d lt e = item-at xs i x d (omega arith) e

-- a rule with parts is there
rule-there : (lists : Lists) (r i n : ℕ) → n < length (parts_at lists r i) → r < length lists
rule-there [] r i n lt = absurd (omega arith)
rule-there (S ∷ Ss) zero i n lt = omega arith
rule-there (S ∷ Ss) (suc r) i n lt = omega (arith, rule-there Ss r i n lt)

module _ (names : List (Kind × List ℕ)) (G : List Rule) where
  segment-below : (r : ℕ) (ps : List Part) (n q i : ℕ) → ArePartsBelow names G r ps → slice_get ps n ≡ Some (Segment q i) → (q < r) × (0 < length (segment_marks names G q i))
  segment-below r [] n q i h e = cc
  segment-below r (Node m ∷ ps) zero q i h e = cc
  segment-below r (Node m ∷ ps) (suc n) q i h e = segment-below r ps n q i h e
  segment-below r (Segment s j ∷ ps) zero q i h e =
      let same-q : s ≡ q = cc in
      let same-i : j ≡ i = cc in
      subst (λ k. (k < r) × (0 < length (segment_marks names G k i))) same-q (subst (λ k. (s < r) × (0 < length (segment_marks names G s k))) same-i (h.0, h.1))
  segment-below r (Segment s j ∷ ps) (suc n) q i h e = segment-below r ps n q i h.2 e

  some-parts : (ps : List Part) → 0 < length (marks_of names G ps) → 0 < length ps
  some-parts [] lt = lt
  some-parts (p ∷ ps) lt = omega arith

  module _ (lists : Lists) (all : AreTextLists names G (length lists) lists) (l : Level) (p : Part) (lt : l.next < length (list_at lists l)) (d : Part) (is : get_or (list_at lists l) l.next d ≡ p) where
    here : slice_get (list_at lists l) l.next ≡ Some p
    here = item-at (list_at lists l) l.next p d lt is

    told-part : marks_of names G (drop l.next (list_at lists l)) ≡ marks_of names G (p ∷ drop (l.next + 1) (list_at lists l))
    told-part = ap (marks_of names G) (drop-at (list_at lists l) l.next p here)

    module _ (q i : ℕ) (e : p ≡ Segment q i) where
      below : (q < l.rule) × (0 < length (segment_marks names G q i))
      below = segment-below l.rule (list_at lists l) l.next q i (all.each l.rule l.segment (rule-there lists l.rule l.segment l.next lt)).below (here ∙ ap Some e)

      pub earlier : q < l.rule
      earlier = below.0

      parts : AreParts names G q (parts_at lists q i) (segment_marks names G q i)
      parts = all.each q i (let a = below.0 in let b = rule-there lists l.rule l.segment l.next lt in omega arith)

      pub some-left : 0 < length (parts_at lists q i)
      some-left = some-parts (parts_at lists q i) (thins-some (marks_of names G (parts_at lists q i)) (segment_marks names G q i) parts.same below.1)

      pub told-segment : (ls ks : List Level) → coming lists names G ks ≡ marks_of names G (drop (l.next + 1) (list_at lists l)) ++ coming lists names G ls
          → Thins (coming lists names G (record { rule = q; segment = i; next = 0 } ∷ ks)) (coming lists names G (l ∷ ls))
      told-segment ls ks c =
          let is : coming lists names G (l ∷ ls) ≡ segment_marks names G q i ++ coming lists names G ks =
          ap (λ xs. xs ++ coming lists names G ls) (told-part ∙ ap (λ s. marks_of names G (s ∷ drop (l.next + 1) (list_at lists l))) e)
          ∙ append_assoc (segment_marks names G q i) (marks_of names G (drop (l.next + 1) (list_at lists l))) (coming lists names G ls)
          ∙ ap (λ xs. segment_marks names G q i ++ xs) (sym c) in
          subst (Thins (marks_of names G (parts_at lists q i) ++ coming lists names G ks)) (sym is)
          (thins-behind (marks_of names G (parts_at lists q i)) (segment_marks names G q i) (coming lists names G ks) parts.same)

    pub told-node : (m : Mark) → p ≡ Node m → (ls ks : List Level) → coming lists names G ks ≡ marks_of names G (drop (l.next + 1) (list_at lists l)) ++ coming lists names G ls
        → Thins (m ∷ coming lists names G ks) (coming lists names G (l ∷ ls))
    told-node m e ls ks c =
        let is : coming lists names G (l ∷ ls) ≡ m ∷ coming lists names G ks =
        ap (λ xs. xs ++ coming lists names G ls) (told-part ∙ ap (λ s. marks_of names G (s ∷ drop (l.next + 1) (list_at lists l))) e) ∙ ap (λ xs. m ∷ xs) (sym c) in
        thins-is (m ∷ coming lists names G ks) (coming lists names G (l ∷ ls)) (sym is)

-- what a call tells of the lists that it was lent
pub told-next : (names : List (Kind × List ℕ)) (G : List Rule) (n : ℕ) (lists lent : Lists) (olds news : List Level) (told : Option Mark) (m : Mark) → lent ≡ lists → AreTextLists names G n lists → told ≡ Some m
    → ((names : List (Kind × List ℕ)) (G : List Rule) → AreTextLists names G (length lent) lent → Thins (option_to_list told ++ coming lent names G news) (coming lent names G olds))
    → Thins (m ∷ coming lists names G news) (coming lists names G olds)
told-next names G n lists lent olds news told m same all is next =
    let right : AreTextLists names G (length lent) lent = subst (λ ls. AreTextLists names G (length ls) ls) (sym same) (subst (λ k. AreTextLists names G k lists) (sym all.count) all) in
    subst (λ ls. Thins (m ∷ coming ls names G news) (coming ls names G olds)) same (subst (λ o. Thins (option_to_list o ++ coming lent names G news) (coming lent names G olds)) is (next names G right))

-- labels without parameters are one segment
one-segment : (ls : List Label) → params ls ≡ 0 → segment 0 ls ≡ ls
one-segment ls e = ap (segment 0) (sym (append-nil ls)) ∙ segment-first ls [] e ∙ append-nil ls

-- the marks of the start's first segment are all
pub all-marks : (names : List (Kind × List ℕ)) (G : List Rule) → IsGrammar G → segment_marks names G (length G - 1) 0 ≡ marks names (listed (value G) [])
all-marks names G g =
    let last : length G - 1 < length G = omega (arith, g.some) in
    let rank = (g.each (length G - 1) last).shaped.start (omega (arith, g.some)) in
    ap (marks names) (one-segment (preorder G (length G - 1)) (params-preorder G (length G - 1) g last ∙ rank))

-- the list of the start's first segment
pub start-marks : (names : List (Kind × List ℕ)) (G : List Rule) (n : ℕ) (lists : Lists) → IsGrammar G → n ≡ length G → AreTextLists names G n lists → Thins (marks_of names G (parts_at lists (n - 1) 0)) (marks names (listed (value G) []))
start-marks names G n lists g e all =
    subst (Thins (marks_of names G (parts_at lists (n - 1) 0))) (ap (λ m. segment_marks names G (m - 1) 0) e ∙ all-marks names G g) (all.each (n - 1) 0 (let s = g.some in omega arith)).same
