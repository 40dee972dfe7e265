-- The parts of a rule's segments, gathered along the tour of its body.
use Rattle.std.proofs.Common.{◌≡◌, ℕ, zero, suc, ◌+◌, ◌*◌, ◌<◌, ◌≤◌, List, [], ◌∷◌, ◌++◌, length, get_or, slice_get, Some, Option, Vec, Global, refl, sym, ap, ◌∙◌, subst, arith, append_assoc, length-append, ◌⊎◌, inl, inr}
use Rattle.std.specs.Prelude.{option_to_list, Result, Ok, Err, IfOk}
use Rattle.std.proofs.lemmas.Bool.{cases_lt}
use Rattle.plain_tree.specs.declared.kind.Kind.{Kind}
use Rattle.rule_arena.specs.Terms.{Node}
use Rattle.rule_arena.specs.declared.label.Label.{Label}
use Rattle.rule_arena.specs.declared.label.Label.TheVariants.{Bottom, Symbol, Call, Param}
use Rattle.slt_grammar.specs.Bodies.{params, CallsBelow}
use Rattle.slt_grammar.specs.Keyed.{key_at, Keyed, KeyedRule, IsKeyed, rules_of, nodes_at}
use Rattle.slt_grammar.specs.Segments.{preorder, part_of, node_tour}
use Rattle.slt_grammar.specs.Tours.{Stop, stop}
use Rattle.slt_grammar.specs.TourWalks.{StandsBefore}
use Rattle.slt_grammar.specs.declared.rules.Rule.{Rule}
use Rattle.slt_grammar.specs.declared.tour_walk.TourWalk.{TourWalk}
use Rattle.slt_grammar.proofs.StopLemmas.{stop-is, calls-here}
use Rattle.slt_grammar.proofs.TourLemmas.{spread_nodes, preorder-nodes, params-segment}
use Rattle.grammar_file.specs.Marks.{marks, Thins}
use Rattle.grammar_file.specs.declared.text_lists.Mark.{Mark}
use Rattle.grammar_file.specs.declared.text_lists.Mark.TheVariants.{Bare}
use Rattle.grammar_file.specs.TextLists.{Lists, parts_at, segment_parts, segment_marks, marks_of, ArePartsBelow, AreParts, IsPartOf, AreSegments, AreTextLists}
use Rattle.grammar_file.specs.Listings.{Adds, EndsBare}
use Rattle.grammar_file.specs.declared.text_lists.Listing.{Listing}
use Rattle.grammar_file.specs.declared.text_lists.Part.{Part}
use Rattle.grammar_file.specs.declared.text_lists.Part.TheVariants.{Node as NodePart, Segment}
use Rattle.grammar_file.proofs.MarkLemmas.{thins-bare, thins-both, thins-over}
use Rattle.grammar_file.proofs.SegmentMarks.{gathered, gathered-segment, gathered-plain}

module _ (names : List (Kind × List ℕ)) (G : List Rule) where
  -- ---- parts, one after another
  pub marks-append : (ps qs : List Part) → marks_of names G (ps ++ qs) ≡ marks_of names G ps ++ marks_of names G qs
  marks-append [] qs = refl
  marks-append (NodePart m ∷ ps) qs = ap (λ xs. m ∷ xs) (marks-append ps qs)
  marks-append (Segment q i ∷ ps) qs = ap (λ xs. segment_marks names G q i ++ xs) (marks-append ps qs) ∙ sym (append_assoc (segment_marks names G q i) (marks_of names G ps) (marks_of names G qs))

  below-append : (r : ℕ) (ps qs : List Part) → ArePartsBelow names G r ps → ArePartsBelow names G r qs → ArePartsBelow names G r (ps ++ qs)
  below-append r [] qs h k = k
  below-append r (NodePart m ∷ ps) qs h k = below-append r ps qs h k
  below-append r (Segment q i ∷ ps) qs h k = (h.0, h.1, below-append r ps qs h.2 k)

  parts-append : (r : ℕ) (ps qs : List Part) (xs ys : List Mark) → AreParts names G r ps xs → AreParts names G r qs ys → AreParts names G r (ps ++ qs) (xs ++ ys)
  parts-append r ps qs xs ys a b = record {
    below = below-append r ps qs a.below b.below;
    same = subst (λ zs. Thins zs (xs ++ ys)) (sym (marks-append ps qs)) (thins-both (marks_of names G ps) xs (marks_of names G qs) ys a.same b.same);
  }

  -- nodes without a text behind such
  parts-bare : (r : ℕ) (ps before : List Part) (xs ys : List Mark) → AreParts names G r ps xs → AreParts names G r (NodePart Bare ∷ []) ys → ps ≡ before ++ NodePart Bare ∷ [] → AreParts names G r ps (xs ++ ys)
  parts-bare r ps before xs ys a b e =
      let ws : List Mark = marks_of names G before in
      let is : marks_of names G ps ≡ ws ++ Bare ∷ [] = ap (marks_of names G) e ∙ marks-append before (NodePart Bare ∷ []) in
      let own : Thins (ws ++ Bare ∷ []) xs = subst (λ zs. Thins zs xs) is a.same in
      record {
        below = a.below;
        same = subst (λ zs. Thins zs (xs ++ ys)) (sym is)
            (thins-over (ws ++ Bare ∷ []) ((ws ++ Bare ∷ []) ++ Bare ∷ []) (xs ++ ys) (thins-bare ws) (thins-both (ws ++ Bare ∷ []) xs (Bare ∷ []) ys own b.same));
      }

  -- ---- segments that are done
  abbrev pub AreDone : ℕ → List (Vec Part Global) → List (List Mark) → Type 0
  AreDone r [] [] = Unit {0}
  AreDone r [] (s ∷ ss) = ⊥
  AreDone r (L ∷ Ls) [] = ⊥
  AreDone r (L ∷ Ls) (s ∷ ss) = AreParts names G r L.items s × AreDone r Ls ss

  done-more : (r : ℕ) (Ls : List (Vec Part Global)) (ss : List (List Mark)) (L : Vec Part Global) (s : List Mark) → AreDone r Ls ss → AreParts names G r L.items s → AreDone r (Ls ++ L ∷ []) (ss ++ s ∷ [])
  done-more r [] [] L s d p = (p, tt)
  done-more r [] (t ∷ ts) L s d p = absurd d
  done-more r (K ∷ Ks) [] L s d p = absurd d
  done-more r (K ∷ Ks) (t ∷ ts) L s d p = (d.0, done-more r Ks ts L s d.1 p)

  nothing : (r : ℕ) → AreParts names G r [] []
  nothing r = record { below = tt; same = tt }

  done-at : (r : ℕ) (Ls : List (Vec Part Global)) (ss : List (List Mark)) (i : ℕ) → AreDone r Ls ss → AreParts names G r (segment_parts Ls i) (get_or ss i [])
  done-at r [] [] i d = nothing r
  done-at r [] (s ∷ ss) i d = absurd d
  done-at r (L ∷ Ls) [] i d = absurd d
  done-at r (L ∷ Ls) (s ∷ ss) zero d = d.0
  done-at r (L ∷ Ls) (s ∷ ss) (suc i) d = done-at r Ls ss i d.1

  part-plain : (l : Label) (i : ℕ) → (l ≡ Param → ⊥) → params (part_of G l i) ≡ 0
  part-plain Bottom zero n = refl
  part-plain Bottom (suc i) n = refl
  part-plain (Symbol f) zero n = refl
  part-plain (Symbol f) (suc i) n = refl
  part-plain (Call q) i n = params-segment i (preorder G q)
  part-plain Param i n = absurd (n refl)

-- a walk with the parts so far: those of segments that are done, and of the one that was begun
pub record Listed (names : List (Kind × List ℕ)) (G : List KeyedRule) (r : ℕ) (walk : TourWalk) (segments : List (Vec Part Global)) (parts : List Part) (first steps : ℕ) : Type 0 where
  pub here : Stop Node
  pub left : List (Stop Node)
  pub stands : StandsBefore G r walk (here ∷ left)
  pub done : List (List Mark)
  pub begun : List Mark
  pub are_done : AreDone names (rules_of G) r segments done
  pub are_begun : AreParts names (rules_of G) r parts begun
  pub all : gathered names done begun (part_of (rules_of G) here.item.label here.part ++ spread_nodes (rules_of G) left) ≡ gathered names [] [] (preorder (rules_of G) r)
  pub few : steps + 2 * length left + 2 ≤ first + 2 * length (node_tour G r)

module _ (names : List (Kind × List ℕ)) (g : Keyed) (k : IsKeyed g) (r : ℕ) (h : r < length g.rules) where
  abbrev H : List Rule
  H = rules_of g.rules

  listed-at : (walk : TourWalk) (segments : List (Vec Part Global)) (parts : List Part) (first steps : ℕ) (ms : List (Stop Node)) (done : List (List Mark)) (begun : List Mark) → StandsBefore g.rules r walk ms
      → AreDone names H r segments done → AreParts names H r parts begun → gathered names done begun (spread_nodes H ms) ≡ gathered names [] [] (preorder H r)
      → steps + 2 * length ms ≤ first + 2 * length (node_tour g.rules r) → Listed names g.rules r walk segments parts first steps
  listed-at walk segments parts first steps [] done begun s d b e f = let l = s.are_left in absurd (cc)
  listed-at walk segments parts first steps (here ∷ left) done begun s d b e f = record { here = here; left = left; stands = s; done = done; begun = begun; are_done = d; are_begun = b; all = e; few = omega arith }

  pub listed-start : (walk : TourWalk) (segments : List (Vec Part Global)) (parts : List Part) (steps : ℕ) → StandsBefore g.rules r walk (node_tour g.rules r) → segments ≡ [] → parts ≡ [] → Listed names g.rules r walk segments parts steps steps
  listed-start walk segments parts steps s e f =
      listed-at walk segments parts steps steps (node_tour g.rules r) [] [] s (subst (λ (Ls : List (Vec Part Global)). AreDone names H r Ls []) (sym e) tt) (subst (λ (ps : List Part). AreParts names H r ps []) (sym f) (nothing names H r))
      (ap (gathered names [] []) (sym (preorder-nodes g k r h))) (omega arith)

  -- a turn of the loop
  module _ (walk : TourWalk) (segments : List (Vec Part Global)) (parts : List Part) (first steps : ℕ) (i : Listed names g.rules r walk segments parts first steps)
      (x : Node) (item : (r p : ℕ) → key_at g.rules r p ≡ Some walk.key → slice_get (nodes_at g.rules r) p ≡ Some x) where
    here-is : i.here ≡ stop x walk.part
    here-is = stop-is g k r h walk i.here i.left i.stands x item

    all-here : gathered names i.done i.begun (part_of H x.label walk.part ++ spread_nodes H i.left) ≡ gathered names [] [] (preorder H r)
    all-here = subst (λ (s : Stop Node). gathered names i.done i.begun (part_of H s.item.label s.part ++ spread_nodes H i.left) ≡ gathered names [] [] (preorder H r)) here-is i.all

    -- the calls of what stands here are to earlier rules
    pub calls-below : CallsBelow r (x.label ∷ [])
    calls-below = calls-here g k r h walk i.here i.left i.stands x item

    -- behind what stands here
    pub record Next (segments' : List (Vec Part Global)) (parts' : List Part) : Type 0 where
      pub done : List (List Mark)
      pub begun : List Mark
      pub are_done : AreDone names H r segments' done
      pub are_begun : AreParts names H r parts' begun
      pub all : gathered names done begun (spread_nodes H i.left) ≡ gathered names [] [] (preorder H r)

    pub behind-parameter : x.label ≡ Param → (v : Vec Part Global) → v.items ≡ parts → Next (segments ++ v ∷ []) []
    behind-parameter e v same = record {
      done = i.done ++ i.begun ∷ [];
      begun = [];
      are_done = done-more names H r segments i.done v i.begun i.are_done (subst (λ (ps : List Part). AreParts names H r ps i.begun) (sym same) i.are_begun);
      are_begun = nothing names H r;
      all = sym (ap (λ (l : Label). gathered names i.done i.begun (part_of H l walk.part ++ spread_nodes H i.left)) e) ∙ all-here;
    }

    pub behind-part : (x.label ≡ Param → ⊥) → (p : Option Part) → IsPartOf names H r (part_of H x.label walk.part) p → Next segments (parts ++ option_to_list p)
    behind-part n p is = record {
      done = i.done;
      begun = i.begun ++ marks names (part_of H x.label walk.part);
      are_done = i.are_done;
      are_begun = parts-append names H r parts (option_to_list p) i.begun (marks names (part_of H x.label walk.part)) i.are_begun is;
      all = sym (gathered-plain names (part_of H x.label walk.part) (spread_nodes H i.left) i.done i.begun (part-plain names H x.label walk.part n)) ∙ all-here;
    }

    behind-bare : (x.label ≡ Param → ⊥) → IsPartOf names H r (part_of H x.label walk.part) (Some (NodePart Bare)) → EndsBare parts → Next segments parts
    behind-bare n is ends = record {
      done = i.done;
      begun = i.begun ++ marks names (part_of H x.label walk.part);
      are_done = i.are_done;
      are_begun = parts-bare names H r parts ends.0 i.begun (marks names (part_of H x.label walk.part)) i.are_begun is ends.1;
      all = sym (gathered-plain names (part_of H x.label walk.part) (spread_nodes H i.left) i.done i.begun (part-plain names H x.label walk.part n)) ∙ all-here;
    }

    -- what a label that isn't a parameter does to the parts
    abbrev Puts : Listing → Listing → Option Part → Type 0
    Puts s t p = (t.done.items ≡ s.done.items) × ((t.begun.items ≡ s.begun.items ++ option_to_list p) ⊎ ((p ≡ Some (NodePart Bare)) × EndsBare s.begun.items × (t.begun.items ≡ s.begun.items)))

    unchanged : (s t : Listing) (p : Option Part) → s.done.items ≡ segments → s.begun.items ≡ parts → (x.label ≡ Param → ⊥) → Puts s t p
        → IsPartOf names H r (part_of H x.label walk.part) p → Next t.done.items t.begun.items
    unchanged s t p d o n (a, inl b) is = subst (λ ps. Next t.done.items ps) (ap (λ ps. ps ++ option_to_list p) (sym o) ∙ sym b) (subst (λ ss. Next ss (parts ++ option_to_list p)) (sym d ∙ sym a) (behind-part n p is))
    unchanged s t p d o n (a, inr (bare, ends, b)) is =
        let next : Next segments parts = behind-bare n (subst (IsPartOf names H r (part_of H x.label walk.part)) bare is) (subst EndsBare o ends) in
        subst (λ ps. Next t.done.items ps) (sym o ∙ sym b) (subst (λ ss. Next ss parts) (sym d ∙ sym a) next)

    pub behind-here : (s t : Listing) (p : Option Part) → s.done.items ≡ segments → s.begun.items ≡ parts → (l : Label) → x.label ≡ l → Adds l p s t → IsPartOf names H r (part_of H x.label walk.part) p → Next t.done.items t.begun.items
    behind-here s t p d o Param e a is = subst (λ ps. Next t.done.items ps) (sym a.3) (subst (λ ss. Next ss []) (ap (λ ss. ss ++ a.0 ∷ []) (sym d) ∙ sym a.2) (behind-parameter e a.0 (a.1 ∙ o)))
    behind-here s t p d o Bottom e a is = unchanged s t p d o (λ f. let g : Bottom ≡ Param = sym e ∙ f in cc) a is
    behind-here s t p d o (Symbol f) e a is = unchanged s t p d o (λ h. let g : Symbol f ≡ Param = sym e ∙ h in cc) a is
    behind-here s t p d o (Call q) e a is = unchanged s t p d o (λ f. let g : Call q ≡ Param = sym e ∙ f in cc) a is

    module _ (segments' : List (Vec Part Global)) (parts' : List Part) (n : Next segments' parts') where
      pub listed-next : (next : TourWalk) (steps' : ℕ) → StandsBefore g.rules r next i.left → steps' ≤ steps + 2 → Listed names g.rules r next segments' parts' first steps'
      listed-next next steps' s f = listed-at next segments' parts' first steps' i.left n.done n.begun s n.are_done n.are_begun n.all (omega (arith, i.few))

      pub listed-end : i.left ≡ [] → (v : Vec Part Global) → v.items ≡ parts' → AreSegments names H r (segments' ++ v ∷ [])
      listed-end e v same j =
          let d = done-more names H r segments' n.done v n.begun n.are_done (subst (λ (ps : List Part). AreParts names H r ps n.begun) (sym same) n.are_begun) in
          let all : n.done ++ n.begun ∷ [] ≡ gathered names [] [] (preorder H r) = ap (λ (ms : List (Stop Node)). gathered names n.done n.begun (spread_nodes H ms)) (sym e) ∙ n.all in
          subst (AreParts names H r (segment_parts (segments' ++ v ∷ []) j)) (ap (λ (ss : List (List Mark)). get_or ss j []) all ∙ gathered-segment names j (preorder H r)) (done-at names H r (segments' ++ v ∷ []) (n.done ++ n.begun ∷ []) j d)

pub if-ok : {A E : Type 0} {P Q : A → Type 0} (r : Result A E) → IfOk r P → ((x : A) → P x → Q x) → IfOk r Q
if-ok (Ok x) h f = f x h
if-ok (Err e) h f = h

-- ---- the lists of one rule more
module _ (names : List (Kind × List ℕ)) (G : List Rule) where
  parts-before : (lists : Lists) (S : Vec (Vec Part Global) Global) (q i : ℕ) → q < length lists → parts_at (lists ++ S ∷ []) q i ≡ parts_at lists q i
  parts-before [] S q i lt = absurd (omega arith)
  parts-before (L ∷ Ls) S zero i lt = refl
  parts-before (L ∷ Ls) S (suc q) i lt = parts-before Ls S q i (omega arith)

  parts-last : (lists : Lists) (S : Vec (Vec Part Global) Global) (i : ℕ) → parts_at (lists ++ S ∷ []) (length lists) i ≡ segment_parts S.items i
  parts-last [] S i = refl
  parts-last (L ∷ Ls) S i = parts-last Ls S i

  pub lists-none : (lists : Lists) → lists ≡ [] → AreTextLists names G 0 lists
  lists-none lists e = record { count = ap length e; each = λ q i lt. absurd (omega arith) }

  pub lists-more : (r : ℕ) (lists : Lists) (S : Vec (Vec Part Global) Global) → AreTextLists names G r lists → AreSegments names G r S.items → AreTextLists names G (r + 1) (lists ++ S ∷ [])
  lists-more r lists S a s = record { count = length-append lists (S ∷ []) ∙ ap (λ n. n + 1) a.count; each = λ q i lt. by_place q i lt (cases_lt q r) }
    where
      by_place : (q i : ℕ) → q < r + 1 → (q < r) ⊎ (r ≤ q) → AreParts names G q (parts_at (lists ++ S ∷ []) q i) (segment_marks names G q i)
      by_place q i lt (inl l) =
          let n = a.count in
          subst (λ ps. AreParts names G q ps (segment_marks names G q i)) (sym (parts-before lists S q i (omega arith))) (a.each q i l)
      by_place q i lt (inr g) =
          let e : length lists ≡ q = let n = a.count in omega arith in
          let f : r ≡ q = omega arith in
          subst (λ ps. AreParts names G q ps (segment_marks names G q i)) (sym (parts-last lists S i) ∙ ap (λ k. parts_at (lists ++ S ∷ []) k i) e) (subst (λ k. AreParts names G k (segment_parts S.items i) (segment_marks names G k i)) f (s i))
