-- Bodies read from their root, node by node.
use Rattle.std.proofs.Common.{◌≡◌, ℕ, zero, suc, ◌+◌, ◌<◌, List, [], ◌∷◌, ◌++◌, length, get_or, take, drop, map, reverse, Option, Some, Vec, Global, slice_get, refl, sym, ap, ◌∙◌, arith, append_assoc, append-nil, length-append, zero-add, subst}
use Rattle.rule_arena.specs.Preorder.{AreTerms}
use Rattle.rule_arena.specs.declared.label.Label.{Label}
use Rattle.rule_arena.specs.declared.label.Label.TheVariants.{Bottom, Symbol, Call, Param}
use Rattle.slt_grammar.specs.Algebras.{Algebra, meanings, ranks_of, all_meanings}
use Rattle.slt_grammar.specs.Automata.{Downward, handed}
use Rattle.slt_grammar.specs.Bodies.{arity, params, CallsBelow}
use Rattle.slt_grammar.specs.Grammars.{IsGrammar, body_at, rank_at, value_at}
use Rattle.rule_runs.specs.Reached.{RuleStates, states_of, argument_states, downs, Falls, at_call}
use Rattle.slt_grammar.specs.Terms.{Term, Leaf, holes, up, term_algebra}
use Rattle.slt_grammar.specs.declared.automata.Fell.{Fell}
use Rattle.slt_grammar.specs.declared.rules.Rule.{Rule}
use Rattle.slt_grammar.proofs.Meanings.{meanings-whole, only, drop-one}
use Rattle.slt_grammar.proofs.RuleMeanings.{memo-at, rank_at-ranks_of}
use Rattle.slt_grammar.proofs.Carrying.{up-holes}
use Rattle.slt_grammar.proofs.Linear.{value_at-linear, length-holes}
use Rattle.rule_runs.specs.declared.descent.Mark.{Mark}
use Rattle.rule_runs.specs.declared.descent.Mark.TheVariants.{Term as MarkTerm}
use Rattle.rule_runs.specs.declared.descent.Descent.{Descent}
use Rattle.rule_runs.specs.declared.listing.Part.{Part}
use Rattle.rule_runs.specs.declared.notes.Note.{Note}
use Rattle.rule_runs.specs.declared.notes.Note.TheVariants.{Bottom as NoteBottom, Param as NoteParam, Symbol as NoteSymbol, Call as NoteCall}
use Rattle.rule_runs.specs.declared.spots.Handed.{Handed}
use Rattle.rule_runs.specs.declared.spots.Spot.{Spot}
use Rattle.rule_runs.specs.declared.told.Here.{Here}
use Rattle.rule_runs.specs.Cuts.{Stretch, nothing, one, beside, before, joined, cut}
use Rattle.rule_runs.specs.Notes.{AreNotes}
use Rattle.rule_runs.specs.Risen.{IsPair, pair_at}
use Rattle.rule_runs.specs.Tellings.{Listed, extended, IsTelling, AreTold}
use Rattle.rule_runs.specs.Walks.{Open, Place, absorbed, after, down_at, downs_of, woven_marks, told, param_downs, woven}
use Rattle.rule_runs.specs.Descents.{AreOpen, IsNext, CallsMeet, Walks, HasOutcome, Waiting, AreWaiting}
use Rattle.rule_runs.specs.Outcomes.{Outcome, befores, downs_handed, tolds}
use Rattle.rule_runs.proofs.Cutting.{before-nothing, beside-nothing, length-joined, cut-some}
use Rattle.rule_runs.proofs.Handing.{AllHoles, linear, handed_all, length-handed, fall-body}
use Rattle.rule_runs.proofs.Lists.{slice_get-at}
use Rattle.rule_runs.proofs.Telling.{told-woven}
use Rattle.rule_runs.proofs.Tellings.{telling-more, told-more}
use Rattle.rule_runs.proofs.Marks.{down-is, downs-woven, open-term, open-more}
use Rattle.rule_runs.proofs.NoteLemmas.{note-bottom, note-param, note-symbol, note-call, note-some, note-none}

module _ {S D : Type 0} (A : Algebra S) (W : Downward S D) (G : List Rule) where
  -- what stands before the next place can go to the front
  pub told-placed : (args : List S) (s : Stretch) (ms : List (Open D)) (d : D) (ls : List Label) → downs_of ms ≡ d ∷ downs_of (after ms) → told A W G args s ms ls ≡ told A W G args (absorbed s ms) (Place d ∷ after ms) ls
  told-placed args s ms d [] e = refl
  told-placed args s ms d (Param ∷ ls) e = refl
  told-placed args s ms d (Bottom ∷ ls) e = refl
  told-placed args s ms d (Symbol f ∷ ls) e = let k : down_at W.start ms ≡ d = down-is W.start ms ∙ ap (λ ds. get_or ds 0 W.start) e in rw k refl
  told-placed args s ms d (Call q ∷ ls) e = let k : down_at W.start ms ≡ d = down-is W.start ms ∙ ap (λ ds. get_or ds 0 W.start) e in rw k refl

  -- the calls of a body are met where the body is
  pub calls-meet : (P : ℕ → List S → D → Type 0) (args : List S) (ds : List D) (ls : List Label)
      → ((place q : ℕ) → slice_get ls place ≡ Some (Call q) → P q (argument_states A G q args ls place) (get_or (downs A W G args ds ls) place W.start)) → CallsMeet A W G P args ds ls
  calls-meet P args ds [] h = tt
  calls-meet P args ds (Param ∷ ls) h = calls-meet P (drop 1 args) (drop 1 ds) ls (λ place q e. rw (drop-one (params (take (suc place) ls)) args) (h (suc place) q e))
  calls-meet P args ds (Bottom ∷ ls) h = calls-meet P args (drop 1 ds) ls (λ place q e. h (suc place) q e)
  calls-meet P args ds (Symbol f ∷ ls) h = calls-meet P args _ ls (λ place q e. h (suc place) q e)
  calls-meet P args ds (Call r ∷ ls) h =
      (rw (rank_at-ranks_of G r) (h 0 r refl), rw (rank_at-ranks_of G r) (calls-meet P args _ ls (λ place q e. h (suc place) q e)))

-- holes alone
all_holes : (from n : ℕ) → AllHoles (holes from n)
all_holes from zero = tt
all_holes from (suc n) = all_holes (suc from) n

module _ {S D : Type 0} (A : Algebra S) (W : Downward S D) (G : List Rule) (g : IsGrammar G) (key : RuleStates S) (pair : IsPair G key) where
  body-meaning : meanings term_algebra (ranks_of G) (all_meanings term_algebra G) (holes 0 (rank_at G key.0)) (body_at G key.0) [] ≡ value_at G key.0 ∷ []
  body-meaning =
      let hs : List Term = holes 0 (rank_at G key.0) in
      let m = meanings-whole term_algebra (ranks_of G) (all_meanings term_algebra G) 1 hs (body_at G key.0) [] (g.each key.0 pair.there).shaped.term in
      only Leaf _ m.1 ∙ ap (λ t. t ∷ []) (sym (memo-at term_algebra G g key.0 pair.there hs))

  ups-holes : map (λ t. up A t key.1) (holes 0 (rank_at G key.0)) ≡ key.1
  ups-holes = rw (← pair.args) (up-holes A [] key.1)

  -- the walk of a body tells the stretches of the rule's value
  pub told-value : (down : D) → told A W G key.1 nothing (Place down ∷ []) (body_at G key.0) ≡ cut A W (value_at G key.0) key.1 down
  told-value down =
      let hs : List Term = holes 0 (rank_at G key.0) in
      let t = told-woven A W G (linear G g) key.1 1 (body_at G key.0) hs nothing (Place down ∷ []) (g.each key.0 pair.there).shaped.term refl (all_holes 0 (rank_at G key.0)) (length-holes 0 (rank_at G key.0) ∙ sym (g.each key.0 pair.there).linear) in
      let c : List Stretch = cut A W (value_at G key.0) key.1 down in
      let some : 0 < length c = cut-some A W (value_at G key.0) key.1 down in
      ap (λ xs. told A W G xs nothing (Place down ∷ []) (body_at G key.0)) (sym ups-holes) ∙ t
      ∙ ap (woven A W G key.1 nothing (Place down ∷ [])) body-meaning ∙ single c some
    where
      tail : (c : List Stretch) → 0 < length c → joined c (nothing ∷ []) ≡ c
      tail [] h = absurd (omega arith)
      tail (s ∷ []) h = ap (λ x. x ∷ []) (beside-nothing s)
      tail (s ∷ s' ∷ c) h = ap (λ x. s ∷ x) (tail (s' ∷ c) (omega arith))

      single : (c : List Stretch) → 0 < length c → before nothing (joined c (nothing ∷ [])) ≡ c
      single c h = before-nothing (joined c (nothing ∷ [])) (length-joined c (nothing ∷ []) h) ∙ tail c h

  -- and hands to the parameters what the run of the value hands to the holes
  pub handed-value : (down : D) → param_downs A W G key.1 (down ∷ []) (body_at G key.0) ≡ handed A W (value_at G key.0) key.1 down
  handed-value down =
      let hs : List Term = holes 0 (rank_at G key.0) in
      let f = fall-body A W G (linear G g) key.1 1 (body_at G key.0) hs (down ∷ []) (g.each key.0 pair.there).shaped.term refl (all_holes 0 (rank_at G key.0)) (length-holes 0 (rank_at G key.0) ∙ sym (g.each key.0 pair.there).linear) in
      sym (sym (append-nil (handed A W (value_at G key.0) key.1 down)) ∙ ap (λ ts. handed_all A W key.1 ts (down ∷ [])) (sym body-meaning) ∙ f ∙ ap (λ xs. param_downs A W G xs (down ∷ []) (body_at G key.0)) ups-holes)

  pub length-handed-value : (down : D) → length (handed A W (value_at G key.0) key.1 down) ≡ rank_at G key.0
  length-handed-value down = length-handed A W (value_at G key.0) key.1 down ∙ ap length (value_at-linear G key.0 g pair.there) ∙ length-holes 0 (rank_at G key.0)

  module _ (ks : List (RuleStates S)) (lists : Listed) where
    -- a body that is not read yet
    pub walk-start : (down : D) (notes : List (Note S)) (here : Here) (met : List (Handed D)) → Falls S D A W G key.0 key.1 down → AreNotes A G ks key.1 (body_at G key.0) notes → met ≡ [] → IsTelling lists here nothing
        → Walks A W G ks lists key down notes (MarkTerm down ∷ []) here met
    walk-start down notes here met f noted h i = record {
      args = key.1;
      ls = body_at G key.0;
      ms = Place down ∷ [];
      s = nothing;
      done = [];
      noted = noted;
      marked = (refl, tt);
      telling = i;
      finished = rw h tt;
      stretches = told-value down;
      hands = rw h (handed-value down);
      terms = (g.each key.0 pair.there).shaped.term;
      meet = calls-meet A W G (Falls S D A W G) key.1 (down ∷ []) (body_at G key.0) (λ place q e. at_call key.0 key.1 down place q f e);
      earlier = (g.each key.0 pair.there).earlier;
    }

module _ {S D : Type 0} (A : Algebra S) (W : Downward S D) (G : List Rule) (ks : List (RuleStates S)) where
  pub walk-more : (lists : Listed) (more : List (Vec Part Global)) (key : RuleStates S) (down : D) (notes : List (Note S)) (marks : List (Mark D)) (here : Here) (met : List (Handed D))
      → Walks A W G ks lists key down notes marks here met → Walks A W G ks (extended lists more) key down notes marks here met
  walk-more lists more key down notes marks here met w = record {
    args = w.args;
    ls = w.ls;
    ms = w.ms;
    s = w.s;
    done = w.done;
    noted = w.noted;
    marked = open-more lists more marks w.ms w.marked;
    telling = telling-more lists more here w.s w.telling;
    finished = told-more lists more (befores met) w.done w.finished;
    stretches = w.stretches;
    hands = w.hands;
    terms = w.terms;
    meet = w.meet;
    earlier = w.earlier;
  }

  pub outcome-more : (lists : Listed) (more : List (Vec Part Global)) (spot : Spot D) (outcome : Outcome D) → HasOutcome A W G ks lists spot outcome → HasOutcome A W G ks (extended lists more) spot outcome
  outcome-more lists more spot outcome h = record { there = h.there; finished = told-more lists more (tolds outcome) _ h.finished; hands = h.hands }

  waits-more : (lists : Listed) (more : List (Vec Part Global)) (f : Descent D) (marks : List (Mark D)) (spot : Spot D) → Waiting A W G ks lists f marks spot → Waiting A W G ks (extended lists more) f marks spot
  waits-more lists more f marks spot h = record {
    notes = h.notes;
    noted = h.noted;
    within = h.within;
    walks = walk-more lists more (pair_at ks f.spot.pair) f.spot.down (NoteCall spot.pair ∷ reverse (take f.left h.notes)) (MarkTerm spot.down ∷ marks) f.here f.handed.items h.walks;
  }

  pub waiting-more : (lists : Listed) (more : List (Vec Part Global)) (spot : Spot D) (gs : List (Descent D)) (mss : List (List (Mark D))) → AreWaiting A W G ks lists spot gs mss → AreWaiting A W G ks (extended lists more) spot gs mss
  waiting-more lists more spot [] mss h = h
  waiting-more lists more spot (f ∷ gs) mss h =
      (waits-more lists more f (get_or mss 0 []) spot h.0, h.1, h.2, waiting-more lists more f.spot gs (drop 1 mss) h.3)

  module _ (lists : Listed) (key : RuleStates S) (down : D) (met : List (Handed D)) where
    -- the next term's place is open
    pub walk-placed : (notes : List (Note S)) (marks marks' : List (Mark D)) (here here' : Here) (d : D) (w : Walks A W G ks lists key down notes marks here met)
        → IsNext lists (Some d) w.s w.ms marks' here' → Walks A W G ks lists key down notes (MarkTerm d ∷ marks') here' met
    walk-placed notes marks marks' here here' d w n = record {
      args = w.args;
      ls = w.ls;
      ms = Place d ∷ after w.ms;
      s = absorbed w.s w.ms;
      done = w.done;
      noted = w.noted;
      marked = (refl, n.marked);
      telling = n.telling;
      finished = w.finished;
      stretches = ap (λ x. w.done ++ x) (sym (told-placed A W G w.args w.s w.ms d w.ls n.is)) ∙ w.stretches;
      hands = ap (λ x. downs_handed met ++ param_downs A W G w.args x w.ls) (sym n.is) ∙ w.hands;
      terms = (let t : AreTerms (arity (ranks_of G)) (length (d ∷ downs_of (after w.ms))) w.ls = rw n.is at w.terms in t);
      meet = (let t : CallsMeet A W G (Falls S D A W G) w.args (d ∷ downs_of (after w.ms)) w.ls = rw n.is at w.meet in t);
      earlier = w.earlier;
    }

    pub walk-next : (notes : List (Note S)) (marks marks' : List (Mark D)) (here here' : Here) (d : D) (found : Option D) → Walks A W G ks lists key down notes marks here met → found ≡ Some d
        → ((s : Stretch) (ms : List (Open D)) → IsTelling lists here s → AreOpen lists marks ms → IsNext lists found s ms marks' here') → Walks A W G ks lists key down notes (MarkTerm d ∷ marks') here' met
    walk-next notes marks marks' here here' d found w e next = walk-placed notes marks marks' here here' d w (rw e at (next w.s w.ms w.telling w.marked))

    -- a node is left, so that a place is open
    pub walk-open : (n : Note S) (notes : List (Note S)) (marks : List (Mark D)) (here : Here) (w : Walks A W G ks lists key down (n ∷ notes) marks here met) → downs_of w.ms ≡ [] → ⊥
    walk-open n notes marks here w e =
        let v = note-some A G ks w.args w.ls n notes w.noted in
        rw (e, v.2) at w.terms

    pub walk-bottom : (notes : List (Note S)) (marks : List (Mark D)) (here : Here) (d : D) → Walks A W G ks lists key down (NoteBottom ∷ notes) (MarkTerm d ∷ marks) here met → Walks A W G ks lists key down notes marks here met
    walk-bottom notes marks here d w =
        let m = open-term lists d marks w.ms w.marked in
        let n = note-bottom A G ks w.args w.ls notes w.noted in
        record {
          args = w.args;
          ls = n.0;
          ms = m.0;
          s = w.s;
          done = w.done;
          noted = n.2;
          marked = m.2;
          telling = w.telling;
          finished = w.finished;
          stretches = rw (m.1, n.1) at w.stretches;
          hands = rw (m.1, n.1) at w.hands;
          terms = rw (m.1, n.1, zero-add) at w.terms;
          meet = rw (m.1, n.1) at w.meet;
          earlier = rw n.1 at w.earlier;
        }

    -- a symbol opens its two children
    pub walk-symbol : (f : ℕ) (kids rest : S) (notes : List (Note S)) (marks : List (Mark D)) (here here' : Here) (d : D) (fell : Fell D) (w : Walks A W G ks lists key down (NoteSymbol f kids rest ∷ notes) (MarkTerm d ∷ marks) here met)
        → fell ≡ W.step f d kids rest → IsTelling lists here' (beside w.s (one fell.hit f)) → Walks A W G ks lists key down notes (MarkTerm fell.left ∷ MarkTerm fell.right ∷ marks) here' met
    walk-symbol f kids rest notes marks here here' d fell w is telling =
        let m = open-term lists d marks w.ms w.marked in
        let n = note-symbol A G ks w.args w.ls f kids rest notes w.noted in
        let e : W.step f d (get_or (states_of A G w.args n.0) 0 A.bottom) (get_or (states_of A G w.args n.0) 1 A.bottom) ≡ fell = ap (λ x. W.step f d x (get_or (states_of A G w.args n.0) 1 A.bottom)) (sym n.2) ∙ ap (W.step f d kids) (sym n.3) ∙ sym is in
        record {
          args = w.args;
          ls = n.0;
          ms = Place fell.left ∷ Place fell.right ∷ m.0;
          s = beside w.s (one fell.hit f);
          done = w.done;
          noted = n.4;
          marked = (refl, (refl, m.2));
          telling = telling;
          finished = w.finished;
          stretches = subst (λ (x : Fell D). w.done ++ told A W G w.args (beside w.s (one x.hit f)) (Place x.left ∷ Place x.right ∷ m.0) n.0 ≡ cut A W (value_at G key.0) key.1 down) e (rw (m.1, n.1) at w.stretches);
          hands = subst (λ (x : Fell D). downs_handed met ++ param_downs A W G w.args (x.left ∷ x.right ∷ downs_of m.0) n.0 ≡ handed A W (value_at G key.0) key.1 down) e (rw (m.1, n.1) at w.hands);
          terms = (let t : AreTerms (arity (ranks_of G)) (2 + length (downs_of m.0)) n.0 = rw (m.1, n.1) at w.terms in let k : 2 + length (downs_of m.0) ≡ suc (suc (length (downs_of m.0))) = omega arith in rw k at t);
          meet = subst (λ (x : Fell D). CallsMeet A W G (Falls S D A W G) w.args (x.left ∷ x.right ∷ downs_of m.0) n.0) e (rw (m.1, n.1) at w.meet);
          earlier = rw n.1 at w.earlier;
        }

    -- a call opens its arguments
    pub walk-call : IsGrammar G → IsPair G key → (i : ℕ) (notes : List (Note S)) (marks marks' : List (Mark D)) (here here' : Here) (d : D) (known : Outcome D) (w : Walks A W G ks lists key down (NoteCall i ∷ notes) (MarkTerm d ∷ marks) here met)
        → HasOutcome A W G ks lists (record { pair = i; down = d }) known
        → IsTelling lists here' (beside w.s (get_or (cut A W (value_at G (pair_at ks i).0) (pair_at ks i).1 d) 0 nothing))
        → AreOpen lists marks' (woven_marks (downs_handed known.handed) (drop 1 (cut A W (value_at G (pair_at ks i).0) (pair_at ks i).1 d)) ++ (open-term lists d marks w.ms w.marked).0)
        → Walks A W G ks lists key down notes marks' here' met
    walk-call g pair i notes marks marks' here here' d known w h telling marked =
        let m = open-term lists d marks w.ms w.marked in
        let n = note-call A G ks w.args w.ls i notes w.noted in
        let q : ℕ = n.0 in
        let behind : List Label = n.1 in
        let kids : List S = take (get_or (ranks_of G) q 0) (states_of A G w.args behind) in
        let k : pair_at ks i ≡ (q, kids) = (slice_get-at ks i (q, kids) (0, []) n.3).1 in
        let c : List Stretch = cut A W (value_at G q) kids d in
        let ds : List D = handed A W (value_at G q) kids d in
        let hd : downs_handed known.handed ≡ ds = h.hands ∙ ap (λ (x : RuleStates S). handed A W (value_at G x.0) x.1 d) k in
        let ck : cut A W (value_at G (pair_at ks i).0) (pair_at ks i).1 d ≡ c = ap (λ (x : RuleStates S). cut A W (value_at G x.0) x.1 d) k in
        let ms : List (Open D) = woven_marks ds (drop 1 c) ++ m.0 in
        let dw : downs_of ms ≡ ds ++ downs_of m.0 = downs-woven ds (drop 1 c) m.0 in
        let below : CallsBelow key.0 (Call q ∷ behind) = rw n.2 at w.earlier in
        let len : length ds ≡ get_or (ranks_of G) q 0 = length-handed A W (value_at G q) kids d ∙ ap length (value_at-linear G q g (let a = below.0 in let b = pair.there in omega arith)) ∙ length-holes 0 (rank_at G q) ∙ sym (rank_at-ranks_of G q) in
        record {
          args = w.args;
          ls = behind;
          ms = ms;
          s = beside w.s (get_or c 0 nothing);
          done = w.done;
          noted = n.4;
          marked = rw (hd, ck) at marked;
          telling = rw ck at telling;
          finished = w.finished;
          stretches = rw (m.1, n.2) at w.stretches;
          hands = rw dw (rw (m.1, n.2) at w.hands);
          terms = (let t : AreTerms (arity (ranks_of G)) (get_or (ranks_of G) q 0 + length (downs_of m.0)) behind = rw (m.1, n.2) at w.terms in let z : get_or (ranks_of G) q 0 + length (downs_of m.0) ≡ length (downs_of ms) = omega (arith, len, ap length dw, length-append ds (downs_of m.0)) in rw z at t);
          meet = rw dw (let t : CallsMeet A W G (Falls S D A W G) w.args (downs_of (Place d ∷ m.0)) (Call q ∷ behind) = rw (m.1, n.2) at w.meet in t.1);
          earlier = below.1;
        }

    -- a call is met, and of an earlier rule
    pub walk-meets : (i : ℕ) (notes : List (Note S)) (marks : List (Mark D)) (here : Here) (d : D) → Walks A W G ks lists key down (NoteCall i ∷ notes) (MarkTerm d ∷ marks) here met
        → Falls S D A W G (pair_at ks i).0 (pair_at ks i).1 d × (i < length ks) × ((pair_at ks i).0 < key.0)
    walk-meets i notes marks here d w =
        let m = open-term lists d marks w.ms w.marked in
        let n = note-call A G ks w.args w.ls i notes w.noted in
        let kids : List S = take (get_or (ranks_of G) n.0 0) (states_of A G w.args n.1) in
        let k = slice_get-at ks i (n.0, kids) (0, []) n.3 in
        let t : CallsMeet A W G (Falls S D A W G) w.args (downs_of (Place d ∷ m.0)) (Call n.0 ∷ n.1) = rw (m.1, n.2) at w.meet in
        let below : CallsBelow key.0 (Call n.0 ∷ n.1) = rw n.2 at w.earlier in
        (rw k.1 t.0, k.0, rw k.1 below.0)

    -- a parameter ends a stretch
    pub walk-param : (more : List (Vec Part Global)) (notes : List (Note S)) (marks : List (Mark D)) (here here' : Here) (d : D) (new : List (Handed D)) (w : Walks A W G ks lists key down (NoteParam ∷ notes) (MarkTerm d ∷ marks) here met)
        → AreTold (extended lists more) (befores new) (w.done ++ w.s ∷ []) → IsTelling (extended lists more) here' nothing → downs_handed new ≡ downs_handed met ++ d ∷ []
        → Walks A W G ks (extended lists more) key down notes marks here' new
    walk-param more notes marks here here' d new w finished telling handed_is =
        let m = open-term lists d marks w.ms w.marked in
        let n = note-param A G ks w.args w.ls notes w.noted in
        let s : w.done ++ (w.s ∷ told A W G (drop 1 w.args) nothing m.0 n.0) ≡ cut A W (value_at G key.0) key.1 down = rw (m.1, n.1) at w.stretches in
        let h : downs_handed met ++ (d ∷ param_downs A W G (drop 1 w.args) (downs_of m.0) n.0) ≡ handed A W (value_at G key.0) key.1 down = rw (m.1, n.1) at w.hands in
        record {
          args = drop 1 w.args;
          ls = n.0;
          ms = m.0;
          s = nothing;
          done = w.done ++ w.s ∷ [];
          noted = n.2;
          marked = open-more lists more marks m.0 m.2;
          telling = telling;
          finished = finished;
          stretches = append_assoc w.done (w.s ∷ []) (told A W G (drop 1 w.args) nothing m.0 n.0) ∙ s;
          hands = rw handed_is (append_assoc (downs_handed met) (d ∷ []) (param_downs A W G (drop 1 w.args) (downs_of m.0) n.0) ∙ h);
          terms = rw (m.1, n.1, zero-add) at w.terms;
          meet = rw (m.1, n.1) at w.meet;
          earlier = rw n.1 at w.earlier;
        }

    -- the end of a body ends the last stretch
    pub walk-end : (after_lists : Listed) (marks : List (Mark D)) (here : Here) (new : Outcome D) (w : Walks A W G ks lists key down [] marks here met)
        → AreTold after_lists (tolds new) (w.done ++ absorbed w.s w.ms ∷ []) → downs_handed new.handed ≡ downs_handed met
        → AreTold after_lists (tolds new) (cut A W (value_at G key.0) key.1 down) × (downs_handed new.handed ≡ handed A W (value_at G key.0) key.1 down)
    walk-end after_lists marks here new w finished handed_is =
        let n = note-none A G ks w.args w.ls w.noted in
        let s : w.done ++ (absorbed w.s w.ms ∷ []) ≡ cut A W (value_at G key.0) key.1 down = rw n at w.stretches in
        let h : downs_handed met ++ [] ≡ handed A W (value_at G key.0) key.1 down = rw n at w.hands in (
          rw s at finished,
          handed_is ∙ sym (append-nil (downs_handed met)) ∙ h,
        )
