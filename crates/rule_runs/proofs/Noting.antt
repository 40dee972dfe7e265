-- Notes of bodies that a run upward is in the middle of.
use Rattle.std.proofs.Common.{◌≡◌, ◌≢◌, ℕ, suc, ◌+◌, ◌-◌, ◌<◌, ◌≤◌, List, [], ◌∷◌, ◌++◌, length, get_or, take, drop, Some, slice_get, refl, sym, ap, ◌∙◌, arith, subst}
use Rattle.std.proofs.lemmas.List.{drop_all, drop_more, take_more, take-append-le}
use Rattle.std.proofs.lemmas.Option.{slice_get-get_or}
use Rattle.rule_arena.specs.declared.label.Label.{Label}
use Rattle.rule_arena.specs.declared.label.Label.TheVariants.{Bottom, Symbol, Call, Param}
use Rattle.rule_arena.proofs.PreorderLemmas.{slice_get-left}
use Rattle.slt_grammar.specs.Bodies.{arity, params}
use Rattle.slt_grammar.specs.Algebras.{Algebra, ranks_of}
use Rattle.slt_grammar.specs.Grammars.{IsGrammar, body_at, rank_at}
use Rattle.slt_grammar.proofs.Meanings.{params-append}
use Rattle.slt_grammar.specs.declared.rules.Rule.{Rule}
use Rattle.slt_grammar.proofs.RuleMeanings.{rank_at-ranks_of}
use Rattle.rule_runs.specs.Reached.{RuleStates, states_of}
use Rattle.rule_runs.specs.declared.frame.Frame.{Frame}
use Rattle.rule_runs.specs.declared.notes.Note.{Note}
use Rattle.rule_runs.specs.declared.notes.Note.TheVariants.{Bottom as NoteBottom, Param as NoteParam, Symbol as NoteSymbol, Call as NoteCall}
use Rattle.rule_runs.specs.Entries.{key_of}
use Rattle.rule_runs.specs.Frames.{Stands, Asks, IsNotedTo, AreNoting, own}
use Rattle.rule_runs.specs.Notes.{NoteIs, AreNotes, AreNotesFrom}
use Rattle.rule_runs.specs.declared.memo.Pair.{Pair}
use Rattle.rule_runs.proofs.Lists.{slice_get-at}
use Rattle.rule_runs.proofs.Frames.{frame-label, frame-call}
use Rattle.rule_runs.proofs.Evaluation as evaluation

module _ {S : Type 0} (A : Algebra S) (G : List Rule) (ks more : List (RuleStates S)) where
  -- the notes of labels are the same over a table with more pairs
  note-more : (l : Label) (states : List S) (n : Note S) → NoteIs A G ks l states n → NoteIs A G (ks ++ more) l states n
  note-more Bottom states NoteBottom h = h
  note-more Bottom states NoteParam h = absurd h
  note-more Bottom states (NoteSymbol f x y) h = absurd h
  note-more Bottom states (NoteCall i) h = absurd h
  note-more (Symbol f) states NoteBottom h = absurd h
  note-more (Symbol f) states NoteParam h = absurd h
  note-more (Symbol f) states (NoteSymbol g x y) h = h
  note-more (Symbol f) states (NoteCall i) h = absurd h
  note-more (Call q) states NoteBottom h = absurd h
  note-more (Call q) states NoteParam h = absurd h
  note-more (Call q) states (NoteSymbol g x y) h = absurd h
  note-more (Call q) states (NoteCall i) h =
      let k : RuleStates S = (q, take (get_or (ranks_of G) q 0) states) in
      slice_get-left ks more i (slice_get-at ks i k k h).0 ∙ h
  note-more Param states n h = absurd h

  pub notes-more : (args : List S) (ls : List Label) (ns : List (Note S)) → AreNotes A G ks args ls ns → AreNotes A G (ks ++ more) args ls ns
  notes-more args [] [] h = h
  notes-more args [] (n ∷ ns) h = absurd h
  notes-more args (l ∷ ls) [] h = absurd h
  notes-more args (Param ∷ ls) (n ∷ ns) h = (h.0, notes-more (drop 1 args) ls ns h.1)
  notes-more args (Bottom ∷ ls) (n ∷ ns) h = (note-more Bottom (states_of A G args ls) n h.0, notes-more args ls ns h.1)
  notes-more args (Symbol f ∷ ls) (n ∷ ns) h = (note-more (Symbol f) (states_of A G args ls) n h.0, notes-more args ls ns h.1)
  notes-more args (Call q ∷ ls) (n ∷ ns) h = (note-more (Call q) (states_of A G args ls) n h.0, notes-more args ls ns h.1)

  noted_to-more : (f : Frame S) (k : RuleStates S) (ns : List (Note S)) → IsNotedTo A G ks f k ns → IsNotedTo A G (ks ++ more) f k ns
  noted_to-more f k ns h = record { call = h.call; states = h.states; noted = notes-more _ _ ns h.noted }

  pub noting-more : (k : RuleStates S) (gs : List (Frame S)) (below : List (List (Note S))) → AreNoting A G ks k gs below → AreNoting A G (ks ++ more) k gs below
  noting-more k [] below h = tt
  noting-more k (g ∷ gs) below h = (noted_to-more g k (get_or below 0 []) h.0, noting-more (key_of g.pair) gs (drop 1 below) h.1)

module _ {S : Type 0} (A : Algebra S) (G : List Rule) (ks : List (RuleStates S)) where
  -- behind a body there is nothing to note
  pub notes-end : (args : List S) (body : List Label) (place : ℕ) → place ≡ length body → AreNotesFrom A G ks place args body []
  notes-end args body place e = rw (e, drop_all (length body) body (omega arith)) tt

two-front : {S : Type 0} (xs ys : List S) (b : S) → 2 ≤ length xs → (get_or (xs ++ ys) 0 b ≡ get_or xs 0 b) × (get_or (xs ++ ys) 1 b ≡ get_or xs 1 b)
two-front [] ys b h = absurd (omega arith)
two-front (x ∷ []) ys b h = absurd (omega arith)
two-front (x ∷ y ∷ xs) ys b h = (refl, refl)

module _ {S : Type 0} (A : Algebra S) (G : List Rule) (ks : List (RuleStates S)) where
  -- the note of a label is told by the topmost states
  note-front : (l : Label) (xs ys : List S) (n : Note S) → arity (ranks_of G) l ≤ length xs → NoteIs A G ks l (xs ++ ys) n → NoteIs A G ks l xs n
  note-front Bottom xs ys NoteBottom e h = h
  note-front Bottom xs ys NoteParam e h = absurd h
  note-front Bottom xs ys (NoteSymbol f x y) e h = absurd h
  note-front Bottom xs ys (NoteCall i) e h = absurd h
  note-front (Symbol f) xs ys NoteBottom e h = absurd h
  note-front (Symbol f) xs ys NoteParam e h = absurd h
  note-front (Symbol f) xs ys (NoteSymbol g x y) e h = let t = two-front xs ys A.bottom e in (h.0, h.1 ∙ t.0, h.2 ∙ t.1)
  note-front (Symbol f) xs ys (NoteCall i) e h = absurd h
  note-front (Call q) xs ys NoteBottom e h = absurd h
  note-front (Call q) xs ys NoteParam e h = absurd h
  note-front (Call q) xs ys (NoteSymbol g x y) e h = absurd h
  note-front (Call q) xs ys (NoteCall i) e h = h ∙ ap (λ ss. Some (q, ss)) (take-append-le (get_or (ranks_of G) q 0) xs ys e)
  note-front Param xs ys n e h = absurd h

-- a body that is evaluated is noted, one place further to the front
module _ {S : Type 0} (A : Algebra S) (G : List Rule) (g : IsGrammar G) (f : Frame S) (stands : Stands A G f) (more : 0 < f.left) (ks : List (RuleStates S)) (l : Label) (is : l ≡ get_or (body_at G f.pair.rule) (f.left - 1) l) (ns : List (Note S))
    (noted : AreNotesFrom A G ks f.left f.pair.states.items (body_at G f.pair.rule) ns) where
  pub frame-param : l ≡ Param → AreNotesFrom A G ks (f.left - 1) f.pair.states.items (body_at G f.pair.rule) (NoteParam ∷ ns)
  frame-param e = evaluation.notes-param A G g (key_of f.pair) stands.pair (body_at G f.pair.rule) refl f.left f.waiting (own A G f) stands.evaluated more ks l ns is e noted

  pub frame-other : (states others : List S) (n : Note S) → l ≢ Param → states ≡ own A G f ++ others → NoteIs A G ks l states n → AreNotesFrom A G ks (f.left - 1) f.pair.states.items (body_at G f.pair.rule) (n ∷ ns)
  frame-other states others n real on_top note =
      let e = evaluation.enough A G g (key_of f.pair) stands.pair (body_at G f.pair.rule) refl f.left f.waiting (own A G f) stands.evaluated more l is in
      let own_note : NoteIs A G ks l (own A G f) n = note-front A G ks l (own A G f) others n e (subst (λ ss. NoteIs A G ks l ss n) on_top note) in
      evaluation.notes-other A G g (key_of f.pair) stands.pair (body_at G f.pair.rule) refl f.left f.waiting (own A G f) stands.evaluated more ks l n ns is real own_note noted

  -- it stops before a call whose state is not known
  pub frame-noted_to : (pair : Pair S) (rest : List S) → Asks G l (own A G f) pair rest → IsNotedTo A G ks (record { pair = f.pair; left = f.left - 1; waiting = f.waiting }) (key_of pair) ns
  frame-noted_to pair rest asks =
      let body = body_at G f.pair.rule in
      let w = stands.evaluated.within in
      let k : suc (f.left - 1) ≡ f.left = omega arith in
      record {
        call = slice_get-get_or body (f.left - 1) Bottom (omega arith) ∙ ap (λ x. Some x) (frame-label A G g f stands more l is ∙ asks.is);
        states = asks.states ∙ frame-call A G g f stands more l pair.rule is asks.is;
        noted = subst (λ n. AreNotesFrom A G ks n f.pair.states.items body ns) (sym k) noted;
      }

-- the call that a body waited for is noted
module _ {S : Type 0} (A : Algebra S) (G : List Rule) (ks : List (RuleStates S)) (f : Frame S) (k : RuleStates S) (ns : List (Note S)) (to : IsNotedTo A G ks f k ns) (place : ℕ) (there : slice_get ks place ≡ Some k) where
  pub noted-call : AreNotesFrom A G ks f.left f.pair.states.items (body_at G f.pair.rule) (NoteCall place ∷ ns)
  noted-call =
      let body = body_at G f.pair.rule in
      let args = f.pair.states.items in
      let at = slice_get-at body f.left (Call k.0) Bottom to.call in
      let n : suc f.left ≡ f.left + 1 = omega arith in
      let p : params (take (suc f.left) body) ≡ params (take f.left body) = rw (n, take_more body f.left Bottom at.0, params-append (take f.left body) (get_or body f.left Bottom ∷ []), at.1) (omega arith) in
      let d : drop f.left body ≡ Call k.0 ∷ drop (suc f.left) body = drop_more body f.left Bottom at.0 ∙ ap (λ x. x ∷ drop (f.left + 1) body) at.1 ∙ ap (λ m. Call k.0 ∷ drop m body) (sym n) in
      let states : List S = states_of A G (drop (params (take f.left body)) args) (drop (suc f.left) body) in
      let s : k.1 ≡ take (get_or (ranks_of G) k.0 0) states = to.states ∙ ap (λ m. take (rank_at G k.0) (states_of A G (drop m args) (drop (suc f.left) body))) p ∙ ap (λ m. take m states) (sym (rank_at-ranks_of G k.0)) in
      let noted : AreNotes A G ks (drop (params (take f.left body)) args) (drop (suc f.left) body) ns = subst (λ m. AreNotes A G ks (drop m args) (drop (suc f.left) body) ns) p to.noted in
      subst (λ ls. AreNotes A G ks (drop (params (take f.left body)) args) ls (NoteCall place ∷ ns)) (sym d) (there ∙ ap (λ ss. Some (k.0, ss)) s, noted)

-- the pair of a call that is noted is known
pub note-known : {S : Type 0} (A : Algebra S) (G : List Rule) (ks : List (RuleStates S)) (q : ℕ) (states : List S) (n : Note S) → NoteIs A G ks (Call q) states n → (i : ℕ) × (slice_get ks i ≡ Some (q, take (rank_at G q) states))
note-known A G ks q states NoteBottom h = absurd h
note-known A G ks q states NoteParam h = absurd h
note-known A G ks q states (NoteSymbol f x y) h = absurd h
note-known A G ks q states (NoteCall i) h = (i, h ∙ ap (λ m. Some (q, take m states)) (rank_at-ranks_of G q))
