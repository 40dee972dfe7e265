-- Bodies evaluated from their end, label by label.
use Rattle.std.proofs.Common.{◌≡◌, ℕ, zero, suc, ◌+◌, ◌-◌, ◌<◌, ◌≤◌, List, [], ◌∷◌, length, get_or, take, drop, refl, ap, sym, ◌∙◌, arith, get_or-drop, add-zero}
use Rattle.std.proofs.lemmas.List.{drop_more, take_more, take-append-drop, drop_all, drop-drop, get_or_default, take_all}
use Rattle.rule_runs.proofs.Lists.{one_item}
use Rattle.std.proofs.lemmas.Option.{slice_get-get_or}
use Rattle.rule_arena.specs.Preorder.{AreTerms}
use Rattle.rule_arena.specs.declared.label.Label.{Label}
use Rattle.rule_arena.specs.declared.label.Label.TheVariants.{Bottom, Symbol, Call, Param}
use Rattle.rule_arena.proofs.PreorderLemmas.{AreTerms-rest}
use Rattle.slt_grammar.specs.Bodies.{arity, params}
use Rattle.slt_grammar.specs.Algebras.{Algebra, apply, ranks_of, all_meanings}
use Rattle.slt_grammar.specs.Grammars.{IsGrammar, body_at, rank_at}
use Rattle.rule_runs.specs.Reached.{RuleStates, states_of, states_from, argument_states}
use Rattle.slt_grammar.specs.declared.rules.Rule.{Rule}
use Rattle.slt_grammar.proofs.Meanings.{meanings-whole, params-append}
use Rattle.slt_grammar.proofs.RuleMeanings.{memo-at, call-earlier}
use Rattle.rule_runs.specs.Risen.{IsPair, state_at}
use Rattle.rule_runs.specs.Frames.{IsEvaluated, Calls}
use Rattle.rule_runs.specs.Notes.{NoteIs, AreNotes}
use Rattle.rule_runs.specs.declared.notes.Note.{Note}
use Rattle.rule_runs.specs.declared.notes.Note.TheVariants.{Param as NoteParam}

-- what stands at a place of terms has its children behind it
pub terms-at : (ranks : List ℕ) (n i : ℕ) (ls : List Label) → AreTerms (arity ranks) n ls → i < length ls → (m : ℕ) × AreTerms (arity ranks) (arity ranks (get_or ls i Bottom) + m) (drop (i + 1) ls)
terms-at ranks n i ls t h =
    let s = AreTerms-rest (arity ranks) n (take i ls) (drop i ls) (rw (take-append-drop i ls) t) in
    from s.0 s.1
  where
    first : (m : ℕ) → AreTerms (arity ranks) m (get_or ls i Bottom ∷ drop (i + 1) ls) → (k : ℕ) × AreTerms (arity ranks) (arity ranks (get_or ls i Bottom) + k) (drop (i + 1) ls)
    first zero u = absurd u
    first (suc k) u = (k, u)

    from : (m : ℕ) → AreTerms (arity ranks) m (drop i ls) → (k : ℕ) × AreTerms (arity ranks) (arity ranks (get_or ls i Bottom) + k) (drop (i + 1) ls)
    from m u = first m (rw (drop_more ls i Bottom h) at u)

pub params-take : (i : ℕ) (body : List Label) → params (take i body) ≤ params body
params-take i body = omega (arith, params-append (take i body) (drop i body), ap params (take-append-drop i body))

module _ {S : Type 0} (A : Algebra S) (G : List Rule) where
  -- one place further to the front
  states-param : (i j : ℕ) (args : List S) (body : List Label) → i ≡ j + 1 → j < length body → get_or body j Bottom ≡ Param
      → (states_from A G j args body ≡ get_or args (params (take j body)) A.bottom ∷ states_from A G i args body) × (params (take i body) ≡ params (take j body) + 1)
  states-param i j args body e h p =
      let k : ℕ = params (take j body) in
      let n : params (take i body) ≡ k + 1 = rw (e, take_more body j Bottom h, params-append (take j body) (get_or body j Bottom ∷ []), p) refl in
      let d : drop j body ≡ Param ∷ drop i body = rw (e, ← p) (drop_more body j Bottom h) in
      let a : get_or (drop k args) 0 A.bottom ≡ get_or args k A.bottom = rw (get_or-drop k args 0 A.bottom, add-zero k) refl in
      let r : drop 1 (drop k args) ≡ drop (k + 1) args = drop-drop 1 k args in
      (rw (d, n) (rw (a, r) refl), n)

  other-label : (args : List S) (l : Label) (ls : List Label) → (l ≡ Param → ⊥)
      → (states_of A G args (l ∷ ls) ≡ apply A (all_meanings A G) l (take (arity (ranks_of G) l) (states_of A G args ls)) ∷ drop (arity (ranks_of G) l) (states_of A G args ls)) × (params (l ∷ []) ≡ 0)
  other-label args Bottom ls n = (refl, refl)
  other-label args (Symbol f) ls n = (refl, refl)
  other-label args (Call q) ls n = (refl, refl)
  other-label args Param ls n = absurd (n refl)

  states-other : (i j : ℕ) (args : List S) (body : List Label) → i ≡ j + 1 → j < length body → (get_or body j Bottom ≡ Param → ⊥)
      → (states_from A G j args body ≡ apply A (all_meanings A G) (get_or body j Bottom) (take (arity (ranks_of G) (get_or body j Bottom)) (states_from A G i args body)) ∷ drop (arity (ranks_of G) (get_or body j Bottom)) (states_from A G i args body))
      × (params (take i body) ≡ params (take j body))
  states-other i j args body e h p =
      let l : Label = get_or body j Bottom in
      let k : ℕ = params (take j body) in
      let o = other-label (drop k args) l (drop i body) p in
      let n : params (take i body) ≡ k = rw (e, take_more body j Bottom h, params-append (take j body) (l ∷ []), o.1, add-zero k) refl in
      let d : drop j body ≡ l ∷ drop i body = rw e (drop_more body j Bottom h) in
      (rw (d, n) o.0, n)

by_label : {S : Type 0} (A : Algebra S) (G : List Rule) (ks : List (RuleStates S)) (args : List S) (l : Label) (ls : List Label) (n : Note S) (ns : List (Note S)) → (l ≡ Param → ⊥)
    → NoteIs A G ks l (states_of A G args ls) n → AreNotes A G ks args ls ns → AreNotes A G ks args (l ∷ ls) (n ∷ ns)
by_label A G ks args Bottom ls n ns real note noted = (note, noted)
by_label A G ks args (Symbol f) ls n ns real note noted = (note, noted)
by_label A G ks args (Call q) ls n ns real note noted = (note, noted)
by_label A G ks args Param ls n ns real note noted = absurd (real refl)

module _ {S : Type 0} (A : Algebra S) (G : List Rule) (g : IsGrammar G) (k : RuleStates S) (pair : IsPair G k) (body : List Label) (is_body : body ≡ body_at G k.0) where
  module _ (left waiting : ℕ) (states : List S) (ev : IsEvaluated A G k.1 body left waiting states) (more : 0 < left) where
    -- the label before the place
    pub label-is : (l : Label) → l ≡ get_or body (left - 1) l → get_or body (left - 1) Bottom ≡ l
    label-is l is = let w = ev.within in sym (is ∙ get_or_default body (left - 1) l Bottom (omega arith))

    -- a parameter is left
    pub param-left : (l : Label) → l ≡ get_or body (left - 1) l → l ≡ Param → (1 ≤ waiting) × (waiting - 1 < length k.1) × (waiting - 1 ≡ params (take (left - 1) body))
    param-left l is e =
        let w = ev.within in
        let st = states-param A G left (left - 1) k.1 body (omega arith) (omega arith) (label-is l is ∙ e) in
        let n : length k.1 ≡ params body = pair.args ∙ sym (g.each k.0 pair.there).linear ∙ ap params (sym is_body) in
        let v = ev.before in
        let t = params-take left body in
        (omega (arith, st.1), omega (arith, st.1), omega (arith, st.1))

    pub param-evaluated : (l : Label) (s : S) → l ≡ get_or body (left - 1) l → l ≡ Param → s ≡ get_or k.1 (waiting - 1) s → IsEvaluated A G k.1 body (left - 1) (waiting - 1) (s ∷ states)
    param-evaluated l s is e s-is =
        let w = ev.within in
        let st = states-param A G left (left - 1) k.1 body (omega arith) (omega arith) (label-is l is ∙ e) in
        let p = param-left l is e in
        let d : s ≡ get_or k.1 (params (take (left - 1) body)) A.bottom = s-is ∙ get_or_default k.1 (waiting - 1) s A.bottom p.1 ∙ ap (λ n. get_or k.1 n A.bottom) p.2 in
        record {
          are = ap (λ x. x ∷ states) d ∙ ap (λ xs. get_or k.1 (params (take (left - 1) body)) A.bottom ∷ xs) ev.are ∙ sym st.0;
          before = p.2;
          within = omega arith;
        }

    pub enough : (l : Label) → l ≡ get_or body (left - 1) l → arity (ranks_of G) l ≤ length states
    enough l is =
        let w = ev.within in
        let t = terms-at (ranks_of G) 1 (left - 1) body (rw is_body (g.each k.0 pair.there).shaped.term) (omega arith) in
        let e : left - 1 + 1 ≡ left = omega arith in
        let u : AreTerms (arity (ranks_of G)) (arity (ranks_of G) l + t.0) (drop left body) = rw (e, label-is l is) at t.1 in
        let m = meanings-whole A (ranks_of G) (all_meanings A G) (arity (ranks_of G) l + t.0) (drop (params (take left body)) k.1) (drop left body) [] u in
        omega (arith, m.1, ap length ev.are)

    other-step : (l : Label) → l ≡ get_or body (left - 1) l → (l ≡ Param → ⊥)
        → (states_from A G (left - 1) k.1 body ≡ apply A (all_meanings A G) l (take (arity (ranks_of G) l) states) ∷ drop (arity (ranks_of G) l) states) × (params (take left body) ≡ params (take (left - 1) body))
    other-step l is real =
        let w = ev.within in
        let st = states-other A G left (left - 1) k.1 body (omega arith) (omega arith) (λ h. real (sym (label-is l is) ∙ h)) in
        (rw (ev.are, ← label-is l is) st.0, st.1)

    pub other-evaluated : (l : Label) (new : List S) → l ≡ get_or body (left - 1) l → (l ≡ Param → ⊥)
        → new ≡ apply A (all_meanings A G) l (take (arity (ranks_of G) l) states) ∷ drop (arity (ranks_of G) l) states → IsEvaluated A G k.1 body (left - 1) waiting new
    other-evaluated l new is real done =
        let w = ev.within in
        let st = other-step l is real in
        record { are = done ∙ sym st.0; before = ev.before ∙ st.1; within = omega arith }

    -- the label is a call of a rule over the topmost states
    pub call-at : (l : Label) (q : ℕ) → l ≡ get_or body (left - 1) l → l ≡ Call q → Calls A G k (q, take (rank_at G q) states)
    call-at l q is e =
        let w = ev.within in
        let there : get_or body (left - 1) Bottom ≡ Call q = label-is l is ∙ e in
        let s : suc (left - 1) ≡ left = omega arith in
        record {
          place = left - 1;
          is = rw (← is_body, ← there) (slice_get-get_or body (left - 1) Bottom (omega arith));
          states = rw (s, ← is_body, ← ev.are) refl;
        }

    pub call-states : (l : Label) (q : ℕ) → l ≡ get_or body (left - 1) l → l ≡ Call q → take (rank_at G q) states ≡ argument_states A G q k.1 (body_at G k.0) (left - 1)
    call-states l q is e =
        let w = ev.within in
        let s : suc (left - 1) ≡ left = omega arith in
        rw (s, ← is_body, ← ev.are) refl

    pub call-before : (l : Label) (q : ℕ) → l ≡ get_or body (left - 1) l → l ≡ Call q → q < k.0
    call-before l q is e = call-earlier k.0 (left - 1) q body (rw is_body (g.each k.0 pair.there).earlier) (label-is l is ∙ e)

    rest-is : drop (left - 1) body ≡ get_or body (left - 1) Bottom ∷ drop left body
    rest-is =
        let w = ev.within in
        let e : left - 1 + 1 ≡ left = omega arith in
        rw e at (drop_more body (left - 1) Bottom (omega arith))

    -- the notes of the labels from one place further to the front
    pub notes-param : (ks : List (RuleStates S)) (l : Label) (ns : List (Note S)) → l ≡ get_or body (left - 1) l → l ≡ Param
        → AreNotes A G ks (drop (params (take left body)) k.1) (drop left body) ns → AreNotes A G ks (drop (params (take (left - 1) body)) k.1) (drop (left - 1) body) (NoteParam ∷ ns)
    notes-param ks l ns is e noted =
        let w = ev.within in
        let st = states-param A G left (left - 1) k.1 body (omega arith) (omega arith) (label-is l is ∙ e) in
        rw (rest-is, label-is l is, e, drop-drop 1 (params (take (left - 1) body)) k.1, ← st.1) (refl, noted)

    pub notes-other : (ks : List (RuleStates S)) (l : Label) (n : Note S) (ns : List (Note S)) → l ≡ get_or body (left - 1) l → (l ≡ Param → ⊥) → NoteIs A G ks l states n
        → AreNotes A G ks (drop (params (take left body)) k.1) (drop left body) ns → AreNotes A G ks (drop (params (take (left - 1) body)) k.1) (drop (left - 1) body) (n ∷ ns)
    notes-other ks l n ns is real note noted =
        let st = other-step l is real in
        rw (rest-is, label-is l is, ← st.1) (by_label A G ks (drop (params (take left body)) k.1) l (drop left body) n ns real (rw ev.are at note) noted)

  -- nothing is evaluated yet
  pub evaluated-start : (left waiting : ℕ) (states : List S) → left ≡ length body → waiting ≡ length k.1 → states ≡ [] → IsEvaluated A G k.1 body left waiting states
  evaluated-start left waiting states l w s = record {
    are = rw (s, l, drop_all (length body) body (omega arith)) refl;
    before = rw (l, take_all (length body) body (omega arith)) (w ∙ pair.args ∙ sym (g.each k.0 pair.there).linear ∙ ap params (sym is_body));
    within = omega (arith, l);
  }

  -- a body that was evaluated to its root has one state
  pub root-states : (waiting : ℕ) (states : List S) → IsEvaluated A G k.1 body 0 waiting states → states ≡ state_at A G k ∷ []
  root-states waiting states ev =
      let m = memo-at A G g k.0 pair.there k.1 in
      let b : states ≡ states_of A G k.1 (body_at G k.0) = rw (← is_body) ev.are in
      let n = meanings-whole A (ranks_of G) (all_meanings A G) 1 k.1 (body_at G k.0) [] (g.each k.0 pair.there).shaped.term in
      b ∙ one_item (states_of A G k.1 (body_at G k.0)) A.bottom n.1 ∙ ap (λ s. s ∷ []) (sym m)
