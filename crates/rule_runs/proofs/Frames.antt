-- Frames, label by label.
use Rattle.rule_runs.proofs.Closing.{known-front, known-stops}
use Rattle.rule_runs.specs.Reached.{RuleStates, argument_states}
use Rattle.std.proofs.Common.{◌≡◌, ◌≢◌, ℕ, suc, ◌-◌, ◌<◌, ◌≤◌, List, [], ◌∷◌, ◌++◌, length, take, drop, reverse, refl, sym, ap, ◌∙◌, arith, vec_len, Vec, Global, get_or, subst}
use Rattle.std.proofs.lemmas.List.{length-reverse, length-append, take-append-le, drop-append-le, get_or_default, reverse-append, take_all}
use Rattle.rule_arena.specs.declared.label.Label.{Label}
use Rattle.rule_arena.specs.declared.label.Label.TheVariants.{Call, Param, Bottom}
use Rattle.slt_grammar.specs.Bodies.{arity}
use Rattle.slt_grammar.specs.Algebras.{Algebra, apply, ranks_of, all_meanings}
use Rattle.slt_grammar.specs.Grammars.{IsGrammar, rank_at, body_at}
use Rattle.slt_grammar.specs.declared.rules.Rule.{Rule}
use Rattle.slt_grammar.proofs.RuleMeanings.{rank_at-ranks_of}
use Rattle.rule_runs.specs.declared.memo.Pair.{Pair}
use Rattle.rule_runs.specs.declared.frame.Frame.{Frame}
use Rattle.rule_runs.specs.Entries.{key_of}
use Rattle.rule_runs.specs.Risen.{IsPair, state_at, IsKnown, AreKnown}
use Rattle.rule_runs.specs.Frames.{Stands, Asks, Waits, AreKnownBut, own, ahead, GivesWay, IsEvaluated}
use Rattle.rule_runs.proofs.Lists.{reverse-push, reverse-last, slice_get-at}
use Rattle.rule_runs.proofs.Evaluation as evaluation

-- nothing of a body that begins is evaluated, and all of its labels are left
module _ {S : Type 0} (G : List Rule) (g : IsGrammar G) (f : Frame S) (pair : IsPair G (key_of f.pair)) (whole : f.left ≡ length (body_at G f.pair.rule)) where
  pub begin-stands : (A : Algebra S) → f.waiting ≡ length f.pair.states.items → Stands A G f × (own A G f ≡ [])
  begin-stands A waits =
      let ev = evaluation.evaluated-start A G g (key_of f.pair) pair (body_at G f.pair.rule) refl f.left f.waiting [] whole waits refl in
      (record { pair = pair; evaluated = record { are = refl; before = ev.before; within = ev.within } }, sym ev.are)

  pub begin-labels : (labels more : List Label) → more ≡ labels ++ body_at G f.pair.rule → reverse more ≡ ahead G f ++ reverse labels
  begin-labels labels more appended =
      let all : take f.left (body_at G f.pair.rule) ≡ body_at G f.pair.rule = take_all f.left (body_at G f.pair.rule) (omega (arith, whole)) in
      ap reverse appended ∙ reverse-append labels (body_at G f.pair.rule) ∙ ap (λ ls. reverse ls ++ reverse labels) (sym all)

-- what is taken off of a frame's labels is its next one
module _ {S : Type 0} (G : List Rule) (f : Frame S) (more : 0 < f.left) (within : f.left ≤ length (body_at G f.pair.rule)) where
  last-label : (l : Label) → ahead G f ≡ get_or (body_at G f.pair.rule) (f.left - 1) l ∷ reverse (take (f.left - 1) (body_at G f.pair.rule))
  last-label l =
      let body = body_at G f.pair.rule in
      let k : f.left ≡ suc (f.left - 1) = omega arith in
      reverse-last body f.left (f.left - 1) (get_or body (f.left - 1) l) k within (get_or_default body (f.left - 1) l (get_or body (f.left - 1) l) (omega arith))

  pub label-next : (labels rest behind : List Label) (l : Label) → labels ≡ rest ++ l ∷ [] → reverse labels ≡ ahead G f ++ behind
      → (l ≡ get_or (body_at G f.pair.rule) (f.left - 1) l) × (reverse rest ≡ reverse (take (f.left - 1) (body_at G f.pair.rule)) ++ behind)
  label-next labels rest behind l popped on_top =
      let e : l ∷ reverse rest ≡ get_or (body_at G f.pair.rule) (f.left - 1) l ∷ (reverse (take (f.left - 1) (body_at G f.pair.rule)) ++ behind) =
      sym (ap reverse popped ∙ reverse-push rest l) ∙ on_top ∙ ap (λ ls. ls ++ behind) (last-label l) in
      (cc, cc)

  pub label-taken : (top before labels rest : List Label) (l : Label) → labels ≡ rest ++ l ∷ [] → GivesWay top (ahead G f) before (reverse labels)
      → GivesWay top (reverse (take (f.left - 1) (body_at G f.pair.rule))) before (reverse rest)
  label-taken top before labels rest l popped given = λ behind e. (label-next labels rest behind l popped (given behind e)).1

  pub label-there : (labels behind : List Label) → length labels ≡ 0 → reverse labels ≡ ahead G f ++ behind → ⊥
  label-there labels behind none on_top =
      let n : length (reverse labels) ≡ length (ahead G f ++ behind) = ap length on_top in
      let m : length (ahead G f) ≡ suc (length (reverse (take (f.left - 1) (body_at G f.pair.rule)))) = ap length (last-label Bottom) in
      absurd (omega (arith, n, m, length-reverse labels, length-append (ahead G f) behind))

module _ {S : Type 0} (A : Algebra S) (G : List Rule) (g : IsGrammar G) (f : Frame S) (stands : Stands A G f) (more : 0 < f.left) where
  -- a parameter is left
  pub param-left : (l : Label) → l ≡ get_or (body_at G f.pair.rule) (f.left - 1) l → l ≡ Param → (1 ≤ f.waiting) × (f.waiting - 1 < vec_len f.pair.states)
  param-left l is e =
      let p = evaluation.param-left A G g (key_of f.pair) stands.pair (body_at G f.pair.rule) refl f.left f.waiting (own A G f) stands.evaluated more l is e in
      (p.0, omega (arith, p.1, f.pair.states.ok.0))

  param-evaluated : (l : Label) (s : S) → l ≡ get_or (body_at G f.pair.rule) (f.left - 1) l → l ≡ Param → s ≡ get_or f.pair.states.items (f.waiting - 1) s
      → IsEvaluated A G f.pair.states.items (body_at G f.pair.rule) (f.left - 1) (f.waiting - 1) (s ∷ own A G f)
  param-evaluated l s is e s-is = evaluation.param-evaluated A G g (key_of f.pair) stands.pair (body_at G f.pair.rule) refl f.left f.waiting (own A G f) stands.evaluated more l s is e s-is

  pub param-stands : (l : Label) (s : S) → l ≡ get_or (body_at G f.pair.rule) (f.left - 1) l → l ≡ Param → s ≡ get_or f.pair.states.items (f.waiting - 1) s
      → Stands A G (record { pair = f.pair; left = f.left - 1; waiting = f.waiting - 1 })
  param-stands l s is e s-is =
      let ev = param-evaluated l s is e s-is in
      record { pair = stands.pair; evaluated = record { are = refl; before = ev.before; within = ev.within } }

  -- its state is on top of the others
  pub param-own : (l : Label) (s : S) (stack pushed others : List S) → l ≡ get_or (body_at G f.pair.rule) (f.left - 1) l → l ≡ Param → s ≡ get_or f.pair.states.items (f.waiting - 1) s
      → pushed ≡ stack ++ s ∷ [] → reverse stack ≡ own A G f ++ others → reverse pushed ≡ own A G (record { pair = f.pair; left = f.left - 1; waiting = f.waiting - 1 }) ++ others
  param-own l s stack pushed others is e s-is more on_top =
      ap reverse more ∙ reverse-push stack s ∙ ap (λ xs. s ∷ xs) on_top ∙ ap (λ xs. xs ++ others) (param-evaluated l s is e s-is).are

  own-enough : (l : Label) → l ≡ get_or (body_at G f.pair.rule) (f.left - 1) l → arity (ranks_of G) l ≤ length (own A G f)
  own-enough l is = evaluation.enough A G g (key_of f.pair) stands.pair (body_at G f.pair.rule) refl f.left f.waiting (own A G f) stands.evaluated more l is

  pub other-enough : (l : Label) (stack : Vec S Global) (others : List S) → l ≡ get_or (body_at G f.pair.rule) (f.left - 1) l → reverse stack.items ≡ own A G f ++ others → arity (ranks_of G) l ≤ vec_len stack
  other-enough l stack others is on_top = omega (arith, own-enough l is, ap length on_top, length-append (own A G f) others, length-reverse stack.items, stack.ok.0)

  -- the states of a node's children are the frame's own
  module _ (l : Label) (states others : List S) (is : l ≡ get_or (body_at G f.pair.rule) (f.left - 1) l) (on_top : states ≡ own A G f ++ others) where
    top-own : take (arity (ranks_of G) l) states ≡ take (arity (ranks_of G) l) (own A G f)
    top-own = ap (take (arity (ranks_of G) l)) on_top ∙ take-append-le (arity (ranks_of G) l) (own A G f) others (own-enough l is)

    rest-own : drop (arity (ranks_of G) l) states ≡ drop (arity (ranks_of G) l) (own A G f) ++ others
    rest-own = ap (drop (arity (ranks_of G) l)) on_top ∙ drop-append-le (arity (ranks_of G) l) (own A G f) others (own-enough l is)

    pub other-own : (after : List S) → l ≢ Param
        → after ≡ apply A (all_meanings A G) l (take (arity (ranks_of G) l) states) ∷ drop (arity (ranks_of G) l) states
        → after ≡ own A G (record { pair = f.pair; left = f.left - 1; waiting = f.waiting }) ++ others
    other-own after real done =
        let ev = evaluation.other-evaluated A G g (key_of f.pair) stands.pair (body_at G f.pair.rule) refl f.left f.waiting (own A G f) stands.evaluated more l _ is real refl in
        done ∙ ap (λ ss. apply A (all_meanings A G) l ss ∷ drop (arity (ranks_of G) l) states) top-own ∙ ap (λ ss. apply A (all_meanings A G) l (take (arity (ranks_of G) l) (own A G f)) ∷ ss) rest-own ∙ ap (λ ss. ss ++ others) ev.are

    -- a call asks for the pair of its rule over the frame's own states
    pub asks-own : (pair : Pair S) (rest : List S) → Asks G l states pair rest → Asks G l (own A G f) pair (drop (rank_at G pair.rule) (own A G f)) × (rest ≡ drop (rank_at G pair.rule) (own A G f) ++ others)
    asks-own pair rest asks =
        let n : arity (ranks_of G) l ≡ rank_at G pair.rule = ap (arity (ranks_of G)) asks.is ∙ rank_at-ranks_of G pair.rule in
        (record { is = asks.is; states = asks.states ∙ (rw n at top-own); others = refl; count = asks.count }, asks.others ∙ (rw n at rest-own))

    pub known-own : (known : List (RuleStates S × S)) (q : ℕ) → l ≡ Call q → IsKnown known (q, take (rank_at G q) states) → IsKnown known (q, take (rank_at G q) (own A G f))
    known-own known q e h =
        let n : arity (ranks_of G) l ≡ rank_at G q = ap (arity (ranks_of G)) e ∙ rank_at-ranks_of G q in
        subst (λ (ss : List S). IsKnown known (q, ss)) (rw n at top-own) h

  pub other-stands : (l : Label) → l ≡ get_or (body_at G f.pair.rule) (f.left - 1) l → l ≢ Param → Stands A G (record { pair = f.pair; left = f.left - 1; waiting = f.waiting })
  other-stands l is real =
      let ev = evaluation.other-evaluated A G g (key_of f.pair) stands.pair (body_at G f.pair.rule) refl f.left f.waiting (own A G f) stands.evaluated more l _ is real refl in
      record { pair = stands.pair; evaluated = record { are = refl; before = ev.before; within = ev.within } }

  pub call-there : (l : Label) (q : ℕ) → l ≡ get_or (body_at G f.pair.rule) (f.left - 1) l → l ≡ Call q → q < length G
  call-there l q is e =
      let b = evaluation.call-before A G g (key_of f.pair) stands.pair (body_at G f.pair.rule) refl f.left f.waiting (own A G f) stands.evaluated more l q is e in
      let t = stands.pair.there in
      omega arith

  -- where a call asks for a pair, its state is the topmost of those that the frame has next
  pub call-own : (l : Label) (pair : Pair S) (rest : List S) → l ≡ get_or (body_at G f.pair.rule) (f.left - 1) l → l ≢ Param → Asks G l (own A G f) pair rest
      → own A G (record { pair = f.pair; left = f.left - 1; waiting = f.waiting }) ≡ state_at A G (key_of pair) ∷ rest
  call-own l pair rest is real asks =
      let q : ℕ = pair.rule in
      let n : arity (ranks_of G) l ≡ rank_at G q = ap (arity (ranks_of G)) asks.is ∙ rank_at-ranks_of G q in
      let m : apply A (all_meanings A G) l (take (rank_at G q) (own A G f)) ≡ state_at A G (key_of pair) = ap (λ x. apply A (all_meanings A G) x (take (rank_at G q) (own A G f))) asks.is ∙ ap (λ ss. state_at A G (q, ss)) (sym asks.states) in
      let ev = evaluation.other-evaluated A G g (key_of f.pair) stands.pair (body_at G f.pair.rule) refl f.left f.waiting (own A G f) stands.evaluated more l (state_at A G (key_of pair) ∷ rest) is real
      (rw (n, m, asks.others) refl) in
      sym ev.are

  pub call-waits : (l : Label) (pair : Pair S) (rest : List S) → l ≡ get_or (body_at G f.pair.rule) (f.left - 1) l → l ≢ Param → Asks G l (own A G f) pair rest
      → Waits A G f pair (record { pair = f.pair; left = f.left - 1; waiting = f.waiting })
  call-waits l pair rest is real asks =
      let q : ℕ = pair.rule in
      let b = evaluation.call-before A G g (key_of f.pair) stands.pair (body_at G f.pair.rule) refl f.left f.waiting (own A G f) stands.evaluated more l q is asks.is in
      let t = stands.pair.there in
      let call = evaluation.call-at A G g (key_of f.pair) stands.pair (body_at G f.pair.rule) refl f.left f.waiting (own A G f) stands.evaluated more l q is asks.is in
      let o = call-own l pair rest is real asks in
      record {
        stands = other-stands l is real;
        expects = o ∙ ap (λ ss. state_at A G (key_of pair) ∷ ss) (sym (ap (drop 1) o));
        calls = record { place = call.place; is = call.is; states = asks.states ∙ call.states };
        earlier = b;
        there = record { there = omega arith; args = asks.count };
        fewer = omega arith;
      }

module _ {S : Type 0} (A : Algebra S) (G : List Rule) (g : IsGrammar G) (f : Frame S) (stands : Stands A G f) (more : 0 < f.left) where
  pub frame-label : (l : Label) → l ≡ get_or (body_at G f.pair.rule) (f.left - 1) l → get_or (body_at G f.pair.rule) (f.left - 1) Bottom ≡ l
  frame-label l is = evaluation.label-is A G g (key_of f.pair) stands.pair (body_at G f.pair.rule) refl f.left f.waiting (own A G f) stands.evaluated more l is

  pub frame-call : (l : Label) (q : ℕ) → l ≡ get_or (body_at G f.pair.rule) (f.left - 1) l → l ≡ Call q → take (rank_at G q) (own A G f) ≡ argument_states A G q f.pair.states.items (body_at G f.pair.rule) (f.left - 1)
  frame-call l q is e = evaluation.call-states A G g (key_of f.pair) stands.pair (body_at G f.pair.rule) refl f.left f.waiting (own A G f) stands.evaluated more l q is e

  pub frame-front : (known : List (RuleStates S × S)) (l : Label) → l ≡ get_or (body_at G f.pair.rule) (f.left - 1) l → AreKnown A G known (key_of f.pair) f.left
      → ((q : ℕ) → l ≡ Call q → IsKnown known (q, take (rank_at G q) (own A G f))) → AreKnown A G known (key_of f.pair) (f.left - 1)
  frame-front known l is h new = known-front A G known (key_of f.pair) f.left l more (frame-label l is) h (λ q e. subst (λ (ss : List S). IsKnown known (q, ss)) (frame-call l q is e) (new q e))

  pub frame-stops : (known : List (RuleStates S × S)) (l : Label) (pair : Pair S) (rest : List S) → l ≡ get_or (body_at G f.pair.rule) (f.left - 1) l → Asks G l (own A G f) pair rest → AreKnown A G known (key_of f.pair) f.left
      → AreKnownBut A G known (key_of f.pair) (f.left - 1) (key_of pair)
  frame-stops known l pair rest is asks h = known-stops A G known (key_of f.pair) f.left (key_of pair) more h (λ q e. at q (sym (frame-label l is) ∙ (slice_get-at (body_at G f.pair.rule) (f.left - 1) (Call q) Bottom e).1))
    where
      at : (q : ℕ) → l ≡ Call q → (q, argument_states A G q f.pair.states.items (body_at G f.pair.rule) (f.left - 1)) ≡ key_of pair
      at q c =
          let i = asks.is in
          let r : q ≡ pair.rule = cc in
          rw r (ap (λ (ss : List S). (pair.rule, ss)) (sym (asks.states ∙ frame-call l pair.rule is asks.is)))

-- a body that was evaluated to its root has one state of its own
module _ {S : Type 0} (A : Algebra S) (G : List Rule) (g : IsGrammar G) (f : Frame S) (stands : Stands A G f) (ended : f.left ≤ 0) where
  pub own-root : own A G f ≡ state_at A G (key_of f.pair) ∷ []
  own-root =
      let l : f.left ≡ 0 = omega arith in
      evaluation.root-states A G g (key_of f.pair) stands.pair (body_at G f.pair.rule) refl f.waiting (own A G f) (subst (λ (n : ℕ). IsEvaluated A G f.pair.states.items (body_at G f.pair.rule) n f.waiting (own A G f)) l stands.evaluated)

  pub root-taken : (s : S) (stack rest others : List S) → stack ≡ rest ++ s ∷ [] → reverse stack ≡ own A G f ++ others → (s ≡ state_at A G (key_of f.pair)) × (reverse rest ≡ others)
  root-taken s stack rest others popped on_top =
      let e : s ∷ reverse rest ≡ state_at A G (key_of f.pair) ∷ others = sym (ap reverse popped ∙ reverse-push rest s) ∙ on_top ∙ ap (λ xs. xs ++ others) own-root in
      (cc, cc)

  pub root-there : (stack others : List S) → length stack ≡ 0 → reverse stack ≡ own A G f ++ others → ⊥
  root-there stack others none on_top =
      let n : length (reverse stack) ≡ suc (length others) = ap length on_top ∙ ap (λ xs. length (xs ++ others)) own-root in
      absurd (omega (arith, n, none, length-reverse stack))

pub waits-since : {S : Type 0} (A : Algebra S) (G : List Rule) (f g : Frame S) (pair : Pair S) (new : Frame S) → Waits A G f pair new → f.pair ≡ g.pair → f.left ≤ g.left → Waits A G g pair new
waits-since A G f g pair new w e h = record {
  stands = w.stands;
  expects = w.expects;
  calls = rw (← e) w.calls;
  earlier = rw (← e) w.earlier;
  there = w.there;
  fewer = let k = w.fewer in omega arith;
}
