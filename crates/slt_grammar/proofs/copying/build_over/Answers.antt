use Rattle.std.proofs.Common.{◌≡◌, ◌+◌, ◌-◌, ◌<◌, ◌≤◌, ◌∙◌, ◌∷◌, ℕ, suc, List, [], length, drop, set, ap, sym, subst, refl, slice_get, Some, arith, length-drop, inl, inr}
use Rattle.std.proofs.lemmas.List.{length-set}
use Rattle.std.proofs.lemmas.Bool.{eqb-true, eqb-false}
use Rattle.std.proofs.lemmas.Option.{slice_get_read}
use Rattle.rule_arena.specs.Preorder.{AreTerms}
use Rattle.rule_arena.proofs.PreorderLemmas.{AreTerms-one}
use Rattle.rule_arena.specs.Terms.{Node, Terms, kids_of, key_in}
use Rattle.rule_arena.specs.declared.key.Key.{Key}
use Rattle.slt_grammar.specs.Copying.{hole, holes_in}
use Rattle.slt_grammar.specs.Growing.{IsGrown}
use Rattle.slt_grammar.proofs.Copies.{grown-none, drop-before, drop-put, few-terms, taken, holes-left, all-built, more-follows, new-follows}
use Rattle.slt_grammar.proofs.Replacements.{keys_same}
use Rattle.slt_grammar.proofs.copying.build_over.Goals as goal

-- what stands before the node at i - 1 is taken
record Facts (S : List Node) (n : Node) (i left args stack top : ℕ) : Type 0 where
  pub there : slice_get S (i - 1) ≡ Some n
  pub behind : drop (i - 1) S ≡ n ∷ drop i S
  pub enough : top + n.kids ≤ stack
  pub some : hole n.label ≤ left
  pub most : left ≤ hole n.label + (i - 1)
  pub first : 1 ≤ top + n.kids

facts : (o b : Terms) (S : List Node) (args stack : List Key) (i left top : ℕ) (keys : List Key) (n d : Node)
    → IsGrown o b (drop i S) args left (drop top stack) keys → AreTerms kids_of 1 S → holes_in S ≡ length args → top ≤ length stack → length S ≤ length stack → 0 < i → i ≤ length S → slice_get S (i - 1) ≡ Some n
    → Facts S n i left (length args) (length stack) top
facts o b S args stack i left top keys n d G t h l m z w e =
    let s : suc (i - 1) ≡ i = omega arith in
    let u : n.kids ≤ length (drop top stack) = taken S (length (drop top stack)) (i - 1) n t e (subst (λ (j : ℕ). AreTerms kids_of (length (drop top stack)) (drop j S)) (sym s) G.terms) in
    let f = few-terms (length (drop top stack)) (drop i S) G.terms in
    let q = holes-left S i left (length args) n h G.used z e in
    record {
      there = e;
      behind = drop-before S i n z e;
      enough = omega (arith, u, length-drop top stack);
      some = q.0;
      most = q.1;
      first = omega (arith, f, length-drop top stack, length-drop i S);
    }

pub loop-i-init : goal.loop-i-init
loop-i-init c = record {
  grown = (
    [],
    grown-none c.args.arena.now c.args.args.now (length c.args.args.now) c.args.shapes.now c.args.stack.now (length c.args.shapes.now) (length c.args.stack.now) refl refl refl c.requires.roots c.requires.distinct,
    λ once. more-follows c.args.shapes.now c.args.follow,
  );
  top = omega arith;
  stack = refl;
  spare = omega arith;
  limit = refl;
}

pub grow-stand-requires-clause-enough : goal.grow-stand-requires-clause-enough
grow-stand-requires-clause-enough c =
    let I = c.loop-i.invariant in
    let e = slice_get_read c.args.shapes.now (length c.args.shapes.now) (c.loop-i.i - 1) c.index-shapes-i.result refl (omega (arith, c.loop-i-test.true, c.loop-i.auto.i)) c.index-shapes-i.is in
    (facts c.args.arena.now c.loop-i.arena c.args.shapes.now c.args.args.now c.loop-i.stack c.loop-i.i c.loop-i.left c.loop-i.top I.grown.0 c.index-shapes-i.result c.index-shapes-i.result I.grown.1 c.requires.term c.requires.linear I.top (omega (arith, I.stack, c.requires.stack)) c.loop-i-test.true c.loop-i.auto.i e).enough

pub grow-stand-requires-clause-grown : goal.grow-stand-requires-clause-grown
grow-stand-requires-clause-grown c = let I = c.loop-i.invariant in (c.args.arena.now, drop c.loop-i.i c.args.shapes.now, I.grown.0, I.grown.1)

pub grow-stand-requires-clause-some : goal.grow-stand-requires-clause-some
grow-stand-requires-clause-some c =
    let I = c.loop-i.invariant in
    let e = slice_get_read c.args.shapes.now (length c.args.shapes.now) (c.loop-i.i - 1) c.index-shapes-i.result refl (omega (arith, c.loop-i-test.true, c.loop-i.auto.i)) c.index-shapes-i.is in
    (facts c.args.arena.now c.loop-i.arena c.args.shapes.now c.args.args.now c.loop-i.stack c.loop-i.i c.loop-i.left c.loop-i.top I.grown.0 c.index-shapes-i.result c.index-shapes-i.result I.grown.1 c.requires.term c.requires.linear I.top (omega (arith, I.stack, c.requires.stack)) c.loop-i-test.true c.loop-i.auto.i e).some

pub grow-stand-requires-clause-room : goal.grow-stand-requires-clause-room
grow-stand-requires-clause-room c =
    let I = c.loop-i.invariant in
    let e = slice_get_read c.args.shapes.now (length c.args.shapes.now) (c.loop-i.i - 1) c.index-shapes-i.result refl (omega (arith, c.loop-i-test.true, c.loop-i.auto.i)) c.index-shapes-i.is in
    let F = facts c.args.arena.now c.loop-i.arena c.args.shapes.now c.args.args.now c.loop-i.stack c.loop-i.i c.loop-i.left c.loop-i.top I.grown.0 c.index-shapes-i.result c.index-shapes-i.result I.grown.1 c.requires.term c.requires.linear I.top (omega (arith, I.stack, c.requires.stack)) c.loop-i-test.true c.loop-i.auto.i e in
    omega (arith, F.most, I.spare, c.requires.room, c.loop-i-test.true, c.loop-i.auto.i)

pub overflow_sub-top : goal.overflow_sub-top
overflow_sub-top c =
    let I = c.loop-i.invariant in
    let e = slice_get_read c.args.shapes.now (length c.args.shapes.now) (c.loop-i.i - 1) c.index-shapes-i.result refl (omega (arith, c.loop-i-test.true, c.loop-i.auto.i)) c.index-shapes-i.is in
    let F = facts c.args.arena.now c.loop-i.arena c.args.shapes.now c.args.args.now c.loop-i.stack c.loop-i.i c.loop-i.left c.loop-i.top I.grown.0 c.index-shapes-i.result c.index-shapes-i.result I.grown.1 c.requires.term c.requires.linear I.top (omega (arith, I.stack, c.requires.stack)) c.loop-i-test.true c.loop-i.auto.i e in
    omega (arith, F.first, c.grow-stand.ensures.top)

pub bounds-stack-top : goal.bounds-stack-top
bounds-stack-top c =
    let I = c.loop-i.invariant in
    let e = slice_get_read c.args.shapes.now (length c.args.shapes.now) (c.loop-i.i - 1) c.index-shapes-i.result refl (omega (arith, c.loop-i-test.true, c.loop-i.auto.i)) c.index-shapes-i.is in
    let F = facts c.args.arena.now c.loop-i.arena c.args.shapes.now c.args.args.now c.loop-i.stack c.loop-i.i c.loop-i.left c.loop-i.top I.grown.0 c.index-shapes-i.result c.index-shapes-i.result I.grown.1 c.requires.term c.requires.linear I.top (omega (arith, I.stack, c.requires.stack)) c.loop-i-test.true c.loop-i.auto.i e in
    omega (arith, F.first, F.enough, c.grow-stand.ensures.top)

-- the stack with the new root
pushed : (o b : Terms) (S : List Node) (n : Node) (args stack : List Key) (i left t : ℕ) (keys : List Key) (root : Key)
    → IsGrown o b (n ∷ drop i S) args left (root ∷ drop t stack) (root ∷ keys) → drop (i - 1) S ≡ n ∷ drop i S → 1 ≤ t → t ≤ length stack
    → IsGrown o b (drop (i - 1) S) args left (drop (t - 1) (set stack (t - 1) root)) (root ∷ keys)
pushed o b S n args stack i left t keys root G e h l =
    let s : t - 1 + 1 ≡ t = omega arith in
    let d : drop (t - 1) (set stack (t - 1) root) ≡ root ∷ drop t stack = drop-put stack (t - 1) root (omega arith) ∙ ap (λ (m : ℕ). root ∷ drop m stack) s in
    subst (λ (ks : List Key). IsGrown o b (drop (i - 1) S) args left ks (root ∷ keys)) (sym d)
    (subst (λ (ms : List Node). IsGrown o b ms args left (root ∷ drop t stack) (root ∷ keys)) (sym e) G)

pub loop-i-preserved-then-eq : goal.loop-i-preserved-then-eq
loop-i-preserved-then-eq c =
    let I = c.loop-i.invariant in
    let e = slice_get_read c.args.shapes.now (length c.args.shapes.now) (c.loop-i.i - 1) c.index-shapes-i.result refl (omega (arith, c.loop-i-test.true, c.loop-i.auto.i)) c.index-shapes-i.is in
    let F = facts c.args.arena.now c.loop-i.arena c.args.shapes.now c.args.args.now c.loop-i.stack c.loop-i.i c.loop-i.left c.loop-i.top I.grown.0 c.index-shapes-i.result c.index-shapes-i.result I.grown.1 c.requires.term c.requires.linear I.top (omega (arith, I.stack, c.requires.stack)) c.loop-i-test.true c.loop-i.auto.i e in
    let G = c.grow-stand.ensures.grown c.args.arena.now (drop c.loop-i.i c.args.shapes.now) I.grown.0 I.grown.1 in
    let same : c.index-shapes-i.result.key ≡ c.args.follow = sym (ap (λ (n : Node). n.key) c.shape.view_is) ∙ keys_same c.shape.inside.key c.args.follow (eqb-true _ _ (sym c.eq.ensures ∙ c.if-eq.true)) in
    record {
      grown = (
        c.grow-stand.result.root ∷ I.grown.0,
        pushed c.args.arena.now c.grow-stand.new.arena c.args.shapes.now c.index-shapes-i.result c.args.args.now c.loop-i.stack c.loop-i.i c.grow-stand.result.left c.grow-stand.result.top I.grown.0 c.grow-stand.result.root G F.behind
            (omega (arith, F.first, c.grow-stand.ensures.top)) (omega (arith, F.enough, c.grow-stand.ensures.top)),
        λ once. new-follows c.args.shapes.now c.loop-i.i c.index-shapes-i.result c.args.follow c.loop-i.followed c.grow-stand.result.root I.grown.0 c.loop-i-test.true e once (I.grown.2 once) c.grow-stand.result.root
            (λ _. refl) (λ m. absurd (m same)) (inl same),
      );
      top = omega (arith, F.enough, c.grow-stand.ensures.top, length-set c.loop-i.stack (c.grow-stand.result.top - 1) c.grow-stand.result.root);
      stack = length-set c.loop-i.stack (c.grow-stand.result.top - 1) c.grow-stand.result.root ∙ I.stack;
      spare = omega (arith, I.spare, c.grow-stand.ensures.spare, c.loop-i-test.true, c.loop-i.auto.i);
      limit = c.grow-stand.ensures.limit ∙ I.limit;
    }

pub loop-i-preserved : goal.loop-i-preserved
loop-i-preserved c =
    let I = c.loop-i.invariant in
    let e = slice_get_read c.args.shapes.now (length c.args.shapes.now) (c.loop-i.i - 1) c.index-shapes-i.result refl (omega (arith, c.loop-i-test.true, c.loop-i.auto.i)) c.index-shapes-i.is in
    let F = facts c.args.arena.now c.loop-i.arena c.args.shapes.now c.args.args.now c.loop-i.stack c.loop-i.i c.loop-i.left c.loop-i.top I.grown.0 c.index-shapes-i.result c.index-shapes-i.result I.grown.1 c.requires.term c.requires.linear I.top (omega (arith, I.stack, c.requires.stack)) c.loop-i-test.true c.loop-i.auto.i e in
    let G = c.grow-stand.ensures.grown c.args.arena.now (drop c.loop-i.i c.args.shapes.now) I.grown.0 I.grown.1 in
    let differ : c.index-shapes-i.result.key ≡ c.args.follow → ⊥ = λ m. eqb-false _ _ (sym c.eq.ensures ∙ c.if-eq.false) (ap (λ (x : Key). x.number) (ap (λ (n : Node). n.key) c.shape.view_is ∙ m)) in
    record {
      grown = (
        c.grow-stand.result.root ∷ I.grown.0,
        pushed c.args.arena.now c.grow-stand.new.arena c.args.shapes.now c.index-shapes-i.result c.args.args.now c.loop-i.stack c.loop-i.i c.grow-stand.result.left c.grow-stand.result.top I.grown.0 c.grow-stand.result.root G F.behind
            (omega (arith, F.first, c.grow-stand.ensures.top)) (omega (arith, F.enough, c.grow-stand.ensures.top)),
        λ once. new-follows c.args.shapes.now c.loop-i.i c.index-shapes-i.result c.args.follow c.loop-i.followed c.grow-stand.result.root I.grown.0 c.loop-i-test.true e once (I.grown.2 once) c.loop-i.followed
            (λ m. absurd (differ m)) (λ _. refl) (inr differ),
      );
      top = omega (arith, F.enough, c.grow-stand.ensures.top, length-set c.loop-i.stack (c.grow-stand.result.top - 1) c.grow-stand.result.root);
      stack = length-set c.loop-i.stack (c.grow-stand.result.top - 1) c.grow-stand.result.root ∙ I.stack;
      spare = omega (arith, I.spare, c.grow-stand.ensures.spare, c.loop-i-test.true, c.loop-i.auto.i);
      limit = c.grow-stand.ensures.limit ∙ I.limit;
    }

-- all nodes are built
whole : (o b : Terms) (S : List Node) (args stack : List Key) (i left top : ℕ) (keys : List Key) → IsGrown o b (drop i S) args left (drop top stack) keys → i ≡ 0 → IsGrown o b S args left (drop top stack) keys
whole o b S args stack i left top keys G z = subst (λ (j : ℕ). IsGrown o b (drop j S) args left (drop top stack) keys) z G

last : (o b : Terms) (S : List Node) (args stack : List Key) (left top : ℕ) (keys : List Key) → IsGrown o b S args left (drop top stack) keys → AreTerms kids_of 1 S → top < length stack
last o b S args stack left top keys G t =
    let one : length (drop top stack) ≡ 1 = AreTerms-one kids_of (length (drop top stack)) 1 S G.terms t in
    omega (arith, one, length-drop top stack)

pub bounds-stack-top-2 : goal.bounds-stack-top-2
bounds-stack-top-2 c =
    let I = c.loop-i.invariant in
    let z : c.loop-i.i ≡ 0 = omega (arith, c.loop-i-test.false) in
    last c.args.arena.now c.loop-i.arena c.args.shapes.now c.args.args.now c.loop-i.stack c.loop-i.left c.loop-i.top I.grown.0
    (whole c.args.arena.now c.loop-i.arena c.args.shapes.now c.args.args.now c.loop-i.stack c.loop-i.i c.loop-i.left c.loop-i.top I.grown.0 I.grown.1 z) c.requires.term

pub returns-clause-built : goal.returns-clause-built
returns-clause-built c =
    let I = c.loop-i.invariant in
    let z : c.loop-i.i ≡ 0 = omega (arith, c.loop-i-test.false) in
    let W = whole c.args.arena.now c.loop-i.arena c.args.shapes.now c.args.args.now c.loop-i.stack c.loop-i.i c.loop-i.left c.loop-i.top I.grown.0 I.grown.1 z in
    let l : c.loop-i.top < length c.loop-i.stack = last c.args.arena.now c.loop-i.arena c.args.shapes.now c.args.args.now c.loop-i.stack c.loop-i.left c.loop-i.top I.grown.0 W c.requires.term in
    all-built c.args.arena.now c.loop-i.arena c.args.shapes.now c.args.args.now c.loop-i.left c.loop-i.stack c.loop-i.top I.grown.0 c.index-stack-top.result c.args.follow c.loop-i.followed W c.requires.term c.requires.linear
    (slice_get_read c.loop-i.stack (length c.loop-i.stack) c.loop-i.top c.index-stack-top.result refl l c.index-stack-top.is)
    (λ once q h. I.grown.2 once q (ap (λ (j : ℕ). key_in (drop j c.args.shapes.now) q) z ∙ h))

pub returns-clause-spare : goal.returns-clause-spare
returns-clause-spare c =
    let I = c.loop-i.invariant in
    let z : c.loop-i.i ≡ 0 = omega (arith, c.loop-i-test.false) in
    let W = whole c.args.arena.now c.loop-i.arena c.args.shapes.now c.args.args.now c.loop-i.stack c.loop-i.i c.loop-i.left c.loop-i.top I.grown.0 I.grown.1 z in
    omega (arith, I.spare, W.used, c.requires.linear, z)
