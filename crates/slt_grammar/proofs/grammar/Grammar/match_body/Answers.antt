use Rattle.std.proofs.Common.{◌≡◌, ◌≢◌, ◌+◌, ◌*◌, ◌≤◌, ◌∙◌, ℕ, List, Option, Some, None, true, false, length, refl, sym, ap, subst, arith}
use Rattle.std.specs.Option.{is_some}
use Rattle.rule_arena.specs.Preorder.{subterm}
use Rattle.rule_arena.specs.Terms.{Node, key_in, kids_of}
use Rattle.rule_arena.specs.declared.key.Key.{Key}
use Rattle.rule_arena.specs.declared.label.Label.TheVariants.{Param}
use Rattle.slt_grammar.specs.Algebras.{ranks_of}
use Rattle.slt_grammar.specs.Bodies.{arity}
use Rattle.slt_grammar.specs.Copying.{hole}
use Rattle.slt_grammar.specs.Keyed.{nodes_at, rules_of}
use Rattle.slt_grammar.specs.KeyedEdits.{Stands}
use Rattle.slt_grammar.proofs.Inlinings.{inside}
use Rattle.slt_grammar.proofs.KeyedLemmas.{key_at-within, nodes-are-term}
use Rattle.slt_grammar.proofs.MatchWalks.{Walk, walk-begins, walk-ends, walk-takes, walk-passes, walk-rests, walk-misses, stands-here, few-passed, few-found, few-holes, kids-are, hole-other, label-sound, label-same, told-other, told-same}
use Rattle.slt_grammar.proofs.grammar.Grammar.match_body.Goals as goal

is-none : (o : Option Key) → is_some o ≡ false → o ≡ None
is-none None e = refl
is-none (Some k) e = absurd (let z : true ≡ false = e in cc)

pub loop-next-init : goal.loop-next-init
loop-next-init g c = λ S.
    let K = c.limit-limit.ensures.keyed in (
      walk-begins (nodes_at c.args.self.now.rules c.args.rule) (nodes_at c.args.self.now.rules S.rule) S.place (Some c.root.result) c.args.at c.args.found.now (nodes-are-term c.args.self.now K c.args.rule c.requires.rule)
          (nodes-are-term c.args.self.now K S.rule (key_at-within c.args.self.now.rules S.rule S.place c.args.at S.there).0) S.there c.root.ensures c.requires.empty,
      omega arith,
    )

pub label-label-requires : goal.label-label-requires
label-label-requires g c =
    let S : Stands c.args.self.now.rules c.args.at = c.requires.there in
    let ms : List Node = nodes_at c.args.self.now.rules c.args.rule in
    let ns : List Node = nodes_at c.args.self.now.rules S.rule in
    let I : (V : Walk ms ns S.place (Some c.in-Some.node) c.loop-next.here c.loop-next.found) × (c.loop-next.steps ≤ c.args.steps.now + 4 * V.passed) =
    subst (λ (o : Option Key). (V : Walk ms ns S.place o c.loop-next.here c.loop-next.found) × (c.loop-next.steps ≤ c.args.steps.now + 4 * V.passed)) c.in-Some.is (c.loop-next.invariant S) in
    (c.args.rule, I.0.passed, I.0.at)

pub next_in_preorder-next-requires : goal.next_in_preorder-next-requires
next_in_preorder-next-requires g c =
    let S : Stands c.args.self.now.rules c.args.at = c.requires.there in
    let ms : List Node = nodes_at c.args.self.now.rules c.args.rule in
    let ns : List Node = nodes_at c.args.self.now.rules S.rule in
    let I : (V : Walk ms ns S.place (Some c.in-Some.node) c.loop-next.here c.loop-next.found) × (c.loop-next.steps ≤ c.args.steps.now + 4 * V.passed) =
    subst (λ (o : Option Key). (V : Walk ms ns S.place o c.loop-next.here c.loop-next.found) × (c.loop-next.steps ≤ c.args.steps.now + 4 * V.passed)) c.in-Some.is (c.loop-next.invariant S) in
    (c.args.rule, I.0.passed, I.0.at)

pub push-requires : goal.push-requires
push-requires g c =
    let S : Stands c.args.self.now.rules c.args.at = c.requires.there in
    let ms : List Node = nodes_at c.args.self.now.rules c.args.rule in
    let ns : List Node = nodes_at c.args.self.now.rules S.rule in
    let I : (V : Walk ms ns S.place (Some c.in-Some.node) c.loop-next.here c.loop-next.found) × (c.loop-next.steps ≤ c.args.steps.now + 4 * V.passed) =
    subst (λ (o : Option Key). (V : Walk ms ns S.place o c.loop-next.here c.loop-next.found) × (c.loop-next.steps ≤ c.args.steps.now + 4 * V.passed)) c.in-Some.is (c.loop-next.invariant S) in
    let b = c.label-label.ensures.node c.args.rule I.0.passed I.0.at in
    let m : Node = record { key = c.in-Some.node; label = c.label-label.result; kids = b.0 } in
    let w = inside ns S.place c.args.at S.there in
    let z : c.label-label.result ≡ Param = label-sound c.label-label.result Param (sym c.eq.ensures ∙ c.if-eq.true) in
    let f = few-found ms ns S.place c.in-Some.node c.loop-next.here c.loop-next.found I.0 (omega (arith, w)) m b.1 (ap hole z) in
    omega (arith, f, few-holes c.args.self.now c.limit-limit.ensures.keyed c.args.rule c.requires.rule)

pub next_past_term-requires : goal.next_past_term-requires
next_past_term-requires g c =
    let S : Stands c.args.self.now.rules c.args.at = c.requires.there in
    let ms : List Node = nodes_at c.args.self.now.rules c.args.rule in
    let ns : List Node = nodes_at c.args.self.now.rules S.rule in
    let I : (V : Walk ms ns S.place (Some c.in-Some.node) c.loop-next.here c.loop-next.found) × (c.loop-next.steps ≤ c.args.steps.now + 4 * V.passed) =
    subst (λ (o : Option Key). (V : Walk ms ns S.place o c.loop-next.here c.loop-next.found) × (c.loop-next.steps ≤ c.args.steps.now + 4 * V.passed)) c.in-Some.is (c.loop-next.invariant S) in
    let b = c.label-label.ensures.node c.args.rule I.0.passed I.0.at in
    let m : Node = record { key = c.in-Some.node; label = c.label-label.result; kids = b.0 } in
    let w = inside ns S.place c.args.at S.there in
    (S.rule, S.place + I.0.size, stands-here ms ns S.place c.in-Some.node c.loop-next.here c.loop-next.found I.0 (omega (arith, w)) m b.1)

pub loop-next-smaller-then-is_some : goal.loop-next-smaller-then-is_some
loop-next-smaller-then-is_some g c =
    let S : Stands c.args.self.now.rules c.args.at = c.requires.there in
    let ms : List Node = nodes_at c.args.self.now.rules c.args.rule in
    let ns : List Node = nodes_at c.args.self.now.rules S.rule in
    let I : (V : Walk ms ns S.place (Some c.in-Some.node) c.loop-next.here c.loop-next.found) × (c.loop-next.steps ≤ c.args.steps.now + 4 * V.passed) =
    subst (λ (o : Option Key). (V : Walk ms ns S.place o c.loop-next.here c.loop-next.found) × (c.loop-next.steps ≤ c.args.steps.now + 4 * V.passed)) c.in-Some.is (c.loop-next.invariant S) in
    let b = c.label-label.ensures.node c.args.rule I.0.passed I.0.at in
    let m : Node = record { key = c.in-Some.node; label = c.label-label.result; kids = b.0 } in
    let w = inside ns S.place c.args.at S.there in
    omega (arith, I.1, few-passed ms ns S.place c.in-Some.node c.loop-next.here c.loop-next.found I.0 (omega (arith, w)) m b.1, c.label-label.ensures.step, c.next_in_preorder-next.ensures.step, c.next_past_term.ensures.step)

pub loop-next-smaller-else-is_some : goal.loop-next-smaller-else-is_some
loop-next-smaller-else-is_some g c =
    let S : Stands c.args.self.now.rules c.args.at = c.requires.there in
    let ms : List Node = nodes_at c.args.self.now.rules c.args.rule in
    let ns : List Node = nodes_at c.args.self.now.rules S.rule in
    let I : (V : Walk ms ns S.place (Some c.in-Some.node) c.loop-next.here c.loop-next.found) × (c.loop-next.steps ≤ c.args.steps.now + 4 * V.passed) =
    subst (λ (o : Option Key). (V : Walk ms ns S.place o c.loop-next.here c.loop-next.found) × (c.loop-next.steps ≤ c.args.steps.now + 4 * V.passed)) c.in-Some.is (c.loop-next.invariant S) in
    let b = c.label-label.ensures.node c.args.rule I.0.passed I.0.at in
    let m : Node = record { key = c.in-Some.node; label = c.label-label.result; kids = b.0 } in
    let w = inside ns S.place c.args.at S.there in
    omega (arith, I.1, few-passed ms ns S.place c.in-Some.node c.loop-next.here c.loop-next.found I.0 (omega (arith, w)) m b.1, c.label-label.ensures.step, c.next_in_preorder-next.ensures.step)

pub loop-next-preserved-then-is_some : goal.loop-next-preserved-then-is_some
loop-next-preserved-then-is_some g c = λ S0.
    let S : Stands c.args.self.now.rules c.args.at = S0 in
    let ms : List Node = nodes_at c.args.self.now.rules c.args.rule in
    let ns : List Node = nodes_at c.args.self.now.rules S.rule in
    let I : (V : Walk ms ns S.place (Some c.in-Some.node) c.loop-next.here c.loop-next.found) × (c.loop-next.steps ≤ c.args.steps.now + 4 * V.passed) =
    subst (λ (o : Option Key). (V : Walk ms ns S.place o c.loop-next.here c.loop-next.found) × (c.loop-next.steps ≤ c.args.steps.now + 4 * V.passed)) c.in-Some.is (c.loop-next.invariant S) in
    let b = c.label-label.ensures.node c.args.rule I.0.passed I.0.at in
    let m : Node = record { key = c.in-Some.node; label = c.label-label.result; kids = b.0 } in
    let w = inside ns S.place c.args.at S.there in
    let z : c.label-label.result ≡ Param = label-sound c.label-label.result Param (sym c.eq.ensures ∙ c.if-eq.true) in
    let ranks : List ℕ = ranks_of (rules_of c.args.self.now.rules) in
    let leaf : m.kids ≡ 0 = kids-are ranks ms I.0.passed m (c.limit-limit.ensures.keyed.arities c.args.rule) b.1 ∙ ap (arity ranks) z in
    let V = walk-takes ms ns S.place c.in-Some.node c.loop-next.here c.loop-next.found I.0 (omega (arith, w)) m b.1 c.next_in_preorder-next.result c.next_past_term.result c.unwrap_or-here.result c.push.new.self
    c.unwrap_or-here.ensures c.push.ensures (ap hole z) leaf (c.next_in_preorder-next.ensures.next c.args.rule I.0.passed I.0.at)
    (c.next_past_term.ensures.next S.rule (S.place + I.0.size) (stands-here ms ns S.place c.in-Some.node c.loop-next.here c.loop-next.found I.0 (omega (arith, w)) m b.1)) in
    (V.0, omega (arith, V.1, I.1, c.label-label.ensures.step, c.next_in_preorder-next.ensures.step, c.next_past_term.ensures.step))

pub loop-next-preserved-else-is_some : goal.loop-next-preserved-else-is_some
loop-next-preserved-else-is_some g c = λ S0.
    let S : Stands c.args.self.now.rules c.args.at = S0 in
    let ms : List Node = nodes_at c.args.self.now.rules c.args.rule in
    let ns : List Node = nodes_at c.args.self.now.rules S.rule in
    let I : (V : Walk ms ns S.place (Some c.in-Some.node) c.loop-next.here c.loop-next.found) × (c.loop-next.steps ≤ c.args.steps.now + 4 * V.passed) =
    subst (λ (o : Option Key). (V : Walk ms ns S.place o c.loop-next.here c.loop-next.found) × (c.loop-next.steps ≤ c.args.steps.now + 4 * V.passed)) c.in-Some.is (c.loop-next.invariant S) in
    let b = c.label-label.ensures.node c.args.rule I.0.passed I.0.at in
    let m : Node = record { key = c.in-Some.node; label = c.label-label.result; kids = b.0 } in
    let w = inside ns S.place c.args.at S.there in
    let z : c.label-label.result ≡ Param = label-sound c.label-label.result Param (sym c.eq.ensures ∙ c.if-eq.true) in
    let ranks : List ℕ = ranks_of (rules_of c.args.self.now.rules) in
    let leaf : m.kids ≡ 0 = kids-are ranks ms I.0.passed m (c.limit-limit.ensures.keyed.arities c.args.rule) b.1 ∙ ap (arity ranks) z in
    let V = walk-takes ms ns S.place c.in-Some.node c.loop-next.here c.loop-next.found I.0 (omega (arith, w)) m b.1 c.next_in_preorder-next.result (key_in ns ((S.place + I.0.size) + length (subterm kids_of ns (S.place + I.0.size)))) _ c.push.new.self
    refl c.push.ensures (ap hole z) leaf (c.next_in_preorder-next.ensures.next c.args.rule I.0.passed I.0.at) refl in
    let R = walk-rests ms ns S.place c.next_in_preorder-next.result _ c.loop-next.here c.push.new.self (is-none c.next_in_preorder-next.result (sym c.is_some.ensures ∙ c.if-is_some.false)) V.0 in
    (R.0, omega (arith, R.1, V.1, I.1, c.label-label.ensures.step, c.next_in_preorder-next.ensures.step))

pub label-requires : goal.label-requires
label-requires g c =
    let S : Stands c.args.self.now.rules c.args.at = c.requires.there in
    let ms : List Node = nodes_at c.args.self.now.rules c.args.rule in
    let ns : List Node = nodes_at c.args.self.now.rules S.rule in
    let I : (V : Walk ms ns S.place (Some c.in-Some.node) c.loop-next.here c.loop-next.found) × (c.loop-next.steps ≤ c.args.steps.now + 4 * V.passed) =
    subst (λ (o : Option Key). (V : Walk ms ns S.place o c.loop-next.here c.loop-next.found) × (c.loop-next.steps ≤ c.args.steps.now + 4 * V.passed)) c.in-Some.is (c.loop-next.invariant S) in
    let b = c.label-label.ensures.node c.args.rule I.0.passed I.0.at in
    let m : Node = record { key = c.in-Some.node; label = c.label-label.result; kids = b.0 } in
    let w = inside ns S.place c.args.at S.there in
    (S.rule, S.place + I.0.size, stands-here ms ns S.place c.in-Some.node c.loop-next.here c.loop-next.found I.0 (omega (arith, w)) m b.1)

pub returns-then-ne-clause-no : goal.returns-then-ne-clause-no
returns-then-ne-clause-no g c = λ no S0 ks N.
    let S : Stands c.args.self.now.rules c.args.at = S0 in
    let ms : List Node = nodes_at c.args.self.now.rules c.args.rule in
    let ns : List Node = nodes_at c.args.self.now.rules S.rule in
    let I : (V : Walk ms ns S.place (Some c.in-Some.node) c.loop-next.here c.loop-next.found) × (c.loop-next.steps ≤ c.args.steps.now + 4 * V.passed) =
    subst (λ (o : Option Key). (V : Walk ms ns S.place o c.loop-next.here c.loop-next.found) × (c.loop-next.steps ≤ c.args.steps.now + 4 * V.passed)) c.in-Some.is (c.loop-next.invariant S) in
    let b = c.label-label.ensures.node c.args.rule I.0.passed I.0.at in
    let m : Node = record { key = c.in-Some.node; label = c.label-label.result; kids = b.0 } in
    let w = inside ns S.place c.args.at S.there in
    let real : c.label-label.result ≢ Param = λ q. let x = label-same c.label-label.result Param q in let y : true ≡ false = sym x ∙ sym c.eq.ensures ∙ c.if-eq.false in cc in
    let d = c.label.ensures.node S.rule (S.place + I.0.size) (stands-here ms ns S.place c.in-Some.node c.loop-next.here c.loop-next.found I.0 (omega (arith, w)) m b.1) in
    let n : Node = record { key = c.loop-next.here; label = c.label.result; kids = d.0 } in
    walk-misses ms ns S.place c.in-Some.node c.loop-next.here c.loop-next.found I.0 (omega (arith, w)) m b.1 n d.1 (hole-other c.label-label.result real)
    (λ q. told-other c.ne.result _ c.ne.ensures c.if-ne.true (label-same c.label.result c.label-label.result q)) ks N

pub returns-then-ne-clause-steps : goal.returns-then-ne-clause-steps
returns-then-ne-clause-steps g c =
    let S : Stands c.args.self.now.rules c.args.at = c.requires.there in
    let ms : List Node = nodes_at c.args.self.now.rules c.args.rule in
    let ns : List Node = nodes_at c.args.self.now.rules S.rule in
    let I : (V : Walk ms ns S.place (Some c.in-Some.node) c.loop-next.here c.loop-next.found) × (c.loop-next.steps ≤ c.args.steps.now + 4 * V.passed) =
    subst (λ (o : Option Key). (V : Walk ms ns S.place o c.loop-next.here c.loop-next.found) × (c.loop-next.steps ≤ c.args.steps.now + 4 * V.passed)) c.in-Some.is (c.loop-next.invariant S) in
    let b = c.label-label.ensures.node c.args.rule I.0.passed I.0.at in
    let m : Node = record { key = c.in-Some.node; label = c.label-label.result; kids = b.0 } in
    let w = inside ns S.place c.args.at S.there in
    omega (arith, I.1, few-passed ms ns S.place c.in-Some.node c.loop-next.here c.loop-next.found I.0 (omega (arith, w)) m b.1, c.label-label.ensures.step, c.next_in_preorder-next.ensures.step, c.label.ensures.step)

pub next_in_preorder-requires : goal.next_in_preorder-requires
next_in_preorder-requires g c =
    let S : Stands c.args.self.now.rules c.args.at = c.requires.there in
    let ms : List Node = nodes_at c.args.self.now.rules c.args.rule in
    let ns : List Node = nodes_at c.args.self.now.rules S.rule in
    let I : (V : Walk ms ns S.place (Some c.in-Some.node) c.loop-next.here c.loop-next.found) × (c.loop-next.steps ≤ c.args.steps.now + 4 * V.passed) =
    subst (λ (o : Option Key). (V : Walk ms ns S.place o c.loop-next.here c.loop-next.found) × (c.loop-next.steps ≤ c.args.steps.now + 4 * V.passed)) c.in-Some.is (c.loop-next.invariant S) in
    let b = c.label-label.ensures.node c.args.rule I.0.passed I.0.at in
    let m : Node = record { key = c.in-Some.node; label = c.label-label.result; kids = b.0 } in
    let w = inside ns S.place c.args.at S.there in
    (S.rule, S.place + I.0.size, stands-here ms ns S.place c.in-Some.node c.loop-next.here c.loop-next.found I.0 (omega (arith, w)) m b.1)

pub loop-next-smaller-then-is_some-2 : goal.loop-next-smaller-then-is_some-2
loop-next-smaller-then-is_some-2 g c =
    let S : Stands c.args.self.now.rules c.args.at = c.requires.there in
    let ms : List Node = nodes_at c.args.self.now.rules c.args.rule in
    let ns : List Node = nodes_at c.args.self.now.rules S.rule in
    let I : (V : Walk ms ns S.place (Some c.in-Some.node) c.loop-next.here c.loop-next.found) × (c.loop-next.steps ≤ c.args.steps.now + 4 * V.passed) =
    subst (λ (o : Option Key). (V : Walk ms ns S.place o c.loop-next.here c.loop-next.found) × (c.loop-next.steps ≤ c.args.steps.now + 4 * V.passed)) c.in-Some.is (c.loop-next.invariant S) in
    let b = c.label-label.ensures.node c.args.rule I.0.passed I.0.at in
    let m : Node = record { key = c.in-Some.node; label = c.label-label.result; kids = b.0 } in
    let w = inside ns S.place c.args.at S.there in
    omega (arith, I.1, few-passed ms ns S.place c.in-Some.node c.loop-next.here c.loop-next.found I.0 (omega (arith, w)) m b.1, c.label-label.ensures.step, c.next_in_preorder-next.ensures.step, c.label.ensures.step, c.next_in_preorder.ensures.step)

pub loop-next-smaller : goal.loop-next-smaller
loop-next-smaller g c =
    let S : Stands c.args.self.now.rules c.args.at = c.requires.there in
    let ms : List Node = nodes_at c.args.self.now.rules c.args.rule in
    let ns : List Node = nodes_at c.args.self.now.rules S.rule in
    let I : (V : Walk ms ns S.place (Some c.in-Some.node) c.loop-next.here c.loop-next.found) × (c.loop-next.steps ≤ c.args.steps.now + 4 * V.passed) =
    subst (λ (o : Option Key). (V : Walk ms ns S.place o c.loop-next.here c.loop-next.found) × (c.loop-next.steps ≤ c.args.steps.now + 4 * V.passed)) c.in-Some.is (c.loop-next.invariant S) in
    let b = c.label-label.ensures.node c.args.rule I.0.passed I.0.at in
    let m : Node = record { key = c.in-Some.node; label = c.label-label.result; kids = b.0 } in
    let w = inside ns S.place c.args.at S.there in
    omega (arith, I.1, few-passed ms ns S.place c.in-Some.node c.loop-next.here c.loop-next.found I.0 (omega (arith, w)) m b.1, c.label-label.ensures.step, c.next_in_preorder-next.ensures.step, c.label.ensures.step)

pub loop-next-preserved-then-is_some-2 : goal.loop-next-preserved-then-is_some-2
loop-next-preserved-then-is_some-2 g c = λ S0.
    let S : Stands c.args.self.now.rules c.args.at = S0 in
    let ms : List Node = nodes_at c.args.self.now.rules c.args.rule in
    let ns : List Node = nodes_at c.args.self.now.rules S.rule in
    let I : (V : Walk ms ns S.place (Some c.in-Some.node) c.loop-next.here c.loop-next.found) × (c.loop-next.steps ≤ c.args.steps.now + 4 * V.passed) =
    subst (λ (o : Option Key). (V : Walk ms ns S.place o c.loop-next.here c.loop-next.found) × (c.loop-next.steps ≤ c.args.steps.now + 4 * V.passed)) c.in-Some.is (c.loop-next.invariant S) in
    let b = c.label-label.ensures.node c.args.rule I.0.passed I.0.at in
    let m : Node = record { key = c.in-Some.node; label = c.label-label.result; kids = b.0 } in
    let w = inside ns S.place c.args.at S.there in
    let real : c.label-label.result ≢ Param = λ q. let x = label-same c.label-label.result Param q in let y : true ≡ false = sym x ∙ sym c.eq.ensures ∙ c.if-eq.false in cc in
    let h = stands-here ms ns S.place c.in-Some.node c.loop-next.here c.loop-next.found I.0 (omega (arith, w)) m b.1 in
    let d = c.label.ensures.node S.rule (S.place + I.0.size) h in
    let n : Node = record { key = c.loop-next.here; label = c.label.result; kids = d.0 } in
    let same : c.label.result ≡ c.label-label.result = label-sound c.label.result c.label-label.result (told-same c.ne.result _ c.ne.ensures c.if-ne.false) in
    let ranks : List ℕ = ranks_of (rules_of c.args.self.now.rules) in
    let K = c.limit-limit.ensures.keyed in
    let kids : n.kids ≡ m.kids = kids-are ranks ns (S.place + I.0.size) n (K.arities S.rule) d.1 ∙ ap (arity ranks) same ∙ sym (kids-are ranks ms I.0.passed m (K.arities c.args.rule) b.1) in
    let V = walk-passes ms ns S.place c.in-Some.node c.loop-next.here c.loop-next.found I.0 (omega (arith, w)) m b.1 n d.1 c.next_in_preorder-next.result c.next_in_preorder.result c.unwrap_or-here-then-is_some-2.result
    c.unwrap_or-here-then-is_some-2.ensures (hole-other c.label-label.result real) same kids (c.next_in_preorder-next.ensures.next c.args.rule I.0.passed I.0.at) (c.next_in_preorder.ensures.next S.rule (S.place + I.0.size) h) in
    (V.0, omega (arith, V.1, I.1, c.label-label.ensures.step, c.next_in_preorder-next.ensures.step, c.label.ensures.step, c.next_in_preorder.ensures.step))

pub loop-next-preserved : goal.loop-next-preserved
loop-next-preserved g c = λ S0.
    let S : Stands c.args.self.now.rules c.args.at = S0 in
    let ms : List Node = nodes_at c.args.self.now.rules c.args.rule in
    let ns : List Node = nodes_at c.args.self.now.rules S.rule in
    let I : (V : Walk ms ns S.place (Some c.in-Some.node) c.loop-next.here c.loop-next.found) × (c.loop-next.steps ≤ c.args.steps.now + 4 * V.passed) =
    subst (λ (o : Option Key). (V : Walk ms ns S.place o c.loop-next.here c.loop-next.found) × (c.loop-next.steps ≤ c.args.steps.now + 4 * V.passed)) c.in-Some.is (c.loop-next.invariant S) in
    let b = c.label-label.ensures.node c.args.rule I.0.passed I.0.at in
    let m : Node = record { key = c.in-Some.node; label = c.label-label.result; kids = b.0 } in
    let w = inside ns S.place c.args.at S.there in
    let real : c.label-label.result ≢ Param = λ q. let x = label-same c.label-label.result Param q in let y : true ≡ false = sym x ∙ sym c.eq.ensures ∙ c.if-eq.false in cc in
    let h = stands-here ms ns S.place c.in-Some.node c.loop-next.here c.loop-next.found I.0 (omega (arith, w)) m b.1 in
    let d = c.label.ensures.node S.rule (S.place + I.0.size) h in
    let n : Node = record { key = c.loop-next.here; label = c.label.result; kids = d.0 } in
    let same : c.label.result ≡ c.label-label.result = label-sound c.label.result c.label-label.result (told-same c.ne.result _ c.ne.ensures c.if-ne.false) in
    let ranks : List ℕ = ranks_of (rules_of c.args.self.now.rules) in
    let K = c.limit-limit.ensures.keyed in
    let kids : n.kids ≡ m.kids = kids-are ranks ns (S.place + I.0.size) n (K.arities S.rule) d.1 ∙ ap (arity ranks) same ∙ sym (kids-are ranks ms I.0.passed m (K.arities c.args.rule) b.1) in
    let V = walk-passes ms ns S.place c.in-Some.node c.loop-next.here c.loop-next.found I.0 (omega (arith, w)) m b.1 n d.1 c.next_in_preorder-next.result (key_in ns ((S.place + I.0.size) + 1)) _
    refl (hole-other c.label-label.result real) same kids (c.next_in_preorder-next.ensures.next c.args.rule I.0.passed I.0.at) refl in
    let R = walk-rests ms ns S.place c.next_in_preorder-next.result _ c.loop-next.here c.loop-next.found (is-none c.next_in_preorder-next.result (sym c.is_some-in-Some.ensures ∙ c.if-is_some-2.false)) V.0 in
    (R.0, omega (arith, R.1, V.1, I.1, c.label-label.ensures.step, c.next_in_preorder-next.ensures.step, c.label.ensures.step))

none : (o : Option Key) → ((k : Key) → o ≡ Some k → ⊥) → o ≡ None
none None h = refl
none (Some k) h = absurd (h k refl)

pub returns-clause-yes : goal.returns-clause-yes
returns-clause-yes g c = λ yes S.
    let ms : List Node = nodes_at c.args.self.now.rules c.args.rule in
    let ns : List Node = nodes_at c.args.self.now.rules S.rule in
    walk-ends ms ns S.place c.loop-next.here c.loop-next.found
    (subst (λ (o : Option Key). Walk ms ns S.place o c.loop-next.here c.loop-next.found) (none c.loop-next.next c.in_default.not-Some) (c.loop-next.invariant S).0)

pub returns-clause-steps : goal.returns-clause-steps
returns-clause-steps g c =
    let I = c.loop-next.invariant c.requires.there in
    omega (arith, I.1, I.0.few)
