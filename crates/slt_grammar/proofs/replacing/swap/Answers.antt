use Rattle.std.proofs.Common.{◌≡◌, ◌∙◌, ◌<◌, ◌↔◌, Bool, ℕ, Some, IsTrue, List, ap, sym, subst, refl, slice_get, true, false, arith}
use Rattle.rule_arena.specs.Preorder.{with_subterm}
use Rattle.rule_arena.specs.Terms.{Node, Apart, kids_of, term_at}
use Rattle.rule_arena.specs.declared.key.Key.{Key}
use Rattle.rule_arena.proofs.CellLemmas.{some_of}
use Rattle.slt_grammar.specs.Holding.{Changed}
use Rattle.slt_grammar.proofs.Replacements.{held-inner, bodies-inner, held-root, bodies-root, root-is, subterm-first, inner-apart, root-apart, new-apart}
use Rattle.slt_grammar.proofs.replacing.swap.Goals as goal

at-root : (b : Bool) (p : ℕ) → (IsTrue b ↔ (p ≡ 0)) → b ≡ true → p ≡ 0
at-root b p r e = r.0 (subst (λ (x : Bool). IsTrue x) (sym e) refl)

inside : (b : Bool) (p : ℕ) → (IsTrue b ↔ (p ≡ 0)) → b ≡ false → 0 < p
inside true p r e = absurd (cc)
inside false p r e = pos p (λ z. let t : IsTrue false = r.1 z in absurd (cc))
  where
    pos : (p : ℕ) → (p ≡ 0 → ⊥) → 0 < p
    pos p d = omega arith

pub exchange-requires : goal.exchange-requires
exchange-requires c =
    let t = c.requires.there in
    let z = at-root c.args.is_root t.2.place (c.requires.root t.2) c.if-is_root.true in
    record { there = (t.0, t.3 ∙ ap (λ (k : Key). Some k) (sym (root-is c.args.arena.now c.args.at t.1 c.limit-limit.ensures.sound t.2 t.4 z))) }

pub returns-then-is_root-clause-changed : goal.returns-then-is_root-clause-changed
returns-then-is_root-clause-changed c = λ i k x ms e f s.
    let z = at-root c.args.is_root x.place (c.requires.root x) c.if-is_root.true in
    let r = root-is c.args.arena.now c.args.at k c.limit-limit.ensures.sound x f z in
    let g = c.exchange.ensures i c.requires.held.distinct (e ∙ ap (λ (k : Key). Some k) (sym r)) in
    subst (λ (ks : List Key). Changed c.args.arena.now c.args.arena.now c.args.roots.now ks i (with_subterm kids_of x.nodes x.place ms)) (sym g)
    (record {
      held = held-root c.args.arena.now c.args.arena.now c.args.roots.now c.args.at c.args.new c.requires.held c.limit-limit.ensures.sound c.requires.apart i k x ms e f s z (λ r d. refl);
      bodies = bodies-root c.args.arena.now c.args.arena.now c.args.roots.now c.args.at c.args.new c.requires.held c.limit-limit.ensures.sound c.requires.apart i k x ms e f s z (λ r d. refl);
    })

pub returns-then-is_root-clause-out : goal.returns-then-is_root-clause-out
returns-then-is_root-clause-out c = λ i k x e f.
    let z = at-root c.args.is_root x.place (c.requires.root x) c.if-is_root.true in
    let r = root-is c.args.arena.now c.args.at k c.limit-limit.ensures.sound x f z in
    ap (λ (m : ℕ). term_at c.args.arena.now m) (ap (λ (q : Key). q.number) r ∙ sym f) ∙ x.stands
    ∙ ap (λ (ns : List Node). Some ns) (sym (subterm-first x.nodes x.place (c.limit-limit.ensures.sound.term x.root x.nodes x.stands) z))

pub returns-then-is_root-clause-apart : goal.returns-then-is_root-clause-apart
returns-then-is_root-clause-apart c =
    let t = c.requires.there in
    let z = at-root c.args.is_root t.2.place (c.requires.root t.2) c.if-is_root.true in
    let r = root-is c.args.arena.now c.args.at t.1 c.limit-limit.ensures.sound t.2 t.4 z in
    let here : slice_get c.args.roots.now t.0 ≡ Some c.args.at = t.3 ∙ ap (λ (k : Key). Some k) (sym r) in
    let g = c.exchange.ensures t.0 c.requires.held.distinct here in
    let m = some_of (term_at c.args.arena.now c.args.new.number) c.requires.new in
    let n = new-apart c.args.arena.now c.args.arena.now c.args.roots.now c.args.at c.args.new c.requires.held c.limit-limit.ensures.sound c.requires.apart t.0 t.1 t.2 m.0 t.3 t.4 m.1 z (λ r d. refl) in
    subst (λ (ks : List Key). Apart ks c.args.at.number) (sym g) (root-apart c.args.arena.now c.args.roots.now c.args.at c.args.new t.0 c.requires.held here n)

pub splice-requires-clause-inner : goal.splice-requires-clause-inner
splice-requires-clause-inner c =
    let t = c.requires.there in
    (t.2, (inside c.args.is_root t.2.place (c.requires.root t.2) c.if-is_root.false, λ h. c.requires.apart t.0 t.1 t.3 (sym t.4 ∙ h)))

pub returns-clause-changed : goal.returns-clause-changed
returns-clause-changed c = λ i k x ms e f s. record {
  held = held-inner c.args.arena.now c.splice.new.self c.splice.new.self c.args.roots.now c.args.at c.args.new c.requires.held c.limit-limit.ensures.sound c.requires.apart i k x ms e f s
      (inside c.args.is_root x.place (c.requires.root x) c.if-is_root.false) (c.splice.ensures.moved x ms s) (c.splice.ensures.others x) (λ r d. refl);
  bodies = bodies-inner c.args.arena.now c.splice.new.self c.splice.new.self c.args.roots.now c.args.at c.args.new c.requires.held c.limit-limit.ensures.sound c.requires.apart i k x ms e f s
      (inside c.args.is_root x.place (c.requires.root x) c.if-is_root.false) (c.splice.ensures.moved x ms s) (c.splice.ensures.others x) (λ r d. refl);
}

pub returns-clause-out : goal.returns-clause-out
returns-clause-out c = λ i k x e f.
    c.splice.ensures.freed x

pub returns-clause-apart : goal.returns-clause-apart
returns-clause-apart c =
    let t = c.requires.there in
    inner-apart c.args.arena.now c.args.roots.now c.args.at c.requires.held c.limit-limit.ensures.sound t.2 (inside c.args.is_root t.2.place (c.requires.root t.2) c.if-is_root.false)
