use Rattle.std.proofs.Common.{◌≡◌, ◌-◌, ◌<◌, ◌∙◌, ◌⊎◌, inl, inr, ℕ, List, Some, set, length, get_or, refl, slice_get, sym, ap, arith}
use Rattle.std.proofs.lemmas.Bool.{eqb-true, eqb-false, cases_eq}
use Rattle.std.proofs.lemmas.Option.{slice_get_read, slice_get_within}
use Rattle.rule_arena.specs.declared.key.Key.{Key}
use Rattle.slt_grammar.proofs.Replacements.{keys_same}
use Rattle.slt_grammar.proofs.replacing.exchange.Goals as goal

pub loop-i-init : goal.loop-i-init
loop-i-init c = record { same = refl; before = λ j e. slice_get_within c.args.roots.now j c.args.from e }

here : (R S : List Key) (i : ℕ) (x : Key) → R ≡ S → i < length R → x ≡ get_or R i x → slice_get S i ≡ Some x
here R S i x e h f = ap (λ (ks : List Key). slice_get ks i) (sym e) ∙ slice_get_read R (length R) i x refl h f

pub returns-then-eq : goal.returns-then-eq
returns-then-eq c = λ j d e.
    let I = c.loop-i.invariant in
    let h : c.loop-i.i - 1 < length c.loop-i.roots = omega (arith, c.loop-i-test.true, c.loop-i.auto.i, ap length I.same) in
    let x : c.index-roots-i.result ≡ c.args.from = keys_same c.index-roots-i.result c.args.from (eqb-true c.index-roots-i.result.number c.args.from.number (sym c.eq.ensures ∙ c.if-eq.true)) in
    let s : slice_get c.args.roots.now (c.loop-i.i - 1) ≡ Some c.index-roots-i.result = here c.loop-i.roots c.args.roots.now (c.loop-i.i - 1) c.index-roots-i.result I.same h c.index-roots-i.is in
    let z : c.loop-i.i - 1 ≡ j = d (c.loop-i.i - 1) j c.index-roots-i.result c.args.from s e (ap (λ (k : Key). k.number) x) in
    ap (λ (ks : List Key). set ks (c.loop-i.i - 1) c.args.to) I.same ∙ ap (λ (p : ℕ). set c.args.roots.now p c.args.to) z

pub loop-i-preserved : goal.loop-i-preserved
loop-i-preserved c =
    let I = c.loop-i.invariant in record {
      same = I.same;
      before = λ j e. by j e (cases_eq j (c.loop-i.i - 1)) (I.before j e);
    }
  where
    by : (j : ℕ) → slice_get c.args.roots.now j ≡ Some c.args.from → (j ≡ c.loop-i.i - 1) ⊎ (j ≡ c.loop-i.i - 1 → ⊥) → j < c.loop-i.i → j < c.loop-i.i - 1
    by j e (inr d) l = omega arith
    by j e (inl z) l =
        let I = c.loop-i.invariant in
        let h : c.loop-i.i - 1 < length c.loop-i.roots = omega (arith, c.loop-i-test.true, c.loop-i.auto.i, ap length I.same) in
        let s : slice_get c.args.roots.now (c.loop-i.i - 1) ≡ Some c.index-roots-i.result = here c.loop-i.roots c.args.roots.now (c.loop-i.i - 1) c.index-roots-i.result I.same h c.index-roots-i.is in
        let t : slice_get c.args.roots.now (c.loop-i.i - 1) ≡ Some c.args.from = ap (λ (p : ℕ). slice_get c.args.roots.now p) (sym z) ∙ e in
        absurd (eqb-false c.index-roots-i.result.number c.args.from.number (sym c.eq.ensures ∙ c.if-eq.false) (let q : c.index-roots-i.result ≡ c.args.from = cc in ap (λ (k : Key). k.number) q))

pub returns : goal.returns
returns c = λ j d e. let I = c.loop-i.invariant in absurd (omega (arith, I.before j e, c.loop-i-test.false))
